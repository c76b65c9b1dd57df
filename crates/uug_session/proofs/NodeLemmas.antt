-- What a node shows and takes up.
use Rattle.std.proofs.Common.{◌≡◌, ℕ, Bool, false, List, [], ◌++◌, Option, ◌-◌, ◌≤◌, min, take, length, sym, subst, ap, ◌∙◌, refl, arith}
use Rattle.std.proofs.lemmas.List.{take_all}
use Rattle.uug_link.specs.State.{State}
use Rattle.uug_packet.specs.declared.packet.Packet.{Packet}
use Rattle.uug_packet.specs.Packet.{PacketValue, shown}
use Rattle.uug_reader.specs.declared.reader.TheConstants.{READER_SIZE}
use Rattle.uug_reader.specs.declared.found.Found.{Found}
use Rattle.uug_reader.specs.declared.found.Found.TheVariants as founds
use Rattle.uug_reader.specs.Reading.{Reading, Shows}
use Rattle.uug_reader.specs.Shown.{item_of}
use Rattle.uug_session.specs.declared.greeting.Greeted.{Greeted}
use Rattle.uug_session.specs.declared.greeting.Greeted.TheVariants.{GoesOn, LinkBegins, Ended}
use Rattle.uug_session.specs.declared.greeting.Greeting.{Greeting}
use Rattle.uug_session.specs.EndStep.{Stage, hailing, linked, EndEffect, EndState, Emitted, EndEvent, Identity, begins_link, behind_greeting, greeted_so, packet_found_whole, stage_step, text_found}
use Rattle.uug_session.specs.Engine.{Does, EngineState, TakesUp, bare, end_of}
use Rattle.uug_session.specs.Greeting.{number_by, text_came}
use Rattle.uug_conversation.specs.Holdings.{Kept, Holdings}
use Rattle.uug_session.specs.Node.{NodeState, ShowsItem, TakesItem, IsLeft, text_item, packet_item, bad_item, effect_of}
use Rattle.uug_conversation.specs.DialogueState.{DialogueState, end_keeper}
use Rattle.uug_conversation.specs.DialogueValue.{DialogueValue, dialogue_of}
use Rattle.uug_session.specs.TextsHeld.{TextsHeld, ShowsText}
use Rattle.uug_conversation.specs.declared.side.Side.{Side}
use Rattle.uug_conversation.specs.declared.side.Side.TheVariants.{Caller, Called}

pub shows_bad : (stage : Stage) (texts : TextsHeld) (packets : Reading) (f : Found) → linked ≡ stage → f ≡ founds.Bad
    → Shows (item_of f) packets → ShowsItem stage texts packets bad_item
shows_bad stage texts packets f at is shows =
    subst (λ (x : Stage). ShowsItem x texts packets bad_item) at (subst (λ (x : Found). Shows (item_of x) packets) is shows)

-- ---- steps beside a spool

beside : Holdings → List Kept → EndState DialogueValue → EndState DialogueState
beside h kept e = record { stage = e.stage; link = e.link; keeper = dialogue_of h kept e.keeper; number = e.number }

begun_beside : (number : Option ℕ) (h : Holdings) (kept : List Kept) (side : Side) (said : List Emitted) (s : State) (e after : EngineState)
    → Does (begins_link number side s e.dialogue said) (bare after) e after
    → Does (begins_link number side s (dialogue_of h kept e.dialogue) said) (end_of h kept after) e after
unfolding beside
begun_beside number h kept Caller said s e after does =
    record { end = ap (beside h kept) does.end; emitted = does.emitted; identity = does.identity; own = does.own }
begun_beside number h kept Called said s e after does =
    record { end = ap (beside h kept) does.end; emitted = does.emitted; identity = does.identity; own = does.own }

pub greeted_beside : (number : Option ℕ) (h : Holdings) (kept : List Kept) (id : Identity) (greeted : Greeted) (said : List Emitted) (s : State) (e after : EngineState)
    → Does (greeted_so number id greeted said s e.dialogue) (bare after) e after
    → Does (greeted_so number id greeted said s (dialogue_of h kept e.dialogue)) (end_of h kept after) e after
unfolding beside
greeted_beside number h kept id (GoesOn g) said s e after does =
    record { end = ap (beside h kept) does.end; emitted = does.emitted; identity = does.identity; own = does.own }
greeted_beside number h kept id LinkBegins said s e after does = begun_beside number h kept id.side said s e after does
greeted_beside number h kept id (Ended how) said s e after does =
    record { end = ap (beside h kept) does.end; emitted = does.emitted; identity = does.identity; own = does.own }

begun_takes_nothing : (number : Option ℕ) (side : Side) (said : List Emitted) (s : State) (talk : DialogueState) → false ≡ (begins_link number side s talk said).took
begun_takes_nothing number Caller said s talk = refl
begun_takes_nothing number Called said s talk = refl

greeted_takes_nothing : (number : Option ℕ) (id : Identity) (greeted : Greeted) (said : List Emitted) (s : State) (talk : DialogueState)
    → false ≡ (greeted_so number id greeted said s talk).took
greeted_takes_nothing number id (GoesOn g) said s talk = refl
greeted_takes_nothing number id LinkBegins said s talk = begun_takes_nothing number id.side said s talk
greeted_takes_nothing number id (Ended how) said s talk = refl

-- ---- items

at_stage : (h : Holdings) (kept : List Kept) (event : EndEvent) (e : EngineState) (stage : Stage) → e.stage ≡ stage
    → effect_of h kept event e ≡ stage_step (end_keeper e.identity.side h) e.identity stage event (end_of h kept e)
at_stage h kept event e stage at = ap (λ (x : Stage). stage_step (end_keeper e.identity.side h) e.identity x event (end_of h kept e)) at

-- an effect that is known, of an item at which no device was asked
takes_quietly : (h : Holdings) (kept kept_after : List Kept) (before after : NodeState) (e : EndEffect DialogueState) (event : EndEvent) → effect_of h kept event before.engine ≡ e
    → Does e (end_of h kept_after after.engine) before.engine after.engine
    → Does (effect_of h kept event before.engine) (end_of h kept_after after.engine) before.engine after.engine
takes_quietly h kept kept_after before after e event is does =
    subst (λ (x : EndEffect DialogueState). Does x (end_of h kept_after after.engine) before.engine after.engine) (sym is) does

pub takes_text : (h : Holdings) (kept : List Kept) (counts : Bool → Type 0) (greeting : Greeting) (text : List ℕ) (before after : NodeState)
    → before.engine.stage ≡ hailing greeting → ShowsText text before.texts
    → Does (behind_greeting before.engine.number before.engine.identity (text_came before.engine.identity.me before.engine.identity.peer before.engine.number greeting text) before.engine.link before.engine.dialogue)
    (bare after.engine) before.engine after.engine
    → IsLeft (text_item text) before after → counts false
    → ShowsItem before.engine.stage before.texts before.packets (text_item text)
    × TakesItem h kept kept counts (text_item text) before after false
takes_text h kept counts greeting text before after at shows does left stands =
    let id = before.engine.identity in
    let step = text_came id.me id.peer before.engine.number greeting text in
    let number = number_by step.rises before.engine.number in
    let is = at_stage h kept (text_found text) before.engine (hailing greeting) at in
    let talk = dialogue_of h kept before.engine.dialogue in (
      subst (λ (x : Stage). ShowsItem x before.texts before.packets (text_item text)) (sym at) shows,
      record {
        device_failed = false;
        does = takes_quietly h kept kept before after _ (text_found text) is
            (greeted_beside number h kept id step.greeted _ before.engine.link before.engine after.engine does);
        answer = greeted_takes_nothing number id step.greeted _ before.engine.link talk ∙ sym (ap (λ (x : EndEffect DialogueState). x.took) is);
        device = stands;
        left = left;
      },
    )

pub takes_packet : (h : Holdings) (kept kept_after : List Kept) (counts : Bool → Type 0) (p : PacketValue) (before after : NodeState) (took : Bool)
    → before.engine.stage ≡ linked → ShowsItem linked before.texts before.packets (packet_item p)
    → TakesUp h kept kept_after counts p before.engine after.engine took
    → IsLeft (packet_item p) before after
    → ShowsItem before.engine.stage before.texts before.packets (packet_item p)
    × TakesItem h kept kept_after counts (packet_item p) before after took
takes_packet h kept kept_after counts p before after took at shows taken_up left =
    let is = at_stage h kept (packet_found_whole taken_up.device_failed p) before.engine linked at in (
      subst (λ (x : Stage). ShowsItem x before.texts before.packets (packet_item p)) (sym at) shows,
      record {
        device_failed = taken_up.device_failed;
        does = takes_quietly h kept kept_after before after _ (packet_found_whole taken_up.device_failed p) is taken_up.does;
        answer = taken_up.answer ∙ sym (ap (λ (x : EndEffect DialogueState). x.took) is);
        device = taken_up.device;
        left = left;
      },
    )

-- ---- the bytes behind an item

pub reading_is : (r : Reading) (bytes : List ℕ) (size : ℕ) → r.bytes ≡ bytes → r.shown_size ≡ size
    → r ≡ record { bytes = bytes; shown_size = size }
reading_is r bytes size b s =
    let of_bytes : List ℕ → Reading = λ x. record { bytes = x; shown_size = r.shown_size } in
    let of_size : ℕ → Reading = λ x. record { bytes = bytes; shown_size = x } in
    ap of_bytes b ∙ ap of_size s

pub texts_held_is : (t : TextsHeld) (bytes : List ℕ) (size : ℕ) → t.bytes ≡ bytes → t.shown_size ≡ size
    → t ≡ record { bytes = bytes; shown_size = size }
texts_held_is t bytes size b s =
    let of_bytes : List ℕ → TextsHeld = λ x. record { bytes = x; shown_size = t.shown_size } in
    let of_size : ℕ → TextsHeld = λ x. record { bytes = bytes; shown_size = x } in
    ap of_bytes b ∙ ap of_size s

-- a reader that holds nothing takes all of what fits it
pub all_pushed : (old new rest : List ℕ) (count : ℕ) → old ≡ [] → count ≡ min (READER_SIZE - length old) (length rest)
    → new ≡ old ++ take count rest → length rest ≤ READER_SIZE → new ≡ rest
all_pushed old new rest count empty counted pushed most =
    let none : length old ≡ 0 = ap length empty in
    let fits : length rest ≤ count = omega (arith, none, counted, most) in
    pushed ∙ ap (λ (x : List ℕ). x ++ take count rest) empty ∙ take_all count rest fits

pub shows_packet : (packets : Reading) (texts : TextsHeld) (f : Found) (p : Packet) → f ≡ founds.Packet p → Shows (item_of f) packets
    → ShowsItem linked texts packets (packet_item (shown p))
shows_packet packets texts f p is shows = subst (λ (x : Found). Shows (item_of x) packets) is shows

pub shows_packet_at : (stage : Stage) (texts : TextsHeld) (packets : Reading) (f : Found) (p : Packet) → linked ≡ stage → f ≡ founds.Packet p
    → Shows (item_of f) packets → ShowsItem stage texts packets (packet_item (shown p))
shows_packet_at stage texts packets f p at is shows =
    subst (λ (x : Stage). ShowsItem x texts packets (packet_item (shown p))) at (shows_packet packets texts f p is shows)
