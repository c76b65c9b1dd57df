-- What taking up an item comes to.
use Rattle.std.proofs.Common.{◌≡◌, ◌⊎◌, inl, inr, ℕ, ◌<◌, ◌≤◌, max, Bool, true, false, List, [], ◌++◌, map, length, drop, take, get_or, slice_get, Vec, Option, Some, ap, sym, subst, ◌∙◌, refl, arith}
use Rattle.std.proofs.lemmas.List.{append-nil, length-map}
use Rattle.std.proofs.lemmas.Option.{slice_get-map, slice_get_read, slice_get_within}
use Rattle.std.specs.Option.{option_map}
use Rattle.std.specs.Bool.{⊤}
use Rattle.uug_link.specs.InRange.{IsAnnouncement}
use Rattle.uug_link.specs.State.{State}
use Rattle.uug_packet.specs.Packet.{PacketValue}
use Rattle.uug_packet.specs.Spelling.{canonical}
use Rattle.uug_packet.specs.WellFormed.{IsWellFormed}
use Rattle.uug_reader.specs.Reading.{Reading}
use Rattle.uug_session.specs.Arriving.{Arrival, Buffered, all_taken, held_in, holds, stopped, takes_all, takes_if, takes_up}
use Rattle.uug_session.specs.declared.end.End.TheVariants as ends
use Rattle.uug_session.specs.declared.greeting.Greeting.{Greeting}
use Rattle.uug_session.specs.EndStep.{EndEffect, EndEvent, EndState, Identity, Stage, hailing, linked, ended, end_step, long_text_found, packet_found_whole, broken_found, stage_step}
use Rattle.uug_session.specs.Engine.{CountsFaults, Does, EngineState, end_of, faults_max}
use Rattle.uug_session.specs.Finding.{Finding, LeavesFewer, finding}
use Rattle.uug_conversation.specs.Holdings.{Holdings, Kept}
use Rattle.uug_session.specs.InRange.{IsEndInRange, MayFind}
use Rattle.uug_conversation.specs.Keeper.{Keeper}
use Rattle.uug_conversation.specs.MemoryHoldings.{MemoryHoldings, holdings_of}
use Rattle.uug_session.specs.Node.{ItemValue, IsLeft, NodeState, ShowsItem, TakesItem, bad_item, bytes_at, effect_of, event_of, held_bytes, item_size, packet_item, searched, shown_size_at, text_item}
use Rattle.uug_session.specs.ShownItems.{ItemFound, NothingFound, finding_of, is_too_long, waits}
use Rattle.uug_conversation.specs.DialogueState.{DialogueState}
use Rattle.uug_session.specs.TextsHeld.{TextsHeld}
use Rattle.uug_line.specs.declared.sighting.Sighting.TheVariants.{Other, At, Unsent}
use Rattle.uug_line.specs.JournalValue.{JournalValue, log_of, packet_in, packet_noted}
use Rattle.uug_line.specs.LineEndState.{LineEndState, JournalState, after_call, took}
use Rattle.uug_line.specs.LineEndValue.{AreWritten, HasRoom, IsOrdered, IsStopped, IsTakenUp, LineEndValue, TakesAll, TakesOne, hearer_of, line_end_of, player_of, standing_of, state_of, taker_of}
use Rattle.uug_line.specs.Shown.{lists_in}
use Rattle.uug_line.specs.Code.Sightings.{Sights, SightsShown, StandsAt, StandsNowhere}
use Rattle.uug_line.specs.Taking.{takes_sent}
use Rattle.uug_line.proofs.FoundLemmas.{held_fewer}
use Rattle.uug_line.proofs.SpokenLemmas.{Calls, steps_so}
use Rattle.uug_line.proofs.TakenLemmas.{no_place_found, packet_logged, place_found}
use Rattle.uug_packet.proofs.WellFormedLemmas.{IsWellFormed-spelled}
use Rattle.uug_session.proofs.ShownItemLemmas.{item_found, one_item, nothing_found}
use Rattle.uug_session.proofs.InRangeLemmas.{end_stays}
use Rattle.uug_session.proofs.ArrivingLemmas.{found_fewer, takes_next}
use Rattle.uug_session.proofs.Greetings.BehindGreetingLemmas.{HasGreeted, linked_greeted}

-- ---- behind an item of the link no end hails

abbrev MayBeAt : ItemValue → Stage → Type 0
MayBeAt (text_item text) stage = ⊤
MayBeAt (packet_item p) stage = HasGreeted stage
MayBeAt bad_item stage = HasGreeted stage

item_on : (number : Option ℕ) (k : Keeper DialogueState) (id : Identity) (device_failed : Bool) (stage : Stage) (texts : TextsHeld) (packets : Reading) (item : ItemValue)
    (s : State) (c : DialogueState) → ShowsItem stage texts packets item
    → MayBeAt item (stage_step k id stage (event_of device_failed item) (record { stage = stage; link = s; keeper = c; number = number })).state.stage
item_on number k id device_failed stage texts packets (text_item text) s c shows = tt
item_on number k id device_failed linked texts packets (packet_item p) s c shows =
    linked_greeted k id (packet_found_whole device_failed p) (record { stage = linked; link = s; keeper = c; number = number }) tt
item_on number k id device_failed linked texts packets bad_item s c shows =
    linked_greeted k id broken_found (record { stage = linked; link = s; keeper = c; number = number }) tt
item_on number k id device_failed (hailing g) texts packets (packet_item p) s c shows = absurd shows
item_on number k id device_failed (hailing g) texts packets bad_item s c shows = absurd shows
item_on number k id device_failed (ended how) texts packets (packet_item p) s c shows = absurd shows
item_on number k id device_failed (ended how) texts packets bad_item s c shows = absurd shows

-- ---- the bytes behind it

text_left : (stage : Stage) (after : NodeState) (bytes : List ℕ)
    → after.texts ≡ record { bytes = bytes; shown_size = 0 } → after.packets ≡ record { bytes = bytes; shown_size = 0 }
    → bytes_at stage after ≡ held_in stage bytes
text_left (hailing g) after bytes texts packets = ap (λ (t : TextsHeld). t.bytes) texts
text_left linked after bytes texts packets = ap (λ (r : Reading). r.bytes) packets
text_left (ended how) after bytes texts packets = refl

item_left : (stage : Stage) (after : NodeState) (bytes : List ℕ) → HasGreeted stage
    → after.packets ≡ record { bytes = bytes; shown_size = 0 } → bytes_at stage after ≡ held_in stage bytes
item_left (hailing g) after bytes not packets = absurd not
item_left linked after bytes not packets = ap (λ (r : Reading). r.bytes) packets
item_left (ended how) after bytes not packets = refl

left_at : (at next : Stage) (texts : TextsHeld) (packets : Reading) (item : ItemValue) (before called after : NodeState)
    → before.texts ≡ texts → before.packets ≡ packets → ShowsItem at texts packets item → MayBeAt item next → IsLeft item before called
    → after.texts ≡ called.texts → after.packets ≡ called.packets
    → bytes_at next after ≡ held_in next (drop (shown_size_at at before) (bytes_at at before))
left_at (hailing g) next texts packets (text_item text) before called after t p shows may left a b =
    text_left next after (drop before.texts.shown_size before.texts.bytes) (a ∙ left.0) (b ∙ left.1)
left_at linked next texts packets (packet_item q) before called after t p shows may left a b =
    item_left next after (drop before.packets.shown_size before.packets.bytes) may (b ∙ left)
left_at linked next texts packets bad_item before called after t p shows may left a b =
    item_left next after (drop before.packets.shown_size before.packets.bytes) may (b ∙ left)
left_at linked next texts packets (text_item text) before called after t p shows may left a b = absurd shows
left_at (hailing g) next texts packets (packet_item q) before called after t p shows may left a b = absurd shows
left_at (hailing g) next texts packets bad_item before called after t p shows may left a b = absurd shows
left_at (ended how) next texts packets (text_item text) before called after t p shows may left a b = absurd shows
left_at (ended how) next texts packets (packet_item q) before called after t p shows may left a b = absurd shows
left_at (ended how) next texts packets bad_item before called after t p shows may left a b = absurd shows

-- ---- an item is taken up

abbrev pub sought : LineEndValue → LineEndValue
sought e = record e { node = searched e.node }

not_failed : (b : Bool) → CountsFaults faults_max 0 0 b → b ≡ false
not_failed false count = refl
not_failed true failed = never failed where
  never : (0 < 0) ⊎ (◌≡◌ {A = ℕ} 0 faults_max) → true ≡ false
  never (inl less) = absurd (omega (arith, less))
  never (inr same) = absurd (omega (arith, same))

may_find : (stage : Stage) (texts : TextsHeld) (packets : Reading) (item : ItemValue) → ShowsItem stage texts packets item
    → MayFind (event_of false item)
may_find stage texts packets (text_item text) shows = tt
may_find stage texts packets bad_item shows = tt
may_find linked texts packets (packet_item p) shows = IsWellFormed-spelled p (take packets.shown_size packets.bytes) shows.0.0
may_find (hailing g) texts packets (packet_item p) shows = absurd shows
may_find (ended how) texts packets (packet_item p) shows = absurd shows

pub ordered_with : (e : LineEndValue) (n : NodeState) → n.engine ≡ e.node.engine → IsOrdered e → IsOrdered (record e { node = n })
ordered_with e n same ordered = record {
  cleared = ap (λ (x : EngineState). x.outbox.entries) same ∙ ordered.cleared;
  in_range = subst (λ (x : EngineState). IsEndInRange x.identity.side (end_of (holdings_of e.spool) e.spool.stored x)) (sym same) ordered.in_range;
  own = subst (λ (x : EngineState). IsAnnouncement x.own) (sym same) ordered.own;
  written = ordered.written;
  most = subst (λ (x : EngineState). length x.link.unacked ≤ e.journal.most) (sym same) ordered.most;
}

abbrev effect_at : EndEvent → LineEndValue → EndEffect DialogueState
effect_at event e = end_step (player_of e).keeper (player_of e).identity event (state_of e)

-- the item was taken up, and this had been written down of it
record IsTaken (item : ItemValue) (behind : List ℕ) (log : JournalState) (old new : LineEndValue) : Type 0 where
  end : line_end_of new ≡ after_call log old.line (effect_at (event_of false item) old)
  held : held_bytes new.node ≡ held_in (effect_at (event_of false item) old).state.stage behind
  ordered : IsOrdered new
  standing : standing_of new ≡ standing_of old

of_item : (h : Holdings) (kept kept_after : List Kept) (counts : Bool → Type 0) (item other : ItemValue) (before after : NodeState) (took : Bool)
    → other ≡ item → TakesItem h kept kept_after counts other before after took → TakesItem h kept kept_after counts item before after took
of_item h kept kept_after counts item other before after took same takes =
    subst (λ (x : ItemValue). TakesItem h kept kept_after counts x before after took) same takes

item_taken : (old new : LineEndValue) (item : ItemValue) (found : Bool → JournalValue) → IsOrdered old
    → ShowsItem (searched old.node).engine.stage (searched old.node).texts (searched old.node).packets item
    → ((b : Bool) → (found b).packets ≡ old.journal.packets) → IsTakenUp found (sought old) new
    → IsTaken item (drop (item_size (searched old.node)) (held_bytes (searched old.node)))
    (log_of (found (effect_at (event_of false item) old).took)) old new
item_taken old new item found ordered shows keeps taken_up =
    let n = searched old.node in
    let h = holdings_of old.spool in
    let kept = old.spool.stored in
    let f : ItemFound item old.node n = item_found old.node item shows in
    let counts = CountsFaults faults_max 0 0 in
    let takes : TakesItem h kept taken_up.called.spool.stored counts item n taken_up.called.node taken_up.took =
    of_item h kept taken_up.called.spool.stored counts item taken_up.shown.0 n taken_up.called.node taken_up.took
    (one_item old.node taken_up.shown.0 item taken_up.shown.1 shows) taken_up.shown.2 in
    let well : takes.device_failed ≡ false = not_failed takes.device_failed takes.device in
    let of_failed : Bool → EndEffect DialogueState = λ b. effect_of h kept (event_of b item) n.engine in
    let effect = of_failed false in
    let of_holdings : Holdings → EndState DialogueState = λ x. end_of x taken_up.called.spool.stored taken_up.called.node.engine in
    let does_so : Does effect (state_of taken_up.called) n.engine taken_up.called.node.engine =
    subst (λ (x : EndState DialogueState). Does effect x n.engine taken_up.called.node.engine) (ap of_holdings (sym taken_up.holdings))
    (subst (λ (b : Bool). Does (of_failed b) (end_of h taken_up.called.spool.stored taken_up.called.node.engine) n.engine taken_up.called.node.engine) well takes.does) in
    let written : AreWritten taken_up.called.journal.packets =
    subst AreWritten (sym (keeps taken_up.took) ∙ ap (λ (j : JournalValue). j.packets) (sym taken_up.journal)) ordered.written in
    let calls : Calls effect (sought old) taken_up.called new =
    steps_so (event_of false item) (sought old) taken_up.called new (ordered_with old n f.engine ordered)
    (may_find n.engine.stage n.texts n.packets item shows) does_so taken_up.noted written taken_up.holdings in
    let of_engine : EngineState → EndEffect DialogueState = λ x. effect_of h kept (event_of false item) x in
    let same : effect ≡ effect_at (event_of false item) old = ap of_engine f.engine in
    let took_is : taken_up.took ≡ (effect_at (event_of false item) old).took =
    takes.answer ∙ ap (λ (b : Bool). (of_failed b).took) well ∙ ap (λ (x : EndEffect DialogueState). x.took) same in
    let stage : new.node.engine.stage ≡ effect.state.stage = ap (λ (x : LineEndState DialogueState). x.state.stage) calls.end in
    let by_journal : JournalValue → LineEndState DialogueState = λ j. after_call (log_of j) taken_up.called.line effect in
    let by_line : List ℕ → LineEndState DialogueState = λ x. after_call (log_of (found taken_up.took)) x effect in
    let by_took : Bool → LineEndState DialogueState = λ b. after_call (log_of (found b)) old.line effect in
    let by_effect : EndEffect DialogueState → LineEndState DialogueState = λ x. after_call (log_of (found (effect_at (event_of false item) old).took)) old.line x in
    let behind = drop (item_size n) (held_bytes n) in
    record {
      end = calls.end ∙ ap by_journal taken_up.journal ∙ ap by_line taken_up.line ∙ ap by_took took_is ∙ ap by_effect same;
      held = ap (λ (x : Stage). bytes_at x new.node) stage
          ∙ left_at n.engine.stage effect.state.stage n.texts n.packets item n taken_up.called.node new.node refl refl shows
          (item_on (state_of (sought old)).number (player_of (sought old)).keeper n.engine.identity false n.engine.stage n.texts n.packets item n.engine.link (state_of (sought old)).keeper shows)
          takes.left taken_up.noted.texts taken_up.noted.packets
          ∙ ap (λ (x : EndEffect DialogueState). held_in x.state.stage behind) same;
      ordered = calls.ordered;
      standing = calls.standing ∙ ap (λ (x : EngineState). standing_of (record old { node = record n { engine = x } })) f.engine;
    }

-- ---- one of them is the taker's step

holds_itself : (stage : Stage) (n : NodeState) → bytes_at stage n ≡ held_in stage (bytes_at stage n)
holds_itself (hailing g) n = refl
holds_itself linked n = refl
holds_itself (ended how) n = refl

behind_item : (item : ItemValue) (from behind bytes : List ℕ) → LeavesFewer (finding_of item from behind) bytes → length behind < length bytes
behind_item (text_item text) from behind bytes fewer = fewer
behind_item (packet_item p) from behind bytes fewer = fewer.1
behind_item bad_item from behind bytes fewer = fewer

-- so the receiver takes it
abbrev TakesIt : (others : List (List ℕ)) → ItemValue → (from behind : List ℕ) → JournalState → LineEndValue → Type 0
TakesIt others item from behind log old =
    let t = taker_of others old in
    takes_up (takes_all t) t (finding_of item from behind) (line_end_of old)
    ≡ takes_all t (holds t behind (after_call log old.line (effect_at (event_of false item) old)))

one_so : (others : List (List ℕ)) (item : ItemValue) (log : JournalState) (old new : LineEndValue)
    → ShowsItem (searched old.node).engine.stage (searched old.node).texts (searched old.node).packets item
    → IsTaken item (drop (item_size (searched old.node)) (held_bytes (searched old.node))) log old new
    → TakesIt others item (held_bytes (searched old.node)) (drop (item_size (searched old.node)) (held_bytes (searched old.node))) log old
    → TakesOne others old new
one_so others item log old new shows taken_so takes =
    let n = searched old.node in
    let t = taker_of others old in
    let from = held_bytes n in
    let behind = drop (item_size n) (held_bytes n) in
    let f : ItemFound item old.node n = item_found old.node item shows in
    let e = effect_at (event_of false item) old in
    let by_held : List ℕ → Buffered (LineEndState DialogueState) = λ x. record { held = x; end = line_end_of old } in
    let by_held_after : List ℕ → Buffered (LineEndState DialogueState) = λ x. record { held = x; end = line_end_of new } in
    let by_end : LineEndState DialogueState → Buffered (LineEndState DialogueState) = λ x. record { held = held_in e.state.stage behind; end = x } in
    let after : hearer_of new ≡ holds t behind (after_call log old.line e) = ap by_held_after taken_so.held ∙ ap by_end taken_so.end in
    let less : length behind < length (held_bytes old.node) =
    behind_item item from behind (held_bytes old.node)
    (subst (λ (x : Finding). LeavesFewer x (held_bytes old.node)) f.finding (found_fewer old.node.engine.stage (held_bytes old.node))) in
    record {
      same = ap (λ (x : Buffered (LineEndState DialogueState)). takes_all t x) (ap by_held (holds_itself old.node.engine.stage old.node))
          ∙ takes_next (LineEndState DialogueState) t (held_bytes old.node) (line_end_of old)
          ∙ ap (λ (x : Finding). takes_up (takes_all t) t x (line_end_of old)) f.finding
          ∙ takes ∙ ap (takes_all t) (sym after);
      ordered = taken_so.ordered;
      standing = taken_so.standing;
      fewer = let held = ap (λ (x : List ℕ). length x) taken_so.held in
          omega (arith, held, held_fewer e.state.stage behind, less);
    }

-- ---- a text or a broken packet

abbrev IsOther : ItemValue → Type 0
IsOther (packet_item p) = ⊥
IsOther _ = ⊤

is_other : (item : ItemValue) (others : List (List ℕ)) (passed : ℕ) → Sights item others passed Other → IsOther item
is_other (text_item text) others passed sights = tt
is_other bad_item others passed sights = tt
is_other (packet_item p) others passed sights = absurd sights

takes_other : (others : List (List ℕ)) (item : ItemValue) (from behind : List ℕ) (old : LineEndValue) → IsOther item
    → TakesIt others item from behind (log_of old.journal) old
takes_other others (text_item text) from behind old is = refl
takes_other others bad_item from behind old is = refl
takes_other others (packet_item p) from behind old is = absurd is

pub other_taken : (others : List (List ℕ)) (old new : LineEndValue) → IsOrdered old
    → SightsShown (searched old.node) others old.journal.passed Other
    → IsTakenUp (λ (b : Bool). old.journal) (sought old) new → TakesOne others old new
other_taken others old new ordered sights taken_up =
    let n = searched old.node in
    let item = sights.0 in
    one_so others item (log_of old.journal) old new sights.1
    (item_taken old new item (λ (b : Bool). old.journal) ordered sights.1 (λ b. refl) taken_up)
    (takes_other others item (held_bytes n) (drop (item_size n) (held_bytes n)) old (is_other item others old.journal.passed sights.2))

-- ---- a packet

takes_packet : (others : List (List ℕ)) (p : PacketValue) (from behind bytes : List ℕ) (place : ℕ) (old : LineEndValue)
    → IsWellFormed p → AreWritten others → StandsAt (canonical p) others old.journal.passed place → bytes ≡ canonical p
    → TakesIt others (packet_item p) from behind
    (log_of (packet_noted bytes place old.journal (effect_at (packet_found_whole false p) old).took)) old
takes_packet others p from behind bytes place old well written stands is =
    let t = taker_of others old in
    let e = effect_at (packet_found_whole false p) old in
    let by_place : Option ℕ → Arrival (LineEndState DialogueState) =
    λ o. takes_if (takes_all t) t (takes_sent (player_of old) p o (line_end_of old)) from behind (line_end_of old) in
    let by_log : JournalState → Arrival (LineEndState DialogueState) = λ log. takes_all t (holds t behind (after_call log old.line e)) in
    ap by_place (place_found p others old.journal.passed place well written stands)
    ∙ ap by_log (sym (packet_logged p bytes place old.journal e.took well is))

packet_at : (item : ItemValue) (others : List (List ℕ)) (passed place : ℕ) → Sights item others passed (At place)
    → (p : PacketValue) × (item ≡ packet_item p) × StandsAt (canonical p) others passed place
packet_at (packet_item p) others passed place sights = (p, refl, sights)
packet_at (text_item text) others passed place sights = absurd sights
packet_at bad_item others passed place sights = absurd sights

shown_packet : (n : NodeState) (item : ItemValue) (p : PacketValue) → item ≡ packet_item p → ShowsItem n.engine.stage n.texts n.packets item
    → ShowsItem n.engine.stage n.texts n.packets (packet_item p)
shown_packet n item p is shows = subst (λ (x : ItemValue). ShowsItem n.engine.stage n.texts n.packets x) is shows

journal_packets : (bytes : List ℕ) (place : ℕ) (j : JournalValue) (b : Bool) → (packet_noted bytes place j b).packets ≡ j.packets
journal_packets bytes place j false = refl
journal_packets bytes place j true = refl

some_same : (x y : List ℕ) → ◌≡◌ {A = Option (List ℕ)} (Some x) (Some y) → x ≡ y
some_same x y e = cc

pub packet_taken : (others : List (List ℕ)) (place : ℕ) (bytes : List ℕ) (old new : LineEndValue) → IsOrdered old → AreWritten others
    → SightsShown (searched old.node) others old.journal.passed (At place) → slice_get others place ≡ Some bytes
    → IsTakenUp (packet_noted bytes place old.journal) (sought old) new → TakesOne others old new
packet_taken others place bytes old new ordered written sights there taken_so =
    let n = searched old.node in
    let at = packet_at sights.0 others old.journal.passed place sights.2 in
    let p = at.0 in
    let shows = shown_packet n sights.0 p at.1 sights.1 in
    let is : bytes ≡ canonical p = some_same bytes (canonical p) (sym there ∙ at.2.there) in
    let well : IsWellFormed p = may_find n.engine.stage n.texts n.packets (packet_item p) shows in
    one_so others (packet_item p)
    (log_of (packet_noted bytes place old.journal (effect_at (packet_found_whole false p) old).took)) old new shows
    (item_taken old new (packet_item p) (packet_noted bytes place old.journal) ordered shows (journal_packets bytes place old.journal) taken_so)
    (takes_packet others p (held_bytes n) (drop (item_size n) (held_bytes n)) bytes place old well written at.2 is)

-- ---- a packet that was not sent

unsent_packet : (item : ItemValue) (others : List (List ℕ)) (passed : ℕ) → Sights item others passed Unsent
    → (p : PacketValue) × (item ≡ packet_item p) × StandsNowhere (canonical p) others passed
unsent_packet (packet_item p) others passed sights = (p, refl, sights)
unsent_packet (text_item text) others passed sights = absurd sights
unsent_packet bad_item others passed sights = absurd sights

-- the end, with the bytes that it holds
abbrev with_bytes : List ℕ → LineEndValue → Buffered (LineEndState DialogueState)
with_bytes bytes e = record { held = bytes; end = line_end_of e }

first_of_all : (others : List (List ℕ)) (old : LineEndValue)
    → takes_all (taker_of others old) (hearer_of old)
    ≡ takes_up (takes_all (taker_of others old)) (taker_of others old) (finding old.node.engine.stage (held_bytes old.node)) (line_end_of old)
first_of_all others old =
    let t = taker_of others old in
    ap (λ (x : List ℕ). takes_all t (with_bytes x old)) (holds_itself old.node.engine.stage old.node)
    ∙ takes_next (LineEndState DialogueState) t (held_bytes old.node) (line_end_of old)

sought_held : (old : LineEndValue) → (searched old.node).engine ≡ old.node.engine
    → hearer_of (sought old) ≡ record { held = held_in old.node.engine.stage (held_bytes (searched old.node)); end = line_end_of old }
sought_held old same =
    let n = searched old.node in
    ap (λ (x : List ℕ). with_bytes x (sought old)) (holds_itself n.engine.stage n)
    ∙ ap (λ (x : EngineState). record {
      held = held_in x.stage (held_bytes n);
      end = line_end_of (record old { node = record old.node { engine = x } });
    }) same

pub stopped_so : (others : List (List ℕ)) (old : LineEndValue) → IsOrdered old → AreWritten others
    → SightsShown (searched old.node) others old.journal.passed Unsent → IsStopped others old (sought old)
stopped_so others old ordered written sights =
    let n = searched old.node in
    let t = taker_of others old in
    let none = unsent_packet sights.0 others old.journal.passed sights.2 in
    let p = none.0 in
    let f : ItemFound (packet_item p) old.node n = item_found old.node (packet_item p) (shown_packet n sights.0 p none.1 sights.1) in
    let from = held_bytes n in
    let behind = drop (item_size n) (held_bytes n) in
    let by_place : Option ℕ → Arrival (LineEndState DialogueState) =
    λ o. takes_if (takes_all t) t (takes_sent (player_of old) p o (line_end_of old)) from behind (line_end_of old) in
    record {
      stopped = first_of_all others old
          ∙ ap (λ (x : Finding). takes_up (takes_all t) t x (line_end_of old)) f.finding
          ∙ ap by_place (no_place_found p others old.journal.passed written none.2)
          ∙ ap (λ (x : Buffered (LineEndState DialogueState)). stopped x) (sym (sought_held old f.engine));
      ordered = ordered_with old n f.engine ordered;
      standing = ap (λ (x : EngineState). standing_of (record old { node = record n { engine = x } })) f.engine;
      no_more = (subst (λ (x : Finding). LeavesFewer x (held_bytes old.node)) f.finding
          (found_fewer old.node.engine.stage (held_bytes old.node))).0;
    }

-- ---- nothing is whole

greatest : (most n : ℕ) → n ≤ most → max most n ≡ most
greatest most n below = omega arith

-- the session has ended at a text that is too long
too_long_after : (old : LineEndValue) (g : Greeting) → old.node.engine.stage ≡ hailing g → IsOrdered old
    → after_call (log_of old.journal) old.line (effect_at long_text_found old)
    ≡ record (line_end_of old) { state = record (state_of old) { stage = ended ends.BadTalk } }
too_long_after old g at ordered =
    let j = old.journal in
    let by_stage : Stage → LineEndState DialogueState = λ x. after_call (log_of j) old.line
    (stage_step (player_of old).keeper (player_of old).identity x long_text_found (state_of old)) in
    let by_sent : List (List ℕ) → LineEndState DialogueState = λ x. record {
      state = record (state_of old) { stage = ended ends.BadTalk };
      log = record {
        sent = x;
        taken = j.taken;
        packets = map packet_in j.packets ++ [];
        arrivals = j.arrivals;
        passed = j.passed;
        most = max j.most (length old.node.engine.link.unacked);
      };
      line = old.line ++ [];
    } in
    let by_packets : List PacketValue → LineEndState DialogueState = λ x. record {
      state = record (state_of old) { stage = ended ends.BadTalk };
      log = record {
        sent = j.sent;
        taken = j.taken;
        packets = x;
        arrivals = j.arrivals;
        passed = j.passed;
        most = max j.most (length old.node.engine.link.unacked);
      };
      line = old.line ++ [];
    } in
    let by_most : ℕ → LineEndState DialogueState = λ x. record {
      state = record (state_of old) { stage = ended ends.BadTalk };
      log = record {
        sent = j.sent;
        taken = j.taken;
        packets = map packet_in j.packets;
        arrivals = j.arrivals;
        passed = j.passed;
        most = x;
      };
      line = old.line ++ [];
    } in
    let by_line : List ℕ → LineEndState DialogueState = λ x. record {
      state = record (state_of old) { stage = ended ends.BadTalk };
      log = log_of j;
      line = x;
    } in
    ap by_stage at ∙ ap by_sent (append-nil j.sent) ∙ ap by_packets (append-nil (map packet_in j.packets))
    ∙ ap by_most (greatest j.most (length old.node.engine.link.unacked) ordered.most) ∙ ap by_line (append-nil old.line)

nothing_so_by : (others : List (List ℕ)) (old : LineEndValue) → IsOrdered old → HasRoom (sought old)
    → NothingFound old.node (searched old.node) → TakesAll others old (sought old)
nothing_so_by others old ordered room (waits engine found_so) =
    let n = searched old.node in
    let t = taker_of others old in
    record {
      all = first_of_all others old
          ∙ ap (λ (x : Finding). takes_up (takes_all t) t x (line_end_of old)) found_so
          ∙ ap (λ (x : Buffered (LineEndState DialogueState)). all_taken x) (sym (sought_held old engine));
      ordered = ordered_with old n engine ordered;
      standing = ap (λ (x : EngineState). standing_of (record old { node = record n { engine = x } })) engine;
      room = room;
    }
nothing_so_by others old ordered room (is_too_long g behind at found_so engine) =
    let n = searched old.node in
    let t = taker_of others old in
    let after = too_long_after old g at ordered in
    let id = old.node.engine.identity in
    let state : state_of (sought old) ≡ (effect_at long_text_found old).state =
    ap (λ (x : EngineState). end_of (holdings_of old.spool) old.spool.stored x) engine ∙ ap (λ (x : LineEndState DialogueState). x.state) (sym after) in
    let hearer : hearer_of (sought old)
    ≡ record { held = []; end = record (line_end_of old) { state = record (state_of old) { stage = ended ends.BadTalk } } } =
    ap (λ (x : EngineState). record {
      held = bytes_at x.stage n;
      end = line_end_of (record old { node = record n { engine = x } });
    }) engine in
    record {
      all = first_of_all others old
          ∙ ap (λ (x : Finding). takes_up (takes_all t) t x (line_end_of old)) found_so
          ∙ ap (λ (x : LineEndState DialogueState). takes_all t (holds t behind x)) after
          ∙ ap (λ (x : Buffered (LineEndState DialogueState)). all_taken x) (sym hearer);
      ordered = record {
        cleared = ap (λ (x : EngineState). x.outbox.entries) engine ∙ ordered.cleared;
        in_range = subst (λ (x : EngineState). IsEndInRange x.identity.side (state_of (sought old))) (sym engine)
            (subst (IsEndInRange id.side) (sym state)
            (end_stays id.side (holdings_of old.spool) id long_text_found (state_of old) ordered.in_range tt));
        own = subst (λ (x : EngineState). IsAnnouncement x.own) (sym engine) ordered.own;
        written = ordered.written;
        most = subst (λ (x : EngineState). length x.link.unacked ≤ old.journal.most) (sym engine) ordered.most;
      };
      standing = ap (λ (x : EngineState). standing_of (record old { node = record n { engine = x } })) engine;
      room = room;
    }

pub nothing_so : (others : List (List ℕ)) (old : LineEndValue) → IsOrdered old → item_size (searched old.node) ≡ 0 → HasRoom (sought old)
    → TakesAll others old (sought old)
nothing_so others old ordered none room = nothing_so_by others old ordered room (nothing_found old.node none)

-- ---- the parts behind a search

pub sought_is : (old mid : LineEndValue) → mid.node ≡ searched old.node → mid.spool ≡ old.spool → mid.journal ≡ old.journal → mid.line ≡ old.line
    → mid ≡ sought old
sought_is old mid node spool journal line =
    let by_node : NodeState → LineEndValue = λ x. record { node = x; spool = mid.spool; journal = mid.journal; line = mid.line } in
    let by_spool : MemoryHoldings → LineEndValue = λ x. record { node = searched old.node; spool = x; journal = mid.journal; line = mid.line } in
    let by_journal : JournalValue → LineEndValue = λ x. record { node = searched old.node; spool = old.spool; journal = x; line = mid.line } in
    let by_line : List ℕ → LineEndValue = λ x. record { node = searched old.node; spool = old.spool; journal = old.journal; line = x } in
    ap by_node node ∙ ap by_spool spool ∙ ap by_journal journal ∙ ap by_line line

pub sees_nothing : (others : List (List ℕ)) (old mid : LineEndValue) → IsOrdered old → mid ≡ sought old
    → item_size mid.node ≡ 0 → (item_size mid.node ≡ 0 → HasRoom mid) → TakesAll others old mid
sees_nothing others old mid ordered is none room =
    subst (λ (m : LineEndValue). TakesAll others old m) (sym is)
    (nothing_so others old ordered (subst (λ (m : LineEndValue). item_size m.node ≡ 0) is none) (subst HasRoom is (room none)))

pub sees_unsent : (others : List (List ℕ)) (old mid : LineEndValue) → IsOrdered old → AreWritten others → mid ≡ sought old
    → SightsShown mid.node others old.journal.passed Unsent → IsStopped others old mid
sees_unsent others old mid ordered written is sights =
    subst (λ (m : LineEndValue). IsStopped others old m) (sym is)
    (stopped_so others old ordered written (subst (λ (m : LineEndValue). SightsShown m.node others old.journal.passed Unsent) is sights))

pub sees_other : (others : List (List ℕ)) (old mid new : LineEndValue) → IsOrdered old → mid ≡ sought old
    → SightsShown mid.node others old.journal.passed Other → IsTakenUp (λ (b : Bool). old.journal) mid new → TakesOne others old new
sees_other others old mid new ordered is sights taken_so =
    other_taken others old new ordered (subst (λ (m : LineEndValue). SightsShown m.node others old.journal.passed Other) is sights)
    (subst (λ (m : LineEndValue). IsTakenUp (λ (b : Bool). old.journal) m new) is taken_so)

pub sees_packet : {A : Type 0} → (others : List (Vec ℕ A)) (place : ℕ) (v : Vec ℕ A) (bytes : List ℕ) (old mid new : LineEndValue)
    → IsOrdered old → AreWritten (lists_in others) → mid ≡ sought old
    → SightsShown mid.node (lists_in others) old.journal.passed (At place) → v ≡ get_or others place v → bytes ≡ v.items
    → IsTakenUp (packet_noted bytes place old.journal) mid new → TakesOne (lists_in others) old new
sees_packet {A} others place v bytes old mid new ordered written is sights there same taken_so =
    let items : Vec ℕ A → List ℕ = λ x. x.items in
    let at = packet_at sights.0 (lists_in others) old.journal.passed place sights.2 in
    let within : place < length (lists_in others) = slice_get_within (lists_in others) place (canonical at.0) at.2.there in
    let count : length (lists_in others) ≡ length others = length-map others items in
    let stands : slice_get (lists_in others) place ≡ Some bytes =
    slice_get-map items others place
    ∙ ap (option_map items) (slice_get_read others (length others) place v refl (omega (arith, within, count)) there)
    ∙ ap Some (sym same) in
    packet_taken (lists_in others) place bytes old new ordered written
    (subst (λ (m : LineEndValue). SightsShown m.node (lists_in others) old.journal.passed (At place)) is sights) stands
    (subst (λ (m : LineEndValue). IsTakenUp (packet_noted bytes place old.journal) m new) is taken_so)
