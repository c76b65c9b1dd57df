-- An end sends while there is room, said of what it has still to say.
use Rattle.std.proofs.Common.{◌≡◌, inl, inr, ◌⊎◌, ℕ, ◌<◌, ◌≤◌, nat_lt, Bool, true, false, if◌then◌else◌, List, [], ◌∷◌, length, None, refl, sym, ap, subst, ◌∙◌, arith}
use Rattle.std.proofs.lemmas.Bool.Decides.{nat_tests}
use Rattle.uug_link.specs.declared.limits.TheConstants.{WINDOW_MAX}
use Rattle.uug_link.specs.State.{State, HasRoom}
use Rattle.uug_talk.specs.Chunks.{Measure}
use Rattle.uug_conversation.specs.declared.reaction.Saying.{Saying}
use Rattle.uug_session.specs.EndStep.{EndState, Stage, hailing, linked, ended, has_room, is_up}
use Rattle.uug_session.specs.Engine.{EngineState, Spoken, after_sends, spoken_of}
use Rattle.uug_conversation.specs.Holdings.{Holdings, Kept}
use Rattle.uug_session.specs.Node.{IsAsBefore, NodeState, offered, offered_at, searched, searched_at, texts_searched}
use Rattle.uug_conversation.specs.Outgoing.{Outgoing, is_silent, outgoing_messages}
use Rattle.uug_session.specs.Sending.{SaysWhatItCan}
use Rattle.uug_session.specs.TextsHeld.{TextSearch, text_too_long, text_waits, text_stands, search_text}
use Rattle.uug_conversation.specs.DialogueState.{DialogueState, end_keeper, first_of, is_empty}
use Rattle.uug_conversation.specs.DialogueValue.{dialogue_of}
use Rattle.uug_conversation.proofs.OutgoingLemmas.{silent_is_empty}
use Rattle.uug_session.proofs.RoomLemmas.{said_up_to}

room_by : (up : Bool) (n w : ℕ) → up ≡ true → n < w → (if up then nat_lt n w else false) ≡ true
room_by true n w is less = grind (arith, nat_tests, less)
room_by false n w is less = absurd cc

has_none : (s : State) → has_room s ≡ false → HasRoom s → ⊥
has_none s none (is, less) =
    let room : has_room s ≡ true = room_by (is_up s.phase) (length s.unacked) s.window (ap is_up is) less in
    let never : true ≡ false = sym room ∙ none in cc

nothing_left : (sayings : List Saying) → is_silent sayings ≡ true → sayings ≡ []
nothing_left [] is = refl
nothing_left (first ∷ more) is = absurd cc

none_is_first : (messages : List (List ℕ)) → first_of messages ≡ None → is_empty messages ≡ true
none_is_first [] is = refl
none_is_first (message ∷ messages) is = absurd cc

nothing_next : (h : Holdings) (measure : Measure) (out : Outgoing) → first_of (outgoing_messages h measure out) ≡ None → out.sayings ≡ []
nothing_next h measure out is =
    nothing_left out.sayings (silent_is_empty h measure out ∙ none_is_first (outgoing_messages h measure out) is)

-- there is no room, or no message is next
abbrev SaidBy : Spoken → Type 0
SaidBy x = (has_room x.link ≡ false) ⊎ (first_of x.talk.waiting ≡ None)

all_said : (h : Holdings) (kept : List Kept) (e : EngineState) → SaidBy (spoken_of h kept e) → SaysWhatItCan e
all_said h kept e (inl none) is room = absurd (has_none e.link none room)
all_said h kept e (inr none) is room = nothing_next h e.dialogue.measure e.dialogue.outgoing none

-- behind as many messages as any window lets out
pub sends_say : (h : Holdings) (kept : List Kept) (e sent : EngineState) → e.link.window ≤ WINDOW_MAX
    → spoken_of h kept sent ≡ after_sends WINDOW_MAX h kept e → SaysWhatItCan sent
sends_say h kept e sent within is =
    all_said h kept sent (subst SaidBy (sym is)
    (said_up_to WINDOW_MAX (end_keeper e.identity.side h) e.link (dialogue_of h kept e.dialogue) (omega (arith, within))))

-- ---- bytes that come change nothing of it

offered_by : (stage : Stage) (bytes : List ℕ) (n : NodeState) → (offered_at stage bytes n).engine ≡ n.engine
offered_by (hailing greeting) bytes n = refl
offered_by linked bytes n = refl
offered_by (ended how) bytes n = refl

pub offered_says : (bytes : List ℕ) (n : NodeState) → SaysWhatItCan n.engine → SaysWhatItCan (offered bytes n).engine
offered_says bytes n says = subst SaysWhatItCan (sym (offered_by n.engine.stage bytes n)) says

-- ---- a search changes nothing of it

texts_by : (found : TextSearch) (n : NodeState) → SaysWhatItCan n.engine → SaysWhatItCan (texts_searched found n).engine
texts_by text_too_long n says = λ is room. absurd cc
texts_by (text_waits rest) n says = says
texts_by (text_stands text others) n says = says

searched_by : (stage : Stage) (n : NodeState) → SaysWhatItCan n.engine → SaysWhatItCan (searched_at stage n).engine
searched_by (hailing greeting) n says = texts_by (search_text n.texts.bytes) n says
searched_by linked n says = says
searched_by (ended how) n says = says

pub searched_says : (n : NodeState) → SaysWhatItCan n.engine → SaysWhatItCan (searched n).engine
searched_says n says = searched_by n.engine.stage n says

-- ---- nor does an item that is not taken up

pub refused_says : (h : Holdings) (kept kept_after : List Kept) (before after : NodeState) → IsAsBefore h kept kept_after before after
    → SaysWhatItCan before.engine → SaysWhatItCan after.engine
refused_says h kept kept_after before after same says is room =
    let stage = ap (λ (x : EndState DialogueState). x.stage) same.does.end in
    let link = ap (λ (x : EndState DialogueState). x.link) same.does.end in
    let out = before.engine.dialogue.outgoing in
    let out_after = after.engine.dialogue.outgoing in
    let silent : out.sayings ≡ [] = says (sym stage ∙ is) (subst HasRoom link room) in
    nothing_left out_after.sayings (silent_is_empty h after.engine.dialogue.measure out_after
    ∙ ap (λ (x : EndState DialogueState). is_empty x.keeper.waiting) same.does.end
    ∙ sym (silent_is_empty h before.engine.dialogue.measure out) ∙ ap is_silent silent)
