-- A message that comes too early, and one that does not.
use Rattle.std.proofs.Common.{◌≡◌, ◌≢◌, ℕ, Bool, true, false, List, [], ◌∷◌, refl, ap, ◌∙◌}
use Rattle.uug_conversation.specs.declared.awaits.Awaits.{Awaits}
use Rattle.uug_conversation.specs.declared.awaits.Awaits.TheVariants as awaits
use Rattle.uug_conversation.specs.Holdings.{Holdings}
use Rattle.uug_conversation.specs.Machine.{State, comes_early, unless_early, reply_to, out_of_turn, step}
use Rattle.uug_conversation.specs.DialogueState.{DialogueState, is_empty, replied, taking}

some_wait : (waiting : List (List ℕ)) → waiting ≢ [] → is_empty waiting ≡ false
some_wait [] n = absurd (n refl)
some_wait (message ∷ messages) n = refl

-- by whether it comes early
by_early : (h : Holdings) (message : List ℕ) (talk : DialogueState) (early : Bool) →
    comes_early talk.machine.awaits (is_empty talk.waiting) ≡ early →
    taking h message talk ≡ replied talk.measure talk.waiting talk.kept (unless_early early h talk.machine message)
by_early h message talk early e =
    ap (λ (b : Bool). replied talk.measure talk.waiting talk.kept (unless_early b h talk.machine message)) e

pub early_when_sent : (h : Holdings) (message : List ℕ) (talk : DialogueState) → talk.machine.awaits ≡ awaits.SentFileDone →
    talk.waiting ≢ [] → taking h message talk ≡ replied talk.measure talk.waiting talk.kept (out_of_turn talk.machine.lists)
early_when_sent h message talk a n =
    by_early h message talk true (ap (λ w. comes_early w (is_empty talk.waiting)) a ∙ ap (comes_early awaits.SentFileDone) (some_wait talk.waiting n))

pub early_when_given : (h : Holdings) (message : List ℕ) (talk : DialogueState) → talk.machine.awaits ≡ awaits.GivenFileDone →
    talk.waiting ≢ [] → taking h message talk ≡ replied talk.measure talk.waiting talk.kept (out_of_turn talk.machine.lists)
early_when_given h message talk a n =
    by_early h message talk true (ap (λ w. comes_early w (is_empty talk.waiting)) a ∙ ap (comes_early awaits.GivenFileDone) (some_wait talk.waiting n))

in_time : (awaited : Awaits) → comes_early awaited true ≡ false
in_time awaits.SentFileDone = refl
in_time awaits.GivenFileDone = refl
in_time _ = refl

-- where nothing waits to be sent, no message comes too early
pub when_none_waits : (h : Holdings) (none_waits : Bool) (s : State) (message : List ℕ) → none_waits ≡ true →
    reply_to h none_waits s message ≡ step h s message
when_none_waits h none_waits s message e =
    ap (λ (b : Bool). unless_early (comes_early s.awaits b) h s message) e
    ∙ ap (λ (b : Bool). unless_early b h s message) (in_time s.awaits)

pub taken_when_none_waits : (h : Holdings) (message : List ℕ) (talk : DialogueState) → talk.waiting ≡ [] →
    taking h message talk ≡ replied talk.measure talk.waiting talk.kept (step h talk.machine message)
taken_when_none_waits h message talk e =
    by_early h message talk false (ap (λ ms. comes_early talk.machine.awaits (is_empty ms)) e ∙ in_time talk.machine.awaits)

others_in_time : (awaited : Awaits) (none_waits : Bool) → awaited ≢ awaits.SentFileDone → awaited ≢ awaits.GivenFileDone →
    comes_early awaited none_waits ≡ false
others_in_time awaits.SentFileDone none_waits n m = absurd (n refl)
others_in_time awaits.GivenFileDone none_waits n m = absurd (m refl)
others_in_time _ none_waits n m = refl

pub taken_by_others : (h : Holdings) (message : List ℕ) (talk : DialogueState) → talk.machine.awaits ≢ awaits.SentFileDone →
    talk.machine.awaits ≢ awaits.GivenFileDone →
    taking h message talk ≡ replied talk.measure talk.waiting talk.kept (step h talk.machine message)
taken_by_others h message talk n m =
    by_early h message talk false (others_in_time talk.machine.awaits (is_empty talk.waiting) n m)
