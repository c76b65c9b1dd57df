-- What two ends have done when each has taken a front of the other's messages, and no more than the other has said by
-- then: then both together have taken a front of the conversation. Each lemma here carries a claim through one message
-- or turn: what holds where nothing was done, and whatever was done behind it.
use Rattle.std.proofs.Common.{◌≡◌, ℕ, zero, suc, ◌+◌, ◌<◌, ◌≤◌, List, [], ◌∷◌, ◌++◌, length, replicate, refl, sym, subst₂, arith}
use Rattle.std.proofs.lemmas.List.{length-append}
use Rattle.uug_talk.specs.Answer.{answer_text}
use Rattle.uug_talk.specs.Lenient.{refusal_text}
use Rattle.uug_talk.specs.Chunks.{Measure, cut, filling, command_messages}
use Rattle.uug_conversation.specs.Told.{giving_said, order_said}
use Rattle.uug_conversation.specs.Holdings.{Kept}
use Rattle.uug_conversation.specs.Jobs.{Move}
use Rattle.uug_conversation.specs.Messages.{Message, turn_messages, messages}
use Rattle.uug_conversation.specs.Turns.{other, Said, the_order, the_answer, the_consent, the_giving, the_file, the_refusal, said_messages, Turn}
use Rattle.uug_conversation.specs.declared.side.Side.{Side}
use Rattle.uug_conversation.specs.declared.side.Side.TheVariants.{Caller, Called}
use Rattle.uug_conversation.specs.View.{Seen, says, hears, view, floor, moves_after, kept_after}
use Rattle.uug_talk.specs.Positions.{consent_text}

-- ---- nothing of the other's was taken

pub no_moves_at_first : (v : List Seen) → moves_after 0 v ≡ []
no_moves_at_first [] = refl
no_moves_at_first (says bytes ∷ v) = no_moves_at_first v
no_moves_at_first (hears bytes moves keeps ∷ v) = refl

pub nothing_kept_at_first : (v : List Seen) → kept_after 0 v ≡ []
nothing_kept_at_first [] = refl
nothing_kept_at_first (says bytes ∷ v) = nothing_kept_at_first v
nothing_kept_at_first (hears bytes moves keeps ∷ v) = refl

-- ---- claims

-- a claim on what two ends have done: the moves of the one's jobs and of the other's, and what each has kept
abbrev pub Claim : Type 1
Claim = (moves others_moves : List Move) (kept others_kept : List Kept) → Type 0

-- of the caller, and of the called end, when they have taken so many messages
abbrev After : Claim → (j k : ℕ) → List Message → Type 0
After Q j k ms = Q (moves_after j (view Caller ms)) (moves_after k (view Called ms))
    (kept_after j (view Caller ms)) (kept_after k (view Called ms))

-- wherever each has taken at most what the other has said by then
abbrev Always : Claim → List Message → Type 0
Always Q ms = (j k : ℕ) → j ≤ floor k (view Called ms) → k ≤ floor j (view Caller ms) → After Q j k ms

-- the claim, seen from the master
abbrev turned : Side → Claim → Claim
turned Caller Q moves others_moves kept others_kept = Q moves others_moves kept others_kept
turned Called Q moves others_moves kept others_kept = Q others_moves moves others_kept kept

-- the same of turns, by what the master and the slave have done
pub record HoldsOf (measures : Side → Measure) (master : Side) (Q : Claim) (ts : List Turn) : Type 0 where
  pub always : Always (turned master Q) (messages measures ts)

-- ---- one message

caller_message : (Q : Claim) (bytes : List ℕ) (moves : List Move) (keeps : List Kept) (ms : List Message) → Q [] [] [] [] →
    Always (λ m o k p. Q m (moves ++ o) k (keeps ++ p)) ms →
    Always Q (record { speaker = Caller; bytes = bytes; moves = moves; keeps = keeps } ∷ ms)
caller_message Q bytes moves keeps ms first more zero zero p q =
    subst₂ (λ m k. Q m [] k []) (sym (no_moves_at_first (view Caller ms))) (sym (nothing_kept_at_first (view Caller ms))) first
caller_message Q bytes moves keeps ms first more (suc j) zero p q = absurd (omega (arith, p))
caller_message Q bytes moves keeps ms first more j (suc k) p q = more j k p (omega (arith, q))

called_message : (Q : Claim) (bytes : List ℕ) (moves : List Move) (keeps : List Kept) (ms : List Message) → Q [] [] [] [] →
    Always (λ m o k p. Q (moves ++ m) o (keeps ++ k) p) ms →
    Always Q (record { speaker = Called; bytes = bytes; moves = moves; keeps = keeps } ∷ ms)
called_message Q bytes moves keeps ms first more zero zero p q =
    subst₂ (λ m k. Q [] m [] k) (sym (no_moves_at_first (view Called ms))) (sym (nothing_kept_at_first (view Called ms))) first
called_message Q bytes moves keeps ms first more zero (suc k) p q = absurd (omega (arith, q))
called_message Q bytes moves keeps ms first more (suc j) k p q = more j k (omega (arith, p)) q

-- ---- the messages of a turn: its hearer acts at the last

caller_turn : (Q : Claim) (said : Said) (moves : List Move) (keeps : List Kept) (chunks : List (List ℕ)) (ms : List Message) →
    0 < length chunks → Q [] [] [] [] → Always (λ m o k p. Q m (moves ++ o) k (keeps ++ p)) ms →
    Always Q (turn_messages (record { speaker = Caller; said = said; moves = moves; keeps = keeps }) chunks ms)
caller_turn Q said moves keeps [] ms some first more = absurd (omega (arith, some))
caller_turn Q said moves keeps (bytes ∷ []) ms some first more = caller_message Q bytes moves keeps ms first more
caller_turn Q said moves keeps (bytes ∷ next ∷ chunks) ms some first more =
    caller_message Q bytes [] []
    (turn_messages (record { speaker = Caller; said = said; moves = moves; keeps = keeps }) (next ∷ chunks) ms) first
    (caller_turn Q said moves keeps (next ∷ chunks) ms (omega arith) first more)

called_turn : (Q : Claim) (said : Said) (moves : List Move) (keeps : List Kept) (chunks : List (List ℕ)) (ms : List Message) →
    0 < length chunks → Q [] [] [] [] → Always (λ m o k p. Q (moves ++ m) o (keeps ++ k) p) ms →
    Always Q (turn_messages (record { speaker = Called; said = said; moves = moves; keeps = keeps }) chunks ms)
called_turn Q said moves keeps [] ms some first more = absurd (omega (arith, some))
called_turn Q said moves keeps (bytes ∷ []) ms some first more = called_message Q bytes moves keeps ms first more
called_turn Q said moves keeps (bytes ∷ next ∷ chunks) ms some first more =
    called_message Q bytes [] []
    (turn_messages (record { speaker = Called; said = said; moves = moves; keeps = keeps }) (next ∷ chunks) ms) first
    (called_turn Q said moves keeps (next ∷ chunks) ms (omega arith) first more)

-- each turn has a message
some_part : (size : ℕ) (xs : List ℕ) → 0 < length xs → 0 < length (cut size xs)
some_part size [] some = absurd (omega (arith, some))
some_part size (x ∷ xs) some = omega arith

some_of_command : (measure : Measure) (text : List ℕ) → 0 < length (command_messages measure text)
some_of_command measure text =
    let zeros : List ℕ = 0 ∷ replicate (filling measure (length text + 1)) 0 in
    some_part measure.size (text ++ zeros) (omega (arith, length-append text zeros))

some_message : (measure : Measure) (said : Said) → 0 < length (said_messages measure said)
some_message measure (the_order order told) = some_of_command measure (order_said order told)
some_message measure (the_answer answer) = some_of_command measure (answer_text answer)
some_message measure (the_consent position) = some_of_command measure (consent_text position)
some_message measure (the_giving mode told) = some_of_command measure (giving_said mode told)
some_message measure (the_file bytes) = omega (arith, length-append (cut measure.size bytes) ([] ∷ []))
some_message measure (the_refusal letter) = some_of_command measure (refusal_text letter)

-- ---- turns

pub no_turn : {measures : Side → Measure} {master : Side} {Q : Claim} → Q [] [] [] [] → HoldsOf measures master Q []
no_turn {measures} {master = Caller} {Q} first = record { always = λ j k p q. first }
no_turn {measures} {master = Called} {Q} first = record { always = λ j k p q. first }

pub master_says : {measures : Side → Measure} {master : Side} {Q : Claim} {said : Said} {moves : List Move} {keeps : List Kept} {ts : List Turn} →
    Q [] [] [] [] → HoldsOf measures master (λ m o k p. Q m (moves ++ o) k (keeps ++ p)) ts →
    HoldsOf measures master Q (record { speaker = master; said = said; moves = moves; keeps = keeps } ∷ ts)
master_says {measures} {master = Caller} {Q} {said} {moves} {keeps} {ts} first more = record {
  always = caller_turn (turned Caller Q) said moves keeps (said_messages (measures Caller) said) (messages measures ts)
      (some_message (measures Caller) said) first more.always;
}
master_says {measures} {master = Called} {Q} {said} {moves} {keeps} {ts} first more = record {
  always = called_turn (turned Called Q) said moves keeps (said_messages (measures Called) said) (messages measures ts)
      (some_message (measures Called) said) first more.always;
}

pub slave_says : {measures : Side → Measure} {master : Side} {Q : Claim} {said : Said} {moves : List Move} {keeps : List Kept} {ts : List Turn} →
    Q [] [] [] [] → HoldsOf measures master (λ m o k p. Q (moves ++ m) o (keeps ++ k) p) ts →
    HoldsOf measures master Q (record { speaker = other master; said = said; moves = moves; keeps = keeps } ∷ ts)
slave_says {measures} {master = Caller} {Q} {said} {moves} {keeps} {ts} first more = record {
  always = called_turn (turned Caller Q) said moves keeps (said_messages (measures Called) said) (messages measures ts)
      (some_message (measures Called) said) first more.always;
}
slave_says {measures} {master = Called} {Q} {said} {moves} {keeps} {ts} first more = record {
  always = caller_turn (turned Called Q) said moves keeps (said_messages (measures Caller) said) (messages measures ts)
      (some_message (measures Caller) said) first more.always;
}

pub follows : {measures : Side → Measure} {master : Side} {Q R : Claim} {ts : List Turn} →
    ((m o : List Move) (k p : List Kept) → Q m o k p → R m o k p) → HoldsOf measures master Q ts → HoldsOf measures master R ts
follows {measures} {master = Caller} {Q} {R} {ts} f h = record {
  always = λ i j p q. f (moves_after i (view Caller (messages measures ts))) (moves_after j (view Called (messages measures ts)))
      (kept_after i (view Caller (messages measures ts))) (kept_after j (view Called (messages measures ts))) (h.always i j p q);
}
follows {measures} {master = Called} {Q} {R} {ts} f h = record {
  always = λ i j p q. f (moves_after j (view Called (messages measures ts))) (moves_after i (view Caller (messages measures ts)))
      (kept_after j (view Called (messages measures ts))) (kept_after i (view Caller (messages measures ts))) (h.always i j p q);
}

-- the called end's claim, seen by the caller
pub from_called : {measures : Side → Measure} {Q : Claim} {ts : List Turn} →
    HoldsOf measures Called Q ts → HoldsOf measures Caller (λ m o k p. Q o m p k) ts
from_called h = record { always = h.always }
