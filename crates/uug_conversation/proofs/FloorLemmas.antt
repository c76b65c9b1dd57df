-- What two ends may say in their conversation when each has taken so many of the other's messages.
use Rattle.std.proofs.Common.{◌≡◌, ℕ, zero, suc, ◌≤◌, List, [], ◌∷◌, refl, ap, arith}
use Rattle.uug_conversation.specs.Jobs.{Move}
use Rattle.uug_conversation.specs.Holdings.{Kept}
use Rattle.uug_conversation.specs.Messages.{Message}
use Rattle.uug_conversation.specs.Turns.{other}
use Rattle.uug_conversation.specs.declared.side.Side.{Side}
use Rattle.uug_conversation.specs.declared.side.Side.TheVariants.{Caller, Called}
use Rattle.uug_conversation.specs.View.{Seen, seen, view, own_messages, others_messages, floor}

-- ---- what one end says the other hears

others_are_own_of : (me speaker : Side) (bytes : List ℕ) (moves : List Move) (keeps : List Kept) (v w : List Seen) →
    others_messages v ≡ own_messages w →
    others_messages (seen me speaker bytes moves keeps ∷ v) ≡ own_messages (seen (other me) speaker bytes moves keeps ∷ w)
others_are_own_of Caller Caller bytes moves keeps v w e = e
others_are_own_of Called Called bytes moves keeps v w e = e
others_are_own_of Caller Called bytes moves keeps v w e = ap (λ z. bytes ∷ z) e
others_are_own_of Called Caller bytes moves keeps v w e = ap (λ z. bytes ∷ z) e

pub others_are_own : (me : Side) (ms : List Message) → others_messages (view me ms) ≡ own_messages (view (other me) ms)
others_are_own me [] = refl
others_are_own me (m ∷ ms) =
    others_are_own_of me m.speaker m.bytes m.moves m.keeps (view me ms) (view (other me) ms) (others_are_own me ms)

-- ---- an end says all that it may before the other goes on

-- one message more in front
floor_by : (me speaker : Side) (bytes : List ℕ) (moves : List Move) (keeps : List Kept) (v w : List Seen) →
    ((k n : ℕ) → suc k ≤ floor n w → floor k v ≤ n) → (k n : ℕ) →
    suc k ≤ floor n (seen (other me) speaker bytes moves keeps ∷ w) → floor k (seen me speaker bytes moves keeps ∷ v) ≤ n
floor_by Caller Caller bytes moves keeps v w more k zero h = absurd (omega (arith, h))
floor_by Caller Caller bytes moves keeps v w more k (suc n) h = omega (arith, more k n h)
floor_by Called Called bytes moves keeps v w more k zero h = absurd (omega (arith, h))
floor_by Called Called bytes moves keeps v w more k (suc n) h = omega (arith, more k n h)
floor_by Caller Called bytes moves keeps v w more zero n h = omega arith
floor_by Caller Called bytes moves keeps v w more (suc k) n h = more k n (omega (arith, h))
floor_by Called Caller bytes moves keeps v w more zero n h = omega arith
floor_by Called Caller bytes moves keeps v w more (suc k) n h = more k n (omega (arith, h))

-- where the other end may say one message more than k when it has taken n, those n are all that may be said before
pub floor_back : (me : Side) (ms : List Message) (k n : ℕ) → suc k ≤ floor n (view (other me) ms) → floor k (view me ms) ≤ n
floor_back me [] k n h = absurd (omega (arith, h))
floor_back me (m ∷ ms) k n h =
    floor_by me m.speaker m.bytes m.moves m.keeps (view me ms) (view (other me) ms) (floor_back me ms) k n h
