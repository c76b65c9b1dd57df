-- What a link does with a data packet out of order: it answers with the last number received, or with nothing, and changes
-- nothing but what it keeps of rejects.
use Rattle.std.proofs.Common.{◌≡◌, ℕ, ◌==◌, Bool, true, false, if◌then◌else◌, Option, refl}
use Rattle.uug_link.specs.State.{State, IsQuiet}
use Rattle.uug_link.specs.Step.{Effect, answers, begins_anew, has_rejected, last_received, nothing, on_other, on_repeat, quiet}
use Rattle.uug_packet.specs.Packet.{rr, rj}

-- the same link with something else kept of rejects
abbrev pub keeping : State → (left : ℕ) → (passed : Option ℕ) → State
keeping s left passed = record s { reject_left = left; passed = passed }

either : (P : Effect → Type 0) (b : Bool) (e f : Effect) → P e → P f → P (if b then e else f)
either P true e f h k = h
either P false e f h k = k

either_by : (P : Effect → Type 0) (b : Bool) (e f : Effect) → (b ≡ true → P e) → P f → P (if b then e else f)
either_by P true e f h k = h refl
either_by P false e f h k = k

-- only a link that is quiet on repeats answers with nothing
pub other_holds : (P : Effect → Type 0) (x : ℕ) (s : State) →
    ((left : ℕ) (passed : Option ℕ) → P (answers (keeping s left passed) (rr (last_received s)) nothing)) →
    ((left : ℕ) (passed : Option ℕ) → P (answers (keeping s left passed) (rj (last_received s)) nothing)) →
    ((left : ℕ) (passed : Option ℕ) → IsQuiet s → P (quiet (keeping s left passed))) →
    P (on_other x s)
other_holds P x s as_rr as_rj silent =
    either_by P s.own.quiet (on_repeat x s) _
    (λ is. either P (has_rejected s) _ _
    (either P (begins_anew s.passed x s) _ _ (as_rr _ _) (silent _ _ is))
    (either P (x == last_received s) _ _ (as_rr _ _) (as_rj _ _)))
    (either P (has_rejected s) _ _ (as_rr _ _) (as_rj _ _))
