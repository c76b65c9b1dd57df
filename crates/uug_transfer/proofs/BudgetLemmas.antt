-- Each thing that is outcome leaves fewer turns.
use Rattle.std.proofs.Common.{◌≡◌, ℕ, zero, suc, ◌-◌, ◌<◌, refl, sym, subst, arith}
use Rattle.uug_transfer.specs.ReadOutcomes.{IsWithin}
use Rattle.uug_transfer.specs.ReadBudgets.{Lasts, bytes_left, silences_left, stalls_left, turns_left}
use Rattle.uug_transfer.specs.declared.read_budget.TheConstants.{STALLS_MAX}
use Rattle.uug_transfer.specs.declared.read_outcome.ReadOutcome.{ReadOutcome}
use Rattle.uug_transfer.specs.declared.read_outcome.ReadOutcome.TheVariants.{Bytes, TimedOut, Eof}

fewer : (bytes silences room : ℕ) (outcome : ReadOutcome) → Lasts bytes silences → IsWithin room outcome
    → turns_left (bytes_left bytes outcome) (silences_left silences outcome) < turns_left bytes silences
fewer bytes silences room (Bytes n) lasts within = omega (arith, lasts.reads, lasts.waits, within.0)
fewer bytes silences room TimedOut lasts within = omega (arith, lasts.reads, lasts.waits)
fewer bytes silences room Eof lasts within = omega (arith, lasts.reads, lasts.waits)

pub fewer_then : (bytes silences bytes_then silences_then room : ℕ) (outcome : ReadOutcome) → Lasts bytes silences → IsWithin room outcome
    → bytes_then ≡ bytes_left bytes outcome → silences_then ≡ silences_left silences outcome
    → turns_left bytes_then silences_then < turns_left bytes silences
fewer_then bytes silences bytes_then silences_then room outcome lasts within left quiet =
    subst (λ (b : ℕ). turns_left b silences_then < turns_left bytes silences) (sym left)
    (subst (λ (s : ℕ). turns_left (bytes_left bytes outcome) s < turns_left bytes silences) (sym quiet)
    (fewer bytes silences room outcome lasts within))

-- a write has taken nothing, or something
pub one_fewer : (left count : ℕ) → count ≡ 0 → left - 1 ≡ stalls_left left count
one_fewer left zero none = refl
one_fewer left (suc n) none = omega (arith, none)

pub all_again : (left count : ℕ) → (count ≡ 0 → ⊥) → STALLS_MAX ≡ stalls_left left count
all_again left zero some = absurd (some refl)
all_again left (suc n) some = refl
