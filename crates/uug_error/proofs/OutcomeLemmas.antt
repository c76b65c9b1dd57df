-- What a session comes to, by the program's answer.
use Rattle.std.proofs.Common.{◌≡◌, ◌⊎◌, inl, inr, ℕ, Option, Some, None, Result, Ok, Err, refl, subst, sym, ◌∙◌}
use Rattle.std.specs.Prelude.{IfErr, IfOk, IsSome}
use Rattle.uug_stream.specs.declared.fault.ToolFault.{ToolFault}
use Rattle.uug_stream.specs.declared.fault.ToolFault.TheVariants as faults
use Rattle.uug_error.specs.Failures.{fault_with}
use Rattle.uug_error.specs.Faults.{IsFaultAtLine}
use Rattle.uug_error.specs.Outcomes.{ended_of}
use Rattle.uug_error.specs.declared.failure.SystemFailure.{SystemFailure}
use Rattle.uug_error.specs.declared.outcome.Ended.{Ended}
use Rattle.uug_error.specs.declared.run_fault.RunFault.{RunFault}
use Rattle.uug_error.specs.declared.run_fault.RunFault.TheVariants.{System, Tool, Unread}

well_of : (P : ℕ → Type 0) (answer : Result ℕ ToolFault) (failure : Option SystemFailure)
    → IfOk answer P → IfOk (ended_of answer failure) (λ (ended : Ended). P ended.status)
well_of P (Ok status) failure h = h
well_of P (Err fault) failure h = h

pub ended_well : (P : ℕ → Type 0) (answer : Result ℕ ToolFault) (failure : Option SystemFailure) (r : Result Ended RunFault)
    → r ≡ ended_of answer failure → IfOk answer P → IfOk r (λ (ended : Ended). P ended.status)
ended_well P answer failure r is h = subst (λ (x : Result Ended RunFault). IfOk x (λ (ended : Ended). P ended.status)) (sym is) (well_of P answer failure h)

-- ---- the faults

pub with_write : (fault : ToolFault) (failure : Option SystemFailure) → fault_with fault failure ≡ Tool faults.Write → fault ≡ faults.Write
with_write faults.Write failure e = refl
with_write faults.Device (Some f) e = absurd (cc e)
with_write faults.Device None e = absurd (cc e)
with_write faults.Read (Some f) e = absurd (cc e)
with_write faults.Read None e = absurd (cc e)
with_write faults.Memory failure e = absurd (cc e)
with_write faults.Usage failure e = absurd (cc e)
with_write (faults.Script line) failure e = absurd (cc e)
with_write (faults.Jobs line) failure e = absurd (cc e)

write_of : (answer : Result ℕ ToolFault) (failure : Option SystemFailure)
    → ended_of answer failure ≡ Err (Tool faults.Write) → answer ≡ Err faults.Write
write_of (Ok status) failure e = absurd (cc e)
write_of (Err fault) failure e = cc (with_write fault failure (cc e))

pub ended_write : (answer : Result ℕ ToolFault) (failure : Option SystemFailure) (r : Result Ended RunFault)
    → r ≡ ended_of answer failure → r ≡ Err (Tool faults.Write) → answer ≡ Err faults.Write
ended_write answer failure r is e = write_of answer failure (sym is ∙ e)

-- where a device fault is the line's unless a call is known that failed
pub with_line : (Q : Type 0) (fault : ToolFault) (failure : Option SystemFailure) → (fault ≡ faults.Device → IsSome failure ⊎ Q)
    → fault_with fault failure ≡ Tool faults.Device → Q
with_line Q faults.Device None known e = elim (known refl) [ inl some ↦ absurd (cc some) | inr q ↦ q ]
with_line Q faults.Device (Some f) known e = absurd (cc e)
with_line Q faults.Read (Some f) known e = absurd (cc e)
with_line Q faults.Read None known e = absurd (cc e)
with_line Q faults.Write failure known e = absurd (cc e)
with_line Q faults.Memory failure known e = absurd (cc e)
with_line Q faults.Usage failure known e = absurd (cc e)
with_line Q (faults.Script line) failure known e = absurd (cc e)
with_line Q (faults.Jobs line) failure known e = absurd (cc e)

line_of : (Q : Type 0) (answer : Result ℕ ToolFault) (failure : Option SystemFailure)
    → (answer ≡ Err faults.Device → IsSome failure ⊎ Q) → ended_of answer failure ≡ Err (Tool faults.Device) → Q
line_of Q (Ok status) failure known e = absurd (cc e)
line_of Q (Err fault) failure known e = with_line Q fault failure (λ is. known (cc is)) (cc e)

pub ended_line : (Q : Type 0) (answer : Result ℕ ToolFault) (failure : Option SystemFailure) (r : Result Ended RunFault)
    → r ≡ ended_of answer failure → (answer ≡ Err faults.Device → IsSome failure ⊎ Q) → r ≡ Err (Tool faults.Device) → Q
ended_line Q answer failure r is known e = line_of Q answer failure known (sym is ∙ e)

pub with_no_other : (fault : ToolFault) (failure : Option SystemFailure) → IsFaultAtLine (Tool fault) → IsFaultAtLine (fault_with fault failure)
with_no_other faults.Device (Some f) h = tt
with_no_other faults.Device None h = tt
with_no_other faults.Read (Some f) h = absurd h
with_no_other faults.Read None h = absurd h
with_no_other faults.Write failure h = tt
with_no_other faults.Memory failure h = tt
with_no_other faults.Usage failure h = absurd h
with_no_other (faults.Script line) failure h = absurd h
with_no_other (faults.Jobs line) failure h = tt

no_other_of : (answer : Result ℕ ToolFault) (failure : Option SystemFailure)
    → IfErr answer (λ (fault : ToolFault). IsFaultAtLine (Tool fault)) → IfErr (ended_of answer failure) IsFaultAtLine
no_other_of (Ok status) failure h = tt
no_other_of (Err fault) failure h = with_no_other fault failure h

pub ended_no_other : (answer : Result ℕ ToolFault) (failure : Option SystemFailure) (r : Result Ended RunFault)
    → r ≡ ended_of answer failure → IfErr answer (λ (fault : ToolFault). IsFaultAtLine (Tool fault)) → IfErr r IsFaultAtLine
ended_no_other answer failure r is h = subst (λ (x : Result Ended RunFault). IfErr x IsFaultAtLine) (sym is) (no_other_of answer failure h)
