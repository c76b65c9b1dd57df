-- The number of an end at its line stands as its session does.
use Rattle.std.proofs.Common.{◌≡◌, Ok, Err, Result, sym, subst}
use Rattle.std.specs.Result.{IsErr, IsErrAnd}
use Rattle.uug_session.specs.Engine.{EngineState}
use Rattle.uug_session.specs.Node.{NodeState}
use Rattle.uug_session.specs.NumberStanding.{KeepsNumber}
use Rattle.uug_transfer.specs.declared.session_fault.SessionFault.{SessionFault}
use Rattle.uug_transfer.specs.declared.session_fault.SessionFault.TheVariants as fault
use Rattle.uug_transfer.specs.SessionFaults.{UnlessRefused}

pub same : {a b : NodeState} → b ≡ a → KeepsNumber a.engine b.engine
same {a = a} e = subst (λ (n : NodeState). KeepsNumber a.engine n.engine) (sym e) (record { stands = λ number h. h })

pub later : {a b c : EngineState} → KeepsNumber a b → KeepsNumber b c → KeepsNumber a c
later first second = record { stands = λ number h. second.stands number (first.stands number h) }

pub unless_refused : {T : Type 0} (r : Result T SessionFault) (P : Type 0) → P → UnlessRefused r P
unless_refused (Ok value) P p = p
unless_refused (Err fault.Jobs) P p = p
unless_refused (Err fault.Number) P p = p
unless_refused (Err fault.Memory) P p = tt

pub later_unless : {T : Type 0} (r : Result T SessionFault) (a b c : EngineState) → UnlessRefused r (KeepsNumber a b) → KeepsNumber b c
    → UnlessRefused r (KeepsNumber a c)
later_unless (Ok value) a b c first second = later first second
later_unless (Err fault.Jobs) a b c first second = later first second
later_unless (Err fault.Number) a b c first second = later first second
later_unless (Err fault.Memory) a b c first second = tt

-- a fault that is handed on
pub unless_handed_on : {T : Type 0} (r : Result T SessionFault) (fault : SessionFault) (P : Type 0)
    → IsErr r × IsErrAnd r (λ other. other ≡ fault) → UnlessRefused {T = T} (Err fault) P → UnlessRefused r P
unless_handed_on (Ok value) fault P h p = absurd (cc h.0)
unless_handed_on {T = T} (Err other) fault P h p = subst (λ (f : SessionFault). UnlessRefused {T = T} (Err f) P) (sym h.1) p
