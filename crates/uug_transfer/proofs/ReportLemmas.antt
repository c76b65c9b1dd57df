-- What is appended for an end, and then for the other.
use Rattle.std.proofs.Common.{◌≡◌, ℕ, List, ◌++◌, subst, append_assoc}
use Rattle.uug_conversation.specs.Jobs.{Lists}
use Rattle.uug_conversation.specs.declared.side.Side.{Side}
use Rattle.uug_conversation.specs.declared.side.Side.TheVariants.{Caller, Called}
use Rattle.uug_session.specs.Node.{NodeState}
use Rattle.uug_session.specs.declared.phase.Phase.{Phase}
use Rattle.uug_transfer.specs.Ends.{jobs_of_end, phase_of_end, report_of_both}
use Rattle.uug_store.specs.EndReport.{state_line, failed_lines}

pub state_behind : (side : Side) (phase same_phase : Phase) (jobs same_jobs : Lists) (before after : List ℕ) → phase ≡ same_phase
    → jobs ≡ same_jobs → after ≡ before ++ state_line side phase jobs → after ≡ before ++ state_line side same_phase same_jobs
state_behind side phase same_phase jobs same_jobs before after p j h =
    subst (λ (x : Phase). after ≡ before ++ state_line side x same_jobs) p
    (subst (λ (x : Lists). after ≡ before ++ state_line side phase x) j h)

pub failed_behind : (side : Side) (jobs same_jobs : Lists) (before after : List ℕ) → jobs ≡ same_jobs
    → after ≡ before ++ failed_lines side jobs.failed → after ≡ before ++ failed_lines side same_jobs.failed
failed_behind side jobs same_jobs before after j h = subst (λ (x : Lists). after ≡ before ++ failed_lines side x.failed) j h

-- four texts that are appended in turn stand behind what was there before
four_behind : (front first second third fourth a b c d : List ℕ) → first ≡ front ++ a → second ≡ first ++ b → third ≡ second ++ c
    → fourth ≡ third ++ d → fourth ≡ front ++ (a ++ b ++ c ++ d)
four_behind front first second third fourth a b c d is-first is-second is-third is-fourth =
    cc (append_assoc front (a ++ b ++ c) d, append_assoc front (a ++ b) c, append_assoc front a b)

pub report_behind : (caller called : NodeState) (front first second third fourth : List ℕ)
    → first ≡ front ++ state_line Caller (phase_of_end caller) (jobs_of_end caller)
    → second ≡ first ++ state_line Called (phase_of_end called) (jobs_of_end called)
    → third ≡ second ++ failed_lines Caller (jobs_of_end caller).failed
    → fourth ≡ third ++ failed_lines Called (jobs_of_end called).failed → fourth ≡ front ++ report_of_both caller called
report_behind caller called front first second third fourth is-first is-second is-third is-fourth =
    four_behind front first second third fourth (state_line Caller (phase_of_end caller) (jobs_of_end caller))
    (state_line Called (phase_of_end called) (jobs_of_end called)) (failed_lines Caller (jobs_of_end caller).failed)
    (failed_lines Called (jobs_of_end called).failed) is-first is-second is-third is-fourth
