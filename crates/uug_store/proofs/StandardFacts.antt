-- Texts of jobs whose reading is known, and lines that are printed, so that a wrong definition does not check.
use Rattle.std.proofs.Common.{◌≡◌, [], ◌∷◌, ◌++◌, codes, replicate, Some, None, Ok, Err, refl}
use Rattle.std.specs.Fmt.{digits}
use Rattle.uug_conversation.specs.declared.side.Side.TheVariants.{Caller, Called}
use Rattle.uug_session.specs.declared.end.End.TheVariants.{Done, SpoolFault}
use Rattle.uug_conversation.specs.declared.job.Job.{Job}
use Rattle.uug_conversation.specs.declared.job.Job.TheVariants.{Send, Request}
use Rattle.uug_session.specs.declared.phase.Phase.TheVariants.{Ended}
use Rattle.uug_conversation.specs.declared.queue.TheConstants.{JOBS_MAX}
use Rattle.uug_conversation.specs.Jobs.{at_start}
use Rattle.uug_talk.specs.Lines.{ended}
use Rattle.uug_store.specs.JobsText.{jobs_of, job_line, jobs_text, with_line, one_job}
use Rattle.uug_store.specs.EndReport.{state_line, failed_lines}

abbrev sent : Job
sent = Send (codes "x") (codes "y") (codes "u") None

abbrev asked : Job
asked = Request (codes "q") (codes "y") (codes "u")

-- texts
record AreJobs : Type 0 where
  none : jobs_of [] ≡ Ok []
  one : jobs_of (ended (codes "send x y u")) ≡ Ok (sent ∷ [])
  no_last_feed : jobs_of (codes "send x y u") ≡ Ok (sent ∷ [])
  two : jobs_of (ended (codes "send x y u") ++ codes "request q y u") ≡ Ok (sent ∷ asked ∷ [])
  spaces : jobs_of (ended (codes "  send  x y   u ")) ≡ Ok (sent ∷ [])
  passed_over : jobs_of (ended [] ++ ended (codes "  ") ++ ended (codes " #send x") ++ codes "send x y u") ≡ Ok (sent ∷ [])
  few_words : jobs_of (codes "send x y") ≡ Err 1
  many_words : jobs_of (ended (codes "# jobs") ++ codes "send x y u D.0") ≡ Err 2
  other_word : jobs_of (ended (codes "send x y u") ++ ended [] ++ codes "fetch x y u") ≡ Err 3
  first_bad : jobs_of (ended (codes "send x y u") ++ ended (codes "x") ++ codes "y") ≡ Err 2
  no_name : jobs_of (codes "send x y " ++ 1 ∷ []) ≡ Err 1
  tab : jobs_of (codes "send x y" ++ 9 ∷ codes "u") ≡ Err 1

jobs : AreJobs
jobs = record {
  none = refl;
  one = refl;
  no_last_feed = refl;
  two = refl;
  spaces = refl;
  passed_over = refl;
  few_words = refl;
  many_words = refl;
  other_word = refl;
  first_bad = refl;
  no_name = refl;
  tab = refl;
}

-- the most jobs, and one more
a_job_too_many : with_line (one_job sent) (replicate JOBS_MAX asked) ≡ None
a_job_too_many = refl

-- what is written
record AreTexts : Type 0 where
  send : job_line sent ≡ ended (codes "send x y u")
  copied : job_line (Send (codes "x") (codes "y") (codes "u") (Some (codes "D.0"))) ≡ ended (codes "send x y u")
  request : job_line asked ≡ ended (codes "request q y u")
  text : jobs_text (sent ∷ asked ∷ []) ≡ ended (codes "send x y u") ++ ended (codes "request q y u")

texts : AreTexts
texts = record { send = refl; copied = refl; request = refl; text = refl }

struck_one : state_line Caller (Ended Done) (at_start [] (sent ∷ []) []) ≡ ended (codes "caller done pending 0 struck 1 failed 0")
unfolding digits
struck_one = refl

one_of_each : state_line Called (Ended SpoolFault) (at_start (sent ∷ []) (asked ∷ []) (sent ∷ [])) ≡ ended (codes "called spoolfault pending 1 struck 1 failed 1")
unfolding digits
one_of_each = refl

failed_two : failed_lines Called (sent ∷ asked ∷ []) ≡ ended (codes "called failed send x y u") ++ ended (codes "called failed request q y u")
failed_two = refl
