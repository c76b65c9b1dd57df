-- What is said of a job that was given up, or put off, so that a wrong definition does not check.
use Rattle.std.proofs.Common.{◌≡◌, true, false, [], ◌∷◌, ◌++◌, codes, None, refl}
use Rattle.std.specs.Fmt.{digits}
use Rattle.uug_conversation.specs.declared.job.Job.{Job}
use Rattle.uug_conversation.specs.declared.job.Job.TheVariants.{Request, Send}
use Rattle.uug_store.specs.declared.notices.WhyFailed.TheVariants.{NoFile, NotGiven, Refused}
use Rattle.uug_session.specs.declared.end.End.TheVariants.{Done, HungUp}
use Rattle.uug_session.specs.declared.phase.Phase.TheVariants.{Ended}
use Rattle.uug_observe.specs.JobRemarks.{failed_words, job_line, put_off_remark}

abbrev a_send : Job
a_send = Send (codes "x") (codes "~/d/y") (codes "me") None

abbrev a_request : Job
a_request = Request (codes "x") (codes "y") (codes "me")

abbrev a_plain_send : Job
a_plain_send = Send (codes "x") (codes "y") (codes "me") None

record AreSaid : Type 0 where
  sized : job_line a_plain_send (failed_words [] [] a_plain_send Refused 5)
      ≡ codes "uucpair: send x y me: refused by the other end: maybe 5 bytes are over its --file-limit, or a folder has that name there" ++ 10 ∷ []
  sent : job_line a_send (failed_words [] [] a_send Refused 5)
      ≡ codes "uucpair: send x ~/d/y me: refused by the other end: in a folder a target is a name, NAME or ~/NAME, without a leading dot" ++ 10 ∷ []
  missing : job_line a_send (failed_words (codes "a") [] a_send NoFile 5) ≡ codes "uucpair: send x ~/d/y me: no file a/send/x" ++ 10 ∷ []
  large : job_line a_send (failed_words (codes "a") (codes "x" ∷ []) a_send NoFile 5)
      ≡ codes "uucpair: send x ~/d/y me: a/send/x is larger than --file-limit" ++ 10 ∷ []
  asked : job_line a_request (failed_words [] [] a_request NotGiven 0) ≡ codes "uucpair: request x y me: not given by the other end: no such file in its send, or barred there; or it can't be put in its place here" ++ 10 ∷ []
  put_off : put_off_remark (Ended Done) false (a_send ∷ []) ≡ codes "uucpair: send x ~/d/y me: put off: the other end will take it later" ++ 10 ∷ []
  not_given : put_off_remark (Ended Done) true (a_request ∷ []) ≡ codes "uucpair: request x y me: put off: the other end will give it later, or the digest was wrong" ++ 10 ∷ []
  broken_off : put_off_remark (Ended HungUp) true (a_send ∷ []) ≡ []

said : AreSaid
unfolding digits
said = record { sized = refl; sent = refl; missing = refl; large = refl; asked = refl; put_off = refl; not_given = refl; broken_off = refl }
