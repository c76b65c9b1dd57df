-- Why the jobs of an end are not done, told from a report and from what the spools of both ends give and accept (this
-- project's profile). Which answers fail a job and which put it off is in the turns of one job (Taylor UUCP manual, "UUCP
-- Protocol").
use Rattle.std.specs.Prelude.{ℕ, Bool, List, [], ◌∷◌, ◌++◌, codes, Option, Some, None, if◌then◌else◌}
use Rattle.uug_conversation.specs.declared.job.Job.{Job}
use Rattle.uug_conversation.specs.declared.job.Job.TheVariants.{Send, Request}
use Rattle.uug_session.specs.declared.end.End.{End}
use Rattle.uug_session.specs.declared.end.End.TheVariants.{Done}
use Rattle.uug_session.specs.declared.phase.Phase.{Phase}
use Rattle.uug_session.specs.declared.phase.Phase.TheVariants.{Hail, Starting, Talking, Closing, Ended}
use Rattle.uug_conversation.specs.declared.verdict.Verdict.{Verdict}
use Rattle.uug_conversation.specs.declared.verdict.Verdict.TheVariants.{Yes, Never, Later}
use Rattle.uug_conversation.specs.Choice.{fetched_by}
use Rattle.uug_conversation.specs.Holdings.{File, Holdings, to_give}
use Rattle.uug_conversation.specs.Jobs.{Lists, pending}
use Rattle.uug_conversation.specs.MemoryHoldings.{MemoryHoldings, holdings_of}
use Rattle.uug_conversation.specs.Partials.{holding}
use Rattle.uug_session.specs.Phases.{phase_at}
use Rattle.uug_conversation.specs.declared.side.Side.{Side}
use Rattle.uug_conversation.specs.declared.side.Side.TheVariants.{Caller, Called}
use Rattle.uug_conversation.specs.Sides.{AtBoth}
use Rattle.uug_line.specs.Told.{EndNow, SpelledReport}
use Rattle.uug_sim_script.specs.JobWords.{job_text}
use Rattle.uug_talk.specs.Lines.{ended}
use Rattle.uug_sim_play.specs.declared.reasons.Reason.{Reason}
use Rattle.uug_sim_play.specs.declared.reasons.Reason.TheVariants.{NoFile, NoFileThere, Refused, NoPlace, NoPlaceThere, PutOff, Differs, Over, GoesOn}

-- ---- of a job that was given up

-- by the end's own file, and what the other end says to the name under which it would come there
abbrev pub failed_send : Option File → Verdict → Reason
failed_send None verdict = NoFile
failed_send (Some file) Never = Refused
failed_send (Some file) Yes = NoPlaceThere
failed_send (Some file) Later = NoPlaceThere

-- by the other end's file
abbrev pub failed_request : Option File → Reason
failed_request None = NoFileThere
failed_request (Some file) = NoPlace

abbrev pub failed_reason : (own others : Holdings) → Job → Reason
failed_reason own others (Send source target user temp) =
    failed_send (to_give own (fetched_by source temp)) (others.verdict target)
failed_reason own others (Request source target user) = failed_request (to_give others source)

-- ---- of a job that is pending

-- A session that ended well came to each job. Where the other end compares digests, one that is left was put off by them.
abbrev pub ended_reason : (digests : Bool) → End → Reason
ended_reason digests Done = if digests then Differs else Over
ended_reason digests _ = Over

-- by whether the other end tells digests, and compares those that it is told
abbrev pub pending_in : (digests : Bool) → Phase → Reason
pending_in digests Hail = GoesOn
pending_in digests Starting = GoesOn
pending_in digests Talking = GoesOn
pending_in digests Closing = GoesOn
pending_in digests (Ended end) = ended_reason digests end

abbrev pub pending_send : Verdict → (digests : Bool) → Phase → Reason
pending_send Later digests phase = PutOff
pending_send Yes digests phase = pending_in digests phase
pending_send Never digests phase = pending_in digests phase

abbrev pub pending_reason : Phase → (others : Holdings) → Job → Reason
pending_reason phase others (Send source target user temp) = pending_send (others.verdict target) others.digests phase
pending_reason phase others (Request source target user) = pending_in others.digests phase

-- ---- as it is written

abbrev pub reason_words : Reason → List ℕ
reason_words NoFile = codes "no such file"
reason_words NoFileThere = codes "no such file at the other end"
reason_words Refused = codes "refused by the other end"
reason_words NoPlace = codes "can't be put in its place"
reason_words NoPlaceThere = codes "can't be put in its place at the other end"
reason_words PutOff = codes "put off: the other end will take it later"
reason_words Differs = codes "put off: the file that came differs from its digest"
reason_words Over = codes "not done: the session ended first"
reason_words GoesOn = codes "not done: the session goes on"

-- the job as its line in the script gives it, and why it is not done
abbrev pub reason_line : Side → Job → Reason → List ℕ
reason_line side job reason = ended (job_text side job ++ codes ": " ++ reason_words reason)

abbrev pub failed_lines : Side → (own others : Holdings) → List Job → List ℕ
failed_lines side own others [] = []
failed_lines side own others (job ∷ more) =
    reason_line side job (failed_reason own others job) ++ failed_lines side own others more

abbrev pub pending_lines : Side → Phase → (others : Holdings) → List Job → List ℕ
pending_lines side phase others [] = []
pending_lines side phase others (job ∷ more) =
    reason_line side job (pending_reason phase others job) ++ pending_lines side phase others more

abbrev pub phase_now : EndNow → Phase
phase_now now = phase_at now.stage now.link.phase

-- the jobs that an end has given up, and those that are pending
abbrev pub end_reasons : Side → Lists → EndNow → (own others : Holdings) → List ℕ
end_reasons side lists now own others =
    failed_lines side own others lists.failed ++ pending_lines side (phase_now now) others (pending lists)

-- the caller's, and those of the called end
abbrev pub reasons_text : SpelledReport → AtBoth Holdings → List ℕ
reasons_text r h =
    end_reasons Caller r.belongings.at_caller.lists r.ends.at_caller h.at_caller h.at_called
    ++ end_reasons Called r.belongings.at_called.lists r.ends.at_called h.at_called h.at_caller

-- what a spool in memory gives and accepts, whatever it holds of files that were cut off
abbrev pub given_by : MemoryHoldings → Holdings
given_by spool = holding None (holdings_of spool)

-- the same of two spools
abbrev pub holdings_in : AtBoth MemoryHoldings → AtBoth Holdings
holdings_in spools = record { at_caller = given_by spools.at_caller; at_called = given_by spools.at_called }
