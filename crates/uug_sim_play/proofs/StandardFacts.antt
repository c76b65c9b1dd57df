-- What reports show, and the statuses that they give, computed from the definitions: a wrong rule in them does not check.
use Rattle.std.proofs.Common.{◌≡◌, true, ℕ, List, [], ◌∷◌, codes, Some, None, refl}
use Rattle.uug_session.specs.declared.end.End.TheVariants.{Done, HungUp}
use Rattle.uug_conversation.specs.declared.job.Job.{Job}
use Rattle.uug_conversation.specs.declared.job.Job.TheVariants.{Send, Request}
use Rattle.uug_session.specs.declared.phase.Phase.{Phase}
use Rattle.uug_session.specs.declared.phase.Phase.TheVariants.{Closing, Ended}
use Rattle.uug_conversation.specs.Holdings.{Holdings, Kept, kept_file}
use Rattle.uug_conversation.specs.MemoryHoldings.{holdings_of, no_holdings}
use Rattle.uug_conversation.specs.Partial.{Partial}
use Rattle.uug_conversation.specs.declared.side.Side.TheVariants.{Caller, Called}
use Rattle.uug_line.specs.declared.verdict.LineVerdict.{LineVerdict}
use Rattle.uug_line.specs.declared.verdict.LineVerdict.TheVariants.{Clean, Fooled}
use Rattle.uug_line.specs.Belongings.{Belongings}
use Rattle.uug_line.specs.Told.{EndNow, SpelledEnd, SpelledReport}
use Rattle.uug_conversation.specs.Sides.{AtBoth}
use Rattle.uug_sim_script.specs.ReportText.{RunResult}
use Rattle.uug_sim_script.specs.declared.report.HeldFile.{HeldFile}
use Rattle.uug_talk.specs.Lines.{ended}
use Rattle.uug_sim_play.specs.declared.reasons.Reason.TheVariants.{NoFile, NoFileThere, Refused, NoPlace, NoPlaceThere, PutOff, Differs, Over, GoesOn}
use Rattle.uug_sim_play.specs.Numbers.{result_of, status_of_result}
use Rattle.uug_sim_play.specs.Reasons.{failed_reason, pending_reason, reason_line}

-- ---- what is shown of a report

-- three messages sent, one taken, two packets that came to places
abbrev at_work : SpelledEnd
at_work = record {
  sent = codes "a" ∷ codes "b" ∷ codes "c" ∷ [];
  taken = codes "d" ∷ [];
  packets = [];
  arrivals = 0 ∷ 1 ∷ [];
  most = 5;
  phase = Closing;
}

abbrev at_rest : SpelledEnd
at_rest = record { sent = []; taken = []; packets = []; arrivals = []; most = 0; phase = Ended HungUp }

abbrev job : Job
job = Send (codes "x") (codes "y") (codes "u") None

abbrev stored : List Kept
stored = kept_file (codes "y") 420 [] ∷ []

-- of a file of which six bytes were told
abbrev cut_off : (source bytes : List ℕ) → Partial
cut_off source bytes = record { key = record { source = source; told = record { size = 6; hash = [] } }; bytes = bytes }

abbrev held : (name : List ℕ) → (size : ℕ) → HeldFile
held name size = record { name = name; size = size }

-- jobs that were skipped are pending, too
abbrev some_jobs : Belongings
some_jobs = record {
  lists = record { passed = job ∷ []; ahead = job ∷ job ∷ []; struck = job ∷ []; failed = job ∷ job ∷ [] };
  kept = [];
  partials = Some (cut_off (codes "x") (codes "hello") ∷ cut_off (codes "D.1") [] ∷ []);
  number = Some 7;
}

abbrev no_jobs : Belongings
no_jobs = record {
  lists = record { passed = []; ahead = []; struck = []; failed = [] };
  kept = stored;
  partials = None;
  number = None;
}

-- however the ends stand, which is not shown
abbrev report : AtBoth EndNow → SpelledReport
report ends = record {
  sessions = record { at_caller = at_work; at_called = at_rest } ∷ [];
  ends = ends;
  belongings = record { at_caller = some_jobs; at_called = no_jobs };
  verdict = Fooled 14 Called;
}

abbrev shown : RunResult
shown = record {
  sessions = record {
    caller = record { sent = 3; taken = 1; most = 5; phase = Closing };
    called = record { sent = 0; taken = 0; most = 0; phase = Ended HungUp };
  } ∷ [];
  caller = record { pending = 3; struck = 1; failed = 2; stored = []; held = held (codes "x") 5 ∷ held (codes "D.1") 0 ∷ []; number = Some 7 };
  called = record { pending = 0; struck = 0; failed = 0; stored = stored; held = []; number = None };
  verdict = Fooled 14 Called;
}

a_report : (ends : AtBoth EndNow) → result_of (report ends) ≡ shown
a_report ends = refl

-- ---- the status

abbrev with_phase : Phase → SpelledEnd
with_phase phase = record { sent = []; taken = []; packets = []; arrivals = []; most = 0; phase = phase }

-- a session in which the ends came so far
abbrev session : (caller called : Phase) → AtBoth SpelledEnd
session caller called = record { at_caller = with_phase caller; at_called = with_phase called }

abbrev status : AtBoth EndNow → LineVerdict → List (AtBoth SpelledEnd) → ℕ
status ends verdict sessions = status_of_result (result_of (record {
  sessions = sessions;
  ends = ends;
  belongings = record { at_caller = no_jobs; at_called = no_jobs };
  verdict = verdict;
}))

abbrev done : AtBoth SpelledEnd
done = session (Ended Done) (Ended Done)

abbrev broken_off : AtBoth SpelledEnd
broken_off = session (Ended HungUp) (Ended HungUp)

-- the last session counts
last_is_done : (ends : AtBoth EndNow) → status ends Clean (broken_off ∷ done ∷ []) ≡ 0
last_is_done ends = refl

last_is_not_done : (ends : AtBoth EndNow) → status ends Clean (done ∷ broken_off ∷ []) ≡ 1
last_is_not_done ends = refl

-- one end alone is not enough, nor is an end that is not over
caller_alone : (ends : AtBoth EndNow) → status ends Clean (session (Ended Done) (Ended HungUp) ∷ []) ≡ 1
caller_alone ends = refl

called_alone : (ends : AtBoth EndNow) → status ends Clean (session Closing (Ended Done) ∷ []) ≡ 1
called_alone ends = refl

no_session : (ends : AtBoth EndNow) → status ends Clean [] ≡ 1
no_session ends = refl

-- a run that was fooled never ends as done
fooled_when_done : (ends : AtBoth EndNow) → status ends (Fooled 14 Caller) (done ∷ []) ≡ 5
fooled_when_done ends = refl

-- ---- why jobs are not done

-- an end that has the file x, and one that has none, refuses y, and takes z later
abbrev with_x : Holdings
with_x = holdings_of (record no_holdings { files = kept_file (codes "x") 420 [] ∷ [] })

abbrev choosy : Holdings
choosy = holdings_of (record no_holdings { denied = codes "y" ∷ []; postponed = codes "z" ∷ [] })

abbrev sends : (source target : List ℕ) → Job
sends source target = Send source target (codes "u") None

no_file : failed_reason choosy with_x (sends (codes "x") (codes "w")) ≡ NoFile
no_file = refl

-- the copy is looked for, not the file of which it was made
no_copy : failed_reason with_x choosy (Send (codes "x") (codes "y") (codes "u") (Some (codes "D"))) ≡ NoFile
no_copy = refl

refused : failed_reason with_x choosy (sends (codes "x") (codes "y")) ≡ Refused
refused = refl

no_place_there : failed_reason with_x choosy (sends (codes "x") (codes "w")) ≡ NoPlaceThere
no_place_there = refl

-- what is asked for is looked for at the other end
no_file_there : failed_reason with_x choosy (Request (codes "x") (codes "w") (codes "u")) ≡ NoFileThere
no_file_there = refl

no_place : failed_reason choosy with_x (Request (codes "x") (codes "w") (codes "u")) ≡ NoPlace
no_place = refl

put_off : pending_reason Closing choosy (sends (codes "x") (codes "z")) ≡ PutOff
put_off = refl

-- the target is put off, not the file
over : pending_reason (Ended HungUp) choosy (sends (codes "z") (codes "x")) ≡ Over
over = refl

-- of an end that was there to the end, and compares digests
abbrev comparing : Holdings
comparing = record choosy { digests = true }

differs : pending_reason (Ended Done) comparing (sends (codes "x") (codes "w")) ≡ Differs
differs = refl

differs_here : pending_reason (Ended Done) comparing (Request (codes "x") (codes "w") (codes "u")) ≡ Differs
differs_here = refl

over_before : pending_reason (Ended HungUp) comparing (sends (codes "x") (codes "w")) ≡ Over
over_before = refl

over_uncompared : pending_reason (Ended Done) choosy (sends (codes "x") (codes "w")) ≡ Over
over_uncompared = refl

goes_on : pending_reason Closing choosy (Request (codes "z") (codes "z") (codes "u")) ≡ GoesOn
goes_on = refl

a_line : reason_line Called (sends (codes "x") (codes "y")) Refused ≡ ended (codes "send called x y u: refused by the other end")
a_line = refl
