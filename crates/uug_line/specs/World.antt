-- What a run tells; and the world, in which somebody who knows both ends' jobs and spools tells it (this project's
-- profile).
use Rattle.std.specs.Prelude.{List, [], ◌∷◌, ◌++◌, length}
use Rattle.uug_session.specs.Arriving.{Buffered}
use Rattle.uug_conversation.specs.Count.{Count}
use Rattle.uug_conversation.specs.DialogueState.{DialogueState}
use Rattle.uug_line.specs.declared.event.Event.{Event}
use Rattle.uug_line.specs.Belongings.{SetupValue}
use Rattle.uug_line.specs.LineEndState.{LineEndState}
use Rattle.uug_line.specs.Report.{end_now, report_of_end}
use Rattle.uug_line.specs.Run.{Run, end_at, has_now, run_of}
use Rattle.uug_line.specs.RunKeeper.{RunKeeper, by_themselves, by_numbers}
use Rattle.uug_conversation.specs.Sides.{at_each}
use Rattle.uug_line.specs.Told.{ReportValue}

abbrev pub report_of : {C : Type 0} → RunKeeper C → SetupValue → Run C → ReportValue
report_of k setup run = record {
  sessions = run.past ++ at_each (λ side. report_of_end (end_at side run).end) ∷ [];
  ends = at_each (λ side. end_now (end_at side run).end);
  belongings = at_each (has_now k setup run);
  verdict = run.verdict;
}

-- ---- the two ends themselves, and in the world

abbrev pub run_of_ends : SetupValue → List Event → Run DialogueState
run_of_ends setup events = run_of by_themselves setup events

abbrev pub world : SetupValue → List Event → Run Count
world setup events = run_of by_numbers setup events

abbrev pub report_of_ends : SetupValue → List Event → ReportValue
report_of_ends setup events = report_of by_themselves setup (run_of_ends setup events)

abbrev pub report_of_world : SetupValue → List Event → ReportValue
report_of_world setup events = report_of by_numbers setup (world setup events)

-- ---- the one as the other

-- all but its conversation, of which is told how many messages were sent and taken
abbrev pub count_of : LineEndState DialogueState → Count
count_of e = record { opened = e.state.keeper.opened; sent = length e.log.sent; taken = length e.log.taken }

abbrev pub counted_end : LineEndState DialogueState → LineEndState Count
counted_end e = record {
  state = record { stage = e.state.stage; link = e.state.link; keeper = count_of e; number = e.state.number };
  log = e.log;
  line = e.line;
}

abbrev pub counted_hearer : Buffered (LineEndState DialogueState) → Buffered (LineEndState Count)
counted_hearer h = record { held = h.held; end = counted_end h.end }

abbrev pub counted : Run DialogueState → Run Count
counted run = record {
  past = run.past;
  brought = run.brought;
  ends = at_each (λ side. counted_hearer (end_at side run));
  verdict = run.verdict;
}
