-- What a program has of a run, for another to go on from there (this project's profile).
use Rattle.std.specs.Prelude.{ℕ, List, map}
use Rattle.uug_conversation.specs.MemoryHoldings.{MemoryHoldings}
use Rattle.uug_session.specs.Node.{NodeState, node_of}
use Rattle.uug_line.specs.declared.report.LastEnd.{LastEnd}
use Rattle.uug_line.specs.declared.report.SessionReport.{SessionReport}
use Rattle.uug_line.specs.declared.verdict.LineVerdict.{LineVerdict}
use Rattle.uug_line.specs.JournalValue.{journal_by}
use Rattle.uug_line.specs.LineEndValue.{LineEndValue}
use Rattle.uug_line.specs.RunValue.{RunValue, held_parts, told_in_all}
use Rattle.uug_line.specs.Shown.{held_at, owned_by, session_shown, spool_of, stands_so}
use Rattle.uug_conversation.specs.Sides.{AtBoth}
use Rattle.uug_line.specs.Told.{SpelledEnd, SpelledReport}

-- an end as the run leaves it: its node, what is on the line from it, and how many of the other's packets it has found or
-- skipped
pub record EndLeft : Type 0 where
  pub node : NodeState
  pub line : List ℕ
  pub passed : ℕ

-- what is told, what is in the spools of the ends that the report lends, the bytes that these hold and have not taken up, and
-- the ends
pub record WholeReport : Type 0 where
  pub told : SpelledReport
  pub spools : AtBoth MemoryHoldings
  pub held : AtBoth (List ℕ)
  pub left : AtBoth EndLeft

-- ---- of the program's run

abbrev pub left_parts : LineEndValue → EndLeft
left_parts e = record { node = e.node; line = e.line; passed = e.journal.passed }

abbrev pub whole_report : RunValue → LineVerdict → WholeReport
whole_report r verdict = record {
  told = told_in_all r verdict;
  spools = record { at_caller = r.ends.at_caller.spool; at_called = r.ends.at_called.spool };
  held = held_parts r;
  left = record { at_caller = left_parts r.ends.at_caller; at_called = left_parts r.ends.at_called };
}

-- an end that goes on, of whose session this is told
abbrev pub part_from : SpelledEnd → EndLeft → MemoryHoldings → LineEndValue
part_from told left spool =
    record { node = left.node; spool = spool; journal = journal_by told left.passed; line = left.line }

-- ---- of the program's report

abbrev pub left_of : {A : Type 0} → LastEnd A → EndLeft
left_of e = record { node = node_of e.node.value; line = e.line; passed = e.passed }

-- a report of these sessions, with the ends as they stand then
abbrev pub report_shown : {A : Type 0} → List (SessionReport A) → (caller called : LastEnd A) → LineVerdict → WholeReport
report_shown sessions caller called verdict = record {
  told = record {
    sessions = map session_shown sessions;
    ends = record { at_caller = stands_so caller.node.value; at_called = stands_so called.node.value };
    belongings = record { at_caller = owned_by caller.node.value; at_called = owned_by called.node.value };
    verdict = verdict;
  };
  spools = record { at_caller = spool_of caller.node.value; at_called = spool_of called.node.value };
  held = record { at_caller = held_at caller.node.value; at_called = held_at called.node.value };
  left = record { at_caller = left_of caller; at_called = left_of called };
}
