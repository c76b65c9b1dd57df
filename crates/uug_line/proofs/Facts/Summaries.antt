-- What the worked runs are compared by: the numbers that a report prints.
use Rattle.std.proofs.Common.{◌≡◌, ℕ, ◌==◌, Bool, true, false, ◌&&◌, List, [], ◌∷◌, length, map}
use Rattle.uug_link.specs.Arrivals.{same_message, same_packet}
use Rattle.uug_session.specs.Arriving.{Buffered}
use Rattle.uug_conversation.specs.Count.{Count}
use Rattle.uug_conversation.specs.Holdings.{Kept}
use Rattle.uug_conversation.specs.Jobs.{pending}
use Rattle.uug_line.specs.declared.event.Event.{Event}
use Rattle.uug_line.specs.declared.verdict.LineVerdict.{LineVerdict}
use Rattle.uug_line.specs.Belongings.{Belongings, SetupValue}
use Rattle.uug_line.specs.LineEndState.{JournalState, LineEndState}
use Rattle.uug_line.specs.Told.{EndReportValue, ReportValue}
use Rattle.uug_session.specs.declared.phase.Phase.{Phase}
use Rattle.uug_line.specs.Run.{run_of}
use Rattle.uug_line.specs.RunKeeper.{RunKeeper, by_themselves, by_numbers}
use Rattle.uug_conversation.specs.Sides.{AtBoth}
use Rattle.uug_line.specs.World.{counted, report_of, run_of_ends, world}

-- of a session, at one end
pub record InSession : Type 0 where
  pub sent : ℕ
  pub taken : ℕ
  pub most : ℕ
  pub phase : Phase

abbrev pub in_session : EndReportValue → InSession
in_session r = record { sent = length r.sent; taken = length r.taken; most = r.most; phase = r.phase }

-- of what an end has
pub record Has : Type 0 where
  pub pending : ℕ
  pub struck : ℕ
  pub failed : ℕ
  pub stored : List Kept

abbrev pub has : Belongings → Has
has b = record {
  pending = length (pending b.lists);
  struck = length b.lists.struck;
  failed = length b.lists.failed;
  stored = b.kept;
}

abbrev pub at_ends : {A : Type 0} → A → A → AtBoth A
at_ends a b = record { at_caller = a; at_called = b }

abbrev pub both : {A B : Type 0} → (A → B) → AtBoth A → AtBoth B
both f x = record { at_caller = f x.at_caller; at_called = f x.at_called }

pub record Summary : Type 0 where
  pub sessions : List (AtBoth InSession)
  pub ends : AtBoth Has
  pub verdict : LineVerdict

abbrev pub summary_of : ReportValue → Summary
summary_of r = record { sessions = map (both in_session) r.sessions; ends = both has r.belongings; verdict = r.verdict }

abbrev pub summary : {C : Type 0} → RunKeeper C → SetupValue → List Event → Summary
summary k setup events = summary_of (report_of k setup (run_of k setup events))

-- ---- whether two ends have written down the same, and hold and have emitted the same bytes

abbrev same_list : {A : Type 0} → (same : A → A → Bool) → List A → List A → Bool
same_list same [] [] = true
same_list same (x ∷ xs) (y ∷ ys) = same x y && same_list same xs ys
same_list same _ _ = false

abbrev same_log : JournalState → JournalState → Bool
same_log l m =
    (same_list same_message l.sent m.sent && same_list same_message l.taken m.taken)
    && ((same_list same_packet l.packets m.packets && same_message l.arrivals m.arrivals)
    && ((l.passed == m.passed) && (l.most == m.most)))

abbrev same_count : Count → Count → Bool
same_count c d = (c.sent == d.sent) && (c.taken == d.taken)

abbrev same_end : Buffered (LineEndState Count) → Buffered (LineEndState Count) → Bool
same_end g h =
    (same_log g.end.log h.end.log && same_message g.held h.held)
    && (same_message g.end.line h.end.line && same_count g.end.state.keeper h.end.state.keeper)

abbrev same_ends : AtBoth (Buffered (LineEndState Count)) → AtBoth (Buffered (LineEndState Count)) → Bool
same_ends e f = same_end e.at_caller f.at_caller && same_end e.at_called f.at_called

-- by themselves and by numbers the ends come to this, and told by numbers the ends themselves are those of the world
pub record ComeTo (setup : SetupValue) (events : List Event) (expected : Summary) : Type 0 where
  pub themselves : summary by_themselves setup events ≡ expected
  pub numbers : summary by_numbers setup events ≡ expected
  pub same : same_ends (counted (run_of_ends setup events)).ends (world setup events).ends ≡ true

-- in the present session they have written this down
abbrev pub logs : {C : Type 0} → RunKeeper C → SetupValue → List Event → AtBoth JournalState
logs k setup events = both (λ h. h.end.log) (run_of k setup events).ends

pub record Logs (setup : SetupValue) (events : List Event) (at_caller at_called : JournalState) : Type 0 where
  pub themselves : logs by_themselves setup events ≡ at_ends at_caller at_called
  pub numbers : logs by_numbers setup events ≡ at_ends at_caller at_called

-- ---- as it is written

abbrev pub talks : (sent taken most : ℕ) → Phase → InSession
talks sent taken most phase = record { sent = sent; taken = taken; most = most; phase = phase }

abbrev pub owns : (pending struck failed : ℕ) → List Kept → Has
owns pending struck failed stored = record { pending = pending; struck = struck; failed = failed; stored = stored }
