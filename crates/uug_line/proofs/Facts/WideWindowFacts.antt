-- An end sends while there is room: with the widest window, worked out by hand, and computed with the two ends themselves and
-- with two numbers an end.
use Rattle.std.proofs.Common.{false, ℕ, List, [], ◌∷◌, replicate, codes, refl}
use Rattle.uug_link.specs.Terms.{smallest_code}
use Rattle.uug_packet.specs.Checksum.{check}
use Rattle.uug_packet.specs.Decoded.{header_at, decoded}
use Rattle.uug_session.specs.declared.phase.Phase.TheVariants.{Ended, Talking}
use Rattle.uug_session.specs.declared.end.End.TheVariants.{Done}
use Rattle.uug_conversation.specs.MemoryHoldings.{MemoryHoldings, no_holdings}
use Rattle.uug_conversation.specs.declared.job.Job.{Job}
use Rattle.uug_line.specs.declared.event.Event.TheVariants.{Pass}
use Rattle.uug_conversation.specs.declared.side.Side.TheVariants.{Caller, Called}
use Rattle.uug_line.specs.declared.verdict.LineVerdict.TheVariants.{Clean}
use Rattle.uug_line.specs.Belongings.{EndSetupValue, SetupValue}
use Rattle.uug_line.proofs.Facts.FactSetups.{all, end_with, file, flow, flow_then, gives, send, x, y}
use Rattle.uug_line.proofs.Facts.Summaries.{InSession, Summary, ComeTo, at_ends, talks, owns}

abbrev wide_end : (name : List ℕ) → List Job → MemoryHoldings → EndSetupValue
wide_end name jobs spool = record (end_with name jobs spool) { own = record { window = 7; size_code = 0; quiet = false; short = false } }

-- six messages of 32 bytes and one of a byte, and the empty one behind them
abbrev long : List ℕ
long = replicate 193 7

abbrev sends_long : SetupValue
sends_long = record {
  at_caller = wide_end (codes "a") (send ∷ []) (gives (file x long));
  at_called = wide_end (codes "b") [] no_holdings;
}

abbrev at_work : (caller_talk called_talk : InSession) → Summary
at_work caller_talk called_talk = record {
  sessions = at_ends caller_talk called_talk ∷ [];
  ends = at_ends (owns 1 0 0 []) (owns 0 0 0 []);
  verdict = Clean;
}

-- the command has come, and its answer is on the line
pub command_has_come : ComeTo sends_long (flow_then 5 (Pass Called all ∷ []))
    (at_work (talks 1 0 1 Talking) (talks 1 1 1 Talking))
unfolding check header_at decoded smallest_code
command_has_come = record { themselves = refl; numbers = refl; same = refl }

-- with the answer seven messages go out at once, and the eighth waits for room
pub seven_go_out : ComeTo sends_long (flow_then 5 (Pass Called all ∷ Pass Caller all ∷ []))
    (at_work (talks 8 1 7 Talking) (talks 1 1 1 Talking))
unfolding check header_at decoded smallest_code
seven_go_out = record { themselves = refl; numbers = refl; same = refl }

-- and the job is done with all of them
pub all_go_out : ComeTo sends_long (flow 20) (record {
  sessions = at_ends (talks 11 3 7 (Ended Done)) (talks 3 11 1 (Ended Done)) ∷ [];
  ends = at_ends (owns 0 1 0 []) (owns 0 0 0 (file y long ∷ []));
  verdict = Clean;
})
unfolding check header_at decoded smallest_code
all_go_out = record { themselves = refl; numbers = refl; same = refl }
