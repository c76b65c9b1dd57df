use Rattle.std.proofs.Common.{◌≡◌, length}
use Rattle.std.specs.Option.{option_map}
use Rattle.uug_talk.specs.Lines.{lines}
use Rattle.uug_io_pending.specs.LastSession.{last_from, last_in, shown_last}
use Rattle.uug_io_pending.proofs.last_session.last_in.Given as goal

abbrev pub invariant-loop-line : goal.invariant-loop-line
invariant-loop-line l = last_from (option_map shown_last l.last) (lines l.rest) ≡ last_in l.log

abbrev pub decreases-loop-line : goal.decreases-loop-line
decreases-loop-line l = length l.rest
