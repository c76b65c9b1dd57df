use Rattle.std.proofs.Common.{◌≡◌, ◌*◌, ◌≤◌, length}
use Rattle.uug_sim_play.specs.Whole.{Brings}
use Rattle.uug_scan.specs.declared.scan.TheConstants.{PIECE_SIZE}
use Rattle.uug_sim_play.proofs.whole.read_whole.Given as goal

-- the bytes that came are kept, in each read one or more, up to a piece
abbrev pub invariant-loop : goal.invariant-loop
invariant-loop g l = record {
  progress : Brings l.bytes.items (g.I.Input.to_come l.fn.input) (g.I.Input.to_come l.input);
  read : l.counter ≤ length l.bytes.items;
  within : length l.bytes.items ≤ l.counter * PIECE_SIZE;
  calm : g.I.Input.fault_count l.input ≡ g.I.Input.fault_count l.fn.input;
}
