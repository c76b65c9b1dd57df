use Rattle.std.proofs.Common.{[], refl}
use Rattle.uug_line.specs.Setup.{setup_of}
use Rattle.uug_line.proofs.simulator.Simulator.new.Goals as goal

pub invariant_of-result : goal.invariant_of-result
invariant_of-result g c = record {
  setup = setup_of c.args.setup;
  events = [];
  is = record { is = c.in_ok-report.ensures.of; counted = refl };
}
