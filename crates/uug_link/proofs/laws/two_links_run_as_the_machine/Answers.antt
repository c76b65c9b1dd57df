use Rattle.uug_link.proofs.TwoLinksRuns.{machine_runs, fronts, within, windows, owns, sizes}
use Rattle.uug_link.proofs.laws.two_links_run_as_the_machine.Goals as goal

pub returns : goal.returns
returns c = record {
  machine = machine_runs;
  front = fronts;
  unacked = within;
  own = owns;
  window = windows;
  size = sizes;
}
