use Rattle.uug_link.proofs.TwoLinksRuns.{IsRun-first, IsRun-one, IsRun-several, IsRun-far}
use Rattle.uug_link.proofs.laws.runs_of_two_links.Goals as goal

pub returns : goal.returns
returns c = record { first = IsRun-first; longer = IsRun-one; several = IsRun-several; from_far = IsRun-far }
