use Rattle.uug_taylor_run.proofs.PublicFileLemmas.{AddsPublic-join}
use Rattle.uug_taylor_run.proofs.public_files.add_public.Goals as goal

pub loop-name-preserved : goal.loop-name-preserved
loop-name-preserved g c = AddsPublic-join _ _ _ _ c.loop-name.invariant c.in_ok-add_file.ensures.adds
