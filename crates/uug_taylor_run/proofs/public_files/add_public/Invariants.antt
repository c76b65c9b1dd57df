use Rattle.uug_taylor_run.specs.PublicNames.{AddsPublic}
use Rattle.uug_taylor_run.proofs.public_files.add_public.Given as goal

-- what was there stands in front, and behind it are public files
abbrev pub invariant-loop-name : goal.invariant-loop-name
invariant-loop-name g l = AddsPublic l.giver.folders.now l.fn.files.items l.files.items
