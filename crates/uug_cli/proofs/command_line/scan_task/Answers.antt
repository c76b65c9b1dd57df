use Rattle.std.proofs.Common.{◌∙◌, sym}
use Rattle.uug_cli.proofs.command_line.scan_task.Goals as goal

pub returns-then-is_given : goal.returns-then-is_given
returns-then-is_given c tool scans = record {
  scans = scans;
  verbose = sym c.is_given.ensures ∙ c.if-is_given.true;
  path = c.file-file.ensures;
}

pub returns-else-is_given : goal.returns-else-is_given
returns-else-is_given c tool scans = record {
  scans = scans;
  verbose = sym c.is_given.ensures ∙ c.if-is_given.false;
  path = c.file-file.ensures;
}
