use Rattle.std.proofs.Common.{◌∙◌, refl, sym}
use Rattle.uug_cli.proofs.command_line.play_task.Goals as goal

pub returns-then-is_given : goal.returns-then-is_given
returns-then-is_given c = record {
  plays = refl;
  options = rw (sym c.is_given.ensures ∙ c.if-is_given.true) refl;
  path = c.file-file.ensures;
}

pub returns-then-is_given-2 : goal.returns-then-is_given-2
returns-then-is_given-2 c = record {
  plays = refl;
  options = rw (sym c.is_given.ensures ∙ c.if-is_given.false, sym c.is_given-else-is_given.ensures ∙ c.if-is_given-2.true) refl;
  path = c.file-file.ensures;
}

pub returns-then-is_given-3 : goal.returns-then-is_given-3
returns-then-is_given-3 c = record {
  plays = refl;
  options = rw (
    sym c.is_given.ensures ∙ c.if-is_given.false,
    sym c.is_given-else-is_given.ensures ∙ c.if-is_given-2.false,
    sym c.is_given-else-is_given-2.ensures ∙ c.if-is_given-3.true,
  ) refl;
  path = c.file-file.ensures;
}

pub returns-else-is_given-3 : goal.returns-else-is_given-3
returns-else-is_given-3 c = record {
  plays = refl;
  options = rw (
    sym c.is_given.ensures ∙ c.if-is_given.false,
    sym c.is_given-else-is_given.ensures ∙ c.if-is_given-2.false,
    sym c.is_given-else-is_given-2.ensures ∙ c.if-is_given-3.false,
  ) refl;
  path = c.file-file.ensures;
}
