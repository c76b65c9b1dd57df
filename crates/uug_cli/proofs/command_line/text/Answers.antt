use Rattle.std.proofs.Common.{◌∙◌, ap, refl}
use Rattle.clap.proofs.WalkLemmas.{first_value-rows}
use Rattle.clap.specs.Words.{first_of, found_of, rows_of}
use Rattle.uug_cli.proofs.AskedLemmas.{text_read}
use Rattle.uug_cli.proofs.command_line.text.Goals as goal

pub returns : goal.returns
returns c =
    let found = found_of c.args.matches.now in
    let name = c.args.name.now in
    ap (λ s. s.now) c.unwrap_or.ensures
    ∙ text_read c.get_str.result _ (first_of name (rows_of found)) (c.get_str.ensures ∙ first_value-rows found name) refl
