use Rattle.std.proofs.Common.{◌∙◌}
use Rattle.clap.proofs.WalkLemmas.{one_text-rows}
use Rattle.clap.specs.Words.{found_of, one_of, rows_of}
use Rattle.uug_cli.proofs.AskedLemmas.{given_read}
use Rattle.uug_cli.proofs.command_line.is_given.Goals as goal

pub returns : goal.returns
returns c =
    let found = found_of c.args.matches.now in
    let name = c.args.name.now in
    c.unwrap_or.ensures ∙ given_read _ (λ text read gives. gives) (one_of name (rows_of found)) c.get_one.result
    (λ none. c.get_one.ensures.none (one_text-rows found name ∙ none))
    (λ text some. c.get_one.ensures.value text (one_text-rows found name ∙ some))
