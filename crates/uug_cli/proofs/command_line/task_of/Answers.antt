use Rattle.std.proofs.Common.{◌≡◌, ◌∙◌, Some, ap, map, sym}
use Rattle.clap.specs.Words.{App, found_of, is_simple, rows_of, subcommand_of, takes}
use Rattle.uug_cli.proofs.AskedLemmas.{asks_by, is_tool_name, not_taken, subcommand_met}
use Rattle.uug_cli.specs.Tools.{uucpair}
use Rattle.uug_cli.proofs.command_line.task_of.Goals.{in-DisplayVersion, in_default}
use Rattle.uug_cli.proofs.command_line.task_of.Goals as goal

pub returns-in-Err-clause-asks : goal.returns-in-Err-clause-asks
returns-in-Err-clause-asks g c =
    let words = map g.S.AsStr.text c.args.words.now in
    let made = c.in_ok-command.ensures in
    elim c.match-kind.branch [
      | in-DisplayVersion w ↦ rw w.result-is (not_taken (takes uucpair words) _ (λ taken. c.in-Err.ensures.passes (ap (λ (a : App). takes a words) made ∙ taken)) (sym c.kind.ensures ∙ w.in-DisplayVersion.is))
      | in_default w ↦ rw w.result-is tt
    ]

pub returns-in-Err-clause-refuses : goal.returns-in-Err-clause-refuses
returns-in-Err-clause-refuses g c =
    let words = map g.S.AsStr.text c.args.words.now in
    let made = c.in_ok-command.ensures in
    elim c.match-kind.branch [
      | in-DisplayVersion w ↦ rw w.result-is tt
      | in_default w ↦ rw w.result-is (λ taken. c.in-Err.ensures.passes (ap (λ (a : App). takes a words) made ∙ taken))
    ]

pub returns-clause-asks : goal.returns-clause-asks
returns-clause-asks g c =
    let words = map g.S.AsStr.text c.args.words.now in
    let made = c.in_ok-command.ensures in
    let tool = c.in-Some.tool.now in
    let entries = rows_of (found_of c.in-Some.matches.now) in
    let met = subcommand_met c.in-Ok.matches tool entries c.in-Some.ensures.name c.in-Some.ensures.rows in
    let same = (c.in-Ok.ensures.matches (ap is_simple made)).1 ∙ ap (λ (a : App). subcommand_of a words) made in
    let read : subcommand_of uucpair words ≡ Some (tool, entries) = sym same ∙ met in
    asks_by words tool entries c.task_of_tool.result read (c.task_of_tool.ensures (is_tool_name words tool entries read))
