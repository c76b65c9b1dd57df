use Rattle.std.proofs.lemmas.Result.{IfOk-weaker}
use Rattle.uug_cli.proofs.ToolLemmas.{adds_behind, adds_none}
use Rattle.uug_cli.proofs.tools.with_talk.Goals as goal

pub returns : goal.returns
returns c before is =
    let window = adds_behind (adds_none is) c.in_ok-arg.ensures c.number.ensures in
    let size = adds_behind window c.in_ok-arg-2.ensures c.whole.ensures in
    let timeout = adds_behind size c.in_ok-arg-3.ensures c.number-2.ensures in
    let speed = adds_behind timeout c.in_ok-arg-4.ensures c.whole-2.ensures in
    let no_quiet = adds_behind speed c.in_ok-arg-5.ensures c.flag.ensures in
    let fill_commands = adds_behind no_quiet c.in_ok-arg-6.ensures c.flag-2.ensures in
    let strict = adds_behind fill_commands c.in_ok-arg-7.ensures c.flag-3.ensures in
    let no_digest = adds_behind strict c.in_ok-arg-8.ensures c.flag-4.ensures in
    let no_resume = adds_behind no_digest c.in_ok-arg-9.ensures c.flag-5.ensures in
    IfOk-weaker c.arg-10.result _ _ (λ made step. (adds_behind no_resume step c.flag-6.ensures).is) c.arg-10.ensures
