use Rattle.std.proofs.lemmas.Result.{IfOk-weaker}
use Rattle.uug_cli.proofs.ToolLemmas.{adds_behind, adds_none}
use Rattle.uug_cli.proofs.tools.with_files.Goals as goal

pub returns : goal.returns
returns c before is =
    let numbered = adds_behind (adds_none is) c.in_ok-arg.ensures c.flag.ensures in
    let locks = adds_behind numbered c.in_ok-arg-2.ensures c.folder.ensures in
    let report = adds_behind locks c.in_ok-arg-3.ensures c.named.ensures in
    let log = adds_behind report c.in_ok-arg-4.ensures c.named-2.ensures in
    let most = adds_behind log c.in_ok-arg-5.ensures c.number.ensures in
    let limit = adds_behind most c.in_ok-arg-6.ensures c.number-2.ensures in
    let days = adds_behind limit c.in_ok-arg-7.ensures c.number-3.ensures in
    let spool = adds_behind days c.in_ok-arg-8.ensures c.flag-2.ensures in
    let public = adds_behind spool c.in_ok-arg-9.ensures c.named-3.ensures in
    let stats = adds_behind public c.in_ok-arg-10.ensures c.named-4.ensures in
    let grade = adds_behind stats c.in_ok-arg-11.ensures c.named-5.ensures in
    let port = adds_behind grade c.in_ok-arg-12.ensures c.named-6.ensures in
    let giving = adds_behind port c.in_ok-arg-13.ensures c.folder-2.ensures in
    let taking = adds_behind giving c.in_ok-arg-14.ensures c.folder-3.ensures in
    IfOk-weaker c.arg-15.result _ _ (λ made step. (adds_behind taking step c.verbose.ensures).is) c.arg-15.ensures
