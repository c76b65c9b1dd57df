use Rattle.std.proofs.Common.{◌∙◌, ◌++◌, List, ℕ, ap, codes}
use Rattle.std.proofs.lemmas.Result.{IfOk-weaker}
use Rattle.std.specs.Prelude.{string_bytes}
use Rattle.uug_observe.specs.NumberRemarks.{own_words}
use Rattle.uug_talk.specs.Lines.{ended}
use Rattle.uug_observe.proofs.number_remark.numbers_line.Goals as goal

pub returns : goal.returns
returns g c =
    IfOk-weaker c.format.result _ _
    (λ line is. is
    ∙ ap (λ (own : List ℕ). codes "uucpair: " ++ (own ++ ended (string_bytes c.in_ok-heard.heard))) c.in_ok-own.ensures
    ∙ ap (λ (heard : List ℕ). codes "uucpair: " ++ (own_words c.args.own ++ ended heard)) c.in_ok-heard.ensures) c.format.ensures.ok
