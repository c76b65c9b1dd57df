use Rattle.std.proofs.Common.{◌∙◌, ◌++◌, List, ℕ, ap, append_assoc, codes, string_bytes}
use Rattle.std.proofs.lemmas.Result.{on_ok_weaker}
use Rattle.uug_error_text.specs.JobsWords.{quoted}
use Rattle.uug_error_text.proofs.heard.add_protocols.Goals as goal

pub returns : goal.returns
returns g c = on_ok_weaker c.add_quoted.result
    (λ is. is
    ∙ ap (λ (front : List ℕ). front ++ quoted c.args.said.now) c.in_ok-push_str.ensures.bytes
    ∙ append_assoc (string_bytes c.args.text.now) (codes "no protocol g: heard ") (quoted c.args.said.now))
    c.add_quoted.ensures
