use Rattle.std.proofs.Common.{◌≡◌, ℕ, ◌++◌, OnOk, Vec, codes, ap, subst, sym, ◌∙◌}
use Rattle.std.specs.Fmt.{decimal}
use Rattle.uug_taylor_text.proofs.PartsLemmas.{then_one, two_first, two_more}
use Rattle.uug_taylor_text.specs.LogLines.{position_text}
use Rattle.uug_taylor_text.proofs.log_text.add_position.Goals as goal
use Rattle.uug_taylor_text.proofs.log_text.add_position.Goals.{in-Some+in_ok-add_number-in-Some+in_ok-add_number-in-Some-2, in-None+in_ok-add_number-in-None}

pub returns : goal.returns
returns g c =
    let before = c.args.line.now.items in
    let position = c.args.position in
    let after = c.add_text.new.line.items in
    elim c.match-size.branch [
      | in-Some+in_ok-add_number-in-Some+in_ok-add_number-in-Some-2 w ↦
          let size = codes " (" ++ decimal w.in-Some.size in
          subst (λ s. OnOk c.add_text.result (after ≡ before ++ position_text s position)) (sym w.in-Some.is)
          (then_one _ before c.match-size.line.items after (size ++ codes " bytes resume at " ++ decimal position) (codes ")")
          (ap (λ (v : Vec ℕ g.row.A.Denot). v.items) w.line-is
          ∙ two_more before w.add_number.new.line.items w.add_number-in-Some.new.line.items size (codes " bytes resume at ") (decimal position)
          (two_first before w.add_number.new.line.items (codes " (") (decimal w.in-Some.size) w.in_ok-add_number-in-Some.ensures)
          w.in_ok-add_number-in-Some-2.ensures)
          c.add_text.ensures)
      | in-None+in_ok-add_number-in-None w ↦
          subst (λ s. OnOk c.add_text.result (after ≡ before ++ position_text s position)) (sym w.in-None.is)
          (then_one _ before c.match-size.line.items after (codes " (resume at " ++ decimal position) (codes ")")
          (ap (λ (v : Vec ℕ g.row.A.Denot). v.items) w.line-is
          ∙ two_first before w.add_number-in-None.new.line.items (codes " (resume at ") (decimal position) w.in_ok-add_number-in-None.ensures)
          c.add_text.ensures)
    ]
