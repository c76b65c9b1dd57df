use Rattle.std.proofs.Common.{◌≡◌, ◌++◌, OnOk, codes, subst, sym}
use Rattle.uug_taylor_text.proofs.PartsLemmas.{then_one, two_first}
use Rattle.uug_taylor_text.specs.LogLines.{entry_text, position_text}
use Rattle.uug_taylor_text.specs.ShownLines.{shown_event}
use Rattle.uug_taylor_text.specs.declared.log_text.LogEvent.{LogEvent}
use Rattle.uug_taylor_text.proofs.log_text.add_event.Goals as goal

pub returns-in_ok-add_named-in-SendsFrom : goal.returns-in_ok-add_named-in-SendsFrom
returns-in_ok-add_named-in-SendsFrom g c =
    let before = c.args.line.now.items in
    subst (λ (e : LogEvent). OnOk c.add_position.result (c.add_position.new.line.items ≡ before ++ entry_text c.args.system.now (shown_event e)))
    (sym c.in-SendsFrom.is)
    (then_one _ before c.add_named-in-SendsFrom.new.line.items c.add_position.new.line.items (codes "Sending " ++ c.in-SendsFrom.file.now)
    (position_text c.in-SendsFrom.size c.in-SendsFrom.position)
    (two_first before c.add_named-in-SendsFrom.new.line.items (codes "Sending ") c.in-SendsFrom.file.now c.in_ok-add_named-in-SendsFrom.ensures)
    c.add_position.ensures)

pub returns-in_ok-add_named-in-ReceivesFrom : goal.returns-in_ok-add_named-in-ReceivesFrom
returns-in_ok-add_named-in-ReceivesFrom g c =
    let before = c.args.line.now.items in
    subst (λ (e : LogEvent). OnOk c.add_position-in-ReceivesFrom.result (c.add_position-in-ReceivesFrom.new.line.items
    ≡ before ++ entry_text c.args.system.now (shown_event e)))
    (sym c.in-ReceivesFrom.is)
    (then_one _ before c.add_named-in-ReceivesFrom.new.line.items c.add_position-in-ReceivesFrom.new.line.items
    (codes "Receiving " ++ c.in-ReceivesFrom.file.now) (position_text c.in-ReceivesFrom.size c.in-ReceivesFrom.position)
    (two_first before c.add_named-in-ReceivesFrom.new.line.items (codes "Receiving ") c.in-ReceivesFrom.file.now
    c.in_ok-add_named-in-ReceivesFrom.ensures)
    c.add_position-in-ReceivesFrom.ensures)
