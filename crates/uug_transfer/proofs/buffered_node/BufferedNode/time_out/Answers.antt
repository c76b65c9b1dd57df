use Rattle.std.proofs.Common.{ap}
use Rattle.std.proofs.lemmas.Result.{on_ok_weaker}
use Rattle.uug_conversation.specs.DialogueValue.{DialogueValue}
use Rattle.uug_session.specs.EndStep.{EndState}
use Rattle.uug_session.specs.Node.{node_of}
use Rattle.uug_transfer.proofs.LedLemmas.{late_number, led_cleared, led_late, led_later, led_refused}
use Rattle.uug_transfer.specs.BufferedNodes.{node_in}
use Rattle.uug_transfer.specs.Moments.{node_now}
use Rattle.uug_transfer.proofs.buffered_node.BufferedNode.time_out.Goals as goal

pub returns-in_err-on_timeout-clause-led : goal.returns-in_err-on_timeout-clause-led
returns-in_err-on_timeout-clause-led g c =
    led_refused _ _ c.in_err-on_timeout.ensures.err (ap (λ (e : EndState DialogueValue). e.keeper) c.in_err-on_timeout.ensures.err.end)
    (ap g.S.Spool.holdings c.on_timeout.ensures.spool) (ap g.S.Spool.kept c.on_timeout.ensures.spool)

pub returns-clause-led : goal.returns-clause-led
returns-clause-led g c =
    led_later _ (node_now g.S.Spool.holdings g.S.Spool.kept c.on_timeout.new.self) _
    (led_late _ _ c.in_ok-on_timeout.ensures.ok (ap g.S.Spool.holdings c.on_timeout.ensures.spool)
    (ap g.S.Spool.kept c.on_timeout.ensures.spool))
    (led_cleared _ _ c.note_emitted.ensures.engine (ap g.S.Spool.holdings c.note_emitted.ensures.spool)
    (ap g.S.Spool.kept c.note_emitted.ensures.spool))

pub returns-clause-number : goal.returns-clause-number
returns-clause-number g c =
    on_ok_weaker c.note_emitted.result (λ sends. late_number (node_in c.args.self.now).engine (node_of c.on_timeout.new.self).engine
    (node_in c.note_emitted.new.self).engine sends.cleared.engine c.in_ok-on_timeout.ensures.ok) c.note_emitted.ensures.sends
