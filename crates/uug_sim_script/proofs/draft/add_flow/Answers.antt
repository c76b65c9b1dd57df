use Rattle.uug_sim_script.proofs.ScriptLemmas.{turn_added}
use Rattle.uug_sim_script.proofs.draft.add_flow.Goals as goal

pub loop-preserved : goal.loop-preserved
loop-preserved g c =
    turn_added c.args.events.now.items c.loop.events.items c.push.new.self.items _ c.loop.counter c.loop.invariant
    c.in_ok-push.ensures.items c.in_ok-push-2.ensures.items
