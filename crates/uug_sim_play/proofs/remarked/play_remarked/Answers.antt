use Rattle.std.proofs.Common.{rules}
use Rattle.uug_sim_play.proofs.PlayLemmas.{begins_report, runs_out}
use Rattle.uug_sim_play.proofs.remarked.play_remarked.Goals as goal

pub returns-clause-begun : goal.returns-clause-begun
returns-clause-begun g c h =
    begins_report c.in-Ok.script.items c.as_bytes.result.now c.in-Ok-play_text.played.status
    (g.I.Input.to_come c.args.input.now) (g.I.Input.to_come c.read_whole.new.input)
    (g.O.Output.written c.args.output.now) (g.O.Output.written c.write_all.new.output)
    c.in-Ok.ensures.whole (search rules) c.in-Err-write_all.ensures.begins

pub returns-clause-memory : goal.returns-clause-memory
returns-clause-memory g c h =
    runs_out c.in-Ok.script.items c.as_bytes.result.now c.in-Ok-play_text.played.status
    (g.I.Input.to_come c.args.input.now) (g.I.Input.to_come c.read_whole.new.input)
    (g.O.Output.written c.args.output.now) (g.O.Output.written c.write_all.new.output)
    c.in-Ok.ensures.whole (search rules) c.in-Err-write_all.ensures.begins
