use Rattle.std.proofs.Common.{rules}
use Rattle.uug_sim_ladder.proofs.ShownLemmas.{begins_shown, runs_out_showing}
use Rattle.uug_sim_ladder.proofs.play.play_ladder.Goals as goal

pub returns-in_err-write_all-clause-begun : goal.returns-in_err-write_all-clause-begun
returns-in_err-write_all-clause-begun g c h =
    begins_shown c.in_ok-script.script.items c.as_bytes.result.now c.in_ok-played.played.status
    (g.I.Input.to_come c.args.input.now) (g.I.Input.to_come c.read_whole.new.input)
    (g.O.Output.written c.args.output.now) (g.O.Output.written c.write_all.new.output)
    c.in_ok-script.ensures.whole (search rules) c.in_err-write_all.ensures.begins

pub returns-in_err-write_all-clause-memory : goal.returns-in_err-write_all-clause-memory
returns-in_err-write_all-clause-memory g c h =
    runs_out_showing c.in_ok-script.script.items c.as_bytes.result.now c.in_ok-played.played.status
    (g.I.Input.to_come c.args.input.now) (g.I.Input.to_come c.read_whole.new.input)
    (g.O.Output.written c.args.output.now) (g.O.Output.written c.write_all.new.output)
    c.in_ok-script.ensures.whole (search rules) c.in_err-write_all.ensures.begins
