use Rattle.std.proofs.Common.{string_bytes}
use Rattle.uug_sim_play.proofs.PlayedLemmas.{plays}
use Rattle.uug_sim_ladder.proofs.play.play_and_draw.Goals as goal

pub returns-in-Ok-played-clause-played : goal.returns-in-Ok-played-clause-played
returns-in-Ok-played-clause-played g c =
    plays c.args.script.now (string_bytes c.in-Ok-played.played.text) c.in-Ok-played.played.status c.in-Ok.drawn.report
    c.in-Ok.ensures.run c.in-Ok-played.ensures.text c.in-Ok-played.ensures.status
