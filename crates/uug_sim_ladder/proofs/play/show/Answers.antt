use Rattle.std.proofs.Common.{string_bytes}
use Rattle.uug_sim_ladder.specs.Rungs.{ladder_shown}
use Rattle.uug_sim_ladder.proofs.ShownLemmas.{text_shown}
use Rattle.uug_sim_ladder.proofs.play.show.Goals as goal

pub returns-clause-shown : goal.returns-clause-shown
returns-clause-shown g c =
    text_shown c.args.script.now (string_bytes c.in_ok-played.field-0.played.text)
    (string_bytes c.add_ladder.new.text) c.in_ok-played.field-0.played.status
    (ladder_shown {A = g.row.A.Denot} c.in_ok-played.field-0.ladder)
    c.in_ok-played.ensures.played c.in_ok-played.ensures.ladder c.in_ok-add_ladder.ensures
