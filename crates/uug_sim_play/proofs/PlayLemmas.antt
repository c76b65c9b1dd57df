-- What was written when a script was played, or could not be.
use Rattle.std.proofs.Common.{ℕ, List, Option, Some, None, IfSome, subst, sym, inr}
use Rattle.uug_stream.specs.Streams.{AppendsFront}
use Rattle.uug_sim_play.specs.Played.{BeginsReport, IsPlayed, RunsOut}
use Rattle.uug_sim_play.specs.Whole.{BringsAll}

pub begins_report : (bytes text : List ℕ) (status : ℕ) (first left before after : Option (List ℕ)) → BringsAll bytes first left →
    IsPlayed bytes text status → AppendsFront text before after → IfSome first (λ script. BeginsReport script before after)
begins_report bytes text status None left before after h played front = tt
begins_report bytes text status (Some all) left before after h played front =
    (text, status, subst (λ b. IsPlayed b text status) (sym h.0) played, front)

pub runs_out : (bytes text : List ℕ) (status : ℕ) (first left before after : Option (List ℕ)) → BringsAll bytes first left →
    IsPlayed bytes text status → AppendsFront text before after → RunsOut first left before after
runs_out bytes text status None left before after h played front = tt
runs_out bytes text status (Some all) left before after h played front =
    inr (h.1, begins_report bytes text status (Some all) left before after h played front)
