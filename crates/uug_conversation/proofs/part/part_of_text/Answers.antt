use Rattle.std.proofs.Common.{sym, ◌∙◌}
use Rattle.uug_talk.specs.Chunks.{Measure}
use Rattle.uug_conversation.proofs.PartLemmas.{part_is, part_there, part_fits}
use Rattle.uug_conversation.proofs.part.part_of_text.Goals as goal

pub first_into-requires : goal.first_into-requires
first_into-requires c =
    let m : Measure = record { size = c.args.size; short = c.args.short } in
    λ none. part_there m c.behind-rest.result.now (sym c.command_chunks.ensures ∙ none)

pub returns-clause-messages : goal.returns-clause-messages
returns-clause-messages c =
    let m : Measure = record { size = c.args.size; short = c.args.short } in
    part_is m c.args.offset c.args.text.now c.behind-rest.result.now _ _ c.requires.some c.requires.within c.behind-rest.ensures
    (sym c.command_chunks.ensures ∙ c.first_into.ensures)

pub returns-clause-size : goal.returns-clause-size
returns-clause-size c =
    let m : Measure = record { size = c.args.size; short = c.args.short } in
    part_fits m c.behind-rest.result.now _ _ (sym c.command_chunks.ensures ∙ c.first_into.ensures)
