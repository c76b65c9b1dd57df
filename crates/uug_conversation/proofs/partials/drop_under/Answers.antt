use Rattle.std.proofs.Common.{rules, ap, ◌∙◌}
use Rattle.std.proofs.lemmas.Fn.{filter_same}
use Rattle.uug_conversation.specs.PartialView.{key_of, partials_of}
use Rattle.uug_conversation.proofs.PartialLemmas.{stays, view_without}
use Rattle.uug_conversation.proofs.partials.drop_under.Goals as goal

pub returns-clause-files : goal.returns-clause-files
returns-clause-files g c =
    let key = key_of c.args.source.now c.args.told.now in
    ap partials_of (filter_same _ (stays key) _ (λ x b f' k. search rules) _ _ c.retain.ensures.filtered)
    ∙ view_without key c.args.files.now.items
