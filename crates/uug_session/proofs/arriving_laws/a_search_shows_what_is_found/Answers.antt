use Rattle.std.proofs.Common.{None, false}
use Rattle.uug_conversation.specs.declared.verdict.Verdict.TheVariants as verdicts
use Rattle.uug_session.proofs.NodeSearchLemmas.{searched_rests}
use Rattle.uug_session.proofs.ShownItemLemmas.{item_found, nothing_found, one_item}
use Rattle.uug_session.proofs.arriving_laws.a_search_shows_what_is_found.Goals as goal

pub returns-clause-shown : goal.returns-clause-shown
returns-clause-shown c = item_found

pub returns-clause-one : goal.returns-clause-one
returns-clause-one c = one_item

pub returns-clause-none : goal.returns-clause-none
returns-clause-none c = nothing_found

pub returns-clause-rests : goal.returns-clause-rests
returns-clause-rests c =
    searched_rests (record { file = λ name. None; delayed = λ name. false; verdict = λ name. verdicts.Yes; immovable = λ name. false; landing = λ source target. target; partials = None; lenient = false; digests = false; limit = 0 })
