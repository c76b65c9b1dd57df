use Rattle.uug_session.specs.Engine.{HasFailed}
use Rattle.uug_session.proofs.CourseLemmas.{pieces_join}
use Rattle.uug_session.proofs.NodeSearchLemmas.{goes_on_from}
use Rattle.uug_session.proofs.arriving_laws.pieces_arrive_as_one.Goals as goal

pub returns-clause-whole : goal.returns-clause-whole
returns-clause-whole c = λ h kept later_kept last_kept most faults middle last piece more a b c' before after first second.
    pieces_join h kept later_kept last_kept most faults middle last piece more a b c' before after
    (goes_on_from h kept later_kept (HasFailed most faults middle) piece a b first) second

pub returns-clause-unfinished : goal.returns-clause-unfinished
returns-clause-unfinished c = pieces_join
