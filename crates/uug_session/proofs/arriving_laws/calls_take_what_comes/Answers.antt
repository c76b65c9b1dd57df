use Rattle.std.proofs.Common.{[]}
use Rattle.uug_session.specs.Engine.{HasFailed}
use Rattle.uug_session.proofs.NodeCallLemmas.{calls_go_on, calls_go_through, calls_show, rests_with, shows_none}
use Rattle.uug_session.proofs.NodeSearchLemmas.{takes_all_of}
use Rattle.uug_session.proofs.arriving_laws.calls_take_what_comes.Goals as goal

pub returns-clause-goes_through : goal.returns-clause-goes_through
returns-clause-goes_through c = calls_go_through

pub returns-clause-goes_on : goal.returns-clause-goes_on
returns-clause-goes_on c = calls_go_on

pub returns-clause-all : goal.returns-clause-all
returns-clause-all c = λ h kept later_kept most faults later bytes a b.
    takes_all_of h kept later_kept (HasFailed most faults later) bytes a b

pub returns-clause-rests : goal.returns-clause-rests
returns-clause-rests c = λ n entries. rests_with entries n

pub returns-clause-shows : goal.returns-clause-shows
returns-clause-shows c = calls_show

pub returns-clause-at_first : goal.returns-clause-at_first
returns-clause-at_first c = λ n holds. shows_none n [] holds.packets
