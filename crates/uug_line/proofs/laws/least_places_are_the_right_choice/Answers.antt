use Rattle.std.proofs.Common.{arith}
use Rattle.uug_line.proofs.PlaceLemmas.{places_stand, next_place, later_places, any_places, none_left}
use Rattle.uug_line.proofs.laws.least_places_are_the_right_choice.Goals as goal

pub returns-clause-least : goal.returns-clause-least
returns-clause-least c found emitted places h = places_stand found emitted places 0 h

pub returns-clause-any : goal.returns-clause-any
returns-clause-any c found emitted sent =
    any_places found emitted sent.0 0 0 (omega arith) sent.1

pub returns-clause-next : goal.returns-clause-next
returns-clause-next c found emitted places p i h place = next_place found emitted places p i 0 h place

pub returns-clause-later : goal.returns-clause-later
returns-clause-later c found emitted more places h = later_places found emitted more places 0 h

pub returns-clause-none : goal.returns-clause-none
returns-clause-none c found emitted places p h = none_left found emitted places p h
