use Rattle.uug_line.proofs.Standing.{all_kept, all_own, present_ran, stays_in_front}
use Rattle.uug_line.proofs.world_laws.the_headline.Goals as goal

pub returns-clause-front : goal.returns-clause-front
returns-clause-front c setup events sound k d within =
    (all_kept setup sound events k d within).front

pub returns-clause-window : goal.returns-clause-window
returns-clause-window c setup events sound k d within =
    (all_kept setup sound events k d within).window

pub returns-clause-stored : goal.returns-clause-stored
returns-clause-stored c setup events sound giver =
    (all_own setup sound events giver).places

pub returns-clause-earlier : goal.returns-clause-earlier
returns-clause-earlier c setup events sound side =
    stays_in_front setup sound events side

pub returns-clause-machine : goal.returns-clause-machine
returns-clause-machine c setup events sound k d within =
    (all_kept setup sound events k d within).machine

pub returns-clause-present : goal.returns-clause-present
returns-clause-present c setup events sound =
    present_ran setup sound events
