-- How the program's run stands, in the terms of the definitions, and what its events do.
use Rattle.std.specs.Prelude.{◌≡◌, ℕ, Bool, true, List, [], ◌∷◌, ◌++◌, map, take, drop}
use Rattle.uug_conversation.specs.Turns.{other}
use Rattle.uug_session.specs.Arriving.{Buffered}
use Rattle.uug_session.specs.EndStep.{line_lost, time_ran_out}
use Rattle.uug_session.specs.Node.{held_bytes}
use Rattle.uug_line.specs.declared.event.Event.{Event}
use Rattle.uug_line.specs.declared.event.Event.TheVariants.{Pass, Drop, Flip, Insert, Timeout, HangUp, Call}
use Rattle.uug_line.specs.declared.running.RunSoFar.{RunSoFar}
use Rattle.uug_conversation.specs.declared.side.Side.{Side}
use Rattle.uug_conversation.specs.declared.side.Side.TheVariants.{Caller}
use Rattle.uug_line.specs.declared.verdict.LineVerdict.{LineVerdict}
use Rattle.uug_line.specs.declared.verdict.LineVerdict.TheVariants.{Clean}
use Rattle.uug_line.specs.Belongings.{Belongings, SetupValue, identity, party}
use Rattle.uug_line.specs.LineEndState.{LineEndState}
use Rattle.uug_line.specs.LineEndValue.{BeginsAgain, HasRoom, HearsPiece, IsCalled, IsOrdered, LineEndValue, Standing, hearer_of, line_end_of, live_end_value, leaves_spool, standing_of, told_of}
use Rattle.uug_line.specs.Told.{EndNow, SpelledEnd, SpelledReport}
use Rattle.uug_line.specs.Run.{Run, end_at, flipped}
use Rattle.uug_line.specs.Shown.{session_shown}
use Rattle.uug_conversation.specs.Sides.{AtBoth, at}
use Rattle.uug_line.specs.Spelled.{spelled_session}
use Rattle.uug_line.specs.StillHeld.{HoldWhatIsLeft}
use Rattle.uug_conversation.specs.DialogueState.{DialogueState}

pub record RunValue : Type 0 where
  -- what is told of the sessions that are over
  pub past : List (AtBoth SpelledEnd)
  pub ends : AtBoth LineEndValue

abbrev pub run_value : {A : Type 0} → RunSoFar A → RunValue
run_value r = record {
  past = map session_shown r.past.items;
  ends = record { at_caller = live_end_value r.caller; at_called = live_end_value r.called };
}

-- between two events
pub record IsSteadyEnd (e : LineEndValue) : Type 0 where
  pub ordered : IsOrdered e
  pub room : HasRoom e

pub record IsSteady (r : RunValue) : Type 0 where
  pub at_caller : IsSteadyEnd r.ends.at_caller
  pub at_called : IsSteadyEnd r.ends.at_called

-- ---- what happens

-- this happens at the side, and nothing else
abbrev pub HappensAt : Side → (LineEndValue → LineEndValue → Type 0) → (old new : RunValue) → Type 0
HappensAt side what old new =
    what (at side old.ends) (at side new.ends) × (at (other side) new.ends ≡ at (other side) old.ends) × (new.past ≡ old.past)

-- the bytes that the end has emitted become others
abbrev pub with_line : (List ℕ → List ℕ) → LineEndValue → LineEndValue
with_line change e = record e { line = change e.line }

abbrev pub ChangesLine : (List ℕ → List ℕ) → (old new : LineEndValue) → Type 0
ChangesLine change old new = new ≡ with_line change old

-- the next bytes come to the side
abbrev pub Passes : Side → (n : ℕ) → (all_sent : Bool) → (old new : RunValue) → Type 0
Passes side n all_sent old new =
    HearsPiece all_sent (at (other side) old.ends).journal.packets (take n (at (other side) old.ends).line)
    (at side old.ends) (at side new.ends)
    × (at (other side) new.ends ≡ with_line (drop n) (at (other side) old.ends)) × (new.past ≡ old.past)

-- both ends hang up, and a new session begins
pub record CallsAgain (old new : RunValue) : Type 0 where
  pub lost : AtBoth LineEndValue
  pub hangs_up : (side : Side) → IsCalled line_lost (at side old.ends) (at side lost)
  pub begins : (side : Side) → BeginsAgain (at side lost) (at side new.ends)
  pub past : new.past ≡ old.past ++ record { at_caller = told_of lost.at_caller; at_called = told_of lost.at_called } ∷ []

-- the answer is true, and this happens
abbrev pub HappensClean : (all_sent : Bool) → Type 0 → Type 0
HappensClean all_sent happens = (all_sent ≡ true) × happens

abbrev pub Happens : Event → (all_sent : Bool) → (old new : RunValue) → Type 0
Happens (Pass side n) all_sent old new = Passes side n all_sent old new
Happens (Drop side n) all_sent old new = HappensClean all_sent (HappensAt (other side) (ChangesLine (drop n)) old new)
Happens (Flip side mask) all_sent old new = HappensClean all_sent (HappensAt (other side) (ChangesLine (flipped mask)) old new)
Happens (Insert side byte) all_sent old new =
    HappensClean all_sent (HappensAt (other side) (ChangesLine (λ line. byte ∷ line)) old new)
Happens (Timeout side) all_sent old new = HappensClean all_sent (HappensAt side (IsCalled time_ran_out) old new)
Happens (HangUp side) all_sent old new = HappensClean all_sent (HappensAt side (IsCalled line_lost) old new)
Happens Call all_sent old new = HappensClean all_sent (CallsAgain old new)

-- the side that hears, where one does in the event
abbrev pub hearing_side : Event → Side
hearing_side (Pass side n) = side
hearing_side _ = Caller

-- ---- it is the run of the definitions

abbrev pub standing_at : SetupValue → (brought : AtBoth Belongings) → Side → Standing
standing_at setup brought side = record {
  identity = identity setup side;
  own = (at side setup).own;
  holdings = (party setup brought side).holdings;
}

-- an end of it is the program's
pub record IsEnd (setup : SetupValue) (brought : AtBoth Belongings) (side : Side) (h : Buffered (LineEndState DialogueState)) (e : LineEndValue) : Type 0 where
  pub hearer : h ≡ hearer_of e
  pub standing : standing_of e ≡ standing_at setup brought side

pub record StandsAs (setup : SetupValue) (run : Run DialogueState) (r : RunValue) : Type 0 where
  pub past : map spelled_session run.past ≡ r.past
  pub ends : (side : Side) → IsEnd setup run.brought side (end_at side run) (at side r.ends)
  pub steady : IsSteady r
  pub clean : run.verdict ≡ Clean

abbrev pub held_parts : RunValue → AtBoth (List ℕ)
held_parts r = record { at_caller = held_bytes r.ends.at_caller.node; at_called = held_bytes r.ends.at_called.node }

-- as it stops, whatever bytes it holds
pub record IsLastEnd (setup : SetupValue) (brought : AtBoth Belongings) (side : Side) (end : LineEndState DialogueState) (e : LineEndValue) : Type 0 where
  pub end_is : end ≡ line_end_of e
  pub standing : standing_of e ≡ standing_at setup brought side
  pub ordered : IsOrdered e

-- of the bytes that were not taken up it holds those that fit
pub record EndsAs (setup : SetupValue) (run : Run DialogueState) (verdict : LineVerdict) (r : RunValue) : Type 0 where
  pub past : map spelled_session run.past ≡ r.past
  pub ends : (side : Side) → IsLastEnd setup run.brought side (end_at side run).end (at side r.ends)
  pub verdict_is : run.verdict ≡ verdict
  pub held : HoldWhatIsLeft run (held_parts r)

-- ---- what is told of it

abbrev pub owned_parts : LineEndValue → Belongings
owned_parts e =
    record {
      lists = e.node.engine.dialogue.machine.lists;
      kept = e.spool.stored;
      partials = (leaves_spool e).partials;
      number = e.node.engine.number;
    }

abbrev pub parts_now : LineEndValue → EndNow
parts_now e = record { stage = e.node.engine.stage; link = e.node.engine.link }

abbrev pub told_in_all : RunValue → LineVerdict → SpelledReport
told_in_all r verdict = record {
  sessions = r.past ++ record { at_caller = told_of r.ends.at_caller; at_called = told_of r.ends.at_called } ∷ [];
  ends = record { at_caller = parts_now r.ends.at_caller; at_called = parts_now r.ends.at_called };
  belongings = record { at_caller = owned_parts r.ends.at_caller; at_called = owned_parts r.ends.at_called };
  verdict = verdict;
}

-- all that the ends emitted stands on the line
pub record AllIsSaid (r : RunValue) : Type 0 where
  pub caller : r.ends.at_caller.node.engine.outbox.entries ≡ []
  pub called : r.ends.at_called.node.engine.outbox.entries ≡ []
