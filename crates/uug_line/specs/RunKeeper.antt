-- What keeps the conversations of a run, session by session. A run is told once over any such keeper: over the two
-- ends themselves, and over how many messages of the whole conversation each has sent and taken (this project's
-- profile).
use Rattle.std.specs.Prelude.{ℕ, Bool, true, false, List, ◌++◌, Option}
use Rattle.uug_conversation.specs.Count.{Count, nothing_yet, count_keeper}
use Rattle.uug_conversation.specs.EarlierJobs.{behind}
use Rattle.uug_conversation.specs.Keeper.{Keeper}
use Rattle.uug_conversation.specs.Left.{left_of}
use Rattle.uug_conversation.specs.Partials.{partials_then}
use Rattle.uug_conversation.specs.Party.{Party}
use Rattle.uug_conversation.specs.Runs.{progress_at}
use Rattle.uug_conversation.specs.DialogueState.{DialogueState, unopened, end_keeper}
use Rattle.uug_conversation.specs.View.{Seen, conversation_view, kept_after, lists_after}
use Rattle.uug_conversation.specs.declared.side.Side.{Side}
use Rattle.uug_line.specs.Belongings.{Belongings}
use Rattle.uug_conversation.specs.Sides.{AtBoth, at}

pub record RunKeeper (C : Type 0) : Type 0 where
  -- the keeper of an end in a session of these two parties
  pub keeper : AtBoth Party → Side → Keeper C
  -- how an end begins a session to which it brings this
  pub first : Belongings → C
  -- what it has when it has come so far, and keeps this number
  pub has : AtBoth Party → Side → (brought : Belongings) → (number : Option ℕ) → C → Belongings

-- ---- the ends themselves, neither of which knows the other's jobs

abbrev pub by_themselves : RunKeeper DialogueState
by_themselves = record {
  keeper = λ parties side. end_keeper side (at side parties).holdings;
  first = λ brought. unopened brought.lists brought.kept;
  has = λ parties side brought number talk. record {
    lists = talk.machine.lists;
    kept = talk.kept;
    partials = partials_then brought.partials (left_of (at side parties).holdings talk.machine);
    number = number;
  };
}

-- ---- two numbers an end, in the conversation of the two parties

abbrev pub view_at : AtBoth Party → Side → List Seen
view_at parties side = conversation_view side parties.at_caller parties.at_called

-- what an end has, whose link has come up, after so many messages of the other's: its jobs and files of earlier
-- sessions stay in front, and what is left of a file takes the place of what was held of it
abbrev pub has_after : AtBoth Party → Side → (brought : Belongings) → (number : Option ℕ) → (taken : ℕ) → Belongings
has_after parties side brought number taken = record {
  lists = behind brought.lists.struck brought.lists.failed
      (lists_after side parties.at_caller parties.at_called taken);
  kept = brought.kept ++ kept_after taken (view_at parties side);
  partials = partials_then brought.partials
      (left_of (at side parties).holdings (progress_at side parties.at_caller parties.at_called taken).state);
  number = number;
}

-- before the link is up nothing has changed but the number
abbrev pub has_by : (opened : Bool) → AtBoth Party → Side → (brought : Belongings) → (number : Option ℕ) → (taken : ℕ) →
    Belongings
has_by false parties side brought number taken = record brought { number = number }
has_by true parties side brought number taken = has_after parties side brought number taken

abbrev pub by_numbers : RunKeeper Count
by_numbers = record {
  keeper = λ parties side. count_keeper (view_at parties side);
  first = λ brought. nothing_yet;
  has = λ parties side brought number count. has_by count.opened parties side brought number count.taken;
}
