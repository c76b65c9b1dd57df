-- What the ends of a line are given, and what they have after some sessions (this project's profile).
use Rattle.std.specs.Prelude.{ℕ, List, Option}
use Rattle.uug_conversation.specs.Turns.{other}
use Rattle.uug_link.specs.Announced.{Announced}
use Rattle.uug_link.specs.Terms.{size_of_code}
use Rattle.uug_session.specs.EndStep.{Identity}
use Rattle.uug_conversation.specs.Holdings.{Kept, Holdings}
use Rattle.uug_conversation.specs.Jobs.{Lists, at_start, pending}
use Rattle.uug_conversation.specs.Partial.{Partial}
use Rattle.uug_conversation.specs.Partials.{holding}
use Rattle.uug_conversation.specs.Party.{Party}
use Rattle.uug_conversation.specs.declared.side.Side.{Side}
use Rattle.uug_conversation.specs.Sides.{AtBoth, at}

-- an end's jobs, all that its spool has kept, what it holds of files that were cut off, where it resumes, and the number of its
-- conversations, where it keeps one
pub record Belongings : Type 0 where
  pub lists : Lists
  pub kept : List Kept
  pub partials : Option (List Partial)
  pub number : Option ℕ

-- at a session's start all pending jobs are to be offered
abbrev pub renewed : Belongings → Belongings
renewed b = record {
  lists = at_start (pending b.lists) b.lists.struck b.lists.failed;
  kept = b.kept;
  partials = b.partials;
  number = b.number;
}

-- an end as it is set up: its name, what the other end shall use, what its spool gives and accepts, and what it has
pub record EndSetupValue : Type 0 where
  pub name : List ℕ
  pub own : Announced
  pub holdings : Holdings
  pub belongings : Belongings

-- both of them
abbrev pub SetupValue : Type 0
SetupValue = AtBoth EndSetupValue

-- each end expects the other by its name
abbrev pub identity : SetupValue → Side → Identity
identity setup side =
    record { side = side; me = (at side setup).name; peer = (at (other side) setup).name }

-- an end as it comes to a session to which the two bring this: its messages have the size that the other announces, and
-- are short where it is set so itself
abbrev pub party : SetupValue → (brought : AtBoth Belongings) → Side → Party
party setup brought side = record {
  jobs = pending (at side brought).lists;
  holdings = holding (at side brought).partials (at side setup).holdings;
  measure = record { size = size_of_code (at (other side) setup).own.size_code; short = (at side setup).own.short };
}
