-- What is kept in a conversation (this project's profile).
use Rattle.std.specs.Prelude.{◌≡◌, ℕ, List, length, drop, All, Contains, Option, Some}
use Rattle.uug_conversation.specs.declared.job.Job.TheVariants as job
use Rattle.uug_conversation.specs.Choice.{fetched_by}
use Rattle.uug_conversation.specs.Holdings.{File, Kept, to_give, kept_as}
use Rattle.uug_conversation.specs.Party.{Party}
use Rattle.uug_conversation.specs.Resuming.{front_held}
use Rattle.uug_conversation.specs.Turns.{other, the_file, Turn}
use Rattle.uug_conversation.specs.View.{party}

-- the entry is what a job asked for: under the name where it lands at the keeper, with mode and bytes of the file that the
-- giver's holdings give, a Send job being the giver's and a Request job the keeper's; and these bytes of it are said: of a Send job's
-- file, those behind what the keeper holds of it
pub data IsAskedFor (giver keeper : Party) : (said : List ℕ) → Kept → Type 0 where
  sent : {source target user : List ℕ} {temp : Option (List ℕ)} {file : File}
      → Contains giver.jobs (job.Send source target user temp) → to_give giver.holdings (fetched_by source temp) ≡ Some file
      → IsAskedFor giver keeper
      (drop (length (front_held keeper.holdings giver.holdings.digests (fetched_by source temp) (Some file))) file.bytes)
      (kept_as (keeper.holdings.landing source target) file)
  requested : {source target user : List ℕ} {file : File}
      → Contains keeper.jobs (job.Request source target user) → to_give giver.holdings source ≡ Some file
      → IsAskedFor giver keeper file.bytes (kept_as (keeper.holdings.landing source target) file)

-- what the hearer of a turn keeps is a file that a job asked for, whose bytes are said in it
pub record IsWellKept (a b : Party) (t : Turn) (k : Kept) : Type 0 where
  pub bytes : List ℕ
  pub said : t.said ≡ the_file bytes
  pub asked : IsAskedFor (party t.speaker a b) (party (other t.speaker) a b) bytes k

abbrev pub KeepsWell : (a b : Party) → Turn → Type 0
KeepsWell a b t = All (IsWellKept a b t) t.keeps
