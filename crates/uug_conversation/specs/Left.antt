-- Defines the part that is left of a file whose session ends in its middle (this project's profile).
use Rattle.std.specs.Prelude.{◌≡◌, ℕ, ◌+◌, ◌<◌, ◌≤◌, List, [], ◌∷◌, ◌++◌, length, drop, Contains, Option, Some, None}
use Rattle.uug_conversation.specs.declared.awaits.Awaits.{Awaits}
use Rattle.uug_conversation.specs.declared.awaits.Awaits.TheVariants as awaits
use Rattle.uug_conversation.specs.declared.job.Job.TheVariants as job
use Rattle.uug_conversation.specs.Choice.{fetched_by}
use Rattle.uug_conversation.specs.Holdings.{File, Holdings, to_give}
use Rattle.uug_conversation.specs.Machine.{State}
use Rattle.uug_conversation.specs.Partial.{Partial}
use Rattle.uug_conversation.specs.Exchange.{exchange}
use Rattle.uug_conversation.specs.Jobs.{Move}
use Rattle.uug_conversation.specs.Partials.{holding, partials_then}
use Rattle.uug_conversation.specs.Party.{Party}
use Rattle.uug_conversation.specs.Turns.{Said, Turn, the_consent, the_file}
use Rattle.uug_conversation.specs.declared.side.Side.{Side}
use Rattle.uug_conversation.specs.declared.verdict.Verdict.TheVariants.{Yes}
use Rattle.uug_conversation.specs.Resuming.{IsFront, front_of}
use Rattle.uug_conversation.specs.Told.{heard, told_of}

-- of the file that a slave awaits, where it was told of it: what was held, and what has come behind that
abbrev pub left_by : Holdings → Awaits → (gathered : List ℕ) → Option Partial
left_by h (awaits.SentFile source target mode (Some told) limit) gathered = Some (record {
  key = record { source = source; told = told };
  bytes = front_of h source (Some told) ++ gathered;
})
left_by h _ gathered = None

-- where the session ends now
abbrev pub left_of : Holdings → State → Option Partial
left_of h s = left_by h s.awaits s.gathered

-- in a file of `whole` bytes, which comes in messages of `size` bytes each but the last
pub data Advances (size whole before after : ℕ) : Type 0 where
  by_nothing : after ≡ before → Advances size whole before after
  by_messages : before + size ≤ after → Advances size whole before after
  to_its_end : before < after → after ≡ whole → Advances size whole before after

-- it is of a Send job of the giver: of the file that its holdings give to it, with what this end heard of that, and a front of its
-- bytes, which messages of the giver have brought behind what was held
pub record IsLeftOf (giver : Party) (taker : Holdings) (p : Partial) : Type 0 where
  pub source : List ℕ
  pub target : List ℕ
  pub user : List ℕ
  pub temp : Option (List ℕ)
  pub file : File
  pub is_job : Contains giver.jobs (job.Send source target user temp)
  pub is_source : fetched_by source temp ≡ p.key.source
  pub is_given : to_give giver.holdings p.key.source ≡ Some file
  pub is_told : heard taker.digests (told_of giver.holdings.digests (Some file)) ≡ Some p.key.told
  pub front : IsFront p.bytes file.bytes
  pub advances :
      Advances giver.measure.size (length file.bytes) (length (front_of taker p.key.source (Some p.key.told))) (length p.bytes)

-- if anything is left, it is so
abbrev pub IsLeft : (giver : Party) → (taker : Holdings) → Option Partial → Type 0
IsLeft giver taker None = Unit {0}
IsLeft giver taker (Some p) = IsLeftOf giver taker p

-- ---- the next session

-- what is said of a Send job's file once its command has come: the answer, and the file or its rest
abbrev pub said_of_file : List Turn → List Said
said_of_file (order ∷ answer ∷ file ∷ more) = answer.said ∷ file.said ∷ []
said_of_file _ = []

-- In a session to which this end brings what was left, the giver is asked for the byte behind that, and sends what has not come before:
-- of each Send job whose file is fetched by that name, where it is taken.
abbrev pub GoesOnBehind : (giver taker : Holdings) → Partial → Type 0
GoesOnBehind giver taker p =
    (master slave : Side) (source target user : List ℕ) (temp : Option (List ℕ)) (file : File) (next : List Move) (rest : List Turn) →
    fetched_by source temp ≡ p.key.source → to_give giver p.key.source ≡ Some file → taker.verdict (taker.landing source target) ≡ Yes →
    said_of_file (exchange master slave giver (holding (partials_then taker.partials (Some p)) taker) (job.Send source target user temp) next rest)
    ≡ the_consent (length p.bytes) ∷ the_file (drop (length p.bytes) file.bytes) ∷ []
