-- What a node keeps and tells by digests, whatever comes to it (this project's profile).
use Rattle.std.specs.Prelude.{◌≡◌, ℕ, List, Some}
use Rattle.uug_talk.specs.declared.file_digest.FileDigest.{FileDigest}
use Rattle.uug_talk.specs.Chunks.{Measure}
use Rattle.uug_conversation.specs.Comparing.{AllFit, TellsTruly, told_awaited}
use Rattle.uug_conversation.specs.DialogueState.{DialogueState, is_empty, opened_with, taking, with_first_sent}
use Rattle.uug_conversation.specs.Holdings.{Holdings}
use Rattle.uug_conversation.specs.Machine.{Reply, opening, reply_to}
use Rattle.uug_conversation.specs.declared.side.Side.{Side}

-- how a dialogue comes from one state to another: its link comes up, it takes the other end's messages, and sends its own
pub data Talk (side : Side) (h : Holdings) (from : DialogueState) : DialogueState → Type 0 where
  begins : Talk side h from from
  opens : {talk : DialogueState} (measure : Measure) → Talk side h from talk → Talk side h from (opened_with side h measure talk)
  takes : {talk : DialogueState} (message : List ℕ) → Talk side h from talk → Talk side h from (taking h message talk)
  says : {talk : DialogueState} → Talk side h from talk → Talk side h from (with_first_sent talk)

-- what a message brings: a file that is kept, where a digest was told of it, has that digest; and what is told is told of the
-- file that the spool gives
pub record IsSo (h : Holdings) (talk : DialogueState) (reply : Reply) : Type 0 where
  pub kept : (told : FileDigest) → told_awaited talk.machine.awaits ≡ Some told → AllFit told reply.keeps
  pub told : TellsTruly h reply.says

-- so it is with each message of it
abbrev pub AllSo : {side : Side} {h : Holdings} {from to : DialogueState} → Talk side h from to → Type 0
AllSo begins = Unit {0}
AllSo {side = side} {h = h} (opens {talk = talk} measure before) = TellsTruly h (opening side h talk.machine.lists).says × AllSo before
AllSo {h = h} (takes {talk = talk} message before) = IsSo h talk (reply_to h (is_empty talk.waiting) talk.machine message) × AllSo before
AllSo (says before) = AllSo before

-- from one time to a later one
pub record Compares (side : Side) (h : Holdings) (from to : DialogueState) : Type 0 where
  pub talk : Talk side h from to
  pub all_so : AllSo talk
