-- Where the copies that `queue` makes belong, and the room for files in a session (this project's profile).
use Rattle.std.specs.Prelude.{ℕ, ◌-◌, ◌||◌, Bool, false, List, Option, None, Some, if◌then◌else◌, nat_le}
use Rattle.std.specs.List.{list_any}
use Rattle.std.specs.Str.{bytes_eq}
use Rattle.uug_conversation.specs.declared.job.Job.{Job}
use Rattle.uug_conversation.specs.declared.job.Job.TheVariants.{Send, Request}
use Rattle.uug_store.specs.LocalNames.{local_source}
use Rattle.uug_store.specs.Queueing.{is_given_by}
use Rattle.uug_io_disk.specs.declared.copy_place.CopyPlace.{CopyPlace}
use Rattle.uug_io_disk.specs.declared.copy_place.CopyPlace.TheVariants.{InSend, WithFailed, Nowhere}

-- ---- copies

abbrev pub is_named : (name : List ℕ) → Option (List ℕ) → Bool
is_named name None = false
is_named name (Some local) = bytes_eq local name

-- the job sends the file of this name in `send`; the source `~/x` is `x` there
abbrev pub needs : (name : List ℕ) → Job → Bool
needs name (Send source target user temp) = is_named name (local_source source)
needs name (Request source target user) = false

abbrev pub is_needed_by : (name : List ℕ) → List Job → Bool
is_needed_by name jobs = list_any (needs name) jobs

-- Where the copy of this name belongs: in `send` while a pending job sends it; otherwise with the files of failed jobs,
-- if a failed job has just this source; otherwise nowhere.
abbrev pub place_of : (name : List ℕ) → (waiting failed : List Job) → CopyPlace
place_of name waiting failed =
    if is_needed_by name waiting then InSend else
    (if is_given_by name failed then WithFailed else Nowhere)

-- a pending job sends the file of this name in `send`, or a failed job has just this source
abbrev pub is_taken : (name : List ℕ) → (waiting failed : List Job) → Bool
is_taken name waiting failed = is_needed_by name waiting || is_given_by name failed

-- ---- room

-- the room that is left after a file of this size, if it fits
abbrev pub room_behind : (room size : ℕ) → Option ℕ
room_behind room size = if nat_le size room then Some (room - size) else None
