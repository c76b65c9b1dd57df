-- What a line of a script can say (this project's profile).
use Rattle.std.specs.Prelude.{ℕ, List, Option, Some, None, Result, Ok, Err}
use Rattle.uug_link.specs.Announced.{Announced, announced}
use Rattle.uug_link.specs.declared.announce.Announce.{Announce}
use Rattle.uug_conversation.specs.Holdings.{Kept, kept_file}
use Rattle.uug_conversation.specs.declared.job.Job.{Job}
use Rattle.uug_sim_script.specs.Complaints.{Wrong, shown}
use Rattle.uug_sim_script.specs.declared.complaint.Complaint.{Complaint}
use Rattle.uug_sim_script.specs.Fields.{hex_bytes}
use Rattle.uug_line.specs.declared.event.Event.{Event}
use Rattle.uug_conversation.specs.declared.file_limit.FileLimit.{FileLimit}
use Rattle.uug_sim_script.specs.declared.line.EndStatement.{EndStatement}
use Rattle.uug_sim_script.specs.declared.line.EndStatement.TheVariants as end_line
use Rattle.uug_sim_script.specs.declared.line.Statement.{Statement}
use Rattle.uug_sim_script.specs.declared.line.Statement.TheVariants as line
use Rattle.uug_sim_script.specs.declared.mode.Mode.{Mode}
use Rattle.uug_conversation.specs.declared.side.Side.{Side}

-- of an end's set-up
pub data EndMeaning : Type 0 where
  -- its name, and what it announces
  place : List ℕ → Announced → EndMeaning
  -- a file that it has to give
  file : Kept → EndMeaning
  -- a job more
  job : Job → EndMeaning
  -- files of this name are never taken, are not taken now, can't be put in their place
  deny : List ℕ → EndMeaning
  later : List ℕ → EndMeaning
  immovable : List ℕ → EndMeaning
  -- the number of its conversations
  number : ℕ → EndMeaning
  -- it is quiet on repeats
  quiet : EndMeaning
  -- its commands are short
  short : EndMeaning
  -- it refuses what it can't read, and goes on
  lenient : EndMeaning
  -- it tells digests of its files, and compares those that it is told
  digest : EndMeaning
  -- it does so, and resumes files that were cut off
  resume : EndMeaning
  -- the greatest file that it gives or takes has so many bytes
  limit : ℕ → EndMeaning

pub data LineMeaning : Type 0 where
  nothing : LineMeaning
  of_end : Side → EndMeaning → LineMeaning
  event : Event → LineMeaning
  -- so many times all bytes for the called end come to it, and then all for the caller
  flow : ℕ → LineMeaning

-- ---- how the program keeps it: the bytes of a file as they are written

abbrev pub announced_by : Option Announce → Option Announced
announced_by None = None
announced_by (Some a) = Some (announced a)

abbrev pub mode_bits : Option Mode → Option ℕ
mode_bits None = None
mode_bits (Some m) = Some m.bits

abbrev pub limit_bytes : Option FileLimit → Option ℕ
limit_bytes None = None
limit_bytes (Some l) = Some l.bytes

abbrev pub file_meaning : List ℕ → ℕ → Option (List ℕ) → Option EndMeaning
file_meaning name mode None = None
file_meaning name mode (Some bytes) = Some (file (kept_file name mode bytes))

abbrev pub of_side : Side → Option EndMeaning → Option LineMeaning
of_side side None = None
of_side side (Some m) = Some (of_end side m)

abbrev pub end_meaning : EndStatement → Option EndMeaning
end_meaning (end_line.Place name announce) = Some (place name (announced announce))
end_meaning (end_line.File name mode hex) = file_meaning name mode.bits (hex_bytes hex.now)
end_meaning (end_line.Job j) = Some (job j)
end_meaning (end_line.Deny name) = Some (deny name)
end_meaning (end_line.Later name) = Some (later name)
end_meaning (end_line.Immovable name) = Some (immovable name)
end_meaning (end_line.Number n) = Some (number n)
end_meaning end_line.Quiet = Some quiet
end_meaning end_line.Short = Some short
end_meaning end_line.Lenient = Some lenient
end_meaning end_line.Digest = Some digest
end_meaning end_line.Resume = Some resume
end_meaning (end_line.Limit l) = Some (limit l.bytes)

abbrev pub line_meaning : Statement → Option LineMeaning
line_meaning line.Nothing = Some nothing
line_meaning (line.End side e) = of_side side (end_meaning e)
line_meaning (line.Event e) = Some (event e)
line_meaning (line.Flow n) = Some (flow n)

-- what was read of a line: what it says, and what is wrong with it
abbrev pub meaning_of : Result Statement Complaint → Option LineMeaning
meaning_of (Ok l) = line_meaning l
meaning_of (Err complaint) = None

abbrev pub complaint_in : Result Statement Complaint → Option Wrong
complaint_in (Ok l) = None
complaint_in (Err complaint) = Some (shown complaint)

-- both at once
abbrev pub read_as : Result Statement Complaint → Result (Option LineMeaning) Wrong
read_as (Ok l) = Ok (line_meaning l)
read_as (Err complaint) = Err (shown complaint)

abbrev pub known : Result LineMeaning Wrong → Result (Option LineMeaning) Wrong
known (Ok m) = Ok (Some m)
known (Err w) = Err w
