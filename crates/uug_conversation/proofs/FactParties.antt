-- The ends of the worked conversations.
use Rattle.std.proofs.Common.{ℕ, ◌-◌, Bool, false, List, [], ◌∷◌, ◌++◌, length, replicate, codes, Option, Some, None, if◌then◌else◌}
use Rattle.std.specs.Str.{bytes_eq}
use Rattle.uug_conversation.specs.declared.job.Job.{Job}
use Rattle.uug_conversation.specs.declared.job.Job.TheVariants as job
use Rattle.uug_conversation.specs.declared.verdict.Verdict.{Verdict}
use Rattle.uug_conversation.specs.declared.verdict.Verdict.TheVariants.{Yes, Never, Later}
use Rattle.uug_conversation.specs.Holdings.{File, Holdings}
use Rattle.uug_conversation.specs.Party.{Party}
use Rattle.uug_talk.specs.declared.gather.TheConstants.{FILE_MAX}

-- one file, and one name that is taken in no other way than Yes, or can't be put in its place
pub data Exception : Type 0 where
  no_exception : Exception
  denied : (name : List ℕ) → Exception
  put_off : (name : List ℕ) → Exception
  fixed : (name : List ℕ) → Exception

abbrev pub named : (name : List ℕ) → Option File → (wanted : List ℕ) → Option File
named name file wanted = if bytes_eq name wanted then file else None

abbrev pub verdict_by : Exception → List ℕ → Verdict
verdict_by no_exception wanted = Yes
verdict_by (denied name) wanted = if bytes_eq name wanted then Never else Yes
verdict_by (put_off name) wanted = if bytes_eq name wanted then Later else Yes
verdict_by (fixed name) wanted = Yes

abbrev pub fixed_by : Exception → List ℕ → Bool
fixed_by (fixed name) wanted = bytes_eq name wanted
fixed_by _ wanted = false

abbrev pub holdings : (name : List ℕ) → Option File → Exception → Holdings
holdings name file exception = record {
  file = named name file;
  verdict = verdict_by exception;
  immovable = fixed_by exception;
  delayed = λ name. false;
  landing = λ source target. target;
  partials = None;
  lenient = false;
  digests = false;
  limit = FILE_MAX;
}

abbrev pub end_with : List Job → (name : List ℕ) → Option File → Exception → Party
end_with jobs name file exception = record { jobs = jobs; holdings = holdings name file exception; measure = record { size = 32; short = false } }

-- names
abbrev pub q : List ℕ
q = codes "q"

abbrev pub x : List ℕ
x = codes "x"

abbrev pub y : List ℕ
y = codes "y"

abbrev pub z : List ℕ
z = codes "z"

abbrev pub u : List ℕ
u = codes "u"

-- an empty file, and one with an image of a packet in it, both of mode octal 644
abbrev pub empty_file : Option File
empty_file = Some (record { mode = 420; bytes = [] })

abbrev pub six_bytes : List ℕ
six_bytes = 0x10 ∷ 0x09 ∷ 0x85 ∷ 0xaa ∷ 0x25 ∷ 0x03 ∷ []

abbrev pub small_file : Option File
small_file = Some (record { mode = 420; bytes = six_bytes })

-- more than one message of it
abbrev pub long_file : Option File
long_file = Some (record { mode = 384; bytes = replicate 70 7 })

abbrev pub send : Job
send = job.Send x y u None

abbrev pub send_again : Job
send_again = job.Send x z u None

-- its file is fetched by the name of the copy
abbrev pub send_copy : Job
send_copy = job.Send z y u (Some x)

abbrev pub send_nothing : Job
send_nothing = job.Send z y u None

abbrev pub request : Job
request = job.Request q y u

-- a command or an answer in one message
abbrev pub text : List ℕ → List ℕ
text bytes = bytes ++ replicate (32 - length bytes) 0
