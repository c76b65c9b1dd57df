-- What a spool gives and accepts, and whether its end is lenient, and tells and compares digests (this project's profile). It does not change in a session.
use Rattle.std.specs.Prelude.{◌≡◌, ℕ, ◌<◌, ◌≤◌, Bool, List, length, nat_le, Option, Some, None, if◌then◌else◌}
use Rattle.uug_conversation.specs.declared.verdict.Verdict.{Verdict}
use Rattle.uug_conversation.specs.Partial.{Partial}
use Rattle.uug_talk.specs.declared.gather.TheConstants.{FILE_LIMIT_MAX}
use Rattle.uug_talk.specs.declared.mode.TheConstants.{MODE_MAX}

-- a file that a spool has to give
pub record File : Type 0 where
  pub mode : ℕ
  pub bytes : List ℕ

-- a file that a spool has kept, under its name there
pub record Kept : Type 0 where
  pub name : List ℕ
  pub mode : ℕ
  pub bytes : List ℕ

-- by a file's name
pub record Holdings : Type 0 where
  -- the file of this name, if there is one
  pub file : List ℕ → Option File
  -- whether there may be a file of this name that can't be given now, but later
  pub delayed : List ℕ → Bool
  -- whether a file of this name is taken
  pub verdict : List ℕ → Verdict
  -- whether a file of this name can't be put in its place
  pub immovable : List ℕ → Bool
  -- under which name a file of this name is kept that is sent to this one
  pub landing : (source target : List ℕ) → List ℕ
  -- what it holds of files that were cut off, of each name and digest one; none where it does not resume
  pub partials : Option (List Partial)
  -- whether the end refuses what it can't read, and goes on
  pub lenient : Bool
  -- whether it tells digests of its files, and compares those that it is told
  pub digests : Bool
  -- how many bytes the greatest file has that it gives or takes
  pub limit : ℕ

-- a mode is at most octal 7777
abbrev pub AreModes : Holdings → Type 0
AreModes h = (name : List ℕ) (file : File) → h.file name ≡ Some file → file.mode ≤ MODE_MAX

-- a limit of files can be kept
pub record IsLimit (limit : ℕ) : Type 0 where
  pub some : 0 < limit
  pub fits : limit ≤ FILE_LIMIT_MAX

-- a file that is too large is not given
abbrev pub within_limit : (limit : ℕ) → Option File → Option File
within_limit limit None = None
within_limit limit (Some file) = if nat_le (length file.bytes) limit then Some file else None

-- the file of this name that may be sent, if there is one
abbrev pub to_give : Holdings → List ℕ → Option File
to_give h name = within_limit h.limit (h.file name)

abbrev pub kept_file : (name : List ℕ) → (mode : ℕ) → (bytes : List ℕ) → Kept
kept_file name mode bytes = record { name = name; mode = mode; bytes = bytes }

-- the file as it is kept under this name
abbrev pub kept_as : List ℕ → File → Kept
kept_as name file = record { name = name; mode = file.mode; bytes = file.bytes }
