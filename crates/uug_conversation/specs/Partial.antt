-- The first bytes of a file that was cut off (this project's profile).
use Rattle.std.specs.Prelude.{ℕ, List}
use Rattle.uug_talk.specs.declared.file_digest.FileDigest.{FileDigest}

-- the name by which its giver fetches the file, and what was told of it
pub record Key : Type 0 where
  pub source : List ℕ
  pub told : FileDigest

pub record Partial : Type 0 where
  pub key : Key
  pub bytes : List ℕ
