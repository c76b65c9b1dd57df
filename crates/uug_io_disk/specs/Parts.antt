-- The names of incomplete files, and the bytes that are written to a file (this project's profile).
use Rattle.std.specs.List.{starts_with}
use Rattle.std.specs.Prelude.{ℕ, Bool, List, codes, nat_eq}
use Rattle.uug_io_disk.specs.declared.written.Written.{Written}

-- the name is that of an incomplete file
abbrev pub is_part : (name : List ℕ) → Bool
is_part name = starts_with nat_eq name (codes ".part.")

-- the bytes that were written
abbrev pub written_bytes : Written → List ℕ
written_bytes written = written.bytes.value.now
