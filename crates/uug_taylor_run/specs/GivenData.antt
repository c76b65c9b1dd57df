-- The file that is given for a job: the one that its line names (this project's profile).
use Rattle.std.specs.List.{list_all}
use Rattle.std.specs.Prelude.{◌≡◌, ℕ, true, List, ◌++◌, if◌then◌else◌}
use Rattle.std.specs.Str.{bytes_eq}
use Rattle.uug_conversation.specs.declared.stored.Stored.{Stored}
use Rattle.uug_taylor_text.specs.CommandLines.{has_option}

-- the copy, with option C; else the file at the source's path
abbrev pub data_name : (options source temp : List ℕ) → List ℕ
data_name options source temp = if has_option 67 options then temp else source

-- only files of this name are appended
pub record AddsNamed {A : Type 0} (name : List ℕ) (files files_after : List (Stored A)) : Type 0 where
  pub more : List (Stored A)
  pub is_all : files_after ≡ files ++ more
  pub are_named : list_all (λ file. bytes_eq file.name name) more ≡ true
