-- The order in which C. files are taken (by grade as Taylor UUCP 1.07 does; by name within one is this project's profile).
use Rattle.std.specs.Prelude.{◌==◌, ◌&&◌, ℕ, List, ◌∷◌, Option, Some, None, if◌then◌else◌}
use Rattle.std.specs.Char.{is_ascii_alphanumeric}
use Rattle.std.specs.Cmp.Lexicographic.{slice_cmp}
use Rattle.std.specs.Option.{option_cmp}
use Rattle.std.specs.Ordering.{nat_cmp, on, then_cmp}
use Rattle.std.specs.declared.cmp.Ordering.{Ordering}

-- the byte after C. in a name, if that is a letter or a digit
abbrev pub grade_of : List ℕ → Option ℕ
grade_of (c ∷ dot ∷ grade ∷ more) = if c == 67 && (dot == 46 && is_ascii_alphanumeric grade) then Some grade else None
grade_of _ = None

-- by grade, and then by name
abbrev pub work_order : (name other : List ℕ) → Ordering
work_order = then_cmp (on grade_of (option_cmp nat_cmp)) (slice_cmp nat_cmp)
