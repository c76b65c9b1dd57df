-- The text of what is wrong with a script (this project's profile).
use Rattle.std.specs.Prelude.{◌&&◌, ℕ, ◌-◌, Bool, List, [], ◌∷◌, ◌++◌, length, codes, nat_le, slice_get, Option, Some, None, if◌then◌else◌}
use Rattle.std.specs.Borrow.{Bor}
use Rattle.std.specs.Char.{is_ascii_graphic}
use Rattle.std.specs.List.{list_all}
use Rattle.std.specs.Result.{result_err}
use Rattle.uug_talk.specs.Lines.{lines}
use Rattle.uug_sim_script.specs.declared.field.Field.{Field}
use Rattle.uug_sim_script.specs.declared.field.Field.TheVariants.{Side, Name, Window, Size, Mode, Bytes, Count, Turns, Number, Byte, Limit}
use Rattle.uug_sim_script.specs.declared.remark.TheConstants.{SHOWN_MAX}
use Rattle.uug_sim_script.specs.Complaints.{Wrong, too_long, unknown, wrong, missing, too_many}
use Rattle.uug_sim_script.specs.ReadLine.{line_of}

-- what the word is called
abbrev pub noun : Field → List ℕ
noun Side = codes "side"
noun Name = codes "name"
noun Window = codes "window"
noun Size = codes "packet size"
noun Mode = codes "mode"
noun Bytes = codes "hex"
noun Count = codes "number"
noun Turns = codes "number"
noun Number = codes "number"
noun Byte = codes "byte"
noun Limit = codes "limit"

-- what it has to be
abbrev pub wanted : Field → List ℕ
wanted Side = codes "caller or called"
wanted Name = codes "1 to 200 visible ASCII characters"
wanted Window = codes "1 to 7"
wanted Size = codes "32, 64, 128, 256, 512, 1024, 2048 or 4096"
wanted Mode = codes "1 to 4 octal digits"
wanted Bytes = codes "pairs of hexadecimal digits, or -"
wanted Count = codes "0 to 1000000000"
wanted Turns = codes "0 to 100000"
wanted Number = codes "0 to 4294967295"
wanted Byte = codes "2 hexadecimal digits"
wanted Limit = codes "1 to 268435456"

-- a word is told where it is short and all its characters can be seen
abbrev pub is_told : List ℕ → Bool
is_told word = nat_le (length word) SHOWN_MAX && list_all is_ascii_graphic word

abbrev pub told : List ℕ → List ℕ
told word = if is_told word then 32 ∷ word else []

abbrev pub complaint_text : Wrong → List ℕ
complaint_text too_long = codes "line is longer than 65536 bytes"
complaint_text (unknown word) = codes "unknown statement" ++ told word
complaint_text (wrong field word) = noun field ++ told word ++ codes " is not " ++ wanted field
complaint_text (missing field) = noun field ++ codes " is missing"
complaint_text (too_many word) = codes "unexpected word" ++ told word

-- a bad line with which nothing is wrong by itself says again what was said before
abbrev pub bad_line_text : Option Wrong → List ℕ
bad_line_text None = codes "the end has this setting already, or 1024 jobs"
bad_line_text (Some complaint) = complaint_text complaint

-- there is no bad line where an end is not placed, or gives a file that is too large for the other
abbrev pub remark_of : Option (List ℕ) → List ℕ
remark_of None = codes "caller or called is missing, or gives a file that is too large for the other"
remark_of (Some line) = bad_line_text (result_err (line_of line))

-- the line of this number, counted from 1
abbrev pub line_at : ℕ → (script : List ℕ) → Option (List ℕ)
line_at number script = slice_get (lines script) (number - 1)

-- what is wrong with a script whose first bad line has this number
abbrev pub remark_at : ℕ → (script : List ℕ) → List ℕ
remark_at number script = remark_of (line_at number script)

abbrev pub line_shown : Option (Bor (List ℕ)) → Option (List ℕ)
line_shown None = None
line_shown (Some line) = Some line.now
