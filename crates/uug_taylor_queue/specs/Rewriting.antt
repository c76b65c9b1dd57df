-- How a C. file is rewritten when some of its lines are over, and others are not (that it is rewritten is this
-- project's profile: Taylor UUCP 1.07 does all lines without a copy again).
use Rattle.std.specs.Prelude.{◌==◌, ◌&&◌, ℕ, suc, List, [], ◌∷◌, ◌++◌, Bool, true, false, not, is_none, map, if◌then◌else◌}
use Rattle.std.specs.List.{list_any}
use Rattle.std.specs.Str.{bytes_eq}
use Rattle.uug_talk.specs.Lines.{ended, lines}
use Rattle.uug_taylor_text.specs.DiskOrder.{replaced_ops}
use Rattle.uug_taylor_text.specs.Operations.{Op}
use Rattle.uug_taylor_text.specs.SpoolNames.{spot}
use Rattle.uug_taylor_text.specs.declared.spool_names.Room.TheVariants as rooms
use Rattle.uug_taylor_queue.specs.OpenLines.{is_blank}
use Rattle.uug_conversation.specs.declared.job.Job.{Job}
use Rattle.uug_taylor_queue.specs.OverOrder.{gone_lines, has_line, lines_after, store_ops}
use Rattle.uug_taylor_queue.specs.declared.command_text.CommandText.{CommandText}
use Rattle.uug_taylor_queue.specs.declared.open_line.OpenLine.{OpenLine}

pub record FileText : Type 0 where
  pub name : List ℕ
  pub text : List ℕ

abbrev pub shown_text : {A : Type 0} → CommandText A → FileText
shown_text file = record { name = file.name; text = file.text.items }

-- ---- which lines are over

-- one of these lines is line `number` of the file, counted from 0
abbrev pub has_number : (file : List ℕ) (number : ℕ) → List OpenLine → Bool
has_number file number lines = list_any (λ line. line.number == number && bytes_eq line.file file) lines

-- this line of the file is over, with all its jobs
abbrev pub is_over_in : (file : List ℕ) (number : ℕ) (gone left : List OpenLine) → Bool
is_over_in file number gone left = has_number file number gone && not (has_number file number left)

-- ---- which files are rewritten

-- the file has lost a line without a copy; a line with a copy is over as soon as the copy is gone
abbrev pub has_lost : (file : List ℕ) (gone left : List OpenLine) → Bool
has_lost file gone left =
    list_any (λ line. is_none line.copy && (bytes_eq line.file file && not (has_number file line.number left))) gone

abbrev pub is_rewritten : (file : List ℕ) (gone left : List OpenLine) → Bool
is_rewritten file gone left = has_lost file gone left && has_line file left

-- ---- their texts

-- a line that is over becomes empty
abbrev pub left_line : (is_over : Bool) (line : List ℕ) → List ℕ
left_line true line = []
left_line false line = line

abbrev pub left_lines : (file : List ℕ) (gone left : List OpenLine) (number : ℕ) → List (List ℕ) → List ℕ
left_lines file gone left number [] = []
left_lines file gone left number (line ∷ more) =
    ended (left_line (is_over_in file number gone left) line) ++ left_lines file gone left (suc number) more

abbrev pub text_after : (gone left : List OpenLine) → FileText → FileText
text_after gone left f = record {
  name = f.name;
  text = if is_rewritten f.name gone left then left_lines f.name gone left 0 (lines f.text) else f.text;
}

-- the lines that are not blank
abbrev pub packed_line : (line : List ℕ) → List ℕ
packed_line line = if is_blank line then [] else ended line

abbrev pub packed : List (List ℕ) → List ℕ
packed [] = []
packed (line ∷ more) = packed_line line ++ packed more

-- ---- what is written

-- the files that are rewritten, each with its new text
abbrev pub rewritten : (gone left : List OpenLine) → List FileText → List FileText
rewritten gone left [] = []
rewritten gone left (f ∷ more) =
    if is_rewritten f.name gone left then (record { name = f.name; text = packed (lines f.text) }) ∷ rewritten gone left more
    else rewritten gone left more

abbrev pub replacing : List FileText → List Op
replacing [] = []
replacing (f ∷ more) = replaced_ops (spot rooms.Commands f.name) f.text ++ replacing more

-- each file that has lost a line without a copy, and has others, is rewritten with the lines that stay
abbrev pub rewrite_ops : (gone left : List OpenLine) → List FileText → List Op
rewrite_ops gone left files = replacing (rewritten gone left (map (text_after gone left) files))

-- ---- when jobs are over

abbrev pub texts_settled : (struck failed : List Job) → List OpenLine → List FileText → List FileText
texts_settled struck failed lines files =
    map (text_after (gone_lines struck failed lines) (lines_after struck failed lines)) files

-- first copies and C. files are removed, and then C. files are rewritten
abbrev pub settling_ops : (struck failed : List Job) → List OpenLine → List FileText → List Op
settling_ops struck failed lines files =
    store_ops struck failed lines
    ++ rewrite_ops (gone_lines struck failed lines) (lines_after struck failed lines) files
