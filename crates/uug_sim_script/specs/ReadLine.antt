-- What a line of a script says, as a function of its words, or the first thing that is wrong with it: each statement as its
-- first word and what has to stand behind it. What it means is said by the table in `LineSays`.
use Rattle.std.specs.Prelude.{⊤, ℕ, List, [], ◌∷◌, length, codes, nat_le, Option, Some, None, Result, Ok, Err, if◌then◌else◌}
use Rattle.std.specs.Str.{bytes_eq}
use Rattle.uug_link.specs.Announced.{Announced}
use Rattle.uug_conversation.specs.declared.job.Job.TheVariants as job_of
use Rattle.uug_talk.specs.declared.call.TheConstants.{NUMBER_MAX}
use Rattle.uug_talk.specs.Number.{number_of}
use Rattle.uug_talk.specs.Words.{words}
use Rattle.uug_line.specs.declared.event.Event.TheVariants.{Pass, Drop, Flip, Insert, Timeout, HangUp, Call}
use Rattle.uug_talk.specs.declared.lines.TheConstants.{LINE_MAX}
use Rattle.uug_sim_script.specs.declared.line.TheConstants.{BYTES_MAX, TURNS_MAX}
use Rattle.uug_conversation.specs.declared.side.Side.{Side}
use Rattle.uug_conversation.specs.declared.side.Side.TheVariants.{Caller, Called}
use Rattle.uug_sim_script.specs.declared.field.Field.{Field}
use Rattle.uug_sim_script.specs.declared.field.Field.TheVariants as fields
use Rattle.uug_sim_script.specs.Complaints.{Wrong, too_long, unknown, too_many, field_at, ◌>>=◌}
use Rattle.uug_sim_script.specs.Fields.{side_of, window_of, announcement_of, mode_of_word, hex_bytes, byte_of, limit_of_word}
use Rattle.uug_talk.specs.Name.{name_of}
use Rattle.uug_talk.specs.Lines.{is_comment}
use Rattle.uug_sim_script.specs.Meaning.{LineMeaning, nothing, of_end, event, flow, place, file, job, deny, later, immovable, number, quiet, short, lenient, digest, resume, limit}
use Rattle.uug_conversation.specs.Holdings.{kept_file}

-- ---- what can stand in front, and the words behind it

-- of so many words the first was this
abbrev pub Front : Type 0 → Type 0
Front A = Result (A × List (List ℕ)) Wrong

abbrev pub side_at : List (List ℕ) → Front Side
side_at ws = field_at fields.Side side_of ws

abbrev pub name_at : List (List ℕ) → Front (List ℕ)
name_at ws = field_at fields.Name name_of ws

abbrev pub window_at : List (List ℕ) → Front ℕ
window_at ws = field_at fields.Window window_of ws

abbrev pub announcement_at : List (List ℕ) → Front Announced
announcement_at ws = window_at ws >>= (λ w. field_at fields.Size (announcement_of w.0) w.1)

abbrev pub mode_at : List (List ℕ) → Front ℕ
mode_at ws = field_at fields.Mode mode_of_word ws

abbrev pub hex_at : List (List ℕ) → Front (List ℕ)
hex_at ws = field_at fields.Bytes hex_bytes ws

abbrev pub number_at : Field → (most : ℕ) → List (List ℕ) → Front ℕ
number_at field most ws = field_at field (number_of most) ws

abbrev pub limit_at : List (List ℕ) → Front ℕ
limit_at ws = field_at fields.Limit limit_of_word ws

abbrev pub byte_at : List (List ℕ) → Front ℕ
byte_at ws = field_at fields.Byte byte_of ws

-- no more words
abbrev pub ends : List (List ℕ) → Result ⊤ Wrong
ends [] = Ok tt
ends (word ∷ more) = Err (too_many word)

-- the name of a copy, which may be left out, and no more
abbrev pub copy_of : List (List ℕ) → Result (Option (List ℕ)) Wrong
copy_of [] = Ok None
copy_of (word ∷ more) = name_at (word ∷ more) >>= (λ n. ends n.1 >>= (λ _. Ok (Some n.0)))

-- ---- the statements, by the words behind the first

-- NAME WINDOW SIZE, behind the word of an end
abbrev pub place_of : Side → List (List ℕ) → Result LineMeaning Wrong
place_of side ws =
    name_at ws >>= (λ n. announcement_at n.1 >>= (λ a. ends a.1 >>= (λ _. Ok (of_end side (place n.0 a.0)))))

-- SIDE NAME MODE HEX
abbrev pub file_of : List (List ℕ) → Result LineMeaning Wrong
file_of ws =
    side_at ws >>= (λ s. name_at s.1 >>= (λ n. mode_at n.1 >>= (λ m. hex_at m.1 >>= (λ h. ends h.1 >>= (λ _.
    Ok (of_end s.0 (file (kept_file n.0 m.0 h.0))))))))

-- SIDE SOURCE TARGET USER [TEMP]
abbrev pub send_of : List (List ℕ) → Result LineMeaning Wrong
send_of ws =
    side_at ws >>= (λ s. name_at s.1 >>= (λ source. name_at source.1 >>= (λ target. name_at target.1 >>= (λ user.
    copy_of user.1 >>= (λ temp. Ok (of_end s.0 (job (job_of.Send source.0 target.0 user.0 temp))))))))

-- SIDE SOURCE TARGET USER
abbrev pub request_of : List (List ℕ) → Result LineMeaning Wrong
request_of ws =
    side_at ws >>= (λ s. name_at s.1 >>= (λ source. name_at source.1 >>= (λ target. name_at target.1 >>= (λ user.
    ends user.1 >>= (λ _. Ok (of_end s.0 (job (job_of.Request source.0 target.0 user.0))))))))

-- SIDE NAME
abbrev pub side_and_name : List (List ℕ) → Result (Side × List ℕ) Wrong
side_and_name ws = side_at ws >>= (λ s. name_at s.1 >>= (λ n. ends n.1 >>= (λ _. Ok (s.0, n.0))))

-- SIDE N
abbrev pub side_and_number : Field → (most : ℕ) → List (List ℕ) → Result (Side × ℕ) Wrong
side_and_number field most ws = side_at ws >>= (λ s. number_at field most s.1 >>= (λ n. ends n.1 >>= (λ _. Ok (s.0, n.0))))

-- SIDE HH
abbrev pub side_and_byte : List (List ℕ) → Result (Side × ℕ) Wrong
side_and_byte ws = side_at ws >>= (λ s. byte_at s.1 >>= (λ b. ends b.1 >>= (λ _. Ok (s.0, b.0))))

-- SIDE
abbrev pub one_side : List (List ℕ) → Result Side Wrong
one_side ws = side_at ws >>= (λ s. ends s.1 >>= (λ _. Ok s.0))

abbrev pub call_of : List (List ℕ) → Result LineMeaning Wrong
call_of ws = ends ws >>= (λ _. Ok (event Call))

-- N
abbrev pub flow_of : List (List ℕ) → Result LineMeaning Wrong
flow_of ws = number_at fields.Turns TURNS_MAX ws >>= (λ n. ends n.1 >>= (λ _. Ok (flow n.0)))

abbrev pub deny_of : List (List ℕ) → Result LineMeaning Wrong
deny_of ws = side_and_name ws >>= (λ p. Ok (of_end p.0 (deny p.1)))

abbrev pub later_of : List (List ℕ) → Result LineMeaning Wrong
later_of ws = side_and_name ws >>= (λ p. Ok (of_end p.0 (later p.1)))

abbrev pub immovable_of : List (List ℕ) → Result LineMeaning Wrong
immovable_of ws = side_and_name ws >>= (λ p. Ok (of_end p.0 (immovable p.1)))

abbrev pub number_line_of : List (List ℕ) → Result LineMeaning Wrong
number_line_of ws = side_and_number fields.Number NUMBER_MAX ws >>= (λ p. Ok (of_end p.0 (number p.1)))

abbrev pub quiet_of : List (List ℕ) → Result LineMeaning Wrong
quiet_of ws = one_side ws >>= (λ s. Ok (of_end s quiet))

abbrev pub short_of : List (List ℕ) → Result LineMeaning Wrong
short_of ws = one_side ws >>= (λ s. Ok (of_end s short))

abbrev pub lenient_of : List (List ℕ) → Result LineMeaning Wrong
lenient_of ws = one_side ws >>= (λ s. Ok (of_end s lenient))

abbrev pub digest_of : List (List ℕ) → Result LineMeaning Wrong
digest_of ws = one_side ws >>= (λ s. Ok (of_end s digest))

abbrev pub resume_of : List (List ℕ) → Result LineMeaning Wrong
resume_of ws = one_side ws >>= (λ s. Ok (of_end s resume))

-- SIDE N, where N is a limit
abbrev pub limit_line_of : List (List ℕ) → Result LineMeaning Wrong
limit_line_of ws = side_at ws >>= (λ s. limit_at s.1 >>= (λ n. ends n.1 >>= (λ _. Ok (of_end s.0 (limit n.0)))))

abbrev pub pass_of : List (List ℕ) → Result LineMeaning Wrong
pass_of ws = side_and_number fields.Count BYTES_MAX ws >>= (λ p. Ok (event (Pass p.0 p.1)))

abbrev pub drop_of : List (List ℕ) → Result LineMeaning Wrong
drop_of ws = side_and_number fields.Count BYTES_MAX ws >>= (λ p. Ok (event (Drop p.0 p.1)))

abbrev pub flip_of : List (List ℕ) → Result LineMeaning Wrong
flip_of ws = side_and_byte ws >>= (λ p. Ok (event (Flip p.0 p.1)))

abbrev pub insert_of : List (List ℕ) → Result LineMeaning Wrong
insert_of ws = side_and_byte ws >>= (λ p. Ok (event (Insert p.0 p.1)))

abbrev pub timeout_of : List (List ℕ) → Result LineMeaning Wrong
timeout_of ws = one_side ws >>= (λ s. Ok (event (Timeout s)))

abbrev pub hang_up_of : List (List ℕ) → Result LineMeaning Wrong
hang_up_of ws = one_side ws >>= (λ s. Ok (event (HangUp s)))

-- by the first word, with the words behind it
abbrev pub event_by : List ℕ → List (List ℕ) → Result LineMeaning Wrong
event_by first ws =
    if bytes_eq first (codes "pass") then pass_of ws else
    (if bytes_eq first (codes "drop") then drop_of ws else
    (if bytes_eq first (codes "flip") then flip_of ws else
    (if bytes_eq first (codes "insert") then insert_of ws else
    (if bytes_eq first (codes "timeout") then timeout_of ws else
    (if bytes_eq first (codes "hangup") then hang_up_of ws else
    (if bytes_eq first (codes "call") then call_of ws else
    (if bytes_eq first (codes "flow") then flow_of ws else Err (unknown first))))))))

abbrev pub line_by : List ℕ → List (List ℕ) → Result LineMeaning Wrong
line_by first ws =
    if bytes_eq first (codes "caller") then place_of Caller ws else
    (if bytes_eq first (codes "called") then place_of Called ws else
    (if bytes_eq first (codes "file") then file_of ws else
    (if bytes_eq first (codes "send") then send_of ws else
    (if bytes_eq first (codes "request") then request_of ws else
    (if bytes_eq first (codes "deny") then deny_of ws else
    (if bytes_eq first (codes "later") then later_of ws else
    (if bytes_eq first (codes "immovable") then immovable_of ws else
    (if bytes_eq first (codes "number") then number_line_of ws else
    (if bytes_eq first (codes "quiet") then quiet_of ws else
    (if bytes_eq first (codes "short") then short_of ws else
    (if bytes_eq first (codes "lenient") then lenient_of ws else
    (if bytes_eq first (codes "digest") then digest_of ws else
    (if bytes_eq first (codes "resume") then resume_of ws else
    (if bytes_eq first (codes "limit") then limit_line_of ws else event_by first ws))))))))))))))

-- a line with no word, and a comment, say nothing
abbrev pub line_of_words : List (List ℕ) → Result LineMeaning Wrong
line_of_words [] = Ok nothing
line_of_words (first ∷ ws) = if is_comment first then Ok nothing else line_by first ws

-- a line that is too long is bad
abbrev pub line_of : List ℕ → Result LineMeaning Wrong
line_of line = if nat_le (length line) LINE_MAX then line_of_words (words line) else Err too_long
