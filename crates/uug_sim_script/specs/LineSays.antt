-- The lines of a script, by their words (this project's profile): one clause for each kind of line.
use Rattle.std.specs.Prelude.{◌≡◌, ℕ, ◌<◌, ◌≤◌, List, [], ◌∷◌, length, codes, Option, Some, None, Ok, false}
use Rattle.std.specs.Str.Parse.{IsNumeral, digits_value}
use Rattle.hex.specs.Hex.{decode_of}
use Rattle.uug_link.specs.Announced.{Announced}
use Rattle.uug_link.specs.Terms.{IsWindow, size_of_code}
use Rattle.uug_link.specs.declared.limits.TheConstants.{SIZE_CODES}
use Rattle.uug_conversation.specs.Holdings.{kept_file}
use Rattle.uug_conversation.specs.declared.job.Job.TheVariants.{Send, Request}
use Rattle.uug_talk.specs.declared.call.TheConstants.{NUMBER_MAX}
use Rattle.uug_talk.specs.declared.gather.TheConstants.{FILE_LIMIT_MAX}
use Rattle.uug_talk.specs.Mode.{IsModeWord, octal_value}
use Rattle.uug_talk.specs.Name.{IsName}
use Rattle.uug_talk.specs.Order.{AreNames}
use Rattle.uug_talk.specs.Words.{words}
use Rattle.uug_line.specs.declared.event.Event.TheVariants.{Pass, Drop, Flip, Insert, Timeout, HangUp, Call}
use Rattle.uug_sim_script.specs.declared.fields.TheConstants.{MODE_DIGITS}
use Rattle.uug_talk.specs.declared.lines.TheConstants.{LINE_MAX}
use Rattle.uug_sim_script.specs.declared.line.TheConstants.{BYTES_MAX, TURNS_MAX}
use Rattle.uug_conversation.specs.declared.side.Side.{Side}
use Rattle.uug_session.specs.PhaseWords.{side_word}
use Rattle.uug_sim_script.specs.Meaning.{LineMeaning, nothing, of_end, event, flow, place, file, job, deny, later, immovable, number, quiet, short, lenient, digest, resume, limit}

-- the word writes the number in decimal digits, with no sign, and the number is at most this one
abbrev pub WritesNumber : ℕ → List ℕ → ℕ → Type 0
WritesNumber most word n = IsNumeral 10 word × (n ≡ digits_value 10 word) × (n ≤ most)

-- the two words write the window, 1 to 7, and one of the packet sizes; that an end is quiet on repeats, and that its commands
-- are short, stand in other lines
pub record Announces (window size : List ℕ) (a : Announced) : Type 0 where
  pub digits : IsNumeral 10 window × IsNumeral 10 size
  pub is_window : IsWindow a.window
  pub is_code : a.size_code < SIZE_CODES
  pub window_is : digits_value 10 window ≡ a.window
  pub size_is : digits_value 10 size ≡ size_of_code a.size_code
  pub plain : (a.quiet ≡ false) × (a.short ≡ false)

-- the word writes the mode in one to four octal digits
abbrev pub WritesMode : List ℕ → ℕ → Type 0
WritesMode word mode = IsModeWord word × (length word ≤ MODE_DIGITS) × (mode ≡ octal_value word)

-- the word writes the bytes, each in two hexadecimal digits of either case; a dash writes none
pub data WritesBytes : List ℕ → List ℕ → Type 0 where
  dash : WritesBytes (codes "-") []
  pairs : {word bytes : List ℕ} → decode_of word ≡ Ok bytes → WritesBytes word bytes

-- the words behind the name of a job's user name a copy of the file, if there is one
abbrev pub NamesCopy : List (List ℕ) → Option (List ℕ) → Type 0
NamesCopy more None = more ≡ []
NamesCopy more (Some temp) = IsName temp × (more ≡ temp ∷ [])

pub data LineSays : List (List ℕ) → LineMeaning → Type 0 where
  blank : LineSays [] nothing
  comment : {letters : List ℕ} {more : List (List ℕ)} → LineSays ((35 ∷ letters) ∷ more) nothing
  -- caller NAME WINDOW SIZE, called NAME WINDOW SIZE
  end_line : {side : Side} {name window size : List ℕ} {a : Announced} → IsName name → Announces window size a
      → LineSays (side_word side ∷ name ∷ window ∷ size ∷ []) (of_end side (place name a))
  -- file SIDE NAME MODE HEX
  file_line : {side : Side} {name digits hex bytes : List ℕ} {mode : ℕ}
      → IsName name → WritesMode digits mode → WritesBytes hex bytes
      → LineSays (codes "file" ∷ side_word side ∷ name ∷ digits ∷ hex ∷ []) (of_end side (file (kept_file name mode bytes)))
  -- send SIDE SOURCE TARGET USER [TEMP]
  send_line : {side : Side} {source target user : List ℕ} {temp : Option (List ℕ)} {more : List (List ℕ)}
      → AreNames source target user → NamesCopy more temp
      → LineSays (codes "send" ∷ side_word side ∷ source ∷ target ∷ user ∷ more) (of_end side (job (Send source target user temp)))
  -- request SIDE SOURCE TARGET USER
  request_line : {side : Side} {source target user : List ℕ} → AreNames source target user
      → LineSays (codes "request" ∷ side_word side ∷ source ∷ target ∷ user ∷ []) (of_end side (job (Request source target user)))
  -- deny SIDE NAME, later SIDE NAME, immovable SIDE NAME
  deny_line : {side : Side} {name : List ℕ} → IsName name
      → LineSays (codes "deny" ∷ side_word side ∷ name ∷ []) (of_end side (deny name))
  later_line : {side : Side} {name : List ℕ} → IsName name
      → LineSays (codes "later" ∷ side_word side ∷ name ∷ []) (of_end side (later name))
  immovable_line : {side : Side} {name : List ℕ} → IsName name
      → LineSays (codes "immovable" ∷ side_word side ∷ name ∷ []) (of_end side (immovable name))
  -- number SIDE N
  number_line : {side : Side} {word : List ℕ} {n : ℕ} → WritesNumber NUMBER_MAX word n
      → LineSays (codes "number" ∷ side_word side ∷ word ∷ []) (of_end side (number n))
  -- quiet SIDE
  quiet_line : {side : Side} → LineSays (codes "quiet" ∷ side_word side ∷ []) (of_end side quiet)
  -- short SIDE
  short_line : {side : Side} → LineSays (codes "short" ∷ side_word side ∷ []) (of_end side short)
  -- lenient SIDE
  lenient_line : {side : Side} → LineSays (codes "lenient" ∷ side_word side ∷ []) (of_end side lenient)
  -- digest SIDE
  digest_line : {side : Side} → LineSays (codes "digest" ∷ side_word side ∷ []) (of_end side digest)
  -- resume SIDE
  resume_line : {side : Side} → LineSays (codes "resume" ∷ side_word side ∷ []) (of_end side resume)
  -- limit SIDE N
  limit_line : {side : Side} {word : List ℕ} {n : ℕ} → WritesNumber FILE_LIMIT_MAX word n → 0 < n
      → LineSays (codes "limit" ∷ side_word side ∷ word ∷ []) (of_end side (limit n))
  -- pass SIDE N, drop SIDE N
  pass_line : {side : Side} {word : List ℕ} {n : ℕ} → WritesNumber BYTES_MAX word n
      → LineSays (codes "pass" ∷ side_word side ∷ word ∷ []) (event (Pass side n))
  drop_line : {side : Side} {word : List ℕ} {n : ℕ} → WritesNumber BYTES_MAX word n
      → LineSays (codes "drop" ∷ side_word side ∷ word ∷ []) (event (Drop side n))
  -- flip SIDE HH, insert SIDE HH
  flip_line : {side : Side} {hex : List ℕ} {byte : ℕ} → decode_of hex ≡ Ok (byte ∷ [])
      → LineSays (codes "flip" ∷ side_word side ∷ hex ∷ []) (event (Flip side byte))
  insert_line : {side : Side} {hex : List ℕ} {byte : ℕ} → decode_of hex ≡ Ok (byte ∷ [])
      → LineSays (codes "insert" ∷ side_word side ∷ hex ∷ []) (event (Insert side byte))
  -- timeout SIDE, hangup SIDE, call
  timeout_line : {side : Side} → LineSays (codes "timeout" ∷ side_word side ∷ []) (event (Timeout side))
  hangup_line : {side : Side} → LineSays (codes "hangup" ∷ side_word side ∷ []) (event (HangUp side))
  call_line : LineSays (codes "call" ∷ []) (event Call)
  -- flow N
  flow_line : {word : List ℕ} {n : ℕ} → WritesNumber TURNS_MAX word n → LineSays (codes "flow" ∷ word ∷ []) (flow n)

-- a line within the limit says it
pub record TextSays (line : List ℕ) (meaning : LineMeaning) : Type 0 where
  pub within : length line ≤ LINE_MAX
  pub said : LineSays (words line) meaning
