-- What single words of a script's line say (this project's profile), as functions.
use Rattle.std.specs.Prelude.{◌==◌, ◌&&◌, ℕ, Bool, List, [], length, codes, nat_le, slice_index, Option, Some, None, Result, Ok, Err, if◌then◌else◌, false}
use Rattle.std.specs.Result.{result_ok}
use Rattle.std.specs.Str.{bytes_eq}
use Rattle.hex.specs.Hex.{decode_of, decode_sized}
use Rattle.hex.specs.declared.error.FromHexError.{FromHexError}
use Rattle.uug_link.specs.Announced.{Announced}
use Rattle.uug_link.specs.declared.limits.TheConstants.{MESSAGE_MAX, WINDOW_MAX}
use Rattle.uug_talk.specs.Mode.{mode_read}
use Rattle.uug_talk.specs.Chained.{◌>>=◌}
use Rattle.uug_talk.specs.Number.{number_of}
use Rattle.uug_talk.specs.declared.gather.TheConstants.{FILE_LIMIT_MAX}
use Rattle.uug_sim_script.specs.declared.fields.TheConstants.{MODE_DIGITS}
use Rattle.uug_conversation.specs.declared.side.Side.{Side}
use Rattle.uug_conversation.specs.declared.side.Side.TheVariants.{Caller, Called}

abbrev pub side_of : List ℕ → Option Side
side_of word =
    if bytes_eq word (codes "caller") then Some Caller else
    (if bytes_eq word (codes "called") then Some Called else None)

-- a mode has one to four octal digits
abbrev pub mode_of_word : List ℕ → Option ℕ
mode_of_word word = if nat_le (length word) MODE_DIGITS then result_ok (mode_read word) else None

-- the bytes that hexadecimal digits write, two for each in either case, or a dash for none
abbrev pub hex_bytes : List ℕ → Option (List ℕ)
hex_bytes word = if bytes_eq word (codes "-") then Some [] else result_ok (decode_of word)

abbrev pub or_none : Option (List ℕ) → List ℕ
or_none None = []
or_none (Some bytes) = bytes

-- the bytes of a word that writes some
abbrev pub bytes_of : List ℕ → List ℕ
bytes_of word = or_none (hex_bytes word)

-- the byte that two hexadecimal digits write
abbrev pub first_byte : Result (List ℕ) FromHexError → Option ℕ
first_byte (Ok bytes) = Some (slice_index bytes 0)
first_byte (Err e) = None

abbrev pub byte_of : List ℕ → Option ℕ
byte_of word = first_byte (decode_sized word 1)

-- the code of a packet size
abbrev pub code_of_size : ℕ → Option ℕ
code_of_size size =
    if size == 32 then Some 0 else
    (if size == 64 then Some 1 else
    (if size == 128 then Some 2 else
    (if size == 256 then Some 3 else
    (if size == 512 then Some 4 else
    (if size == 1024 then Some 5 else
    (if size == 2048 then Some 6 else
    (if size == 4096 then Some 7 else None)))))))

abbrev pub is_window : ℕ → Bool
is_window window = nat_le 1 window && nat_le window WINDOW_MAX

abbrev pub window_in : Option ℕ → Option ℕ
window_in None = None
window_in (Some window) = if is_window window then Some window else None

abbrev pub window_of : List ℕ → Option ℕ
window_of word = window_in (number_of WINDOW_MAX word)

-- the greatest file of an end has a byte at least
abbrev pub limit_within : Option ℕ → Option ℕ
limit_within None = None
limit_within (Some limit) = if nat_le 1 limit then Some limit else None

abbrev pub limit_of_word : List ℕ → Option ℕ
limit_of_word word = limit_within (number_of FILE_LIMIT_MAX word)

-- the announcement of this window and size, by an end that is not quiet on repeats and whose commands are not short
abbrev pub announcement : ℕ → ℕ → Option Announced
announcement window size =
    if is_window window then code_of_size size >>= (λ code. Some (record { window = window; size_code = code; quiet = false; short = false })) else None

-- the announcement of this window and of the size that the word writes
abbrev pub announcement_of : ℕ → List ℕ → Option Announced
announcement_of window word = number_of MESSAGE_MAX word >>= (λ size. announcement window size)
