-- What is told of a file in front of its bytes: how many they are, and their digest (this project's profile; that a size stands
-- behind the mode of S, and a word for whom to notify in front of it, is of the Taylor UUCP manual, "UUCP Protocol"; the digest
-- is SHA-256 of FIPS 180-4).
use Rattle.std.specs.Prelude.{◌==◌, ◌&&◌, ◌^◌, ℕ, Bool, List, [], ◌∷◌, ◌++◌, length, take, drop, codes, nat_eq, nat_lt, Option, Some, None, option_and_then, if◌then◌else◌}
use Rattle.std.specs.Char.{is_ascii_hexdigit}
use Rattle.std.specs.Int.{to_be_bytes, w32}
use Rattle.std.specs.Cmp.Lexicographic.{pointwise}
use Rattle.std.specs.List.{list_all}
use Rattle.std.specs.Result.{result_ok}
use Rattle.std.specs.Str.Parse.{digits_value}
use Rattle.hex.specs.Hex.{decode_sized, encode_lower}
use Rattle.sha2.specs.Sha256.{sha256}
use Rattle.uug_talk.specs.declared.file_digest.FileDigest.{FileDigest}
use Rattle.uug_talk.specs.Answer.{answer_words}
use Rattle.uug_talk.specs.Order.{order_words}
use Rattle.uug_talk.specs.Words.{joined, words}
use Rattle.uug_talk.specs.declared.answer.Answer.TheVariants.{GiveYes}
use Rattle.uug_talk.specs.declared.order.Order.{Order}
use Rattle.uug_talk.specs.declared.order.Order.TheVariants.{Send}

-- what is told of a file of these bytes
abbrev pub digest_of : (bytes : List ℕ) → FileDigest
digest_of bytes = record { size = length bytes; hash = sha256 bytes }

-- the digest of these bytes, in hexadecimal digits
abbrev pub hash_text : (bytes : List ℕ) → List ℕ
hash_text bytes = encode_lower (sha256 bytes)

-- ---- written

-- `"" 0xSIZE sha256:HEX`: nobody to notify, the size in eight hexadecimal digits, and the digest
abbrev pub digest_words : FileDigest → List (List ℕ)
digest_words told = codes "\"\""
    ∷ (codes "0x" ++ encode_lower (to_be_bytes w32 told.size))
    ∷ (codes "sha256:" ++ encode_lower told.hash) ∷ []

abbrev pub digest_text : FileDigest → List ℕ
digest_text told = joined (digest_words told)

-- the text of a command, or of the answer RY, that tells of its file
abbrev pub order_telling_text : Order → FileDigest → List ℕ
order_telling_text order told = joined (order_words order ++ digest_words told)

abbrev pub give_telling_text : (mode : ℕ) → FileDigest → List ℕ
give_telling_text mode told = joined (answer_words (GiveYes mode) ++ digest_words told)

-- ---- read

-- one or more hexadecimal digits
abbrev pub is_hex_numeral : List ℕ → Bool
is_hex_numeral word = nat_lt 0 (length word) && list_all is_ascii_hexdigit word

-- the number that they write, if it fits 32 bits
abbrev pub hex_number : List ℕ → Option ℕ
hex_number word =
    if is_hex_numeral word && nat_lt (digits_value 16 word) (2 ^ 32) then Some (digits_value 16 word) else None

-- what stands behind this front of a word
abbrev pub behind : (front word : List ℕ) → Option (List ℕ)
behind front word = if pointwise nat_eq (take (length front) word) front then Some (drop (length front) word) else None

-- `0xSIZE`
abbrev pub size_told : (word : List ℕ) → Option ℕ
size_told word = option_and_then hex_number (behind (codes "0x") word)

-- `sha256:HEX`
abbrev pub hash_told : (word : List ℕ) → Option (List ℕ)
hash_told word = option_and_then (λ digits. result_ok (decode_sized digits 32)) (behind (codes "sha256:") word)

abbrev pub both_told : Option ℕ → Option (List ℕ) → Option FileDigest
both_told (Some size) (Some hash) = Some (record { size = size; hash = hash })
both_told _ _ = None

-- what the words behind the mode tell: the first is for whom to notify, and more are read past
abbrev pub digest_in : List (List ℕ) → Option FileDigest
digest_in (notify ∷ size ∷ hash ∷ more) = both_told (size_told size) (hash_told hash)
digest_in _ = None

abbrev pub told_behind_mode : List (List ℕ) → Option FileDigest
told_behind_mode (source ∷ target ∷ user ∷ options ∷ temp ∷ mode ∷ more) = digest_in more
told_behind_mode _ = None

-- by the words of a command, of which S alone tells of a file
abbrev pub told_by_order_words : List (List ℕ) → Option FileDigest
told_by_order_words ((letter ∷ []) ∷ more) = if letter == 83 then told_behind_mode more else None
told_by_order_words _ = None

abbrev pub told_by_order : (text : List ℕ) → Option FileDigest
told_by_order text = told_by_order_words (words text)

abbrev pub told_behind_answer : List (List ℕ) → Option FileDigest
told_behind_answer (mode ∷ more) = digest_in more
told_behind_answer [] = None

-- by the words of an answer, of which RY alone tells of a file
abbrev pub told_by_answer_words : List (List ℕ) → Option FileDigest
told_by_answer_words ((a ∷ b ∷ letters) ∷ more) = if (a == 82) && (b == 89) then told_behind_answer more else None
told_by_answer_words _ = None

abbrev pub told_by_answer : (text : List ℕ) → Option FileDigest
told_by_answer text = told_by_answer_words (words text)

-- ---- which orders go with a file

abbrev pub IsSend : Order → Type 0
IsSend (Send source target user temp mode) = Unit {0}
IsSend _ = ⊥
