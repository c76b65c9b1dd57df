-- What a name is (this project's profile): 1 to NAME_MAX bytes, each a printing character of ASCII
-- other than the space.
use Rattle.std.specs.Prelude.{◌≡◌, ◌&&◌, ℕ, Bool, nat_lt, nat_le, Option, Result, Ok, Err, if◌then◌else◌, ◌-◌, ◌<◌, ◌≤◌, List, ◌++◌, length, take, drop, replicate, All}
use Rattle.std.specs.List.{list_all}
use Rattle.std.specs.Result.{result_ok}
use Rattle.std.proofs.Common.{take-append-drop, length-take-le, ap, ◌∙◌, sym, arith}
use Rattle.uug_talk.specs.declared.error.BadText.{BadText}
use Rattle.uug_talk.specs.declared.error.BadText.TheVariants as fault
use Rattle.uug_talk.specs.declared.name.TheConstants.{NAME_MAX}

abbrev pub IsNameByte : ℕ → Type 0
IsNameByte b = (33 ≤ b) × (b ≤ 126)

pub record IsName (bytes : List ℕ) : Type 0 where
  pub some : 0 < length bytes
  pub short : length bytes ≤ NAME_MAX
  pub printing : All IsNameByte bytes

-- Reading a word as a name, as a function.
abbrev pub is_name_byte : ℕ → Bool
is_name_byte b = nat_le 33 b && nat_le b 126

abbrev pub is_name : List ℕ → Bool
is_name bytes = nat_lt 0 (length bytes) && nat_le (length bytes) NAME_MAX && list_all is_name_byte bytes

abbrev pub name_read : List ℕ → Result (List ℕ) BadText
name_read bytes = if is_name bytes then Ok bytes else Err fault.Name

-- the name that a word is, if it is one
abbrev pub name_of : List ℕ → Option (List ℕ)
name_of word = result_ok (name_read word)

-- a name's array, from the name: it and zeros
pub length_of_front : (n : ℕ) (xs : List ℕ) → n ≤ NAME_MAX → length xs ≡ NAME_MAX → length (take n xs) ≡ n
length_of_front n xs h e = length-take-le n xs (omega arith)

pub name_padded_back : (n : ℕ) (xs : List ℕ) → n ≤ NAME_MAX → length xs ≡ NAME_MAX → drop n xs ≡ replicate (NAME_MAX - n) 0 → take n xs ++ replicate (NAME_MAX - length (take n xs)) 0 ≡ xs
name_padded_back n xs h e d =
    ap (λ k. take n xs ++ replicate (NAME_MAX - k) 0) (length_of_front n xs h e)
    ∙ ap (λ r. take n xs ++ r) (sym d) ∙ take-append-drop n xs
