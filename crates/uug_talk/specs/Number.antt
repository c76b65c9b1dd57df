-- Numbers in words, as decimal digits with no sign (this project's profile).
use Rattle.std.specs.Prelude.{◌&&◌, ℕ, Bool, List, length, nat_lt, nat_le, Option, Some, None, if◌then◌else◌}
use Rattle.std.specs.Char.{is_ascii_digit}
use Rattle.std.specs.List.{list_all}
use Rattle.std.specs.Str.Parse.{digits_value}

-- one or more decimal digits
abbrev pub is_numeral : List ℕ → Bool
is_numeral word = nat_lt 0 (length word) && list_all is_ascii_digit word

-- the number that the digits write, if it is at most this one
abbrev pub number_of : ℕ → List ℕ → Option ℕ
number_of most word =
    if is_numeral word && nat_le (digits_value 10 word) most then Some (digits_value 10 word) else None
