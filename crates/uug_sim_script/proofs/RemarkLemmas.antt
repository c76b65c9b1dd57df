-- What is wrong with the lines of a script, word by word and line by line.
use Rattle.std.proofs.Common.{◌≡◌, ℕ, true, List, [], ◌∷◌, length, nat_le, arith}
use Rattle.std.proofs.lemmas.Bool.{and_parts}
use Rattle.std.proofs.lemmas.Bool.Decides.{nat_tests}
use Rattle.std.proofs.lemmas.Str.{IsUtf8-from_ascii}
use Rattle.std.proofs.lemmas.Str.Ascii.{IsAscii-nil, IsAscii-cons}
use Rattle.std.specs.Char.{is_ascii_graphic}
use Rattle.std.specs.List.{list_all}
use Rattle.std.specs.Str.{IsAscii, IsUtf8}
use Rattle.uug_sim_script.specs.declared.remark.TheConstants.{SHOWN_MAX}
use Rattle.uug_sim_script.specs.Remarks.{is_told}

visible_are_ascii : (word : List ℕ) → list_all is_ascii_graphic word ≡ true → IsAscii word
visible_are_ascii [] e = IsAscii-nil
visible_are_ascii (c ∷ cs) e =
    let p = and_parts (is_ascii_graphic c) (list_all is_ascii_graphic cs) e in
    IsAscii-cons c cs (grind (arith, nat_tests, p.0)) (visible_are_ascii cs p.1)

-- a word that is told is a text
pub told_is_text : (word : List ℕ) → is_told word ≡ true → IsUtf8 word
told_is_text word e =
    IsUtf8-from_ascii word (visible_are_ascii word (and_parts (nat_le (length word) SHOWN_MAX) (list_all is_ascii_graphic word) e).1)
