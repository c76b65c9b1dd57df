-- Names as words.
use Rattle.std.proofs.Common.{◌≡◌, ◌<◌, ℕ, true, List, length, nat_lt, nat_le, Ok, Err, refl, sym, subst, ◌∙◌, arith}
use Rattle.std.proofs.lemmas.Bool.{false≢true}
use Rattle.std.proofs.lemmas.Bool.Decides.{nat_tests}
use Rattle.std.proofs.lemmas.List.Elements.{All-weaker}
use Rattle.std.proofs.lemmas.List.Sums.{AllPass-from_list_all, list_all-from_AllPass}
use Rattle.std.proofs.lemmas.Str.{IsUtf8-from_ascii}
use Rattle.std.proofs.lemmas.Str.Ascii.{IsAscii-from_all}
use Rattle.std.specs.List.{list_all}
use Rattle.std.specs.Str.{IsUtf8}
use Rattle.uug_talk.specs.declared.error.BadText.{BadText}
use Rattle.uug_talk.specs.declared.error.BadText.TheVariants as fault
use Rattle.uug_talk.specs.declared.name.TheConstants.{NAME_MAX}
use Rattle.uug_talk.specs.Name.{IsNameByte, IsName, is_name_byte, is_name, name_read}
use Rattle.uug_talk.proofs.ResultLemmas.{guard_ok, guard_err, three_tests}

printing_passes : (b : ℕ) → IsNameByte b → is_name_byte b ≡ true
printing_passes b h = grind (arith, nat_tests)

printing_from_pass : (b : ℕ) → is_name_byte b ≡ true → IsNameByte b
printing_from_pass b h = grind (arith, nat_tests)

is_name-from : (bytes : List ℕ) → IsName bytes → is_name bytes ≡ true
is_name-from bytes h =
    let printing : list_all is_name_byte bytes ≡ true = list_all-from_AllPass is_name_byte bytes (All-weaker IsNameByte (λ b. is_name_byte b ≡ true) printing_passes bytes h.printing) in
    rw printing (grind (arith, nat_tests, h.some, h.short))

IsName-from : (bytes : List ℕ) → is_name bytes ≡ true → IsName bytes
IsName-from bytes e =
    let t = three_tests (nat_lt 0 (length bytes)) (nat_le (length bytes) NAME_MAX) (list_all is_name_byte bytes) e in
    record {
      some = grind (arith, nat_tests, t.0);
      short = grind (arith, nat_tests, t.1);
      printing = All-weaker (λ b. is_name_byte b ≡ true) IsNameByte printing_from_pass bytes (AllPass-from_list_all is_name_byte bytes t.2);
    }

-- a name is read as itself
pub name_read-of : (bytes : List ℕ) → IsName bytes → name_read bytes ≡ Ok bytes
name_read-of bytes h = rw (is_name-from bytes h) refl

-- what is read is the name
pub name_from_read : (bytes name : List ℕ) → name_read bytes ≡ Ok name → IsName name × (bytes ≡ name)
name_from_read bytes name e =
    let g = guard_ok (is_name bytes) bytes name fault.Name e in
    let k : bytes ≡ name = g.1 in
    (rw k at (IsName-from bytes g.0), k)

pub no_name_from_err : (bytes : List ℕ) (d : BadText) → name_read bytes ≡ Err d → (d ≡ fault.Name) × (¬ IsName bytes)
no_name_from_err bytes d e =
    let g = guard_err (is_name bytes) bytes fault.Name d e in
    (sym g.1, λ n. false≢true (sym g.0 ∙ is_name-from bytes n))

pub IsName-read : (bytes name : List ℕ) → name_read bytes ≡ Ok name → IsName bytes
IsName-read bytes name e = let r = name_from_read bytes name e in subst IsName (sym r.1) r.0

below_ascii : (b : ℕ) → IsNameByte b → b < 128
below_ascii b h = omega (arith, h.1)

-- a name is a text
pub name_is_text : (bytes : List ℕ) → IsName bytes → IsUtf8 bytes
name_is_text bytes h = IsUtf8-from_ascii bytes (IsAscii-from_all bytes (All-weaker IsNameByte (λ b. b < 128) below_ascii bytes h.printing))
