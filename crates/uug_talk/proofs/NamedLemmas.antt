-- A name, and what is told behind it, are one line, and are read back.
use Rattle.std.proofs.Common.{◌≡◌, ◌≢◌, ℕ, nat_lt, true, List, [], ◌∷◌, ◌++◌, codes, All, Some, refl, ap, ap₂, ◌∙◌, arith}
use Rattle.std.proofs.lemmas.Bool.Decides.{nat_tests}
use Rattle.std.proofs.lemmas.List.Elements.{All-append, All-cons, All-from_recursion, All-nil, All-weaker}
use Rattle.std.specs.Int.{to_be_bytes, w32}
use Rattle.std.specs.List.{AllByRecursion}
use Rattle.std.specs.Result.{result_ok}
use Rattle.hex.specs.Hex.{IsBytes, encode_lower, is_hex_digit}
use Rattle.uug_talk.proofs.DigitLemmas.{encoded_digits, size_bytes}
use Rattle.uug_talk.proofs.TellingLemmas.{IsSized, digest_back, digest_words_are_words}
use Rattle.uug_talk.specs.Digests.{digest_words}
use Rattle.uug_talk.specs.Named.{both_named, named_by_words, named_text, read_named}
use Rattle.uug_talk.specs.declared.named_digest.NamedDigest.{NamedDigest}
use Rattle.uug_talk.proofs.JoinedLemmas.{IsWord-name, words-joined}
use Rattle.uug_talk.proofs.NameLemmas.{name_read-of}
use Rattle.uug_talk.specs.Name.{IsName, IsNameByte}
use Rattle.uug_talk.specs.Words.{joined}

pub named_back : (n : NamedDigest) → IsName n.name → IsSized n.told → read_named (named_text n) ≡ Some n
named_back n h k =
    ap named_by_words (words-joined (n.name ∷ digest_words n.told) (IsWord-name n.name h, digest_words_are_words n.told k))
    ∙ ap₂ both_named (ap result_ok (name_read-of n.name h)) (digest_back n.told k)

-- ---- one line

abbrev pub IsLine : List ℕ → Type 0
IsLine text = All (λ b. b ≢ 10) text

line_joined : (ws : List (List ℕ)) → AllByRecursion IsLine ws → IsLine (joined ws)
line_joined [] h = All-nil (λ b. b ≢ 10)
line_joined (w ∷ []) h = h.0
line_joined (w ∷ v ∷ vs) h =
    All-append (λ b. b ≢ 10) w (32 ∷ joined (v ∷ vs)) h.0
    (All-cons (λ b. b ≢ 10) 32 (joined (v ∷ vs)) (λ e. absurd (omega (arith, e))) (line_joined (v ∷ vs) h.1))

line_digits : (bytes : List ℕ) → IsBytes bytes → IsLine (encode_lower bytes)
line_digits bytes h =
    All-weaker (λ c. is_hex_digit c ≡ true) (λ c. c ≢ 10) is_on_line (encode_lower bytes) (encoded_digits bytes h) where
      is_on_line : (c : ℕ) → is_hex_digit c ≡ true → c ≢ 10
      is_on_line c d e = grind (arith, nat_tests)

line_front : (front digits : List ℕ) → AllByRecursion (λ b. b ≢ 10) front → IsLine digits → IsLine (front ++ digits)
line_front front digits h k = All-append (λ b. b ≢ 10) front digits (All-from_recursion (λ b. b ≢ 10) front h) k

other : (b : ℕ) → nat_lt 10 b ≡ true → b ≢ 10
other b h e = grind (arith, nat_tests)

pub line_name : (name : List ℕ) → IsName name → IsLine name
line_name name h = All-weaker IsNameByte (λ b. b ≢ 10) (λ b p e. absurd (omega (arith, p.0, e))) name h.printing

pub named_line : (n : NamedDigest) → IsName n.name → IsSized n.told → IsLine (named_text n)
named_line n h k = line_joined (n.name ∷ digest_words n.told) (
  line_name n.name h,
  (
    All-from_recursion (λ b. b ≢ 10) (codes "\"\"") (other 34 refl, (other 34 refl, tt)),
    (
      line_front (codes "0x") _ (other 48 refl, (other 120 refl, tt)) (line_digits (to_be_bytes w32 n.told.size) (size_bytes n.told.size)),
      (
        line_front (codes "sha256:") _
            (other 115 refl, (other 104 refl, (other 97 refl, (other 50 refl, (other 53 refl, (other 54 refl, (other 58 refl, tt)))))))
            (line_digits n.told.hash k.bytes),
        tt,
      ),
    ),
  ),
)
