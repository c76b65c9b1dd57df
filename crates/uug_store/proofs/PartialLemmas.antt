-- The text of a partial file is read back.
use Rattle.std.proofs.Common.{◌≡◌, ◌≢◌, ◌<◌, ◌+◌, ℕ, suc, nat_lt, false, true, cond, List, [], ◌∷◌, ◌++◌, length, take, drop, All, Some, None, refl, ap, ap₂, ◌∙◌, length-append, arith}
use Rattle.std.proofs.lemmas.Bool.Decides.{nat_tests}
use Rattle.std.proofs.lemmas.List.Elements.{All-head, All-tail}
use Rattle.std.specs.List.{position, position_or_len}
use Rattle.uug_conversation.specs.Partial.{Partial}
use Rattle.uug_talk.specs.Named.{named_text, read_named}
use Rattle.uug_talk.specs.declared.named_digest.NamedDigest.{NamedDigest}
use Rattle.uug_store.specs.PartialTexts.{partial_in, partial_named, partial_split}
use Rattle.uug_talk.specs.Lines.{is_line_feed}

other : (b : ℕ) → b ≢ 10 → is_line_feed b ≡ false
other b h = grind (arith, nat_tests)

-- behind a line stands its end
at_end : (line rest : List ℕ) → All (λ b. b ≢ 10) line → position_or_len is_line_feed (line ++ 10 ∷ rest) ≡ length line
at_end [] rest h = refl
at_end (b ∷ line) rest h = rw (other b (All-head (λ b. b ≢ 10) b line h)) (omega (arith, at_end line rest (All-tail (λ b. b ≢ 10) b line h)))

found_so : (n m len : ℕ) → n ≡ m → m < len → cond (nat_lt n len) (Some n) None ≡ Some m
found_so n m len is within = rw is (rw (below m len within) refl) where
  below : (m len : ℕ) → m < len → nat_lt m len ≡ true
  below m len within = grind (arith, nat_tests)

first_feed : (line rest : List ℕ) → All (λ b. b ≢ 10) line → position is_line_feed (line ++ 10 ∷ rest) ≡ Some (length line)
first_feed line rest h =
    found_so (position_or_len is_line_feed (line ++ 10 ∷ rest)) (length line) (length (line ++ 10 ∷ rest))
    (at_end line rest h) (omega (arith, length-append line (10 ∷ rest)))

front_of : (line rest : List ℕ) → take (length line) (line ++ rest) ≡ line
front_of [] rest = refl
front_of (b ∷ line) rest = ap (λ l. b ∷ l) (front_of line rest)

behind_suc : (line : List ℕ) (b : ℕ) (rest : List ℕ) → drop (suc (length line)) (line ++ b ∷ rest) ≡ rest
behind_suc [] b rest = refl
behind_suc (a ∷ line) b rest = behind_suc line b rest

one_more : (n : ℕ) → n + 1 ≡ suc n
one_more n = omega arith

behind : (line : List ℕ) (b : ℕ) (rest : List ℕ) → drop (length line + 1) (line ++ b ∷ rest) ≡ rest
behind line b rest = ap (λ n. drop n (line ++ b ∷ rest)) (one_more (length line)) ∙ behind_suc line b rest

pub read_back : (p : Partial) (n : NamedDigest) → n ≡ record { name = p.key.source; told = p.key.told }
    → All (λ b. b ≢ 10) (named_text n) → read_named (named_text n) ≡ Some n → partial_in (named_text n ++ 10 ∷ p.bytes) ≡ Some p
read_back p n is line back =
    ap (λ feed. partial_split feed (named_text n ++ 10 ∷ p.bytes)) (first_feed (named_text n) p.bytes line)
    ∙ ap₂ (λ front rest. partial_named (read_named front) rest) (front_of (named_text n) (10 ∷ p.bytes)) (behind (named_text n) 10 p.bytes)
    ∙ ap (λ named. partial_named named p.bytes) back
    ∙ ap (λ (n : NamedDigest). Some (record { key = record { source = n.name; told = n.told }; bytes = p.bytes })) is
