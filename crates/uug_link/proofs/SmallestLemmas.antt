-- The smallest field that holds so many bytes.
use Rattle.std.proofs.Common.{◌≡◌, ℕ, zero, suc, ◌+◌, ◌*◌, ◌^◌, ◌<◌, ◌≤◌, ◌⊎◌, nat_le, if◌then◌else◌, Bool, true, false, inl, inr, refl, subst, ap, ◌∙◌, arith}
use Rattle.std.proofs.Math.Nat.{pow-succ'}
use Rattle.std.proofs.lemmas.Bool.{cases_lt}
use Rattle.std.proofs.lemmas.Bool.Decides.{nat_tests}
use Rattle.uug_link.specs.declared.limits.TheConstants.{MESSAGE_MAX, SIZE_CODES, SIZE_MIN}
use Rattle.uug_link.specs.Terms.{first_to_hold, size_of_code, smallest_code}
use Rattle.uug_link.proofs.SizeLemmas.{each_code}
use Rattle.uug_packet.specs.Field.{IsFieldCode, field_size}

-- what the first is of so many codes
record IsFirst (len code more k : ℕ) : Type 0 where
  from : code ≤ k
  to : k ≤ code + more
  holds : len ≤ field_size (code + more) → len ≤ field_size k
  below : (j : ℕ) → code ≤ j → j < k → field_size j < len

first_here : (len code more : ℕ) → len ≤ field_size code → IsFirst len code more code
first_here len code more fits = record {
  from = omega arith;
  to = omega arith;
  holds = λ last. fits;
  below = λ j low high. absurd (omega (arith, low, high));
}

first_later : (len code more k : ℕ) → field_size code < len → IsFirst len (suc code) more k → IsFirst len code (suc more) k
first_later len code more k small h = record {
  from = omega (arith, h.from);
  to = omega (arith, h.to);
  holds = λ last. h.holds (subst (λ (n : ℕ). len ≤ field_size n) (omega arith) last);
  below = λ j low high. elim (cases_lt code j) [
    | inl later ↦ h.below j (omega (arith, later)) high
    | inr here ↦ subst (λ (n : ℕ). field_size n < len) (omega (arith, low, here)) small
  ];
}

is_first : (len code more : ℕ) → IsFirst len code more (first_to_hold len code more)
is_first len code zero = record {
  from = omega arith;
  to = omega arith;
  holds = λ last. subst (λ (n : ℕ). len ≤ field_size n) (omega arith) last;
  below = λ j low high. absurd (omega (arith, low, high));
}
is_first len code (suc more) = by (is_first len (suc code) more) (nat_le len (field_size code)) refl where
  by : IsFirst len (suc code) more (first_to_hold len (suc code) more) → (b : Bool) → nat_le len (field_size code) ≡ b →
      IsFirst len code (suc more) (if b then code else first_to_hold len (suc code) more)
  by later true is = first_here len code (suc more) (grind (arith, nat_tests, is))
  by later false is = first_later len code more (first_to_hold len (suc code) more) (grind (arith, nat_tests, is)) later

smallest_is_first : (len : ℕ) → IsFirst len 1 7 (smallest_code len)
unfolding smallest_code
smallest_is_first len = is_first len 1 7

pub smallest_is_code : (len : ℕ) → IsFieldCode (smallest_code len)
smallest_is_code len = ((smallest_is_first len).from, (smallest_is_first len).to)

pub smallest_holds : (len : ℕ) → len ≤ MESSAGE_MAX → len ≤ field_size (smallest_code len)
smallest_holds len few = (smallest_is_first len).holds few

pub smallest_is_least : (len k : ℕ) → 1 ≤ k → k < smallest_code len → field_size k < len
smallest_is_least len k low high = (smallest_is_first len).below k low high

-- only one code is that of the smallest
pub same_code : (len k : ℕ) → 1 ≤ k → len ≤ field_size k → len ≤ MESSAGE_MAX
    → ((j : ℕ) → 1 ≤ j → j < k → field_size j < len) → k ≡ smallest_code len
same_code len k low holds few least = elim (cases_lt k (smallest_code len)) [
  | inl less ↦ absurd (omega (arith, holds, smallest_is_least len k low less))
  | inr not_less ↦ elim (cases_lt (smallest_code len) k) [
    | inl more ↦ absurd (omega (arith, smallest_holds len few, least (smallest_code len) (smallest_is_code len).0 more))
    | inr not_more ↦ omega (arith, not_less, not_more)
  ]
]

-- ---- what is saved

pub smallest_saves : (len : ℕ) → (field_size (smallest_code len) < 2 * len) ⊎ (field_size (smallest_code len) ≡ SIZE_MIN)
smallest_saves len = by (smallest_code len) refl where
  by : (k : ℕ) → smallest_code len ≡ k → (field_size k < 2 * len) ⊎ (field_size k ≡ SIZE_MIN)
  by zero is = absurd (omega (arith, (smallest_is_code len).0, is))
  by (suc zero) is = inr refl
  by (suc (suc k)) is =
      let smaller : field_size (suc k) < len = smallest_is_least len (suc k) (omega arith) (omega (arith, is)) in
      let twice : field_size (suc (suc k)) ≡ 2 * field_size (suc k) =
      ap (λ (n : ℕ). 2 ^ n) (omega arith) ∙ pow-succ' 2 (suc k + 4) in
      inl (omega (arith, smaller, twice))

-- ---- the sizes that may be announced

size_most : (y : ℕ) → y < SIZE_CODES → size_of_code y ≤ MESSAGE_MAX
size_most = each_code (λ (y : ℕ). size_of_code y ≤ MESSAGE_MAX)
    (omega arith) (omega arith) (omega arith) (omega arith) (omega arith) (omega arith) (omega arith) (omega arith)

-- what fits one of them fits a field
pub within_most : (y len : ℕ) → y < SIZE_CODES → len ≤ size_of_code y → len ≤ MESSAGE_MAX
within_most y len low fits = omega (arith, size_most y low, fits)
