-- What is heard is what the stream says.
use Rattle.std.proofs.Common.{◌≡◌, ◌≢◌, ◌==◌, ◌||◌, ◌⊎◌, inl, inr, ℕ, suc, ◌+◌, ◌<◌, ◌≤◌, true, false, cond, List, [], ◌∷◌, ◌++◌, length, take, nat_lt, All, Option, Some, None, refl, sym, ap, subst, ◌∙◌, append_assoc, arith}
use Rattle.std.proofs.lemmas.Bool.Decides.{nat_tests}
use Rattle.std.proofs.lemmas.List.{append-nil, same_from_push, length_push, drop_at}
use Rattle.std.proofs.lemmas.List.Elements.{All-nil, All-push, All-head, All-tail, All-drop}
use Rattle.std.specs.Prelude.{option_and_then}
use Rattle.uug_talk.specs.declared.hail.TheConstants.{HAIL_MAX, TEXT_START}
use Rattle.uug_talk.specs.Texts.{IsEnd, IsPlain, Closes, Overflows, IsUnsettled, IsFirstText, IsTooLong, Heard, Passing, Open, Whole, HearsOpen, Holds, is_whole, heard_byte, one_used, used_before, hear}
use Rattle.uug_talk.proofs.HearLemmas.{plus_none, hear_whole, hear_next, hear_none}
use Rattle.uug_talk.proofs.ResultLemmas.{by_test}

-- Lists that end with one element.

pub ends_with : (xs : List ℕ) → (xs ≡ []) ⊎ ((front : List ℕ) × (last : ℕ) × (xs ≡ front ++ last ∷ []))
ends_with [] = inl refl
ends_with (x ∷ xs) = elim (ends_with xs) [ inl e ↦ inr ([], x, ap (λ z. x ∷ z) e) | inr f ↦ inr (x ∷ f.0, f.1, ap (λ z. x ∷ z) f.2) ]

middle_has : (P : ℕ → Type 0) (xs : List ℕ) (y : ℕ) (ys : List ℕ) → All P (xs ++ y ∷ ys) → P y
middle_has P xs y ys h = All-head P y ys (subst (All P) (drop_at xs (y ∷ ys) (length xs) refl) (All-drop P (length xs) (xs ++ y ∷ ys) h))

-- what stands behind the last s is one list
pub behind_last : (s : ℕ) (P : ℕ → Type 0) → (P s → ⊥) → (a t b u : List ℕ) → a ++ s ∷ t ≡ b ++ s ∷ u → All P t → All P u → t ≡ u
behind_last s P n [] t [] u e ht hu = cc
behind_last s P n [] t (y ∷ ys) u e ht hu = let k : t ≡ ys ++ s ∷ u = cc in absurd (n (middle_has P ys s u (subst (All P) k ht)))
behind_last s P n (x ∷ xs) t [] u e ht hu = let k : u ≡ xs ++ s ∷ t = cc in absurd (n (middle_has P xs s t (subst (All P) k hu)))
behind_last s P n (x ∷ xs) t (y ∷ ys) u e ht hu = let k : xs ++ s ∷ t ≡ ys ++ s ∷ u = cc in behind_last s P n xs t ys u k ht hu

pub start_not_plain : IsPlain TEXT_START → ⊥
start_not_plain h = h.no_start refl

-- One byte more.

unsettled_more : (stream : List ℕ) (b : ℕ) → IsUnsettled stream → ((text : List ℕ) → ¬ Closes (stream ++ b ∷ []) text) → ¬ Overflows (stream ++ b ∷ []) → IsUnsettled (stream ++ b ∷ [])
unsettled_more stream b u c o = record { no_text = λ front rest text e k. text_at front rest text e (ends_with rest) k; in_limit = λ front rest e k. long_at front rest e (ends_with rest) k } where
  whole : (front rest : List ℕ) → stream ++ b ∷ [] ≡ front ++ rest → rest ≡ [] → front ≡ stream ++ b ∷ []
  whole front rest e r = sym (e ∙ ap (λ z. front ++ z) r ∙ append-nil front)

  part : (front rest more : List ℕ) (last : ℕ) → stream ++ b ∷ [] ≡ front ++ rest → rest ≡ more ++ last ∷ [] → stream ≡ front ++ more
  part front rest more last e r = (same_from_push stream (front ++ more) b last (e ∙ ap (λ z. front ++ z) r ∙ sym (append_assoc front more (last ∷ [])))).0

  text_at : (front rest text : List ℕ) → stream ++ b ∷ [] ≡ front ++ rest → (rest ≡ []) ⊎ ((more : List ℕ) × (last : ℕ) × (rest ≡ more ++ last ∷ [])) → Closes front text → ⊥
  text_at front rest text e (inl r) k = c text (subst (λ z. Closes z text) (whole front rest e r) k)
  text_at front rest text e (inr f) k = u.no_text front f.0 text (part front rest f.0 f.1 e f.2) k

  long_at : (front rest : List ℕ) → stream ++ b ∷ [] ≡ front ++ rest → (rest ≡ []) ⊎ ((more : List ℕ) × (last : ℕ) × (rest ≡ more ++ last ∷ [])) → Overflows front → ⊥
  long_at front rest e (inl r) k = o (subst Overflows (whole front rest e r) k)
  long_at front rest e (inr f) k = u.in_limit front f.0 (part front rest f.0 f.1 e f.2) k

-- a stream that ends with no end byte ends with no text
no_close : (stream : List ℕ) (b : ℕ) → (IsEnd b → ⊥) → (text : List ℕ) → ¬ Closes (stream ++ b ∷ []) text
no_close stream b n text k = n (subst IsEnd (sym (same_from_push stream (k.before ++ TEXT_START ∷ text) b k.last k.spelled).1) k.ends)

-- a text that is too long ends with a byte of a text
pub over_ends : (stream : List ℕ) (b : ℕ) → Overflows (stream ++ b ∷ []) → IsPlain b
over_ends stream b k = elim (ends_with k.text) [
  | inl e ↦ absurd (let z : length k.text ≡ 0 = ap length e in omega (arith, z, k.long))
  | inr f ↦ (let s = same_from_push stream (k.before ++ TEXT_START ∷ f.0) b f.1 (k.spelled ∙ ap (λ t. k.before ++ TEXT_START ∷ t) f.2 ∙ sym (append_assoc k.before (TEXT_START ∷ f.0) (f.1 ∷ []))) in
      subst IsPlain (sym s.1) (middle_has IsPlain f.0 f.1 [] (subst (All IsPlain) f.2 k.plain)))
]

-- where no text has begun, none has come
pub unsettled_passing : (stream : List ℕ) → All (λ b. b ≢ TEXT_START) stream → IsUnsettled stream
unsettled_passing stream h = record {
  no_text = λ front rest text e k.
      middle_has (λ b. b ≢ TEXT_START) k.before TEXT_START (text ++ (k.last ∷ [] ++ rest))
      (subst (All (λ b. b ≢ TEXT_START)) (e ∙ ap (λ z. z ++ rest) k.spelled ∙ simp append_assoc) h) refl;
  in_limit = λ front rest e k.
      middle_has (λ b. b ≢ TEXT_START) k.before TEXT_START (k.text ++ rest)
      (subst (All (λ b. b ≢ TEXT_START)) (e ∙ ap (λ z. z ++ rest) k.spelled ∙ simp append_assoc) h) refl;
}

-- a start byte begins a text
opens : (stream : List ℕ) → IsUnsettled stream → HearsOpen (stream ++ TEXT_START ∷ []) []
opens stream u = record {
  before = stream;
  spelled = refl;
  plain = All-nil IsPlain;
  short = omega arith;
  unsettled = unsettled_more stream TEXT_START u (no_close stream TEXT_START start_no_end) (λ k. start_not_plain (over_ends stream TEXT_START k));
} where
  start_no_end : IsEnd TEXT_START → ⊥
  start_no_end (inl e) = absurd (omega (arith, e))
  start_no_end (inr e) = absurd (omega (arith, e))

pub plain_no_end : (b : ℕ) → IsPlain b → IsEnd b → ⊥
plain_no_end b p (inl e) = p.no_zero e
plain_no_end b p (inr e) = p.no_line_feed e

-- a byte of the text
grows : (stream text : List ℕ) (b : ℕ) → HearsOpen stream text → IsPlain b → length text < HAIL_MAX → HearsOpen (stream ++ b ∷ []) (text ++ b ∷ [])
grows stream text b h p lt = record {
  before = h.before;
  spelled = spelled;
  plain = plain;
  short = omega (arith, length_push text b);
  unsettled = unsettled_more stream b h.unsettled (no_close stream b (plain_no_end b p)) (λ k.
      let same = behind_last TEXT_START IsPlain start_not_plain h.before (text ++ b ∷ []) k.before k.text (sym spelled ∙ k.spelled) plain k.plain in
      omega (arith, length_push text b, ap length same, k.long));
} where
  spelled : stream ++ b ∷ [] ≡ h.before ++ TEXT_START ∷ (text ++ b ∷ [])
  spelled = ap (λ z. z ++ b ∷ []) h.spelled ∙ append_assoc h.before (TEXT_START ∷ text) (b ∷ [])

  plain : All IsPlain (text ++ b ∷ [])
  plain = All-push IsPlain text b h.plain p

-- an end byte
ends : (stream text : List ℕ) (b : ℕ) → HearsOpen stream text → IsEnd b → IsFirstText (stream ++ b ∷ []) text
ends stream text b h e = record {
  front = stream;
  last = b;
  one_more = refl;
  unsettled = h.unsettled;
  closes = record { before = h.before; last = b; spelled = ap (λ z. z ++ b ∷ []) h.spelled; plain = h.plain; ends = e };
}

-- a byte too many
overflows : (stream text : List ℕ) (b : ℕ) → HearsOpen stream text → IsPlain b → HAIL_MAX ≤ length text → IsTooLong (stream ++ b ∷ [])
overflows stream text b h p le = record {
  front = stream;
  last = b;
  one_more = refl;
  unsettled = h.unsettled;
  overflows = record {
    before = h.before;
    text = text ++ b ∷ [];
    spelled = ap (λ z. z ++ b ∷ []) h.spelled ∙ append_assoc h.before (TEXT_START ∷ text) (b ∷ []);
    plain = All-push IsPlain text b h.plain p;
    long = omega (arith, length_push text b, h.short);
  };
}

-- What one byte does.

tested_end : (b : ℕ) → ((b == 0) || (b == 10)) ≡ true → IsEnd b
tested_end b t = grind (arith, nat_tests)

tested_plain : (b : ℕ) → (b == TEXT_START) ≡ false → ((b == 0) || (b == 10)) ≡ false → IsPlain b
tested_plain b s t = record { no_start = λ e. grind (arith, nat_tests); no_zero = λ e. grind (arith, nat_tests); no_line_feed = λ e. grind (arith, nat_tests) }

abbrev grown : List ℕ → ℕ → Option Heard
grown text b = cond (nat_lt (length text) HAIL_MAX) (Some (Open (text ++ b ∷ []))) None

abbrev ended : List ℕ → ℕ → Option Heard
ended text b = cond ((b == 0) || (b == 10)) (Some (Whole text)) (grown text b)

byte_heard : (heard next : Heard) (stream : List ℕ) (b : ℕ) → Holds heard stream → is_whole heard ≡ false → heard_byte heard b ≡ Some next → Holds next (stream ++ b ∷ [])
byte_heard Passing next stream b h w e = by_test {b = b == TEXT_START} {x = Some (Open [])} {y = Some Passing} {z = Some next} e
    (λ t e. let k : Open [] ≡ next = cc in let s : b ≡ TEXT_START = grind (arith, nat_tests) in
    subst (λ n. Holds n (stream ++ b ∷ [])) k (subst (λ z. HearsOpen (stream ++ z ∷ []) []) (sym s) (opens stream (unsettled_passing stream h))))
    (λ t e. let k : Passing ≡ next = cc in
    subst (λ n. Holds n (stream ++ b ∷ [])) k (All-push (λ b. b ≢ TEXT_START) stream b h (λ s. grind (arith, nat_tests))))
byte_heard (Open text) next stream b h w e =
    by_test {b = b == TEXT_START} {x = Some (Open [])} {y = ended text b} {z = Some next} e
    (λ t e. let k : Open [] ≡ next = cc in let s : b ≡ TEXT_START = grind (arith, nat_tests) in
    subst (λ n. Holds n (stream ++ b ∷ [])) k (subst (λ z. HearsOpen (stream ++ z ∷ []) []) (sym s) (opens stream h.unsettled)))
    (λ s e. by_test {b = (b == 0) || (b == 10)} {x = Some (Whole text)} {y = grown text b} {z = Some next} e
    (λ t e. let k : Whole text ≡ next = cc in
    subst (λ n. Holds n (stream ++ b ∷ [])) k (ends stream text b h (tested_end b t)))
    (λ t e. by_test {b = nat_lt (length text) HAIL_MAX} {x = Some (Open (text ++ b ∷ []))} {y = None} {z = Some next} e
    (λ l e. let k : Open (text ++ b ∷ []) ≡ next = cc in
    subst (λ n. Holds n (stream ++ b ∷ [])) k (grows stream text b h (tested_plain b s t) (grind (arith, nat_tests))))
    (λ _ e. absurd cc)))
byte_heard (Whole text) next stream b h w e = absurd cc

byte_too_long : (heard : Heard) (stream : List ℕ) (b : ℕ) → Holds heard stream → is_whole heard ≡ false → heard_byte heard b ≡ None → IsTooLong (stream ++ b ∷ [])
byte_too_long Passing stream b h w e = by_test {b = b == TEXT_START} {x = Some (Open [])} {y = Some Passing} {z = None} e (λ _ e. absurd cc) (λ _ e. absurd cc)
byte_too_long (Open text) stream b h w e =
    by_test {b = b == TEXT_START} {x = Some (Open [])} {y = ended text b} {z = None} e (λ _ e. absurd cc)
    (λ s e. by_test {b = (b == 0) || (b == 10)} {x = Some (Whole text)} {y = grown text b} {z = None} e (λ _ e. absurd cc)
    (λ t e. by_test {b = nat_lt (length text) HAIL_MAX} {x = Some (Open (text ++ b ∷ []))} {y = None} {z = None} e (λ _ e. absurd cc)
    (λ l e. overflows stream text b h (tested_plain b s t) (grind (arith, nat_tests)))))
byte_too_long (Whole text) stream b h w e = absurd cc

-- What a piece does.

used_none : (heard : Heard) (stream piece : List ℕ) → Holds heard stream → Holds heard (stream ++ take 0 piece)
used_none heard stream piece h = subst (Holds heard) (sym (append-nil stream)) h

used_more : (next : Heard) (stream bs : List ℕ) (b n : ℕ) → Holds next ((stream ++ b ∷ []) ++ take n bs) → Holds next (stream ++ take (1 + n) (b ∷ bs))
used_more next stream bs b n t = subst (Holds next) (append_assoc stream (b ∷ []) (take n bs) ∙ ap (λ z. stream ++ z) same) t where
  same : b ∷ take n bs ≡ take (1 + n) (b ∷ bs)
  same = let k : 1 + n ≡ suc n = omega arith in sym (ap (λ m. take m (b ∷ bs)) k)

bind_some : {A B : Type 0} (o : Option A) (f : A → Option B) (y : B) → option_and_then f o ≡ Some y → (x : A) × (o ≡ Some x) × (f x ≡ Some y)
bind_some (Some x) f y e = (x, refl, e)
bind_some None f y e = absurd cc

abbrev heard_in : Option (ℕ × Heard) → Heard → Heard
heard_in (Some found) other = found.1
heard_in None other = other

abbrev used_in : Option (ℕ × Heard) → ℕ
used_in (Some found) = found.0
used_in None = 0

-- what was used, and what is then heard
pub took : (piece : List ℕ) (heard next : Heard) (stream : List ℕ) (n : ℕ) → Holds heard stream → hear heard piece ≡ Some (n, next) → Holds next (stream ++ take n piece)
took [] heard next stream n h e =
    let k : heard ≡ next = ap (λ o. heard_in o heard) e in let z : 0 ≡ n = ap (λ o. used_in o) e in
    subst (λ m. Holds next (stream ++ take m [])) z (subst (λ x. Holds x (stream ++ [])) k (used_none heard stream [] h))
took (b ∷ bs) heard next stream n h e =
    by_test {b = is_whole heard} {x = Some (0, heard)} {y = option_and_then (λ m. option_and_then one_used (hear m bs)) (heard_byte heard b)} {z = Some (n, next)} e
    (λ w e.
    let k : heard ≡ next = ap (λ o. heard_in o heard) e in let z : 0 ≡ n = ap (λ o. used_in o) e in
    subst (λ m. Holds next (stream ++ take m (b ∷ bs))) z (subst (λ x. Holds x (stream ++ [])) k (used_none heard stream (b ∷ bs) h)))
    (λ w e.
    let one = bind_some (heard_byte heard b) (λ m. option_and_then one_used (hear m bs)) (n, next) e in
    let more = bind_some (hear one.0 bs) one_used (n, next) one.2 in
    let k : more.0.1 ≡ next = ap (λ o. heard_in o next) more.2 in let z : 1 + more.0.0 ≡ n = ap (λ o. used_in o) more.2 in
    subst (λ m. Holds next (stream ++ take m (b ∷ bs))) z (subst (λ x. Holds x (stream ++ take (1 + more.0.0) (b ∷ bs))) k
    (used_more more.0.1 stream bs b more.0.0 (took bs one.0 more.0.1 (stream ++ b ∷ []) more.0.0 (byte_heard heard one.0 stream b h w one.1) more.1))))

bind_none : {A B : Type 0} (o : Option A) (f : A → Option B) → option_and_then f o ≡ None → (o ≡ None) ⊎ ((x : A) × (o ≡ Some x) × (f x ≡ None))
bind_none (Some x) f e = inr (x, refl, e)
bind_none None f e = inl refl

one_used_none : (o : Option (ℕ × Heard)) → option_and_then one_used o ≡ None → o ≡ None
one_used_none (Some found) e = absurd cc
one_used_none None e = refl

abbrev TooLongIn : List ℕ → List ℕ → Type 0
TooLongIn stream piece = (n : ℕ) × (n ≤ length piece) × IsTooLong (stream ++ take n piece)

too_long_more : (stream bs : List ℕ) (b : ℕ) → TooLongIn (stream ++ b ∷ []) bs → TooLongIn stream (b ∷ bs)
too_long_more stream bs b (n, h, t) = (suc n, omega arith, subst IsTooLong (append_assoc stream (b ∷ []) (take n bs)) t)

-- a piece in which the text is too long
pub took_too_long : (piece : List ℕ) (heard : Heard) (stream : List ℕ) → Holds heard stream → hear heard piece ≡ None → (n : ℕ) × (n ≤ length piece) × IsTooLong (stream ++ take n piece)
took_too_long [] heard stream h e = absurd cc
took_too_long (b ∷ bs) heard stream h e =
    by_test {b = is_whole heard} {x = Some (0, heard)} {y = option_and_then (λ m. option_and_then one_used (hear m bs)) (heard_byte heard b)} {z = None} e
    (λ _ e. absurd cc)
    (λ w e. elim (bind_none (heard_byte heard b) (λ m. option_and_then one_used (hear m bs)) e) [
      | inl k ↦ (1, omega arith, byte_too_long heard stream b h w k)
      | inr f ↦ too_long_more stream bs b (took_too_long bs f.0 (stream ++ b ∷ []) (byte_heard heard f.0 stream b h w f.1) (one_used_none (hear f.0 bs) f.2))
    ])

-- while a text is whole, nothing is used
pub took_whole : (piece : List ℕ) (heard next : Heard) (n : ℕ) → is_whole heard ≡ true → hear heard piece ≡ Some (n, next) → (n ≡ 0) × (next ≡ heard)
took_whole piece heard next n w e =
    let k = sym (hear_whole heard piece w) ∙ e in
    (sym (ap (λ o. used_in o) k), sym (ap (λ o. heard_in o heard) k))

pub took_of : (piece : List ℕ) (heard next : Heard) (n : ℕ) → hear heard piece ≡ Some (n, next) → (n ≤ length piece) × (is_whole next ≡ false → n ≡ length piece)
took_of [] heard next n e = let z : 0 ≡ n = ap (λ o. used_in o) e in (omega arith, λ _. sym z)
took_of (b ∷ bs) heard next n e =
    by_test {b = is_whole heard} {x = Some (0, heard)} {y = option_and_then (λ m. option_and_then one_used (hear m bs)) (heard_byte heard b)} {z = Some (n, next)} e
    (λ w e. let k : heard ≡ next = ap (λ o. heard_in o heard) e in let z : 0 ≡ n = ap (λ o. used_in o) e in
    (omega arith, λ f. absurd (let c = sym w ∙ ap is_whole k ∙ f in cc)))
    (λ w e.
    let one = bind_some (heard_byte heard b) (λ m. option_and_then one_used (hear m bs)) (n, next) e in
    let more = bind_some (hear one.0 bs) one_used (n, next) one.2 in
    let k : more.0.1 ≡ next = ap (λ o. heard_in o next) more.2 in let z : 1 + more.0.0 ≡ n = ap (λ o. used_in o) more.2 in
    let t = took_of bs one.0 more.0.1 more.0.0 more.1 in
    (omega (arith, t.0), λ f. omega (arith, t.1 (ap is_whole k ∙ f))))

-- where a text becomes whole, something is used
pub used_some : (piece : List ℕ) (heard next : Heard) (n : ℕ) → hear heard piece ≡ Some (n, next) → is_whole heard ≡ false → is_whole next ≡ true → 0 < n
used_some [] heard next n e w f = let k : heard ≡ next = ap (λ o. heard_in o heard) e in absurd (let c = sym w ∙ ap is_whole k ∙ f in cc)
used_some (b ∷ bs) heard next n e w f =
    by_test {b = is_whole heard} {x = Some (0, heard)} {y = option_and_then (λ m. option_and_then one_used (hear m bs)) (heard_byte heard b)} {z = Some (n, next)} e
    (λ t _. absurd (let c = sym w ∙ t in cc))
    (λ _ e.
    let one = bind_some (heard_byte heard b) (λ m. option_and_then one_used (hear m bs)) (n, next) e in
    let more = bind_some (hear one.0 bs) one_used (n, next) one.2 in
    let z : 1 + more.0.0 ≡ n = ap (λ o. used_in o) more.2 in
    omega arith)

pub whole_is_heard : (piece : List ℕ) (heard : Heard) → is_whole heard ≡ true → hear heard piece ≡ None → ⊥
whole_is_heard piece heard w e = absurd (let k = sym (hear_whole heard piece w) ∙ e in cc)

-- Piece by piece.

used_then : (n : ℕ) (found : Option (ℕ × Heard)) → option_and_then one_used (used_before n found) ≡ used_before (1 + n) found
used_then n None = refl
used_then n (Some found) = let e : 1 + (n + found.0) ≡ 1 + n + found.0 = omega arith in ap (λ m. Some (m, found.1)) e

pub goes_on : (piece more : List ℕ) (heard next : Heard) (n : ℕ) → hear heard piece ≡ Some (n, next) → is_whole next ≡ false → hear heard (piece ++ more) ≡ used_before n (hear next more)
goes_on [] more heard next n e f =
    let k : heard ≡ next = ap (λ o. heard_in o heard) e in let z : 0 ≡ n = ap (λ o. used_in o) e in
    plus_none (hear heard more) ∙ ap (λ h. used_before 0 (hear h more)) k ∙ ap (λ m. used_before m (hear next more)) z
goes_on (b ∷ bs) more heard next n e f =
    by_test {b = is_whole heard} {x = Some (0, heard)} {y = option_and_then (λ m. option_and_then one_used (hear m bs)) (heard_byte heard b)} {z = Some (n, next)} e
    (λ w e. let k : heard ≡ next = ap (λ o. heard_in o heard) e in absurd (let c = sym w ∙ ap is_whole k ∙ f in cc))
    (λ w e.
    let one = bind_some (heard_byte heard b) (λ m. option_and_then one_used (hear m bs)) (n, next) e in
    let then = bind_some (hear one.0 bs) one_used (n, next) one.2 in
    let k : then.0.1 ≡ next = ap (λ o. heard_in o next) then.2 in let z : 1 + then.0.0 ≡ n = ap (λ o. used_in o) then.2 in
    hear_next heard one.0 b (bs ++ more) w one.1
    ∙ ap (option_and_then one_used) (goes_on bs more one.0 then.0.1 then.0.0 then.1 (ap is_whole k ∙ f))
    ∙ used_then then.0.0 (hear then.0.1 more)
    ∙ ap (λ h. used_before (1 + then.0.0) (hear h more)) k ∙ ap (λ m. used_before m (hear next more)) z)

pub stays_whole : (piece more : List ℕ) (heard next : Heard) (n : ℕ) → hear heard piece ≡ Some (n, next) → is_whole next ≡ true → hear heard (piece ++ more) ≡ Some (n, next)
stays_whole [] more heard next n e f =
    let k : heard ≡ next = ap (λ o. heard_in o heard) e in
    hear_whole heard more (ap is_whole k ∙ f) ∙ e
stays_whole (b ∷ bs) more heard next n e f =
    by_test {b = is_whole heard} {x = Some (0, heard)} {y = option_and_then (λ m. option_and_then one_used (hear m bs)) (heard_byte heard b)} {z = Some (n, next)} e
    (λ w e. hear_whole heard (b ∷ (bs ++ more)) w ∙ e)
    (λ w e.
    let one = bind_some (heard_byte heard b) (λ m. option_and_then one_used (hear m bs)) (n, next) e in
    let then = bind_some (hear one.0 bs) one_used (n, next) one.2 in
    let k : then.0.1 ≡ next = ap (λ o. heard_in o next) then.2 in
    hear_next heard one.0 b (bs ++ more) w one.1
    ∙ ap (option_and_then one_used) (stays_whole bs more one.0 then.0.1 then.0.0 then.1 (ap is_whole k ∙ f))
    ∙ then.2)

pub stays_too_long : (piece more : List ℕ) (heard : Heard) → hear heard piece ≡ None → hear heard (piece ++ more) ≡ None
stays_too_long [] more heard e = absurd cc
stays_too_long (b ∷ bs) more heard e =
    by_test {b = is_whole heard} {x = Some (0, heard)} {y = option_and_then (λ m. option_and_then one_used (hear m bs)) (heard_byte heard b)} {z = None} e
    (λ _ e. absurd cc)
    (λ w e. elim (bind_none (heard_byte heard b) (λ m. option_and_then one_used (hear m bs)) e) [
      | inl k ↦ hear_none heard b (bs ++ more) w k
      | inr f ↦ hear_next heard f.0 b (bs ++ more) w f.1 ∙ ap (option_and_then one_used) (stays_too_long bs more f.0 (one_used_none (hear f.0 bs) f.2))
    ])

-- What is written.

open_with : (rest done : List ℕ) → HearsOpen (TEXT_START ∷ done) done → All IsPlain rest → length done + length rest ≤ HAIL_MAX → HearsOpen (TEXT_START ∷ (done ++ rest)) (done ++ rest)
open_with [] done h p l = subst (λ t. HearsOpen (TEXT_START ∷ t) t) (sym (append-nil done)) h
open_with (b ∷ bs) done h p l =
    subst (λ t. HearsOpen (TEXT_START ∷ t) t) (append_assoc done (b ∷ []) bs)
    (open_with bs (done ++ b ∷ []) (grows (TEXT_START ∷ done) done b h (All-head IsPlain b bs p) (omega arith)) (All-tail IsPlain b bs p) (omega (arith, length_push done b)))

pub written_text : (text : List ℕ) → All IsPlain text → length text ≤ HAIL_MAX → IsFirstText (TEXT_START ∷ text ++ 0 ∷ []) text
written_text text p l =
    ends (TEXT_START ∷ text) text 0 (open_with text [] (opens [] (unsettled_passing [] (All-nil (λ b. b ≢ TEXT_START)))) p (omega arith)) (inl refl)
