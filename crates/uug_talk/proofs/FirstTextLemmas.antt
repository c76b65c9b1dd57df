-- A stream has one first text, or one place at which it is too long.
use Rattle.std.proofs.Common.{◌≡◌, ◌⊎◌, inl, inr, ℕ, List, [], ◌∷◌, ◌++◌, refl, sym, ap, subst, ◌∙◌, append_assoc}
use Rattle.std.proofs.lemmas.List.{same_from_push}
use Rattle.uug_talk.specs.declared.hail.TheConstants.{TEXT_START}
use Rattle.uug_talk.specs.Texts.{IsPlain, Closes, Overflows, IsUnsettled, IsFirstText, IsTooLong}
use Rattle.uug_talk.proofs.TextLemmas.{ends_with, behind_last, start_not_plain, over_ends, plain_no_end}

-- one list goes on behind another
pub record IsLonger (longer shorter : List ℕ) : Type 0 where
  pub next : ℕ
  pub more : List ℕ
  pub spelled : longer ≡ shorter ++ next ∷ more

-- of two fronts of one list, one is a front of the other
fronts : (a b x y : List ℕ) → a ++ x ≡ b ++ y → (a ≡ b) ⊎ (IsLonger a b ⊎ IsLonger b a)
fronts [] [] x y e = inl refl
fronts [] (c ∷ cs) x y e = inr (inr (record { next = c; more = cs; spelled = refl }))
fronts (c ∷ cs) [] x y e = inr (inl (record { next = c; more = cs; spelled = refl }))
fronts (c ∷ cs) (d ∷ ds) x y e =
    let h : c ≡ d = cc in
    let t : cs ++ x ≡ ds ++ y = cc in
    elim (fronts cs ds x y t) [
      | inl k ↦ inl cc
      | inr k ↦ elim k [
        | inl l ↦ inr (inl (record { next = l.next; more = l.more; spelled = ap (λ z. c ∷ z) l.spelled ∙ ap (λ z. z ∷ (ds ++ l.next ∷ l.more)) h }))
        | inr l ↦ inr (inr (record { next = l.next; more = l.more; spelled = ap (λ z. d ∷ z) l.spelled ∙ ap (λ z. z ∷ (cs ++ l.next ∷ l.more)) (sym h) }))
      ]
    ]

-- the longer one without its last byte goes on behind the shorter one too
front_of_longer : (longer shorter front : List ℕ) (last : ℕ) → longer ≡ front ++ last ∷ [] → IsLonger longer shorter → (rest : List ℕ) × (front ≡ shorter ++ rest)
front_of_longer longer shorter front last o l = elim (ends_with (l.next ∷ l.more)) [
  | inl e ↦ absurd cc
  | inr f ↦ (f.0, (same_from_push front (shorter ++ f.0) last f.1 (sym o ∙ l.spelled ∙ ap (λ z. shorter ++ z) f.2 ∙ sym (append_assoc shorter f.0 (f.1 ∷ [])))).0)
]

-- a text or a place where one is too long does not stand before another's first one
not_longer : (longer shorter front : List ℕ) (last : ℕ) → longer ≡ front ++ last ∷ [] → IsUnsettled front → ((text : List ℕ) × Closes shorter text) ⊎ Overflows shorter → IsLonger longer shorter → ⊥
not_longer longer shorter front last o u (inl c) l = let f = front_of_longer longer shorter front last o l in u.no_text shorter f.0 c.0 f.1 c.1
not_longer longer shorter front last o u (inr c) l = let f = front_of_longer longer shorter front last o l in u.in_limit shorter f.0 f.1 c

closed_text : (stream text other : List ℕ) → Closes stream text → Closes stream other → text ≡ other
closed_text stream text other c d =
    let same = same_from_push (c.before ++ TEXT_START ∷ text) (d.before ++ TEXT_START ∷ other) c.last d.last (sym c.spelled ∙ d.spelled) in
    behind_last TEXT_START IsPlain start_not_plain c.before text d.before other same.0 c.plain d.plain

pub same_text : (front text rest other_front other_text other_rest : List ℕ) → IsFirstText front text → IsFirstText other_front other_text → front ++ rest ≡ other_front ++ other_rest → (front ≡ other_front) × (text ≡ other_text)
same_text front text rest other_front other_text other_rest f g e = elim (fronts front other_front rest other_rest e) [
  | inl k ↦ (k, closed_text front text other_text f.closes (subst (λ s. Closes s other_text) (sym k) g.closes))
  | inr k ↦ elim k [
    | inl l ↦ absurd (not_longer front other_front f.front f.last f.one_more f.unsettled (inl (other_text, g.closes)) l)
    | inr l ↦ absurd (not_longer other_front front g.front g.last g.one_more g.unsettled (inl (text, f.closes)) l)
  ]
]

pub same_place : (front rest other_front other_rest : List ℕ) → IsTooLong front → IsTooLong other_front → front ++ rest ≡ other_front ++ other_rest → front ≡ other_front
same_place front rest other_front other_rest f g e = elim (fronts front other_front rest other_rest e) [
  | inl k ↦ k
  | inr k ↦ elim k [
    | inl l ↦ absurd (not_longer front other_front f.front f.last f.one_more f.unsettled (inr g.overflows) l)
    | inr l ↦ absurd (not_longer other_front front g.front g.last g.one_more g.unsettled (inr f.overflows) l)
  ]
]

not_both : (stream text : List ℕ) → Closes stream text → Overflows stream → ⊥
not_both stream text c o = plain_no_end c.last (over_ends (c.before ++ TEXT_START ∷ text) c.last (subst Overflows c.spelled o)) c.ends

pub text_or_too_long : (front text rest other_front other_rest : List ℕ) → IsFirstText front text → IsTooLong other_front → front ++ rest ≡ other_front ++ other_rest → ⊥
text_or_too_long front text rest other_front other_rest f g e = elim (fronts front other_front rest other_rest e) [
  | inl k ↦ not_both front text f.closes (subst Overflows (sym k) g.overflows)
  | inr k ↦ elim k [
    | inl l ↦ not_longer front other_front f.front f.last f.one_more f.unsettled (inr g.overflows) l
    | inr l ↦ not_longer other_front front g.front g.last g.one_more g.unsettled (inl (text, f.closes)) l
  ]
]
