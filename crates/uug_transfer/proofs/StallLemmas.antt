-- How many silences in a row there were at the writes of a line.
use Rattle.std.proofs.Common.{◌≡◌, ℕ, zero, suc, ◌+◌, ◌<◌, ◌⊎◌, inl, inr, List, [], ◌∷◌, ◌++◌, Option, Some, None, drop, length, refl, sym, ap, subst, ◌∙◌, append_assoc, arith}
use Rattle.std.proofs.lemmas.Bool.Decides.{nat_tests}
use Rattle.std.proofs.lemmas.List.{append-nil, nil_from_length}
use Rattle.std.specs.Prelude.{⊤, Bool, IsTrue, ◌==◌}
use Rattle.uug_transfer.proofs.ListeningLemmas.{Wrote}
use Rattle.uug_transfer.specs.Hosts.{HasOnlyWritten}
use Rattle.uug_transfer.specs.Moments.{HostNow}
use Rattle.uug_transfer.specs.ReadBudgets.{stalls_left}
use Rattle.uug_transfer.specs.Writing.{TakesFront}
use Rattle.uug_transfer.specs.WriteSilences.{StallsWithin, WritesUpTo, WritesWithin, also_wrote, stalled_after}
use Rattle.uug_transfer.specs.declared.read_budget.TheConstants.{STALLS_MAX}

stalls_join : (most waited : ℕ) (a b : List ℕ) → StallsWithin most waited a → StallsWithin most (stalled_after waited a) b
    → StallsWithin most waited (a ++ b)
stalls_join most waited [] b h k = k
stalls_join most waited (zero ∷ a) b h k = (h.0, stalls_join most (suc waited) a b h.1 k)
stalls_join most waited (suc n ∷ a) b h k = stalls_join most 0 a b h k

stalled_join : (waited : ℕ) (a b : List ℕ) → stalled_after waited (a ++ b) ≡ stalled_after (stalled_after waited a) b
stalled_join waited [] b = refl
stalled_join waited (zero ∷ a) b = stalled_join (suc waited) a b
stalled_join waited (suc n ∷ a) b = stalled_join 0 a b

-- so many more are waited for, behind what was written since
pub record Stalls (left : ℕ) (since : List ℕ) : Type 0 where
  pub within : StallsWithin STALLS_MAX 0 since
  pub left_is : stalled_after 0 since + left ≡ STALLS_MAX

abbrev pub StallsSince : (left : ℕ) → (before after : Option (List ℕ)) → Type 0
StallsSince left None after = ⊤
StallsSince left (Some before) after = (since : List ℕ) × (after ≡ Some (before ++ since)) × Stalls left since

pub stalls_none : (before : Option (List ℕ)) → StallsSince STALLS_MAX before before
stalls_none None = tt
stalls_none (Some before) =
    ([], ap (λ (x : List ℕ). Some x) (sym (append-nil before)), record { within = tt; left_is = refl })

one_more : (left n : ℕ) (since : List ℕ) → 0 < left → Stalls left since → Stalls (stalls_left left n) (since ++ n ∷ [])
one_more left zero since lasts s = record {
  within = stalls_join STALLS_MAX 0 since (zero ∷ []) s.within (omega (arith, s.left_is, lasts), tt);
  left_is = omega (arith, stalled_join 0 since (zero ∷ []), s.left_is, lasts);
}
one_more left (suc m) since lasts s = record {
  within = stalls_join STALLS_MAX 0 since (suc m ∷ []) s.within tt;
  left_is = ap (λ (w : ℕ). w + STALLS_MAX) (stalled_join 0 since (suc m ∷ []));
}

pub stalls_more : (left n left_then : ℕ) (before mid after : Option (List ℕ)) → StallsSince left before mid → 0 < left
    → after ≡ also_wrote n mid → left_then ≡ stalls_left left n → StallsSince left_then before after
stalls_more left n left_then None mid after s lasts wrote left_is = tt
stalls_more left n left_then (Some before) mid after s lasts wrote left_is = (
  s.0 ++ n ∷ [],
  wrote ∙ ap (also_wrote n) s.1 ∙ ap (λ (x : List ℕ). Some x) (append_assoc before s.0 (n ∷ [])),
  subst (λ (l : ℕ). Stalls l (s.0 ++ n ∷ [])) (sym left_is) (one_more left n s.0 lasts s.2),
)

pub stalls_within : (left : ℕ) (before after : Option (List ℕ)) → StallsSince left before after → WritesWithin STALLS_MAX before after
stalls_within left None after s = tt
stalls_within left (Some before) after s = (s.0, s.1, s.2.within)

pub stalls_over : (left : ℕ) (before after : Option (List ℕ)) → left ≡ STALLS_MAX → StallsSince left before after
    → WritesUpTo STALLS_MAX 0 before after
stalls_over left None after none s = tt
stalls_over left (Some before) after none s = (s.0, s.1, s.2.within, omega (arith, s.2.left_is, none))

-- ---- one time after the other

pub written_none : (before : Option (List ℕ)) → WritesUpTo STALLS_MAX 0 before before
written_none before = stalls_over STALLS_MAX before before refl (stalls_none before)

pub up_to_within : (most waited : ℕ) (before after : Option (List ℕ)) → WritesUpTo most waited before after → WritesWithin most before after
up_to_within most waited None after w = tt
up_to_within most waited (Some before) after w = (w.0, w.1, w.2)

pub within_behind : (most : ℕ) (a b d : Option (List ℕ)) → WritesUpTo most 0 a b → WritesWithin most b d → WritesWithin most a d
within_behind most None b d w v = tt
within_behind most (Some a) b d w v =
    let more = subst (λ (x : Option (List ℕ)). WritesWithin most x d) w.1 v in (
      w.0 ++ more.0,
      more.1 ∙ ap (λ (x : List ℕ). Some x) (append_assoc a w.0 more.0),
      stalls_join most 0 w.0 more.0 w.2 (subst (λ (n : ℕ). StallsWithin most n more.0) (sym w.3) more.2),
    )

pub up_to_behind : (most : ℕ) (a b d : Option (List ℕ)) → WritesUpTo most 0 a b → WritesUpTo most 0 b d → WritesUpTo most 0 a d
up_to_behind most None b d w v = tt
up_to_behind most (Some a) b d w v =
    let more = subst (λ (x : Option (List ℕ)). WritesUpTo most 0 x d) w.1 v in (
      w.0 ++ more.0,
      more.1 ∙ ap (λ (x : List ℕ). Some x) (append_assoc a w.0 more.0),
      stalls_join most 0 w.0 more.0 w.2 (subst (λ (n : ℕ). StallsWithin most n more.0) (sym w.3) more.2),
      stalled_join 0 w.0 more.0 ∙ ap (λ (n : ℕ). stalled_after n more.0) w.3 ∙ more.3,
    )

-- nothing was written meanwhile
pub up_to_same : (most waited : ℕ) (a b d : Option (List ℕ)) → WritesUpTo most waited a b → d ≡ b → WritesUpTo most waited a d
up_to_same most waited a b d w same = subst (WritesUpTo most waited a) (sym same) w

pub within_same : (most : ℕ) (a b d : Option (List ℕ)) → WritesWithin most a b → d ≡ b → WritesWithin most a d
within_same most a b d w same = subst (WritesWithin most a) (sym same) w

-- ---- in the loop of the writes

-- there is more to write, or the line was not waited for
abbrev pub GoesOn : (left : ℕ) → (bytes : List ℕ) → Type 0
GoesOn left bytes = (0 < length bytes) ⊎ (left ≡ STALLS_MAX)

pub goes_on : (n left then_left : ℕ) (bytes then_bytes : List ℕ) → 0 < length bytes → then_bytes ≡ drop n bytes
    → then_left ≡ stalls_left left n → GoesOn then_left then_bytes
goes_on zero left then_left bytes then_bytes some then_is left_is = inl (subst (λ (x : List ℕ). 0 < length x) (sym then_is) some)
goes_on (suc m) left then_left bytes then_bytes some then_is left_is = inr left_is

all_over : (left : ℕ) (before after : Option (List ℕ)) → GoesOn left [] → StallsSince left before after → WritesUpTo STALLS_MAX 0 before after
all_over left before after (inl more) s = absurd (omega (arith, more))
all_over left before after (inr none) s = stalls_over left before after none s

pub written_all : (left : ℕ) (bytes slice : List ℕ) (empty : Bool) (before after : Option (List ℕ)) → slice ≡ bytes
    → empty ≡ (length slice == 0) → IsTrue empty → GoesOn left bytes → StallsSince left before after → WritesUpTo STALLS_MAX 0 before after
written_all left bytes slice empty before after same tested is more s =
    let zero_is : IsTrue (length slice == 0) = subst IsTrue tested is in
    let none : length slice ≡ 0 = grind (arith, nat_tests, zero_is) in
    all_over left before after (subst (λ (x : List ℕ). GoesOn left x) (sym same ∙ nil_from_length slice none) more) s

pub wrote_front : (bytes left : List ℕ) (u v : Option (List ℕ)) → Wrote bytes left u v → TakesFront bytes u v
wrote_front bytes left None v wrote = tt
wrote_front bytes left (Some before) v wrote = (wrote.written, left, wrote.all, wrote.took)

-- nothing but this was done
pub only_written : (bytes left : List ℕ) (silences : ℕ) (host after : HostNow) → after.lent ≡ host.lent → after.disk ≡ host.disk
    → after.line.received ≡ host.line.received → Wrote bytes left host.line.taken after.line.taken
    → StallsSince silences host.line.writes after.line.writes → HasOnlyWritten bytes host after
only_written bytes left silences host after lent disk received wrote stalls = record {
  lent = lent;
  disk = disk;
  received = received;
  taken = wrote_front bytes left host.line.taken after.line.taken wrote;
  writes = stalls_within silences host.line.writes after.line.writes stalls;
}
