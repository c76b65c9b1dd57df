-- A power cut leaves a file that another replaces as it was before, or has the other whole.
use Rattle.std.proofs.Common.{◌≡◌, ◌⊎◌, inl, inr, ℕ, suc, true, false, List, [], ◌∷◌, Option, Some, refl, sym, ap, subst, ◌∙◌}
use Rattle.uug_taylor_text.specs.DiskOrder.{replaced_ops}
use Rattle.uug_taylor_text.specs.Operations.{FrontDone, Op, also_all, folder_synced, renamed}
use Rattle.uug_taylor_text.specs.Standings.{AfterEach, IsAsBefore, IsBeforeOrWhole, IsWholeThere, MayHold, Standing, Told, after, after_all, changes_of, found, found_by, gone, is_spot, moved, noted, put}
use Rattle.uug_taylor_text.specs.StoredSafely.{StaysSafe, is_place}
use Rattle.uug_taylor_text.specs.declared.spool_names.Spot.{Spot}
use Rattle.uug_taylor_text.proofs.StandingLemmas.{all_told, change_elsewhere, front_told, last_told, more_safe, other_room, put_or_before, same_room, same_spot, still_as_before, whole_there}
use Rattle.uug_taylor_text.proofs.StoredSafelyLemmas.{first_gone, held_at, not_temporary, the_file, written, written_is_safe, written_safe}

-- ---- the steps

abbrev in_place : (target : Spot) (bytes : List ℕ) → Standing → Standing
in_place target bytes s = moved (Some (the_file bytes s)) (held_at target.name) target (written_safe target.name bytes s)

abbrev in_place_seen : (target : Spot) (bytes : List ℕ) → Standing → Standing
in_place_seen target bytes s = after (folder_synced target.room) (in_place target bytes s)

abbrev from_safe : (target : Spot) → List Op
from_safe target = renamed (held_at target.name) target ∷ folder_synced target.room ∷ []

is_in_place : (target : Spot) (bytes : List ℕ) (s : Standing)
    → after (renamed (held_at target.name) target) (written_safe target.name bytes s) ≡ in_place target bytes s
is_in_place target bytes s =
    ap (λ b. moved (found_by b (put (held_at target.name) (the_file bytes s))
    (found (held_at target.name) (gone (held_at target.name) ∷ changes_of s.notes))) (held_at target.name) target (written_safe target.name bytes s))
    (same_spot (held_at target.name))

each_step : (target : Spot) (bytes : List ℕ) (s : Standing) (P : Standing → Type 0)
    → P s → P (first_gone target.name s) → P (written target.name bytes s) → P (written_safe target.name bytes s)
    → P (in_place target bytes s) → P (in_place_seen target bytes s) → AfterEach P (replaced_ops target bytes) s
each_step target bytes s P a b c d e f = (
  a,
  (
    b,
    (
      c,
      subst (λ t. AfterEach P (from_safe target) t) (sym (written_is_safe target.name bytes s)) (
        d,
        subst (λ t. AfterEach P (folder_synced target.room ∷ []) t) (sym (is_in_place target bytes s)) (e, f),
      ),
    ),
  ),
)

all_steps : (target : Spot) (bytes : List ℕ) (s : Standing) → after_all (replaced_ops target bytes) s ≡ in_place_seen target bytes s
all_steps target bytes s =
    ap (after_all (from_safe target)) (written_is_safe target.name bytes s)
    ∙ ap (after_all (folder_synced target.room ∷ [])) (is_in_place target bytes s)

-- ---- before the rename

record BeforeRename (target : Spot) (bytes : List ℕ) (s : Standing) : Type 0 where
  one : IsAsBefore s target (first_gone target.name s)
  two : IsAsBefore s target (written target.name bytes s)
  three : IsAsBefore s target (written_safe target.name bytes s)

nothing_yet : (target : Spot) (bytes : List ℕ) (s : Standing) → is_place target.room ≡ true → BeforeRename target bytes s
nothing_yet target bytes s h =
    let temp = target.name in
    let away : is_spot (held_at temp) target ≡ false = other_room (held_at temp) target (not_temporary target.room h) in
    let one : IsAsBefore s target (first_gone temp s) = change_elsewhere s s.next (gone (held_at temp)) target away in
    let two : IsAsBefore s target (written temp bytes s) =
    still_as_before s (first_gone temp s) (written temp bytes s) target one
    (change_elsewhere (first_gone temp s) (suc s.next) (put (held_at temp) (the_file bytes s)) target away) in
    record {
      one = one;
      two = two;
      three = still_as_before s (written temp bytes s) (written_safe temp bytes s) target two
          (more_safe (written temp bytes s) (Some (the_file bytes s)) target);
    }

-- ---- the file

placed : (target : Spot) (bytes : List ℕ) (s : Standing) → is_place target.room ≡ true → IsBeforeOrWhole s target bytes (in_place target bytes s)
placed target bytes s h = λ held is.
    let away : is_spot (held_at target.name) target ≡ false = other_room (held_at target.name) target (not_temporary target.room h) in
    let before = written_safe target.name bytes s in
    let there = noted (put target (the_file bytes s)) before in
    step held
    (put_or_before before before.next target (the_file bytes s) (inl refl) held
    (change_elsewhere there there.next (gone (held_at target.name)) target away held is)) where
      step : (held : Option (List ℕ)) → MayHold (written_safe target.name bytes s) target held ⊎ (held ≡ Some bytes)
          → MayHold s target held ⊎ (held ≡ Some bytes)
      step held (inl is) = inl ((nothing_yet target bytes s h).three held is)
      step held (inr is) = inr is

whole_then : (target : Spot) (bytes : List ℕ) (s : Standing) → is_place target.room ≡ true → IsWholeThere target bytes (in_place_seen target bytes s)
whole_then target bytes s h =
    whole_there (in_place_seen target bytes s) target (the_file bytes s)
    (inr (other_room (held_at target.name) target (not_temporary target.room h), inl (refl, same_room target.room))) (inl refl)

-- ---- wherever it is stopped

pub before_or_replaced : (target : Spot) (bytes : List ℕ) (s : Standing) → is_place target.room ≡ true
    → AfterEach (IsBeforeOrWhole s target bytes) (replaced_ops target bytes) s
before_or_replaced target bytes s h =
    let yet = nothing_yet target bytes s h in
    each_step target bytes s (IsBeforeOrWhole s target bytes)
    (λ held is. inl is) (λ held is. inl (yet.one held is)) (λ held is. inl (yet.two held is)) (λ held is. inl (yet.three held is))
    (placed target bytes s h) (λ held is. inr (whole_then target bytes s h held is))

pub replaced_is_there : (target : Spot) (bytes : List ℕ) (s : Standing) → is_place target.room ≡ true
    → IsWholeThere target bytes (after_all (replaced_ops target bytes) s)
replaced_is_there target bytes s h =
    subst (λ t. IsWholeThere target bytes t) (sym (all_steps target bytes s)) (whole_then target bytes s h)

-- ---- the clauses of replace

pub stays_safe : (target : Spot) (bytes : List ℕ) (before now : Option (List Op))
    → FrontDone (replaced_ops target bytes) before now → is_place target.room ≡ true → StaysSafe target bytes before now
stays_safe target bytes before now done h =
    front_told (λ s. IsBeforeOrWhole s target bytes) (replaced_ops target bytes) (λ s. before_or_replaced target bytes s h) before now done

pub all_stays_safe : (target : Spot) (bytes : List ℕ) (before now : Option (List Op))
    → now ≡ also_all (replaced_ops target bytes) before → is_place target.room ≡ true → StaysSafe target bytes before now
all_stays_safe target bytes before now e h =
    all_told (λ s. IsBeforeOrWhole s target bytes) (replaced_ops target bytes) (λ s. before_or_replaced target bytes s h) before now e

pub is_there : (target : Spot) (bytes : List ℕ) (before now : Option (List Op))
    → now ≡ also_all (replaced_ops target bytes) before → is_place target.room ≡ true → Told (IsWholeThere target bytes) now
is_there target bytes before now e h =
    last_told (IsWholeThere target bytes) (replaced_ops target bytes) (λ s. replaced_is_there target bytes s h) before now e
