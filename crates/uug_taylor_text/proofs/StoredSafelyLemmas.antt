-- A power cut leaves a file that came as it was before, or whole.
use Rattle.std.proofs.Common.{◌≡◌, ◌⊎◌, inl, inr, ℕ, suc, true, false, List, [], ◌∷◌, Option, Some, refl, sym, ap, subst, ◌∙◌}
use Rattle.uug_taylor_text.specs.DiskOrder.{stored_ops}
use Rattle.uug_taylor_text.specs.Operations.{FrontDone, Op, also_all, folder_synced, made, renamed, synced, unlinked}
use Rattle.uug_taylor_text.specs.SpoolNames.{spot}
use Rattle.uug_taylor_text.specs.Standings.{AfterEach, Inode, IsAsBefore, IsBeforeOrWhole, IsGoneThere, IsMarked, IsWholeThere, MayHold, Standing, Told, after, after_all, changes_of, file_made, found, found_by, gone, is_room, is_spot, made_safe, moved, noted, put, seen}
use Rattle.uug_taylor_text.specs.StoredSafely.{StaysMarked, StaysSafe, StoredSafely, is_place}
use Rattle.uug_taylor_text.specs.declared.spool_names.Room.{Room}
use Rattle.uug_taylor_text.specs.declared.spool_names.Room.TheVariants as rooms
use Rattle.uug_taylor_text.specs.declared.spool_names.Spot.{Spot}
use Rattle.uug_taylor_text.proofs.StandingLemmas.{Lasts, all_told, change_elsewhere, folder_seen, front_told, gone_there, last_told, more_safe, other_room, put_or_before, same_room, same_spot, still_as_before, whole_elsewhere, whole_there}

-- ---- the places

pub not_temporary : (room : Room) → is_place room ≡ true → is_room rooms.Temporary room ≡ false
not_temporary rooms.Commands h = refl
not_temporary rooms.Data h = refl
not_temporary rooms.Text h = refl
not_temporary rooms.Execution h = refl
not_temporary rooms.Public h = refl
not_temporary rooms.Temporary h = absurd (cc h)
not_temporary rooms.Marked h = absurd (cc h)
not_temporary rooms.Preserved h = refl

not_marked : (room : Room) → is_place room ≡ true → is_room rooms.Marked room ≡ false
not_marked rooms.Commands h = refl
not_marked rooms.Data h = refl
not_marked rooms.Text h = refl
not_marked rooms.Execution h = refl
not_marked rooms.Public h = refl
not_marked rooms.Temporary h = absurd (cc h)
not_marked rooms.Marked h = absurd (cc h)
not_marked rooms.Preserved h = refl

is_not_marked : (room : Room) → is_place room ≡ true → is_room room rooms.Marked ≡ false
is_not_marked rooms.Commands h = refl
is_not_marked rooms.Data h = refl
is_not_marked rooms.Text h = refl
is_not_marked rooms.Execution h = refl
is_not_marked rooms.Public h = refl
is_not_marked rooms.Temporary h = absurd (cc h)
is_not_marked rooms.Marked h = absurd (cc h)
is_not_marked rooms.Preserved h = refl

-- ---- the steps

abbrev pub held_at : List ℕ → Spot
held_at temp = spot rooms.Temporary temp

abbrev marker_at : List ℕ → Spot
marker_at temp = spot rooms.Marked temp

abbrev pub the_file : List ℕ → Standing → Inode
the_file bytes s = record { number = s.next; bytes = bytes }

abbrev the_marker : List ℕ → Standing → Inode
the_marker text s = record { number = suc s.next; bytes = text }

abbrev pub first_gone : List ℕ → Standing → Standing
first_gone temp s = noted (gone (held_at temp)) s

abbrev pub written : (temp bytes : List ℕ) → Standing → Standing
written temp bytes s = file_made (held_at temp) bytes (first_gone temp s)

abbrev pub written_safe : (temp bytes : List ℕ) → Standing → Standing
written_safe temp bytes s = made_safe (Some (the_file bytes s)) (written temp bytes s)

abbrev with_marker : (temp text bytes : List ℕ) → Standing → Standing
with_marker temp text bytes s = file_made (marker_at temp) text (written_safe temp bytes s)

abbrev with_marker_safe : (temp text bytes : List ℕ) → Standing → Standing
with_marker_safe temp text bytes s = made_safe (Some (the_marker text s)) (with_marker temp text bytes s)

abbrev with_marker_seen : (temp text bytes : List ℕ) → Standing → Standing
with_marker_seen temp text bytes s = after (folder_synced rooms.Marked) (with_marker_safe temp text bytes s)

abbrev in_place : (temp : List ℕ) (target : Spot) (text bytes : List ℕ) → Standing → Standing
in_place temp target text bytes s = moved (Some (the_file bytes s)) (held_at temp) target (with_marker_seen temp text bytes s)

abbrev in_place_seen : (temp : List ℕ) (target : Spot) (text bytes : List ℕ) → Standing → Standing
in_place_seen temp target text bytes s = after (folder_synced target.room) (in_place temp target text bytes s)

abbrev all_seen : (temp : List ℕ) (target : Spot) (text bytes : List ℕ) → Standing → Standing
all_seen temp target text bytes s = after (folder_synced rooms.Temporary) (in_place_seen temp target text bytes s)

-- ---- the operations come to these

abbrev from_renamed : (temp : List ℕ) (target : Spot) → List Op
from_renamed temp target = folder_synced target.room ∷ folder_synced rooms.Temporary ∷ []

abbrev from_marker : (temp : List ℕ) (target : Spot) → List Op
from_marker temp target = folder_synced rooms.Marked ∷ renamed (held_at temp) target ∷ from_renamed temp target

abbrev from_written : (temp : List ℕ) (target : Spot) (text : List ℕ) → List Op
from_written temp target text = made (marker_at temp) text ∷ synced (marker_at temp) ∷ from_marker temp target

pub written_is_safe : (temp bytes : List ℕ) (s : Standing) → after (synced (held_at temp)) (written temp bytes s) ≡ written_safe temp bytes s
written_is_safe temp bytes s =
    ap (λ b. made_safe (found_by b (put (held_at temp) (the_file bytes s)) (found (held_at temp) (gone (held_at temp) ∷ changes_of s.notes))) (written temp bytes s))
    (same_spot (held_at temp))

marker_is_safe : (temp text bytes : List ℕ) (s : Standing)
    → after (synced (marker_at temp)) (with_marker temp text bytes s) ≡ with_marker_safe temp text bytes s
marker_is_safe temp text bytes s =
    ap (λ b. made_safe (found_by b (put (marker_at temp) (the_marker text s)) (found (marker_at temp) (changes_of (written_safe temp bytes s).notes))) (with_marker temp text bytes s))
    (same_spot (marker_at temp))

is_in_place : (temp : List ℕ) (target : Spot) (text bytes : List ℕ) (s : Standing)
    → after (renamed (held_at temp) target) (with_marker_seen temp text bytes s) ≡ in_place temp target text bytes s
is_in_place temp target text bytes s =
    ap (λ b. moved (found_by b (put (held_at temp) (the_file bytes s))
    (found (held_at temp) (gone (held_at temp) ∷ changes_of (seen rooms.Marked s.notes)))) (held_at temp) target (with_marker_seen temp text bytes s))
    (same_spot (held_at temp))

-- what holds of each of these standings holds wherever it is stopped
pub each_step : (temp : List ℕ) (target : Spot) (text bytes : List ℕ) (s : Standing) (P : Standing → Type 0)
    → P s → P (first_gone temp s) → P (written temp bytes s) → P (written_safe temp bytes s) → P (with_marker temp text bytes s)
    → P (with_marker_safe temp text bytes s) → P (with_marker_seen temp text bytes s) → P (in_place temp target text bytes s)
    → P (in_place_seen temp target text bytes s) → P (all_seen temp target text bytes s)
    → AfterEach P (stored_ops temp target text bytes) s
each_step temp target text bytes s P a b c d e f g h i j = (
  a,
  (
    b,
    (
      c,
      subst (λ t. AfterEach P (from_written temp target text) t) (sym (written_is_safe temp bytes s)) (
        d,
        (
          e,
          subst (λ t. AfterEach P (from_marker temp target) t) (sym (marker_is_safe temp text bytes s)) (
            f,
            (
              g,
              subst (λ t. AfterEach P (from_renamed temp target) t) (sym (is_in_place temp target text bytes s)) (h, (i, j)),
            ),
          ),
        ),
      ),
    ),
  ),
)

pub all_steps : (temp : List ℕ) (target : Spot) (text bytes : List ℕ) (s : Standing)
    → after_all (stored_ops temp target text bytes) s ≡ all_seen temp target text bytes s
all_steps temp target text bytes s =
    ap (after_all (from_written temp target text)) (written_is_safe temp bytes s)
    ∙ ap (after_all (from_marker temp target)) (marker_is_safe temp text bytes s)
    ∙ ap (after_all (from_renamed temp target)) (is_in_place temp target text bytes s)

-- ---- before the rename

record BeforeRename (temp : List ℕ) (target : Spot) (text bytes : List ℕ) (s : Standing) : Type 0 where
  one : IsAsBefore s target (first_gone temp s)
  two : IsAsBefore s target (written temp bytes s)
  three : IsAsBefore s target (written_safe temp bytes s)
  four : IsAsBefore s target (with_marker temp text bytes s)
  five : IsAsBefore s target (with_marker_safe temp text bytes s)
  six : IsAsBefore s target (with_marker_seen temp text bytes s)

nothing_yet : (temp : List ℕ) (target : Spot) (text bytes : List ℕ) (s : Standing) → is_place target.room ≡ true → BeforeRename temp target text bytes s
nothing_yet temp target text bytes s h =
    let away : is_spot (held_at temp) target ≡ false = other_room (held_at temp) target (not_temporary target.room h) in
    let aside : is_spot (marker_at temp) target ≡ false = other_room (marker_at temp) target (not_marked target.room h) in
    let one : IsAsBefore s target (first_gone temp s) = change_elsewhere s s.next (gone (held_at temp)) target away in
    let two : IsAsBefore s target (written temp bytes s) =
    still_as_before s (first_gone temp s) (written temp bytes s) target one
    (change_elsewhere (first_gone temp s) (suc s.next) (put (held_at temp) (the_file bytes s)) target away) in
    let three : IsAsBefore s target (written_safe temp bytes s) =
    still_as_before s (written temp bytes s) (written_safe temp bytes s) target two (more_safe (written temp bytes s) (Some (the_file bytes s)) target) in
    let four : IsAsBefore s target (with_marker temp text bytes s) =
    still_as_before s (written_safe temp bytes s) (with_marker temp text bytes s) target three
    (change_elsewhere (written_safe temp bytes s) (suc (suc s.next)) (put (marker_at temp) (the_marker text s)) target aside) in
    let five : IsAsBefore s target (with_marker_safe temp text bytes s) =
    still_as_before s (with_marker temp text bytes s) (with_marker_safe temp text bytes s) target four
    (more_safe (with_marker temp text bytes s) (Some (the_marker text s)) target) in
    record {
      one = one;
      two = two;
      three = three;
      four = four;
      five = five;
      six = still_as_before s (with_marker_safe temp text bytes s) (with_marker_seen temp text bytes s) target five
          (folder_seen (with_marker_safe temp text bytes s) rooms.Marked target);
    }

-- ---- the file

placed : (temp : List ℕ) (target : Spot) (text bytes : List ℕ) (s : Standing) → is_place target.room ≡ true
    → IsBeforeOrWhole s target bytes (in_place temp target text bytes s)
placed temp target text bytes s h = λ held is.
    let away : is_spot (held_at temp) target ≡ false = other_room (held_at temp) target (not_temporary target.room h) in
    let before = with_marker_seen temp text bytes s in
    let there = noted (put target (the_file bytes s)) before in
    step held
    (put_or_before before before.next target (the_file bytes s) (inr (inl refl)) held
    (change_elsewhere there there.next (gone (held_at temp)) target away held is)) where
      step : (held : Option (List ℕ)) → MayHold (with_marker_seen temp text bytes s) target held ⊎ (held ≡ Some bytes)
          → MayHold s target held ⊎ (held ≡ Some bytes)
      step held (inl is) = inl ((nothing_yet temp target text bytes s h).six held is)
      step held (inr is) = inr is

-- its change of name is on the device
its_place_lasts : (temp : List ℕ) (target : Spot) (text bytes : List ℕ) (s : Standing) → is_place target.room ≡ true
    → Lasts (put target (the_file bytes s)) (in_place_seen temp target text bytes s).notes
its_place_lasts temp target text bytes s h =
    inr (other_room (held_at temp) target (not_temporary target.room h), inl (refl, same_room target.room))

whole_then : (temp : List ℕ) (target : Spot) (text bytes : List ℕ) (s : Standing) → is_place target.room ≡ true
    → IsWholeThere target bytes (in_place_seen temp target text bytes s)
whole_then temp target text bytes s h =
    whole_there (in_place_seen temp target text bytes s) target (the_file bytes s) (its_place_lasts temp target text bytes s h) (inr (inl refl))

whole_at_last : (temp : List ℕ) (target : Spot) (text bytes : List ℕ) (s : Standing) → is_place target.room ≡ true
    → IsWholeThere target bytes (all_seen temp target text bytes s)
whole_at_last temp target text bytes s h =
    whole_elsewhere (in_place_seen temp target text bytes s) (all_seen temp target text bytes s) target bytes
    (folder_seen (in_place_seen temp target text bytes s) rooms.Temporary target) (whole_then temp target text bytes s h)

pub whole_is_there : (temp : List ℕ) (target : Spot) (text bytes : List ℕ) (s : Standing) → is_place target.room ≡ true
    → IsWholeThere target bytes (after_all (stored_ops temp target text bytes) s)
whole_is_there temp target text bytes s h =
    subst (λ t. IsWholeThere target bytes t) (sym (all_steps temp target text bytes s)) (whole_at_last temp target text bytes s h)

-- ---- the marker

marker_stands : (temp text bytes : List ℕ) (s : Standing) → IsWholeThere (marker_at temp) text (with_marker_seen temp text bytes s)
marker_stands temp text bytes s =
    whole_there (with_marker_seen temp text bytes s) (marker_at temp) (the_marker text s) (inl (refl, refl)) (inl refl)

marker_stays : (temp : List ℕ) (target : Spot) (text bytes : List ℕ) (s : Standing) → is_place target.room ≡ true
    → IsWholeThere (marker_at temp) text (in_place temp target text bytes s)
marker_stays temp target text bytes s h =
    let before = with_marker_seen temp text bytes s in
    let there = noted (put target (the_file bytes s)) before in
    whole_elsewhere there (in_place temp target text bytes s) (marker_at temp) text
    (change_elsewhere there there.next (gone (held_at temp)) (marker_at temp) refl)
    (whole_elsewhere before there (marker_at temp) text
    (change_elsewhere before before.next (put target (the_file bytes s)) (marker_at temp)
    (other_room target (marker_at temp) (is_not_marked target.room h)))
    (marker_stands temp text bytes s))

marker_stays_then : (temp : List ℕ) (target : Spot) (text bytes : List ℕ) (s : Standing) → is_place target.room ≡ true
    → IsWholeThere (marker_at temp) text (in_place_seen temp target text bytes s)
marker_stays_then temp target text bytes s h =
    whole_elsewhere (in_place temp target text bytes s) (in_place_seen temp target text bytes s) (marker_at temp) text
    (folder_seen (in_place temp target text bytes s) target.room (marker_at temp)) (marker_stays temp target text bytes s h)

marker_stays_at_last : (temp : List ℕ) (target : Spot) (text bytes : List ℕ) (s : Standing) → is_place target.room ≡ true
    → IsWholeThere (marker_at temp) text (all_seen temp target text bytes s)
marker_stays_at_last temp target text bytes s h =
    whole_elsewhere (in_place_seen temp target text bytes s) (all_seen temp target text bytes s) (marker_at temp) text
    (folder_seen (in_place_seen temp target text bytes s) rooms.Temporary (marker_at temp)) (marker_stays_then temp target text bytes s h)

-- ---- wherever it is stopped

pub before_or_whole : (temp : List ℕ) (target : Spot) (text bytes : List ℕ) (s : Standing) → is_place target.room ≡ true
    → AfterEach (IsBeforeOrWhole s target bytes) (stored_ops temp target text bytes) s
before_or_whole temp target text bytes s h =
    let yet = nothing_yet temp target text bytes s h in
    each_step temp target text bytes s (IsBeforeOrWhole s target bytes)
    (λ held is. inl is) (λ held is. inl (yet.one held is)) (λ held is. inl (yet.two held is)) (λ held is. inl (yet.three held is))
    (λ held is. inl (yet.four held is)) (λ held is. inl (yet.five held is)) (λ held is. inl (yet.six held is))
    (placed temp target text bytes s h)
    (λ held is. inr (whole_then temp target text bytes s h held is))
    (λ held is. inr (whole_at_last temp target text bytes s h held is))

pub not_without_marker : (temp : List ℕ) (target : Spot) (text bytes : List ℕ) (s : Standing) → is_place target.room ≡ true
    → AfterEach (IsMarked s target (marker_at temp) text) (stored_ops temp target text bytes) s
not_without_marker temp target text bytes s h =
    let yet = nothing_yet temp target text bytes s h in
    each_step temp target text bytes s (IsMarked s target (marker_at temp) text)
    (inl (λ held is. is)) (inl yet.one) (inl yet.two) (inl yet.three) (inl yet.four) (inl yet.five) (inl yet.six)
    (inr (marker_stays temp target text bytes s h)) (inr (marker_stays_then temp target text bytes s h))
    (inr (marker_stays_at_last temp target text bytes s h))

pub a_file_is_stored_safely : (temp : List ℕ) (target : Spot) (text bytes : List ℕ) (s : Standing) → is_place target.room ≡ true
    → StoredSafely temp target text bytes s
a_file_is_stored_safely temp target text bytes s h = record {
  any_front = before_or_whole temp target text bytes s h;
  marked = not_without_marker temp target text bytes s h;
  whole = whole_is_there temp target text bytes s h;
}

-- ---- a file that goes

pub a_file_stays_away : (place : Spot) (s : Standing) → IsGoneThere place (after_all (unlinked place ∷ folder_synced place.room ∷ []) s)
a_file_stays_away place s =
    gone_there (after_all (unlinked place ∷ folder_synced place.room ∷ []) s) place (inl (refl, same_room place.room))

-- ---- the clauses of store

pub stays_safe : (temp : List ℕ) (target : Spot) (text bytes : List ℕ) (before now : Option (List Op))
    → FrontDone (stored_ops temp target text bytes) before now → is_place target.room ≡ true → StaysSafe target bytes before now
stays_safe temp target text bytes before now done h =
    front_told (λ s. IsBeforeOrWhole s target bytes) (stored_ops temp target text bytes)
    (λ s. before_or_whole temp target text bytes s h) before now done

pub stays_marked : (temp : List ℕ) (target : Spot) (text bytes : List ℕ) (before now : Option (List Op))
    → FrontDone (stored_ops temp target text bytes) before now → is_place target.room ≡ true → StaysMarked temp target text before now
stays_marked temp target text bytes before now done h =
    front_told (λ s. IsMarked s target (marker_at temp) text) (stored_ops temp target text bytes)
    (λ s. not_without_marker temp target text bytes s h) before now done

pub all_stays_safe : (temp : List ℕ) (target : Spot) (text bytes : List ℕ) (before now : Option (List Op))
    → now ≡ also_all (stored_ops temp target text bytes) before → is_place target.room ≡ true → StaysSafe target bytes before now
all_stays_safe temp target text bytes before now e h =
    all_told (λ s. IsBeforeOrWhole s target bytes) (stored_ops temp target text bytes)
    (λ s. before_or_whole temp target text bytes s h) before now e

pub all_stays_marked : (temp : List ℕ) (target : Spot) (text bytes : List ℕ) (before now : Option (List Op))
    → now ≡ also_all (stored_ops temp target text bytes) before → is_place target.room ≡ true → StaysMarked temp target text before now
all_stays_marked temp target text bytes before now e h =
    all_told (λ s. IsMarked s target (marker_at temp) text) (stored_ops temp target text bytes)
    (λ s. not_without_marker temp target text bytes s h) before now e

pub is_there : (temp : List ℕ) (target : Spot) (text bytes : List ℕ) (before now : Option (List Op))
    → now ≡ also_all (stored_ops temp target text bytes) before → is_place target.room ≡ true → Told (IsWholeThere target bytes) now
is_there temp target text bytes before now e h =
    last_told (IsWholeThere target bytes) (stored_ops temp target text bytes)
    (λ s. whole_is_there temp target text bytes s h) before now e
