-- What a power cut leaves of a file that another system sends.
use Rattle.std.proofs.Common.{◌≡◌, ◌⊎◌, inl, inr, ◌||◌, ℕ, Bool, true, false, List, [], ◌∷◌, ◌++◌, Option, Some, None, refl, if◌then◌else◌}
use Rattle.uug_taylor_text.specs.Operations.{folder_synced}
use Rattle.uug_taylor_text.specs.SpoolNames.{spot}
use Rattle.uug_taylor_text.specs.Standings.{AfterEach, IsAsBefore, IsBeforeOrWhole, MayHold, Standing, after_all, gone, is_room}
use Rattle.uug_taylor_text.specs.StoredSafely.{is_place}
use Rattle.uug_taylor_text.specs.declared.spool_names.Room.{Room}
use Rattle.uug_taylor_text.specs.declared.spool_names.Room.TheVariants as rooms
use Rattle.uug_taylor_text.specs.declared.spool_names.Spot.{Spot}
use Rattle.uug_taylor_text.proofs.StandingLemmas.{as_before_both, change_elsewhere, each_of_both, each_weaker, folder_seen, last_of_each, nothing_done, other_room}
use Rattle.uug_taylor_text.proofs.StoredSafelyLemmas.{before_or_whole}
use Rattle.uug_taylor_queue.specs.Places.{temp_name}
use Rattle.uug_taylor_queue.specs.Placing.{again_ops, end_ops, is_mark, keeps, mark_ops, marker_text, seen_ops, unmark_ops}
use Rattle.uug_taylor_queue.specs.declared.marks.Marks.{Marks}

no_marker : (room : Room) → is_place room ≡ true → is_room rooms.Marked room ≡ false
no_marker rooms.Commands h = refl
no_marker rooms.Data h = refl
no_marker rooms.Text h = refl
no_marker rooms.Execution h = refl
no_marker rooms.Public h = refl
no_marker rooms.Temporary h = absurd (cc h)
no_marker rooms.Marked h = absurd (cc h)
no_marker rooms.Preserved h = refl

mark_elsewhere : (mark : Option (List ℕ)) (place : Spot) (s : Standing) → is_place place.room ≡ true
    → AfterEach (IsAsBefore s place) (mark_ops mark) s
mark_elsewhere None place s h = nothing_done s place
mark_elsewhere (Some mark) place s h = (
  nothing_done s place,
  change_elsewhere s s.next (gone (spot rooms.Marked mark)) place (other_room (spot rooms.Marked mark) place (no_marker place.room h)),
)

ends_elsewhere : (marks : Marks) (place : Spot) (s : Standing) → is_place place.room ≡ true
    → AfterEach (IsAsBefore s place) (end_ops marks) s
ends_elsewhere marks place s h =
    as_before_both place (mark_ops marks.before) (mark_ops marks.last) s
    (mark_elsewhere marks.before place s h)
    (mark_elsewhere marks.last place (after_all (mark_ops marks.before) s) h)

seen_elsewhere : (marks : Marks) (name : List ℕ) (place : Spot) (s : Standing) → AfterEach (IsAsBefore s place) (seen_ops marks name) s
seen_elsewhere marks name place s = step (is_mark marks.before name || is_mark marks.last name) where
  step : (b : Bool) → AfterEach (IsAsBefore s place) (if b then folder_synced rooms.Marked ∷ [] else []) s
  step true = (nothing_done s place, folder_seen s rooms.Marked place)
  step false = nothing_done s place

unmarked_elsewhere : (marks : Marks) (room : Room) (name : List ℕ) (place : Spot) (s : Standing) → is_place place.room ≡ true
    → AfterEach (IsAsBefore s place) (unmark_ops marks room name) s
unmarked_elsewhere marks room name place s h = step (keeps room marks.last) where
  step : (b : Bool) → AfterEach (IsAsBefore s place) (if b then [] else end_ops marks ++ seen_ops marks name) s
  step true = nothing_done s place
  step false =
      as_before_both place (end_ops marks) (seen_ops marks name) s (ends_elsewhere marks place s h)
      (seen_elsewhere marks name place (after_all (end_ops marks) s))

stored_or_dropped : (again : Bool) (bytes : List ℕ) (place : Spot) (s : Standing) → is_place place.room ≡ true
    → AfterEach (IsBeforeOrWhole s place bytes) (again_ops again bytes place) s
stored_or_dropped true bytes place s h = λ held is. inl is
stored_or_dropped false bytes place s h = before_or_whole (temp_name place) place (marker_text place bytes) bytes s h

pub comes_whole : (marks : Marks) (again : Bool) (name bytes : List ℕ) (place : Spot) (s : Standing) → is_place place.room ≡ true
    → AfterEach (IsBeforeOrWhole s place bytes) (unmark_ops marks place.room name ++ again_ops again bytes place) s
comes_whole marks again name bytes place s h =
    each_of_both (IsBeforeOrWhole s place bytes) (unmark_ops marks place.room name) (again_ops again bytes place) s
    (each_weaker (IsAsBefore s place) (IsBeforeOrWhole s place bytes) (λ t same held is. inl (same held is)) (unmark_ops marks place.room name) s marker)
    (each_weaker (IsBeforeOrWhole unmarked place bytes) (IsBeforeOrWhole s place bytes) (λ t whole held is. step held (whole held is))
    (again_ops again bytes place) unmarked (stored_or_dropped again bytes place unmarked h)) where
      unmarked : Standing
      unmarked = after_all (unmark_ops marks place.room name) s

      marker : AfterEach (IsAsBefore s place) (unmark_ops marks place.room name) s
      marker = unmarked_elsewhere marks place.room name place s h

      step : (held : Option (List ℕ)) → MayHold unmarked place held ⊎ (held ≡ Some bytes) → MayHold s place held ⊎ (held ≡ Some bytes)
      step held (inl is) = inl (last_of_each (IsAsBefore s place) (unmark_ops marks place.room name) s marker held is)
      step held (inr is) = inr is
