-- What a power cut leaves where jobs are over.
use Rattle.std.proofs.Common.{◌≡◌, inl, inr, ◌&&◌, ◌||◌, ℕ, Bool, true, false, List, [], ◌∷◌, ◌++◌, codes, Option, Some, None, refl, sym, ap, subst, ◌∙◌, if◌then◌else◌}
use Rattle.std.proofs.Math.Bool.{or-true}
use Rattle.std.proofs.lemmas.List.Folds.{list_any-append}
use Rattle.std.proofs.lemmas.Slice.Eq.{bytes_eq-Decides}
use Rattle.std.specs.Str.{bytes_eq}
use Rattle.uug_taylor_text.specs.Operations.{FrontDone, Op, also_all, folder_synced, unlinked}
use Rattle.uug_taylor_text.specs.SpoolNames.{begins_with, data_spot, spot}
use Rattle.uug_taylor_text.specs.Standings.{AfterEach, IsAsBefore, IsBehind, IsGoneThere, Standing, Told, ToldSince, after, after_all, changes_of, found, gone, is_room, is_spot, moved, noted}
use Rattle.uug_taylor_text.specs.declared.spool_names.Room.TheVariants as rooms
use Rattle.uug_taylor_text.specs.declared.spool_names.Spot.{Spot}
use Rattle.uug_taylor_text.proofs.StandingLemmas.{after_both, all_told, as_before_both, change_elsewhere, each_of_both, each_weaker, folder_seen, found_here, front_told, gone_elsewhere, gone_when_seen, last_of_each, last_told, moved_away, moved_elsewhere, nothing_done, same_spot, seen_changes, still_as_before}
use Rattle.uug_taylor_queue.specs.OverOrder.{copy_ops, file_ops, has_copy, has_line, is_of, over_ops, preserved_ops, removed_ops, settled_ops}
use Rattle.uug_taylor_queue.specs.declared.open_line.OpenLine.{OpenLine}
use Rattle.uug_taylor_queue.specs.declared.open_line.Outcome.{Outcome}
use Rattle.uug_taylor_queue.specs.declared.open_line.Outcome.TheVariants.{Done, Failed}

-- ---- places

abbrev data_by : Bool → List ℕ → Spot
data_by text name = if text then spot rooms.Text name else spot rooms.Data name

data_name : (name : List ℕ) → (data_spot name).name ≡ name
data_name name = step (begins_with (codes "D.X") name) where
  step : (b : Bool) → (data_by b name).name ≡ name
  step true = refl
  step false = refl

no_job : (name file : List ℕ) → is_spot (data_spot name) (spot rooms.Commands file) ≡ false
no_job name file = step (begins_with (codes "D.X") name) where
  step : (b : Bool) → is_spot (data_by b name) (spot rooms.Commands file) ≡ false
  step true = refl
  step false = refl

no_data : (file name : List ℕ) → is_spot (spot rooms.Commands file) (data_spot name) ≡ false
no_data file name = step (begins_with (codes "D.X") name) where
  step : (b : Bool) → is_spot (spot rooms.Commands file) (data_by b name) ≡ false
  step true = refl
  step false = refl

both_true : (a b : Bool) → (a && b) ≡ true → b ≡ true
both_true true b e = e
both_true false b e = absurd (cc e)

same_name : (spot other : Spot) → is_spot spot other ≡ true → spot.name ≡ other.name
same_name spot other e = (bytes_eq-Decides spot.name other.name).0 (both_true (is_room spot.room other.room) (bytes_eq spot.name other.name) e)

other_data : (k c : List ℕ) (others : List OpenLine) → has_copy k others ≡ false → has_copy c others ≡ true
    → is_spot (data_spot k) (data_spot c) ≡ false
other_data k c others none some = step (is_spot (data_spot k) (data_spot c)) refl where
  step : (b : Bool) → is_spot (data_spot k) (data_spot c) ≡ b → b ≡ false
  step false e = refl
  step true e =
      let is : k ≡ c = sym (data_name k) ∙ same_name (data_spot k) (data_spot c) e ∙ data_name c in
      absurd (cc (sym none ∙ ap (λ name. has_copy name others) is ∙ some))

other_file : (f g : List ℕ) (others : List OpenLine) → has_line f others ≡ false → has_line g others ≡ true
    → is_spot (spot rooms.Commands f) (spot rooms.Commands g) ≡ false
other_file f g others none some = step (is_spot (spot rooms.Commands f) (spot rooms.Commands g)) refl where
  step : (b : Bool) → is_spot (spot rooms.Commands f) (spot rooms.Commands g) ≡ b → b ≡ false
  step false e = refl
  step true e =
      let is : f ≡ g = same_name (spot rooms.Commands f) (spot rooms.Commands g) e in
      absurd (cc (sym none ∙ ap (λ name. has_line name others) is ∙ some))

-- ---- what is done elsewhere

removed_elsewhere : (d place : Spot) (s : Standing) → is_spot d place ≡ false → AfterEach (IsAsBefore s place) (removed_ops d) s
removed_elsewhere d place s e =
    let one = change_elsewhere s s.next (gone d) place e in
    let gone_now = noted (gone d) s in (
      nothing_done s place,
      (
        one,
        still_as_before s gone_now (after_all (removed_ops d) s) place one (folder_seen gone_now d.room place),
      ),
    )

preserved_elsewhere : (d place : Spot) (s : Standing) → is_spot d place ≡ false → is_spot (spot rooms.Preserved d.name) place ≡ false
    → AfterEach (IsAsBefore s place) (preserved_ops d) s
preserved_elsewhere d place s e f =
    let kept = spot rooms.Preserved d.name in
    let s1 = moved (found d (changes_of s.notes)) d kept s in
    let one : IsAsBefore s place s1 = moved_elsewhere s (found d (changes_of s.notes)) d kept place e f in
    let s2 = after (folder_synced rooms.Preserved) s1 in
    let two : IsAsBefore s place s2 = still_as_before s s1 s2 place one (folder_seen s1 rooms.Preserved place) in (
      nothing_done s place,
      (
        one,
        (
          two,
          still_as_before s s2 (after (folder_synced d.room) s2) place two (folder_seen s2 d.room place),
        ),
      ),
    )

file_gone : (file : List ℕ) (place : Spot) (s : Standing) → is_spot (spot rooms.Commands file) place ≡ false
    → (b : Bool) → AfterEach (IsAsBefore s place) (if b then [] else unlinked (spot rooms.Commands file) ∷ []) s
file_gone file place s e true = nothing_done s place
file_gone file place s e false = (nothing_done s place, change_elsewhere s s.next (gone (spot rooms.Commands file)) place e)

-- ---- the copy of a line that stays

copy_part : (copy : Option (List ℕ)) (others : List OpenLine) (c : List ℕ) (s : Standing) → has_copy c others ≡ true
    → AfterEach (IsAsBefore s (data_spot c)) (copy_ops Done copy others) s
copy_part None others c s some = nothing_done s (data_spot c)
copy_part (Some k) others c s some = step (has_copy k others) refl where
  step : (b : Bool) → has_copy k others ≡ b → AfterEach (IsAsBefore s (data_spot c)) (if b then [] else removed_ops (data_spot k)) s
  step true e = nothing_done s (data_spot c)
  step false e = removed_elsewhere (data_spot k) (data_spot c) s (other_data k c others e some)

copy_stays_once : (line : OpenLine) (others : List OpenLine) (c : List ℕ) (s : Standing) → has_copy c others ≡ true
    → AfterEach (IsAsBefore s (data_spot c)) (settled_ops Done line others) s
copy_stays_once line others c s some =
    as_before_both (data_spot c) (copy_ops Done line.copy others) (file_ops line.file others) s
    (copy_part line.copy others c s some)
    (file_gone line.file (data_spot c) (after_all (copy_ops Done line.copy others) s) (no_data line.file c) (has_line line.file others))

still_has_copy : (c : List ℕ) (more others : List OpenLine) → has_copy c others ≡ true → has_copy c (more ++ others) ≡ true
still_has_copy c more others some =
    list_any-append (λ (line : OpenLine). is_of c line.copy) more others ∙ ap (λ b. has_copy c more || b) some ∙ or-true (has_copy c more)

pub copy_stays : (over others : List OpenLine) (c : List ℕ) (s : Standing) → has_copy c others ≡ true
    → AfterEach (IsAsBefore s (data_spot c)) (over_ops Done over others) s
copy_stays [] others c s some = nothing_done s (data_spot c)
copy_stays (line ∷ more) others c s some =
    as_before_both (data_spot c) (settled_ops Done line (more ++ others)) (over_ops Done more others) s
    (copy_stays_once line (more ++ others) c s (still_has_copy c more others some))
    (copy_stays more others c (after_all (settled_ops Done line (more ++ others)) s) some)

-- ---- the C. file of a line that stays

copy_aside : (outcome : Outcome) (copy : Option (List ℕ)) (others : List OpenLine) (file : List ℕ) (s : Standing)
    → AfterEach (IsAsBefore s (spot rooms.Commands file)) (copy_ops outcome copy others) s
copy_aside outcome None others file s = nothing_done s (spot rooms.Commands file)
copy_aside Done (Some k) others file s = step (has_copy k others) where
  step : (b : Bool) → AfterEach (IsAsBefore s (spot rooms.Commands file)) (if b then [] else removed_ops (data_spot k)) s
  step true = nothing_done s (spot rooms.Commands file)
  step false = removed_elsewhere (data_spot k) (spot rooms.Commands file) s (no_job k file)
copy_aside Failed (Some k) others file s = preserved_elsewhere (data_spot k) (spot rooms.Commands file) s (no_job k file) refl

file_part : (file : List ℕ) (others : List OpenLine) (f : List ℕ) (s : Standing) → has_line f others ≡ true
    → AfterEach (IsAsBefore s (spot rooms.Commands f)) (file_ops file others) s
file_part file others f s some = step (has_line file others) refl where
  step : (b : Bool) → has_line file others ≡ b
      → AfterEach (IsAsBefore s (spot rooms.Commands f)) (if b then [] else unlinked (spot rooms.Commands file) ∷ []) s
  step true e = nothing_done s (spot rooms.Commands f)
  step false e = file_gone file (spot rooms.Commands f) s (other_file file f others e some) false

still_has_line : (f : List ℕ) (more others : List OpenLine) → has_line f others ≡ true → has_line f (more ++ others) ≡ true
still_has_line f more others some =
    list_any-append (λ (line : OpenLine). bytes_eq line.file f) more others ∙ ap (λ b. has_line f more || b) some ∙ or-true (has_line f more)

pub file_stays : (outcome : Outcome) (over others : List OpenLine) (f : List ℕ) (s : Standing) → has_line f others ≡ true
    → AfterEach (IsAsBefore s (spot rooms.Commands f)) (over_ops outcome over others) s
file_stays outcome [] others f s some = nothing_done s (spot rooms.Commands f)
file_stays outcome (line ∷ more) others f s some =
    let rest = more ++ others in
    let still = still_has_line f more others some in
    as_before_both (spot rooms.Commands f) (settled_ops outcome line rest) (over_ops outcome more others) s
    (as_before_both (spot rooms.Commands f) (copy_ops outcome line.copy rest) (file_ops line.file rest) s
    (copy_aside outcome line.copy rest f s)
    (file_part line.file rest f (after_all (copy_ops outcome line.copy rest) s) still))
    (file_stays outcome more others f (after_all (settled_ops outcome line rest) s) some)

-- ---- the copy of a line that is over

gone_removed : (d : Spot) (s : Standing) → IsGoneThere d (after_all (removed_ops d) s)
gone_removed d s = gone_when_seen (noted (gone d) s) d (found_here d (gone d) (changes_of s.notes) (same_spot d))

gone_preserved : (d : Spot) (s : Standing) → IsGoneThere d (after_all (preserved_ops d) s)
gone_preserved d s =
    let kept = spot rooms.Preserved d.name in
    let s1 = moved (found d (changes_of s.notes)) d kept s in
    gone_when_seen (after (folder_synced rooms.Preserved) s1) d
    (ap (found d) (seen_changes rooms.Preserved s1.notes) ∙ moved_away s (found d (changes_of s.notes)) d kept refl)

copy_is_gone : (outcome : Outcome) (copy : List ℕ) (others : List OpenLine) (s : Standing) → has_copy copy others ≡ false
    → IsGoneThere (data_spot copy) (after_all (copy_ops outcome (Some copy) others) s)
copy_is_gone Done copy others s none =
    subst (λ b. IsGoneThere (data_spot copy) (after_all (if b then [] else removed_ops (data_spot copy)) s)) (sym none) (gone_removed (data_spot copy) s)
copy_is_gone Failed copy others s none = gone_preserved (data_spot copy) s

still_gone : (copy file : List ℕ) (s : Standing) → IsGoneThere (data_spot copy) s → (b : Bool)
    → AfterEach (IsGoneThere (data_spot copy)) (if b then [] else unlinked (spot rooms.Commands file) ∷ []) s
still_gone copy file s is true = is
still_gone copy file s is false = (
  is,
  gone_elsewhere s (noted (gone (spot rooms.Commands file)) s) (data_spot copy)
      (change_elsewhere s s.next (gone (spot rooms.Commands file)) (data_spot copy) (no_data file copy)) is,
)

-- the C. file goes behind its copy
pub file_goes_behind : (outcome : Outcome) (line : OpenLine) (copy : List ℕ) (others : List OpenLine) (s : Standing) → line.copy ≡ Some copy
    → has_copy copy others ≡ false → AfterEach (IsBehind s (spot rooms.Commands line.file) (data_spot copy)) (settled_ops outcome line others) s
file_goes_behind outcome line copy others s is none =
    subst (λ (c : Option (List ℕ)). AfterEach P (copy_ops outcome c others ++ file_ops line.file others) s) (sym is)
    (each_of_both P (copy_ops outcome (Some copy) others) (file_ops line.file others) s
    (each_weaker (IsAsBefore s (spot rooms.Commands line.file)) P (λ t h. inl h) (copy_ops outcome (Some copy) others) s
    (copy_aside outcome (Some copy) others line.file s))
    (each_weaker (IsGoneThere (data_spot copy)) P (λ t h. inr h) (file_ops line.file others) (after_all (copy_ops outcome (Some copy) others) s)
    (still_gone copy line.file (after_all (copy_ops outcome (Some copy) others) s) (copy_is_gone outcome copy others s none) (has_line line.file others)))) where
      P : Standing → Type 0
      P t = IsBehind s (spot rooms.Commands line.file) (data_spot copy) t

pub copy_goes : (outcome : Outcome) (line : OpenLine) (copy : List ℕ) (others : List OpenLine) (s : Standing) → line.copy ≡ Some copy
    → has_copy copy others ≡ false → IsGoneThere (data_spot copy) (after_all (settled_ops outcome line others) s)
copy_goes outcome line copy others s is none =
    subst (λ (c : Option (List ℕ)). IsGoneThere (data_spot copy) (after_all (copy_ops outcome c others ++ file_ops line.file others) s)) (sym is)
    (subst (λ t. IsGoneThere (data_spot copy) t) (sym (after_both (copy_ops outcome (Some copy) others) (file_ops line.file others) s))
    (last_of_each (IsGoneThere (data_spot copy)) (file_ops line.file others) (after_all (copy_ops outcome (Some copy) others) s)
    (still_gone copy line.file (after_all (copy_ops outcome (Some copy) others) s) (copy_is_gone outcome copy others s none) (has_line line.file others))))

-- ---- the clauses of settle

pub front_behind_copy : (outcome : Outcome) (line : OpenLine) (others : List OpenLine) (before now : Option (List Op))
    → FrontDone (settled_ops outcome line others) before now → (copy : List ℕ) → line.copy ≡ Some copy → has_copy copy others ≡ false
    → ToldSince (λ s. IsBehind s (spot rooms.Commands line.file) (data_spot copy)) before now
front_behind_copy outcome line others before now done copy is none =
    front_told (λ s. IsBehind s (spot rooms.Commands line.file) (data_spot copy)) (settled_ops outcome line others)
    (λ s. file_goes_behind outcome line copy others s is none) before now done

pub all_behind_copy : (outcome : Outcome) (line : OpenLine) (others : List OpenLine) (before now : Option (List Op))
    → now ≡ also_all (settled_ops outcome line others) before → (copy : List ℕ) → line.copy ≡ Some copy → has_copy copy others ≡ false
    → ToldSince (λ s. IsBehind s (spot rooms.Commands line.file) (data_spot copy)) before now
all_behind_copy outcome line others before now e copy is none =
    all_told (λ s. IsBehind s (spot rooms.Commands line.file) (data_spot copy)) (settled_ops outcome line others)
    (λ s. file_goes_behind outcome line copy others s is none) before now e

pub copy_goes_for_good : (outcome : Outcome) (line : OpenLine) (others : List OpenLine) (before now : Option (List Op))
    → now ≡ also_all (settled_ops outcome line others) before → (copy : List ℕ) → line.copy ≡ Some copy → has_copy copy others ≡ false
    → Told (IsGoneThere (data_spot copy)) now
copy_goes_for_good outcome line others before now e copy is none =
    last_told (IsGoneThere (data_spot copy)) (settled_ops outcome line others) (λ s. copy_goes outcome line copy others s is none) before now e
