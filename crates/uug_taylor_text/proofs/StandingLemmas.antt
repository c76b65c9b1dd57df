-- What a power cut leaves.
use Rattle.std.proofs.Common.{◌≡◌, ◌⊎◌, inl, inr, ◌&&◌, ◌||◌, ℕ, Bool, true, false, List, [], ◌∷◌, ◌++◌, Option, Some, None, refl, sym, ap, subst, ◌∙◌, append_assoc}
use Rattle.std.proofs.lemmas.Bool.Decides.{Decides-eqb}
use Rattle.std.proofs.lemmas.Slice.Eq.{bytes_eq-Decides}
use Rattle.std.specs.Str.{bytes_eq}
use Rattle.std.proofs.lemmas.List.{append-nil}
use Rattle.uug_taylor_text.specs.Operations.{FrontDone, Op, also_all, also_done}
use Rattle.uug_taylor_text.specs.Standings.{AfterEach, Change, Inode, IsAsBefore, IsGoneThere, IsIn, IsWholeThere, MayHold, Noted, Shows, Standing, Survive, Told, ToldSince, after, after_all, changes_of, file_of, found, found_by, gone, is_room, is_spot, made_safe, moved, no_folders, noted, place_of, put, room_number, seen}
use Rattle.uug_taylor_text.specs.declared.spool_names.Room.{Room}
use Rattle.uug_taylor_text.specs.declared.spool_names.Spot.{Spot}

-- ---- places

pub same_room : (room : Room) → is_room room room ≡ true
same_room room = (Decides-eqb (room_number room) (room_number room)).1 refl

pub same_spot : (spot : Spot) → is_spot spot spot ≡ true
same_spot spot =
    ap (λ b. b && bytes_eq spot.name spot.name) (same_room spot.room) ∙ (bytes_eq-Decides spot.name spot.name).1 refl

pub other_room : (spot other : Spot) → is_room spot.room other.room ≡ false → is_spot spot other ≡ false
other_room spot other e = ap (λ b. b && bytes_eq spot.name other.name) e

pub found_elsewhere : (spot : Spot) (change : Change) (more : List Change) → is_spot (place_of change) spot ≡ false
    → found spot (change ∷ more) ≡ found spot more
found_elsewhere spot change more e = ap (λ b. found_by b change (found spot more)) e

pub found_here : (spot : Spot) (change : Change) (more : List Change) → is_spot (place_of change) spot ≡ true
    → found spot (change ∷ more) ≡ file_of change
found_here spot change more e = ap (λ b. found_by b change (found spot more)) e

-- ---- a place at which nothing is done

pub still_as_before : (a b c : Standing) (spot : Spot) → IsAsBefore a spot b → IsAsBefore b spot c → IsAsBefore a spot c
still_as_before a b c spot first second = λ held h. first held (second held h)

pub nothing_done : (s : Standing) (spot : Spot) → IsAsBefore s spot s
nothing_done s spot = λ held h. h

less_survives : (next : ℕ) (change : Change) (notes : List Noted) (safe : List ℕ) (spot : Spot) → is_spot (place_of change) spot ≡ false
    → (held : Option (List ℕ)) (cs : List Change) → Survive ((record { change = change; durable = false }) ∷ notes) cs → Shows safe (found spot cs) held
    → MayHold (record { next = next; notes = notes; safe = safe }) spot held
less_survives next change notes safe spot e held cs (inl h) shows = record { changes = cs; survive = h.1; shows = shows }
less_survives next change notes safe spot e held cs (inr h) shows = record {
  changes = h.0;
  survive = h.2;
  shows = subst (λ file. Shows safe file held) (ap (found spot) h.1 ∙ found_elsewhere spot change h.0 e) shows;
}

-- a change elsewhere, whatever number the next file gets
pub change_elsewhere : (s : Standing) (next : ℕ) (change : Change) (spot : Spot) → is_spot (place_of change) spot ≡ false
    → IsAsBefore s spot (record { next = next; notes = (record { change = change; durable = false }) ∷ s.notes; safe = s.safe })
change_elsewhere s next change spot e = λ held h.
    let less = less_survives next change s.notes s.safe spot e held h.changes h.survive h.shows in
    record { changes = less.changes; survive = less.survive; shows = less.shows }

more_shown : (n : ℕ) (safe : List ℕ) (file : Option Inode) (held : Option (List ℕ)) → Shows (n ∷ safe) file held → Shows safe file held
more_shown n safe None None h = h
more_shown n safe None (Some text) h = h
more_shown n safe (Some inode) None h = h
more_shown n safe (Some inode) (Some text) h = λ is. h (inr is)

-- the bytes of one file more are on the device
pub more_safe : (s : Standing) (file : Option Inode) (spot : Spot) → IsAsBefore s spot (made_safe file s)
more_safe s None spot = λ held h. h
more_safe s (Some inode) spot = λ held h.
    record { changes = h.changes; survive = h.survive; shows = more_shown inode.number s.safe (found spot h.changes) held h.shows }

was_not : (a b : Bool) → (a || b) ≡ false → a ≡ false
was_not true b e = absurd (cc e)
was_not false b e = refl

more_survive : (room : Room) (ns : List Noted) (cs : List Change) → Survive (seen room ns) cs → Survive ns cs
more_survive room [] cs h = h
more_survive room (n ∷ ns) cs (inl h) =
    inl (was_not n.durable (is_room (place_of n.change).room room) h.0, more_survive room ns cs h.1)
more_survive room (n ∷ ns) cs (inr h) = inr (h.0, h.1, more_survive room ns h.0 h.2)

-- the changes of a folder are on the device
pub folder_seen : (s : Standing) (room : Room) (spot : Spot)
    → IsAsBefore s spot (record { next = s.next; notes = seen room s.notes; safe = s.safe })
folder_seen s room spot = λ held h.
    record { changes = h.changes; survive = more_survive room s.notes h.changes h.survive; shows = h.shows }

-- ---- what stays

-- this is the last change of its place, and it was seen on the device
abbrev pub Lasts : Change → List Noted → Type 0
Lasts change [] = ⊥
Lasts change (n ∷ ns) =
    ((n.change ≡ change) × (n.durable ≡ true)) ⊎ ((is_spot (place_of n.change) (place_of change) ≡ false) × Lasts change ns)

pub lasts_and_is_found : (change : Change) (ns : List Noted) (cs : List Change) → Lasts change ns → Survive ns cs
    → found (place_of change) cs ≡ file_of change
lasts_and_is_found change [] cs last sv = absurd last
lasts_and_is_found change (n ∷ ns) cs (inl last) (inl sv) = absurd (cc (sym last.1 ∙ sv.0))
lasts_and_is_found change (n ∷ ns) cs (inl last) (inr sv) =
    ap (found (place_of change)) (sv.1 ∙ ap (λ (c : Change). c ∷ sv.0) last.0)
    ∙ found_here (place_of change) change sv.0 (same_spot (place_of change))
lasts_and_is_found change (n ∷ ns) cs (inr last) (inl sv) = lasts_and_is_found change ns cs last.1 sv.1
lasts_and_is_found change (n ∷ ns) cs (inr last) (inr sv) =
    ap (found (place_of change)) sv.1 ∙ found_elsewhere (place_of change) n.change sv.0 last.0
    ∙ lasts_and_is_found change ns sv.0 last.1 sv.2

shown_whole : (safe : List ℕ) (inode : Inode) (held : Option (List ℕ)) → Shows safe (Some inode) held → IsIn inode.number safe → held ≡ Some inode.bytes
shown_whole safe inode None h is = absurd h
shown_whole safe inode (Some text) h is = ap Some (h is)

shown_none : (safe : List ℕ) (held : Option (List ℕ)) → Shows safe None held → held ≡ None
shown_none safe None h = refl
shown_none safe (Some text) h = absurd h

pub whole_there : (s : Standing) (spot : Spot) (inode : Inode) → Lasts (put spot inode) s.notes → IsIn inode.number s.safe
    → IsWholeThere spot inode.bytes s
whole_there s spot inode last is = λ held h.
    shown_whole s.safe inode held
    (subst (λ file. Shows s.safe file held) (lasts_and_is_found (put spot inode) s.notes h.changes last h.survive) h.shows) is

pub gone_there : (s : Standing) (spot : Spot) → Lasts (gone spot) s.notes → IsGoneThere spot s
gone_there s spot last = λ held h.
    shown_none s.safe held
    (subst (λ file. Shows s.safe file held) (lasts_and_is_found (gone spot) s.notes h.changes last h.survive) h.shows)

pub whole_elsewhere : (a b : Standing) (spot : Spot) (bytes : List ℕ) → IsAsBefore a spot b → IsWholeThere spot bytes a → IsWholeThere spot bytes b
whole_elsewhere a b spot bytes same whole = λ held h. whole held (same held h)

pub gone_elsewhere : (a b : Standing) (spot : Spot) → IsAsBefore a spot b → IsGoneThere spot a → IsGoneThere spot b
gone_elsewhere a b spot same is_gone = λ held h. is_gone held (same held h)

-- ---- a file that gets its place

-- it is there, or what was before
pub put_or_before : (s : Standing) (next : ℕ) (spot : Spot) (inode : Inode) → IsIn inode.number s.safe → (held : Option (List ℕ))
    → MayHold (record { next = next; notes = (record { change = put spot inode; durable = false }) ∷ s.notes; safe = s.safe }) spot held
    → MayHold s spot held ⊎ (held ≡ Some inode.bytes)
put_or_before s next spot inode is held h = step h.changes h.survive h.shows where
  step : (cs : List Change) → Survive ((record { change = put spot inode; durable = false }) ∷ s.notes) cs → Shows s.safe (found spot cs) held
      → MayHold s spot held ⊎ (held ≡ Some inode.bytes)
  step cs (inl sv) shows = inl (record { changes = cs; survive = sv.1; shows = shows })
  step cs (inr sv) shows =
      inr (shown_whole s.safe inode held
      (subst (λ file. Shows s.safe file held) (ap (found spot) sv.1 ∙ found_here spot (put spot inode) sv.0 (same_spot spot)) shows) is)

-- ---- a file that may get another place

pub moved_elsewhere : (s : Standing) (file : Option Inode) (from to spot : Spot) → is_spot from spot ≡ false → is_spot to spot ≡ false
    → IsAsBefore s spot (moved file from to s)
moved_elsewhere s None from to spot e f = λ held h. h
moved_elsewhere s (Some inode) from to spot e f =
    let there = noted (put to inode) s in
    still_as_before s there (noted (gone from) there) spot (change_elsewhere s s.next (put to inode) spot f)
    (change_elsewhere there there.next (gone from) spot e)

pub moved_away : (s : Standing) (file : Option Inode) (from to : Spot) → found from (changes_of s.notes) ≡ file
    → found from (changes_of (moved file from to s).notes) ≡ None
moved_away s None from to e = e
moved_away s (Some inode) from to e = found_here from (gone from) (put to inode ∷ changes_of s.notes) (same_spot from)

-- ---- a folder that was seen on the device

pub seen_changes : (room : Room) (ns : List Noted) → changes_of (seen room ns) ≡ changes_of ns
seen_changes room [] = refl
seen_changes room (n ∷ ns) = ap (λ (cs : List Change). n.change ∷ cs) (seen_changes room ns)

nor_right : (a b : Bool) → (a || b) ≡ false → b ≡ false
nor_right true b e = absurd (cc e)
nor_right false b e = e

-- has what was seen there
seen_is_found : (spot : Spot) (ns : List Noted) (cs : List Change) → Survive (seen spot.room ns) cs → found spot cs ≡ found spot (changes_of ns)
seen_is_found spot [] cs h = ap (found spot) h
seen_is_found spot (n ∷ ns) cs (inl h) =
    seen_is_found spot ns cs h.1
    ∙ sym (found_elsewhere spot n.change (changes_of ns)
    (other_room (place_of n.change) spot (nor_right n.durable (is_room (place_of n.change).room spot.room) h.0)))
seen_is_found spot (n ∷ ns) cs (inr h) =
    ap (found spot) h.1 ∙ ap (found_by (is_spot (place_of n.change) spot) n.change) (seen_is_found spot ns h.0 h.2)

pub gone_when_seen : (s : Standing) (spot : Spot) → found spot (changes_of s.notes) ≡ None
    → IsGoneThere spot (record { next = s.next; notes = seen spot.room s.notes; safe = s.safe })
gone_when_seen s spot e = λ held h.
    shown_none s.safe held
    (subst (λ file. Shows s.safe file held) (seen_is_found spot s.notes h.changes h.survive ∙ e) h.shows)

-- ---- wherever it is stopped

pub each_weaker : (P Q : Standing → Type 0) → ((t : Standing) → P t → Q t) → (ops : List Op) (s : Standing) → AfterEach P ops s → AfterEach Q ops s
each_weaker P Q f [] s h = f s h
each_weaker P Q f (op ∷ ops) s h = (f s h.0, each_weaker P Q f ops (after op s) h.1)

pub each_of_both : (P : Standing → Type 0) (xs ys : List Op) (s : Standing) → AfterEach P xs s → AfterEach P ys (after_all xs s) → AfterEach P (xs ++ ys) s
each_of_both P [] ys s h k = k
each_of_both P (x ∷ xs) ys s h k = (h.0, each_of_both P xs ys (after x s) h.1 k)

pub last_of_each : (P : Standing → Type 0) (ops : List Op) (s : Standing) → AfterEach P ops s → P (after_all ops s)
last_of_each P [] s h = h
last_of_each P (op ∷ ops) s h = last_of_each P ops (after op s) h.1

pub as_before_both : (spot : Spot) (xs ys : List Op) (s : Standing) → AfterEach (IsAsBefore s spot) xs s
    → AfterEach (IsAsBefore (after_all xs s) spot) ys (after_all xs s) → AfterEach (IsAsBefore s spot) (xs ++ ys) s
as_before_both spot xs ys s h k =
    each_of_both (IsAsBefore s spot) xs ys s h
    (each_weaker (IsAsBefore (after_all xs s) spot) (IsAsBefore s spot)
    (λ t same. still_as_before s (after_all xs s) t spot (last_of_each (IsAsBefore s spot) xs s h) same) ys (after_all xs s) k)

pub after_both : (ops more : List Op) (s : Standing) → after_all (ops ++ more) s ≡ after_all more (after_all ops s)
after_both [] more s = refl
after_both (op ∷ ops) more s = after_both ops more (after op s)

-- ---- a disk that tells what was done

any_front_told : (P : Standing → Type 0) (ops before : List Op) (now : Option (List Op)) → AfterEach P ops (after_all before no_folders)
    → FrontDone ops (Some before) now → Told P now
any_front_told P [] before now each done = subst (Told P) (sym done) each
any_front_told P (op ∷ ops) before now each (inl done) = subst (Told P) (sym done) each.0
any_front_told P (op ∷ ops) before now each (inr done) =
    any_front_told P ops (before ++ op ∷ []) now
    (subst (λ t. AfterEach P ops t) (sym (after_both before (op ∷ []) no_folders)) each.1) done

-- a front of these was done
pub front_told : (R : Standing → Standing → Type 0) (ops : List Op) → ((s : Standing) → AfterEach (R s) ops s) → (before now : Option (List Op))
    → FrontDone ops before now → ToldSince R before now
front_told R ops each None now done = tt
front_told R ops each (Some before) now done =
    any_front_told (R (after_all before no_folders)) ops before now (each (after_all before no_folders)) done

all_is_front : (ops : List Op) (before : Option (List Op)) → FrontDone ops before (also_all ops before)
all_is_front [] before = refl
all_is_front (op ∷ ops) before = inr (all_is_front ops (also_done op before))

-- all of these were done
pub all_told : (R : Standing → Standing → Type 0) (ops : List Op) → ((s : Standing) → AfterEach (R s) ops s) → (before now : Option (List Op))
    → now ≡ also_all ops before → ToldSince R before now
all_told R ops each before now e =
    front_told R ops each before now (subst (λ (d : Option (List Op)). FrontDone ops before d) (sym e) (all_is_front ops before))

all_of_some : (ops before : List Op) → also_all ops (Some before) ≡ Some (before ++ ops)
all_of_some [] before = ap Some (sym (append-nil before))
all_of_some (op ∷ ops) before = all_of_some ops (before ++ op ∷ []) ∙ ap Some (append_assoc before (op ∷ []) ops)

all_of_none : (ops : List Op) → also_all ops None ≡ None
all_of_none [] = refl
all_of_none (op ∷ ops) = all_of_none ops

pub last_told : (P : Standing → Type 0) (ops : List Op) → ((s : Standing) → P (after_all ops s)) → (before now : Option (List Op))
    → now ≡ also_all ops before → Told P now
last_told P ops all None now e = subst (Told P) (sym (e ∙ all_of_none ops)) tt
last_told P ops all (Some before) now e =
    subst (Told P) (sym (e ∙ all_of_some ops before))
    (subst P (sym (after_both before ops no_folders)) (all (after_all before no_folders)))
