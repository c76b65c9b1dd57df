-- The entries of an outbox, from all bytes joined and the places where they end.
use Rattle.std.proofs.Common.{◌≡◌, ℕ, zero, suc, ◌+◌, ◌-◌, ◌<◌, ◌≤◌, List, [], ◌∷◌, ◌++◌, length, length-append, length-drop, take, drop, get_or, Some, slice_get, refl, ap, sym, arith}
use Rattle.std.proofs.lemmas.List.{take-append-le, drop-append-le, take_all, drop_all}
use Rattle.std.proofs.lemmas.List.Folds.{drop_split}
use Rattle.uug_link.specs.declared.entry.EntryKind.{EntryKind}
use Rattle.uug_link.specs.declared.entry.EntryKind.TheVariants as kinds
use Rattle.uug_link.specs.declared.entry.Mark.{Mark}
use Rattle.uug_link.specs.Entries.{bytes_of, joined, entry_of, entries_from, AreCuts, start_at}

pub length-entries_from : (s : ℕ) (ms : List Mark) (bytes : List ℕ) → length (entries_from s ms bytes) ≡ length ms
length-entries_from s [] bytes = refl
length-entries_from s (m ∷ ms) bytes = ap suc (length-entries_from m.end ms bytes)

pub AreCuts-le : (s : ℕ) (ms : List Mark) (total : ℕ) → AreCuts s ms total → s ≤ total
AreCuts-le s [] total h = omega (arith, h)
AreCuts-le s (m ∷ ms) total h = omega (arith, h.0, AreCuts-le m.end ms total h.1)

-- what was appended last, and what stood before it
last_part : (bytes w : List ℕ) (s : ℕ) → s ≡ length bytes →
    take (length bytes + length w - s) (drop s (bytes ++ w)) ≡ w
last_part bytes w s h =
    let low : s ≤ length bytes = omega (arith, h) in
    let high : length bytes ≤ s = omega (arith, h) in
    let all : length w ≤ length bytes + length w - s = omega (arith, h) in
    rw (drop-append-le s bytes w low, drop_all s bytes high) (take_all (length bytes + length w - s) w all)

earlier_part : (bytes w : List ℕ) (s e : ℕ) → s ≤ e → e ≤ length bytes →
    take (e - s) (drop s (bytes ++ w)) ≡ take (e - s) (drop s bytes)
earlier_part bytes w s e h k =
    let low : s ≤ length bytes = omega (arith, h, k) in
    let fits : e - s ≤ length (drop s bytes) = rw (length-drop s bytes) (omega (arith, h, k)) in
    rw (drop-append-le s bytes w low) (take-append-le (e - s) (drop s bytes) w fits)

entries_from-push : (s : ℕ) (ms : List Mark) (bytes w : List ℕ) (kind : EntryKind) → AreCuts s ms (length bytes) →
    entries_from s (ms ++ record { kind = kind; end = length bytes + length w } ∷ []) (bytes ++ w)
    ≡ entries_from s ms bytes ++ entry_of kind w ∷ []
entries_from-push s [] bytes w kind h = ap (λ (x : List ℕ). entry_of kind x ∷ []) (last_part bytes w s h)
entries_from-push s (m ∷ ms) bytes w kind h =
    let e = entries_from-push m.end ms bytes w kind h.1 in
    let p = earlier_part bytes w s m.end h.0 (AreCuts-le m.end ms (length bytes) h.1) in
    cc (e, ap (λ (x : List ℕ). entry_of m.kind x) p)

AreCuts-push : (s : ℕ) (ms : List Mark) (total n : ℕ) (kind : EntryKind) → AreCuts s ms total →
    AreCuts s (ms ++ record { kind = kind; end = total + n } ∷ []) (total + n)
AreCuts-push s [] total n kind h = (omega (arith, h), refl)
AreCuts-push s (m ∷ ms) total n kind h = (h.0, AreCuts-push m.end ms total n kind h.1)

-- bytes and a mark were appended
pub record IsAdded (kind : EntryKind) (w : List ℕ) (ms ms' : List Mark) (bytes bytes' : List ℕ) : Type 0 where
  pub end : ℕ
  pub end_is : end ≡ length bytes'
  pub marks : ms' ≡ ms ++ record { kind = kind; end = end } ∷ []
  pub joined : bytes' ≡ bytes ++ w

end-added : {kind : EntryKind} {w : List ℕ} {ms ms' : List Mark} {bytes bytes' : List ℕ} →
    (h : IsAdded kind w ms ms' bytes bytes') → h.end ≡ length bytes + length w
end-added {w = w} {bytes = bytes} h = omega (arith, h.end_is, ap length h.joined, length-append bytes w)

pub added_cuts : {kind : EntryKind} {w : List ℕ} {ms ms' : List Mark} {bytes bytes' : List ℕ} →
    IsAdded kind w ms ms' bytes bytes' → AreCuts 0 ms (length bytes) → AreCuts 0 ms' (length bytes')
added_cuts {kind = kind} {w = w} {ms = ms} {bytes = bytes} h cut =
    rw (h.marks, ← h.end_is, end-added h) (AreCuts-push 0 ms (length bytes) (length w) kind cut)

pub added_entries : {kind : EntryKind} {w : List ℕ} {ms ms' : List Mark} {bytes bytes' : List ℕ} →
    IsAdded kind w ms ms' bytes bytes' → AreCuts 0 ms (length bytes) →
    entries_from 0 ms' bytes' ≡ entries_from 0 ms bytes ++ entry_of kind w ∷ []
added_entries {kind = kind} {w = w} {ms = ms} {bytes = bytes} h cut =
    rw (h.marks, h.joined, end-added h) (entries_from-push 0 ms bytes w kind cut)

bytes_of-entry_of : (kind : EntryKind) (bytes : List ℕ) → bytes_of (entry_of kind bytes) ≡ bytes
bytes_of-entry_of kinds.Text bytes = refl
bytes_of-entry_of (kinds.Packet first) bytes = refl

pub joined-entries_from : (s : ℕ) (ms : List Mark) (bytes : List ℕ) → AreCuts s ms (length bytes) →
    joined (entries_from s ms bytes) ≡ drop s bytes
joined-entries_from s [] bytes h = sym (drop_all s bytes (omega (arith, h)))
joined-entries_from s (m ∷ ms) bytes h =
    let rest = joined-entries_from m.end ms bytes h.1 in
    let front = bytes_of-entry_of m.kind (take (m.end - s) (drop s bytes)) in
    let split = drop_split bytes s m.end h.0 in
    cc (rest, front, split)

pub slice_get-entries_from : (s : ℕ) (ms : List Mark) (bytes : List ℕ) (i : ℕ) (d : Mark) → i < length ms →
    slice_get (entries_from s ms bytes) i
    ≡ Some (entry_of (get_or ms i d).kind
    (take ((get_or ms i d).end - start_at s ms i) (drop (start_at s ms i) bytes)))
slice_get-entries_from s [] bytes i d h = absurd (omega (arith, h))
slice_get-entries_from s (x ∷ ms) bytes zero d h = refl
slice_get-entries_from s (x ∷ ms) bytes (suc i) d h = slice_get-entries_from x.end ms bytes i d (omega (arith, h))

pub cut_within : (s : ℕ) (ms : List Mark) (total i : ℕ) (d : Mark) → i < length ms → AreCuts s ms total →
    (start_at s ms i ≤ (get_or ms i d).end) × ((get_or ms i d).end ≤ total)
cut_within s [] total i d h cut = absurd (omega (arith, h))
cut_within s (x ∷ ms) total zero d h cut = (cut.0, AreCuts-le x.end ms total cut.1)
cut_within s (x ∷ ms) total (suc i) d h cut = cut_within x.end ms total i d (omega (arith, h)) cut.1

pub start_at-suc : (s : ℕ) (ms : List Mark) (i : ℕ) (d : Mark) → i < length ms →
    (get_or ms i d).end ≡ start_at s ms (suc i)
start_at-suc s [] i d h = absurd (omega (arith, h))
start_at-suc s (x ∷ ms) zero d h = refl
start_at-suc s (x ∷ ms) (suc i) d h = start_at-suc x.end ms i d (omega (arith, h))

-- the entry at a place, by what the program reads there
pub entry_is : (ms : List Mark) (bytes : List ℕ) (i start : ℕ) (d : Mark) (kind : EntryKind) → i < length ms →
    start ≡ start_at 0 ms i → (get_or ms i d).kind ≡ kind →
    slice_get (entries_from 0 ms bytes) i ≡ Some (entry_of kind (take ((get_or ms i d).end - start) (drop start bytes)))
entry_is ms bytes i start d kind within at is = rw (← is, at) (slice_get-entries_from 0 ms bytes i d within)
