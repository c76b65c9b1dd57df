-- What comes in pieces is taken up as if it came at once, by whatever takes it up.
use Rattle.std.proofs.Common.{◌≡◌, ℕ, zero, suc, ◌<◌, ◌≤◌, List, [], ◌∷◌, ◌++◌, length, drop, Option, Some, None, refl, sym, ap, ◌∙◌, append_assoc, arith, length-drop}
use Rattle.std.proofs.lemmas.List.{append-nil, drop-append-le}
use Rattle.uug_packet.specs.Packet.{PacketValue}
use Rattle.uug_reader.specs.Cut.{found, bad}
use Rattle.uug_reader.specs.Search.{Search, waiting, standing, search_of}
use Rattle.uug_session.specs.EndStep.{Stage, hailing, linked, ended, EndEvent, broken_found}
use Rattle.uug_session.specs.Finding.{Finding, finds_nothing, finds, finds_packet, item_finding, finding, found_with, LeavesFewer}
use Rattle.uug_session.specs.Arriving.{Receiver, Buffered, Arrival, all_taken, stopped, held_in, holds, takes_if, takes_up, takes_up_to, takes_all, takes_piece, then_takes}
use Rattle.uug_session.proofs.LongTextLemmas.{text_more, text_fewer}
use Rattle.uug_session.proofs.PacketSearchLemmas.{search_with, search_more, Within, search_within, some_size}

-- ---- what is found stays

item_more : (x : Search) (bytes more : List ℕ) → Within bytes x → item_finding (search_with more x) ≡ found_with linked more (item_finding x)
item_more (waiting rest) bytes more h = refl
item_more (standing (found p) size others) bytes more h = ap (finds_packet p (others ++ more)) (drop-append-le size others more h.1)
item_more (standing bad size others) bytes more h = ap (finds broken_found) (drop-append-le size others more h.1)

fewer_left : (size : ℕ) (others bytes : List ℕ) → 0 < size → size ≤ length others → length others ≤ length bytes → length (drop size others) < length bytes
fewer_left size others bytes some within all = omega (arith, length-drop size others)

item_fewer : (x : Search) (bytes : List ℕ) → Within bytes x → LeavesFewer (item_finding x) bytes
item_fewer (waiting rest) bytes h = h
item_fewer (standing (found p) size others) bytes h = (h.2, fewer_left size others bytes (some_size (found p) size h.0) h.1 h.2)
item_fewer (standing bad size others) bytes h = fewer_left size others bytes (some_size bad size h.0) h.1 h.2

pub found_more : (stage : Stage) (bytes more : List ℕ) → finding stage (bytes ++ more) ≡ found_with stage more (finding stage bytes)
found_more (hailing g) bytes more = text_more g bytes more
found_more linked bytes more = ap item_finding (search_more bytes more) ∙ item_more (search_of bytes) bytes more (search_within bytes)
found_more (ended how) bytes more = refl

pub found_fewer : (stage : Stage) (bytes : List ℕ) → LeavesFewer (finding stage bytes) bytes
found_fewer (hailing g) bytes = text_fewer g bytes
found_fewer linked bytes = item_fewer (search_of bytes) bytes (search_within bytes)
found_fewer (ended how) bytes = omega arith

-- ---- what is held

held_none : (s : Stage) → held_in s [] ≡ []
held_none (hailing g) = refl
held_none linked = refl
held_none (ended how) = refl

pub held_fewer : (s : Stage) (bytes : List ℕ) → length (held_in s bytes) ≤ length bytes
held_fewer (hailing g) bytes = omega arith
held_fewer linked bytes = omega arith
held_fewer (ended how) bytes = omega arith

held_more : (s : Stage) (bytes more : List ℕ) → held_in s (held_in s bytes ++ more) ≡ held_in s (bytes ++ more)
held_more (hailing g) bytes more = refl
held_more linked bytes more = refl
held_more (ended how) bytes more = refl

pub found_held : (s : Stage) (bytes : List ℕ) → finding s (held_in s bytes) ≡ finding s bytes
found_held (hailing g) bytes = refl
found_held linked bytes = refl
found_held (ended how) bytes = refl

found_none : (s : Stage) → finding s [] ≡ finds_nothing []
found_none (hailing g) = refl
found_none linked = refl
found_none (ended how) = refl

no_bytes : (bytes : List ℕ) → length bytes ≤ 0 → bytes ≡ []
no_bytes [] h = refl
no_bytes (b ∷ bytes) h = absurd (omega arith)

-- what waits goes on as the whole does, and waits still
pub nothing_again : (s : Stage) (bytes rest : List ℕ) → finding s bytes ≡ finds_nothing rest → finding s rest ≡ finds_nothing rest
nothing_again s bytes rest is =
    let with_none : finding s (bytes ++ []) ≡ finding s (rest ++ []) = found_more s bytes [] ∙ ap (found_with s []) is in
    ap (finding s) (sym (append-nil rest)) ∙ sym with_none ∙ ap (finding s) (append-nil bytes) ∙ is

pub same_with : (s : Stage) (bytes others more : List ℕ) → finding s bytes ≡ finding s others → finding s (bytes ++ more) ≡ finding s (others ++ more)
same_with s bytes others more same = found_more s bytes more ∙ ap (found_with s more) same ∙ sym (found_more s others more)

module _ (X : Type 0) (t : Receiver X) where
  -- ---- no more items are found than bytes are held

  none_held : (m : ℕ) (h : Buffered X) → length h.held ≤ 0 → takes_up_to (suc m) t h ≡ all_taken h
  none_held m h none =
      let empty : h.held ≡ [] = no_bytes h.held none in
      let s = t.stage_of h.end in
      ap (λ (f : Finding). takes_up (takes_up_to m t) t f h.end) (ap (finding s) empty ∙ found_none s)
      ∙ ap (λ (bytes : List ℕ). all_taken (record { held = bytes; end = h.end })) (held_none s ∙ sym empty)

  same_up : (f : Finding) (some others : Buffered X → Arrival X) (bytes : List ℕ) (x : X) → LeavesFewer f bytes
      → ((h : Buffered X) → length h.held < length bytes → some h ≡ others h) → takes_up some t f x ≡ takes_up others t f x
  same_up (finds_nothing rest) some others bytes x fewer h = refl
  same_up (finds event behind) some others bytes x fewer h =
      let y = t.takes event x in
      h (holds t behind y) (let k = held_fewer (t.stage_of y) behind in omega arith)
  same_up (finds_packet p from behind) some others bytes x fewer h = by_taken (t.takes_packet p x) where
    by_taken : (o : Option X) → takes_if some t o from behind x ≡ takes_if others t o from behind x
    by_taken None = refl
    by_taken (Some y) = h (holds t behind y) (let k = held_fewer (t.stage_of y) behind in omega (arith, fewer.1))

  same_count : (n m : ℕ) (h : Buffered X) → length h.held ≤ n → length h.held ≤ m → takes_up_to n t h ≡ takes_up_to m t h
  same_count zero zero h at_n at_m = refl
  same_count zero (suc m) h at_n at_m = sym (none_held m h at_n)
  same_count (suc n) zero h at_n at_m = none_held n h at_m
  same_count (suc n) (suc m) h at_n at_m =
      same_up (finding (t.stage_of h.end) h.held) (takes_up_to n t) (takes_up_to m t) h.held h.end (found_fewer (t.stage_of h.end) h.held)
      (λ later fewer. same_count n m later (omega arith) (omega arith))

  pub enough : (n : ℕ) (h : Buffered X) → length h.held ≤ n → takes_up_to n t h ≡ takes_all t h
  enough n h fits = same_count n (suc (length h.held)) h fits (omega arith)

  -- ---- one item after the other

  pub takes_next : (bytes : List ℕ) (x : X) → takes_all t (holds t bytes x) ≡ takes_up (takes_all t) t (finding (t.stage_of x) bytes) x
  takes_next bytes x =
      let s = t.stage_of x in
      let held = held_in s bytes in
      same_up (finding s held) (takes_up_to (length held) t) (takes_all t) held x (found_fewer s held) (λ h fewer. enough (length held) h (omega arith))
      ∙ ap (λ (f : Finding). takes_up (takes_all t) t f x) (found_held s bytes)

  pub held_same : (bytes more : List ℕ) (x : X) → holds t (bytes ++ more) x ≡ holds t (held_in (t.stage_of x) bytes ++ more) x
  held_same bytes more x = ap (λ (held : List ℕ). record { held = held; end = x }) (sym (held_more (t.stage_of x) bytes more))

  pub same_found : (bytes others : List ℕ) (x : X) → finding (t.stage_of x) bytes ≡ finding (t.stage_of x) others → takes_all t (holds t bytes x) ≡ takes_all t (holds t others x)
  same_found bytes others x same = takes_next bytes x ∙ ap (λ (f : Finding). takes_up (takes_all t) t f x) same ∙ sym (takes_next others x)

  pub found_nothing : (bytes rest : List ℕ) (x : X) → finding (t.stage_of x) bytes ≡ finds_nothing rest → takes_all t (holds t bytes x) ≡ all_taken (holds t rest x)
  found_nothing bytes rest x is = takes_next bytes x ∙ ap (λ (f : Finding). takes_up (takes_all t) t f x) is

  pub found_event : (bytes behind : List ℕ) (event : EndEvent) (x : X) → finding (t.stage_of x) bytes ≡ finds event behind
      → takes_all t (holds t bytes x) ≡ takes_all t (holds t behind (t.takes event x))
  found_event bytes behind event x is = takes_next bytes x ∙ ap (λ (f : Finding). takes_up (takes_all t) t f x) is

  pub found_packet : (bytes from behind : List ℕ) (p : PacketValue) (x y : X) → finding (t.stage_of x) bytes ≡ finds_packet p from behind → t.takes_packet p x ≡ Some y
      → takes_all t (holds t bytes x) ≡ takes_all t (holds t behind y)
  found_packet bytes from behind p x y is taken =
      takes_next bytes x ∙ ap (λ (f : Finding). takes_up (takes_all t) t f x) is ∙ ap (λ (o : Option X). takes_if (takes_all t) t o from behind x) taken

  by_found : (f : Finding) (bytes more : List ℕ) (x : X) → LeavesFewer f bytes
      → ((behind : List ℕ) (y : X) → length behind < length bytes → takes_all t (holds t (behind ++ more) y) ≡ then_takes t more (takes_all t (holds t behind y)))
      → takes_up (takes_all t) t (found_with (t.stage_of x) more f) x ≡ then_takes t more (takes_up (takes_all t) t f x)
  by_found (finds_nothing rest) bytes more x fewer h =
      sym (takes_next (rest ++ more) x) ∙ ap (takes_all t) (held_same rest more x)
  by_found (finds event behind) bytes more x fewer h = h behind (t.takes event x) fewer
  by_found (finds_packet p from behind) bytes more x fewer h = by_taken (t.takes_packet p x) where
    by_taken : (o : Option X) → takes_if (takes_all t) t o (from ++ more) (behind ++ more) x ≡ then_takes t more (takes_if (takes_all t) t o from behind x)
    by_taken None = ap stopped (held_same from more x)
    by_taken (Some y) = h behind y fewer.1

  first_behind : (bytes more : List ℕ) (x : X)
      → ((behind : List ℕ) (y : X) → length behind < length bytes → takes_all t (holds t (behind ++ more) y) ≡ then_takes t more (takes_all t (holds t behind y)))
      → takes_all t (holds t (bytes ++ more) x) ≡ then_takes t more (takes_all t (holds t bytes x))
  first_behind bytes more x h =
      takes_next (bytes ++ more) x
      ∙ ap (λ (f : Finding). takes_up (takes_all t) t f x) (found_more (t.stage_of x) bytes more)
      ∙ by_found (finding (t.stage_of x) bytes) bytes more x (found_fewer (t.stage_of x) bytes) h
      ∙ ap (then_takes t more) (sym (takes_next bytes x))

  more_behind : (n : ℕ) (bytes more : List ℕ) (x : X) → length bytes ≤ n → takes_all t (holds t (bytes ++ more) x) ≡ then_takes t more (takes_all t (holds t bytes x))
  more_behind zero bytes more x fits = first_behind bytes more x (λ behind y fewer. absurd (omega arith))
  more_behind (suc n) bytes more x fits = first_behind bytes more x (λ behind y fewer. more_behind n behind more y (omega arith))

  pub in_pieces : (piece more : List ℕ) (h : Buffered X) → takes_piece t (piece ++ more) h ≡ then_takes t more (takes_piece t piece h)
  in_pieces piece more h =
      ap (λ (bytes : List ℕ). takes_all t (holds t bytes h.end)) (sym (append_assoc h.held piece more))
      ∙ more_behind (length (h.held ++ piece)) (h.held ++ piece) more h.end (omega arith)
