-- Lists of packets on the line, and the messages that they carry.
use Rattle.std.proofs.Common.{◌≡◌, ℕ, zero, suc, ◌+◌, ◌≤◌, Bool, true, false, if◌then◌else◌, List, [], ◌∷◌, ◌++◌, length, drop, take, slice_get, Some, refl, ap, sym, ◌∙◌, arith}
use Rattle.std.proofs.lemmas.List.{drop-append-le}
use Rattle.std.proofs.lemmas.Option.{none-some, same_Some}
use Rattle.uug_link.specs.OnTheLine.{is_of_window, of_window, IsWritten, AreWritten}
use Rattle.uug_link.specs.WindowMachine.{Flying, data_at, acknowledgement}
use Rattle.uug_packet.specs.Packet.{close, rj, srj, rr, init_c, init_b, init_a, PacketValue, control, carry}

-- ---- the item at a place

pub slice_get-append : {A : Type 0} (xs ys : List A) (n : ℕ) (x : A) → slice_get xs n ≡ Some x →
    slice_get (xs ++ ys) n ≡ Some x
slice_get-append [] ys n x h = absurd (none-some x h)
slice_get-append (y ∷ xs) ys zero x h = h
slice_get-append (y ∷ xs) ys (suc n) x h = slice_get-append xs ys n x h

pub slice_get-last : {A : Type 0} (xs : List A) (x : A) → slice_get (xs ++ x ∷ []) (length xs) ≡ Some x
slice_get-last [] x = refl
slice_get-last (y ∷ xs) x = slice_get-last xs x

pub drop_at : {A : Type 0} (xs : List A) (n : ℕ) (x : A) → slice_get xs n ≡ Some x → drop n xs ≡ x ∷ drop (suc n) xs
drop_at [] n x h = absurd (none-some x h)
drop_at (y ∷ xs) zero x h = ap (λ z. z ∷ xs) (same_Some y x h)
drop_at (y ∷ xs) (suc n) x h = drop_at xs n x h

pub take_at : {A : Type 0} (xs : List A) (n : ℕ) (x : A) → slice_get xs n ≡ Some x →
    take (suc n) xs ≡ take n xs ++ x ∷ []
take_at [] n x h = absurd (none-some x h)
take_at (y ∷ xs) zero x h = ap (λ z. z ∷ []) (same_Some y x h)
take_at (y ∷ xs) (suc n) x h = ap (λ l. y ∷ l) (take_at xs n x h)

slice_get-drop_front : {A : Type 0} (n : ℕ) (xs : List A) → slice_get (drop n xs) 0 ≡ slice_get xs n
slice_get-drop_front zero [] = refl
slice_get-drop_front zero (x ∷ xs) = refl
slice_get-drop_front (suc n) [] = refl
slice_get-drop_front (suc n) (x ∷ xs) = slice_get-drop_front n xs

drop-drop_one : {A : Type 0} (n : ℕ) (xs : List A) → drop 1 (drop n xs) ≡ drop (suc n) xs
drop-drop_one zero [] = refl
drop-drop_one zero (x ∷ xs) = refl
drop-drop_one (suc n) [] = refl
drop-drop_one (suc n) (x ∷ xs) = drop-drop_one n xs

pub front_of_drop : {A : Type 0} (n : ℕ) (xs : List A) (y : A) (ys : List A) → drop n xs ≡ y ∷ ys →
    slice_get xs n ≡ Some y
front_of_drop n xs y ys h = sym (slice_get-drop_front n xs) ∙ ap (λ l. slice_get l 0) h

pub rest_of_drop : {A : Type 0} (n : ℕ) (xs : List A) (y : A) (ys : List A) → drop n xs ≡ y ∷ ys →
    drop (suc n) xs ≡ ys
rest_of_drop n xs y ys h = sym (drop-drop_one n xs) ∙ ap (λ l. drop 1 l) h

drop_nothing : {A : Type 0} (k : ℕ) → drop {A = A} k [] ≡ []
drop_nothing zero = refl
drop_nothing (suc k) = refl

pub drop_drop : {A : Type 0} (n m : ℕ) (xs : List A) → drop m (drop n xs) ≡ drop (n + m) xs
drop_drop zero m xs = let on : m ≡ zero + m = omega arith in ap (λ (k : ℕ). drop k xs) on
drop_drop (suc n) m [] = drop_nothing m ∙ sym (drop_nothing (suc n + m))
drop_drop (suc n) m (x ∷ xs) =
    let on : suc n + m ≡ suc (n + m) = omega arith in
    drop_drop n m xs ∙ ap (λ (k : ℕ). drop k (x ∷ xs)) (sym on)

-- ---- the packets of the window

of_window-append_if : (b : Bool) (p : PacketValue) (ps qs : List PacketValue) →
    (if b then p ∷ (ps ++ qs) else (ps ++ qs)) ≡ (if b then p ∷ ps else ps) ++ qs
of_window-append_if true p ps qs = refl
of_window-append_if false p ps qs = refl

pub of_window-append : (ps qs : List PacketValue) → of_window (ps ++ qs) ≡ of_window ps ++ of_window qs
of_window-append [] qs = refl
of_window-append (p ∷ ps) qs =
    ap (λ l. if is_of_window p then p ∷ l else l) (of_window-append ps qs)
    ∙ of_window-append_if (is_of_window p) p (of_window ps) (of_window qs)

-- what is emitted comes behind what is on the line
pub of_window-emitted : (n : ℕ) (ps qs : List PacketValue) → n ≤ length ps →
    of_window (drop n (ps ++ qs)) ≡ of_window (drop n ps) ++ of_window qs
of_window-emitted n ps qs h = ap of_window (drop-append-le n ps qs h) ∙ of_window-append (drop n ps) qs

if_true : (b : Bool) (p : PacketValue) (ps : List PacketValue) → b ≡ true → (if b then p ∷ ps else ps) ≡ p ∷ ps
if_true true p ps h = refl
if_true false p ps h = ap (λ b. if b then p ∷ ps else ps) h

if_false : (b : Bool) (p : PacketValue) (ps : List PacketValue) → b ≡ false → (if b then p ∷ ps else ps) ≡ ps
if_false true p ps h = ap (λ b. if b then p ∷ ps else ps) h
if_false false p ps h = refl

pub of_window-front : (n : ℕ) (ps : List PacketValue) (p : PacketValue) → slice_get ps n ≡ Some p →
    is_of_window p ≡ true → of_window (drop n ps) ≡ p ∷ of_window (drop (suc n) ps)
of_window-front n ps p at is = ap of_window (drop_at ps n p at) ∙ if_true (is_of_window p) p _ is

pub of_window-aside : (n : ℕ) (ps : List PacketValue) (p : PacketValue) → slice_get ps n ≡ Some p →
    is_of_window p ≡ false → of_window (drop n ps) ≡ of_window (drop (suc n) ps)
of_window-aside n ps p at is = ap of_window (drop_at ps n p at) ∙ if_false (is_of_window p) p _ is

-- ---- packets in flight

pub AreWritten-append : (sent : List (List ℕ)) (xs ys : List Flying) (ps qs : List PacketValue) →
    AreWritten sent xs ps → AreWritten sent ys qs → AreWritten sent (xs ++ ys) (ps ++ qs)
AreWritten-append sent [] ys [] qs h k = k
AreWritten-append sent [] ys (p ∷ ps) qs h k = absurd h
AreWritten-append sent (x ∷ xs) ys [] qs h k = absurd h
AreWritten-append sent (x ∷ xs) ys (p ∷ ps) qs h k = (h.0, AreWritten-append sent xs ys ps qs h.1 k)

IsWritten-more : (sent more : List (List ℕ)) (x : Flying) (p : PacketValue) → IsWritten sent x p →
    IsWritten (sent ++ more) x p
IsWritten-more sent more (data_at n a) (carry seq ack k message) h =
    (h.0, h.1, slice_get-append sent more n message h.2)
IsWritten-more sent more (data_at n a) (control c) h = absurd h
IsWritten-more sent more (acknowledgement a) (carry seq ack k message) h = absurd h
IsWritten-more sent more (acknowledgement a) (control (rr y)) h = h
IsWritten-more sent more (acknowledgement a) (control (rj y)) h = h
IsWritten-more sent more (acknowledgement a) (control (srj y)) h = absurd h
IsWritten-more sent more (acknowledgement a) (control close) h = absurd h
IsWritten-more sent more (acknowledgement a) (control (init_a y)) h = absurd h
IsWritten-more sent more (acknowledgement a) (control (init_b y)) h = absurd h
IsWritten-more sent more (acknowledgement a) (control (init_c y)) h = absurd h

pub AreWritten-more : (sent more : List (List ℕ)) (xs : List Flying) (ps : List PacketValue) →
    AreWritten sent xs ps → AreWritten (sent ++ more) xs ps
AreWritten-more sent more [] [] h = tt
AreWritten-more sent more [] (p ∷ ps) h = absurd h
AreWritten-more sent more (x ∷ xs) [] h = absurd h
AreWritten-more sent more (x ∷ xs) (p ∷ ps) h =
    (IsWritten-more sent more x p h.0, AreWritten-more sent more xs ps h.1)
