-- The messages of a command and of a file, one by one.
use Rattle.std.proofs.Common.{◌≡◌, ◌≢◌, ◌⊎◌, inl, inr, ℕ, zero, suc, ◌+◌, ◌-◌, ◌*◌, ◌/◌, ◌%◌, ◌<◌, ◌≤◌, Bool, true, false, List, [], ◌∷◌, ◌++◌, length, take, drop, replicate, All, refl, sym, ap, subst, ◌∙◌, append_assoc, arith}
use Rattle.std.proofs.lemmas.List.{length-append, length-drop, length-replicate, take_all, drop_all, drop-drop, take-append-le, drop-append-le}
use Rattle.std.proofs.lemmas.List.Elements.{All-nil, All-cons, All-append, All-drop}
use Rattle.std.proofs.lemmas.Nat.{mod-mul-add, div-add-mod', mod_below}
use Rattle.uug_talk.specs.declared.chunks.Chunks.{Chunks}
use Rattle.uug_talk.specs.declared.chunks.Ending.TheVariants.{Zeros, Empty}
use Rattle.uug_talk.specs.MessagesLeft.{left_by, measure_of, messages_left}
use Rattle.uug_talk.specs.Chunks.{AreShortOf, IsCommandText, Measure, cut_up_to, cut, up_to_multiple, filling, command_messages, last_zeros, file_messages}

-- Cutting.

cut_enough : (n m size : ℕ) (xs : List ℕ) → 0 < size → length xs ≤ n → length xs ≤ m → cut_up_to n size xs ≡ cut_up_to m size xs
cut_enough zero zero size xs s a b = refl
cut_enough zero (suc m) size [] s a b = refl
cut_enough zero (suc m) size (x ∷ xs) s a b = absurd (omega arith)
cut_enough (suc n) zero size [] s a b = refl
cut_enough (suc n) zero size (x ∷ xs) s a b = absurd (omega arith)
cut_enough (suc n) (suc m) size [] s a b = refl
cut_enough (suc n) (suc m) size (x ∷ xs) s a b =
    let l = length-drop size (x ∷ xs) in
    ap (λ r. take size (x ∷ xs) ∷ r) (cut_enough n m size (drop size (x ∷ xs)) s (omega arith) (omega arith))

pub cut_more : (size : ℕ) (xs : List ℕ) → 0 < size → 0 < length xs → cut size xs ≡ take size xs ∷ cut size (drop size xs)
cut_more size [] s h = absurd (omega arith)
cut_more size (x ∷ xs) s h =
    let l = length-drop size (x ∷ xs) in
    ap (λ r. take size (x ∷ xs) ∷ r) (cut_enough (length xs) (length (drop size (x ∷ xs))) size (drop size (x ∷ xs)) s (omega arith) (omega arith))

cut_one : (size : ℕ) (xs : List ℕ) → 0 < size → 0 < length xs → length xs ≤ size → cut size xs ≡ xs ∷ []
cut_one size xs s h e =
    cut_more size xs s h
    ∙ ap (λ t. t ∷ cut size (drop size xs)) (take_all size xs (omega arith))
    ∙ ap (λ r. xs ∷ cut size r) (drop_all size xs (omega arith))

-- Filling up.

mod_small : (n m : ℕ) → n < m → n % m ≡ n
mod_small n m h = let e : n ≡ 0 * m + n = omega arith in ap (λ z. z % m) e ∙ mod-mul-add 0 m n h

mod_self : (m : ℕ) → 0 < m → m % m ≡ 0
mod_self m h = let e : m ≡ 1 * m + 0 = omega arith in ap (λ z. z % m) e ∙ mod-mul-add 1 m 0 h

mod_more : (n m : ℕ) → 0 < m → (n + m) % m ≡ n % m
mod_more n m h =
    let e : n + m ≡ (n / m + 1) * m + n % m = omega (arith, div-add-mod' n m) in
    ap (λ z. z % m) e ∙ mod-mul-add (n / m + 1) m (n % m) (mod_below n m h)

fill_whole : (size : ℕ) → 0 < size → up_to_multiple size size ≡ 0
fill_whole size s =
    let e : size - size % size ≡ size = omega (arith, mod_self size s) in
    ap (λ z. z % size) e ∙ mod_self size s

fill_below : (size n : ℕ) → 0 < n → n < size → up_to_multiple size n ≡ size - n
fill_below size n p l =
    ap (λ z. (size - z) % size) (mod_small n size l) ∙ mod_small (size - n) size (omega arith)

fill_up : (size n : ℕ) → 0 < n → n ≤ size → up_to_multiple size n ≡ size - n
fill_up size n p l = by_order (size - n) refl where
  by_order : (d : ℕ) → size - n ≡ d → up_to_multiple size n ≡ size - n
  by_order zero e = let k : n ≡ size = omega arith in subst (λ z. up_to_multiple size z ≡ size - z) (sym k) (fill_whole size (omega arith) ∙ omega arith)
  by_order (suc d) e = fill_below size n p (omega arith)

fill_more : (size n : ℕ) → 0 < size → up_to_multiple size (n + size) ≡ up_to_multiple size n
fill_more size n s = ap (λ z. (size - z) % size) (mod_more n size s)

-- A command.

abbrev measured : Bool → ℕ → Measure
measured short size = record { size = size; short = short }

abbrev zeros_of : ℕ → List ℕ
zeros_of n = replicate n 0

-- the zero byte and those that fill up, as the zeros of the last message
zeros_by : (short : Bool) (size n : ℕ) → n < size → zeros_of (suc (filling (measured short size) (n + 1))) ≡ zeros_of (last_zeros (measured short size) n)
zeros_by true size n h = refl
zeros_by false size n h =
    let k : size - n ≡ suc (size - (n + 1)) = omega arith in
    ap (λ z. zeros_of (suc z)) (fill_up size (n + 1) (omega arith) (omega arith)) ∙ ap zeros_of (sym k)

zeros_fit_by : (short : Bool) (size n : ℕ) → n < size → n + last_zeros (measured short size) n ≤ size
zeros_fit_by true size n h = omega arith
zeros_fit_by false size n h = omega arith

zeros_some_by : (short : Bool) (size n : ℕ) → n < size → 0 < last_zeros (measured short size) n
zeros_some_by true size n h = omega arith
zeros_some_by false size n h = omega arith

filling_more_by : (short : Bool) (size n : ℕ) → 0 < size → filling (measured short size) (n + size) ≡ filling (measured short size) n
filling_more_by true size n s = refl
filling_more_by false size n s = fill_more size n s

-- the zeros of the last message are at least one, and fit
pub zeros_fit : (m : Measure) (n : ℕ) → n < m.size → n + last_zeros m n ≤ m.size
zeros_fit m n h = zeros_fit_by m.short m.size n h

pub zeros_some : (m : Measure) (n : ℕ) → n < m.size → 0 < last_zeros m n
zeros_some m n h = zeros_some_by m.short m.size n h

-- the last message of a command
pub command_last : (m : Measure) (text : List ℕ) → length text < m.size → command_messages m text ≡ (text ++ replicate (last_zeros m (length text)) 0) ∷ []
command_last m text h =
    let zeros : List ℕ = replicate (last_zeros m (length text)) 0 in
    let n : length (text ++ zeros) ≡ length text + last_zeros m (length text) =
    length-append text zeros ∙ ap (λ k. length text + k) (length-replicate (last_zeros m (length text)) 0) in
    ap (λ z. cut m.size (text ++ z)) (zeros_by m.short m.size (length text) h)
    ∙ cut_one m.size (text ++ zeros) (omega arith)
    (omega (arith, n, zeros_some m (length text) h)) (omega (arith, n, zeros_fit m (length text) h))

-- an earlier message of a command
pub command_more : (m : Measure) (text : List ℕ) → 0 < m.size → m.size ≤ length text → command_messages m text ≡ take m.size text ∷ command_messages m (drop m.size text)
command_more m text s h =
    let size = m.size in
    let zeros : List ℕ = 0 ∷ replicate (filling m (length text + 1)) 0 in
    let l : length text + 1 ≡ (length (drop m.size text) + 1) + m.size = omega (arith, length-drop m.size text) in
    let fill : filling m (length text + 1) ≡ filling m (length (drop m.size text) + 1) = ap (filling m) l ∙ filling_more_by m.short m.size (length (drop m.size text) + 1) s in
    cut_more size (text ++ zeros) s (omega (arith, length-append text zeros))
    ∙ ap (λ t. t ∷ cut size (drop size (text ++ zeros))) (take-append-le size text zeros h)
    ∙ ap (λ r. take size text ∷ cut size r) (drop-append-le size text zeros h)
    ∙ ap (λ k. take size text ∷ cut size (drop size text ++ 0 ∷ replicate k 0)) fill

-- Short commands beside those that are filled up.

pub below_or_not : (a b : ℕ) → (a < b) ⊎ (b ≤ a)
below_or_not a zero = inr (omega arith)
below_or_not zero (suc b) = inl (omega arith)
below_or_not (suc a) (suc b) = elim (below_or_not a b) [ inl l ↦ inl (omega arith) | inr l ↦ inr (omega arith) ]

short_end : (size : ℕ) (text : List ℕ) → length text < size → AreShortOf (command_messages (measured true size) text) (command_messages (measured false size) text)
short_end size text h = record {
  front = [];
  last = text ++ 0 ∷ [];
  zeros = size - (length text + 1);
  is_short = command_last (measured true size) text h;
  is_filled =
      let k : size - length text ≡ suc (size - (length text + 1)) = omega arith in
      command_last (measured false size) text h ∙ ap (λ z. (text ++ replicate z 0) ∷ []) k
      ∙ ap (λ z. z ∷ []) (sym (append_assoc text (0 ∷ []) (replicate (size - (length text + 1)) 0)));
}

short_up_to : (n size : ℕ) (text : List ℕ) → 0 < size → length text ≤ n → AreShortOf (command_messages (measured true size) text) (command_messages (measured false size) text)
short_up_to zero size text s h = short_end size text (omega arith)
short_up_to (suc n) size text s h = elim (below_or_not (length text) size) [
  | inl l ↦ short_end size text l
  | inr l ↦ (
      let more = short_up_to n size (drop size text) s (omega (arith, length-drop size text)) in
      record {
        front = take size text ∷ more.front;
        last = more.last;
        zeros = more.zeros;
        is_short = command_more (measured true size) text s l ∙ ap (λ z. take size text ∷ z) more.is_short;
        is_filled = command_more (measured false size) text s l ∙ ap (λ z. take size text ∷ z) more.is_filled;
      })
]

-- all the same, but the last lacks zeros
pub short_beside : (size : ℕ) (text : List ℕ) → 0 < size → AreShortOf (command_messages (measured true size) text) (command_messages (measured false size) text)
short_beside size text s = short_up_to (length text) size text s (omega arith)

-- a message of a file but the last
pub file_more : (size : ℕ) (bytes : List ℕ) → 0 < size → 0 < length bytes → file_messages size bytes ≡ take size bytes ∷ file_messages size (drop size bytes)
file_more size bytes s h = ap (λ c. c ++ [] ∷ []) (cut_more size bytes s h)

-- From an offset on.

pub command_more_at : (m : Measure) (offset : ℕ) (text : List ℕ) → 0 < m.size → offset + m.size ≤ length text → command_messages m (drop offset text) ≡ take m.size (drop offset text) ∷ command_messages m (drop (offset + m.size) text)
command_more_at m offset text s h =
    command_more m (drop offset text) s (omega (arith, length-drop offset text))
    ∙ ap (λ r. take m.size (drop offset text) ∷ command_messages m r) (drop-drop m.size offset text)

pub command_last_at : (m : Measure) (offset : ℕ) (text : List ℕ) → offset ≤ length text → length text < offset + m.size → command_messages m (drop offset text) ≡ (drop offset text ++ replicate (last_zeros m (length (drop offset text))) 0) ∷ []
command_last_at m offset text h l = command_last m (drop offset text) (omega (arith, length-drop offset text))

pub command_text_at : (offset : ℕ) (text : List ℕ) → IsCommandText text → IsCommandText (drop offset text)
command_text_at offset text h = record {
  short = omega (arith, length-drop offset text, h.short);
  no_zero = All-drop (λ b. b ≢ 0) offset text h.no_zero;
}

pub file_more_at : (size offset : ℕ) (bytes : List ℕ) → 0 < size → offset < length bytes → file_messages size (drop offset bytes) ≡ take size (drop offset bytes) ∷ file_messages size (drop (offset + size) bytes)
file_more_at size offset bytes s h =
    file_more size (drop offset bytes) s (omega (arith, length-drop offset bytes))
    ∙ ap (λ r. take size (drop offset bytes) ∷ file_messages size r) (drop-drop size offset bytes)

pub file_last_at : (size offset : ℕ) (bytes : List ℕ) → length bytes ≤ offset → file_messages size (drop offset bytes) ≡ [] ∷ []
file_last_at size offset bytes h = ap (file_messages size) (drop_all offset bytes h)

-- The sizes of messages.

taken_fits : (size : ℕ) (xs : List ℕ) → length (take size xs) ≤ size
taken_fits zero xs = omega arith
taken_fits (suc n) [] = omega arith
taken_fits (suc n) (x ∷ xs) = omega (arith, taken_fits n xs)

abbrev Fits : ℕ → List ℕ → Type 0
Fits size message = length message ≤ size

cut_fits : (n size : ℕ) (xs : List ℕ) → All (Fits size) (cut_up_to n size xs)
cut_fits zero size xs = All-nil (Fits size)
cut_fits (suc n) size [] = All-nil (Fits size)
cut_fits (suc n) size (x ∷ xs) = All-cons (Fits size) (take size (x ∷ xs)) (cut_up_to n size (drop size (x ∷ xs))) (taken_fits size (x ∷ xs)) (cut_fits n size (drop size (x ∷ xs)))

pub command_fits : (m : Measure) (text : List ℕ) → All (Fits m.size) (command_messages m text)
command_fits m text =
    let xs : List ℕ = text ++ 0 ∷ replicate (filling m (length text + 1)) 0 in
    cut_fits (length xs) m.size xs

pub file_fits : (size : ℕ) (bytes : List ℕ) → All (Fits size) (file_messages size bytes)
file_fits size bytes = All-append (Fits size) (cut size bytes) ([] ∷ []) (cut_fits (length bytes) size bytes) (All-cons (Fits size) [] [] (omega arith) (All-nil (Fits size)))

-- What an iterator gives.

pub left_last : (chunks : Chunks) (message : List ℕ) → chunks.ending ≡ Zeros → length chunks.rest.now < chunks.size → (k : ℕ) → k ≡ last_zeros (measure_of chunks) (length chunks.rest.now) → message ≡ chunks.rest.now ++ replicate k 0 → messages_left chunks ≡ message ∷ []
left_last chunks message e h k z m =
    ap (λ w. left_by w (measure_of chunks) chunks.rest.now) e ∙ command_last (measure_of chunks) chunks.rest.now h
    ∙ ap (λ n. (chunks.rest.now ++ replicate n 0) ∷ []) (sym z) ∙ ap (λ w. w ∷ []) (sym m)

pub left_command : (old new : Chunks) (message : List ℕ) → old.ending ≡ Zeros → 0 < old.size → old.size ≤ length old.rest.now
    → message ≡ take old.size old.rest.now → new.rest.now ≡ drop old.size old.rest.now → (measure_of new ≡ measure_of old) × (new.ending ≡ old.ending) → messages_left old ≡ message ∷ messages_left new
left_command old new message e s h m r k =
    ap (λ z. left_by z (measure_of old) old.rest.now) e ∙ command_more (measure_of old) old.rest.now s h
    ∙ ap (λ z. z ∷ command_messages (measure_of old) (drop old.size old.rest.now)) (sym m)
    ∙ ap (λ z. message ∷ z) (sym (ap (λ z. left_by z (measure_of new) new.rest.now) (k.1 ∙ e) ∙ ap (λ z. command_messages z new.rest.now) k.0 ∙ ap (command_messages (measure_of old)) r))

pub left_file : (old new : Chunks) (message : List ℕ) → old.ending ≡ Empty → 0 < old.size → 0 < length old.rest.now
    → message ≡ take old.size old.rest.now → new.rest.now ≡ drop old.size old.rest.now → (measure_of new ≡ measure_of old) × (new.ending ≡ old.ending) → messages_left old ≡ message ∷ messages_left new
left_file old new message e s h m r k =
    ap (λ z. left_by z (measure_of old) old.rest.now) e ∙ file_more old.size old.rest.now s h
    ∙ ap (λ z. z ∷ file_messages old.size (drop old.size old.rest.now)) (sym m)
    ∙ ap (λ z. message ∷ z) (sym (ap (λ z. left_by z (measure_of new) new.rest.now) (k.1 ∙ e) ∙ ap (λ (z : Measure). file_messages z.size new.rest.now) k.0 ∙ ap (file_messages old.size) r))
