-- Gathering undoes cutting.
use Rattle.std.proofs.Common.{◌≡◌, ◌≢◌, ◌||◌, inl, inr, ℕ, zero, suc, ◌+◌, ◌<◌, ◌≤◌, Bool, true, false, List, [], ◌∷◌, ◌++◌, length, take, drop, replicate, refl, sym, ap, subst, ◌∙◌, arith}
use Rattle.std.proofs.lemmas.Bool.Decides.{nat_tests}
use Rattle.std.proofs.lemmas.List.{append-nil, length-append, length-drop, take-append-drop}
use Rattle.std.proofs.lemmas.List.Elements.{All-weaker}
use Rattle.std.proofs.lemmas.List.Folds.{list_any-append, list_any_none}
use Rattle.std.specs.List.{list_any, concat}
use Rattle.uug_talk.specs.Chunks.{IsCommandText, Measure, command_messages, last_zeros, file_messages}
use Rattle.uug_talk.specs.Gathering.{Kind, OfCommand, OfFile, is_zero, is_empty, text_part, part_of, ends, gathered, behind, with_message, GathersBack}
use Rattle.uug_talk.proofs.ChunkLemmas.{below_or_not, zeros_some, command_last, command_more, file_more}
use Rattle.uug_talk.proofs.GatherLemmas.{before_first-append, before_first-all, gathered_push}

-- One message in front of others.

gathered-cons : (kind : Kind) (piece : List ℕ) (messages : List (List ℕ)) → ends kind piece ≡ false → gathered kind (piece ∷ messages) ≡ behind piece (gathered kind messages)
gathered-cons OfCommand piece messages n =
    ap (λ z. record { kind = OfCommand; bytes = z; whole = list_any is_zero (piece ++ concat messages) }) (before_first-append is_zero piece (concat messages) n)
    ∙ ap (λ b. record { kind = OfCommand; bytes = piece ++ text_part (concat messages); whole = b })
    (list_any-append is_zero piece (concat messages) ∙ ap (λ b. b || list_any is_zero (concat messages)) n)
gathered-cons (OfFile limit) piece messages n =
    ap (λ b. record { kind = OfFile limit; bytes = piece ++ concat messages; whole = b || list_any is_empty messages }) n

part_whole : (kind : Kind) (piece : List ℕ) → ends kind piece ≡ false → part_of kind piece ≡ piece
part_whole OfCommand piece n = before_first-all is_zero piece n
part_whole (OfFile limit) piece n = refl

nothing_open : (kind : Kind) → (gathered kind []).whole ≡ false
nothing_open OfCommand = refl
nothing_open (OfFile limit) = refl

nothing_held : (kind : Kind) → (gathered kind []).bytes ≡ []
nothing_held OfCommand = refl
nothing_held (OfFile limit) = refl

append_is_nil : (xs ys : List (List ℕ)) → [] ≡ xs ++ ys → ys ≡ []
append_is_nil [] ys e = sym e
append_is_nil (x ∷ xs) ys e = absurd cc

-- the last message
gathers_last : (kind : Kind) (message held : List ℕ) → ends kind message ≡ true → part_of kind message ≡ held → GathersBack kind (message ∷ []) held
gathers_last kind message held t p = record {
  whole = sym (gathered_push kind [] message (nothing_open kind)) ∙ last_held kind;
  not_before = none_before;
  within = last_within;
} where
  last_held : (kind' : Kind) → with_message (gathered kind []) message ≡ record { kind = kind; bytes = held; whole = true }
  last_held kind' =
      ap (λ z. record { kind = (gathered kind []).kind; bytes = z ++ part_of (gathered kind []).kind message; whole = ends (gathered kind []).kind message }) (nothing_held kind)
      ∙ ap (λ k. record { kind = k; bytes = part_of k message; whole = ends k message }) (same_kind kind)
      ∙ ap (λ z. record { kind = kind; bytes = z; whole = ends kind message }) p
      ∙ ap (λ b. record { kind = kind; bytes = held; whole = b }) t where
        same_kind : (k : Kind) → (gathered k []).kind ≡ k
        same_kind OfCommand = refl
        same_kind (OfFile limit) = refl

  none_before : (front rest : List (List ℕ)) → message ∷ [] ≡ front ++ rest → rest ≢ [] → (gathered kind front).whole ≡ false
  none_before [] rest e n = nothing_open kind
  none_before (x ∷ xs) rest e n = absurd (n (append_is_nil xs rest (let k : [] ≡ xs ++ rest = cc in k)))

  last_within : (front rest : List (List ℕ)) (m : List ℕ) → message ∷ [] ≡ front ++ m ∷ rest → length (gathered kind front).bytes + length (part_of kind m) ≤ length held
  last_within [] rest m e =
      let k : m ≡ message = cc in
      omega (arith, ap length (nothing_held kind), ap (λ z. length (part_of kind z)) k, ap length p)
  last_within (x ∷ xs) rest m e = absurd (let k = append_is_nil xs (m ∷ rest) (let k : [] ≡ xs ++ m ∷ rest = cc in k) in cc)

-- an earlier one
gathers_more : (kind : Kind) (piece held : List ℕ) (messages : List (List ℕ)) → ends kind piece ≡ false → GathersBack kind messages held → GathersBack kind (piece ∷ messages) (piece ++ held)
gathers_more kind piece held messages n g = record {
  whole = gathered-cons kind piece messages n ∙ ap (behind piece) g.whole;
  not_before = more_before;
  within = more_within;
} where
  more_before : (front rest : List (List ℕ)) → piece ∷ messages ≡ front ++ rest → rest ≢ [] → (gathered kind front).whole ≡ false
  more_before [] rest e r = nothing_open kind
  more_before (x ∷ xs) rest e r =
      let k : x ≡ piece = cc in
      let l : messages ≡ xs ++ rest = cc in
      ap (λ z. (gathered kind (z ∷ xs)).whole) k ∙ ap (λ z. z.whole) (gathered-cons kind piece xs n) ∙ g.not_before xs rest l r

  more_within : (front rest : List (List ℕ)) (m : List ℕ) → piece ∷ messages ≡ front ++ m ∷ rest → length (gathered kind front).bytes + length (part_of kind m) ≤ length (piece ++ held)
  more_within [] rest m e =
      let k : m ≡ piece = cc in
      omega (arith, ap length (nothing_held kind), ap (λ z. length (part_of kind z)) k, ap length (part_whole kind piece n), length-append piece held)
  more_within (x ∷ xs) rest m e =
      let k : x ≡ piece = cc in
      let l : messages ≡ xs ++ m ∷ rest = cc in
      let s : (gathered kind (x ∷ xs)).bytes ≡ piece ++ (gathered kind xs).bytes = ap (λ z. (gathered kind (z ∷ xs)).bytes) k ∙ ap (λ z. z.bytes) (gathered-cons kind piece xs n) in
      omega (arith, ap length s, length-append piece (gathered kind xs).bytes, length-append piece held, g.within xs rest m l)

-- Files.

not_empty : (size : ℕ) (bytes : List ℕ) → 0 < size → 0 < length bytes → is_empty (take size bytes) ≡ false
not_empty zero bytes s h = absurd (omega arith)
not_empty (suc n) [] s h = absurd (omega arith)
not_empty (suc n) (b ∷ bs) s h = refl

file_up_to : (n size limit : ℕ) (bytes : List ℕ) → 0 < size → length bytes ≤ n → GathersBack (OfFile limit) (file_messages size bytes) bytes
file_up_to n size limit [] s h = gathers_last (OfFile limit) [] [] refl refl
file_up_to zero size limit (b ∷ bs) s h = absurd (omega arith)
file_up_to (suc n) size limit (b ∷ bs) s h =
    let xs = b ∷ bs in
    let more : GathersBack (OfFile limit) (file_messages size (drop size (b ∷ bs))) (drop size (b ∷ bs)) = file_up_to n size limit (drop size (b ∷ bs)) s (omega (arith, length-drop size (b ∷ bs))) in
    subst (λ ms. GathersBack (OfFile limit) ms (b ∷ bs)) (sym (file_more size (b ∷ bs) s (omega arith)))
    (subst (λ z. GathersBack (OfFile limit) (take size (b ∷ bs) ∷ file_messages size (drop size (b ∷ bs))) z) (take-append-drop size (b ∷ bs))
    (gathers_more (OfFile limit) (take size (b ∷ bs)) (drop size (b ∷ bs)) (file_messages size (drop size (b ∷ bs))) (not_empty size (b ∷ bs) s (omega arith)) more))

pub file_back : (size limit : ℕ) (bytes : List ℕ) → 0 < size → GathersBack (OfFile limit) (file_messages size bytes) bytes
file_back size limit bytes s = file_up_to (length bytes) size limit bytes s (omega arith)

-- where its front is held, the messages of the rest bring the file
pub file_behind : (size limit offset : ℕ) (bytes : List ℕ) → 0 < size
    → behind (take offset bytes) (gathered (OfFile limit) (file_messages size (drop offset bytes))) ≡ record { kind = OfFile limit; bytes = bytes; whole = true }
file_behind size limit offset bytes s =
    ap (behind (take offset bytes)) (file_back size limit (drop offset bytes) s).whole
    ∙ ap (λ z. record { kind = OfFile limit; bytes = z; whole = true }) (take-append-drop offset bytes)

-- Commands.

both_false : (a b : Bool) → (a || b) ≡ false → (a ≡ false) × (b ≡ false)
both_false true b e = absurd cc
both_false false b e = (refl, e)

halves : (size : ℕ) (text : List ℕ) → list_any is_zero text ≡ false → (list_any is_zero (take size text) ≡ false) × (list_any is_zero (drop size text) ≡ false)
halves size text n =
    both_false _ _ (sym (list_any-append is_zero (take size text) (drop size text)) ∙ ap (list_any is_zero) (take-append-drop size text) ∙ n)

zero_ends : (k : ℕ) → 0 < k → list_any is_zero (replicate k 0) ≡ true
zero_ends zero h = absurd (omega arith)
zero_ends (suc k) h = refl

zeros_say_nothing : (k : ℕ) → text_part (replicate k 0) ≡ []
zeros_say_nothing zero = refl
zeros_say_nothing (suc k) = refl

command_end : (m : Measure) (text : List ℕ) → length text < m.size → list_any is_zero text ≡ false → GathersBack OfCommand (command_messages m text) text
command_end m text h n =
    let zeros : List ℕ = replicate (last_zeros m (length text)) 0 in
    subst (λ ms. GathersBack OfCommand ms text) (sym (command_last m text h))
    (gathers_last OfCommand (text ++ zeros) text
    (list_any-append is_zero text zeros ∙ ap (λ b. b || list_any is_zero zeros) n ∙ zero_ends (last_zeros m (length text)) (zeros_some m (length text) h))
    (before_first-append is_zero text zeros n ∙ ap (λ z. text ++ z) (zeros_say_nothing (last_zeros m (length text))) ∙ append-nil text))

command_up_to : (n : ℕ) (m : Measure) (text : List ℕ) → 0 < m.size → length text ≤ n → list_any is_zero text ≡ false → GathersBack OfCommand (command_messages m text) text
command_up_to zero m text s h k = command_end m text (omega arith) k
command_up_to (suc n) m text s h k = elim (below_or_not (length text) m.size) [
  | inl l ↦ command_end m text l k
  | inr l ↦ (
      let size = m.size in
      let more : GathersBack OfCommand (command_messages m (drop m.size text)) (drop m.size text) = command_up_to n m (drop m.size text) s (omega (arith, length-drop m.size text)) (halves m.size text k).1 in
      subst (λ ms. GathersBack OfCommand ms text) (sym (command_more m text s l))
      (subst (λ z. GathersBack OfCommand (take size text ∷ command_messages m (drop size text)) z) (take-append-drop size text)
      (gathers_more OfCommand (take size text) (drop size text) (command_messages m (drop size text)) (halves size text k).0 more)))
]

no_zero_passes : (b : ℕ) → b ≢ 0 → is_zero b ≡ false
no_zero_passes b n = grind (arith, nat_tests)

pub command_back : (m : Measure) (text : List ℕ) → 0 < m.size → IsCommandText text → GathersBack OfCommand (command_messages m text) text
command_back m text s h =
    command_up_to (length text) m text s (omega arith) (list_any_none is_zero text (All-weaker (λ b. b ≢ 0) (λ b. is_zero b ≡ false) no_zero_passes text h.no_zero))
