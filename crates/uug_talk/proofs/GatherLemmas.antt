-- What messages say together, message by message.
use Rattle.std.proofs.Common.{◌≡◌, ◌||◌, ◌↔◌, ℕ, suc, ◌+◌, ◌<◌, Bool, true, false, List, [], ◌∷◌, ◌++◌, length, IsTrue, Result, Ok, Err, OnOk, refl, sym, ap, ◌∙◌, append_assoc, arith}
use Rattle.std.proofs.lemmas.List.{append-nil}
use Rattle.std.proofs.lemmas.List.Folds.{list_any-append, length-prefix_len}
use Rattle.std.specs.List.{list_any, concat, before_first, position_or_len}
use Rattle.uug_talk.specs.Gathering.{Kind, OfCommand, OfFile, Gathering, is_zero, is_empty, text_part, part_of, ends, gathered, behind, with_message}

one_more : (n : ℕ) → 1 + n ≡ suc n
one_more n = omega arith

module _ (p : ℕ → Bool) where
  any_step : (b : Bool) (x : ℕ) (xs : List ℕ) → p x ≡ b → (position_or_len p xs < length xs → list_any p xs ≡ true) → position_or_len p (x ∷ xs) < length (x ∷ xs) → list_any p (x ∷ xs) ≡ true
  any_step true x xs e h l = rw e refl
  any_step false x xs e h l = rw e (h (let k : 1 + position_or_len p xs < suc (length xs) = simp e at l in omega arith))

  any_below : (xs : List ℕ) → position_or_len p xs < length xs → list_any p xs ≡ true
  any_below [] l = absurd (omega arith)
  any_below (x ∷ xs) l = any_step (p x) x xs refl (any_below xs) l

  below_step : (b : Bool) (x : ℕ) (xs : List ℕ) → p x ≡ b → (list_any p xs ≡ true → position_or_len p xs < length xs) → list_any p (x ∷ xs) ≡ true → position_or_len p (x ∷ xs) < length (x ∷ xs)
  below_step true x xs e h l = simp e (omega arith)
  below_step false x xs e h l = let k = h (rw e at l) in simp e (omega arith)

  below_any : (xs : List ℕ) → list_any p xs ≡ true → position_or_len p xs < length xs
  below_any [] l = absurd cc
  below_any (x ∷ xs) l = below_step (p x) x xs refl (below_any xs) l

  -- where nothing passes in front, the part before the first that passes goes on behind it
  before_step : (b : Bool) (x : ℕ) (xs ys : List ℕ) → p x ≡ b → (list_any p xs ≡ false → before_first p (xs ++ ys) ≡ xs ++ before_first p ys) → list_any p (x ∷ xs) ≡ false → before_first p (x ∷ (xs ++ ys)) ≡ x ∷ (xs ++ before_first p ys)
  before_step true x xs ys e h n = absurd (let k : true ≡ false = rw e at n in cc)
  before_step false x xs ys e h n = simp e (simp one_more (ap (λ z. x ∷ z) (h (rw e at n))))

  pub before_first-append : (xs ys : List ℕ) → list_any p xs ≡ false → before_first p (xs ++ ys) ≡ xs ++ before_first p ys
  before_first-append [] ys n = refl
  before_first-append (x ∷ xs) ys n = before_step (p x) x xs ys refl (before_first-append xs ys) n

  pub before_first-all : (xs : List ℕ) → list_any p xs ≡ false → before_first p xs ≡ xs
  before_first-all xs n = ap (before_first p) (sym (append-nil xs)) ∙ before_first-append xs [] n ∙ append-nil xs

pub zero_within : (xs : List ℕ) → (position_or_len is_zero xs < length xs) ↔ IsTrue (list_any is_zero xs)
zero_within xs = (any_below is_zero xs, below_any is_zero xs)

pub text_len-part : (xs : List ℕ) → length (text_part xs) ≡ position_or_len is_zero xs
text_len-part xs = length-prefix_len _ xs

concat-push : (xss : List (List ℕ)) (xs : List ℕ) → concat (xss ++ xs ∷ []) ≡ concat xss ++ xs
concat-push [] xs = append-nil xs
concat-push (ys ∷ yss) xs = ap (λ z. ys ++ z) (concat-push yss xs) ∙ sym (append_assoc ys (concat yss) xs)

or_false : (b : Bool) → (b || false) ≡ b
or_false true = refl
or_false false = refl

pub gathered_push : (kind : Kind) (messages : List (List ℕ)) (message : List ℕ) → (gathered kind messages).whole ≡ false → with_message (gathered kind messages) message ≡ gathered kind (messages ++ message ∷ [])
gathered_push OfCommand messages message n =
    let text = concat messages in
    let bytes : text_part text ++ text_part message ≡ text_part (concat (messages ++ message ∷ [])) =
    ap (λ z. z ++ text_part message) (before_first-all is_zero text n) ∙ sym (before_first-append is_zero text message n) ∙ ap text_part (sym (concat-push messages message)) in
    let whole : list_any is_zero message ≡ list_any is_zero (concat (messages ++ message ∷ [])) =
    sym (ap (list_any is_zero) (concat-push messages message) ∙ list_any-append is_zero text message ∙ ap (λ b. b || list_any is_zero message) n) in
    ap (λ z. record { kind = OfCommand; bytes = z; whole = list_any is_zero message }) bytes
    ∙ ap (λ b. record { kind = OfCommand; bytes = text_part (concat (messages ++ message ∷ [])); whole = b }) whole
gathered_push (OfFile limit) messages message n =
    let whole : is_empty message ≡ list_any is_empty (messages ++ message ∷ []) =
    sym (list_any-append is_empty messages (message ∷ []) ∙ ap (λ b. b || (is_empty message || false)) n ∙ or_false (is_empty message)) in
    ap (λ z. record { kind = OfFile limit; bytes = z; whole = is_empty message }) (sym (concat-push messages message))
    ∙ ap (λ b. record { kind = OfFile limit; bytes = concat (messages ++ message ∷ []); whole = b }) whole

-- the same behind what is held already
pub behind_push : (front : List ℕ) (kind : Kind) (messages : List (List ℕ)) (message : List ℕ) → (gathered kind messages).whole ≡ false
    → behind front (gathered kind (messages ++ message ∷ [])) ≡ with_message (behind front (gathered kind messages)) message
behind_push front kind messages message n =
    let g : Gathering = gathered kind messages in
    ap (behind front) (sym (gathered_push kind messages message n))
    ∙ ap (λ z. record { kind = g.kind; bytes = z; whole = ends g.kind message }) (sym (append_assoc front g.bytes (part_of g.kind message)))

-- one message more
pub gathered_more : (g : Gathering) (messages : List (List ℕ)) (message : List ℕ) → g.whole ≡ false → g ≡ gathered g.kind messages → with_message g message ≡ gathered g.kind (messages ++ message ∷ [])
gathered_more g messages message n e =
    ap (λ h. with_message h message) e ∙ gathered_push g.kind messages message (sym (ap (λ h. h.whole) e) ∙ n)

pub joined_when_ok : {T E : Type 0} (r : Result T E) (old new : Gathering) (message : List ℕ) → old.whole ≡ false → OnOk r (new ≡ with_message old message)
    → OnOk r ((messages : List (List ℕ)) → old ≡ gathered old.kind messages → new ≡ gathered old.kind (messages ++ message ∷ []))
joined_when_ok (Ok x) old new message n e = λ messages h. e ∙ gathered_more old messages message n h
joined_when_ok (Err d) old new message n e = tt
