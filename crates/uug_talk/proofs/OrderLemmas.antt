-- The function that reads a command and the relation between a text and a command agree.
use Rattle.std.proofs.Common.{◌≡◌, ◌==◌, ℕ, zero, suc, ◌≤◌, Bool, true, false, List, [], ◌∷◌, length, codes, nat_lt, Option, Some, None, Result, Ok, Err, IfOk, Contains, refl, sym, ap, subst, ◌∙◌, arith}
use Rattle.std.proofs.lemmas.Bool.Decides.{nat_tests}
use Rattle.std.specs.List.{list_any}
use Rattle.uug_talk.specs.declared.error.BadText.{BadText}
use Rattle.uug_talk.specs.declared.error.BadText.TheVariants as fault
use Rattle.uug_talk.specs.declared.order.Order.{Order}
use Rattle.uug_talk.specs.declared.order.Order.TheVariants.{Send, Request, HangUp}
use Rattle.uug_talk.specs.declared.words.TheConstants.{COMMAND_MAX}
use Rattle.uug_talk.specs.Mode.{mode_read}
use Rattle.uug_talk.specs.Name.{name_read}
use Rattle.uug_talk.specs.Order.{IsOptions, NamesCopy, SpellsOrder, ReadsOrder, begins_with_dash, temp_read, send_read, send_of, request_read, request_of, order_by, order_of_words, order_of}
use Rattle.uug_talk.specs.Words.{words}
use Rattle.uug_talk.proofs.ModeLemmas.{mode_read-of, mode_from_read}
use Rattle.uug_talk.proofs.NameLemmas.{name_read-of, name_from_read}
use Rattle.uug_talk.proofs.ResultLemmas.{by_test, bind_ok}

-- The options.

pub dash_begins : (word : List ℕ) → IsOptions word → begins_with_dash word ≡ true
dash_begins word (letters, e) = ap begins_with_dash e

pub dash_from_test : (word : List ℕ) → begins_with_dash word ≡ true → IsOptions word
dash_from_test [] e = absurd cc
dash_from_test (b ∷ bs) e = let k : b ≡ 45 = grind (arith, nat_tests) in (bs, ap (λ z. z ∷ bs) k)

pub any_from_contains : (y : ℕ) (xs : List ℕ) → Contains xs y → list_any (λ b. b == y) xs ≡ true
any_from_contains y [] h = absurd (omega (arith, h.1))
any_from_contains y (x ∷ xs) (zero, h, e) = grind (arith, nat_tests)
any_from_contains y (x ∷ xs) (suc k, h, e) = let r = any_from_contains y xs (k, omega arith, e) in grind (arith, nat_tests)

contains_later : (y x : ℕ) (xs : List ℕ) → Contains xs y → Contains (x ∷ xs) y
contains_later y x xs (k, h, e) = (suc k, omega arith, e)

by_head : (y x : ℕ) (xs : List ℕ) (b : Bool) → (x == y) ≡ b → list_any (λ b. b == y) (x ∷ xs) ≡ true → (list_any (λ b. b == y) xs ≡ true → Contains xs y) → Contains (x ∷ xs) y
by_head y x xs true t e later = let k : x ≡ y = grind (arith, nat_tests) in (0, omega arith, k)
by_head y x xs false t e later = contains_later y x xs (later (rw t at e))

pub contains_from_any : (y : ℕ) (xs : List ℕ) → list_any (λ b. b == y) xs ≡ true → Contains xs y
contains_from_any y [] e = absurd cc
contains_from_any y (x ∷ xs) e = by_head y x xs (x == y) refl e (contains_from_any y xs)

temp_read-of : (options word : List ℕ) (temp : Option (List ℕ)) → NamesCopy options word temp → temp_read options word ≡ Ok temp
temp_read-of options word None h = no_copy (list_any (λ b. b == 67) options) refl where
  no_copy : (b : Bool) → list_any (λ b. b == 67) options ≡ b → temp_read options word ≡ Ok None
  no_copy true e = absurd (h (contains_from_any 67 options e))
  no_copy false e = rw e refl
temp_read-of options word (Some temp) (c, n, e) = rw (any_from_contains 67 options c, e, name_read-of temp n) refl

pub copy_from_read : (options word : List ℕ) (temp : Option (List ℕ)) → temp_read options word ≡ Ok temp → NamesCopy options word temp
copy_from_read options word temp e = by_test e
    (λ t e. let n = bind_ok (name_read word) (λ name. Ok (Some name)) temp e in
    let r = name_from_read word n.0 n.1 in
    let k : Some n.0 ≡ temp = cc in
    subst (NamesCopy options word) k (contains_from_any 67 options t, r.0, r.1))
    (λ t e. let k : None ≡ temp = cc in
    subst (NamesCopy options word) k (λ c. absurd (let a = any_from_contains 67 options c in cc)))

-- What is written so is read.

order-only : (ws : List (List ℕ)) (order : Order) → SpellsOrder ws order → order_of_words ws ≡ Ok order
order-only ws (Send source target user temp mode) h =
    ap order_of_words h.spelled
    ∙ rw (dash_begins h.options h.dash, name_read-of source h.names.0, name_read-of target h.names.1, name_read-of user h.names.2, temp_read-of h.options h.copy temp h.temp_name, mode_read-of h.digits h.octal.0, h.octal.1) refl
order-only ws (Request source target user) h =
    ap order_of_words h.spelled
    ∙ rw (dash_begins h.options h.dash, name_read-of source h.names.0, name_read-of target h.names.1, name_read-of user h.names.2) refl
order-only ws HangUp (more, e) = ap order_of_words e

pub order_of-spelled : (text : List ℕ) (order : Order) → ReadsOrder text order → order_of text ≡ Ok order
order_of-spelled text order h =
    let short : length text ≤ COMMAND_MAX = h.within in
    let e = order-only (words text) order h.spelled in
    grind (arith, nat_tests)

-- What is read is written so.

as_order : (ws : List (List ℕ)) (found order : Order) → SpellsOrder ws found → ◌≡◌ {A = Result Order BadText} (Ok found) (Ok order) → SpellsOrder ws order
as_order ws found order s e = let k : found ≡ order = cc in subst (SpellsOrder ws) k s

spells_send : (source target user options temp mode : List ℕ) (more : List (List ℕ)) (order : Order) → send_read source target user options temp mode ≡ Ok order → SpellsOrder (codes "S" ∷ source ∷ target ∷ user ∷ options ∷ temp ∷ mode ∷ more) order
spells_send source target user options temp mode more order e = by_test e
    (λ t e.
    let s = bind_ok (name_read source) _ order e in
    let t' = bind_ok (name_read target) _ order s.2 in
    let u = bind_ok (name_read user) _ order t'.2 in
    let c = bind_ok (temp_read options temp) _ order u.2 in
    let m = bind_ok (mode_read mode) _ order c.2 in
    let sn = name_from_read source s.0 s.1 in
    let tn = name_from_read target t'.0 t'.1 in
    let un = name_from_read user u.0 u.1 in
    as_order _ (Send s.0 t'.0 u.0 c.0 m.0) order (record {
      options = options;
      copy = temp;
      digits = mode;
      more = more;
      spelled = cc;
      dash = dash_from_test options t;
      names = (sn.0, tn.0, un.0);
      temp_name = copy_from_read options temp c.0 c.1;
      octal = mode_from_read mode m.0 m.1;
    }) m.2)
    (λ _ e. absurd cc)

spells_request : (source target user options : List ℕ) (more : List (List ℕ)) (order : Order) → request_read source target user options ≡ Ok order → SpellsOrder (codes "R" ∷ source ∷ target ∷ user ∷ options ∷ more) order
spells_request source target user options more order e = by_test e
    (λ t e.
    let s = bind_ok (name_read source) _ order e in
    let t' = bind_ok (name_read target) _ order s.2 in
    let u = bind_ok (name_read user) _ order t'.2 in
    let sn = name_from_read source s.0 s.1 in
    let tn = name_from_read target t'.0 t'.1 in
    let un = name_from_read user u.0 u.1 in
    as_order _ (Request s.0 t'.0 u.0) order (record {
      options = options;
      more = more;
      spelled = cc;
      dash = dash_from_test options t;
      names = (sn.0, tn.0, un.0);
    }) u.2)
    (λ _ e. absurd cc)

spells_send_words : (ws : List (List ℕ)) (order : Order) → send_of ws ≡ Ok order → SpellsOrder (codes "S" ∷ ws) order
spells_send_words [] order e = absurd cc
spells_send_words (a ∷ []) order e = absurd cc
spells_send_words (a ∷ b ∷ []) order e = absurd cc
spells_send_words (a ∷ b ∷ c ∷ []) order e = absurd cc
spells_send_words (a ∷ b ∷ c ∷ d ∷ []) order e = absurd cc
spells_send_words (a ∷ b ∷ c ∷ d ∷ f ∷ []) order e = absurd cc
spells_send_words (a ∷ b ∷ c ∷ d ∷ f ∷ g ∷ more) order e = spells_send a b c d f g more order e

spells_request_words : (ws : List (List ℕ)) (order : Order) → request_of ws ≡ Ok order → SpellsOrder (codes "R" ∷ ws) order
spells_request_words [] order e = absurd cc
spells_request_words (a ∷ []) order e = absurd cc
spells_request_words (a ∷ b ∷ []) order e = absurd cc
spells_request_words (a ∷ b ∷ c ∷ []) order e = absurd cc
spells_request_words (a ∷ b ∷ c ∷ d ∷ more) order e = spells_request a b c d more order e

letter_is : (letter y : ℕ) (more : List (List ℕ)) (order : Order) → (letter == y) ≡ true → SpellsOrder ((y ∷ []) ∷ more) order → SpellsOrder ((letter ∷ []) ∷ more) order
letter_is letter y more order t h = let k : y ≡ letter = grind (arith, nat_tests) in subst (λ z. SpellsOrder ((z ∷ []) ∷ more) order) k h

spells_by : (letter : ℕ) (more : List (List ℕ)) (order : Order) → order_by letter more ≡ Ok order → SpellsOrder ((letter ∷ []) ∷ more) order
spells_by letter more order e =
    by_test e (λ t e. letter_is letter 83 more order t (spells_send_words more order e)) (λ _ e.
    by_test e (λ t e. letter_is letter 82 more order t (spells_request_words more order e)) (λ _ e.
    by_test e (λ t e. letter_is letter 72 more order t (as_order _ HangUp order (more, refl) e)) (λ _ e. absurd cc)))

spells_read : (ws : List (List ℕ)) (order : Order) → order_of_words ws ≡ Ok order → SpellsOrder ws order
spells_read [] order e = absurd cc
spells_read ([] ∷ more) order e = absurd cc
spells_read ((letter ∷ []) ∷ more) order e = spells_by letter more order e
spells_read ((letter ∷ next ∷ behind) ∷ more) order e = absurd cc

pub order_is_spelled : (text : List ℕ) (order : Order) → order_of text ≡ Ok order → ReadsOrder text order
order_is_spelled text order e =
    by_test {b = nat_lt COMMAND_MAX (length text)} {x = Err fault.TooLong} {y = order_of_words (words text)} {z = Ok order} e (λ _ e. absurd cc)
    (λ t e. record { within = grind (arith, nat_tests); spelled = spells_read (words text) order e })

pub found_order : (text : List ℕ) (r : Result Order BadText) → r ≡ order_of text → IfOk r (λ order. ReadsOrder text order)
found_order text (Ok order) e = order_is_spelled text order (sym e)
found_order text (Err d) e = tt
