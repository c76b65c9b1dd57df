-- What an end says in the greeting is heard as those texts.
use Rattle.std.proofs.Common.{◌≡◌, ◌≢◌, ℕ, ◌+◌, ◌%◌, ◌<◌, ◌≤◌, Bool, true, false, List, [], ◌∷◌, ◌++◌, length, drop, All, Option, None, Some, codes, refl, sym, ap, ◌∙◌, append_assoc, length-append, get_or, lit≤, rules, arith}
use Rattle.std.specs.Prelude.{option_and_then, if◌then◌else◌}
use Rattle.std.proofs.lemmas.Bool.Decides.{nat_tests}
use Rattle.std.proofs.Math.Nat.{mod-lt}
use Rattle.std.proofs.Math.Seq.{drop-append_seam}
use Rattle.std.proofs.lemmas.List.{append-nil}
use Rattle.std.proofs.lemmas.List.Elements.{All-append, All-head, All-tail, All-nil, All-cons}
use Rattle.uug_talk.specs.declared.hail.TheConstants.{HAIL_MAX}
use Rattle.uug_talk.specs.Call.{call_text, number_in_call}
use Rattle.uug_talk.specs.Name.{IsName}
use Rattle.uug_talk.specs.StreamTexts.{TextsEnd, Rest, TooLong, texts_of, with_text}
use Rattle.uug_talk.specs.Texts.{IsPlain, IsHailText, Passing, Open, Whole, heard_byte, one_used, hear, written_text}
use Rattle.std.specs.Str.{bytes_eq}
use Rattle.uug_session.specs.declared.greeting.AwaitedText.{AwaitedText}
use Rattle.uug_session.specs.declared.greeting.AwaitedText.TheVariants.{CalledName, CallerName, Admission, Protocols, Choice}
use Rattle.uug_session.specs.declared.greeting.Greeted.{Greeted}
use Rattle.uug_session.specs.declared.greeting.Greeted.TheVariants.{GoesOn, LinkBegins, Ended}
use Rattle.uug_session.specs.declared.greeting.Greeting.{Greeting}
use Rattle.uug_session.specs.Greeting.{GreetingStep, called_text, begins_with, is_expected, name_in_caller_text, number_by, number_came, offers_g, came_for, risen, text_came}
use Rattle.uug_talk.proofs.CallLemmas.{hail_with_number, hail_without_number}
use Rattle.uug_session.specs.WholeGreeting.{GreetingRun, IsNumber, written_texts, with_no_text, step_behind, texts_came}
use Rattle.uug_talk.proofs.StreamTextLemmas.{of_whole}

hear_whole : (text bytes : List ℕ) → hear (Whole text) bytes ≡ Some (0, Whole text)
hear_whole text [] = refl
hear_whole text (b ∷ bs) = refl

-- one byte more of a text
heard_plain : (text : List ℕ) (b : ℕ) → IsPlain b → length text < HAIL_MAX → heard_byte (Open text) b ≡ Some (Open (text ++ b ∷ []))
heard_plain text b p l =
    let s : b ≢ 16 = p.no_start in
    let z : b ≢ 0 = p.no_zero in
    let f : b ≢ 10 = p.no_line_feed in
    grind (arith, nat_tests)

-- a text up to its zero byte
pub hear_text : (text more : List ℕ) (rest : List ℕ) → All IsPlain more → length text + length more ≤ HAIL_MAX → hear (Open text) (more ++ 0 ∷ rest) ≡ Some (length more + 1, Whole (text ++ more))
hear_text text [] rest p l = ap (option_and_then one_used) (hear_whole text rest) ∙ ap (λ t. Some (1, Whole t)) (sym (append-nil text))
hear_text text (b ∷ more) rest p l =
    let byte = heard_plain text b (All-head IsPlain b more p) (omega arith) in
    let later = hear_text (text ++ b ∷ []) more rest (All-tail IsPlain b more p) (omega (arith, length-append text (b ∷ []))) in
    let n : 1 + (length more + 1) ≡ length (b ∷ more) + 1 = omega arith in
    ap (option_and_then (λ next. option_and_then one_used (hear next (more ++ 0 ∷ rest)))) byte
    ∙ ap (option_and_then one_used) later
    ∙ ap (λ k. Some (k, Whole ((text ++ b ∷ []) ++ more))) n
    ∙ ap (λ t. Some (length (b ∷ more) + 1, Whole t)) (append_assoc text (b ∷ []) more)

pub hear_written : (text rest : List ℕ) → IsHailText text → hear Passing (written_text text ++ rest) ≡ Some (length text + 2, Whole text)
hear_written text rest h =
    let n : 1 + (length text + 1) ≡ length text + 2 = omega arith in
    ap (λ bytes. option_and_then one_used (hear (Open []) bytes)) (append_assoc text (0 ∷ []) rest)
    ∙ ap (option_and_then one_used) (hear_text [] text rest h.plain (omega (arith, h.short)))
    ∙ ap (λ k. Some (k, Whole text)) n

behind_written : (text rest : List ℕ) → drop (length text + 2) (written_text text ++ rest) ≡ rest
behind_written text rest =
    let n : length text + 2 ≡ length (written_text text) = omega (arith, length-append text (0 ∷ [])) in
    ap (λ k. drop k (written_text text ++ rest)) n ∙ drop-append_seam (written_text text) rest

-- the texts of written texts are those texts
pub texts_of-written : (texts : List (List ℕ)) → All IsHailText texts → texts_of (written_texts texts) ≡ record { texts = texts; end = Rest [] }
texts_of-written [] h = refl
texts_of-written (text ∷ texts) h =
    of_whole Passing [] (written_text text ++ written_texts texts) text (length text + 2) (All-nil (λ b. b ≢ 16)) (hear_written text (written_texts texts) (All-head IsHailText text texts h))
    ∙ ap (λ bytes. with_text text (texts_of bytes)) (behind_written text (written_texts texts))
    ∙ ap (with_text text) (texts_of-written texts (All-tail IsHailText text texts h))

-- ---- what is said may be written as texts

either : {A : Type 0} (P : A → Type 0) (b : Bool) (x y : A) → P x → P y → P (if b then x else y)
either P true x y h k = h
either P false x y h k = k

plain_byte : (b : ℕ) → 33 ≤ b → IsPlain b
plain_byte b h = record { no_start = λ e. omega (arith, e); no_zero = λ e. omega (arith, e); no_line_feed = λ e. omega (arith, e) }

plain_name : (name : List ℕ) → IsName name → All IsPlain name
plain_name name h = λ k d l. plain_byte (get_or name k d) (h.printing k d l).0

pub said_called : (name : List ℕ) → IsName name → IsHailText (called_text name)
said_called name h = record {
  short = let s = h.short in omega (arith, length-append (codes "Shere=") name);
  plain = All-append IsPlain (codes "Shere=") name (search rules) (plain_name name h);
}

pub said_caller : (name : List ℕ) (number : Option ℕ) → IsName name → IsNumber number → IsHailText (call_text name number)
said_caller name None h k = hail_without_number (call_text name None) name h refl
said_caller name (Some number) h k = hail_with_number (call_text name (Some number)) name number h (omega (arith, k)) refl

said_known : IsHailText (codes "ROK")
said_known = record { short = lit≤ tt; plain = search rules }

said_protocols : IsHailText (codes "Pg")
said_protocols = record { short = lit≤ tt; plain = search rules }

said_unknown : IsHailText (codes "RYou are unknown to me")
said_unknown = record { short = lit≤ tt; plain = search rules }

said_bad_number : IsHailText (codes "RBADSEQ")
said_bad_number = record { short = lit≤ tt; plain = search rules }

said_choice : IsHailText (codes "Ug")
said_choice = record { short = lit≤ tt; plain = search rules }

said_no_choice : IsHailText (codes "UN")
said_no_choice = record { short = lit≤ tt; plain = search rules }

abbrev SaysTexts : GreetingStep → Type 0
SaysTexts step = All IsHailText step.says

nothing : All IsHailText []
nothing = All-nil IsHailText

one : (text : List ℕ) → IsHailText text → All IsHailText (text ∷ [])
one text h = All-cons IsHailText text [] h nothing

number_says : (expected : Bool) → SaysTexts (number_came expected)
number_says false = one (codes "RBADSEQ") said_bad_number
number_says true = All-cons IsHailText (codes "ROK") (codes "Pg" ∷ []) said_known (one (codes "Pg") said_protocols)

came_says : (awaited : AwaitedText) (me peer : List ℕ) (number : Option ℕ) (g : Greeting) (text : List ℕ) → IsName me → IsNumber number
    → SaysTexts (came_for awaited me peer number g text)
came_says CalledName me peer number g text h k =
    let told = one (call_text me number) (said_caller me number h k) in
    either SaysTexts (bytes_eq text (codes "Shere")) _ _ told
    (either SaysTexts (begins_with text (codes "Shere=")) _ _
    (either SaysTexts (bytes_eq (drop 6 text) peer) _ _ told nothing) nothing)
came_says CallerName me peer number g text h k =
    either SaysTexts (begins_with text (codes "S")) _ _
    (either SaysTexts (bytes_eq (name_in_caller_text text) peer) _ _
    (number_says (is_expected number (number_in_call text)))
    (one (codes "RYou are unknown to me") said_unknown)) nothing
came_says Admission me peer number g text h k =
    either SaysTexts (begins_with text (codes "ROK")) _ _ nothing
    (either SaysTexts (begins_with text (codes "RBADSEQ")) _ _ nothing
    (either SaysTexts (begins_with text (codes "R")) _ _ nothing nothing))
came_says Protocols me peer number g text h k =
    either SaysTexts (begins_with text (codes "P")) _ _
    (either SaysTexts (offers_g text) _ _ (one (codes "Ug") said_choice) (one (codes "UN") said_no_choice)) nothing
came_says Choice me peer number g text h k =
    either SaysTexts (bytes_eq text (codes "Ug")) _ _ nothing (either SaysTexts (begins_with text (codes "U")) _ _ nothing nothing)

-- a number that has risen is one
risen_is_number : (number : Option ℕ) → IsNumber number → IsNumber (risen number)
risen_is_number None k = k
risen_is_number (Some number) k = let less : (number + 1) % 4294967296 < 4294967296 = mod-lt (number + 1) (omega arith) in omega (arith, less)

number_after : (rises : Bool) (number : Option ℕ) → IsNumber number → IsNumber (number_by rises number)
number_after false number k = k
number_after true number k = risen_is_number number k

behind_says : (more : Option ℕ → Greeting → GreetingRun) (says : List (List ℕ)) (number : Option ℕ) (greeted : Greeted) → All IsHailText says
    → ((g : Greeting) → All IsHailText (more number g).says) → All IsHailText (step_behind more says number greeted).says
behind_says more says number (GoesOn g) h k = All-append IsHailText says (more number g).says h (k g)
behind_says more says number LinkBegins h k = h
behind_says more says number (Ended how) h k = h

no_text_says : (end : TextsEnd) (number : Option ℕ) (g : Greeting) → All IsHailText (with_no_text end number g).says
no_text_says (Rest bytes) number g = nothing
no_text_says TooLong number g = nothing

pub run_says : (me peer : List ℕ) (texts : List (List ℕ)) (end : TextsEnd) (number : Option ℕ) (g : Greeting) → IsName me → IsNumber number
    → All IsHailText (texts_came me peer texts end number g).says
run_says me peer [] end number g h k = no_text_says end number g
run_says me peer (text ∷ texts) end number g h k =
    let came = text_came me peer number g text in
    behind_says (texts_came me peer texts end) came.says (number_by came.rises number) came.greeted
    (came_says g.awaited me peer number g text h k)
    (λ next. run_says me peer texts end (number_by came.rises number) next h (number_after came.rises number k))
