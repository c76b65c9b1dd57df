-- Two ends that greet each other over a clean line.
use Rattle.std.proofs.Common.{◌≡◌, ◌≢◌, ℕ, ◌≤◌, Bool, true, false, List, [], ◌∷◌, ◌++◌, ◌<◌, length, length-append, take, get_or, All, Option, None, Some, codes, refl, sym, ap, subst, ◌∙◌, arith}
use Rattle.std.specs.Prelude.{if◌then◌else◌}
use Rattle.std.specs.List.{position_or_len}
use Rattle.std.specs.Str.{bytes_eq}
use Rattle.std.proofs.lemmas.Bool.Decides.{nat_tests}
use Rattle.std.proofs.Math.Seq.{get_or-append_seam, take-append_seam}
use Rattle.std.proofs.lemmas.List.{get_or_append_left, take_all}
use Rattle.std.proofs.lemmas.List.Sums.{position_or_len_is}
use Rattle.std.proofs.lemmas.Slice.Eq.{bytes_eq-Decides}
use Rattle.std.proofs.lemmas.Bool.{false_from_ne_true}
use Rattle.std.proofs.lemmas.List.Elements.{All-cons}
use Rattle.uug_talk.specs.Call.{call_text, number_in_call, number_word}
use Rattle.uug_talk.specs.Name.{IsName}
use Rattle.uug_talk.specs.StreamTexts.{StreamTexts, Rest, HasTexts}
use Rattle.uug_talk.specs.Texts.{IsHailText}
use Rattle.uug_talk.specs.Words.{is_space}
use Rattle.uug_session.specs.declared.end.End.TheVariants.{WrongName, Refused, BadSequence}
use Rattle.uug_session.specs.declared.greeting.AwaitedText.TheVariants.{CalledName, CallerName, Admission, Choice}
use Rattle.uug_session.specs.declared.greeting.Greeted.{Greeted}
use Rattle.uug_session.specs.declared.greeting.Greeted.TheVariants.{GoesOn, LinkBegins, Ended}
use Rattle.uug_session.specs.declared.greeting.Greeting.{Greeting}
use Rattle.uug_session.specs.Greeting.{GreetingStep, first_greeting, goes_on, fails, called_text, is_expected, name_in_caller_text, number_by, number_came, risen}
use Rattle.uug_talk.proofs.CallLemmas.{call_with_number, call_without_number}
use Rattle.uug_session.specs.WholeGreeting.{GreetingRun, GreetsBy, GreetEachOther, IsNumber, BecomeOf, behind_text, step_behind, texts_came, saying_first, written_texts}
use Rattle.uug_session.proofs.Greetings.SaidTextLemmas.{texts_of-written, run_says, said_called}
use Rattle.uug_session.proofs.Greetings.WholeGreetingLemmas.{first_stand, one_run}
use Rattle.uug_talk.proofs.StreamTextLemmas.{reads}

-- a run of these texts, with nothing behind them
abbrev run_of : (me peer : List ℕ) → List (List ℕ) → Option ℕ → Greeting → GreetingRun
run_of me peer texts number g = texts_came me peer texts (Rest []) number g

-- ---- the name in a caller's text, and the number

name_alone : (name : List ℕ) → IsName name → name_in_caller_text (codes "S" ++ name) ≡ name
name_alone name h =
    let len : position_or_len is_space name ≡ length name =
    position_or_len_is is_space name (length name) 0 (omega arith)
    (λ k l. let p : 33 ≤ get_or name k 0 = (h.printing k 0 l).0 in grind (arith, nat_tests))
    (λ l. absurd (omega arith)) in
    ap (λ n. take n name) len ∙ take_all (length name) name (omega arith)

name_in_front : (name rest : List ℕ) → IsName name → name_in_caller_text (codes "S" ++ name ++ 32 ∷ rest) ≡ name
name_in_front name rest h =
    let all = name ++ 32 ∷ rest in
    let within : length name < length all = omega (arith, length-append name (32 ∷ rest)) in
    let len : position_or_len is_space all ≡ length name =
    position_or_len_is is_space all (length name) 0 (omega (arith, within))
    (λ k l. let p : 33 ≤ get_or name k 0 = (h.printing k 0 l).0 in let same = get_or_append_left name (32 ∷ rest) 0 k l in ap is_space same ∙ solid (get_or name k 0) p)
    (λ l. ap is_space (get_or-append_seam name 32 rest 0)) in
    ap (λ n. take n all) len ∙ take-append_seam name (32 ∷ rest) where
      solid : (b : ℕ) → 33 ≤ b → is_space b ≡ false
      solid b p = grind (arith, nat_tests)

name_back : (name : List ℕ) (number : Option ℕ) → IsName name → name_in_caller_text (call_text name number) ≡ name
name_back name None h = name_alone name h
name_back name (Some number) h = name_in_front name (number_word number) h

number_back : (name : List ℕ) (number : Option ℕ) → IsName name → IsNumber number → number_in_call (call_text name number) ≡ number
number_back name None h k = call_without_number (call_text name None) name h refl
number_back name (Some number) h k = call_with_number (call_text name (Some number)) name number h (omega (arith, k)) refl

-- ---- the first text of each end

-- by whether the name that the called end says is the one that was meant
after_called_name : (caller meant : List ℕ) (number : Option ℕ) (texts : List (List ℕ)) (known : Bool) → GreetingRun
after_called_name caller meant number texts known =
    let step : GreetingStep = if known then goes_on (call_text caller number ∷ []) Admission else fails [] WrongName in
    step_behind (λ m g. run_of caller meant texts m g) step.says (number_by step.rises number) step.greeted

called_name_said : (caller meant called : List ℕ) (number : Option ℕ) (texts : List (List ℕ))
    → run_of caller meant (called_text called ∷ texts) number (first_greeting CalledName) ≡ after_called_name caller meant number texts (bytes_eq called meant)
unfolding after_called_name
called_name_said caller meant called number texts = refl

-- by whether the name that the caller says is the one that is expected, and whether its number is
after_caller_name : (called expected : List ℕ) (number : Option ℕ) (texts : List (List ℕ)) (known same : Bool) → GreetingRun
after_caller_name called expected number texts known same =
    let step : GreetingStep = if known then number_came same else fails (codes "RYou are unknown to me" ∷ []) Refused in
    step_behind (λ n g. run_of called expected texts n g) step.says (number_by step.rises number) step.greeted

caller_name_said : (caller called expected : List ℕ) (m n : Option ℕ) (texts : List (List ℕ)) → IsName caller → IsNumber m
    → run_of called expected (call_text caller m ∷ texts) n (first_greeting CallerName)
    ≡ after_caller_name called expected n texts (bytes_eq caller expected) (is_expected n m)
unfolding after_caller_name
caller_name_said caller called expected None n texts h k =
    ap (λ name. after_caller_name called expected n texts (bytes_eq name expected) (is_expected n (number_in_call (call_text caller None)))) (name_back caller None h)
    ∙ ap (λ told. after_caller_name called expected n texts (bytes_eq caller expected) (is_expected n told)) (number_back caller None h k)
caller_name_said caller called expected (Some m) n texts h k =
    ap (λ name. after_caller_name called expected n texts (bytes_eq name expected) (is_expected n (number_in_call (call_text caller (Some m))))) (name_back caller (Some m) h)
    ∙ ap (λ told. after_caller_name called expected n texts (bytes_eq caller expected) (is_expected n told)) (number_back caller (Some m) h k)

-- ---- what each hears is what the other says

-- what each end makes of what it hears, by the texts that the other says
pub record Answer (caller meant called expected : List ℕ) (m n : Option ℕ) (at_caller at_called : GreetingRun) : Type 0 where
  pub at_caller_is : at_caller ≡ run_of caller meant (called_text called ∷ at_called.says) m (first_greeting CalledName)
  pub at_called_is : at_called ≡ run_of called expected at_caller.says n (first_greeting CallerName)

hears_said : (me peer : List ℕ) (number : Option ℕ) (g : Greeting) (texts : List (List ℕ)) (run : GreetingRun) (behind : List ℕ) → All IsHailText texts → GreetsBy me peer number g (written_texts texts) run behind → run ≡ run_of me peer texts number g
hears_said me peer number g texts run behind h k =
    one_run me peer number g (written_texts texts) run behind k
    ∙ ap (λ (f : StreamTexts). texts_came me peer f.texts f.end number g) (texts_of-written texts h)

said_by : (me peer : List ℕ) (number : Option ℕ) (g : Greeting) (delivered : List ℕ) (run : GreetingRun) (behind : List ℕ) → IsName me → IsNumber number → GreetsBy me peer number g delivered run behind → All IsHailText run.says
said_by me peer number g delivered run behind h k_n k =
    subst (λ (r : GreetingRun). All IsHailText r.says) (sym k.came) (run_says me peer k.found.texts k.found.end number g h k_n)

heard_by_caller : (caller meant called expected : List ℕ) (m n : Option ℕ) (at_caller at_called : GreetingRun) (met : GreetEachOther caller meant called expected m n at_caller at_called)
    → GreetsBy caller meant m (first_greeting CalledName) (written_texts (called_text called ∷ met.called_hears.heard.says)) met.caller_hears.heard met.caller_left
heard_by_caller caller meant called expected m n at_caller at_called met =
    subst (λ (r : GreetingRun). GreetsBy caller meant m (first_greeting CalledName) (written_texts r.says) met.caller_hears.heard met.caller_left) met.called_hears.whole met.caller_hears.greets

heard_by_called : (caller meant called expected : List ℕ) (m n : Option ℕ) (at_caller at_called : GreetingRun) (met : GreetEachOther caller meant called expected m n at_caller at_called)
    → GreetsBy called expected n (first_greeting CallerName) (written_texts met.caller_hears.heard.says) met.called_hears.heard met.called_left
heard_by_called caller meant called expected m n at_caller at_called met =
    subst (λ (r : GreetingRun). GreetsBy called expected n (first_greeting CallerName) (written_texts r.says) met.called_hears.heard met.called_left) met.caller_hears.whole met.called_hears.greets

pub answer : (caller meant called expected : List ℕ) (m n : Option ℕ) (at_caller at_called : GreetingRun) → IsName caller → IsName called → IsNumber m → IsNumber n
    → (met : GreetEachOther caller meant called expected m n at_caller at_called) → Answer caller meant called expected m n met.caller_hears.heard met.called_hears.heard
answer caller meant called expected m n at_caller at_called h k k_m k_n met =
    let at_one = heard_by_caller caller meant called expected m n at_caller at_called met in
    let at_other = heard_by_called caller meant called expected m n at_caller at_called met in
    let caller_said = met.caller_hears.heard.says in
    let called_said = met.called_hears.heard.says in
    record {
      at_caller_is = hears_said caller meant m (first_greeting CalledName) (called_text called ∷ called_said) met.caller_hears.heard met.caller_left
          (All-cons IsHailText (called_text called) called_said (said_called called k)
          (said_by called expected n (first_greeting CallerName) (written_texts caller_said) met.called_hears.heard met.called_left k k_n at_other))
          at_one;
      at_called_is = hears_said called expected n (first_greeting CallerName) caller_said met.called_hears.heard met.called_left
          (said_by caller meant m (first_greeting CalledName) (written_texts (called_text called ∷ called_said)) met.caller_hears.heard met.caller_left h k_m at_one)
          at_other;
    }

-- what becomes of what each hears becomes of its whole greeting
pub become_whole : (caller meant called expected : List ℕ) (m n : Option ℕ) (at_caller at_called : GreetingRun) (one other : Greeted) (m_then n_then : Option ℕ) (met : GreetEachOther caller meant called expected m n at_caller at_called)
    → BecomeOf met.caller_hears.heard met.called_hears.heard one other m_then n_then → BecomeOf at_caller at_called one other m_then n_then
become_whole caller meant called expected m n at_caller at_called one other m_then n_then met b = record {
  caller_is = ap (λ (r : GreetingRun). r.greeted) met.caller_hears.whole ∙ b.caller_is;
  called_is = ap (λ (r : GreetingRun). r.greeted) met.called_hears.whole ∙ b.called_is;
  caller_keeps = ap (λ (r : GreetingRun). r.number) met.caller_hears.whole ∙ b.caller_keeps;
  called_keeps = ap (λ (r : GreetingRun). r.number) met.called_hears.whole ∙ b.called_keeps;
}

-- ---- how they become

pub unequal : (xs ys : List ℕ) → xs ≢ ys → bytes_eq xs ys ≡ false
unequal xs ys n = false_from_ne_true (bytes_eq xs ys) (λ e. n ((bytes_eq-Decides xs ys).0 e))

pub equal : (xs : List ℕ) → bytes_eq xs xs ≡ true
equal xs = (bytes_eq-Decides xs xs).1 refl

-- what the caller hears behind the called end's name, and what the called end hears behind the caller's
abbrev caller_later : (caller meant : List ℕ) → Option ℕ → List (List ℕ) → GreetingRun
caller_later caller meant m texts = run_of caller meant texts m (first_greeting Admission)

abbrev called_later : (called expected : List ℕ) → Option ℕ → List (List ℕ) → GreetingRun
called_later called expected n texts = run_of called expected texts n (first_greeting Choice)

abbrev says_of : GreetingRun → List (List ℕ)
says_of r = r.says

abbrev greeted_of : GreetingRun → Greeted
greeted_of r = r.greeted

abbrev number_of : GreetingRun → Option ℕ
number_of r = r.number

-- the caller has reached the end that it meant
reached : (caller meant called expected : List ℕ) (m n : Option ℕ) (at_caller at_called : GreetingRun) → bytes_eq called meant ≡ true
    → Answer caller meant called expected m n at_caller at_called
    → at_caller ≡ behind_text (call_text caller m ∷ []) (caller_later caller meant m at_called.says)
unfolding after_called_name
reached caller meant called expected m n at_caller at_called e a =
    a.at_caller_is ∙ called_name_said caller meant called m at_called.says ∙ ap (after_called_name caller meant m at_called.says) e

-- the called end has then heard its name
heard_name : (caller meant called expected : List ℕ) (m n : Option ℕ) (at_caller at_called : GreetingRun) → IsName caller → IsNumber m
    → bytes_eq called meant ≡ true → Answer caller meant called expected m n at_caller at_called
    → at_called ≡ after_caller_name called expected n (caller_later caller meant m at_called.says).says (bytes_eq caller expected) (is_expected n m)
heard_name caller meant called expected m n at_caller at_called h k e a =
    a.at_called_is
    ∙ ap (λ texts. run_of called expected texts n (first_greeting CallerName)) (ap says_of (reached caller meant called expected m n at_caller at_called e a))
    ∙ caller_name_said caller called expected m n (caller_later caller meant m at_called.says).says h k

pub both_begin : (caller meant called expected : List ℕ) (m n : Option ℕ) (at_caller at_called : GreetingRun) → IsName caller → IsNumber m
    → bytes_eq called meant ≡ true → bytes_eq caller expected ≡ true → is_expected n m ≡ true
    → Answer caller meant called expected m n at_caller at_called → BecomeOf at_caller at_called LinkBegins LinkBegins (risen m) (risen n)
unfolding after_caller_name
both_begin caller meant called expected m n at_caller at_called h k e f same a =
    let x = reached caller meant called expected m n at_caller at_called e a in
    let texts = (caller_later caller meant m at_called.says).says in
    let y : at_called ≡ behind_text (codes "ROK" ∷ codes "Pg" ∷ []) (called_later called expected (risen n) texts) =
    heard_name caller meant called expected m n at_caller at_called h k e a
    ∙ ap (λ known. after_caller_name called expected n texts known (is_expected n m)) f
    ∙ ap (after_caller_name called expected n texts true) same in
    let chosen : caller_later caller meant m at_called.says ≡ record { says = codes "Ug" ∷ []; greeted = LinkBegins; used = 2; number = risen m } =
    ap (caller_later caller meant m) (ap says_of y) in
    record {
      caller_is = ap greeted_of x ∙ ap greeted_of chosen;
      called_is = ap greeted_of y ∙ ap (λ (r : GreetingRun). greeted_of (called_later called expected (risen n) r.says)) chosen;
      caller_keeps = ap number_of x ∙ ap number_of chosen;
      called_keeps = ap number_of y ∙ ap (λ (r : GreetingRun). number_of (called_later called expected (risen n) r.says)) chosen;
    }

pub wrong_end : (caller meant called expected : List ℕ) (m n : Option ℕ) (at_caller at_called : GreetingRun) → bytes_eq called meant ≡ false
    → Answer caller meant called expected m n at_caller at_called → BecomeOf at_caller at_called (Ended WrongName) (GoesOn (first_greeting CallerName)) m n
unfolding after_called_name
wrong_end caller meant called expected m n at_caller at_called e a =
    let x : at_caller ≡ after_called_name caller meant m at_called.says false =
    a.at_caller_is ∙ called_name_said caller meant called m at_called.says ∙ ap (after_called_name caller meant m at_called.says) e in
    record {
      caller_is = ap greeted_of x;
      called_is = ap greeted_of a.at_called_is ∙ ap (λ texts. greeted_of (run_of called expected texts n (first_greeting CallerName))) (ap says_of x);
      caller_keeps = ap number_of x;
      called_keeps = ap number_of a.at_called_is ∙ ap (λ texts. number_of (run_of called expected texts n (first_greeting CallerName))) (ap says_of x);
    }

pub unknown_caller : (caller meant called expected : List ℕ) (m n : Option ℕ) (at_caller at_called : GreetingRun) → IsName caller → IsNumber m
    → bytes_eq called meant ≡ true → bytes_eq caller expected ≡ false
    → Answer caller meant called expected m n at_caller at_called → BecomeOf at_caller at_called (Ended Refused) (Ended Refused) m n
unfolding after_caller_name
unknown_caller caller meant called expected m n at_caller at_called h k e f a =
    let x = reached caller meant called expected m n at_caller at_called e a in
    let texts = (caller_later caller meant m at_called.says).says in
    let y : at_called ≡ after_caller_name called expected n texts false (is_expected n m) =
    heard_name caller meant called expected m n at_caller at_called h k e a
    ∙ ap (λ known. after_caller_name called expected n texts known (is_expected n m)) f in
    record {
      caller_is = ap greeted_of x ∙ ap (λ said. greeted_of (caller_later caller meant m said)) (ap says_of y);
      called_is = ap greeted_of y;
      caller_keeps = ap number_of x ∙ ap (λ said. number_of (caller_later caller meant m said)) (ap says_of y);
      called_keeps = ap number_of y;
    }

-- the caller does not tell the number that the called end expects
pub wrong_number : (caller meant called expected : List ℕ) (m n : Option ℕ) (at_caller at_called : GreetingRun) → IsName caller → IsNumber m
    → bytes_eq called meant ≡ true → bytes_eq caller expected ≡ true → is_expected n m ≡ false
    → Answer caller meant called expected m n at_caller at_called → BecomeOf at_caller at_called (Ended BadSequence) (Ended BadSequence) m n
unfolding after_caller_name
wrong_number caller meant called expected m n at_caller at_called h k e f other a =
    let x = reached caller meant called expected m n at_caller at_called e a in
    let texts = (caller_later caller meant m at_called.says).says in
    let y : at_called ≡ after_caller_name called expected n texts true false =
    heard_name caller meant called expected m n at_caller at_called h k e a
    ∙ ap (λ known. after_caller_name called expected n texts known (is_expected n m)) f
    ∙ ap (after_caller_name called expected n texts true) other in
    record {
      caller_is = ap greeted_of x ∙ ap (λ said. greeted_of (caller_later caller meant m said)) (ap says_of y);
      called_is = ap greeted_of y;
      caller_keeps = ap number_of x ∙ ap (λ said. number_of (caller_later caller meant m said)) (ap says_of y);
      called_keeps = ap number_of y;
    }

-- ---- two ends can greet each other

has_written : (texts : List (List ℕ)) → All IsHailText texts → HasTexts (written_texts texts) (record { texts = texts; end = Rest [] })
has_written texts h = subst (λ (f : StreamTexts). HasTexts (written_texts texts) f) (texts_of-written texts h) (reads (written_texts texts))

greets_said : (me peer : List ℕ) (number : Option ℕ) (g : Greeting) (texts : List (List ℕ)) (run : GreetingRun) → All IsHailText texts → run ≡ run_of me peer texts number g → (behind : List ℕ) × GreetsBy me peer number g (written_texts texts) run behind
greets_said me peer number g texts run h e =
    let has = has_written texts h in
    let stand = first_stand texts run.used has.rest (written_texts texts) has.before in
    (stand.0, record { found = record { texts = texts; end = Rest [] }; texts = has; came = e; left = stand.1 })

pub greet : (caller meant called expected : List ℕ) (m n : Option ℕ) (at_caller at_called : GreetingRun) → IsName caller → IsName called → IsNumber m → IsNumber n
    → Answer caller meant called expected m n at_caller at_called → GreetEachOther caller meant called expected m n at_caller (saying_first (called_text called ∷ []) at_called)
greet caller meant called expected m n at_caller at_called h k k_m k_n a =
    let says_called : All IsHailText at_called.says = subst (λ (r : GreetingRun). All IsHailText r.says) (sym a.at_called_is) (run_says called expected at_caller.says (Rest []) n (first_greeting CallerName) k k_n) in
    let says_caller : All IsHailText at_caller.says = subst (λ (r : GreetingRun). All IsHailText r.says) (sym a.at_caller_is) (run_says caller meant (called_text called ∷ at_called.says) (Rest []) m (first_greeting CalledName) h k_m) in
    let at_one = greets_said caller meant m (first_greeting CalledName) (called_text called ∷ at_called.says) at_caller (All-cons IsHailText (called_text called) at_called.says (said_called called k) says_called) a.at_caller_is in
    let at_other = greets_said called expected n (first_greeting CallerName) at_caller.says at_called says_caller a.at_called_is in
    record {
      caller_left = at_one.0;
      called_left = at_other.0;
      caller_hears = record { heard = at_caller; greets = at_one.1; whole = refl };
      called_hears = record { heard = at_called; greets = at_other.1; whole = refl };
    }

-- by whether the caller reached the end that it meant, whether the called end expects it, and whether it expects its number
caller_run : (caller : List ℕ) (m : Option ℕ) → (reached expected same : Bool) → GreetingRun
caller_run caller m false expected same = record { says = []; greeted = Ended WrongName; used = 1; number = m }
caller_run caller m true false same = record { says = call_text caller m ∷ []; greeted = Ended Refused; used = 2; number = m }
caller_run caller m true true false = record { says = call_text caller m ∷ []; greeted = Ended BadSequence; used = 2; number = m }
caller_run caller m true true true = record { says = call_text caller m ∷ codes "Ug" ∷ []; greeted = LinkBegins; used = 3; number = risen m }

called_run : (n : Option ℕ) → (reached expected same : Bool) → GreetingRun
called_run n false expected same = record { says = []; greeted = GoesOn (first_greeting CallerName); used = 0; number = n }
called_run n true false same = record { says = codes "RYou are unknown to me" ∷ []; greeted = Ended Refused; used = 1; number = n }
called_run n true true false = record { says = codes "RBADSEQ" ∷ []; greeted = Ended BadSequence; used = 1; number = n }
called_run n true true true = record { says = codes "ROK" ∷ codes "Pg" ∷ []; greeted = LinkBegins; used = 2; number = risen n }

caller_runs : (caller meant called : List ℕ) (m n : Option ℕ) (r x s : Bool) → bytes_eq called meant ≡ r
    → caller_run caller m r x s ≡ run_of caller meant (called_text called ∷ (called_run n r x s).says) m (first_greeting CalledName)
unfolding caller_run called_run after_called_name
caller_runs caller meant called m n false x s e = sym (called_name_said caller meant called m [] ∙ ap (after_called_name caller meant m []) e)
caller_runs caller meant called m n true false s e = sym (called_name_said caller meant called m (called_run n true false s).says ∙ ap (after_called_name caller meant m (called_run n true false s).says) e)
caller_runs caller meant called m n true true false e = sym (called_name_said caller meant called m (called_run n true true false).says ∙ ap (after_called_name caller meant m (called_run n true true false).says) e)
caller_runs caller meant called m n true true true e = sym (called_name_said caller meant called m (called_run n true true true).says ∙ ap (after_called_name caller meant m (called_run n true true true).says) e)

called_runs : (caller called expected : List ℕ) (m n : Option ℕ) (r x s : Bool) → IsName caller → IsNumber m → bytes_eq caller expected ≡ x → is_expected n m ≡ s
    → called_run n r x s ≡ run_of called expected (caller_run caller m r x s).says n (first_greeting CallerName)
unfolding caller_run called_run after_caller_name
called_runs caller called expected m n false x s h k e f = refl
called_runs caller called expected m n true false s h k e f =
    sym (caller_name_said caller called expected m n [] h k
    ∙ ap (λ known. after_caller_name called expected n [] known (is_expected n m)) e)
called_runs caller called expected m n true true false h k e f =
    sym (caller_name_said caller called expected m n [] h k
    ∙ ap (λ known. after_caller_name called expected n [] known (is_expected n m)) e ∙ ap (after_caller_name called expected n [] true) f)
called_runs caller called expected m n true true true h k e f =
    sym (caller_name_said caller called expected m n (codes "Ug" ∷ []) h k
    ∙ ap (λ known. after_caller_name called expected n (codes "Ug" ∷ []) known (is_expected n m)) e ∙ ap (after_caller_name called expected n (codes "Ug" ∷ []) true) f)

pub some_answer : (caller meant called expected : List ℕ) (m n : Option ℕ) → IsName caller → IsNumber m
    → (at_caller : GreetingRun) × (at_called : GreetingRun) × Answer caller meant called expected m n at_caller at_called
some_answer caller meant called expected m n h k =
    let r = bytes_eq called meant in
    let x = bytes_eq caller expected in
    let s = is_expected n m in (
      caller_run caller m r x s,
      called_run n r x s,
      record { at_caller_is = caller_runs caller meant called m n r x s refl; at_called_is = called_runs caller called expected m n r x s h k refl refl },
    )
