-- What more bytes make of a greeting.
use Rattle.std.proofs.Common.{◌≡◌, ℕ, ◌+◌, ◌≤◌, List, [], ◌∷◌, ◌++◌, Option, length, take, refl, sym, ap, subst, ◌∙◌, append_assoc, arith}
use Rattle.std.proofs.lemmas.List.{take-append-le, take_all}
use Rattle.std.proofs.Math.Seq.{take-append-add}
use Rattle.uug_talk.specs.StreamTexts.{TextsEnd, Rest, TooLong, HasTexts, StandBefore, texts_of}
use Rattle.uug_session.specs.declared.greeting.Greeted.{Greeted}
use Rattle.uug_session.specs.declared.greeting.Greeted.TheVariants.{GoesOn, LinkBegins, Ended}
use Rattle.uug_session.specs.declared.greeting.Greeting.{Greeting}
use Rattle.uug_session.specs.Greeting.{greeting_at_first, first_texts, number_by, text_came}
use Rattle.uug_conversation.specs.declared.side.Side.{Side}
use Rattle.uug_session.specs.WholeGreeting.{GreetingRun, GreetsBy, Greets, IsOver, run_behind, behind_text, step_behind, texts_came}
use Rattle.uug_session.proofs.Greetings.WholeGreetingLemmas.{one_rest}
use Rattle.uug_talk.proofs.StreamTextLemmas.{reads, in_pieces, too_long_for_good}

-- ---- the texts of two streams, one behind the other

-- the run goes on with more, if the greeting does
goes_behind : (more : Option ℕ → Greeting → GreetingRun) → GreetingRun → Greeted → GreetingRun
goes_behind more run (GoesOn g) = run_behind run (more run.number g)
goes_behind more run LinkBegins = run
goes_behind more run (Ended how) = run

regroup : (more : Option ℕ → Greeting → GreetingRun) (says : List (List ℕ)) (run : GreetingRun) (greeted : Greeted) → behind_text says (goes_behind more run greeted) ≡ goes_behind more (behind_text says run) greeted
unfolding goes_behind
regroup more says run (GoesOn g) =
    let next = more run.number g in
    let n : run.used + next.used + 1 ≡ run.used + 1 + next.used = omega arith in
    ap (λ (s : List (List ℕ)). record { says = s; greeted = next.greeted; used = run.used + next.used + 1; number = next.number }) (sym (append_assoc says run.says next.says))
    ∙ ap (λ (k : ℕ). record { says = says ++ run.says ++ next.says; greeted = next.greeted; used = k; number = next.number }) n
regroup more says run LinkBegins = refl
regroup more says run (Ended how) = refl

step_more : (more all first : Option ℕ → Greeting → GreetingRun) (says : List (List ℕ)) (number : Option ℕ) (greeted : Greeted)
    → ((k : Option ℕ) (g : Greeting) → all k g ≡ goes_behind more (first k g) (first k g).greeted)
    → step_behind all says number greeted ≡ goes_behind more (step_behind first says number greeted) (step_behind first says number greeted).greeted
unfolding goes_behind
step_more more all first says number (GoesOn g) h = ap (behind_text says) (h number g) ∙ regroup more says (first number g) (first number g).greeted
step_more more all first says number LinkBegins h = refl
step_more more all first says number (Ended how) h = refl

came_more : (me peer : List ℕ) (texts later : List (List ℕ)) (bytes : List ℕ) (end : TextsEnd) (number : Option ℕ) (g : Greeting)
    → texts_came me peer (texts ++ later) end number g
    ≡ goes_behind (λ k n. texts_came me peer later end k n) (texts_came me peer texts (Rest bytes) number g) (texts_came me peer texts (Rest bytes) number g).greeted
unfolding goes_behind
came_more me peer [] later bytes end number g =
    let run = texts_came me peer later end number g in
    let n : run.used ≡ 0 + run.used = omega arith in
    ap (λ (k : ℕ). record { says = run.says; greeted = run.greeted; used = k; number = run.number }) n
came_more me peer (text ∷ texts) later bytes end number g =
    let came = text_came me peer number g text in
    step_more (λ k n. texts_came me peer later end k n) (λ k n. texts_came me peer (texts ++ later) end k n) (λ k n. texts_came me peer texts (Rest bytes) k n)
    came.says (number_by came.rises number) came.greeted (λ k n. came_more me peer texts later bytes end k n)

-- no more texts are used than there are
step_within : (first : Option ℕ → Greeting → GreetingRun) (says : List (List ℕ)) (number : Option ℕ) (greeted : Greeted) (n : ℕ)
    → ((k : Option ℕ) (g : Greeting) → (first k g).used ≤ n) → (step_behind first says number greeted).used ≤ n + 1
step_within first says number (GoesOn g) n h = let k = h number g in omega arith
step_within first says number LinkBegins n h = omega arith
step_within first says number (Ended how) n h = omega arith

used_within : (me peer : List ℕ) (texts : List (List ℕ)) (end : TextsEnd) (number : Option ℕ) (g : Greeting) → (texts_came me peer texts end number g).used ≤ length texts
used_within me peer [] (Rest bytes) number g = omega arith
used_within me peer [] TooLong number g = omega arith
used_within me peer (text ∷ texts) end number g =
    let came = text_came me peer number g text in
    let k = step_within (λ m n. texts_came me peer texts end m n) came.says (number_by came.rises number) came.greeted (length texts) (λ m n. used_within me peer texts end m n) in
    omega arith

-- where the greeting goes on, all texts were used, and none was too long
record UsesAll (run : GreetingRun) (n : ℕ) (end : TextsEnd) : Type 0 where
  all : run.used ≡ n
  rest : (bytes : List ℕ) × (end ≡ Rest bytes)

step_uses : (first : Option ℕ → Greeting → GreetingRun) (says : List (List ℕ)) (number : Option ℕ) (greeted : Greeted) (n : ℕ) (end : TextsEnd) (next : Greeting)
    → ((k : Option ℕ) (g : Greeting) → (first k g).greeted ≡ GoesOn next → UsesAll (first k g) n end)
    → (step_behind first says number greeted).greeted ≡ GoesOn next → UsesAll (step_behind first says number greeted) (n + 1) end
step_uses first says number (GoesOn g) n end next h e = let k = h number g e in record { all = ap (λ m. m + 1) k.all; rest = k.rest }
step_uses first says number LinkBegins n end next h e = cc
step_uses first says number (Ended how) n end next h e = cc

uses_all : (me peer : List ℕ) (texts : List (List ℕ)) (end : TextsEnd) (number : Option ℕ) (g next : Greeting) → (texts_came me peer texts end number g).greeted ≡ GoesOn next
    → UsesAll (texts_came me peer texts end number g) (length texts) end
uses_all me peer [] (Rest bytes) number g next e = record { all = refl; rest = (bytes, refl) }
uses_all me peer [] TooLong number g next e = cc
uses_all me peer (text ∷ texts) end number g next e =
    let came = text_came me peer number g text in
    let k = step_uses (λ m n. texts_came me peer texts end m n) came.says (number_by came.rises number) came.greeted (length texts) end next (λ m n. uses_all me peer texts end m n next) e in
    let len : length texts + 1 ≡ length (text ∷ texts) = omega arith in
    record { all = k.all ∙ len; rest = k.rest }

-- ---- where they stand

stand_more : (texts : List (List ℕ)) (rest stream more : List ℕ) → StandBefore texts rest stream → StandBefore texts (rest ++ more) (stream ++ more)
stand_more [] rest stream more h = ap (λ s. s ++ more) h
stand_more (text ∷ texts) rest stream more (front, behind, e, first, later) =
    (front, behind ++ more, ap (λ s. s ++ more) e ∙ append_assoc front behind more, first, stand_more texts rest behind more later)

stand_join : (texts later : List (List ℕ)) (rest middle stream : List ℕ) → StandBefore texts middle stream → StandBefore later rest middle → StandBefore (texts ++ later) rest stream
stand_join [] later rest middle stream h k = subst (λ s. StandBefore later rest s) (sym h) k
stand_join (text ∷ texts) later rest middle stream (front, behind, e, first, more) k = (front, behind, e, first, stand_join texts later rest middle behind more k)

-- ---- the law

-- what the run is by its texts
record ByTexts (me peer : List ℕ) (number : Option ℕ) (g : Greeting) (delivered : List ℕ) (run : GreetingRun) (rest : List ℕ) (texts : List (List ℕ)) (end : TextsEnd) : Type 0 where
  has : HasTexts delivered (record { texts = texts; end = end })
  came : run ≡ texts_came me peer texts end number g
  left : StandBefore (take run.used texts) rest delivered

on_by : (me peer : List ℕ) (number : Option ℕ) (g next : Greeting) (delivered more rest left : List ℕ) (run later : GreetingRun) (texts : List (List ℕ)) (bytes : List ℕ)
    → ByTexts me peer number g delivered run rest texts (Rest bytes) → run.greeted ≡ GoesOn next → run.used ≡ length texts
    → GreetsBy me peer run.number next (rest ++ more) later left → GreetsBy me peer number g (delivered ++ more) (run_behind run later) left
unfolding goes_behind
on_by me peer number g next delivered more rest left run later texts bytes b e n k =
    let whole : take run.used texts ≡ texts = take_all run.used texts (omega (arith, n)) in
    let stand : StandBefore texts rest delivered = subst (λ (t : List (List ℕ)). StandBefore t rest delivered) whole b.left in
    let same : bytes ≡ rest = sym b.has.ends.0 ∙ one_rest texts b.has.rest rest delivered b.has.before stand in
    let has : HasTexts delivered (record { texts = texts; end = Rest rest }) = subst (λ (r : List ℕ). HasTexts delivered (record { texts = texts; end = Rest r })) same b.has in
    let greeted : (texts_came me peer texts (Rest bytes) number g).greeted ≡ GoesOn next = ap (λ (r : GreetingRun). r.greeted) (sym b.came) ∙ e in
    let came : texts_came me peer (texts ++ k.found.texts) k.found.end number g ≡ run_behind run later =
    came_more me peer texts k.found.texts bytes k.found.end number g
    ∙ ap (goes_behind (λ k' m. texts_came me peer k.found.texts k.found.end k' m) (texts_came me peer texts (Rest bytes) number g)) greeted
    ∙ ap (λ (r : GreetingRun). run_behind r (texts_came me peer k.found.texts k.found.end r.number next)) (sym b.came)
    ∙ ap (run_behind run) (sym k.came) in
    let taken : texts ++ take later.used k.found.texts ≡ take (run.used + later.used) (texts ++ k.found.texts) =
    sym (take-append-add texts k.found.texts later.used) ∙ ap (λ m. take (m + later.used) (texts ++ k.found.texts)) (sym n) in
    record {
      found = record { texts = texts ++ k.found.texts; end = k.found.end };
      texts = in_pieces delivered more texts rest k.found has k.texts;
      came = sym came;
      left = subst (λ (t : List (List ℕ)). StandBefore t left (delivered ++ more)) taken
          (stand_join texts (take later.used k.found.texts) left (rest ++ more) (delivered ++ more) (stand_more texts rest delivered more stand) k.left);
    }

on_end : (me peer : List ℕ) (number : Option ℕ) (g next : Greeting) (delivered more rest left : List ℕ) (run later : GreetingRun) (texts : List (List ℕ)) (end : TextsEnd)
    → ByTexts me peer number g delivered run rest texts end → run.greeted ≡ GoesOn next
    → GreetsBy me peer run.number next (rest ++ more) later left → GreetsBy me peer number g (delivered ++ more) (run_behind run later) left
on_end me peer number g next delivered more rest left run later texts end b e k =
    let uses = uses_all me peer texts end number g next (ap (λ (r : GreetingRun). r.greeted) (sym b.came) ∙ e) in
    on_by me peer number g next delivered more rest left run later texts uses.rest.0
    (subst (λ (x : TextsEnd). ByTexts me peer number g delivered run rest texts x) uses.rest.1 b) e
    (ap (λ (r : GreetingRun). r.used) b.came ∙ uses.all) k

pub goes_on_with_more : (me peer : List ℕ) (number : Option ℕ) (g next : Greeting) (delivered more rest left : List ℕ) (run later : GreetingRun)
    → GreetsBy me peer number g delivered run rest → run.greeted ≡ GoesOn next
    → GreetsBy me peer run.number next (rest ++ more) later left → GreetsBy me peer number g (delivered ++ more) (run_behind run later) left
goes_on_with_more me peer number g next delivered more rest left run later h e k =
    on_end me peer number g next delivered more rest left run later h.found.texts h.found.end (record { has = h.texts; came = h.came; left = h.left }) e k

over_run : (more : Option ℕ → Greeting → GreetingRun) (run : GreetingRun) (greeted : Greeted) → IsOver greeted → goes_behind more run greeted ≡ run
unfolding goes_behind
over_run more run (GoesOn g) h = absurd h
over_run more run LinkBegins h = refl
over_run more run (Ended how) h = refl

over_end : (me peer : List ℕ) (number : Option ℕ) (g : Greeting) (delivered more rest : List ℕ) (run : GreetingRun) (texts : List (List ℕ)) (end : TextsEnd)
    → ByTexts me peer number g delivered run rest texts end → IsOver run.greeted → GreetsBy me peer number g (delivered ++ more) run (rest ++ more)
over_end me peer number g delivered more rest run texts TooLong b o = record {
  found = record { texts = texts; end = TooLong };
  texts = too_long_for_good delivered more texts b.has;
  came = b.came;
  left = stand_more (take run.used texts) rest delivered more b.left;
}
over_end me peer number g delivered more rest run texts (Rest bytes) b o =
    let later = texts_of (bytes ++ more) in
    let over : IsOver (texts_came me peer texts (Rest bytes) number g).greeted = subst (λ (r : GreetingRun). IsOver r.greeted) b.came o in
    let came : run ≡ texts_came me peer (texts ++ later.texts) later.end number g =
    b.came ∙ sym (came_more me peer texts later.texts bytes later.end number g
    ∙ over_run (λ k m. texts_came me peer later.texts later.end k m) (texts_came me peer texts (Rest bytes) number g) (texts_came me peer texts (Rest bytes) number g).greeted over) in
    let within : run.used ≤ length texts = subst (λ (r : GreetingRun). r.used ≤ length texts) (sym b.came) (used_within me peer texts (Rest bytes) number g) in
    record {
      found = record { texts = texts ++ later.texts; end = later.end };
      texts = in_pieces delivered more texts bytes later b.has (reads (bytes ++ more));
      came = came;
      left = subst (λ (t : List (List ℕ)). StandBefore t (rest ++ more) (delivered ++ more)) (sym (take-append-le run.used texts later.texts within))
          (stand_more (take run.used texts) rest delivered more b.left);
    }

pub stays_over : (me peer : List ℕ) (number : Option ℕ) (g : Greeting) (delivered more rest : List ℕ) (run : GreetingRun)
    → GreetsBy me peer number g delivered run rest → IsOver run.greeted → GreetsBy me peer number g (delivered ++ more) run (rest ++ more)
stays_over me peer number g delivered more rest run h o =
    over_end me peer number g delivered more rest run h.found.texts h.found.end (record { has = h.texts; came = h.came; left = h.left }) o

-- ---- from the start

pub whole_goes_on_with_more : (side : Side) (me peer : List ℕ) (number : Option ℕ) (next : Greeting) (delivered more rest left : List ℕ) (run later : GreetingRun)
    → Greets side me peer number delivered run rest → run.greeted ≡ GoesOn next
    → GreetsBy me peer run.number next (rest ++ more) later left → Greets side me peer number (delivered ++ more) (run_behind run later) left
whole_goes_on_with_more side me peer number next delivered more rest left run later h e k = record {
  heard = run_behind h.heard later;
  greets = goes_on_with_more me peer number (greeting_at_first side) next delivered more rest left h.heard later h.greets (ap (λ (r : GreetingRun). r.greeted) (sym h.whole) ∙ e)
      (subst (λ (r : GreetingRun). GreetsBy me peer r.number next (rest ++ more) later left) h.whole k);
  whole = ap (λ (r : GreetingRun). run_behind r later) h.whole
      ∙ ap (λ (s : List (List ℕ)). record { says = s; greeted = later.greeted; used = h.heard.used + later.used; number = later.number }) (append_assoc (first_texts side me) h.heard.says later.says);
}

pub whole_stays_over : (side : Side) (me peer : List ℕ) (number : Option ℕ) (delivered more rest : List ℕ) (run : GreetingRun)
    → Greets side me peer number delivered run rest → IsOver run.greeted → Greets side me peer number (delivered ++ more) run (rest ++ more)
whole_stays_over side me peer number delivered more rest run h o = record {
  heard = h.heard;
  greets = stays_over me peer number (greeting_at_first side) delivered more rest h.heard h.greets (subst (λ (r : GreetingRun). IsOver r.greeted) h.whole o);
  whole = h.whole;
}
