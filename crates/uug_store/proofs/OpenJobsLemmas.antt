-- What is left in a store of jobs where some are over.
use Rattle.std.proofs.Common.{◌≡◌, ◌==◌, ℕ, suc, ◌+◌, ◌-◌, inl, inr, Bool, length, Ok, true, false, List, [], ◌∷◌, ◌++◌, Option, Some, None, refl, sym, ap, subst, ◌∙◌, arith, cond, append_assoc, if◌then◌else◌, ◌&&◌}
use Rattle.std.proofs.lemmas.List.{append-nil}
use Rattle.std.proofs.lemmas.List.Elements.{All-nil, All-cons}
use Rattle.std.proofs.lemmas.Slice.Eq.{bytes_eq-Decides}
use Rattle.std.specs.Prelude.{OnErr, Result, Err}
use Rattle.std.specs.List.{AllByRecursion, onto_first, slice_split}
use Rattle.std.specs.Str.{bytes_eq}
use Rattle.uug_conversation.specs.Jobs.{Lists, Move, move_first, moved, moved_once, pending, pass, strike, fail}
use Rattle.uug_conversation.specs.Sharing.{OnlyMoves}
use Rattle.uug_conversation.specs.declared.job.Job.{Job}
use Rattle.uug_conversation.specs.declared.job.Job.TheVariants.{Send, Request}
use Rattle.uug_conversation.specs.declared.queue.TheConstants.{JOBS_MAX}
use Rattle.uug_talk.specs.Chained.{◌>>=◌}
use Rattle.uug_talk.specs.Lines.{is_line_feed, lines, without_empty_last}
use Rattle.uug_store.specs.JobsAfter.{in_front, is_copy, is_job, line_left, lines_left, without_first, without_said}
use Rattle.uug_store.specs.JobsText.{IsQueueOf, LineSays, job_said, jobs_from, no_job, one_job, or_bad, says_of, with_line}
use Rattle.uug_store.specs.Notices.{TellsSome, also_told}
use Rattle.uug_store.specs.OpenJobs.{IsSettledOrNot, IsTextSettledOrNot, Holds, HoldsAtLeast, job_left, jobs_in, jobs_left, one_more_if, open_in, settled_in, text_left, times, with_said}
use Rattle.uug_store.specs.TextFiles.{holding}
use Rattle.uug_store.proofs.JobsTextLemmas.{HasNoFeed, first_of_lines}

-- ---- the text and the jobs that it says

abbrev AreLines : List (List ℕ) → Type 0
AreLines parts = AllByRecursion HasNoFeed parts

parts_are_lines : (text : List ℕ) → AreLines (slice_split is_line_feed text)
parts_are_lines [] = (All-nil (λ b. is_line_feed b ≡ false), tt)
parts_are_lines (x ∷ xs) = step (is_line_feed x) refl (slice_split is_line_feed xs) (parts_are_lines xs) where
  step : (b : Bool) → is_line_feed x ≡ b → (parts : List (List ℕ)) → AreLines parts → AreLines (cond b ([] ∷ parts) (onto_first x parts))
  step true e parts h = (All-nil (λ b. is_line_feed b ≡ false), h)
  step false e [] h = (All-cons (λ b. is_line_feed b ≡ false) x [] e (All-nil (λ b. is_line_feed b ≡ false)), tt)
  step false e (part ∷ parts) h = (All-cons (λ b. is_line_feed b ≡ false) x part e h.0, h.1)

but_the_last : (parts : List (List ℕ)) → AreLines parts → AreLines (without_empty_last parts)
but_the_last [] h = tt
but_the_last ([] ∷ []) h = tt
but_the_last ((b ∷ bs) ∷ []) h = h
but_the_last ([] ∷ next ∷ more) h = (h.0, but_the_last (next ∷ more) h.1)
but_the_last ((b ∷ bs) ∷ next ∷ more) h = (h.0, but_the_last (next ∷ more) h.1)

abbrev IsSaid : List (List ℕ) → List Job → Type 0
IsSaid more over = jobs_in (lines (lines_left over more)) ≡ jobs_left over (jobs_in more)

by_left : (line : List ℕ) (more : List (List ℕ)) (over : List Job) → HasNoFeed line → ((left : List Job) → IsSaid more left)
    → (job : Job) → job_said (says_of line) ≡ Some job → (left : Option (List Job))
    → jobs_in (lines (line_left left line over (λ left. lines_left left more))) ≡ job_left left job over (λ left. jobs_left left (jobs_in more))
by_left line more over h rest job e None =
    ap jobs_in (first_of_lines line (lines_left over more) h)
    ∙ ap (λ said. with_said said (jobs_in (lines (lines_left over more)))) e
    ∙ ap (λ jobs. job ∷ jobs) (rest over)
by_left line more over h rest job e (Some left) = rest left

by_said : (line : List ℕ) (more : List (List ℕ)) (over : List Job) → HasNoFeed line → ((left : List Job) → IsSaid more left)
    → (said : Option Job) → job_said (says_of line) ≡ said
    → jobs_in (lines (line_left (without_said said over) line over (λ left. lines_left left more))) ≡ jobs_left over (with_said said (jobs_in more))
by_said line more over h rest None e =
    ap jobs_in (first_of_lines line (lines_left over more) h)
    ∙ ap (λ said. with_said said (jobs_in (lines (lines_left over more)))) e
    ∙ rest over
by_said line more over h rest (Some job) e = by_left line more over h rest job e (without_first job over)

left_is_said : (over : List Job) (ls : List (List ℕ)) → AreLines ls → jobs_in (lines (lines_left over ls)) ≡ jobs_left over (jobs_in ls)
left_is_said over [] h = refl
left_is_said over (line ∷ more) h = by_said line more over h.0 (λ left. left_is_said left more h.1) (job_said (says_of line)) refl

pub text_is_settled : (over : List Job) (text : Option (List ℕ)) → open_in (text_left over text) ≡ settled_in over (open_in text)
text_is_settled over None = refl
text_is_settled over (Some text) = ap Some (left_is_said over (lines text) (but_the_last (slice_split is_line_feed text) (parts_are_lines text)))

pub is_settled_or_not : (over : List Job) (notice : List ℕ) (text text_after told told_after : Option (List ℕ))
    → IsTextSettledOrNot over notice text text_after told told_after
    → IsSettledOrNot over notice (open_in text) (open_in text_after) told told_after
is_settled_or_not over notice text text_after told told_after (inl h) = inl (ap open_in h.0, h.1)
is_settled_or_not over notice text text_after told told_after (inr h) = inr (ap open_in h.0 ∙ text_is_settled over text, h.1)

-- ---- what is told of those that have failed

pub nothing_told : (told : Option (List ℕ)) → told ≡ also_told [] told
nothing_told None = refl
nothing_told (Some text) = ap Some (sym (append-nil text))

pub tells_none : (more : List ℕ) (told told_after : Option (List ℕ)) → told_after ≡ told → TellsSome more told told_after
tells_none more told told_after e = record { front = []; rest = more; begins = refl; is = e ∙ nothing_told told }

pub tells_all : (more : List ℕ) (told told_after : Option (List ℕ)) → told_after ≡ also_told more told → TellsSome more told told_after
tells_all more told told_after e = record { front = more; rest = []; begins = sym (append-nil more); is = e }

pub on_err : {T E : Type 0} (r : Result T E) (P : Type 0) → P → OnErr r P
on_err (Ok value) P p = tt
on_err (Err fault) P p = p

-- nothing was removed or told
pub not_settled : (over : List Job) (notice : List ℕ) (text text_after told told_after : Option (List ℕ)) → text_after ≡ text → told_after ≡ told
    → IsTextSettledOrNot over notice text text_after told told_after
not_settled over notice text text_after told told_after same none = inl (same, tells_none notice told told_after none)

-- ---- one jobs text for another

pub left_as_it_is : (over : List Job) (now : List ℕ) (text : Option (List ℕ)) → holding now text ≡ text → lines_left over (lines now) ≡ now
    → text ≡ text_left over text
left_as_it_is over now None told same = refl
left_as_it_is over now (Some text) told same =
    let is : now ≡ text = cc told in ap Some (subst (λ t. t ≡ lines_left over (lines t)) is (sym same))

pub left_in_its_place : (over : List Job) (now left : List ℕ) (text : Option (List ℕ)) → holding now text ≡ text → left ≡ lines_left over (lines now)
    → holding left text ≡ text_left over text
left_in_its_place over now left None told is = refl
left_in_its_place over now left (Some text) told is =
    let same : now ≡ text = cc told in ap Some (is ∙ ap (λ t. lines_left over (lines t)) same)

-- ---- how often a job is among those that are left

one_more : (b : Bool) (n : ℕ) → one_more_if b n ≡ one_more_if b 0 + n
one_more true n = omega arith
one_more false n = omega arith

-- ---- jobs with the same words and the same copy

abbrev three : (p q r a b c : List ℕ) → Bool
three p q r a b c = bytes_eq p a && (bytes_eq q b && bytes_eq r c)

record AreWords (a b c d e f : List ℕ) : Type 0 where
  first : a ≡ d
  second : b ≡ e
  third : c ≡ f

both_true : (a b : Bool) → (a && b) ≡ true → (a ≡ true) × (b ≡ true)
both_true true true e = (refl, refl)
both_true true false e = absurd (cc e)
both_true false b e = absurd (cc e)

equal_words : (a b : List ℕ) → bytes_eq a b ≡ true → a ≡ b
equal_words a b h = (bytes_eq-Decides a b).0 h

words_of_three : (a b c d e f : List ℕ) → three a b c d e f ≡ true → AreWords a b c d e f
words_of_three a b c d e f h =
    let one = both_true (bytes_eq a d) (bytes_eq b e && bytes_eq c f) h in
    let two = both_true (bytes_eq b e) (bytes_eq c f) one.1 in
    record { first = equal_words a d one.0; second = equal_words b e two.0; third = equal_words c f two.1 }

three_right : (p q r a b c d e f : List ℕ) → AreWords a b c d e f → three p q r a b c ≡ three p q r d e f
three_right p q r a b c d e f h =
    ap (λ x. three p q r x b c) h.first ∙ ap (λ x. three p q r d x c) h.second ∙ ap (λ x. three p q r d e x) h.third

three_left : (p q r a b c d e f : List ℕ) → AreWords a b c d e f → three a b c p q r ≡ three d e f p q r
three_left p q r a b c d e f h =
    ap (λ x. three x b c p q r) h.first ∙ ap (λ x. three d x c p q r) h.second ∙ ap (λ x. three d e x p q r) h.third

equal_copies : (temp copy : Option (List ℕ)) → is_copy temp copy ≡ true → temp ≡ copy
equal_copies None None h = refl
equal_copies None (Some copy) h = absurd (cc h)
equal_copies (Some temp) None h = absurd (cc h)
equal_copies (Some temp) (Some copy) h = ap Some (equal_words temp copy h)

alike_right : (job other x : Job) → is_job job other ≡ true → is_job x job ≡ is_job x other
alike_right (Send a b c t) (Send d e f u) (Send p q r v) h =
    let both = both_true (three a b c d e f) (is_copy t u) h in
    ap (λ same. same && is_copy v t) (three_right p q r a b c d e f (words_of_three a b c d e f both.0))
    ∙ ap (λ copy. three p q r d e f && is_copy v copy) (equal_copies t u both.1)
alike_right (Send a b c t) (Send d e f u) (Request p q r) h = refl
alike_right (Send a b c t) (Request d e f) x h = absurd (cc h)
alike_right (Request a b c) (Send d e f u) x h = absurd (cc h)
alike_right (Request a b c) (Request d e f) (Send p q r v) h = refl
alike_right (Request a b c) (Request d e f) (Request p q r) h = three_right p q r a b c d e f (words_of_three a b c d e f h)

alike_left : (job other x : Job) → is_job job other ≡ true → is_job job x ≡ is_job other x
alike_left (Send a b c t) (Send d e f u) (Send p q r v) h =
    let both = both_true (three a b c d e f) (is_copy t u) h in
    ap (λ same. same && is_copy t v) (three_left p q r a b c d e f (words_of_three a b c d e f both.0))
    ∙ ap (λ copy. three d e f p q r && is_copy copy v) (equal_copies t u both.1)
alike_left (Send a b c t) (Send d e f u) (Request p q r) h = refl
alike_left (Send a b c t) (Request d e f) x h = absurd (cc h)
alike_left (Request a b c) (Send d e f u) x h = absurd (cc h)
alike_left (Request a b c) (Request d e f) (Send p q r v) h = refl
alike_left (Request a b c) (Request d e f) (Request p q r) h = three_left p q r a b c d e f (words_of_three a b c d e f h)

-- ---- how often a job is among those that are left

times_none : (job : Job) (over : List Job) → without_first job over ≡ None → times job over ≡ 0
times_none job [] h = refl
times_none job (other ∷ more) h = step (is_job other job) refl (without_first job more) refl (times_none job more) where
  step : (b : Bool) → is_job other job ≡ b → (left : Option (List Job)) → without_first job more ≡ left
      → (without_first job more ≡ None → times job more ≡ 0) → one_more_if (is_job other job) (times job more) ≡ 0
  step true e left f rest = absurd (cc (sym (ap (λ b. if b then Some more else in_front other (without_first job more)) e) ∙ h))
  step false e None f rest = ap (λ b. one_more_if b (times job more)) e ∙ rest f
  step false e (Some left) f rest =
      absurd (cc (sym (ap (λ b. if b then Some more else in_front other (without_first job more)) e ∙ ap (in_front other) f) ∙ h))

times_alike : (job x : Job) (jobs : List Job) → is_job job x ≡ true → times job jobs ≡ times x jobs
times_alike job x [] h = refl
times_alike job x (other ∷ more) h =
    ap (λ b. one_more_if b (times job more)) (alike_right job x other h) ∙ ap (one_more_if (is_job other x)) (times_alike job x more h)

times_taken : (job x : Job) (over left : List Job) → without_first job over ≡ Some left → times x over ≡ one_more_if (is_job job x) 0 + times x left
times_taken job x [] left h = absurd (cc h)
times_taken job x (other ∷ more) left h =
    step (is_job other job) refl (without_first job more) refl (times_taken job x more) where
      step : (b : Bool) → is_job other job ≡ b → (found : Option (List Job)) → without_first job more ≡ found
          → ((rest : List Job) → without_first job more ≡ Some rest → times x more ≡ one_more_if (is_job job x) 0 + times x rest)
          → one_more_if (is_job other x) (times x more) ≡ one_more_if (is_job job x) 0 + times x left
      step true e found f rest =
          let is : more ≡ left = cc (sym (ap (λ b. if b then Some more else in_front other (without_first job more)) e) ∙ h) in
          one_more (is_job other x) (times x more) ∙ ap (λ b. one_more_if b 0 + times x more) (alike_left other job x e)
          ∙ ap (λ (l : List Job). one_more_if (is_job job x) 0 + times x l) is
      step false e None f rest =
          absurd (cc (sym (ap (λ b. if b then Some more else in_front other (without_first job more)) e ∙ ap (in_front other) f) ∙ h))
      step false e (Some found) f rest =
          let is : other ∷ found ≡ left = cc (sym (ap (λ b. if b then Some more else in_front other (without_first job more)) e ∙ ap (in_front other) f) ∙ h) in
          let tail = rest found f in
          let head = one_more (is_job other x) (times x more) in
          let again = one_more (is_job other x) (times x found) in
          let same : one_more_if (is_job other x) (times x found) ≡ times x left = ap (times x) is in
          omega (arith, tail, head, again, same)

pub times_left : (over jobs : List Job) (x : Job) → times x (jobs_left over jobs) ≡ times x jobs - times x over
times_left over [] x = omega arith
times_left over (job ∷ more) x =
    step (without_first job over) refl (times_left over more x) (λ left. times_left left more x) where
      stays : (b : Bool) → is_job job x ≡ b → without_first job over ≡ None → times x (jobs_left over more) ≡ times x more - times x over
          → one_more_if b (times x (jobs_left over more)) ≡ one_more_if b (times x more) - times x over
      stays true e f rest =
          let none : times x over ≡ 0 = ap (λ n. n) (sym (times_alike job x over e)) ∙ times_none job over f in
          omega (arith, rest, none)
      stays false e f rest = rest

      step : (left : Option (List Job)) → without_first job over ≡ left → times x (jobs_left over more) ≡ times x more - times x over
          → ((rest : List Job) → times x (jobs_left rest more) ≡ times x more - times x rest)
          → times x (job_left left job over (λ rest. jobs_left rest more)) ≡ one_more_if (is_job job x) (times x more) - times x over
      step None e rest others = stays (is_job job x) refl e rest
      step (Some left) e rest others =
          let taken = times_taken job x over left e in
          let one = one_more (is_job job x) (times x more) in
          let is = others left in
          omega (arith, taken, one, is)

-- ---- the jobs of an end, and those in its store

-- where some jobs of an end are over, and were taken out of its store, it holds the others
pub settled_holds : (over jobs jobs_after : List Job) (stands : Option (List Job))
    → ((job : Job) → times job jobs ≡ times job jobs_after + times job over) → Holds stands jobs → Holds (settled_in over stands) jobs_after
settled_holds over jobs jobs_after None shares h = tt
settled_holds over jobs jobs_after (Some stands) shares h =
    λ job. let left = times_left over stands job in let same = h job in let shared = shares job in omega (arith, left, same, shared)

pub settled_least : (over jobs jobs_after : List Job) (stands : Option (List Job))
    → ((job : Job) → times job jobs ≡ times job jobs_after + times job over) → HoldsAtLeast stands jobs
    → HoldsAtLeast (settled_in over stands) jobs_after
settled_least over jobs jobs_after None shares h = tt
settled_least over jobs jobs_after (Some stands) shares h =
    λ job. let left = times_left over stands job in let least = h job in let shared = shares job in omega (arith, left, least, shared)

-- where they were not taken out it still has all that are pending
pub unsettled_least : (over jobs jobs_after : List Job) (stands : Option (List Job))
    → ((job : Job) → times job jobs ≡ times job jobs_after + times job over) → HoldsAtLeast stands jobs → HoldsAtLeast stands jobs_after
unsettled_least over jobs jobs_after None shares h = tt
unsettled_least over jobs jobs_after (Some stands) shares h =
    λ job. let least = h job in let shared = shares job in omega (arith, least, shared)

-- ---- what an end has come to

pub times_append : (job : Job) (xs ys : List Job) → times job (xs ++ ys) ≡ times job xs + times job ys
times_append job [] ys = omega arith
times_append job (x ∷ xs) ys =
    let rest = times_append job xs ys in let one = one_more (is_job x job) (times job (xs ++ ys)) in
    let two = one_more (is_job x job) (times job xs) in omega (arith, rest, one, two)

-- from the one state of its lists to the other some jobs were struck, and some have failed, and all others are still pending
pub record HasGoneOn (before after : Lists) : Type 0 where
  pub struck_since : List Job
  pub failed_since : List Job
  pub struck : after.struck ≡ before.struck ++ struck_since
  pub failed : after.failed ≡ before.failed ++ failed_since
  pub shares : (job : Job) → times job (pending before) ≡ times job (pending after) + times job (struck_since ++ failed_since)

stands_still : (l : Lists) → HasGoneOn l l
stands_still l = record {
  struck_since = [];
  failed_since = [];
  struck = sym (append-nil l.struck);
  failed = sym (append-nil l.failed);
  shares = λ job. omega arith;
}

-- where one job moves
first_moves : (move : Move) (ahead : List Job) (l : Lists) → l.ahead ≡ ahead → HasGoneOn l (move_first move ahead l)
first_moves move [] l e = stands_still l
first_moves pass (job ∷ jobs) l e = record {
  struck_since = [];
  failed_since = [];
  struck = sym (append-nil l.struck);
  failed = sym (append-nil l.failed);
  shares = λ x.
      let all : pending l ≡ (l.passed ++ job ∷ []) ++ jobs = ap (λ (a : List Job). l.passed ++ a) e ∙ sym (append_assoc l.passed (job ∷ []) jobs) in
      let same = ap (times x) all in omega (arith, same);
}
first_moves strike (job ∷ jobs) l e = record {
  struck_since = job ∷ [];
  failed_since = [];
  struck = refl;
  failed = sym (append-nil l.failed);
  shares = λ x.
      let all = ap (λ (a : List Job). times x (l.passed ++ a)) e in let before = times_append x l.passed (job ∷ jobs) in
      let after = times_append x l.passed jobs in let one = one_more (is_job job x) (times x jobs) in omega (arith, all, before, after, one);
}
first_moves fail (job ∷ jobs) l e = record {
  struck_since = [];
  failed_since = job ∷ [];
  struck = sym (append-nil l.struck);
  failed = refl;
  shares = λ x.
      let all = ap (λ (a : List Job). times x (l.passed ++ a)) e in let before = times_append x l.passed (job ∷ jobs) in
      let after = times_append x l.passed jobs in let one = one_more (is_job job x) (times x jobs) in omega (arith, all, before, after, one);
}

goes_on : (a b c : Lists) → HasGoneOn a b → HasGoneOn b c → HasGoneOn a c
goes_on a b c first second = record {
  struck_since = first.struck_since ++ second.struck_since;
  failed_since = first.failed_since ++ second.failed_since;
  struck = second.struck ∙ ap (λ (s : List Job). s ++ second.struck_since) first.struck ∙ append_assoc a.struck first.struck_since second.struck_since;
  failed = second.failed ∙ ap (λ (s : List Job). s ++ second.failed_since) first.failed ∙ append_assoc a.failed first.failed_since second.failed_since;
  shares = λ job.
      let one = first.shares job in let two = second.shares job in
      let x = times_append job first.struck_since first.failed_since in let y = times_append job second.struck_since second.failed_since in
      let z = times_append job (first.struck_since ++ second.struck_since) (first.failed_since ++ second.failed_since) in
      let u = times_append job first.struck_since second.struck_since in let v = times_append job first.failed_since second.failed_since in
      omega (arith, one, two, x, y, z, u, v);
}

all_moves : (moves : List Move) (l : Lists) → HasGoneOn l (moved moves l)
all_moves [] l = stands_still l
all_moves (move ∷ moves) l =
    goes_on l (moved_once move l) (moved moves (moved_once move l)) (first_moves move l.ahead l refl) (all_moves moves (moved_once move l))

pub only_moves : (before after : Lists) → OnlyMoves before after → HasGoneOn before after
only_moves before after h = subst (λ (l : Lists). HasGoneOn before l) (sym h.are) (all_moves h.moves before)

-- ---- the jobs that were read

read_from : (ls : List (List ℕ)) (n : ℕ) (before jobs : List Job) → jobs_from n before ls ≡ Ok jobs → before ++ jobs_in ls ≡ jobs
read_from [] n before jobs h = append-nil before ∙ cc h
read_from (line ∷ more) n before jobs h = step (says_of line) refl (read_from more (suc n)) where
  rests : (added : Option (List Job)) → or_bad n added (λ next. jobs_from (suc n) next more) ≡ Ok jobs
      → (next : List Job) × (added ≡ Some next) × (jobs_from (suc n) next more ≡ Ok jobs)
  rests None e = absurd (cc e)
  rests (Some next) e = (next, refl, e)

  added_one : (job : Job) (full : Bool) → or_bad n (if full then None else Some (before ++ job ∷ [])) (λ next. jobs_from (suc n) next more) ≡ Ok jobs
      → jobs_from (suc n) (before ++ job ∷ []) more ≡ Ok jobs
  added_one job true e = absurd (cc e)
  added_one job false e = e

  step : (says : Option LineSays) → says_of line ≡ says
      → ((b js : List Job) → jobs_from (suc n) b more ≡ Ok js → b ++ jobs_in more ≡ js)
      → before ++ with_said (job_said (says_of line)) (jobs_in more) ≡ jobs
  step None e rest = absurd (cc (sym (ap (λ o. or_bad n (o >>= (λ says. with_line says before)) (λ next. jobs_from (suc n) next more)) e) ∙ h))
  step (Some no_job) e rest =
      ap (λ o. before ++ with_said (job_said o) (jobs_in more)) e
      ∙ rest before jobs (sym (ap (λ o. or_bad n (o >>= (λ says. with_line says before)) (λ next. jobs_from (suc n) next more)) e) ∙ h)
  step (Some (one_job job)) e rest =
      ap (λ o. before ++ with_said (job_said o) (jobs_in more)) e ∙ sym (append_assoc before (job ∷ []) (jobs_in more))
      ∙ rest (before ++ job ∷ []) jobs
      (added_one job (length before == JOBS_MAX)
      (sym (ap (λ o. or_bad n (o >>= (λ says. with_line says before)) (λ next. jobs_from (suc n) next more)) e) ∙ h))

pub read_jobs_stand : (text : List ℕ) (queue : Lists) → IsQueueOf text queue → jobs_in (lines text) ≡ pending queue
read_jobs_stand text queue h = read_from (lines text) 1 [] (pending queue) h.jobs

pub queue_stands : (text : List ℕ) (queue : Lists) → IsQueueOf text queue → Holds (open_in (Some text)) (pending queue)
queue_stands text queue h = λ job. ap (times job) (read_jobs_stand text queue h)
