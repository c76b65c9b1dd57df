-- The jobs of lines, and of those that stay.
use Rattle.std.proofs.Common.{◌≡◌, ◌≤◌, ℕ, zero, suc, Bool, true, false, List, [], ◌∷◌, ◌++◌, Option, Some, None, length, take, refl, sym, ap, ◌∙◌, arith, if◌then◌else◌}
use Rattle.std.proofs.Math.Seq.{take-length}
use Rattle.std.proofs.lemmas.List.{length-take}
use Rattle.uug_conversation.specs.declared.job.Job.{Job}
use Rattle.uug_store.specs.JobsAfter.{in_front, is_job, without_first, without_said}
use Rattle.uug_store.specs.OpenJobs.{job_left, jobs_left, one_more_if, times, with_said}
use Rattle.uug_taylor_queue.specs.OpenLines.{jobs_of, line_left, lines_left}
use Rattle.uug_taylor_queue.specs.OverOrder.{lines_after}
use Rattle.uug_taylor_queue.specs.declared.open_line.OpenLine.{OpenLine}

-- ---- the jobs of the lines that stay

by_left : (line : OpenLine) (more : List OpenLine) (over : List Job) (job : Job) → line.job ≡ Some job
    → ((rest : List Job) → jobs_of (lines_left rest more) ≡ jobs_left rest (jobs_of more)) → (left : Option (List Job))
    → jobs_of (line_left left line over (λ rest. lines_left rest more)) ≡ job_left left job over (λ rest. jobs_left rest (jobs_of more))
by_left line more over job e others None =
    ap (λ said. with_said said (jobs_of (lines_left over more))) e ∙ ap (λ (jobs : List Job). job ∷ jobs) (others over)
by_left line more over job e others (Some left) = others left

by_job : (line : OpenLine) (more : List OpenLine) (over : List Job)
    → ((rest : List Job) → jobs_of (lines_left rest more) ≡ jobs_left rest (jobs_of more)) → (said : Option Job) → line.job ≡ said
    → jobs_of (line_left (without_said said over) line over (λ rest. lines_left rest more)) ≡ jobs_left over (with_said said (jobs_of more))
by_job line more over others None e = ap (λ said. with_said said (jobs_of (lines_left over more))) e ∙ others over
by_job line more over others (Some job) e = by_left line more over job e others (without_first job over)

jobs_are_left : (over : List Job) (lines : List OpenLine) → jobs_of (lines_left over lines) ≡ jobs_left over (jobs_of lines)
jobs_are_left over [] = refl
jobs_are_left over (line ∷ more) =
    by_job line more over (λ rest. jobs_are_left rest more) line.job refl

-- ---- first some, and then others

not_among : (job : Job) (xs ys : List Job) → without_first job xs ≡ None → without_first job ys ≡ None → without_first job (xs ++ ys) ≡ None
not_among job [] ys h none = none
not_among job (x ∷ xs) ys h none = step (is_job x job) refl (without_first job xs) refl (not_among job xs ys) where
  step : (b : Bool) → is_job x job ≡ b → (left : Option (List Job)) → without_first job xs ≡ left
      → (without_first job xs ≡ None → without_first job ys ≡ None → without_first job (xs ++ ys) ≡ None) → without_first job (x ∷ xs ++ ys) ≡ None
  step true e left f rest = absurd (cc (sym (ap (λ b. if b then Some xs else in_front x (without_first job xs)) e) ∙ h))
  step false e None f rest =
      ap (λ b. if b then Some (xs ++ ys) else in_front x (without_first job (xs ++ ys))) e ∙ ap (in_front x) (rest f none)
  step false e (Some left) f rest =
      absurd (cc (sym (ap (λ b. if b then Some xs else in_front x (without_first job xs)) e ∙ ap (in_front x) f) ∙ h))

among_others : (job : Job) (xs ys left : List Job) → without_first job xs ≡ None → without_first job ys ≡ Some left
    → without_first job (xs ++ ys) ≡ Some (xs ++ left)
among_others job [] ys left h some = some
among_others job (x ∷ xs) ys left h some = step (is_job x job) refl (without_first job xs) refl (among_others job xs ys left) where
  step : (b : Bool) → is_job x job ≡ b → (found : Option (List Job)) → without_first job xs ≡ found
      → (without_first job xs ≡ None → without_first job ys ≡ Some left → without_first job (xs ++ ys) ≡ Some (xs ++ left))
      → without_first job (x ∷ xs ++ ys) ≡ Some (x ∷ xs ++ left)
  step true e found f rest = absurd (cc (sym (ap (λ b. if b then Some xs else in_front x (without_first job xs)) e) ∙ h))
  step false e None f rest =
      ap (λ b. if b then Some (xs ++ ys) else in_front x (without_first job (xs ++ ys))) e ∙ ap (in_front x) (rest f some)
  step false e (Some found) f rest =
      absurd (cc (sym (ap (λ b. if b then Some xs else in_front x (without_first job xs)) e ∙ ap (in_front x) f) ∙ h))

among_first : (job : Job) (xs ys left : List Job) → without_first job xs ≡ Some left → without_first job (xs ++ ys) ≡ Some (left ++ ys)
among_first job [] ys left h = absurd (cc h)
among_first job (x ∷ xs) ys left h = step (is_job x job) refl (without_first job xs) refl (among_first job xs ys) where
  step : (b : Bool) → is_job x job ≡ b → (found : Option (List Job)) → without_first job xs ≡ found
      → ((l : List Job) → without_first job xs ≡ Some l → without_first job (xs ++ ys) ≡ Some (l ++ ys))
      → without_first job (x ∷ xs ++ ys) ≡ Some (left ++ ys)
  step true e found f rest =
      let is : xs ≡ left = cc (sym (ap (λ b. if b then Some xs else in_front x (without_first job xs)) e) ∙ h) in
      ap (λ b. if b then Some (xs ++ ys) else in_front x (without_first job (xs ++ ys))) e ∙ ap (λ (l : List Job). Some (l ++ ys)) is
  step false e None f rest =
      absurd (cc (sym (ap (λ b. if b then Some xs else in_front x (without_first job xs)) e ∙ ap (in_front x) f) ∙ h))
  step false e (Some found) f rest =
      let is : x ∷ found ≡ left = cc (sym (ap (λ b. if b then Some xs else in_front x (without_first job xs)) e ∙ ap (in_front x) f) ∙ h) in
      ap (λ b. if b then Some (xs ++ ys) else in_front x (without_first job (xs ++ ys))) e ∙ ap (in_front x) (rest found f)
      ∙ ap (λ (l : List Job). Some (l ++ ys)) is

first_then_others : (xs ys jobs : List Job) → jobs_left (xs ++ ys) jobs ≡ jobs_left ys (jobs_left xs jobs)
first_then_others xs ys [] = refl
first_then_others xs ys (job ∷ more) =
    step (without_first job xs) refl (without_first job ys) refl (first_then_others xs ys more) (λ l. first_then_others l ys more) (λ l. first_then_others xs l more) where
      by : (jobs : List Job) → Option (List Job) → List Job
      by over left = job_left left job over (λ rest. jobs_left rest more)

      step : (first : Option (List Job)) → without_first job xs ≡ first → (second : Option (List Job)) → without_first job ys ≡ second
          → jobs_left (xs ++ ys) more ≡ jobs_left ys (jobs_left xs more)
          → ((l : List Job) → jobs_left (l ++ ys) more ≡ jobs_left ys (jobs_left l more))
          → ((l : List Job) → jobs_left (xs ++ l) more ≡ jobs_left l (jobs_left xs more))
          → jobs_left (xs ++ ys) (job ∷ more) ≡ jobs_left ys (jobs_left xs (job ∷ more))
      step (Some left) e second f same firsts seconds =
          ap (by (xs ++ ys)) (among_first job xs ys left e) ∙ firsts left ∙ ap (λ o. jobs_left ys (by xs o)) (sym e)
      step None e None f same firsts seconds =
          ap (by (xs ++ ys)) (not_among job xs ys e f) ∙ ap (λ (jobs : List Job). job ∷ jobs) same
          ∙ ap (λ o. job_left o job ys (λ rest. jobs_left rest (jobs_left xs more))) (sym f) ∙ ap (λ o. jobs_left ys (by xs o)) (sym e)
      step None e (Some left) f same firsts seconds =
          ap (by (xs ++ ys)) (among_others job xs ys left e f) ∙ seconds left
          ∙ ap (λ o. job_left o job ys (λ rest. jobs_left rest (jobs_left xs more))) (sym f) ∙ ap (λ o. jobs_left ys (by xs o)) (sym e)

pub jobs_after : (struck failed : List Job) (lines : List OpenLine) → jobs_of (lines_after struck failed lines) ≡ jobs_left (struck ++ failed) (jobs_of lines)
jobs_after struck failed lines =
    jobs_are_left failed (lines_left struck lines) ∙ ap (jobs_left failed) (jobs_are_left struck lines)
    ∙ sym (first_then_others struck failed (jobs_of lines))

-- ---- what is offered of them

pub front_is_short : (n : ℕ) (front jobs : List Job) → front ≡ take n jobs → length front ≤ n
front_is_short n front jobs is =
    let same = ap (λ (js : List Job). length js) is in let least = length-take n jobs in omega (arith, same, least)

pub whole_front : (n : ℕ) (offered front jobs : List Job) → offered ≡ take (length front) front → front ≡ take n jobs → offered ≡ take n jobs
whole_front n offered front jobs is at = is ∙ take-length front ∙ at

pub front_is_less : (n : ℕ) (jobs : List Job) (job : Job) → times job (take n jobs) ≤ times job jobs
front_is_less zero jobs job = omega arith
front_is_less (suc n) [] job = omega arith
front_is_less (suc n) (x ∷ jobs) job = step (is_job x job) (front_is_less n jobs job) where
  step : (b : Bool) → times job (take n jobs) ≤ times job jobs → one_more_if b (times job (take n jobs)) ≤ one_more_if b (times job jobs)
  step true le = omega (arith, le)
  step false le = le
