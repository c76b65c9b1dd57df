-- What stays of a file of jobs when a session is over.
use Rattle.std.proofs.Common.{◌≡◌, ℕ, zero, suc, ◌+◌, ◌<◌, ◌≤◌, true, false, List, [], ◌∷◌, ◌++◌, length, take, drop, Option, Some, None, refl, sym, ap, ◌∙◌, add-one, append_assoc, if◌then◌else◌, slice_index_or, arith}
use Rattle.std.specs.Prelude.{remove}
use Rattle.std.proofs.lemmas.List.{take_more, drop_all}
use Rattle.uug_conversation.specs.declared.job.Job.{Job}
use Rattle.uug_store.specs.JobsAfter.{in_front, is_job, without_first}

-- ---- the place of the first

-- these jobs in front of those that are left
abbrev pub fronted : List Job → Option (List Job) → Option (List Job)
fronted front None = None
fronted front (Some jobs) = Some (front ++ jobs)

fronted_one : (front : List Job) (job : Job) (left : Option (List Job)) → fronted front (in_front job left) ≡ fronted (front ++ job ∷ []) left
fronted_one front job None = refl
fronted_one front job (Some jobs) = ap Some (sym (append_assoc front (job ∷ []) jobs))

-- it is not among so many of the jobs in front
abbrev pub IsBehind : Job → List Job → ℕ → Type 0
IsBehind job jobs i = without_first job jobs ≡ fronted (take i jobs) (without_first job (drop i jobs))

front_none : (left : Option (List Job)) → left ≡ fronted [] left
front_none None = refl
front_none (Some found) = refl

pub at_first : (job : Job) (jobs : List Job) → IsBehind job jobs 0
at_first job jobs = front_none (without_first job jobs)

drop_read : (jobs : List Job) (i : ℕ) (x : Job) → i < length jobs → x ≡ slice_index_or jobs i x → drop i jobs ≡ x ∷ drop (suc i) jobs
drop_read [] i x lt is = absurd (omega (arith, lt))
drop_read (y ∷ jobs) zero x lt is = ap (λ z. z ∷ jobs) (sym is)
drop_read (y ∷ jobs) (suc i) x lt is = drop_read jobs i x (omega (arith, lt)) is

not_first : (job x : Job) (rest : List Job) → is_job x job ≡ false → without_first job (x ∷ rest) ≡ in_front x (without_first job rest)
not_first job x rest h = ap (λ b. if b then Some rest else in_front x (without_first job rest)) h

is_first : (job x : Job) (rest : List Job) → is_job x job ≡ true → without_first job (x ∷ rest) ≡ Some rest
is_first job x rest h = ap (λ b. if b then Some rest else in_front x (without_first job rest)) h

pub one_behind : (job x : Job) (jobs : List Job) (i : ℕ) → i < length jobs → x ≡ slice_index_or jobs i x → is_job x job ≡ false
    → IsBehind job jobs i → IsBehind job jobs (i + 1)
one_behind job x jobs i lt is other h =
    h ∙ ap (λ (rest : List Job). fronted (take i jobs) (without_first job rest)) (drop_read jobs i x lt is)
    ∙ ap (fronted (take i jobs)) (not_first job x (drop (suc i) jobs) other)
    ∙ fronted_one (take i jobs) x (without_first job (drop (suc i) jobs))
    ∙ ap (λ (y : Job). fronted (take i jobs ++ y ∷ []) (without_first job (drop (suc i) jobs))) is
    ∙ ap (λ (front : List Job). fronted front (without_first job (drop (suc i) jobs))) (sym (take_more jobs i x lt))
    ∙ ap (λ (n : ℕ). fronted (take (i + 1) jobs) (without_first job (drop n jobs))) (sym (add-one i))

pub found : (job x : Job) (jobs : List Job) (i : ℕ) → i < length jobs → x ≡ slice_index_or jobs i x → is_job x job ≡ true
    → IsBehind job jobs i → without_first job jobs ≡ Some (remove jobs i)
found job x jobs i lt is same h =
    h ∙ ap (λ (rest : List Job). fronted (take i jobs) (without_first job rest)) (drop_read jobs i x lt is)
    ∙ ap (fronted (take i jobs)) (is_first job x (drop (suc i) jobs) same)

pub none_found : (job : Job) (jobs : List Job) (i : ℕ) → length jobs ≤ i → IsBehind job jobs i → without_first job jobs ≡ None
none_found job jobs i le h =
    h ∙ ap (λ (rest : List Job). fronted (take i jobs) (without_first job rest)) (drop_all i jobs le)
