-- What is queued is read: a text of jobs with one more appended says one job more.
use Rattle.std.proofs.Common.{◌≡◌, ◌==◌, ◌⊎◌, inl, inr, ℕ, suc, ◌-◌, ◌<◌, Bool, true, false, true≢false, cond, List, [], ◌∷◌, ◌++◌, length, length-append, drop, All, Option, Some, None, Result, Ok, Err, refl, sym, ap, ◌∙◌, arith, append_assoc}
use Rattle.std.proofs.lemmas.Bool.Decides.{nat_tests}
use Rattle.std.proofs.lemmas.List.{append-nil}
use Rattle.std.proofs.lemmas.List.Splits.{slice_split_none, length-slice_split}
use Rattle.std.specs.List.{slice_split, onto_first}
use Rattle.uug_conversation.specs.declared.job.Job.{Job}
use Rattle.uug_conversation.specs.declared.queue.TheConstants.{JOBS_MAX}
use Rattle.uug_talk.specs.Words.{joined}
use Rattle.uug_talk.specs.Lines.{is_line_feed, without_empty_last, lines}
use Rattle.uug_store.specs.JobsText.{line_added, or_bad, jobs_from, jobs_of, job_line, job_words, IsPlainJob}
use Rattle.uug_store.specs.Queueing.{appended, is_whole}
use Rattle.uug_store.proofs.JobsTextLemmas.{job_added, no_feed_in_job}

-- ---- the parts of a text

abbrev parts : List ℕ → List (List ℕ)
parts text = slice_split is_line_feed text

some_parts : (text : List ℕ) → 0 < length (parts text)
some_parts text = omega (arith, length-slice_split is_line_feed text)

onto_front : (x : ℕ) (front rest : List (List ℕ)) → 0 < length front → onto_first x (front ++ rest) ≡ onto_first x front ++ rest
onto_front x [] rest h = absurd (omega arith)
onto_front x (part ∷ more) rest h = refl

parts_step : (b : Bool) (x : ℕ) (front rest : List (List ℕ)) → 0 < length front
    → cond b ([] ∷ (front ++ rest)) (onto_first x (front ++ rest)) ≡ cond b ([] ∷ front) (onto_first x front) ++ rest
parts_step true x front rest h = refl
parts_step false x front rest h = onto_front x front rest h

parts_at_feed : (text rest : List ℕ) → parts (text ++ 10 ∷ rest) ≡ parts text ++ parts rest
parts_at_feed [] rest = refl
parts_at_feed (x ∷ xs) rest =
    ap (λ p. cond (is_line_feed x) ([] ∷ p) (onto_first x p)) (parts_at_feed xs rest)
    ∙ parts_step (is_line_feed x) x (parts xs) (parts rest) (some_parts xs)

in_front : (line next : List ℕ) (more : List (List ℕ)) → without_empty_last (line ∷ next ∷ more) ≡ line ∷ without_empty_last (next ∷ more)
in_front [] next more = refl
in_front (b ∷ bs) next more = refl

last_of_rest : (front rest : List (List ℕ)) → 0 < length rest → without_empty_last (front ++ rest) ≡ front ++ without_empty_last rest
last_of_rest [] rest h = refl
last_of_rest (a ∷ []) [] h = absurd (omega arith)
last_of_rest (a ∷ []) (b ∷ bs) h = in_front a b bs
last_of_rest (a ∷ c ∷ cs) rest h = in_front a c (cs ++ rest) ∙ ap (λ l. a ∷ l) (last_of_rest (c ∷ cs) rest h)

-- what stands behind a line feed has lines of its own
lines_at_feed : (text rest : List ℕ) → lines (text ++ 10 ∷ rest) ≡ parts text ++ lines rest
lines_at_feed text rest =
    ap without_empty_last (parts_at_feed text rest) ∙ last_of_rest (parts text) (parts rest) (some_parts rest)

one_line : (line : List ℕ) → All (λ b. is_line_feed b ≡ false) line → lines (line ++ 10 ∷ []) ≡ line ∷ []
one_line line h = lines_at_feed line [] ∙ ap (λ p. p ++ []) (slice_split_none is_line_feed line h)

-- ---- a text whose last line lacks its line feed

-- all parts are lines
abbrev AllLines : List (List ℕ) → Type 0
AllLines ps = without_empty_last ps ≡ ps

abbrev tail_of : List (List ℕ) → List (List ℕ)
tail_of [] = []
tail_of (p ∷ ps) = ps

all_onto : (x : ℕ) (ps : List (List ℕ)) → AllLines ps → AllLines (onto_first x ps)
all_onto x [] h = refl
all_onto x (s ∷ []) h = refl
all_onto x (s ∷ t ∷ ts) h = ap (λ l. (x ∷ s) ∷ l) (ap tail_of (sym (in_front s t ts) ∙ h))

all_behind : (ps : List (List ℕ)) → 0 < length ps → AllLines ps → AllLines ([] ∷ ps)
all_behind [] some h = absurd (omega arith)
all_behind (p ∷ ps) some h = ap (λ l. [] ∷ l) h

all_step : (b : Bool) (x : ℕ) (ps : List (List ℕ)) → 0 < length ps → AllLines ps → AllLines (cond b ([] ∷ ps) (onto_first x ps))
all_step true x ps some h = all_behind ps some h
all_step false x ps some h = all_onto x ps h

no_feed_last : (front : List ℕ) (last : ℕ) → is_line_feed last ≡ false → AllLines (parts (front ++ last ∷ []))
no_feed_last [] last h = rw h refl
no_feed_last (x ∷ xs) last h =
    all_step (is_line_feed x) x (parts (xs ++ last ∷ [])) (some_parts (xs ++ last ∷ [])) (no_feed_last xs last h)

-- ---- one line more

drop_front : (front : List ℕ) (last : ℕ) → drop (length front) (front ++ last ∷ []) ≡ last ∷ []
drop_front [] last = refl
drop_front (x ∷ xs) last = drop_front xs last

whole_by_last : (front : List ℕ) (last : ℕ) (b : Bool) → is_line_feed last ≡ b → is_whole (front ++ last ∷ []) ≡ b
whole_by_last front last b h =
    let n : length (front ++ last ∷ []) - 1 ≡ length front = omega (arith, length-append front (last ∷ [])) in
    let some : (length (front ++ last ∷ []) == 0) ≡ false = grind (arith, nat_tests, length-append front (last ∷ [])) in
    rw (some, n, drop_front front last) (grind (arith, nat_tests, h))

abbrev Ends : List ℕ → Type 0
Ends text = (text ≡ []) ⊎ ((front : List ℕ) × (last : ℕ) × (text ≡ front ++ last ∷ []))

ends_behind : (x : ℕ) (xs : List ℕ) → Ends xs → Ends (x ∷ xs)
ends_behind x xs (inl none) = inr ([], x, ap (λ l. x ∷ l) none)
ends_behind x xs (inr some) = inr (x ∷ some.0, some.1, ap (λ l. x ∷ l) some.2)

ends : (text : List ℕ) → Ends text
ends [] = inl refl
ends (x ∷ xs) = ends_behind x xs (ends xs)

abbrev line_of_job : Job → List ℕ
line_of_job job = joined (job_words job)

abbrev HasOneMore : (text : List ℕ) → Job → Type 0
HasOneMore text job = lines (text ++ appended text job) ≡ lines text ++ line_of_job job ∷ []

more_by_last : (front : List ℕ) (last : ℕ) (job : Job) → IsPlainJob job → (b : Bool) → is_line_feed last ≡ b → HasOneMore (front ++ last ∷ []) job
more_by_last front last job plain true h =
    let ten : last ≡ 10 = grind (arith, nat_tests, h) in
    let job_is = one_line (line_of_job job) (no_feed_in_job job plain) in
    rw (whole_by_last front last true h, ten)
    (ap lines (append_assoc front (10 ∷ []) (job_line job)) ∙ lines_at_feed front (job_line job) ∙ ap (λ l. parts front ++ l) job_is
    ∙ ap (λ l. l ++ line_of_job job ∷ []) (sym (lines_at_feed front [] ∙ append-nil (parts front))))
more_by_last front last job plain false h =
    let job_is = one_line (line_of_job job) (no_feed_in_job job plain) in
    rw (whole_by_last front last false h)
    (lines_at_feed (front ++ last ∷ []) (job_line job) ∙ ap (λ l. parts (front ++ last ∷ []) ++ l) job_is
    ∙ ap (λ l. l ++ line_of_job job ∷ []) (sym (no_feed_last front last h)))

one_more : (text : List ℕ) (job : Job) → IsPlainJob job → Ends text → HasOneMore text job
one_more text job plain (inl none) = rw none (one_line (line_of_job job) (no_feed_in_job job plain))
one_more text job plain (inr some) = rw some.2 (more_by_last some.0 some.1 job plain (is_line_feed some.1) refl)

-- ---- its job

abbrev is_read : Result (List Job) ℕ → Bool
is_read (Ok jobs) = true
is_read (Err line) = false

abbrev jobs_or : List Job → Result (List Job) ℕ → List Job
jobs_or jobs (Ok read) = read
jobs_or jobs (Err line) = jobs

module _ (line : List ℕ) (jobs after : List Job) (added : line_added line jobs ≡ Some after) where
  read_on : (n : ℕ) (before : List Job) (ls : List (List ℕ)) → jobs_from n before ls ≡ Ok jobs → jobs_from n before (ls ++ line ∷ []) ≡ Ok after
  read_on n before [] h =
      let same : before ≡ jobs = ap (jobs_or jobs) h in
      ap (λ k. or_bad n (line_added line k) (λ next. Ok next)) same ∙ ap (λ o. or_bad n o (λ next. Ok next)) added
  read_on n before (l ∷ ls) h = go (line_added l before) (λ next. read_on (suc n) next ls) h
    where
      go : (o : Option (List Job)) → ((next : List Job) → jobs_from (suc n) next ls ≡ Ok jobs → jobs_from (suc n) next (ls ++ line ∷ []) ≡ Ok after)
          → or_bad n o (λ next. jobs_from (suc n) next ls) ≡ Ok jobs
          → or_bad n o (λ next. jobs_from (suc n) next (ls ++ line ∷ [])) ≡ Ok after
      go None rest h = absurd (true≢false (sym (ap is_read h)))
      go (Some next) rest h = rest next h

pub queued_is_read : (text : List ℕ) (jobs : List Job) (job : Job) → jobs_of text ≡ Ok jobs → length jobs < JOBS_MAX → IsPlainJob job
    → jobs_of (text ++ appended text job) ≡ Ok (jobs ++ job ∷ [])
queued_is_read text jobs job read room plain =
    ap (jobs_from 1 []) (one_more text job plain (ends text))
    ∙ read_on (line_of_job job) jobs (jobs ++ job ∷ []) (job_added job plain jobs room) 1 [] (lines text) read
