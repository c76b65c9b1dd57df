-- What is written of jobs is read as the jobs.
use Rattle.std.proofs.Common.{◌≡◌, ◌==◌, ℕ, suc, ◌+◌, ◌≤◌, ◌<◌, true, false, List, [], ◌∷◌, ◌++◌, length, length-append, codes, nat_le, All, Some, None, Ok, refl, sym, ap, ◌∙◌, arith, append_assoc, if◌then◌else◌}
use Rattle.std.proofs.lemmas.Bool.Decides.{nat_tests}
use Rattle.std.proofs.lemmas.List.{append-nil}
use Rattle.std.proofs.lemmas.List.Elements.{All-weaker, All-nil, All-cons, All-append, All-head, All-tail}
use Rattle.std.proofs.lemmas.List.Splits.{slice_split_at}
use Rattle.std.specs.List.{AllByRecursion}
use Rattle.uug_conversation.specs.declared.job.Job.{Job}
use Rattle.uug_conversation.specs.declared.job.Job.TheVariants.{Send, Request}
use Rattle.uug_conversation.specs.declared.queue.TheConstants.{JOBS_MAX}
use Rattle.uug_talk.specs.Name.{IsName, IsNameByte, name_of}
use Rattle.uug_talk.specs.Words.{words, joined}
use Rattle.uug_talk.proofs.JoinedLemmas.{IsWord-name, words-joined}
use Rattle.uug_talk.proofs.NameLemmas.{name_read-of}
use Rattle.uug_talk.specs.declared.lines.TheConstants.{LINE_MAX}
use Rattle.uug_talk.specs.Chained.{◌>>=◌}
use Rattle.uug_talk.specs.Lines.{ended, is_line_feed, without_empty_last, lines}
use Rattle.uug_talk.proofs.LineLemmas.{line_in_front}
use Rattle.std.specs.Result.{result_ok}
use Rattle.uug_store.specs.JobsText.{one_job, job_by, job_of, says_of_words, says_of, with_line, line_added, or_bad, jobs_from, jobs_of, job_words, jobs_text, IsPlainJob}

-- a name's bytes, and those of the words of a job, are no line feeds
abbrev pub HasNoFeed : List ℕ → Type 0
HasNoFeed text = All (λ b. is_line_feed b ≡ false) text

no_feed : (b : ℕ) → IsNameByte b → is_line_feed b ≡ false
no_feed b h = grind (arith, nat_tests)

no_feed-name : (name : List ℕ) → IsName name → HasNoFeed name
no_feed-name name h = All-weaker IsNameByte (λ b. is_line_feed b ≡ false) no_feed name h.printing

no_feed-joined : (ws : List (List ℕ)) → AllByRecursion HasNoFeed ws → HasNoFeed (joined ws)
no_feed-joined [] h = All-nil (λ b. is_line_feed b ≡ false)
no_feed-joined (w ∷ []) h = h.0
no_feed-joined (w ∷ v ∷ vs) h =
    All-append (λ b. is_line_feed b ≡ false) w (32 ∷ joined (v ∷ vs)) h.0
    (All-cons (λ b. is_line_feed b ≡ false) 32 (joined (v ∷ vs)) refl (no_feed-joined (v ∷ vs) h.1))

-- a first word of a job's line: it is as a name is
is_name-send : IsName (codes "send")
is_name-send = record {
  some = omega arith;
  short = omega arith;
  printing = All-cons IsNameByte 115 (codes "end") (omega arith, omega arith) (All-cons IsNameByte 101 (codes "nd") (omega arith, omega arith)
      (All-cons IsNameByte 110 (codes "d") (omega arith, omega arith) (All-cons IsNameByte 100 [] (omega arith, omega arith) (All-nil IsNameByte))));
}

is_name-request : IsName (codes "request")
is_name-request = record {
  some = omega arith;
  short = omega arith;
  printing = All-cons IsNameByte 114 (codes "equest") (omega arith, omega arith) (All-cons IsNameByte 101 (codes "quest") (omega arith, omega arith)
      (All-cons IsNameByte 113 (codes "uest") (omega arith, omega arith) (All-cons IsNameByte 117 (codes "est") (omega arith, omega arith)
      (All-cons IsNameByte 101 (codes "st") (omega arith, omega arith) (All-cons IsNameByte 115 (codes "t") (omega arith, omega arith)
      (All-cons IsNameByte 116 [] (omega arith, omega arith) (All-nil IsNameByte)))))));
}

-- four words that are as names are
record AreNames (a b c d : List ℕ) : Type 0 where
  first : IsName a
  source : IsName b
  target : IsName c
  user : IsName d

abbrev four : (a b c d : List ℕ) → List (List ℕ)
four a b c d = a ∷ b ∷ c ∷ d ∷ []

words_of_four : (a b c d : List ℕ) → AreNames a b c d → words (joined (four a b c d)) ≡ four a b c d
words_of_four a b c d h =
    words-joined (four a b c d) (IsWord-name a h.first, (IsWord-name b h.source, (IsWord-name c h.target, (IsWord-name d h.user, tt))))

no_feed_in_four : (a b c d : List ℕ) → AreNames a b c d → HasNoFeed (joined (four a b c d))
no_feed_in_four a b c d h =
    no_feed-joined (four a b c d) (no_feed-name a h.first, (no_feed-name b h.source, (no_feed-name c h.target, (no_feed-name d h.user, tt))))

length_of_four : (a b c d : List ℕ) → length (joined (four a b c d)) ≡ length a + suc (length b + suc (length c + suc (length d)))
length_of_four a b c d =
    length-append a (32 ∷ joined (b ∷ c ∷ d ∷ []))
    ∙ ap (λ n. length a + suc n) (length-append b (32 ∷ joined (c ∷ d ∷ [])) ∙ ap (λ n. length b + suc n) (length-append c (32 ∷ d)))

four_are_short : (a b c d : List ℕ) → AreNames a b c d → nat_le (length (joined (four a b c d))) LINE_MAX ≡ true
four_are_short a b c d h =
    let ha : length a ≤ 200 = h.first.short in
    let hb : length b ≤ 200 = h.source.short in
    let hc : length c ≤ 200 = h.target.short in
    let hd : length d ≤ 200 = h.user.short in
    let k : length (joined (four a b c d)) ≤ 65536 = omega (arith, length_of_four a b c d, ha, hb, hc, hd) in
    let t : nat_le (length (joined (four a b c d))) 65536 ≡ true = grind (arith, nat_tests, k) in
    t

name_of-name : (name : List ℕ) → IsName name → name_of name ≡ Some name
name_of-name name h = ap result_ok (name_read-of name h)

-- the line of a job says the job
job_of_names : (first a b c : List ℕ) → IsName a → IsName b → IsName c → job_of first (a ∷ b ∷ c ∷ []) ≡ job_by first a b c
job_of_names first a b c ha hb hc = rw (name_of-name a ha) (rw (name_of-name b hb) (rw (name_of-name c hc) refl))

says_of_four : (a b c d : List ℕ) → AreNames a b c d → says_of (joined (four a b c d)) ≡ says_of_words (four a b c d)
says_of_four a b c d h =
    ap (λ t. if t then says_of_words (words (joined (four a b c d))) else None) (four_are_short a b c d h)
    ∙ ap says_of_words (words_of_four a b c d h)

says_send : (a b c : List ℕ) → IsName a → IsName b → IsName c → says_of (joined (four (codes "send") a b c)) ≡ Some (one_job (Send a b c None))
says_send a b c ha hb hc =
    says_of_four (codes "send") a b c (record { first = is_name-send; source = ha; target = hb; user = hc })
    ∙ ap (λ o. o >>= (λ job. Some (one_job job))) (job_of_names (codes "send") a b c ha hb hc)

says_request : (a b c : List ℕ) → IsName a → IsName b → IsName c → says_of (joined (four (codes "request") a b c)) ≡ Some (one_job (Request a b c))
says_request a b c ha hb hc =
    says_of_four (codes "request") a b c (record { first = is_name-request; source = ha; target = hb; user = hc })
    ∙ ap (λ o. o >>= (λ job. Some (one_job job))) (job_of_names (codes "request") a b c ha hb hc)

says_job : (job : Job) → IsPlainJob job → says_of (joined (job_words job)) ≡ Some (one_job job)
says_job (Send a b c temp) h = says_send a b c h.0 h.1 h.2 ∙ ap (λ t. Some (one_job (Send a b c t))) (sym h.3)
says_job (Request a b c) h = says_request a b c h.0 h.1 h.2

pub no_feed_in_job : (job : Job) → IsPlainJob job → HasNoFeed (joined (job_words job))
no_feed_in_job (Send a b c temp) h =
    no_feed_in_four (codes "send") a b c (record { first = is_name-send; source = h.0; target = h.1; user = h.2 })
no_feed_in_job (Request a b c) h =
    no_feed_in_four (codes "request") a b c (record { first = is_name-request; source = h.0; target = h.1; user = h.2 })

room_for_one : (job : Job) (jobs : List Job) → length jobs < JOBS_MAX → with_line (one_job job) jobs ≡ Some (jobs ++ job ∷ [])
room_for_one job jobs h = let t : (length jobs == JOBS_MAX) ≡ false = grind (arith, nat_tests, h) in rw t refl

pub job_added : (job : Job) → IsPlainJob job → (jobs : List Job) → length jobs < JOBS_MAX → line_added (joined (job_words job)) jobs ≡ Some (jobs ++ job ∷ [])
job_added job p jobs h = ap (λ o. o >>= (λ says. with_line says jobs)) (says_job job p) ∙ room_for_one job jobs h

pub first_of_lines : (line rest : List ℕ) → HasNoFeed line → lines (ended line ++ rest) ≡ line ∷ lines rest
first_of_lines line rest h =
    ap lines (append_assoc line (10 ∷ []) rest) ∙ ap without_empty_last (slice_split_at is_line_feed line 10 rest h refl) ∙ line_in_front line rest

more_are_read : (jobs before : List Job) (n : ℕ) → length before + length jobs ≤ JOBS_MAX → All IsPlainJob jobs
    → jobs_from n before (lines (jobs_text jobs)) ≡ Ok (before ++ jobs)
more_are_read [] before n h p = ap Ok (sym (append-nil before))
more_are_read (job ∷ more) before n h p =
    let plain : IsPlainJob job = All-head IsPlainJob job more p in
    ap (jobs_from n before) (first_of_lines (joined (job_words job)) (jobs_text more) (no_feed_in_job job plain))
    ∙ ap (λ o. or_bad n o (λ next. jobs_from (suc n) next (lines (jobs_text more)))) (job_added job plain before (omega (arith, h)))
    ∙ more_are_read more (before ++ job ∷ []) (suc n) (omega (arith, h, length-append before (job ∷ []))) (All-tail IsPlainJob job more p)
    ∙ ap Ok (append_assoc before (job ∷ []) more)

pub written_are_read : (jobs : List Job) → length jobs ≤ JOBS_MAX → All IsPlainJob jobs → jobs_of (jobs_text jobs) ≡ Ok jobs
written_are_read jobs h p = more_are_read jobs [] 1 (omega (arith, h)) p
