-- A queue keeps its pending jobs in one list, and how many of them were skipped.
use Rattle.std.proofs.Common.{◌≡◌, ℕ, zero, suc, ◌+◌, ◌<◌, List, [], ◌∷◌, ◌++◌, length, take, drop, refl, sym, ap, ◌∙◌, add-one, arith}
use Rattle.uug_conversation.specs.declared.job.Job.{Job}
use Rattle.uug_conversation.specs.Jobs.{Lists, pass, move_first, moved_once}

pub record Next {X : Type 0} (xs : List X) (n : ℕ) : Type 0 where
  pub next : X
  pub front : take (n + 1) xs ≡ take n xs ++ next ∷ []
  pub behind : drop n xs ≡ next ∷ drop (n + 1) xs

pub next_at : {X : Type 0} (xs : List X) (n : ℕ) → n < length xs → Next xs n
next_at [] n h = absurd (omega arith)
next_at (x ∷ xs) zero h = record { next = x; front = refl; behind = refl }
next_at (x ∷ xs) (suc n) h =
    let more = next_at xs n (omega arith) in
    record {
      next = more.next;
      front = rw (add-one (suc n)) (ap (λ (l : List _). x ∷ l) (ap (λ k. take k xs) (sym (add-one n)) ∙ more.front));
      behind = rw (add-one (suc n)) (more.behind ∙ ap (λ k. more.next ∷ drop k xs) (add-one n));
    }

abbrev pub lists_at : (jobs struck failed : List Job) → ℕ → Lists
lists_at jobs struck failed n = record { passed = take n jobs; ahead = drop n jobs; struck = struck; failed = failed }

pub one_more_passed : (jobs struck failed : List Job) (n : ℕ) → n < length jobs → lists_at jobs struck failed (n + 1) ≡ moved_once pass (lists_at jobs struck failed n)
one_more_passed jobs struck failed n h =
    let step = next_at jobs n h in
    ap (λ front. record { passed = front; ahead = drop (n + 1) jobs; struck = struck; failed = failed }) step.front
    ∙ sym (ap (λ ahead. move_first pass ahead (lists_at jobs struck failed n)) step.behind)
