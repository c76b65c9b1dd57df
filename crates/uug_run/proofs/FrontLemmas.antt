-- The first jobs of an end are a front of those that its text says.
use Rattle.std.proofs.Common.{◌≡◌, ℕ, zero, suc, List, [], ◌∷◌, ◌++◌, length, take, drop, Result, Ok, refl, sym, ap, ◌∙◌}
use Rattle.std.proofs.lemmas.List.{take-append-drop}
use Rattle.uug_conversation.specs.declared.job.Job.{Job}
use Rattle.uug_conversation.specs.Jobs.{Lists, at_start, pending}
use Rattle.uug_store.specs.JobsText.{IsFrontOf, IsQueueOf}

-- where none is in front, none is behind
none_behind : (n : ℕ) (jobs : List Job) → (n ≡ 0 → length jobs ≡ 0) → take n jobs ≡ [] → drop n jobs ≡ []
none_behind zero [] none e = refl
none_behind (suc n) [] none e = refl
none_behind zero (job ∷ jobs) none e = absurd (cc (none refl))
none_behind (suc n) (job ∷ jobs) none e = absurd cc

abbrev said_by : List Job → Result (List Job) ℕ
said_by jobs = Ok jobs

pub first_are_front : (text : List ℕ) (all queue : Lists) (n : ℕ) → IsQueueOf text all → (n ≡ 0 → length (pending all) ≡ 0)
    → pending queue ≡ take n (pending all) → queue ≡ at_start (pending queue) [] [] → IsFrontOf text queue
first_are_front text all queue n of none first fresh = record {
  behind = drop n (pending all);
  jobs = of.jobs ∙ ap said_by (sym (take-append-drop n (pending all)) ∙ ap (λ (front : List Job). front ++ drop n (pending all)) (sym first));
  fresh = fresh;
  some = λ (silent : pending queue ≡ []). none_behind n (pending all) none (sym first ∙ silent);
}
