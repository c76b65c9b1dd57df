-- Shows the store from which one job was taken, of which nothing is told.
use Rattle.std.proofs.Common.{◌≡◌, ◌++◌, inl, inr, ℕ, List, [], ◌∷◌, Option, Some, None, Result, Ok, Err, refl, ap, ◌∙◌}
use Rattle.std.proofs.lemmas.List.{append-nil}
use Rattle.std.specs.Prelude.{OnErr, OnOk}
use Rattle.uug_conversation.specs.declared.job.Job.{Job}
use Rattle.uug_store.specs.Notices.{TellsSome, also_told}
use Rattle.uug_store.specs.OpenJobs.{IsSettledOrNot}
use Rattle.uug_io_pending.specs.Cancelled.{IsLeftOrNot}

nothing_more : (told : Option (List ℕ)) → also_told [] told ≡ told
nothing_more None = refl
nothing_more (Some text) = ap Some (append-nil text)

front_of_none : (front rest : List ℕ) → [] ≡ front ++ rest → (told : Option (List ℕ)) → also_told front told ≡ told
front_of_none [] rest e told = nothing_more told
front_of_none (b ∷ front) rest e told = absurd (cc e)

tells_none : (told told_after : Option (List ℕ)) → TellsSome [] told told_after → told_after ≡ told
tells_none told told_after some = some.is ∙ front_of_none some.front some.rest some.begins told

pub is_left : (job : Job) (stands stands_after : Option (List Job)) (told told_after : Option (List ℕ))
    → IsSettledOrNot (job ∷ []) [] stands stands_after told told_after → IsLeftOrNot (Some job) stands stands_after
is_left job stands stands_after told told_after (inl same) = inl same.0
is_left job stands stands_after told told_after (inr taken) = inr taken.0

stays_untold : (job : Job) (stands stands_after : Option (List Job)) (told told_after : Option (List ℕ))
    → IsSettledOrNot (job ∷ []) [] stands stands_after told told_after → told_after ≡ told
stays_untold job stands stands_after told told_after (inl same) = tells_none told told_after same.1
stays_untold job stands stands_after told told_after (inr taken) = taken.1 ∙ nothing_more told

pub settled_untold : {T E : Type 0} (result : Result T E) (job : Job) (stands stands_after : Option (List Job)) (told told_after : Option (List ℕ))
    → OnOk result (told_after ≡ also_told [] told) → OnErr result (IsSettledOrNot (job ∷ []) [] stands stands_after told told_after)
    → told_after ≡ told
settled_untold (Ok done) job stands stands_after told told_after ok err = ok ∙ nothing_more told
settled_untold (Err fault) job stands stands_after told told_after ok err = stays_untold job stands stands_after told told_after err
