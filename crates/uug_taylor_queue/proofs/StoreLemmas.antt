-- A store of jobs over lines of C. files.
use Rattle.std.proofs.Common.{◌≡◌, inl, ℕ, List, [], ◌++◌, Option, Some, None, refl, sym, ap, ◌∙◌}
use Rattle.std.proofs.lemmas.List.{append-nil}
use Rattle.uug_conversation.specs.declared.job.Job.{Job}
use Rattle.uug_store.specs.Notices as folder
use Rattle.uug_store.specs.OpenJobs.{IsSettledOrNot, settled_in}
use Rattle.uug_taylor_text.specs.Operations.{TellsSome, also_told}
use Rattle.uug_taylor_queue.specs.OpenLines.{jobs_of}
use Rattle.uug_taylor_queue.specs.OverOrder.{lines_after}
use Rattle.uug_taylor_queue.specs.declared.open_line.OpenLine.{OpenLine}
use Rattle.uug_taylor_queue.proofs.OpenLinesLemmas.{jobs_after}

-- ---- what is told

pub nothing_told : (told : Option (List ℕ)) → told ≡ also_told [] told
nothing_told None = refl
nothing_told (Some text) = ap Some (sym (append-nil text))

pub tells_none : (notice : List ℕ) (told told_after : Option (List ℕ)) → told_after ≡ told → TellsSome notice told told_after
tells_none notice told told_after e = record { front = []; rest = notice; begins = refl; is = e ∙ nothing_told told }

pub tells_all : (notice : List ℕ) (told told_after : Option (List ℕ)) → told_after ≡ also_told notice told → TellsSome notice told told_after
tells_all notice told told_after e = record { front = notice; rest = []; begins = sym (append-nil notice); is = e }

same_told : (notice : List ℕ) (told : Option (List ℕ)) → also_told notice told ≡ folder.also_told notice told
same_told notice None = refl
same_told notice (Some text) = refl

pub store_told : (notice : List ℕ) (told told_after : Option (List ℕ)) → told_after ≡ also_told notice told → told_after ≡ folder.also_told notice told
store_told notice told told_after e = e ∙ same_told notice told

-- ---- the jobs

pub store_is_settled : (struck failed : List Job) (lines after : List OpenLine) → after ≡ lines_after struck failed lines
    → Some (jobs_of after) ≡ settled_in (struck ++ failed) (Some (jobs_of lines))
store_is_settled struck failed lines after e = ap Some (ap jobs_of e ∙ jobs_after struck failed lines)

pub store_stays : (over : List Job) (notice : List ℕ) (lines after : List OpenLine) (told told_after : Option (List ℕ)) → after ≡ lines
    → TellsSome notice told told_after → IsSettledOrNot over notice (Some (jobs_of lines)) (Some (jobs_of after)) told told_after
store_stays over notice lines after told told_after e h =
    inl (
      ap (λ (ls : List OpenLine). Some (jobs_of ls)) e,
      record { front = h.front; rest = h.rest; begins = h.begins; is = h.is ∙ same_told h.front told },
    )
