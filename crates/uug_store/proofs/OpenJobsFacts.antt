-- What is left of jobs where some are over, and what a text of jobs says.
use Rattle.std.proofs.Common.{◌≡◌, [], ◌∷◌, None, Some, codes, refl}
use Rattle.uug_conversation.specs.declared.job.Job.{Job}
use Rattle.uug_conversation.specs.declared.job.Job.TheVariants.{Send, Request}
use Rattle.uug_store.specs.OpenJobs.{jobs_left, open_in, text_left, times}

abbrev first : Job
first = Send (codes "x") (codes "y") (codes "u") None

abbrev second : Job
second = Request (codes "x") (codes "y") (codes "u")

-- of two equal jobs one is taken out, the first, and the others stay in their order
one_of_two : jobs_left (first ∷ []) (first ∷ second ∷ first ∷ []) ≡ second ∷ first ∷ []
one_of_two = refl

both : jobs_left (first ∷ first ∷ []) (first ∷ second ∷ first ∷ []) ≡ second ∷ []
both = refl

-- one that is not there takes none with it
none : jobs_left (second ∷ []) (first ∷ first ∷ []) ≡ first ∷ first ∷ []
none = refl

-- to send a file and to ask for it are two jobs
counted : times first (first ∷ second ∷ first ∷ []) ≡ 2
counted = refl

-- comments, bad lines and the jobs that are not over stay as they are
text_stays : text_left (first ∷ []) (Some (codes "# mine\nsend  x y u\nbad\nsend x y u\n")) ≡ Some (codes "# mine\nbad\nsend x y u\n")
text_stays = refl

says : open_in (Some (codes "# mine\nsend  x y u\nbad\nrequest x y u")) ≡ Some (first ∷ second ∷ [])
says = refl
