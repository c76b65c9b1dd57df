-- The choice of a job, job by job.
use Rattle.std.proofs.Common.{◌≡◌, ℕ, List, [], ◌∷◌, slice_get, Option, Some, None, refl, ap, ◌∙◌}
use Rattle.uug_talk.specs.declared.order.Order.{Order}
use Rattle.uug_conversation.specs.declared.job.Job.{Job}
use Rattle.uug_conversation.specs.declared.job.Job.TheVariants as job
use Rattle.uug_conversation.specs.Choice.{Choice, choice, send_choice, offers, fetched_by}
use Rattle.uug_conversation.specs.Holdings.{File, Holdings, to_give}
use Rattle.uug_conversation.specs.Jobs.{Lists, moved, fail}
use Rattle.uug_conversation.specs.Reactions.{offer, send_offer}

-- the choice by whether the first job can be offered
abbrev pub choice_by : Option Order → Choice → Choice
choice_by None behind = record { failing = fail ∷ behind.failing; next = behind.next }
choice_by (Some next) behind = offers next

send_choice_by : (source target user : List ℕ) (temp : Option (List ℕ)) (found : Option File) (behind : Choice) →
    send_choice source target user temp found behind ≡ choice_by (send_offer source target user temp found) behind
send_choice_by source target user temp None behind = refl
send_choice_by source target user temp (Some file) behind = refl

choice_is : (h : Holdings) (j : Job) (jobs : List Job) → choice h (j ∷ jobs) ≡ choice_by (offer h j) (choice h jobs)
choice_is h (job.Send source target user temp) jobs =
    send_choice_by source target user temp (to_give h (fetched_by source temp)) (choice h jobs)
choice_is h (job.Request source target user) jobs = refl

-- where the first job ahead can be offered
first_offered : (h : Holdings) (l : Lists) (jobs : List Job) (j : Job) (o : Order) → slice_get jobs 0 ≡ Some j →
    offer h j ≡ Some o → ((choice h jobs).next ≡ Some o) × (moved (choice h jobs).failing l ≡ l)
first_offered h l [] j o e f = absurd cc
first_offered h l (i ∷ jobs) j o e f =
    let same : i ≡ j = cc in
    let c = choice_is h i jobs ∙ ap (λ z. choice_by (offer h z) (choice h jobs)) same ∙ ap (λ z. choice_by z (choice h jobs)) f in
    (ap (λ z. z.next) c, ap (λ z. moved z.failing l) c)

pub is_offered : (h : Holdings) (l : Lists) (j : Job) (o : Order) → slice_get l.ahead 0 ≡ Some j →
    offer h j ≡ Some o → ((choice h l.ahead).next ≡ Some o) × (moved (choice h l.ahead).failing l ≡ l)
is_offered h l j o e f = first_offered h l l.ahead j o e f
