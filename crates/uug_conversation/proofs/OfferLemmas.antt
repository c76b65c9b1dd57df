-- What the ends ask for, and how they hang up.
use Rattle.std.proofs.Common.{◌≡◌, ℕ, Bool, true, false, List, [], ◌∷◌, ◌++◌, Option, Some, None, refl, sym, ap, ◌∙◌, append_assoc}
use Rattle.uug_conversation.specs.declared.job.Job.{Job}
use Rattle.uug_conversation.specs.declared.job.Job.TheVariants as job
use Rattle.uug_conversation.specs.declared.verdict.Verdict.{Verdict}
use Rattle.uug_conversation.specs.declared.verdict.Verdict.TheVariants.{Yes, Never, Later}
use Rattle.uug_talk.specs.declared.answer.Answer.TheVariants as answer
use Rattle.uug_talk.specs.declared.order.Order.{Order}
use Rattle.uug_talk.specs.declared.order.Order.TheVariants as order
use Rattle.uug_conversation.specs.Choice.{Choice, choice, send_choice, fetched_by}
use Rattle.uug_conversation.specs.Conversation.{exchanges, last_turns, after_hang_up, hang_up, conversation}
use Rattle.uug_conversation.specs.Exchange.{send_exchange, request_exchange, exchange}
use Rattle.uug_conversation.specs.Holdings.{File, Holdings, to_give}
use Rattle.uug_conversation.specs.Jobs.{Move}
use Rattle.uug_conversation.specs.Offers.{send_commands, job_commands, offered, first_of, if_spoken, commands_of, until_hang_up, hang_up_answers, hanging_up, HangUpAnswer}
use Rattle.uug_conversation.specs.Party.{Party}
use Rattle.uug_conversation.specs.Resuming.{front_held}
use Rattle.uug_conversation.specs.Turns.{Turn}
use Rattle.uug_conversation.specs.declared.side.Side.{Side}
use Rattle.uug_conversation.specs.declared.side.Side.TheVariants.{Caller, Called}

-- ---- the choice is the first of what is offered

send_choice_first : (source target user : List ℕ) (temp : Option (List ℕ)) (file : Option File) (behind : Choice) (orders : List Order)
    → behind.next ≡ first_of orders
    → (send_choice source target user temp file behind).next ≡ first_of (send_commands source target user temp file ++ orders)
send_choice_first source target user temp None behind orders e = e
send_choice_first source target user temp (Some file) behind orders e = refl

pub choice_is_first : (h : Holdings) (jobs : List Job) → (choice h jobs).next ≡ first_of (offered h jobs)
choice_is_first h [] = refl
choice_is_first h (job.Send source target user temp ∷ jobs) =
    send_choice_first source target user temp (to_give h (fetched_by source temp)) (choice h jobs) (offered h jobs) (choice_is_first h jobs)
choice_is_first h (job.Request source target user ∷ jobs) = refl

-- ---- commands

if_spoken-nil : (me speaker : Side) → if_spoken {A = Order} me speaker [] ≡ []
if_spoken-nil Caller Caller = refl
if_spoken-nil Caller Called = refl
if_spoken-nil Called Caller = refl
if_spoken-nil Called Called = refl

if_spoken-append : (me speaker : Side) (xs ys : List Order) → if_spoken me speaker xs ++ if_spoken me speaker ys ≡ if_spoken me speaker (xs ++ ys)
if_spoken-append Caller Caller xs ys = refl
if_spoken-append Caller Called xs ys = refl
if_spoken-append Called Caller xs ys = refl
if_spoken-append Called Called xs ys = refl

send_exchange_commands : (me master slave : Side) (digests : Bool) (source target user : List ℕ) (temp : Option (List ℕ))
    (file : Option File) (name front : List ℕ) (verdict : Verdict) (immovable : Bool) (next : List Move) (rest : List Turn)
    → commands_of me (send_exchange master slave digests source target user temp file name front verdict immovable next rest)
    ≡ if_spoken me master (send_commands source target user temp file) ++ commands_of me rest
send_exchange_commands me master slave digests source target user temp None name front verdict immovable next rest =
    rw (if_spoken-nil me master) refl
send_exchange_commands me master slave digests source target user temp (Some file) name front Never immovable next rest =
    rw (if_spoken-nil me slave) refl
send_exchange_commands me master slave digests source target user temp (Some file) name front Later immovable next rest =
    rw (if_spoken-nil me slave) refl
send_exchange_commands me master slave digests source target user temp (Some file) name front Yes false next rest =
    rw (if_spoken-nil me slave, if_spoken-nil me master) refl
send_exchange_commands me master slave digests source target user temp (Some file) name front Yes true next rest =
    rw (if_spoken-nil me slave, if_spoken-nil me master) refl

request_exchange_commands : (me master slave : Side) (digests : Bool) (source target user : List ℕ) (file : Option File) (delayed : Bool) (name : List ℕ) (immovable : Bool)
    (next : List Move) (rest : List Turn)
    → commands_of me (request_exchange master slave digests source target user file delayed name immovable next rest)
    ≡ if_spoken me master (order.Request source target user ∷ []) ++ commands_of me rest
request_exchange_commands me master slave digests source target user None false name immovable next rest =
    rw (if_spoken-nil me slave) refl
request_exchange_commands me master slave digests source target user None true name immovable next rest =
    rw (if_spoken-nil me slave) refl
request_exchange_commands me master slave digests source target user (Some file) delayed name false next rest =
    rw (if_spoken-nil me slave, if_spoken-nil me master) refl
request_exchange_commands me master slave digests source target user (Some file) delayed name true next rest =
    rw (if_spoken-nil me slave, if_spoken-nil me master) refl

exchange_commands : (me master slave : Side) (own others : Holdings) (j : Job) (next : List Move) (rest : List Turn)
    → commands_of me (exchange master slave own others j next rest) ≡ if_spoken me master (job_commands own j) ++ commands_of me rest
exchange_commands me master slave own others (job.Send source target user temp) next rest =
    send_exchange_commands me master slave own.digests source target user temp
    (to_give own (fetched_by source temp)) (others.landing source target)
    (front_held others own.digests (fetched_by source temp) (to_give own (fetched_by source temp))) (others.verdict (others.landing source target)) (others.immovable (others.landing source target)) next rest
exchange_commands me master slave own others (job.Request source target user) next rest =
    request_exchange_commands me master slave others.digests source target user (to_give others source) (others.delayed source) (own.landing source target) (own.immovable (own.landing source target)) next rest

exchanges_commands : (me master slave : Side) (own others : Holdings) (jobs : List Job) (rest : List Turn)
    → commands_of me (exchanges master slave own others jobs rest) ≡ if_spoken me master (offered own jobs) ++ commands_of me rest
exchanges_commands me master slave own others [] rest = rw (if_spoken-nil me master) refl
exchanges_commands me master slave own others (j ∷ jobs) rest =
    exchange_commands me master slave own others j (choice own jobs).failing (exchanges master slave own others jobs rest)
    ∙ ap (λ ts. if_spoken me master (job_commands own j) ++ ts) (exchanges_commands me master slave own others jobs rest)
    ∙ sym (append_assoc (if_spoken me master (job_commands own j)) (if_spoken me master (offered own jobs)) (commands_of me rest))
    ∙ ap (λ cs. cs ++ commands_of me rest) (if_spoken-append me master (job_commands own j) (offered own jobs))

after_commands : (me : Side) (orders : List Order) (next : Option Order) (a b : Party) → next ≡ first_of orders → orders ≡ offered b.holdings b.jobs
    → commands_of me (after_hang_up next a b) ≡ if_spoken me Called (until_hang_up orders)
after_commands Caller [] None a b e o = refl
after_commands Called [] None a b e o = refl
after_commands me [] (Some next) a b e o = absurd (cc)
after_commands me (first ∷ orders) None a b e o = absurd (cc)
after_commands Caller (first ∷ orders) (Some next) a b e o =
    exchanges_commands Caller Called Caller b.holdings a.holdings b.jobs last_turns
after_commands Called (first ∷ orders) (Some next) a b e o =
    exchanges_commands Called Called Caller b.holdings a.holdings b.jobs last_turns
    ∙ ap (λ os. os ++ order.HangUp ∷ []) (sym o)

-- the caller asks for what it has, and hangs up; the called end then does so where it has anything to ask for
pub caller_commands : (a b : Party) → commands_of Caller (conversation a b) ≡ offered a.holdings a.jobs ++ order.HangUp ∷ []
caller_commands a b =
    exchanges_commands Caller Caller Called a.holdings b.holdings a.jobs (hang_up a b)
    ∙ ap (λ os. offered a.holdings a.jobs ++ order.HangUp ∷ os)
    (after_commands Caller (offered b.holdings b.jobs) (choice b.holdings b.jobs).next a b (choice_is_first b.holdings b.jobs) refl)

pub called_commands : (a b : Party) → commands_of Called (conversation a b) ≡ until_hang_up (offered b.holdings b.jobs)
called_commands a b =
    exchanges_commands Called Caller Called a.holdings b.holdings a.jobs (hang_up a b)
    ∙ after_commands Called (offered b.holdings b.jobs) (choice b.holdings b.jobs).next a b (choice_is_first b.holdings b.jobs) refl

-- ---- answers to H

send_exchange_answers : (master slave : Side) (digests : Bool) (source target user : List ℕ) (temp : Option (List ℕ))
    (file : Option File) (name front : List ℕ) (verdict : Verdict) (immovable : Bool) (next : List Move) (rest : List Turn)
    → hang_up_answers (send_exchange master slave digests source target user temp file name front verdict immovable next rest) ≡ hang_up_answers rest
send_exchange_answers master slave digests source target user temp None name front verdict immovable next rest = refl
send_exchange_answers master slave digests source target user temp (Some file) name front Never immovable next rest = refl
send_exchange_answers master slave digests source target user temp (Some file) name front Later immovable next rest = refl
send_exchange_answers master slave digests source target user temp (Some file) name front Yes false next rest = refl
send_exchange_answers master slave digests source target user temp (Some file) name front Yes true next rest = refl

request_exchange_answers : (master slave : Side) (digests : Bool) (source target user : List ℕ) (file : Option File) (delayed : Bool) (name : List ℕ) (immovable : Bool)
    (next : List Move) (rest : List Turn)
    → hang_up_answers (request_exchange master slave digests source target user file delayed name immovable next rest) ≡ hang_up_answers rest
request_exchange_answers master slave digests source target user None false name immovable next rest = refl
request_exchange_answers master slave digests source target user None true name immovable next rest = refl
request_exchange_answers master slave digests source target user (Some file) delayed name false next rest = refl
request_exchange_answers master slave digests source target user (Some file) delayed name true next rest = refl

exchanges_answers : (master slave : Side) (own others : Holdings) (jobs : List Job) (rest : List Turn)
    → hang_up_answers (exchanges master slave own others jobs rest) ≡ hang_up_answers rest
exchanges_answers master slave own others [] rest = refl
exchanges_answers master slave own others (job.Send source target user temp ∷ jobs) rest =
    send_exchange_answers master slave own.digests source target user temp
    (to_give own (fetched_by source temp)) (others.landing source target)
    (front_held others own.digests (fetched_by source temp) (to_give own (fetched_by source temp))) (others.verdict (others.landing source target)) (others.immovable (others.landing source target)) (choice own jobs).failing
    (exchanges master slave own others jobs rest)
    ∙ exchanges_answers master slave own others jobs rest
exchanges_answers master slave own others (job.Request source target user ∷ jobs) rest =
    request_exchange_answers master slave others.digests source target user (to_give others source) (others.delayed source) (own.landing source target) (own.immovable (own.landing source target)) (choice own jobs).failing
    (exchanges master slave own others jobs rest)
    ∙ exchanges_answers master slave own others jobs rest

after_answers : (orders : List Order) (next : Option Order) (a b : Party) → next ≡ first_of orders
    → hang_up_answers (after_hang_up next a b) ≡ hanging_up orders
after_answers [] None a b e = refl
after_answers [] (Some order) a b e = absurd (cc)
after_answers (first ∷ orders) None a b e = absurd (cc)
after_answers (first ∷ orders) (Some order) a b e =
    ap (λ (later : List HangUpAnswer). record { speaker = Called; answer = answer.HangNo } ∷ later)
    (exchanges_answers Called Caller b.holdings a.holdings b.jobs last_turns)

pub answers_to_hang_up : (a b : Party) → hang_up_answers (conversation a b) ≡ hanging_up (offered b.holdings b.jobs)
answers_to_hang_up a b =
    exchanges_answers Caller Called a.holdings b.holdings a.jobs (hang_up a b)
    ∙ after_answers (offered b.holdings b.jobs) (choice b.holdings b.jobs).next a b (choice_is_first b.holdings b.jobs)
