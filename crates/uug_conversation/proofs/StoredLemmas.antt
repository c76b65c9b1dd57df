-- Wherever each end has taken at most what the other has said by then, each struck job has an entry of its own.
use Rattle.std.proofs.Common.{◌≡◌, ℕ, suc, ◌≤◌, arith, Bool, true, false, List, [], ◌∷◌, ◌++◌, Contains, Option, Some, None, refl, sym, ap, ◌∙◌, subst, subst₂, append_assoc, append-nil}
use Rattle.uug_talk.specs.Chunks.{Measure}
use Rattle.uug_talk.specs.declared.order.Order.{Order}
use Rattle.uug_conversation.specs.declared.job.Job.{Job}
use Rattle.uug_conversation.specs.declared.job.Job.TheVariants as job
use Rattle.uug_conversation.specs.declared.verdict.Verdict.{Verdict}
use Rattle.uug_conversation.specs.declared.verdict.Verdict.TheVariants.{Yes, Never, Later}
use Rattle.uug_conversation.specs.Choice.{Choice, choice, fetched_by, send_choice}
use Rattle.uug_conversation.specs.Conversation.{exchanges, last_turns, after_hang_up, hang_up, conversation}
use Rattle.uug_conversation.specs.Exchange.{send_exchange, request_exchange}
use Rattle.uug_conversation.specs.Holdings.{File, Holdings, to_give, kept_as}
use Rattle.uug_conversation.specs.Jobs.{Lists, at_start, Move, pass, strike, fail, moved}
use Rattle.uug_conversation.specs.Messages.{measures}
use Rattle.uug_conversation.specs.OwnEntries.{IsOfSendJob, OwnEntries, none, not_struck, sent, asked_for, giver_asked, receiver_sent}
use Rattle.uug_conversation.specs.Party.{Party}
use Rattle.uug_conversation.specs.Resuming.{front_held}
use Rattle.uug_conversation.specs.Turns.{other, Turn}
use Rattle.uug_conversation.specs.declared.side.Side.{Side}
use Rattle.uug_conversation.specs.declared.side.Side.TheVariants.{Caller, Called}
use Rattle.uug_conversation.specs.View.{conversation_view, floor, moves_after, kept_after, lists_after}
use Rattle.uug_conversation.proofs.FrontLemmas.{Claim, HoldsOf, no_turn, master_says, slave_says, follows, from_called, no_moves_at_first, nothing_kept_at_first}

-- ---- what moves strike

abbrev pub struck_by : List Move → List Job → List Job
struck_by [] jobs = []
struck_by (move ∷ moves) [] = []
struck_by (pass ∷ moves) (job ∷ jobs) = struck_by moves jobs
struck_by (strike ∷ moves) (job ∷ jobs) = job ∷ struck_by moves jobs
struck_by (fail ∷ moves) (job ∷ jobs) = struck_by moves jobs

none_moved : (moves : List Move) (passed struck failed : List Job) →
    moved moves (record { passed = passed; ahead = []; struck = struck; failed = failed }) ≡
    record { passed = passed; ahead = []; struck = struck; failed = failed }
none_moved [] passed struck failed = refl
none_moved (move ∷ moves) passed struck failed = none_moved moves passed struck failed

struck-moved : (moves : List Move) (passed ahead struck failed : List Job) →
    (moved moves (record { passed = passed; ahead = ahead; struck = struck; failed = failed })).struck ≡
    struck ++ struck_by moves ahead
struck-moved [] passed ahead struck failed = sym (append-nil struck)
struck-moved (move ∷ moves) passed [] struck failed =
    ap (λ l. l.struck) (none_moved moves passed struck failed) ∙ sym (append-nil struck)
struck-moved (pass ∷ moves) passed (job ∷ jobs) struck failed =
    struck-moved moves (passed ++ job ∷ []) jobs struck failed
struck-moved (strike ∷ moves) passed (job ∷ jobs) struck failed =
    struck-moved moves passed jobs (struck ++ job ∷ []) failed
    ∙ append_assoc struck (job ∷ []) (struck_by moves jobs)
struck-moved (fail ∷ moves) passed (job ∷ jobs) struck failed =
    struck-moved moves passed jobs struck (failed ++ job ∷ [])

moved-append : (first more : List Move) (l : Lists) → moved more (moved first l) ≡ moved (first ++ more) l
moved-append [] more l = refl
moved-append (move ∷ first) more l = moved-append first more (moved (move ∷ []) l)

-- a choice strikes nothing
send_strikes_nothing : (source target user : List ℕ) (temp : Option (List ℕ)) (offered : Option File) (behind : Choice) (jobs : List Job) →
    struck_by (behind.failing ++ []) jobs ≡ [] →
    struck_by ((send_choice source target user temp offered behind).failing ++ []) (job.Send source target user temp ∷ jobs) ≡ []
send_strikes_nothing source target user temp None behind jobs h = h
send_strikes_nothing source target user temp (Some file) behind jobs h = refl

choice_strikes_nothing : (h : Holdings) (jobs : List Job) → struck_by ((choice h jobs).failing ++ []) jobs ≡ []
choice_strikes_nothing h [] = refl
choice_strikes_nothing h (job.Send source target user temp ∷ jobs) =
    send_strikes_nothing source target user temp (to_give h (fetched_by source temp)) (choice h jobs) jobs (choice_strikes_nothing h jobs)
choice_strikes_nothing h (job.Request source target user ∷ jobs) = refl

-- ---- the claim

-- what two ends had at the start: their holdings and jobs
record Ends : Type 0 where
  pub own : Holdings
  pub others : Holdings
  pub own_jobs : List Job
  pub others_jobs : List Job

-- each struck job has an entry of its own, where these jobs are those that each end has yet to move
pub Contains-head : (job : Job) (jobs : List Job) → Contains (job ∷ jobs) job
Contains-head job jobs = (0, omega arith, refl)

pub Contains-tail : (first : Job) (jobs : List Job) (job : Job) → Contains jobs job → Contains (first ∷ jobs) job
Contains-tail first jobs job i = (suc i.0, omega (arith, i.1), i.2)

abbrev Own : Ends → (ahead others_ahead : List Job) → Claim
Own e ahead others_ahead moves others_moves kept others_kept =
    OwnEntries e.own e.others e.own_jobs (struck_by moves ahead) (struck_by others_moves others_ahead) others_kept ×
    OwnEntries e.others e.own e.others_jobs (struck_by others_moves others_ahead) (struck_by moves ahead) kept

-- the same, behind moves of the master's jobs
abbrev OwnBehind : Ends → (ahead others_ahead : List Job) → (front : List Move) → Claim
OwnBehind e ahead others_ahead front moves others_moves kept others_kept =
    Own e ahead others_ahead (front ++ moves) others_moves kept others_kept

-- ---- one job

send_own : (measures : Side → Measure) (master : Side) (e : Ends) (jobs others_ahead : List Job)
    (source target user : List ℕ) (temp : Option (List ℕ)) (offered : Option File) (front : List ℕ) (verdict : Verdict) (immovable : Bool)
    (behind : Choice) (rest : List Turn) →
    to_give e.own (fetched_by source temp) ≡ offered → Contains e.own_jobs (job.Send source target user temp) →
    HoldsOf measures master (OwnBehind e jobs others_ahead behind.failing) rest →
    HoldsOf measures master
    (OwnBehind e (job.Send source target user temp ∷ jobs) others_ahead (send_choice source target user temp offered behind).failing)
    (send_exchange master (other master) e.own.digests source target user temp offered (e.others.landing source target) front verdict immovable behind.failing rest)
send_own measures master e jobs ahead source target user temp None front verdict immovable behind rest given inside more = more
send_own measures master e jobs ahead source target user temp (Some file) front Never immovable behind rest given inside more =
    master_says (none, none) (slave_says (none, none) more)
send_own measures master e jobs ahead source target user temp (Some file) front Later immovable behind rest given inside more =
    master_says (none, none) (slave_says (none, none) more)
send_own measures master e jobs ahead source target user temp (Some file) front Yes false behind rest given inside more =
    let of_job : IsOfSendJob e.own e.others e.own_jobs (kept_as (e.others.landing source target) file) = record {
      source = source;
      target = target;
      user = user;
      temp = temp;
      file = file;
      is_job = inside;
      is_given = given;
      is_entry = refl;
    } in
    master_says (none, none) (slave_says (none, none) (master_says (none, none) (slave_says (not_struck of_job none, none)
    (follows (λ m o k p h. (sent given h.0, receiver_sent h.1)) more))))
send_own measures master e jobs ahead source target user temp (Some file) front Yes true behind rest given inside more =
    master_says (none, none) (slave_says (none, none) (master_says (none, none) (slave_says (none, none) more)))

-- no entry, and nothing struck
nothing_own : (e : Ends) (struck : List Job) → struck ≡ [] →
    OwnEntries e.own e.others e.own_jobs struck [] [] × OwnEntries e.others e.own e.others_jobs [] struck []
nothing_own e struck nothing =
    subst (λ s. OwnEntries e.own e.others e.own_jobs s [] [] × OwnEntries e.others e.own e.others_jobs [] s []) (sym nothing) (none, none)

-- one asked for, and behind it nothing struck
one_asked : (e : Ends) (source target user : List ℕ) (file : File) (struck : List Job) →
    to_give e.others source ≡ Some file → struck ≡ [] →
    OwnEntries e.own e.others e.own_jobs (job.Request source target user ∷ struck) [] [] ×
    OwnEntries e.others e.own e.others_jobs [] (job.Request source target user ∷ struck) (kept_as (e.own.landing source target) file ∷ [])
one_asked e source target user file struck given nothing =
    subst (λ s. OwnEntries e.own e.others e.own_jobs (job.Request source target user ∷ s) [] [] ×
    OwnEntries e.others e.own e.others_jobs [] (job.Request source target user ∷ s) (kept_as (e.own.landing source target) file ∷ []))
    (sym nothing) (giver_asked none, asked_for given none)

request_own : (measures : Side → Measure) (master : Side) (e : Ends) (jobs others_ahead : List Job)
    (source target user : List ℕ) (offered : Option File) (delayed immovable : Bool) (next : List Move) (rest : List Turn) →
    to_give e.others source ≡ offered → struck_by (next ++ []) jobs ≡ [] →
    HoldsOf measures master (OwnBehind e jobs others_ahead next) rest →
    HoldsOf measures master (OwnBehind e (job.Request source target user ∷ jobs) others_ahead [])
    (request_exchange master (other master) e.others.digests source target user offered delayed (e.own.landing source target) immovable next rest)
request_own measures master e jobs ahead source target user None false immovable next rest given nothing more =
    master_says (none, none) (slave_says (none, none) more)
request_own measures master e jobs ahead source target user None true immovable next rest given nothing more =
    master_says (none, none) (slave_says (none, none) more)
request_own measures master e jobs ahead source target user (Some file) delayed false next rest given nothing more =
    master_says (none, none) (slave_says (none, none) (slave_says (none, none) (master_says
    (one_asked e source target user file (struck_by (next ++ []) jobs) given nothing)
    (follows (λ m o k p h. (giver_asked h.0, asked_for given h.1)) more))))
request_own measures master e jobs ahead source target user (Some file) delayed true next rest given nothing more =
    master_says (none, none) (slave_says (none, none) (slave_says (none, none) (master_says
    (nothing_own e (struck_by (next ++ []) jobs) nothing) more)))

-- ---- all jobs of a master

exchanges_own : (measures : Side → Measure) (master : Side) (e : Ends) (jobs others_ahead : List Job) (rest : List Turn) →
    ((job : Job) → Contains jobs job → Contains e.own_jobs job) →
    HoldsOf measures master (Own e [] others_ahead) rest →
    HoldsOf measures master (OwnBehind e jobs others_ahead (choice e.own jobs).failing)
    (exchanges master (other master) e.own e.others jobs rest)
exchanges_own measures master e [] ahead rest inside more = more
exchanges_own measures master e (job.Send source target user temp ∷ jobs) ahead rest inside more =
    send_own measures master e jobs ahead source target user temp (to_give e.own (fetched_by source temp))
    (front_held e.others e.own.digests (fetched_by source temp) (to_give e.own (fetched_by source temp))) (e.others.verdict (e.others.landing source target)) (e.others.immovable (e.others.landing source target)) (choice e.own jobs)
    (exchanges master (other master) e.own e.others jobs rest) refl
    (inside (job.Send source target user temp) (Contains-head (job.Send source target user temp) jobs))
    (exchanges_own measures master e jobs ahead rest
    (λ j i. inside j (Contains-tail (job.Send source target user temp) jobs j i)) more)
exchanges_own measures master e (job.Request source target user ∷ jobs) ahead rest inside more =
    request_own measures master e jobs ahead source target user (to_give e.others source) (e.others.delayed source) (e.own.immovable (e.own.landing source target))
    (choice e.own jobs).failing (exchanges master (other master) e.own e.others jobs rest) refl
    (choice_strikes_nothing e.own jobs)
    (exchanges_own measures master e jobs ahead rest
    (λ j i. inside j (Contains-tail (job.Request source target user) jobs j i)) more)

-- ---- both ends

abbrev caller_ends : (a b : Party) → Ends
caller_ends a b = record { own = a.holdings; others = b.holdings; own_jobs = a.jobs; others_jobs = b.jobs }

abbrev called_ends : (a b : Party) → Ends
called_ends a b = record { own = b.holdings; others = a.holdings; own_jobs = b.jobs; others_jobs = a.jobs }

-- the called end has chosen, and no more was taken
chosen_own : (a b : Party) →
    OwnEntries a.holdings b.holdings a.jobs [] (struck_by ((choice b.holdings b.jobs).failing ++ []) b.jobs) [] ×
    OwnEntries b.holdings a.holdings b.jobs (struck_by ((choice b.holdings b.jobs).failing ++ []) b.jobs) [] []
chosen_own a b =
    let o = nothing_own (called_ends a b) (struck_by ((choice b.holdings b.jobs).failing ++ []) b.jobs)
    (choice_strikes_nothing b.holdings b.jobs) in
    (o.1, o.0)

-- the called end as master: the caller has no job left
called_master_own : (a b : Party) →
    HoldsOf (measures a b) Called (OwnBehind (called_ends a b) b.jobs [] (choice b.holdings b.jobs).failing)
    (exchanges Called Caller b.holdings a.holdings b.jobs last_turns)
called_master_own a b =
    exchanges_own (measures a b) Called (called_ends a b) b.jobs [] last_turns (λ j i. i)
    (master_says (none, none) (slave_says (none, none) (master_says (none, none) (no_turn (none, none)))))

after_hang_up_own : (a b : Party) (offered : Option Order) →
    HoldsOf (measures a b) Caller
    (λ m o k p. Own (caller_ends a b) [] b.jobs m ((choice b.holdings b.jobs).failing ++ o) k p) (after_hang_up offered a b)
after_hang_up_own a b None = slave_says (chosen_own a b) (master_says (chosen_own a b) (no_turn (chosen_own a b)))
after_hang_up_own a b (Some order) = slave_says (chosen_own a b)
    (follows (λ m o k p h. (h.1, h.0)) (from_called (called_master_own a b)))

conversation_own : (a b : Party) →
    HoldsOf (measures a b) Caller (OwnBehind (caller_ends a b) a.jobs b.jobs (choice a.holdings a.jobs).failing) (conversation a b)
conversation_own a b =
    exchanges_own (measures a b) Caller (caller_ends a b) a.jobs b.jobs (hang_up a b) (λ j i. i)
    (master_says (none, none) (after_hang_up_own a b (choice b.holdings b.jobs).next))

-- ---- both stores

struck_of_caller : (a b : Party) (j : ℕ) → (lists_after Caller a b j).struck ≡
    struck_by ((choice a.holdings a.jobs).failing ++ moves_after j (conversation_view Caller a b)) a.jobs
struck_of_caller a b j =
    let first = (choice a.holdings a.jobs).failing in
    let more = moves_after j (conversation_view Caller a b) in
    ap (λ l. l.struck) (moved-append first more (at_start a.jobs [] []))
    ∙ struck-moved (first ++ more) [] a.jobs [] []

struck_of_called : (a b : Party) (k : ℕ) → (lists_after Called a b k).struck ≡
    struck_by (moves_after k (conversation_view Called a b)) b.jobs
struck_of_called a b k = struck-moved (moves_after k (conversation_view Called a b)) [] b.jobs [] []

pub called_store : (a b : Party) (j k : ℕ) → j ≤ floor k (conversation_view Called a b) → k ≤ floor j (conversation_view Caller a b) →
    OwnEntries a.holdings b.holdings a.jobs (lists_after Caller a b j).struck (lists_after Called a b k).struck
    (kept_after k (conversation_view Called a b))
called_store a b j k p q =
    subst₂ (λ s t. OwnEntries a.holdings b.holdings a.jobs s t (kept_after k (conversation_view Called a b)))
    (sym (struck_of_caller a b j)) (sym (struck_of_called a b k)) ((conversation_own a b).always j k p q).0

pub caller_store : (a b : Party) (j k : ℕ) → j ≤ floor k (conversation_view Called a b) → k ≤ floor j (conversation_view Caller a b) →
    OwnEntries b.holdings a.holdings b.jobs (lists_after Called a b k).struck (lists_after Caller a b j).struck
    (kept_after j (conversation_view Caller a b))
caller_store a b j k p q =
    subst₂ (λ s t. OwnEntries b.holdings a.holdings b.jobs t s (kept_after j (conversation_view Caller a b)))
    (sym (struck_of_caller a b j)) (sym (struck_of_called a b k)) ((conversation_own a b).always j k p q).1

-- ---- at the start of a session

pub nothing_struck_at_first : (me : Side) (a b : Party) → (lists_after me a b 0).struck ≡ []
nothing_struck_at_first Caller a b =
    struck_of_caller a b 0
    ∙ ap (λ m. struck_by ((choice a.holdings a.jobs).failing ++ m) a.jobs) (no_moves_at_first (conversation_view Caller a b))
    ∙ choice_strikes_nothing a.holdings a.jobs
nothing_struck_at_first Called a b =
    struck_of_called a b 0 ∙ ap (λ m. struck_by m b.jobs) (no_moves_at_first (conversation_view Called a b))

pub nothing_stored_at_first : (me : Side) (a b : Party) → kept_after 0 (conversation_view me a b) ≡ []
nothing_stored_at_first me a b = nothing_kept_at_first (conversation_view me a b)
