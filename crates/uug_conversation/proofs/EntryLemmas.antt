-- What is kept in a conversation, turn by turn.
use Rattle.std.proofs.Common.{◌≡◌, ℕ, Bool, true, false, List, [], ◌∷◌, All, Contains, length, drop, Option, Some, None, refl, sym, subst}
use Rattle.std.proofs.lemmas.List.Elements.{All-nil, All-cons, All-head, All-tail, All-contains_itself}
use Rattle.uug_conversation.specs.declared.job.Job.{Job}
use Rattle.uug_conversation.specs.declared.job.Job.TheVariants as job
use Rattle.uug_conversation.specs.declared.verdict.Verdict.{Verdict}
use Rattle.uug_conversation.specs.declared.verdict.Verdict.TheVariants.{Yes, Never, Later}
use Rattle.uug_talk.specs.declared.order.Order.{Order}
use Rattle.uug_conversation.specs.Choice.{choice, fetched_by}
use Rattle.uug_conversation.specs.Conversation.{exchanges, last_turns, after_hang_up, hang_up, conversation}
use Rattle.uug_conversation.specs.Entries.{IsAskedFor, sent, requested, IsWellKept, KeepsWell}
use Rattle.uug_conversation.specs.Exchange.{keeping, send_exchange, request_exchange}
use Rattle.uug_conversation.specs.Holdings.{File, Kept, Holdings, to_give, kept_as}
use Rattle.uug_conversation.specs.Jobs.{Move, strike}
use Rattle.uug_conversation.specs.Party.{Party}
use Rattle.uug_conversation.specs.ReadBack.{EachTurn}
use Rattle.uug_conversation.specs.Resuming.{front_held}
use Rattle.uug_conversation.specs.Turns.{other, Turn}
use Rattle.uug_conversation.specs.declared.side.Side.{Side}
use Rattle.uug_conversation.specs.declared.side.Side.TheVariants.{Caller, Called}
use Rattle.uug_conversation.specs.View.{party}

-- turns that keep nothing have the fact
abbrev OfSilence : (Turn → Type 0) → Type 0
OfSilence W = (t : Turn) → t.keeps ≡ [] → W t

send_entries : (W : Turn → Type 0) → OfSilence W → (master slave : Side) (digests : Bool) (source target user : List ℕ) (temp : Option (List ℕ))
    (file : Option File) (name front : List ℕ) (verdict : Verdict) (immovable : Bool) (next : List Move) (rest : List Turn)
    → ((f : File) → file ≡ Some f → W (keeping master (drop (length front) f.bytes) name f [])) → EachTurn W rest
    → EachTurn W (send_exchange master slave digests source target user temp file name front verdict immovable next rest)
send_entries W w master slave digests source target user temp None name front verdict immovable next rest h r = r
send_entries W w master slave digests source target user temp (Some file) name front Never immovable next rest h r =
    (w _ refl, (w _ refl, r))
send_entries W w master slave digests source target user temp (Some file) name front Later immovable next rest h r =
    (w _ refl, (w _ refl, r))
send_entries W w master slave digests source target user temp (Some file) name front Yes false next rest h r =
    (w _ refl, (w _ refl, (h file refl, (w _ refl, r))))
send_entries W w master slave digests source target user temp (Some file) name front Yes true next rest h r =
    (w _ refl, (w _ refl, (w _ refl, (w _ refl, r))))

request_entries : (W : Turn → Type 0) → OfSilence W → (master slave : Side) (digests : Bool) (source target user : List ℕ)
    (file : Option File) (delayed : Bool) (name : List ℕ) (immovable : Bool) (next : List Move) (rest : List Turn)
    → ((f : File) (moves : List Move) → file ≡ Some f → W (keeping slave f.bytes name f moves)) → EachTurn W rest
    → EachTurn W (request_exchange master slave digests source target user file delayed name immovable next rest)
request_entries W w master slave digests source target user None false name immovable next rest h r =
    (w _ refl, (w _ refl, r))
request_entries W w master slave digests source target user None true name immovable next rest h r =
    (w _ refl, (w _ refl, r))
request_entries W w master slave digests source target user (Some file) delayed name false next rest h r =
    (w _ refl, (w _ refl, (h file (strike ∷ next) refl, (w _ refl, r))))
request_entries W w master slave digests source target user (Some file) delayed name true next rest h r =
    (w _ refl, (w _ refl, (w _ refl, (w _ refl, r))))

-- the turns in which the file of a job is kept have the fact
abbrev OfJob : (W : Turn → Type 0) → (master slave : Side) → (own others : Holdings) → Job → Type 0
OfJob W master slave own others (job.Send source target user temp) =
    (f : File) → to_give own (fetched_by source temp) ≡ Some f →
    W (keeping master (drop (length (front_held others own.digests (fetched_by source temp) (Some f))) f.bytes) (others.landing source target) f [])
OfJob W master slave own others (job.Request source target user) =
    (f : File) (moves : List Move) → to_give others source ≡ Some f → W (keeping slave f.bytes (own.landing source target) f moves)

exchanges_entries : (W : Turn → Type 0) → OfSilence W → (master slave : Side) (own others : Holdings) (jobs : List Job) (rest : List Turn)
    → All (OfJob W master slave own others) jobs → EachTurn W rest → EachTurn W (exchanges master slave own others jobs rest)
exchanges_entries W w master slave own others [] rest h r = r
exchanges_entries W w master slave own others (job.Send source target user temp ∷ jobs) rest h r =
    let first = All-head (OfJob W master slave own others) (job.Send source target user temp) jobs h in
    let later = All-tail (OfJob W master slave own others) (job.Send source target user temp) jobs h in
    send_entries W w master slave own.digests source target user temp (to_give own (fetched_by source temp)) (others.landing source target)
    (front_held others own.digests (fetched_by source temp) (to_give own (fetched_by source temp))) (others.verdict (others.landing source target))
    (others.immovable (others.landing source target)) (choice own jobs).failing (exchanges master slave own others jobs rest)
    (λ f e. subst (λ z. W (keeping master (drop (length (front_held others own.digests (fetched_by source temp) z)) f.bytes) (others.landing source target) f []))
    (sym e) (first f e))
    (exchanges_entries W w master slave own others jobs rest later r)
exchanges_entries W w master slave own others (job.Request source target user ∷ jobs) rest h r =
    let first = All-head (OfJob W master slave own others) (job.Request source target user) jobs h in
    let later = All-tail (OfJob W master slave own others) (job.Request source target user) jobs h in
    request_entries W w master slave others.digests source target user (to_give others source) (others.delayed source) (own.landing source target) (own.immovable (own.landing source target))
    (choice own jobs).failing (exchanges master slave own others jobs rest) first
    (exchanges_entries W w master slave own others jobs rest later r)

-- ---- with the two ends

silent : (a b : Party) → OfSilence (KeepsWell a b)
silent a b t e = subst (λ (ks : List Kept). All (IsWellKept a b t) ks) (sym e) (All-nil (IsWellKept a b t))

one_kept : (a b : Party) (side : Side) (bytes name : List ℕ) (file : File) (moves : List Move)
    → IsAskedFor (party side a b) (party (other side) a b) bytes (kept_as name file) → KeepsWell a b (keeping side bytes name file moves)
one_kept a b side bytes name file moves h =
    All-cons (IsWellKept a b (keeping side bytes name file moves)) (kept_as name file) [] (record { bytes = bytes; said = refl; asked = h })
    (All-nil (IsWellKept a b (keeping side bytes name file moves)))

caller_job : (a b : Party) (j : Job) → Contains a.jobs j → OfJob (KeepsWell a b) Caller Called a.holdings b.holdings j
caller_job a b (job.Send source target user temp) c = λ f e. one_kept a b Caller _ (b.holdings.landing source target) f [] (sent c e)
caller_job a b (job.Request source target user) c = λ f moves e. one_kept a b Called f.bytes (a.holdings.landing source target) f moves (requested c e)

called_job : (a b : Party) (j : Job) → Contains b.jobs j → OfJob (KeepsWell a b) Called Caller b.holdings a.holdings j
called_job a b (job.Send source target user temp) c = λ f e. one_kept a b Called _ (a.holdings.landing source target) f [] (sent c e)
called_job a b (job.Request source target user) c = λ f moves e. one_kept a b Caller f.bytes (b.holdings.landing source target) f moves (requested c e)

after_entries : (next : Option Order) (a b : Party) → EachTurn (KeepsWell a b) (after_hang_up next a b)
after_entries None a b = (silent a b _ refl, (silent a b _ refl, tt))
after_entries (Some first) a b = (
  silent a b _ refl,
  exchanges_entries (KeepsWell a b) (silent a b) Called Caller b.holdings a.holdings b.jobs last_turns
      (λ i d l. called_job a b _ (All-contains_itself b.jobs i d l))
      (silent a b _ refl, (silent a b _ refl, (silent a b _ refl, tt))),
)

pub each_keeps_well : (a b : Party) → EachTurn (KeepsWell a b) (conversation a b)
each_keeps_well a b =
    exchanges_entries (KeepsWell a b) (silent a b) Caller Called a.holdings b.holdings a.jobs (hang_up a b)
    (λ i d l. caller_job a b _ (All-contains_itself a.jobs i d l))
    (silent a b _ refl, after_entries (choice b.holdings b.jobs).next a b)
