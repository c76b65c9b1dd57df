-- Whatever happens to an end only moves its jobs from one list to another, so together they stay the same.
use Rattle.std.proofs.Common.{◌≡◌, ℕ, List, [], ◌∷◌, ◌++◌, sym, ap, subst, ◌∙◌, append_assoc}
use Rattle.std.proofs.lemmas.List.{append-nil}
use Rattle.std.proofs.lemmas.List.Sorted.{IsPermutation-refl, IsPermutation-sym, IsPermutation-trans, IsPermutation-append_left, IsPermutation-middle}
use Rattle.std.specs.Prelude.{IsPermutation}
use Rattle.uug_talk.specs.Chunks.{Measure}
use Rattle.uug_conversation.specs.declared.job.Job.{Job}
use Rattle.uug_session.specs.Arriving.{Buffered, Arrival, takes_piece}
use Rattle.uug_session.specs.EndStep.{EndState, Identity, EndEvent, end_step}
use Rattle.uug_session.specs.Engine.{EngineState, end_of}
use Rattle.uug_conversation.specs.Holdings.{Kept, Holdings}
use Rattle.uug_conversation.specs.Jobs.{Lists, Move, pass, strike, fail, moved, moved_once}
use Rattle.uug_conversation.specs.Machine as machine
use Rattle.uug_session.specs.Node.{NodeState, effect_of}
use Rattle.uug_session.specs.NodeArriving.{NodeEnd, GoesOn, TakesAll, hearer_of, node_taker}
use Rattle.uug_conversation.specs.Sharing.{OnlyMoves, HaveSameJobs, all_jobs}
use Rattle.uug_conversation.specs.DialogueState.{DialogueState, end_keeper, is_empty, opened_with, taking}
use Rattle.uug_conversation.specs.declared.side.Side.{Side}
use Rattle.uug_session.proofs.KeeperLemmas.{piece_keeps, step_keeps, talk_in}
use Rattle.uug_conversation.proofs.MachineMoveLemmas.{after_opening, after_reply, stays, then_moves}

-- ---- moves

moved_back : (p a m f : List Job) (job : Job) → IsPermutation ((p ++ job ∷ a) ++ (m ++ f)) ((p ++ a) ++ ((m ++ job ∷ []) ++ f))
moved_back p a m f job =
    let before : IsPermutation ((p ++ job ∷ a) ++ (m ++ f)) (job ∷ ((p ++ a) ++ (m ++ f))) =
    IsPermutation-append_left (m ++ f) (p ++ job ∷ a) (job ∷ (p ++ a)) (IsPermutation-middle p job a) in
    let after : IsPermutation (((p ++ a) ++ m) ++ job ∷ f) (job ∷ (((p ++ a) ++ m) ++ f)) = IsPermutation-middle ((p ++ a) ++ m) job f in
    let there : ((p ++ a) ++ m) ++ job ∷ f ≡ (p ++ a) ++ ((m ++ job ∷ []) ++ f) =
    append_assoc (p ++ a) m (job ∷ f) ∙ ap (λ (js : List Job). (p ++ a) ++ js) (sym (append_assoc m (job ∷ []) f)) in
    let front : job ∷ (((p ++ a) ++ m) ++ f) ≡ job ∷ ((p ++ a) ++ (m ++ f)) = ap (λ (js : List Job). job ∷ js) (append_assoc (p ++ a) m f) in
    let back : IsPermutation ((p ++ a) ++ ((m ++ job ∷ []) ++ f)) (job ∷ ((p ++ a) ++ (m ++ f))) =
    subst (λ (js : List Job). IsPermutation js (job ∷ ((p ++ a) ++ (m ++ f)))) there
    (subst (IsPermutation (((p ++ a) ++ m) ++ job ∷ f)) front after) in
    IsPermutation-trans ((p ++ job ∷ a) ++ (m ++ f)) (job ∷ ((p ++ a) ++ (m ++ f))) ((p ++ a) ++ ((m ++ job ∷ []) ++ f)) before
    (IsPermutation-sym ((p ++ a) ++ ((m ++ job ∷ []) ++ f)) (job ∷ ((p ++ a) ++ (m ++ f))) back)

abbrev lists : (passed ahead struck failed : List Job) → Lists
lists passed ahead struck failed = record { passed = passed; ahead = ahead; struck = struck; failed = failed }

one_moved : (move : Move) (p a s f : List Job) → HaveSameJobs (lists p a s f) (moved_once move (lists p a s f))
one_moved pass p [] s f = IsPermutation-refl ((p ++ []) ++ (s ++ f))
one_moved strike p [] s f = IsPermutation-refl ((p ++ []) ++ (s ++ f))
one_moved fail p [] s f = IsPermutation-refl ((p ++ []) ++ (s ++ f))
one_moved pass p (job ∷ a) s f =
    subst (λ (js : List Job). IsPermutation ((p ++ job ∷ a) ++ (s ++ f)) (js ++ (s ++ f))) (sym (append_assoc p (job ∷ []) a))
    (IsPermutation-refl ((p ++ job ∷ a) ++ (s ++ f)))
one_moved strike p (job ∷ a) s f = moved_back p a s f job
one_moved fail p (job ∷ a) s f =
    subst (λ (js : List Job). IsPermutation ((p ++ job ∷ a) ++ (s ++ f)) ((p ++ a) ++ js))
    (append-nil ((s ++ f) ++ job ∷ []) ∙ append_assoc s f (job ∷ []))
    (subst (λ (js : List Job). IsPermutation ((p ++ job ∷ a) ++ js) ((p ++ a) ++ (((s ++ f) ++ job ∷ []) ++ []))) (append-nil (s ++ f))
    (moved_back p a (s ++ f) [] job))

all_moved : (moves : List Move) (l : Lists) → HaveSameJobs l (moved moves l)
all_moved [] l = IsPermutation-refl (all_jobs l)
all_moved (move ∷ moves) l =
    IsPermutation-trans (all_jobs l) (all_jobs (moved_once move l)) (all_jobs (moved moves (moved_once move l)))
    (one_moved move l.passed l.ahead l.struck l.failed) (all_moved moves (moved_once move l))

pub moved_together : (before after : Lists) → OnlyMoves before after → HaveSameJobs before after
moved_together before after h = subst (HaveSameJobs before) (sym h.are) (all_moved h.moves before)

-- ---- an end's own jobs

module _ (side : Side) (h : Holdings) (l : Lists) where
  abbrev Moved : DialogueState → Type 0
  Moved talk = OnlyMoves l talk.machine.lists

  opened_moves : (measure : Measure) (talk : DialogueState) → Moved talk → Moved (opened_with side h measure talk)
  opened_moves size talk is =
      then_moves l talk.machine.lists (machine.opening side h talk.machine.lists).state.lists is (after_opening side h talk.machine.lists)

  taking_moves : (message : List ℕ) (talk : DialogueState) → Moved talk → Moved (taking h message talk)
  taking_moves message talk is =
      then_moves l talk.machine.lists (machine.reply_to h (is_empty talk.waiting) talk.machine message).state.lists is
      (after_reply h (is_empty talk.waiting) talk.machine message)

  step_moves : (id : Identity) (event : EndEvent) (e : EndState DialogueState) → Moved e.keeper → Moved (end_step (end_keeper side h) id event e).state.keeper
  step_moves id event e is =
      step_keeps DialogueState (end_keeper side h) Moved opened_moves taking_moves (λ talk same. same) id event e is

pub event_moves : (h : Holdings) (kept : List Kept) (event : EndEvent) (e : EngineState)
    → OnlyMoves e.dialogue.machine.lists (effect_of h kept event e).state.keeper.machine.lists
event_moves h kept event e =
    let l = e.dialogue.machine.lists in
    step_moves e.identity.side h l e.identity event (end_of h kept e) (stays l)

-- ---- bytes that come

piece_moves : (id : Identity) (h : Holdings) (l : Lists) (piece : List ℕ) (r : Buffered NodeEnd)
    → OnlyMoves l r.end.state.keeper.machine.lists → OnlyMoves l (talk_in (takes_piece (node_taker h id) piece r)).machine.lists
piece_moves id h l piece r is = piece_keeps id h (λ e. Moved id.side h l e.keeper) (step_moves id.side h l id) piece r is

abbrev jobs_of : NodeState → Lists
jobs_of n = n.engine.dialogue.machine.lists

pub goes_on_together : (h : Holdings) (kept kept_after : List Kept) (failure : Type 0) (bytes : List ℕ) (before after : NodeState)
    → GoesOn h kept kept_after failure bytes before after → HaveSameJobs (jobs_of before) (jobs_of after)
goes_on_together h kept kept_after failure bytes before after g =
    let id = before.engine.identity in
    let from : Buffered NodeEnd = hearer_of h kept [] (g.course.failures ++ []) before in
    let to : Buffered NodeEnd = hearer_of h kept_after ([] ++ g.course.emitted) [] after in
    let last : Lists = (talk_in (takes_piece (node_taker h id) [] to)).machine.lists in
    let first : OnlyMoves (jobs_of before) last =
    subst (λ (c : Arrival NodeEnd). OnlyMoves (jobs_of before) (talk_in c).machine.lists) (g.goes_on [] [] [])
    (piece_moves id h (jobs_of before) (bytes ++ []) from (stays (jobs_of before))) in
    let second : OnlyMoves (jobs_of after) last = piece_moves id h (jobs_of after) [] to (stays (jobs_of after)) in
    IsPermutation-trans (all_jobs (jobs_of before)) (all_jobs last) (all_jobs (jobs_of after)) (moved_together (jobs_of before) last first)
    (IsPermutation-sym (all_jobs (jobs_of after)) (all_jobs last) (moved_together (jobs_of after) last second))

pub takes_all_together : (h : Holdings) (kept kept_after : List Kept) (failure : Type 0) (bytes : List ℕ) (before after : NodeState)
    → TakesAll h kept kept_after failure bytes before after → HaveSameJobs (jobs_of before) (jobs_of after)
takes_all_together h kept kept_after failure bytes before after g =
    let from : Buffered NodeEnd = hearer_of h kept [] (g.course.failures ++ []) before in
    moved_together (jobs_of before) (jobs_of after)
    (subst (λ (c : Arrival NodeEnd). OnlyMoves (jobs_of before) (talk_in c).machine.lists) (g.taken [] [])
    (piece_moves before.engine.identity h (jobs_of before) bytes from (stays (jobs_of before))))
