-- Shows what each call of a buffered node does to its end: events lead it on, and its jobs and what it asked for are kept.
use Rattle.std.proofs.Common.{◌≡◌, ℕ, List, sym, ap, subst, ◌∙◌}
use Rattle.std.proofs.lemmas.List.Sorted.{IsPermutation-refl, IsPermutation-trans}
use Rattle.uug_conversation.specs.DialogueState.{DialogueState}
use Rattle.uug_conversation.specs.DialogueValue.{DialogueValue, dialogue_has_parted}
use Rattle.uug_conversation.specs.Holdings.{Holdings, Kept}
use Rattle.uug_conversation.specs.OwnRequests.{KeepsWhatItAskedFor}
use Rattle.uug_conversation.specs.Sharing.{HaveSameJobs, OnlyMoves, all_jobs}
use Rattle.uug_session.proofs.CallLemmas.{late_beside, lost_beside, with_talk}
use Rattle.uug_session.proofs.NodeRunLemmas.{calls_lead, led_by_none, led_by_one, led_on}
use Rattle.uug_session.proofs.NumberStandingLemmas.{late_keeps}
use Rattle.uug_session.proofs.OwnRequestLemmas.{event_keeps, same_then, takes_all_keeps, then_keeps}
use Rattle.uug_session.proofs.SameJobsLemmas.{event_moves, goes_on_together, moved_together, takes_all_together}
use Rattle.uug_session.specs.EndStep.{EndEffect, line_lost, time_ran_out, unmoved}
use Rattle.uug_session.specs.Engine.{Does, EngineState, HasFailed, bare, end_of, hung_up, with_outbox, with_stage}
use Rattle.uug_session.specs.Node.{effect_of, struck_jobs}
use Rattle.uug_session.specs.NodeArriving.{GoesOn, TakesAll}
use Rattle.uug_session.specs.NodeCalls.{IsMadeOfCalls, beside}
use Rattle.uug_session.specs.NodeRuns.{IsLedByEvents}
use Rattle.uug_session.specs.NumberStanding.{KeepsNumber}
use Rattle.uug_transfer.specs.BufferedNodes.{LateStep}
use Rattle.uug_transfer.specs.Ends.{jobs_of_end}
use Rattle.uug_transfer.specs.Moments.{EndNow, IsLed}

-- ---- one call behind another

pub led_later : (a b c : EndNow) → IsLed a b → IsLed b c → IsLed a c
led_later a b c first second = record {
  stays = second.stays ∙ first.stays;
  events = led_on a.holdings a.kept b.kept c.kept a.node b.node c.node first.events
      (subst (λ (held : Holdings). IsLedByEvents held b.kept c.kept b.node c.node) first.stays second.events);
  jobs = IsPermutation-trans (all_jobs (jobs_of_end a.node)) (all_jobs (jobs_of_end b.node)) (all_jobs (jobs_of_end c.node))
      first.jobs second.jobs;
  requests = then_keeps a.holdings (struck_jobs a.node) (struck_jobs b.node) (struck_jobs c.node) a.kept b.kept c.kept first.requests
      (subst (λ (held : Holdings). KeepsWhatItAskedFor held (struck_jobs b.node) (struck_jobs c.node) b.kept c.kept) first.stays
      second.requests);
}

-- ---- one call

-- beside files that have kept no more
still : (a b : EndNow) → b.kept ≡ a.kept → IsLedByEvents a.holdings a.kept a.kept a.node b.node
    → IsLedByEvents a.holdings a.kept b.kept a.node b.node
still a b same led = subst (λ (kept : List Kept). IsLedByEvents a.holdings a.kept kept a.node b.node) (sym same) led

-- the conversation does not move, and nothing is kept
unmoved_so : (a b : EndNow) → b.node.engine.dialogue ≡ a.node.engine.dialogue → b.holdings ≡ a.holdings → b.kept ≡ a.kept
    → IsLedByEvents a.holdings a.kept a.kept a.node b.node → IsLed a b
unmoved_so a b dialogue stays kept led = record {
  stays = stays;
  events = still a b kept led;
  jobs = subst (λ (t : DialogueValue). HaveSameJobs (jobs_of_end a.node) t.machine.lists) (sym dialogue)
      (IsPermutation-refl (all_jobs (jobs_of_end a.node)));
  requests = same_then a.holdings (struck_jobs a.node) (struck_jobs b.node) a.kept b.kept
      (ap (λ (t : DialogueValue). t.machine.lists.struck) dialogue) kept;
}

-- nothing happened
pub led_same : (a b : EndNow) → b.node ≡ a.node → b.holdings ≡ a.holdings → b.kept ≡ a.kept → IsLed a b
led_same a b node stays kept =
    unmoved_so a b (ap (λ n. n.engine.dialogue) node) stays kept
    (led_by_none a.holdings a.kept a.kept a.node b.node (ap (λ n. end_of a.holdings a.kept n.engine) node)
    (ap (λ n. n.engine.identity) node))

-- its outbox is cleared
pub led_cleared : (a b : EndNow) → b.node.engine ≡ with_outbox b.node.engine.outbox a.node.engine → b.holdings ≡ a.holdings
    → b.kept ≡ a.kept → IsLed a b
led_cleared a b is stays kept =
    unmoved_so a b (ap (λ (e : EngineState). e.dialogue) is) stays kept
    (led_by_none a.holdings a.kept a.kept a.node b.node (ap (λ (e : EngineState). end_of a.holdings a.kept e) is)
    (ap (λ (e : EngineState). e.identity) is))

-- memory was refused
pub led_refused : (a b : EndNow) → Does (unmoved (bare a.node.engine)) (bare b.node.engine) a.node.engine b.node.engine
    → b.node.engine.dialogue ≡ a.node.engine.dialogue → b.holdings ≡ a.holdings → b.kept ≡ a.kept → IsLed a b
led_refused a b does dialogue stays kept =
    unmoved_so a b dialogue stays kept
    (led_by_none a.holdings a.kept a.kept a.node b.node (ap (with_talk a.holdings a.kept) does.end) does.identity)

-- it hangs up
pub led_lost : (a b : EndNow) → b.node.engine
    ≡ with_stage (hung_up (dialogue_has_parted a.node.engine.dialogue) a.node.engine.stage) a.node.engine → b.holdings ≡ a.holdings
    → b.kept ≡ a.kept → IsLed a b
led_lost a b is stays kept =
    unmoved_so a b (ap (λ (e : EngineState). e.dialogue) is) stays kept
    (led_by_one a.holdings a.kept a.kept line_lost a.node b.node
    (ap (λ (e : EngineState). end_of a.holdings a.kept e) is
    ∙ sym (ap (λ (x : EndEffect DialogueState). x.state) (lost_beside a.holdings a.kept a.node.engine)))
    (ap (λ (e : EngineState). e.identity) is))

-- a timeout
pub led_late : (a b : EndNow) → LateStep a.node.engine b.node.engine → b.holdings ≡ a.holdings → b.kept ≡ a.kept → IsLed a b
led_late a b late stays kept =
    let does = late_beside a.holdings a.kept a.node.engine b.node.engine late in
    let moved : DialogueState → Type 0 = λ t. OnlyMoves (jobs_of_end a.node) t.machine.lists in
    let asked : DialogueState → Type 0 = λ t. KeepsWhatItAskedFor a.holdings (struck_jobs a.node) t.machine.lists.struck a.kept t.kept in
    let keeper : (end_of a.holdings a.kept b.node.engine).keeper ≡ (effect_of a.holdings a.kept time_ran_out a.node.engine).state.keeper =
    ap (λ x. x.keeper) does.end in
    record {
      stays = stays;
      events = still a b kept (led_by_one a.holdings a.kept a.kept time_ran_out a.node b.node does.end does.identity);
      jobs = moved_together (jobs_of_end a.node) (jobs_of_end b.node)
          (subst moved (sym keeper) (event_moves a.holdings a.kept time_ran_out a.node.engine));
      requests = subst (λ (k : List Kept). KeepsWhatItAskedFor a.holdings (struck_jobs a.node) (struck_jobs b.node) a.kept k) (sym kept)
          (subst asked (sym keeper) (event_keeps a.holdings a.kept time_ran_out a.node.engine));
    }

led_by_calls : (a b : EndNow) (most faults later : ℕ) (bytes : List ℕ)
    → IsMadeOfCalls a.holdings most bytes (beside a.node a.kept faults) (beside b.node b.kept later)
    → IsLedByEvents a.holdings a.kept b.kept a.node b.node
led_by_calls a b most faults later bytes made =
    calls_lead a.holdings most made.calls made.added (beside a.node a.kept faults) (beside b.node b.kept later) made.made

-- bytes come, all of which are taken up
pub led_taken : (a b : EndNow) (most faults later : ℕ) (bytes : List ℕ)
    → TakesAll a.holdings a.kept b.kept (HasFailed most faults later) bytes a.node b.node
    → IsMadeOfCalls a.holdings most bytes (beside a.node a.kept faults) (beside b.node b.kept later) → b.holdings ≡ a.holdings → IsLed a b
led_taken a b most faults later bytes taken made stays = record {
  stays = stays;
  events = led_by_calls a b most faults later bytes made;
  jobs = takes_all_together a.holdings a.kept b.kept (HasFailed most faults later) bytes a.node b.node taken;
  requests = takes_all_keeps a.holdings a.kept b.kept (HasFailed most faults later) bytes a.node b.node taken;
}

-- bytes come, some of which are taken up
pub led_some : (a b : EndNow) (most faults later : ℕ) (bytes some : List ℕ)
    → GoesOn a.holdings a.kept b.kept (HasFailed most faults later) bytes a.node b.node
    → IsMadeOfCalls a.holdings most some (beside a.node a.kept faults) (beside b.node b.kept later) → b.holdings ≡ a.holdings → IsLed a b
led_some a b most faults later bytes some goes_on made stays = record {
  stays = stays;
  events = led_by_calls a b most faults later some made;
  jobs = goes_on_together a.holdings a.kept b.kept (HasFailed most faults later) bytes a.node b.node goes_on;
  requests = goes_on.requests;
}

-- a timeout, behind which nothing but the outbox changes
pub late_number : (a between b : EngineState) → b ≡ with_outbox b.outbox between → LateStep a between → KeepsNumber a b
late_number a between b cleared late = subst (λ e. KeepsNumber a e) (sym cleared) (record { stands = (late_keeps a between late).stands })
