-- What becomes of an end, and how its disk follows it.
use Rattle.std.proofs.Common.{◌≡◌, ◌⊎◌, inl, inr, Bool, ℕ, ◌+◌, ◌≤◌, List, [], ◌∷◌, ◌++◌, Option, Some, None, Result, Ok, Err, append_assoc, drop, length, length-append, refl, sym, ap, subst, ◌∙◌, arith}
use Rattle.std.proofs.lemmas.List.{append-nil}
use Rattle.std.proofs.Math.Seq.{drop-append_seam, drop-length}
use Rattle.uug_conversation.proofs.MachineMoveLemmas.{after_opening, after_reply, stays, then_moves}
use Rattle.uug_conversation.specs.DialogueState.{DialogueState, end_keeper, is_empty, opened_with, taking}
use Rattle.uug_conversation.specs.Holdings.{Holdings, Kept}
use Rattle.uug_conversation.specs.Jobs.{Lists, pending}
use Rattle.uug_conversation.specs.Machine as machine
use Rattle.uug_conversation.specs.Sharing.{OnlyMoves}
use Rattle.uug_conversation.specs.declared.job.Job.{Job}
use Rattle.uug_conversation.specs.declared.side.Side.{Side}
use Rattle.uug_session.specs.NodeRuns.{IsLedByEvents, state_after}
use Rattle.uug_store.proofs.OpenJobsLemmas.{HasGoneOn, nothing_told, only_moves, settled_holds, settled_least, unsettled_least}
use Rattle.uug_store.specs.Notices.{also_told, notice, notices}
use Rattle.uug_store.specs.NumberText.{HoldsNumber, IsNumberKept, holding_number}
use Rattle.std.specs.Result.{IsErr, IsErrAnd}
use Rattle.uug_store.specs.OpenJobs.{Holds, HoldsAtLeast, IsSettledOrNot, jobs_left, settled_in, times}
use Rattle.uug_link.specs.State.{State}
use Rattle.uug_session.proofs.StepKeeps.{hailing_leads, linked_keeps, speaks_so, stage_leads}
use Rattle.uug_session.specs.EndStep.{EndEffect, EndEvent, EndState, Identity, end_step, is_up, speaks_by}
use Rattle.uug_session.specs.Engine.{end_of}
use Rattle.uug_session.specs.Node.{NodeState}
use Rattle.uug_talk.specs.Chunks.{Measure}
use Rattle.uug_transfer.specs.Ends.{jobs_of_end, number_of_end}
use Rattle.uug_transfer.specs.SessionFaults.{UnlessUnsettled}
use Rattle.uug_transfer.specs.Settling.{AreSettled, IsNumberNow, IsOnDisk, IsSomeNumber, LosesNoJob, StaysInStore, TellsFailed, kept_then, unsettled}
use Rattle.uug_transfer.specs.declared.session_fault.SessionFault.{SessionFault}
use Rattle.uug_transfer.specs.declared.session_fault.SessionFault.TheVariants as fault
use Rattle.uug_transfer.specs.declared.settled.Settled.{Settled}

-- ---- events only move jobs

module _ (side : Side) (h : Holdings) (l : Lists) where
  abbrev Moved : DialogueState → Type 0
  Moved talk = OnlyMoves l talk.machine.lists

  opened_moves : (measure : Measure) (talk : DialogueState) → Moved talk → Moved (opened_with side h measure talk)
  opened_moves size talk is =
      then_moves l talk.machine.lists (machine.opening side h talk.machine.lists).state.lists is (after_opening side h talk.machine.lists)

  taking_moves : (message : List ℕ) (talk : DialogueState) → Moved talk → Moved (taking h message talk)
  taking_moves message talk is =
      then_moves l talk.machine.lists (machine.reply_to h (is_empty talk.waiting) talk.machine message).state.lists is
      (after_reply h (is_empty talk.waiting) talk.machine message)

  speaking_moves : (live : Bool) (s : State) (talk : DialogueState) → Moved talk → Moved (speaks_by live (end_keeper side h) s talk).keeper
  speaking_moves live s talk is =
      speaks_so (end_keeper side h) (λ s c. Moved c) (λ x. Moved x.keeper) (λ s c p. p) (λ s c message room next p. (p, λ x q. q)) (λ x p. p)
      live s talk is

  step_moves : (id : Identity) (event : EndEvent) (e : EndState DialogueState) → Moved e.keeper → Moved (end_step (end_keeper side h) id event e).state.keeper
  step_moves id event e p =
      let R : EndEffect DialogueState → Type 0 = λ x. Moved x.state.keeper in
      stage_leads (end_keeper side h) id event e R (λ stage. Moved e.keeper)
      (λ g p. hailing_leads id e R (λ number g says. p) (λ number says is. p) (λ number says. p) (λ number how says. p) p g event)
      (λ p. linked_keeps (end_keeper side h) id e R Moved opened_moves taking_moves
      (λ took x c q. speaking_moves (is_up x.state.phase) x.state c q) (λ parted how x c took none q. q) p p p p event)
      p e.stage p

events_move : (h : Holdings) (id : Identity) (l : Lists) (events : List EndEvent) (e : EndState DialogueState)
    → OnlyMoves l e.keeper.machine.lists → OnlyMoves l (state_after h id events e).keeper.machine.lists
events_move h id l [] e is = is
events_move h id l (event ∷ events) e is =
    events_move h id l events (end_step (end_keeper id.side h) id event e).state (step_moves id.side h l id event e is)

led_moves : (h : Holdings) (kept kept_after : List Kept) (before after : NodeState) → IsLedByEvents h kept kept_after before after
    → OnlyMoves (jobs_of_end before) (jobs_of_end after)
led_moves h kept kept_after before after led =
    subst (λ (e : EndState DialogueState). OnlyMoves (jobs_of_end before) e.keeper.machine.lists) led.leads
    (events_move h before.engine.identity (jobs_of_end before) led.events (end_of h kept before.engine) (stays (jobs_of_end before)))

pub led_goes_on : (h : Holdings) (kept kept_after : List Kept) (before after : NodeState) → IsLedByEvents h kept kept_after before after
    → HasGoneOn (jobs_of_end before) (jobs_of_end after)
led_goes_on h kept kept_after before after led = only_moves (jobs_of_end before) (jobs_of_end after) (led_moves h kept kept_after before after led)

-- ---- the jobs

since : (settled : ℕ) (before after more : List Job) → settled ≡ length before → after ≡ before ++ more → drop settled after ≡ more
since settled before after more count is =
    ap (λ n. drop n after) count ∙ ap (drop (length before)) is ∙ drop-append_seam before more

no_more : (settled : ℕ) (before after more : List Job) → settled ≡ length before → after ≡ before ++ more → settled ≤ length after
no_more settled before after more count is =
    let n = ap length is in let m = length-append before more in omega (arith, count, n, m)

pub struck_room : (settled : Settled) (before after : Lists) → AreSettled settled before → HasGoneOn before after
    → settled.struck ≤ length after.struck
struck_room settled before after is on = no_more settled.struck before.struck after.struck on.struck_since is.struck on.struck

pub failed_room : (settled : Settled) (before after : Lists) → AreSettled settled before → HasGoneOn before after
    → settled.failed ≤ length after.failed
failed_room settled before after is on = no_more settled.failed before.failed after.failed on.failed_since is.failed on.failed

shares : (settled : Settled) (before after : Lists) → AreSettled settled before → HasGoneOn before after → (job : Job)
    → times job (pending before) ≡ times job (pending after) + times job (unsettled settled after)
shares settled before after is on job =
    on.shares job ∙ ap (λ (over : List Job). times job (pending after) + times job over)
    (sym (ap (λ (s : List Job). s ++ drop settled.failed after.failed)
    (since settled.struck before.struck after.struck on.struck_since is.struck on.struck)
    ∙ ap (λ (f : List Job). on.struck_since ++ f) (since settled.failed before.failed after.failed on.failed_since is.failed on.failed)))

pub settled_stays : (settled : Settled) (before after : NodeState) (stands stands_after : Option (List Job))
    → AreSettled settled (jobs_of_end before) → HasGoneOn (jobs_of_end before) (jobs_of_end after)
    → stands_after ≡ settled_in (unsettled settled (jobs_of_end after)) stands → StaysInStore stands stands_after before after
settled_stays settled before after stands stands_after is on e = record {
  holds = λ holds. subst (λ o. Holds o (pending (jobs_of_end after))) (sym e)
      (settled_holds (unsettled settled (jobs_of_end after)) (pending (jobs_of_end before)) (pending (jobs_of_end after)) stands
      (shares settled (jobs_of_end before) (jobs_of_end after) is on) holds);
}

pub settled_loses_none : (settled : Settled) (before after : NodeState) (stands stands_after : Option (List Job))
    → AreSettled settled (jobs_of_end before) → HasGoneOn (jobs_of_end before) (jobs_of_end after)
    → stands_after ≡ settled_in (unsettled settled (jobs_of_end after)) stands → LosesNoJob stands stands_after before after
settled_loses_none settled before after stands stands_after is on e = record {
  holds = λ holds. subst (λ o. HoldsAtLeast o (pending (jobs_of_end after))) (sym e)
      (settled_least (unsettled settled (jobs_of_end after)) (pending (jobs_of_end before)) (pending (jobs_of_end after)) stands
      (shares settled (jobs_of_end before) (jobs_of_end after) is on) holds);
}

pub unsettled_loses_none : (settled : Settled) (before after : NodeState) (stands stands_after : Option (List Job))
    → AreSettled settled (jobs_of_end before) → HasGoneOn (jobs_of_end before) (jobs_of_end after)
    → stands_after ≡ stands → LosesNoJob stands stands_after before after
unsettled_loses_none settled before after stands stands_after is on e = record {
  holds = λ holds. subst (λ o. HoldsAtLeast o (pending (jobs_of_end after))) (sym e)
      (unsettled_least (unsettled settled (jobs_of_end after)) (pending (jobs_of_end before)) (pending (jobs_of_end after)) stands
      (shares settled (jobs_of_end before) (jobs_of_end after) is on) holds);
}

pub either_loses_none : (settled : Settled) (before after : NodeState) (stands stands_after : Option (List Job))
    → AreSettled settled (jobs_of_end before) → HasGoneOn (jobs_of_end before) (jobs_of_end after)
    → (stands_after ≡ stands) ⊎ (stands_after ≡ settled_in (unsettled settled (jobs_of_end after)) stands)
    → LosesNoJob stands stands_after before after
either_loses_none settled before after stands stands_after is on (inl e) = unsettled_loses_none settled before after stands stands_after is on e
either_loses_none settled before after stands stands_after is on (inr e) = settled_loses_none settled before after stands stands_after is on e

pub or_not : (over : List Job) (notice : List ℕ) (stands stands_after : Option (List Job)) (told told_after : Option (List ℕ))
    → IsSettledOrNot over notice stands stands_after told told_after → (stands_after ≡ stands) ⊎ (stands_after ≡ settled_in over stands)
or_not over notice stands stands_after told told_after (inl h) = inl h.0
or_not over notice stands stands_after told told_after (inr h) = inr h.0

-- the same, as the code has the end then
pub either_then : (settled : Settled) (before after node : NodeState) (stands stands_after : Option (List Job)) → node ≡ after
    → AreSettled settled (jobs_of_end before) → HasGoneOn (jobs_of_end before) (jobs_of_end after)
    → (stands_after ≡ stands) ⊎ (stands_after ≡ settled_in (unsettled settled (jobs_of_end node)) stands)
    → LosesNoJob stands stands_after before after
either_then settled before after node stands stands_after e is on h =
    either_loses_none settled before after stands stands_after is on
    (subst (λ (n : NodeState). (stands_after ≡ stands) ⊎ (stands_after ≡ settled_in (unsettled settled (jobs_of_end n)) stands)) e h)

pub stays_by : (settled : Settled) (before after node : NodeState) (stands stands_after : Option (List Job)) → node ≡ after
    → AreSettled settled (jobs_of_end before) → HasGoneOn (jobs_of_end before) (jobs_of_end after)
    → stands_after ≡ settled_in (unsettled settled (jobs_of_end node)) stands → StaysInStore stands stands_after before after
stays_by settled before after node stands stands_after e is on h =
    settled_stays settled before after stands stands_after is on
    (h ∙ ap (λ (n : NodeState). settled_in (unsettled settled (jobs_of_end n)) stands) e)

none_left : (jobs : List Job) → jobs_left [] jobs ≡ jobs
none_left [] = refl
none_left (job ∷ jobs) = ap (λ more. job ∷ more) (none_left jobs)

settled_by_none : (stands : Option (List Job)) → stands ≡ settled_in [] stands
settled_by_none None = refl
settled_by_none (Some jobs) = ap Some (sym (none_left jobs))

-- where none was struck and none has failed since
pub none_is_settled : (settled : Settled) (l : Lists) (stands : Option (List Job)) → settled.struck ≡ length l.struck
    → settled.failed ≡ length l.failed → stands ≡ settled_in (unsettled settled l) stands
none_is_settled settled l stands struck failed =
    let front : drop settled.struck l.struck ≡ [] = ap (λ n. drop n l.struck) struck ∙ drop-length l.struck in
    let back : drop settled.failed l.failed ≡ [] = ap (λ n. drop n l.failed) failed ∙ drop-length l.failed in
    settled_by_none stands
    ∙ ap (λ (over : List Job). settled_in over stands)
    (sym (ap (λ (jobs : List Job). jobs ++ drop settled.failed l.failed) front ∙ back))

-- by what the session ends with
pub unless_settled : {T : Type 0} (r : Result T SessionFault) (P Q : Type 0) → UnlessUnsettled r P → (P → Q) → UnlessUnsettled r Q
unless_settled (Ok value) P Q p f = f p
unless_settled (Err fault.Jobs) P Q p f = tt
unless_settled (Err fault.Number) P Q p f = f p
unless_settled (Err fault.Memory) P Q p f = tt

-- a fault that is handed on
pub settled_handed_on : {T : Type 0} (r : Result T SessionFault) (fault : SessionFault) (P : Type 0)
    → IsErr r × IsErrAnd r (λ other. other ≡ fault) → UnlessUnsettled {T = T} (Err fault) P → UnlessUnsettled r P
settled_handed_on (Ok value) fault P h p = absurd (cc h.0)
settled_handed_on {T = T} (Err other) fault P h p = subst (λ (f : SessionFault). UnlessUnsettled {T = T} (Err f) P) (sym h.1) p

-- ---- from turn to turn

pub stays_then : (x y z : Option (List Job)) (a b c : NodeState) → StaysInStore x y a b → StaysInStore y z b c → StaysInStore x z a c
stays_then x y z a b c first second = record { holds = λ h. second.holds (first.holds h) }

pub loses_then : (x y z : Option (List Job)) (a b c : NodeState) → LosesNoJob x y a b → LosesNoJob y z b c → LosesNoJob x z a c
loses_then x y z a b c first second = record { holds = λ h. second.holds (first.holds h) }

-- the jobs of the end are as they were, and so is what stands in their store
pub stays_same : (x y : Option (List Job)) (a b : NodeState) → jobs_of_end b ≡ jobs_of_end a → y ≡ x → StaysInStore x y a b
stays_same x y a b jobs stands = record {
  holds = λ h. subst (λ o. Holds o (pending (jobs_of_end b))) (sym stands) (subst (λ (l : Lists). Holds x (pending l)) (sym jobs) h);
}

pub loses_same : (x y : Option (List Job)) (a b : NodeState) → jobs_of_end b ≡ jobs_of_end a → y ≡ x → LosesNoJob x y a b
loses_same x y a b jobs stands = record {
  holds = λ h. subst (λ o. HoldsAtLeast o (pending (jobs_of_end b))) (sym stands)
      (subst (λ (l : Lists). HoldsAtLeast x (pending l)) (sym jobs) h);
}

-- ---- what is told of those that have failed

notices_append : (own : Holdings) (first second : List Job) → notices own (first ++ second) ≡ notices own first ++ notices own second
notices_append own [] second = refl
notices_append own (job ∷ first) second =
    ap (λ (more : List ℕ). notice own job ++ more) (notices_append own first second)
    ∙ sym (append_assoc (notice own job) (notices own first) (notices own second))

told_in_turn : (first second : List ℕ) (told : Option (List ℕ)) → also_told second (also_told first told) ≡ also_told (first ++ second) told
told_in_turn first second None = refl
told_in_turn first second (Some text) = ap Some (append_assoc text first second)

-- where none has failed since
pub none_is_told : (own : Holdings) (failed : ℕ) (jobs : List Job) (told : Option (List ℕ)) → failed ≡ length jobs
    → told ≡ also_told (notices own (drop failed jobs)) told
none_is_told own failed jobs told count =
    nothing_told told
    ∙ ap (λ (more : List Job). also_told (notices own more) told) (sym (ap (λ n. drop n jobs) count ∙ drop-length jobs))

-- as the code has the end and its spool then
pub tells_by : (settled : Settled) (before after node : NodeState) (own own_then : Holdings) (told told_after : Option (List ℕ))
    → node ≡ after → own_then ≡ own → AreSettled settled (jobs_of_end before) → HasGoneOn (jobs_of_end before) (jobs_of_end after)
    → told_after ≡ also_told (notices own_then (drop settled.failed (jobs_of_end node).failed)) told
    → TellsFailed own told told_after before after
tells_by settled before after node own own_then told told_after e same is on h = record {
  failed_since = on.failed_since;
  failed = on.failed;
  is = h
      ∙ ap (λ (n : NodeState). also_told (notices own_then (drop settled.failed (jobs_of_end n).failed)) told) e
      ∙ ap (λ (jobs : List Job). also_told (notices own_then jobs) told)
      (since settled.failed (jobs_of_end before).failed (jobs_of_end after).failed on.failed_since is.failed on.failed)
      ∙ ap (λ (o : Holdings). also_told (notices o on.failed_since) told) same;
}

pub tells_then : (own : Holdings) (x y z : Option (List ℕ)) (a b c : NodeState) → TellsFailed own x y a b → TellsFailed own y z b c
    → TellsFailed own x z a c
tells_then own x y z a b c first second = record {
  failed_since = first.failed_since ++ second.failed_since;
  failed = second.failed ∙ ap (λ (jobs : List Job). jobs ++ second.failed_since) first.failed
      ∙ append_assoc (jobs_of_end a).failed first.failed_since second.failed_since;
  is = second.is ∙ ap (also_told (notices own second.failed_since)) first.is
      ∙ told_in_turn (notices own first.failed_since) (notices own second.failed_since) x
      ∙ ap (λ more. also_told more x) (sym (notices_append own first.failed_since second.failed_since));
}

pub tells_same : (own : Holdings) (x y : Option (List ℕ)) (a b : NodeState) → jobs_of_end b ≡ jobs_of_end a → y ≡ x → TellsFailed own x y a b
tells_same own x y a b jobs told = record {
  failed_since = [];
  failed = ap (λ (l : Lists). l.failed) jobs ∙ sym (append-nil (jobs_of_end a).failed);
  is = told ∙ nothing_told x;
}

pub tells_of : (own other : Holdings) (x y : Option (List ℕ)) (a b : NodeState) → other ≡ own → TellsFailed own x y a b → TellsFailed other x y a b
tells_of own other x y a b same is = subst (λ (o : Holdings). TellsFailed o x y a b) (sym same) is

-- ---- the number

held_again : (number : Option ℕ) (text : Option (List ℕ)) → holding_number number (holding_number number text) ≡ holding_number number text
held_again None text = refl
held_again (Some number) None = refl
held_again (Some number) (Some text) = refl

pub holds_it : (number : Option ℕ) (text text_after : Option (List ℕ)) → text_after ≡ holding_number number text → HoldsNumber number text_after
holds_it number text text_after e = ap (holding_number number) e ∙ held_again number text ∙ sym e

over_another : (number other : Option ℕ) (text : Option (List ℕ)) → number ≡ None ⊎ (n : ℕ) × (number ≡ Some n)
    → (k : Option ℕ) × (holding_number number (holding_number other text) ≡ holding_number k text)
over_another None other text h = (other, refl)
over_another (Some number) None text h = (Some number, refl)
over_another (Some number) (Some other) None h = (None, refl)
over_another (Some number) (Some other) (Some text) h = (Some number, refl)

either_way : (number : Option ℕ) → number ≡ None ⊎ (n : ℕ) × (number ≡ Some n)
either_way None = inl refl
either_way (Some n) = inr (n, refl)

pub some_then : (x y z : Option (List ℕ)) → IsSomeNumber x y → IsSomeNumber y z → IsSomeNumber x z
some_then x y z first second =
    let both = over_another second.number first.number x (either_way second.number) in record {
      number = both.0;
      is = second.is ∙ ap (holding_number second.number) first.is ∙ both.1;
    }

pub some_same : (x y : Option (List ℕ)) → y ≡ x → IsSomeNumber x y
some_same x y e = record { number = None; is = e }

pub some_kept : (number : Option ℕ) (x y : Option (List ℕ)) → IsNumberKept number x y → IsSomeNumber x y
some_kept number x y (inl e) = some_same x y e
some_kept number x y (inr e) = record { number = number; is = e }

-- beside the number with which the session began: the one that is in the file then, and the one that the end keeps
abbrev pub FollowsNumber : (first kept now : Option ℕ) → Type 0
FollowsNumber None kept now = kept ≡ None
FollowsNumber (Some first) kept None = (k : ℕ) × (kept ≡ Some k)
FollowsNumber (Some first) kept (Some now) = kept ≡ Some now

pub follows_at_first : (first kept : Option ℕ) → kept ≡ first → FollowsNumber first kept first
follows_at_first None kept e = e
follows_at_first (Some first) kept e = e

follows_now : (first kept before now : Option ℕ) → FollowsNumber first kept before → FollowsNumber first (kept_then kept now) now
follows_now None kept before now h = ap (λ k. kept_then k now) h
follows_now (Some first) kept None None h = (h.0, ap (λ k. kept_then k None) h.1)
follows_now (Some first) kept (Some before) None h = (before, ap (λ k. kept_then k None) h)
follows_now (Some first) kept None (Some now) h = ap (λ k. kept_then k (Some now)) h.1
follows_now (Some first) kept (Some before) (Some now) h = ap (λ k. kept_then k (Some now)) h

pub follows_then : (first kept kept_after before now : Option ℕ) → kept_after ≡ kept_then kept now → FollowsNumber first kept before
    → FollowsNumber first kept_after now
follows_then first kept kept_after before now e h = subst (λ k. FollowsNumber first k now) (sym e) (follows_now first kept before now h)

pub is_now : (first kept now : Option ℕ) (text text_after : Option (List ℕ)) → FollowsNumber first kept now
    → text_after ≡ holding_number kept text → IsNumberNow first now text text_after
is_now None kept now text text_after h e = e ∙ ap (λ k. holding_number k text) h
is_now (Some first) kept None text text_after h e = tt
is_now (Some first) kept (Some now) text text_after h e = e ∙ ap (λ k. holding_number k text) h

stays_kept : (kept now : Option ℕ) → kept_then (kept_then kept now) now ≡ kept_then kept now
stays_kept None now = refl
stays_kept (Some kept) None = refl
stays_kept (Some kept) (Some now) = refl

pub on_disk : (settled : Settled) (kept : Option ℕ) (now : NodeState) (x y : Option (List ℕ)) → AreSettled settled (jobs_of_end now)
    → settled.number ≡ kept_then kept (number_of_end now) → y ≡ holding_number (kept_then kept (number_of_end now)) x
    → IsOnDisk settled now y
on_disk settled kept now x y jobs number is = record {
  jobs = jobs;
  number = number ∙ sym (ap (λ k. kept_then k (number_of_end now)) number ∙ stays_kept kept (number_of_end now));
  file = holds_it settled.number x y (is ∙ ap (λ k. holding_number k x) (sym number));
}

first_kept : (number : Option ℕ) → kept_then number number ≡ number
first_kept None = refl
first_kept (Some number) = refl

pub on_disk_at_first : (settled : Settled) (now : NodeState) (x y : Option (List ℕ)) → AreSettled settled (jobs_of_end now)
    → settled.number ≡ number_of_end now → y ≡ holding_number (number_of_end now) x → IsOnDisk settled now y
on_disk_at_first settled now x y jobs number is =
    let k = first_kept (number_of_end now) in
    on_disk settled (number_of_end now) now x y jobs (number ∙ sym k) (is ∙ ap (λ n. holding_number n x) (sym k))

-- behind a step that changes nothing of it
pub on_disk_still : (settled : Settled) (a b : NodeState) (x : Option (List ℕ)) → b ≡ a → IsOnDisk settled a x → IsOnDisk settled b x
on_disk_still settled a b x e h = subst (λ (n : NodeState). IsOnDisk settled n x) (sym e) h

held_then : (number other : Option ℕ) (x : Option (List ℕ)) → (number ≡ None → other ≡ None)
    → holding_number number (holding_number other x) ≡ holding_number number x
held_then None None x h = refl
held_then None (Some other) x h = absurd (cc (h refl))
held_then (Some number) None x h = refl
held_then (Some number) (Some other) None h = refl
held_then (Some number) (Some other) (Some x) h = refl

none_before : (kept now : Option ℕ) → kept_then kept now ≡ None → kept ≡ None
none_before None now h = refl
none_before (Some kept) None h = h
none_before (Some kept) (Some now) h = absurd (cc h)

-- the file follows from the text that it had at first
pub file_then : (kept kept_after now : Option ℕ) (x y z : Option (List ℕ)) → kept_after ≡ kept_then kept now → y ≡ holding_number kept x
    → z ≡ holding_number kept_after y → z ≡ holding_number kept_after x
file_then kept kept_after now x y z k first second =
    second ∙ ap (holding_number kept_after) first
    ∙ held_then kept_after kept x (λ none. none_before kept now (sym k ∙ none))
