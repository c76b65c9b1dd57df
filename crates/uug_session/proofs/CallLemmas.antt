-- What is told of a call without the spool is the end's step beside it.
use Rattle.std.proofs.Common.{◌≡◌, ℕ, Bool, false, List, [], Option, sym, subst, ap, ◌∙◌, refl}
use Rattle.uug_link.specs.Announced.{Announced}
use Rattle.uug_link.specs.Entries.{EntryValue}
use Rattle.uug_link.specs.Step.{Effect, OutcomeValue, nothing, up, taken, closed, gave_up, halted, step, timed_out}
use Rattle.uug_talk.specs.Chunks.{Measure}
use Rattle.uug_conversation.specs.declared.awaits.Awaits.TheVariants as awaits
use Rattle.uug_session.specs.declared.end.End.TheVariants as ends
use Rattle.uug_conversation.specs.declared.reaction.Saying.{Saying}
use Rattle.uug_session.specs.EndStep.{Stage, hailing, linked, ended, EndState, Identity, begins_session, how_it_ends, late_link, line_lost, stage_step, time_ran_out, unmoved}
use Rattle.uug_session.specs.Engine.{BeginsSession, Does, EngineState, IsUnopened, bare, end_of, hung_up, stage_late, with_stage}
use Rattle.uug_session.specs.Greeting.{number_by, timed_out as greeting_timed_out}
use Rattle.uug_conversation.specs.Holdings.{Kept, Holdings}
use Rattle.uug_conversation.specs.Jobs.{Lists}
use Rattle.uug_conversation.specs.Machine.{State, between}
use Rattle.uug_session.specs.Node.{effect_of}
use Rattle.uug_conversation.specs.Outgoing.{messages_of}
use Rattle.uug_conversation.specs.DialogueState.{DialogueState, end_keeper, unopened}
use Rattle.uug_conversation.specs.DialogueValue.{DialogueValue, dialogue_of, dialogue_has_parted}
use Rattle.uug_session.proofs.NodeLemmas.{greeted_beside}
use Rattle.uug_session.proofs.SpeakLemmas.{has_parted_told}

abbrev pub with_talk : Holdings → List Kept → EndState DialogueValue → EndState DialogueState
with_talk h kept e = record { stage = e.stage; link = e.link; keeper = dialogue_of h kept e.keeper; number = e.number }

-- ---- a timeout

late_link_beside : (number : Option ℕ) (h : Holdings) (kept : List Kept) (id : Identity) (parted : Bool) (o : OutcomeValue) (e : Effect) (before after : EngineState)
    → Does (late_link number id parted o e before.dialogue) (bare after) before after
    → Does (late_link number id parted o e (dialogue_of h kept before.dialogue)) (end_of h kept after) before after
late_link_beside number h kept id parted nothing e before after does =
    record { end = ap (with_talk h kept) does.end; emitted = does.emitted; identity = does.identity; own = does.own }
late_link_beside number h kept id parted up e before after does =
    record { end = ap (with_talk h kept) does.end; emitted = does.emitted; identity = does.identity; own = does.own }
late_link_beside number h kept id parted taken e before after does =
    record { end = ap (with_talk h kept) does.end; emitted = does.emitted; identity = does.identity; own = does.own }
late_link_beside number h kept id parted closed e before after does =
    record { end = ap (with_talk h kept) does.end; emitted = does.emitted; identity = does.identity; own = does.own }
late_link_beside number h kept id parted gave_up e before after does =
    record { end = ap (with_talk h kept) does.end; emitted = does.emitted; identity = does.identity; own = does.own }
late_link_beside number h kept id parted halted e before after does =
    record { end = ap (with_talk h kept) does.end; emitted = does.emitted; identity = does.identity; own = does.own }

late_at : (h : Holdings) (kept : List Kept) (stage : Stage) (before after : EngineState)
    → Does (stage_late before.number before.identity (dialogue_has_parted before.dialogue) stage before.link before.dialogue) (bare after) before after
    → Does (stage_step (end_keeper before.identity.side h) before.identity stage time_ran_out
    (record { stage = stage; link = before.link; keeper = dialogue_of h kept before.dialogue; number = before.number })) (end_of h kept after) before after
late_at h kept (hailing g) before after does =
    greeted_beside (number_by (greeting_timed_out g).rises before.number) h kept before.identity (greeting_timed_out g).greeted _ before.link before after does
late_at h kept linked before after does =
    let e = step before.link timed_out in
    subst (λ (b : Bool). Does (late_link before.number before.identity b e.outcome e (dialogue_of h kept before.dialogue)) (end_of h kept after) before after)
    (has_parted_told h kept before.dialogue)
    (late_link_beside before.number h kept before.identity (dialogue_has_parted before.dialogue) e.outcome e before after does)
late_at h kept (ended how) before after does =
    record { end = ap (with_talk h kept) does.end; emitted = does.emitted; identity = does.identity; own = does.own }

pub late_beside : (h : Holdings) (kept : List Kept) (before after : EngineState)
    → Does (stage_late before.number before.identity (dialogue_has_parted before.dialogue) before.stage before.link before.dialogue) (bare after) before after
    → Does (effect_of h kept time_ran_out before) (end_of h kept after) before after
late_beside h kept before after does = late_at h kept before.stage before after does

-- ---- the line is gone

lost_at : (h : Holdings) (kept : List Kept) (stage : Stage) (e : EngineState)
    → stage_step (end_keeper e.identity.side h) e.identity stage line_lost (record { stage = stage; link = e.link; keeper = dialogue_of h kept e.dialogue; number = e.number })
    ≡ unmoved (end_of h kept (with_stage (hung_up (dialogue_has_parted e.dialogue) stage) e))
lost_at h kept (hailing g) e = refl
lost_at h kept linked e =
    ap (λ (b : Bool). unmoved (end_of h kept (with_stage (ended (how_it_ends b ends.HungUp)) e))) (sym (has_parted_told h kept e.dialogue))
lost_at h kept (ended how) e = refl

pub lost_beside : (h : Holdings) (kept : List Kept) (e : EngineState)
    → effect_of h kept line_lost e ≡ unmoved (end_of h kept (with_stage (hung_up (dialogue_has_parted e.dialogue) e.stage) e))
lost_beside h kept e = lost_at h kept e.stage e

-- ---- a session begins

unopened_talk : (h : Holdings) (kept : List Kept) (l : Lists) (t : DialogueValue) → IsUnopened l t → dialogue_of h kept t ≡ unopened l kept
unopened_talk h kept l t is =
    let by_opened : Bool → DialogueState =
    λ x. record { opened = x; machine = t.machine; measure = t.measure; waiting = messages_of h t.measure t.outgoing.offset t.outgoing.sayings; kept = kept } in
    let by_machine : State → DialogueState =
    λ x. record { opened = false; machine = x; measure = t.measure; waiting = messages_of h t.measure t.outgoing.offset t.outgoing.sayings; kept = kept } in
    let by_sayings : List Saying → DialogueState =
    λ x. record { opened = false; machine = between l awaits.Order; measure = t.measure; waiting = messages_of h t.measure t.outgoing.offset x; kept = kept } in
    let by_measure : Measure → DialogueState =
    λ x. record { opened = false; machine = between l awaits.Order; measure = x; waiting = []; kept = kept } in
    ap by_opened is.opened ∙ ap by_machine is.machine ∙ ap by_sayings is.silent ∙ ap by_measure is.measure

pub begun_with : (h : Holdings) (kept : List Kept) (id : Identity) (own : Announced) (number : Option ℕ) (l : Lists) (entries : List EntryValue)
    (after : EngineState) → BeginsSession id own number l entries after
    → end_of h kept after ≡ (begins_session id own number (unopened l kept)).state
begun_with h kept id own number l entries after begins =
    ap (with_talk h kept) begins.end
    ∙ ap (λ (t : DialogueState). (begins_session id own number t).state) (unopened_talk h kept l after.dialogue begins.unopened)
