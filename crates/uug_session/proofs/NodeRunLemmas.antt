-- What a node's calls come to: events that led it.
use Rattle.std.proofs.Common.{◌≡◌, ℕ, List, [], ◌∷◌, ◌++◌, refl, sym, ap, subst, ◌∙◌}
use Rattle.uug_link.specs.Entries.{EntryValue}
use Rattle.uug_session.proofs.CallLemmas.{begun_with, late_beside, with_talk}
use Rattle.uug_session.specs.EndStep.{EndEvent, EndState, Identity, Stage, hailing, linked, ended, long_text_found, stage_step, time_ran_out}
use Rattle.uug_session.specs.Engine.{BeginsSession, EngineState, IsHailing, end_of}
use Rattle.uug_session.specs.Node.{NodeState, effect_of, event_of, offered_at, searched, searched_at, texts_searched}
use Rattle.uug_session.specs.NodeCalls.{Beside, HoldsTheSame, IsLate, KeepsNothing, Make, Makes, NodeCall, clears, looks, offers, refuses, refuses_timeout, takes, times_out}
use Rattle.uug_session.specs.TextsHeld.{TextSearch, search_text, text_stands, text_too_long, text_waits}
use Rattle.uug_conversation.specs.DialogueState.{DialogueState, end_keeper}
use Rattle.uug_conversation.specs.Holdings.{Holdings, Kept}
use Rattle.uug_conversation.specs.declared.side.Side.{Side}
use Rattle.uug_session.specs.Beginnings.{EndBeginning, identity_of}
use Rattle.uug_session.specs.NodeRuns.{BeginsAsEnd, IsLedByEvents, state_after}

-- ---- a session begins

pub node_begins : (side : Side) (b : EndBeginning) (entries : List EntryValue) (n : NodeState) →
    BeginsSession (identity_of side b) b.own b.number b.lists entries n.engine → BeginsAsEnd side b n
node_begins side b entries n begins = record {
  identity = begins.identity;
  state = begun_with b.holdings b.kept (identity_of side b) b.own b.number b.lists entries n.engine begins;
}

-- ---- some events and then others

pub state_append : (h : Holdings) (id : Identity) (events more : List EndEvent) (e : EndState DialogueState) →
    state_after h id (events ++ more) e ≡ state_after h id more (state_after h id events e)
state_append h id [] more e = refl
state_append h id (event ∷ events) more e = state_append h id events more (state_after h id (event ∷ []) e)

-- no event
pub led_by_none : (h : Holdings) (kept kept_after : List Kept) (before after : NodeState) →
    end_of h kept_after after.engine ≡ end_of h kept before.engine → after.engine.identity ≡ before.engine.identity →
    IsLedByEvents h kept kept_after before after
led_by_none h kept kept_after before after same identity = record { events = []; leads = sym same; identity = identity }

-- one
pub led_by_one : (h : Holdings) (kept kept_after : List Kept) (event : EndEvent) (before after : NodeState) →
    end_of h kept_after after.engine ≡ (effect_of h kept event before.engine).state →
    after.engine.identity ≡ before.engine.identity → IsLedByEvents h kept kept_after before after
led_by_one h kept kept_after event before after is identity =
    record { events = event ∷ []; leads = sym is; identity = identity }

pub led_on : (h : Holdings) (kept then_kept kept_after : List Kept) (before middle after : NodeState) →
    IsLedByEvents h kept then_kept before middle → IsLedByEvents h then_kept kept_after middle after →
    IsLedByEvents h kept kept_after before after
led_on h kept then_kept kept_after before middle after first second = record {
  events = first.events ++ second.events;
  leads = state_append h before.engine.identity first.events second.events (end_of h kept before.engine)
      ∙ ap (state_after h before.engine.identity second.events) first.leads
      ∙ subst (λ (id : Identity). state_after h id second.events (end_of h then_kept middle.engine) ≡ end_of h kept_after after.engine)
      first.identity second.leads;
  identity = second.identity ∙ first.identity;
}

module _ (h : Holdings) where
  -- ---- bytes are taken, and looked at

  offered_engine : (stage : Stage) (bytes : List ℕ) (n : NodeState) → (offered_at stage bytes n).engine ≡ n.engine
  offered_engine (hailing g) bytes n = refl
  offered_engine linked bytes n = refl
  offered_engine (ended how) bytes n = refl

  -- the same engine beside the same files
  same_engine : (old new : Beside) → new.node.engine ≡ old.node.engine → KeepsNothing old new →
      IsLedByEvents h old.kept new.kept old.node new.node
  same_engine old new engine spool =
      led_by_none h old.kept new.kept old.node new.node
      (ap (λ (e : EngineState). end_of h new.kept e) engine ∙ ap (λ (kept : List Kept). end_of h kept old.node.engine) spool.kept)
      (ap (λ (e : EngineState). e.identity) engine)

  -- a text that is too long is an event
  texts_lead : (kept : List Kept) (n : NodeState) (stage : Stage) → n.engine.stage ≡ stage → (searched : TextSearch) →
      IsHailing stage → IsLedByEvents h kept kept n (texts_searched searched n)
  texts_lead kept n stage is (text_waits rest) hails = led_by_none h kept kept n (texts_searched (text_waits rest) n) refl refl
  texts_lead kept n stage is (text_stands text others) hails =
      led_by_none h kept kept n (texts_searched (text_stands text others) n) refl refl
  texts_lead kept n (hailing g) is text_too_long hails =
      let id = n.engine.identity in
      led_by_one h kept kept long_text_found n (texts_searched text_too_long n)
      (sym (ap (λ (s : Stage). (stage_step (end_keeper id.side h) id s long_text_found (end_of h kept n.engine)).state) is)) refl
  texts_lead kept n linked is text_too_long hails = absurd hails
  texts_lead kept n (ended how) is text_too_long hails = absurd hails

  search_leads : (kept : List Kept) (n : NodeState) (stage : Stage) → n.engine.stage ≡ stage →
      IsLedByEvents h kept kept n (searched_at stage n)
  search_leads kept n (hailing g) is = texts_lead kept n (hailing g) is (search_text n.texts.bytes) tt
  search_leads kept n linked is = led_by_none h kept kept n (searched_at linked n) refl refl
  search_leads kept n (ended how) is = led_by_none h kept kept n n refl refl

  looked : (old new : Beside) → new.node ≡ searched old.node → KeepsNothing old new → IsLedByEvents h old.kept new.kept old.node new.node
  looked old new is spool =
      subst (λ (kept : List Kept). IsLedByEvents h old.kept kept old.node new.node) (sym spool.kept)
      (subst (λ (n : NodeState). IsLedByEvents h old.kept old.kept old.node n) (sym is)
      (search_leads old.kept old.node old.node.engine.stage refl))

  -- ---- each call

  late : (old new : Beside) → IsLate old.node.engine new.node.engine → HoldsTheSame old new →
      IsLedByEvents h old.kept new.kept old.node new.node
  late old new is same =
      let does = late_beside h old.kept old.node.engine new.node.engine is in
      led_by_one h old.kept new.kept time_ran_out old.node new.node
      (ap (λ (kept : List Kept). end_of h kept new.node.engine) same.spool.kept ∙ does.end) does.identity

  call_leads : (most : ℕ) (call : NodeCall) (old new : Beside) → Makes h most call old new →
      IsLedByEvents h old.kept new.kept old.node new.node
  call_leads most (offers bytes) old new m =
      same_engine old new (ap (λ (n : NodeState). n.engine) m.0 ∙ offered_engine old.node.engine.stage bytes old.node) m.1
  call_leads most looks old new m = looked old new m.0 m.1
  call_leads most (takes took) old new m =
      let taken = m.1.2 in
      led_by_one h old.kept new.kept (event_of taken.device_failed m.1.0) old.node new.node taken.does.end taken.does.identity
  call_leads most refuses old new m = led_by_none h old.kept new.kept old.node new.node m.1.does.end m.1.does.identity
  call_leads most times_out old new m = late old new m.0 m.1
  call_leads most refuses_timeout old new m =
      led_by_none h old.kept new.kept old.node new.node
      (ap (λ (kept : List Kept). end_of h kept new.node.engine) m.1.spool.kept ∙ ap (with_talk h old.kept) m.0.end) m.0.identity
  call_leads most clears old new m =
      led_by_none h old.kept new.kept old.node new.node
      (ap (λ (e : EngineState). end_of h new.kept e) m.0 ∙ ap (λ (kept : List Kept). end_of h kept old.node.engine) m.1.spool.kept)
      (ap (λ (e : EngineState). e.identity) m.0)

  pub calls_lead : (most : ℕ) (calls : List NodeCall) (added : List EntryValue) (old new : Beside) →
      Make h most calls added old new → IsLedByEvents h old.kept new.kept old.node new.node
  calls_lead most [] added old new m =
      subst (λ (b : Beside). IsLedByEvents h old.kept b.kept old.node b.node) m.0
      (led_by_none h old.kept old.kept old.node old.node refl refl)
  calls_lead most (call ∷ calls) added old new m =
      let middle : Beside = m.0 in
      led_on h old.kept middle.kept new.kept old.node middle.node new.node (call_leads most call old middle m.4)
      (calls_lead most calls m.2 middle new m.6)
