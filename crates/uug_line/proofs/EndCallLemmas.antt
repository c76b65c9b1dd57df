-- What the calls of an end of the program come to.
use Rattle.std.proofs.Common.{◌≡◌, ℕ, ◌+◌, ◌<◌, Bool, true, false, nat_lt, if◌then◌else◌, List, [], ◌++◌, map, length, ap, sym, subst, ◌∙◌, refl, arith, Option}
use Rattle.std.proofs.lemmas.List.{append-nil}
use Rattle.std.proofs.lemmas.List.Elements.{recursion_from_All}
use Rattle.uug_link.specs.Announced.{Announced}
use Rattle.uug_link.specs.declared.limits.TheConstants.{TIMEOUTS_MAX}
use Rattle.uug_link.specs.Entries.{EntryValue}
use Rattle.uug_link.specs.InRange.{IsAnnouncement}
use Rattle.uug_link.specs.State.{State}
use Rattle.uug_link.specs.Step.{Effect, OutcomeValue, nothing, up, taken, closed, gave_up, halted, step, timed_out}
use Rattle.uug_reader.specs.declared.reader.TheConstants.{READER_SIZE}
use Rattle.uug_session.specs.Arriving.{Buffered, held_in}
use Rattle.uug_session.specs.EndStep.{EndEffect, EndEvent, Identity, Stage, hailing, linked, ended, begins_session, behind_greeting, end_step, late_link, line_lost, stage_step, time_ran_out, unmoved}
use Rattle.uug_session.specs.Engine.{BeginsSession, Does, EngineState, all_ahead, bare, end_of, entry_of, hung_up, stage_late, with_stage}
use Rattle.uug_session.specs.declared.end.End.TheVariants as ends
use Rattle.uug_session.specs.declared.greeting.Greeted.TheVariants.{GoesOn}
use Rattle.uug_session.specs.declared.greeting.Greeting.{Greeting}
use Rattle.uug_session.specs.Greeting.{fails}
use Rattle.uug_conversation.specs.Holdings.{Holdings, Kept}
use Rattle.uug_conversation.specs.MemoryHoldings.{MemoryHoldings, holdings_of}
use Rattle.uug_session.specs.InRange.{CanBeWritten}
use Rattle.uug_conversation.specs.Jobs.{Lists}
use Rattle.uug_conversation.specs.Keeper.{Keeper}
use Rattle.uug_session.specs.Node.{NodeState, bytes_at, effect_of, held_bytes}
use Rattle.uug_session.specs.Sessions.{HoldsNothing}
use Rattle.uug_reader.specs.Reading.{Reading}
use Rattle.uug_conversation.specs.DialogueState.{DialogueState, unopened}
use Rattle.uug_session.specs.TextsHeld.{TextsHeld}
use Rattle.uug_conversation.specs.DialogueValue.{dialogue_has_parted}
use Rattle.uug_line.specs.JournalValue.{JournalValue, log_of}
use Rattle.uug_line.specs.LineEndState.{LineEndState, after_call, called_with, holding, nothing_done}
use Rattle.uug_line.specs.LineEndValue.{AreWritten, BeginsAgain, HasBegun, HasRoom, HoldsOn, IsCalled, IsNoted, IsOrdered, LineEndValue, hearer_of, leaves_spool, line_end_of, player_of, state_of}
use Rattle.uug_line.proofs.SpokenLemmas.{Calls, does_so, steps_so}
use Rattle.uug_session.proofs.HeldLemmas.{held_late, same_bytes}
use Rattle.uug_session.proofs.CallLemmas.{late_beside, lost_beside, begun_with}
use Rattle.uug_session.proofs.InRangeLemmas.{end_begins, first_words_can}

-- ---- the bytes held

-- ---- a call that uses no bytes

-- it forgets them where it has ended
pub called_is : (event : EndEvent) (e : EndEffect DialogueState) (old called new : LineEndValue)
    → e ≡ end_step (player_of old).keeper (player_of old).identity event (state_of old)
    → Calls e old called new → called.journal ≡ old.journal → called.line ≡ old.line
    → held_bytes new.node ≡ held_in e.state.stage (held_bytes old.node)
    → hearer_of new ≡ called_with (player_of old) event (hearer_of old)
called_is event e old called new is calls journal line held =
    let by_held : List ℕ → Buffered (LineEndState DialogueState) = λ x. record { held = x; end = line_end_of new } in
    let by_end : LineEndState DialogueState → Buffered (LineEndState DialogueState) = λ x. record { held = held_in e.state.stage (held_bytes old.node); end = x } in
    let by_journal : JournalValue → Buffered (LineEndState DialogueState) =
    λ x. holding (held_bytes old.node) (after_call (log_of x) called.line e) in
    let by_line : List ℕ → Buffered (LineEndState DialogueState) = λ x. holding (held_bytes old.node) (after_call (log_of old.journal) x e) in
    let by_effect : EndEffect DialogueState → Buffered (LineEndState DialogueState) =
    λ x. holding (held_bytes old.node) (after_call (log_of old.journal) old.line x) in
    ap by_held held ∙ ap by_end calls.end ∙ ap by_journal journal ∙ ap by_line line ∙ ap by_effect is

room_kept : (stage : Stage) (bytes : List ℕ) → length bytes < READER_SIZE → length (held_in stage bytes) < READER_SIZE
room_kept (hailing g) bytes room = room
room_kept linked bytes room = room
room_kept (ended how) bytes room = omega arith

calls_so : (event : EndEvent) (old called new : LineEndValue) (e : EndEffect DialogueState)
    → e ≡ end_step (player_of old).keeper (player_of old).identity event (state_of old)
    → HasRoom old → Calls e old called new → called.journal ≡ old.journal → called.line ≡ old.line
    → held_bytes new.node ≡ held_in e.state.stage (held_bytes old.node)
    → IsCalled event old new
calls_so event old called new e is room calls journal line held = record {
  hearer = called_is event e old called new is calls journal line held;
  ordered = calls.ordered;
  room = subst (λ (bytes : List ℕ). length bytes < READER_SIZE) (sym held) (room_kept e.state.stage (held_bytes old.node) room);
  standing = calls.standing;
}

stage_after : (e : EndEffect DialogueState) (old called new : LineEndValue) → Calls e old called new → new.node.engine.stage ≡ e.state.stage
stage_after e old called new calls = ap (λ (x : LineEndState DialogueState). x.state.stage) calls.end

-- a timeout
pub timed_out_so : (old called new : LineEndValue) → IsOrdered old → HasRoom old
    → Does (stage_late old.node.engine.number old.node.engine.identity (dialogue_has_parted old.node.engine.dialogue) old.node.engine.stage old.node.engine.link old.node.engine.dialogue)
    (bare called.node.engine) old.node.engine called.node.engine
    → called.node.texts ≡ old.node.texts → called.node.packets ≡ old.node.packets → called.spool ≡ old.spool
    → called.journal ≡ old.journal → called.line ≡ old.line → IsNoted called new
    → IsCalled time_ran_out old new
timed_out_so old called new ordered room does texts packets spool journal line noted_so =
    let e = effect_of (holdings_of old.spool) old.spool.stored time_ran_out old.node.engine in
    let of_spool : MemoryHoldings → Type 0 = λ m. Does e (end_of (holdings_of m) m.stored called.node.engine) old.node.engine called.node.engine in
    let calls : Calls e old called new =
    steps_so time_ran_out old called new ordered tt
    (subst of_spool (sym spool) (late_beside (holdings_of old.spool) old.spool.stored old.node.engine called.node.engine does))
    noted_so (subst (λ (j : JournalValue). AreWritten j.packets) (sym journal) ordered.written) (ap holdings_of spool) in
    calls_so time_ran_out old called new e refl room calls journal line
    (ap (λ (x : Stage). bytes_at x new.node) (stage_after e old called new calls)
    ∙ same_bytes e.state.stage new.node old.node (noted_so.texts ∙ texts) (noted_so.packets ∙ packets)
    ∙ held_late old.node.engine.number (player_of old).keeper old.node.engine.identity old.node.engine.stage old.node.engine.link (state_of old).keeper old.node)

-- ---- the line is gone

lost_does : (lost : EndEffect DialogueState) (h : Holdings) (kept : List Kept) (stage : Stage) (old called : EngineState)
    → lost ≡ unmoved (end_of h kept (with_stage stage old)) → called ≡ with_stage stage old
    → Does lost (end_of h kept called) old called
lost_does lost h kept stage old called is engine = record {
  end = ap (λ (x : EngineState). end_of h kept x) engine ∙ sym (ap (λ (x : EndEffect DialogueState). x.state) is);
  emitted = ap (λ (x : EngineState). x.outbox.entries) engine ∙ sym (append-nil old.outbox.entries)
      ∙ ap (λ (x : EndEffect DialogueState). old.outbox.entries ++ map entry_of x.emitted) (sym is);
  identity = ap (λ (x : EngineState). x.identity) engine;
  own = ap (λ (x : EngineState). x.own) engine;
}

held_lost : (parted : Bool) (stage : Stage) (n : NodeState) (bytes : List ℕ)
    → bytes_at (hung_up parted stage) n ≡ held_in (hung_up parted stage) bytes
held_lost parted (hailing g) n bytes = refl
held_lost parted linked n bytes = refl
held_lost parted (ended how) n bytes = refl

pub hung_up_so : (old called new : LineEndValue) → IsOrdered old → HasRoom old
    → called.node.engine ≡ with_stage (hung_up (dialogue_has_parted old.node.engine.dialogue) old.node.engine.stage) old.node.engine
    → called.spool ≡ old.spool → called.journal ≡ old.journal → called.line ≡ old.line → IsNoted called new
    → IsCalled line_lost old new
hung_up_so old called new ordered room engine spool journal line noted_so =
    let parted = dialogue_has_parted old.node.engine.dialogue in
    let stage = hung_up parted old.node.engine.stage in
    let e = effect_of (holdings_of old.spool) old.spool.stored line_lost old.node.engine in
    let is : e ≡ unmoved (end_of (holdings_of old.spool) old.spool.stored (with_stage stage old.node.engine)) =
    lost_beside (holdings_of old.spool) old.spool.stored old.node.engine in
    let of_spool : MemoryHoldings → Type 0 = λ m. Does e (end_of (holdings_of m) m.stored called.node.engine) old.node.engine called.node.engine in
    let calls : Calls e old called new =
    steps_so line_lost old called new ordered tt
    (subst of_spool (sym spool) (lost_does e (holdings_of old.spool) old.spool.stored stage old.node.engine called.node.engine is engine))
    noted_so (subst (λ (j : JournalValue). AreWritten j.packets) (sym journal) ordered.written) (ap holdings_of spool) in
    let at : stage ≡ e.state.stage = ap (λ (x : EndEffect DialogueState). x.state.stage) (sym is) in
    calls_so line_lost old called new e refl room calls journal line
    (ap (λ (x : Stage). bytes_at x new.node) (stage_after e old called new calls ∙ sym at)
    ∙ held_lost parted old.node.engine.stage new.node (held_bytes old.node)
    ∙ ap (λ (x : Stage). held_in x (held_bytes old.node)) at)

-- ---- a session begins

-- an end beside whom nothing has happened
with_nothing_said : Identity → Announced → LineEndValue → LineEndValue
with_nothing_said id own p = record p {
  node = record p.node {
    engine = record p.node.engine {
      identity = id;
      own = own;
      outbox = record { entries = []; spare = 0 };
    };
  };
}

nothing_at : (stage : Stage) (n : NodeState) → HoldsNothing n → bytes_at stage n ≡ []
nothing_at (hailing g) n is = ap (λ (t : TextsHeld). t.bytes) is.texts
nothing_at linked n is = ap (λ (r : Reading). r.bytes) is.packets
nothing_at (ended how) n is = refl

none_held : (stage : Stage) → [] ≡ held_in stage []
none_held (hailing g) = refl
none_held linked = refl
none_held (ended how) = refl

pub begun_so : (id : Identity) (own : Announced) (number : Option ℕ) (l : Lists) (called new : LineEndValue) → IsAnnouncement own
    → BeginsSession id own number l [] called.node.engine → HoldsNothing called.node
    → called.journal ≡ nothing_done → called.line ≡ [] → IsNoted called new
    → HasBegun id own number l called.spool new
unfolding with_nothing_said
begun_so id own number l called new announces session nothing_held journal line noted_so =
    let old = with_nothing_said id own called in
    let e = begins_session id own number (unopened l called.spool.stored) in
    let does : Does e (state_of called) old.node.engine called.node.engine = record {
      end = begun_with (holdings_of called.spool) called.spool.stored id own number l [] called.node.engine session;
      emitted = session.emitted;
      identity = session.identity;
      own = session.own;
    } in
    let calls : Calls e old called new =
    does_so e old called new refl (recursion_from_All CanBeWritten e.emitted (first_words_can id own number (unopened l called.spool.stored))) does noted_so
    (end_begins id own number (unopened l called.spool.stored) announces) announces
    (subst (λ (j : JournalValue). AreWritten j.packets) (sym journal) tt) refl in
    let bytes : held_bytes new.node ≡ [] =
    same_bytes new.node.engine.stage new.node called.node noted_so.texts noted_so.packets
    ∙ nothing_at new.node.engine.stage called.node nothing_held in
    let by_held : List ℕ → Buffered (LineEndState DialogueState) = λ x. record { held = x; end = line_end_of new } in
    let by_end : LineEndState DialogueState → Buffered (LineEndState DialogueState) = λ x. record { held = held_in e.state.stage []; end = x } in
    let by_journal : JournalValue → LineEndState DialogueState = λ x. after_call (log_of x) called.line e in
    let by_line : List ℕ → LineEndState DialogueState = λ x. after_call (log_of nothing_done) x e in
    record {
      hearer = ap by_held (bytes ∙ none_held e.state.stage)
          ∙ ap by_end (calls.end ∙ ap by_journal journal ∙ ap by_line line);
      ordered = calls.ordered;
      room = subst (λ (xs : List ℕ). length xs < READER_SIZE) (sym bytes) (omega arith);
      standing = calls.standing;
    }

-- the next one begins
pub begun_again : (old called new : LineEndValue) → IsOrdered old
    → BeginsSession old.node.engine.identity old.node.engine.own old.node.engine.number (all_ahead old.node.engine.dialogue.machine.lists) old.node.engine.outbox.entries
    called.node.engine → HoldsNothing called.node → called.spool ≡ leaves_spool old
    → called.journal ≡ nothing_done → called.line ≡ [] → IsNoted called new → BeginsAgain old new
begun_again old called new ordered session nothing_held spool journal line noted_so =
    let e = old.node.engine in
    let l = all_ahead e.dialogue.machine.lists in
    subst (λ (m : MemoryHoldings). HasBegun e.identity e.own e.number l m new) spool
    (begun_so e.identity e.own e.number l called new ordered.own
    (subst (λ (es : List EntryValue). BeginsSession e.identity e.own e.number l es called.node.engine) ordered.cleared session)
    nothing_held journal line noted_so)
