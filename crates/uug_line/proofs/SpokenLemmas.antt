-- What an end of the program has noted after a call is what the call says.
use Rattle.std.proofs.Common.{◌≡◌, ℕ, max, Bool, true, false, List, [], ◌∷◌, ◌++◌, map, length, Option, ap, sym, subst, ◌∙◌, refl, arith}
use Rattle.std.proofs.lemmas.List.{map-append}
use Rattle.std.proofs.lemmas.List.Elements.{recursion_from_All}
use Rattle.std.specs.List.{AllByRecursion}
use Rattle.uug_link.specs.Announced.{Announced}
use Rattle.uug_link.specs.InRange.{IsAnnouncement}
use Rattle.uug_link.specs.State.{State}
use Rattle.uug_link.specs.Entries.{EntryValue, joined}
use Rattle.uug_packet.specs.Message.{message_if_data, message_in}
use Rattle.uug_packet.specs.Packet.{PacketValue, control, carry}
use Rattle.uug_packet.specs.Spelling.{canonical}
use Rattle.uug_packet.specs.WellFormed.{IsWellFormed}
use Rattle.uug_session.specs.EndStep.{Emitted, says_text, sends_packet, EndEffect, EndEvent, EndState, Identity, end_step}
use Rattle.uug_session.specs.Engine.{Does, EngineState, end_of, entry_of}
use Rattle.uug_conversation.specs.Holdings.{Holdings}
use Rattle.uug_session.specs.InRange.{CanBeWritten, IsEndInRange, MayFind}
use Rattle.uug_conversation.specs.MemoryHoldings.{MemoryHoldings, holdings_of}
use Rattle.uug_talk.specs.Texts.{written_text}
use Rattle.uug_conversation.specs.DialogueState.{DialogueState}
use Rattle.uug_conversation.specs.declared.side.Side.{Side}
use Rattle.uug_line.specs.JournalValue.{JournalValue, if_first, log_of, messages_said, packet_in, packet_read, packets_said, saying, with_most}
use Rattle.uug_line.specs.LineEndState.{LineEndState, JournalState, after_call, bytes_in, emitting, messages_sent, packets_in, sent_by}
use Rattle.uug_line.specs.LineEndValue.{AreWritten, IsNoted, IsOrdered, LineEndValue, Standing, line_end_of, player_of, standing_of, state_of}
use Rattle.uug_packet.proofs.WellFormedLemmas.{decoded-well_formed}
use Rattle.uug_packet.proofs.WrittenLemmas.{message_in-written}
use Rattle.uug_session.proofs.InRangeLemmas.{end_stays, end_emits}

-- ---- the bytes

pub bytes_joined : (es : List Emitted) → joined (map entry_of es) ≡ bytes_in es
bytes_joined [] = refl
bytes_joined (says_text text ∷ es) = ap (λ (bytes : List ℕ). written_text text ++ bytes) (bytes_joined es)
bytes_joined (sends_packet e ∷ es) = ap (λ (bytes : List ℕ). canonical e.packet ++ bytes) (bytes_joined es)

-- ---- the packets

packets_spelled : (es : List Emitted) → packets_said (map entry_of es) ≡ map canonical (packets_in es)
packets_spelled [] = refl
packets_spelled (says_text text ∷ es) = packets_spelled es
packets_spelled (sends_packet e ∷ es) = ap (λ (packets : List (List ℕ)). canonical e.packet ∷ packets) (packets_spelled es)

pub packet_back : (p : PacketValue) → IsWellFormed p → packet_in (canonical p) ≡ p
packet_back p well = ap packet_read (decoded-well_formed p well)

packets_back : (es : List Emitted) → AllByRecursion CanBeWritten es → map packet_in (map canonical (packets_in es)) ≡ packets_in es
packets_back [] well = refl
packets_back (says_text text ∷ es) well = packets_back es well.1
packets_back (sends_packet e ∷ es) well =
    ap (λ (p : PacketValue). p ∷ map packet_in (map canonical (packets_in es))) (packet_back e.packet well.0)
    ∙ ap (λ (ps : List PacketValue). e.packet ∷ ps) (packets_back es well.1)

written_packets : (es : List Emitted) → AllByRecursion CanBeWritten es → AreWritten (map canonical (packets_in es))
written_packets [] well = tt
written_packets (says_text text ∷ es) well = written_packets es well.1
written_packets (sends_packet e ∷ es) well =
    let back = packet_back e.packet well.0 in
    ((ap canonical (sym back), subst IsWellFormed (sym back) well.0), written_packets es well.1)

all_written : (xs ys : List (List ℕ)) → AreWritten xs → AreWritten ys → AreWritten (xs ++ ys)
all_written [] ys first next = next
all_written (x ∷ xs) ys first next = (first.0, all_written xs ys first.1 next)

-- ---- the messages

sent_of : (first : Bool) (p : PacketValue) → if_first first (message_if_data p) ≡ sent_by first p
sent_of true (control c) = refl
sent_of true (carry seq ack k message) = refl
sent_of false (control c) = refl
sent_of false (carry seq ack k message) = refl

messages_back : (es : List Emitted) → AllByRecursion CanBeWritten es → messages_said (map entry_of es) ≡ messages_sent es
messages_back [] well = refl
messages_back (says_text text ∷ es) well = messages_back es well.1
messages_back (sends_packet e ∷ es) well =
    let read : message_in (canonical e.packet) ≡ message_if_data e.packet = message_in-written e.packet well.0 in
    ap (λ (m : Option (List ℕ)). if_first e.first m ++ messages_said (map entry_of es)) read
    ∙ ap (λ (ms : List (List ℕ)). ms ++ messages_said (map entry_of es)) (sent_of e.first e.packet)
    ∙ ap (λ (ms : List (List ℕ)). sent_by e.first e.packet ++ ms) (messages_back es well.1)

-- ---- a call

-- what is noted of a call that emitted this
pub noted : (es : List Emitted) (entries : List EntryValue) (unacked : ℕ) (before after : JournalValue)
    → AllByRecursion CanBeWritten es → entries ≡ map entry_of es → after ≡ with_most unacked (saying entries before)
    → log_of after ≡ emitting es unacked (log_of before)
noted es entries unacked before after well are noted_so =
    let with_sent : List (List ℕ) → JournalState = λ sent. record {
      sent = before.sent ++ sent;
      taken = before.taken;
      packets = map packet_in (before.packets ++ packets_said (map entry_of es));
      arrivals = before.arrivals;
      passed = before.passed;
      most = max before.most unacked;
    } in
    let with_packets : List PacketValue → JournalState = λ packets. record {
      sent = before.sent ++ messages_sent es;
      taken = before.taken;
      packets = packets;
      arrivals = before.arrivals;
      passed = before.passed;
      most = max before.most unacked;
    } in
    ap log_of noted_so
    ∙ ap (λ (xs : List EntryValue). log_of (with_most unacked (saying xs before))) are
    ∙ ap with_sent (messages_back es well)
    ∙ ap with_packets (map-append packet_in before.packets (packets_said (map entry_of es))
    ∙ ap (λ (ps : List PacketValue). map packet_in before.packets ++ ps)
    (ap (λ (bs : List (List ℕ)). map packet_in bs) (packets_spelled es) ∙ packets_back es well))

pub noted_well : (es : List Emitted) (entries : List EntryValue) (unacked : ℕ) (before after : JournalValue)
    → AllByRecursion CanBeWritten es → entries ≡ map entry_of es → after ≡ with_most unacked (saying entries before)
    → AreWritten before.packets → AreWritten after.packets
noted_well es entries unacked before after well are noted_so written =
    subst AreWritten
    (ap (λ (bs : List (List ℕ)). before.packets ++ bs) (sym (packets_spelled es) ∙ ap packets_said (sym are)) ∙ ap (λ (j : JournalValue). j.packets) (sym noted_so))
    (all_written before.packets (map canonical (packets_in es)) written (written_packets es well))

-- the call did this to the end, of which was noted already what was found
pub record Calls (effect : EndEffect DialogueState) (old called new : LineEndValue) : Type 0 where
  pub end : line_end_of new ≡ after_call (log_of called.journal) called.line effect
  pub standing : standing_of new ≡ standing_of old
  pub ordered : IsOrdered new

pub does_so : (e : EndEffect DialogueState) (old called new : LineEndValue)
    → old.node.engine.outbox.entries ≡ [] → AllByRecursion CanBeWritten e.emitted
    → Does e (state_of called) old.node.engine called.node.engine → IsNoted called new
    → IsEndInRange old.node.engine.identity.side e.state → IsAnnouncement old.node.engine.own
    → AreWritten called.journal.packets → holdings_of called.spool ≡ holdings_of old.spool
    → Calls e old called new
does_so e old called new cleared writable does noted_so in_range own written holdings =
    let entries : called.node.engine.outbox.entries ≡ map entry_of e.emitted =
    does.emitted ∙ ap (λ (x : List EntryValue). x ++ map entry_of e.emitted) cleared in
    let of_engine : EngineState → MemoryHoldings → EndState DialogueState = λ x m. end_of (holdings_of m) m.stored x in
    let state : state_of new ≡ e.state =
    ap (λ (x : EngineState). of_engine x new.spool) noted_so.engine ∙ ap (λ (m : MemoryHoldings). of_engine called.node.engine m) noted_so.spool ∙ does.end in
    let link : new.node.engine.link ≡ e.state.link = ap (λ (s : EndState DialogueState). s.link) state in
    let unacked : length called.node.engine.link.unacked ≡ length e.state.link.unacked =
    ap (λ (s : EndState DialogueState). length s.link.unacked) does.end in
    let identity : new.node.engine.identity ≡ old.node.engine.identity =
    ap (λ (x : EngineState). x.identity) noted_so.engine ∙ does.identity in
    let announced : new.node.engine.own ≡ old.node.engine.own = ap (λ (x : EngineState). x.own) noted_so.engine ∙ does.own in
    let log : log_of new.journal ≡ emitting e.emitted (length e.state.link.unacked) (log_of called.journal) =
    noted e.emitted called.node.engine.outbox.entries (length called.node.engine.link.unacked) called.journal new.journal writable entries noted_so.journal
    ∙ ap (λ (n : ℕ). emitting e.emitted n (log_of called.journal)) unacked in
    let line : new.line ≡ called.line ++ bytes_in e.emitted =
    noted_so.line ∙ ap (λ (x : List EntryValue). called.line ++ joined x) entries ∙ ap (λ (x : List ℕ). called.line ++ x) (bytes_joined e.emitted) in
    let by_state : EndState DialogueState → LineEndState DialogueState = λ x. record { state = x; log = log_of new.journal; line = new.line } in
    let by_log : JournalState → LineEndState DialogueState = λ x. record { state = e.state; log = x; line = new.line } in
    let by_line : List ℕ → LineEndState DialogueState =
    λ x. record { state = e.state; log = emitting e.emitted (length e.state.link.unacked) (log_of called.journal); line = x } in
    let by_identity : Identity → Standing = λ x. record { identity = x; own = new.node.engine.own; holdings = holdings_of new.spool } in
    let by_own : Announced → Standing = λ x. record { identity = old.node.engine.identity; own = x; holdings = holdings_of new.spool } in
    let by_holdings : Holdings → Standing = λ x. record { identity = old.node.engine.identity; own = old.node.engine.own; holdings = x } in
    let most : new.journal.most ≡ max called.journal.most (length called.node.engine.link.unacked) = ap (λ (j : JournalValue). j.most) noted_so.journal in
    let left : length new.node.engine.link.unacked ≡ length called.node.engine.link.unacked = ap (λ (s : State). length s.unacked) link ∙ sym unacked in
    record {
      end = ap by_state state ∙ ap by_log log ∙ ap by_line line;
      standing = ap by_identity identity ∙ ap by_own announced ∙ ap by_holdings (ap holdings_of noted_so.spool ∙ holdings);
      ordered = record {
        cleared = noted_so.cleared;
        in_range = subst (λ (s : Side). IsEndInRange s (state_of new)) (sym (ap (λ (id : Identity). id.side) identity))
            (subst (IsEndInRange old.node.engine.identity.side) (sym state) in_range);
        own = subst IsAnnouncement (sym announced) own;
        written = noted_well e.emitted called.node.engine.outbox.entries (length called.node.engine.link.unacked) called.journal new.journal
            writable entries noted_so.journal written;
        most = omega (arith, most, left);
      };
    }

-- the end's step
pub steps_so : (event : EndEvent) (old called new : LineEndValue) → IsOrdered old → MayFind event
    → Does (end_step (player_of old).keeper (player_of old).identity event (state_of old)) (state_of called) old.node.engine called.node.engine
    → IsNoted called new → AreWritten called.journal.packets → holdings_of called.spool ≡ holdings_of old.spool
    → Calls (end_step (player_of old).keeper (player_of old).identity event (state_of old)) old called new
steps_so event old called new ordered may does noted_so written holdings =
    let id = old.node.engine.identity in
    let e = end_step (player_of old).keeper (player_of old).identity event (state_of old) in
    does_so e old called new ordered.cleared
    (recursion_from_All CanBeWritten e.emitted (end_emits id.side (holdings_of old.spool) id event (state_of old) ordered.in_range may))
    does noted_so (end_stays id.side (holdings_of old.spool) id event (state_of old) ordered.in_range may) ordered.own written holdings
