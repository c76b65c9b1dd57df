-- What an end of the program on a line is, in the terms of the definitions.
use Rattle.std.specs.Prelude.{◌≡◌, ℕ, ◌<◌, ◌≤◌, Bool, true, false, List, [], ◌++◌, Option, length, map, take}
use Rattle.std.specs.List.{AllByRecursion}
use Rattle.uug_link.specs.Announced.{Announced}
use Rattle.uug_link.specs.Entries.{joined}
use Rattle.uug_link.specs.InRange.{IsAnnouncement}
use Rattle.uug_packet.specs.Spelling.{canonical}
use Rattle.uug_packet.specs.WellFormed.{IsWellFormed}
use Rattle.uug_reader.specs.declared.reader.TheConstants.{READER_SIZE}
use Rattle.uug_session.specs.Arriving.{Buffered, Receiver, all_taken, held_in, stopped, takes_all, takes_piece}
use Rattle.uug_session.specs.EndStep.{EndEffect, EndEvent, EndState, Identity, Stage, begins_session}
use Rattle.uug_session.specs.Engine.{CountsFaults, all_ahead, end_of, with_outbox, faults_max}
use Rattle.uug_conversation.specs.Holdings.{Holdings}
use Rattle.uug_session.specs.InRange.{IsEndInRange}
use Rattle.uug_conversation.specs.Jobs.{Lists}
use Rattle.uug_conversation.specs.Left.{left_of}
use Rattle.uug_conversation.specs.MemoryHoldings.{MemoryHoldings, held_by, holdings_of}
use Rattle.uug_conversation.specs.Partials.{partials_then}
use Rattle.uug_session.specs.Node.{NodeState, TakesShown, bytes_at, held_bytes, node_of}
use Rattle.uug_conversation.specs.DialogueState.{DialogueState, end_keeper, unopened}
use Rattle.uug_line.specs.declared.line_end.LineEnd.{LineEnd}
use Rattle.uug_line.specs.declared.line_end.Taking.{Taking}
use Rattle.uug_line.specs.declared.line_end.Taking.TheVariants.{Goes, Waits, Stops}
use Rattle.uug_line.specs.JournalValue.{JournalValue, journal_value, log_of, packet_in, saying, with_most}
use Rattle.uug_line.specs.Report.{told_by}
use Rattle.uug_session.specs.Phases.{phase_at}
use Rattle.uug_line.specs.Taking.{line_taker}
use Rattle.uug_line.specs.LineEndState.{LineEndState, Participant, begins, called_with}
use Rattle.uug_line.specs.Told.{SpelledEnd}

-- its parts
pub record LineEndValue : Type 0 where
  pub node : NodeState
  pub spool : MemoryHoldings
  pub journal : JournalValue
  pub line : List ℕ

abbrev pub live_end_value : {A : Type 0} → LineEnd A → LineEndValue
live_end_value e = record {
  node = node_of e.node.value;
  spool = held_by e.node.value.spool;
  journal = journal_value e.journal;
  line = e.line;
}

-- what stays as it is set up
pub record Standing : Type 0 where
  pub identity : Identity
  pub own : Announced
  pub holdings : Holdings

abbrev pub standing_of : LineEndValue → Standing
standing_of e = record {
  identity = e.node.engine.identity;
  own = e.node.engine.own;
  holdings = holdings_of e.spool;
}

-- who it is, and what keeps its conversation
abbrev pub player_of : LineEndValue → Participant DialogueState
player_of e = record {
  identity = e.node.engine.identity;
  keeper = end_keeper e.node.engine.identity.side (holdings_of e.spool);
}

abbrev pub state_of : LineEndValue → EndState DialogueState
state_of e = end_of (holdings_of e.spool) e.spool.stored e.node.engine

abbrev pub line_end_of : LineEndValue → LineEndState DialogueState
line_end_of e = record { state = state_of e; log = log_of e.journal; line = e.line }

abbrev pub hearer_of : LineEndValue → Buffered (LineEndState DialogueState)
hearer_of e = record { held = held_bytes e.node; end = line_end_of e }

-- each is the canonical spelling of a packet
abbrev pub AreWritten : List (List ℕ) → Type 0
AreWritten spellings = AllByRecursion (λ b. (b ≡ canonical (packet_in b)) × IsWellFormed (packet_in b)) spellings

-- between two calls
pub record IsOrdered (e : LineEndValue) : Type 0 where
  -- all that was emitted was noted
  pub cleared : e.node.engine.outbox.entries ≡ []
  pub in_range : IsEndInRange e.node.engine.identity.side (state_of e)
  pub own : IsAnnouncement e.node.engine.own
  pub written : AreWritten e.journal.packets
  pub most : length e.node.engine.link.unacked ≤ e.journal.most

-- a byte more fits
abbrev pub HasRoom : LineEndValue → Type 0
HasRoom e = length (held_bytes e.node) < READER_SIZE

-- what a call of the end had emitted was noted, and stands on the line
pub record IsNoted (called noted : LineEndValue) : Type 0 where
  pub engine : noted.node.engine ≡ with_outbox noted.node.engine.outbox called.node.engine
  pub cleared : noted.node.engine.outbox.entries ≡ []
  pub texts : noted.node.texts ≡ called.node.texts
  pub packets : noted.node.packets ≡ called.node.packets
  pub spool : noted.spool ≡ called.spool
  pub journal : noted.journal ≡ with_most (length called.node.engine.link.unacked)
      (saying called.node.engine.outbox.entries called.journal)
  pub line : noted.line ≡ called.line ++ joined called.node.engine.outbox.entries

-- of its bytes it holds what an end holds that has come so far
abbrev pub HoldsOn : {C : Type 0} → EndEffect C → Stage → NodeState → Type 0
HoldsOn e stage n = bytes_at e.state.stage n ≡ held_in e.state.stage (bytes_at stage n)

-- a call that uses no bytes
pub record IsCalled (event : EndEvent) (old new : LineEndValue) : Type 0 where
  pub hearer : hearer_of new ≡ called_with (player_of old) event (hearer_of old)
  pub ordered : IsOrdered new
  pub room : HasRoom new
  pub standing : standing_of new ≡ standing_of old

-- a session of the end that is so called, announces this, keeps this number or none, and brings these jobs and this spool
-- has begun
pub record HasBegun (id : Identity) (own : Announced) (number : Option ℕ) (l : Lists) (spool : MemoryHoldings) (new : LineEndValue) : Type 0 where
  pub hearer : hearer_of new ≡ begins (begins_session id own number (unopened l spool.stored))
  pub ordered : IsOrdered new
  pub room : HasRoom new
  pub standing : standing_of new ≡ record { identity = id; own = own; holdings = holdings_of spool }

-- ---- what comes is taken up

-- the receiver of what comes to the end, where the other end's packets are spelled so
abbrev pub taker_of : (others : List (List ℕ)) → LineEndValue → Receiver (LineEndState DialogueState)
taker_of others e = line_taker (player_of e) (map packet_in others)

-- an item was taken up, and there is less left
pub record TakesOne (others : List (List ℕ)) (old new : LineEndValue) : Type 0 where
  pub same : takes_all (taker_of others old) (hearer_of old) ≡ takes_all (taker_of others old) (hearer_of new)
  pub ordered : IsOrdered new
  pub standing : standing_of new ≡ standing_of old
  pub fewer : length (held_bytes new.node) < length (held_bytes old.node)

-- all was taken up that is whole
pub record TakesAll (others : List (List ℕ)) (old new : LineEndValue) : Type 0 where
  pub all : takes_all (taker_of others old) (hearer_of old) ≡ all_taken (hearer_of new)
  pub ordered : IsOrdered new
  pub standing : standing_of new ≡ standing_of old
  pub room : HasRoom new

-- a packet was found that was not sent
pub record IsStopped (others : List (List ℕ)) (old new : LineEndValue) : Type 0 where
  pub stopped : takes_all (taker_of others old) (hearer_of old) ≡ stopped (hearer_of new)
  pub ordered : IsOrdered new
  pub standing : standing_of new ≡ standing_of old
  pub no_more : length (held_bytes new.node) ≤ length (held_bytes old.node)

abbrev pub TakesNext : Taking → (others : List (List ℕ)) → (old new : LineEndValue) → Type 0
TakesNext Goes others old new = TakesOne others old new
TakesNext Waits others old new = TakesAll others old new
TakesNext Stops others old new = IsStopped others old new

-- an item that is shown was taken up, and what it emitted noted, where this was written down of it before
pub record IsTakenUp (found : Bool → JournalValue) (old new : LineEndValue) : Type 0 where
  pub called : LineEndValue
  pub took : Bool
  pub shown : TakesShown (holdings_of old.spool) old.spool.stored called.spool.stored (CountsFaults faults_max 0 0)
      old.node called.node took
  pub holdings : holdings_of called.spool ≡ holdings_of old.spool
  pub journal : called.journal ≡ found took
  pub line : called.line ≡ old.line
  pub noted : IsNoted called new

-- all items were taken up, or there was one that was not sent
abbrev pub TakesItems : (all_sent : Bool) → (others : List (List ℕ)) → (old new : LineEndValue) → Type 0
TakesItems true others old new = TakesAll others old new
TakesItems false others old new = IsStopped others old new

-- the piece came, and was taken up
pub record HearsAll (others : List (List ℕ)) (piece : List ℕ) (old new : LineEndValue) : Type 0 where
  pub came : takes_piece (taker_of others old) piece (hearer_of old) ≡ all_taken (hearer_of new)
  pub ordered : IsOrdered new
  pub standing : standing_of new ≡ standing_of old
  pub room : HasRoom new

-- up to a packet that was not sent; of the bytes from there on it holds what fits
pub record HearsSome (others : List (List ℕ)) (piece : List ℕ) (old new : LineEndValue) : Type 0 where
  pub held : List ℕ
  pub came : takes_piece (taker_of others old) piece (hearer_of old) ≡ stopped (record { held = held; end = line_end_of new })
  pub fits : held_bytes new.node ≡ take READER_SIZE held
  pub ordered : IsOrdered new
  pub standing : standing_of new ≡ standing_of old

abbrev pub HearsPiece : (all_sent : Bool) → (others : List (List ℕ)) → (piece : List ℕ) → (old new : LineEndValue) → Type 0
HearsPiece true others piece old new = HearsAll others piece old new
HearsPiece false others piece old new = HearsSome others piece old new

-- what is still to do: items, or a rest of the piece
pub record StillTakes (others : List (List ℕ)) (old now : LineEndValue) : Type 0 where
  pub same : takes_all (taker_of others old) (hearer_of old) ≡ takes_all (taker_of others old) (hearer_of now)
  pub ordered : IsOrdered now
  pub standing : standing_of now ≡ standing_of old
  pub no_more : length (held_bytes now.node) ≤ length (held_bytes old.node)

pub record StillHears (others : List (List ℕ)) (piece rest : List ℕ) (old now : LineEndValue) : Type 0 where
  pub same : takes_piece (taker_of others old) piece (hearer_of old) ≡ takes_piece (taker_of others old) rest (hearer_of now)
  pub ordered : IsOrdered now
  pub standing : standing_of now ≡ standing_of old
  pub room : HasRoom now

-- ---- a session after another

-- what is told of its session
abbrev pub told_of : LineEndValue → SpelledEnd
told_of e = told_by e.journal (phase_at e.node.engine.stage e.node.engine.link.phase)

-- its spool holds what is left of a file
abbrev pub leaves_spool : LineEndValue → MemoryHoldings
leaves_spool e = record e.spool {
  partials = partials_then e.spool.partials (left_of (holdings_of e.spool) e.node.engine.dialogue.machine);
}

-- the next session of an end whose session is over has begun
abbrev pub BeginsAgain : (old new : LineEndValue) → Type 0
BeginsAgain old new =
    HasBegun old.node.engine.identity old.node.engine.own old.node.engine.number (all_ahead old.node.engine.dialogue.machine.lists)
    (leaves_spool old) new
