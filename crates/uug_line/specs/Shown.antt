-- What the sessions and the ends of a program's report show.
use Rattle.std.specs.Prelude.{◌≡◌, ℕ, List, [], map, Vec}
use Rattle.uug_conversation.specs.declared.memory_spool.MemorySpool.{MemorySpool}
use Rattle.uug_session.specs.declared.node.Node.{Node}
use Rattle.uug_conversation.specs.MemoryHoldings.{MemoryHoldings, held_by, holdings_of}
use Rattle.uug_conversation.specs.Left.{left_of}
use Rattle.uug_conversation.specs.Partials.{partials_then}
use Rattle.uug_session.specs.Node.{held_bytes, node_of}
use Rattle.uug_line.specs.declared.report.EndReport.{EndReport}
use Rattle.uug_line.specs.declared.report.SessionReport.{SessionReport}
use Rattle.uug_line.specs.Belongings.{Belongings}
use Rattle.uug_line.specs.Told.{EndNow, SpelledEnd}
use Rattle.uug_conversation.specs.Sides.{AtBoth}

abbrev pub lists_in : {A : Type 0} → List (Vec ℕ A) → List (List ℕ)
lists_in vectors = map (λ v. v.items) vectors

abbrev pub end_shown : {A : Type 0} → EndReport A → SpelledEnd
end_shown e = record {
  sent = lists_in e.sent.items;
  taken = lists_in e.taken.items;
  packets = lists_in e.packets.items;
  arrivals = e.arrivals.items;
  most = e.most;
  phase = e.phase;
}

abbrev pub session_shown : {A : Type 0} → SessionReport A → AtBoth SpelledEnd
session_shown s = record { at_caller = end_shown s.caller; at_called = end_shown s.called }

-- what an end over a spool in memory has
abbrev pub owned_by : {A : Type 0} → Node (MemorySpool A) A → Belongings
owned_by node = record {
  lists = (node_of node).engine.dialogue.machine.lists;
  kept = (held_by node.spool).stored;
  partials = partials_then (held_by node.spool).partials
      (left_of (holdings_of (held_by node.spool)) (node_of node).engine.dialogue.machine);
  number = (node_of node).engine.number;
}

-- how it stands
abbrev pub stands_so : {A : Type 0} → Node (MemorySpool A) A → EndNow
stands_so node = record { stage = (node_of node).engine.stage; link = (node_of node).engine.link }

-- what is in its spool
abbrev pub spool_of : {A : Type 0} → Node (MemorySpool A) A → MemoryHoldings
spool_of node = held_by node.spool

-- the bytes that it holds and has not taken up
abbrev pub held_at : {A : Type 0} → Node (MemorySpool A) A → List ℕ
held_at node = held_bytes (node_of node)

-- all that it emitted has gone out
abbrev pub HasSaidAll : {A : Type 0} → Node (MemorySpool A) A → Type 0
HasSaidAll node = (node_of node).engine.outbox.entries ≡ []
