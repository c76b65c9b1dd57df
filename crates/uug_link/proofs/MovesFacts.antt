-- Moves of the window machine that were worked out by hand, for what occurs at two links: a wrong rule does not check.
use Rattle.std.proofs.Common.{List, [], ◌∷◌, ◌++◌, refl, arith}
use Rattle.uug_link.specs.Moves.{ReadsBoth, AreMovesOf}
use Rattle.uug_link.specs.Step.{to_send, to_close}
use Rattle.uug_link.specs.TwoLinks.{Ends, Occurrence, at_near, at_far, moves, misses, hears, after_occurrence, after_occurrences}
use Rattle.uug_link.specs.WindowMachine.{Machine, start, sends, repeats, acknowledges, loses, arrives, Move, on_out, on_back, AllAllowed, after}
use Rattle.uug_link.proofs.TwoLinksFacts.{both_up}
use Rattle.uug_packet.specs.Packet.{rj, control, carry}

-- the caller sends two messages, and the first is lost
abbrev sends_first : Occurrence
sends_first = at_near (moves (to_send (1 ∷ [])))

abbrev sends_second : Occurrence
sends_second = at_near (moves (to_send (2 ∷ [])))

abbrev both_sent : Ends
both_sent = after_occurrences both_up (sends_first ∷ sends_second ∷ [])

abbrev machine_sent : Machine
machine_sent = after (start 2 3) (on_out (sends (1 ∷ [])) ∷ on_out (sends (2 ∷ [])) ∷ [])

abbrev first_lost : Ends
first_lost = after_occurrence both_sent (at_far misses)

abbrev machine_lost : Machine
machine_lost = after machine_sent (on_out loses ∷ [])

-- the called end rejects the second
abbrev hears_second : Occurrence
hears_second = at_far (hears (carry 2 0 1 (2 ∷ [])))

abbrev second_heard : Ends
second_heard = after_occurrence first_lost hears_second

abbrev heard_moves : List Move
heard_moves = on_out arrives ∷ on_back acknowledges ∷ []

abbrev machine_heard : Machine
machine_heard = after machine_lost heard_moves

-- the caller sends both again, or has closed by then
abbrev hears_reject : Occurrence
hears_reject = at_near (hears (control (rj 0)))

abbrev again_moves : List Move
again_moves = on_back arrives ∷ on_out (repeats 0) ∷ on_out (repeats 1) ∷ []

abbrev caller_closing : Ends
caller_closing = after_occurrence second_heard (at_near (moves to_close))

pub record AreWorked : Type 0 where
  pub start_up : ReadsBoth both_up (start 2 3)
  pub first_sent : AreMovesOf both_up sends_first (start 2 3) (on_out (sends (1 ∷ [])) ∷ [])
  pub lost : AreMovesOf both_sent (at_far misses) machine_sent (on_out loses ∷ [])
  pub rejected : AreMovesOf first_lost hears_second machine_lost heard_moves
  pub sent_again : AreMovesOf second_heard hears_reject machine_heard again_moves
  -- CLOSE is none of the machine's packets, and what comes to a link that is closing is lost
  pub closed : AreMovesOf second_heard (at_near (moves to_close)) machine_heard []
  pub unheard : AreMovesOf caller_closing hears_reject machine_heard (on_back loses ∷ [])
  pub allowed : AllAllowed (start 2 3)
      (on_out (sends (1 ∷ [])) ∷ on_out (sends (2 ∷ [])) ∷ on_out loses ∷ heard_moves ++ again_moves)
  pub at_end : ReadsBoth (after_occurrence second_heard hears_reject) (after machine_heard again_moves)

pub worked : AreWorked
worked = record {
  start_up = (
    record { sent = refl; unacked = refl; oldest = refl; taken = refl; expected = refl; passed = omega arith; flight = tt },
    record { sent = refl; unacked = refl; oldest = refl; taken = refl; expected = refl; passed = omega arith; flight = tt },
  );
  first_sent = record { gone = sends (1 ∷ []) ∷ []; are = refl; emits = ((refl, refl, refl), tt); new = refl };
  lost = record { gone = []; are = refl; emits = tt; new = refl };
  rejected = record { gone = acknowledges ∷ []; are = refl; emits = (refl, tt); new = refl };
  sent_again = record {
    gone = repeats 0 ∷ repeats 1 ∷ [];
    are = refl;
    emits = ((refl, refl, refl), ((refl, refl, refl), tt));
    new = refl;
  };
  closed = record { gone = []; are = refl; emits = tt; new = refl };
  unheard = record { gone = []; are = refl; emits = tt; new = refl };
  allowed = (
    omega arith,
    (omega arith, (omega arith, (omega arith, (tt, (omega arith, ((omega arith, omega arith), ((omega arith, omega arith), tt))))))),
  );
  at_end = (
    record {
      sent = refl;
      unacked = refl;
      oldest = refl;
      taken = refl;
      expected = refl;
      passed = omega arith;
      flight = ((refl, refl, refl), ((refl, refl, refl), tt));
    },
    record { sent = refl; unacked = refl; oldest = refl; taken = refl; expected = refl; passed = omega arith; flight = tt },
  );
}
