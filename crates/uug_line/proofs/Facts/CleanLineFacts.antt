-- Whole sessions over a clean line, worked out by hand, and computed with the two ends themselves and with two
-- numbers an end.
use Rattle.std.proofs.Common.{ℕ, List, [], ◌∷◌, replicate, codes, refl}
use Rattle.uug_link.specs.Terms.{smallest_code}
use Rattle.uug_packet.specs.Checksum.{check}
use Rattle.uug_packet.specs.Decoded.{header_at, decoded}
use Rattle.uug_packet.specs.Packet.{close, rr, init_c, init_b, init_a, control, carry}
use Rattle.uug_session.specs.declared.end.End.TheVariants.{Done}
use Rattle.uug_conversation.specs.MemoryHoldings.{no_holdings}
use Rattle.uug_line.specs.declared.verdict.LineVerdict.TheVariants.{Clean}
use Rattle.uug_line.specs.LineEndState.{JournalState}
use Rattle.uug_session.specs.declared.phase.Phase.TheVariants.{Ended}
use Rattle.uug_line.proofs.Facts.FactSetups.{cannot_place_y, denies_y, end_of_size, file, flow, gives, puts_y_off, q, request, send, sends_to, text, trickle, two_ends, x, y}
use Rattle.uug_line.proofs.Facts.Summaries.{InSession, Has, Summary, ComeTo, Logs, at_ends, talks, owns}

-- both ends are done after one session
abbrev done : (caller_talk called_talk : InSession) → (caller_has called_has : Has) → Summary
done caller_talk called_talk caller_has called_has = record {
  sessions = at_ends caller_talk called_talk ∷ [];
  ends = at_ends caller_has called_has;
  verdict = Clean;
}

abbrev nothing_left : Has
nothing_left = owns 0 0 0 []

-- ---- the caller sends a file

pub file_is_sent : ComeTo (sends_to no_holdings) (flow 20)
    (done (talks 4 3 1 (Ended Done)) (talks 3 4 1 (Ended Done)) (owns 0 1 0 []) (owns 0 0 0 (file y [] ∷ [])))
unfolding check header_at decoded smallest_code
file_is_sent = record { themselves = refl; numbers = refl; same = refl }

pub file_is_denied : ComeTo (sends_to denies_y) (flow 20)
    (done (talks 3 2 1 (Ended Done)) (talks 2 3 1 (Ended Done)) (owns 0 0 1 []) nothing_left)
unfolding check header_at decoded smallest_code
file_is_denied = record { themselves = refl; numbers = refl; same = refl }

pub file_is_put_off : ComeTo (sends_to puts_y_off) (flow 20)
    (done (talks 3 2 1 (Ended Done)) (talks 2 3 1 (Ended Done)) (owns 1 0 0 []) nothing_left)
unfolding check header_at decoded smallest_code
file_is_put_off = record { themselves = refl; numbers = refl; same = refl }

pub file_has_no_place : ComeTo (sends_to cannot_place_y) (flow 20)
    (done (talks 4 3 1 (Ended Done)) (talks 3 4 1 (Ended Done)) (owns 0 0 1 []) nothing_left)
unfolding check header_at decoded smallest_code
file_has_no_place = record { themselves = refl; numbers = refl; same = refl }

-- ---- the caller asks for a file

pub file_is_given : ComeTo (two_ends (request ∷ []) no_holdings [] (gives (file q []))) (flow 20)
    (done (talks 4 3 2 (Ended Done)) (talks 3 4 2 (Ended Done)) (owns 0 1 0 (file y [] ∷ [])) nothing_left)
unfolding check header_at decoded smallest_code
file_is_given = record { themselves = refl; numbers = refl; same = refl }

pub file_is_not_there : ComeTo (two_ends (request ∷ []) (gives (file x [])) [] no_holdings) (flow 20)
    (done (talks 3 2 1 (Ended Done)) (talks 2 3 1 (Ended Done)) (owns 0 0 1 []) nothing_left)
unfolding check header_at decoded smallest_code
file_is_not_there = record { themselves = refl; numbers = refl; same = refl }

-- ---- the called end sends a file: the roles are exchanged

pub roles_are_exchanged : ComeTo (two_ends [] no_holdings (send ∷ []) (gives (file x []))) (flow 20)
    (done (talks 4 5 1 (Ended Done)) (talks 5 4 2 (Ended Done)) (owns 0 0 0 (file y [] ∷ [])) (owns 0 1 0 []))
unfolding check header_at decoded smallest_code
roles_are_exchanged = record { themselves = refl; numbers = refl; same = refl }

-- the bytes come one by one
pub file_is_sent_byte_by_byte : ComeTo (sends_to no_holdings) (trickle 500)
    (done (talks 4 3 1 (Ended Done)) (talks 3 4 1 (Ended Done)) (owns 0 1 0 []) (owns 0 0 0 (file y [] ∷ [])))
unfolding check header_at decoded smallest_code
file_is_sent_byte_by_byte = record { themselves = refl; numbers = refl; same = refl }

-- ---- the called end announces size 32 and the caller size 64: the file goes out in messages of 32

abbrev forty_bytes : List ℕ
forty_bytes = replicate 40 7

pub size_is_the_others : ComeTo
    (record {
      at_caller = end_of_size 1 (codes "a") (send ∷ []) (gives (file x forty_bytes));
      at_called = end_of_size 0 (codes "b") [] no_holdings;
    })
    (flow 20)
    (done (talks 6 3 2 (Ended Done)) (talks 3 6 1 (Ended Done)) (owns 0 1 0 []) (owns 0 0 0 (file y forty_bytes ∷ [])))
unfolding check header_at decoded smallest_code
size_is_the_others = record { themselves = refl; numbers = refl; same = refl }

-- ---- what is written down of a session, with all its packets

abbrev the_send : List ℕ
the_send = text (codes "S x y u - D.0 0644")

abbrev caller_log : JournalState
caller_log = record {
  sent = the_send ∷ [] ∷ text (codes "H") ∷ text (codes "HY") ∷ [];
  taken = text (codes "SY") ∷ text (codes "CY") ∷ text (codes "HY") ∷ [];
  packets = control (init_a 2) ∷ control (init_b 0) ∷ control (init_c 2)
      ∷ carry 1 0 1 the_send
      ∷ control (rr 1) ∷ carry 2 1 1 []
      ∷ control (rr 2) ∷ carry 3 2 1 (text (codes "H"))
      ∷ control (rr 3) ∷ carry 4 3 1 (text (codes "HY")) ∷ control close ∷ [];
  arrivals = 0 ∷ 1 ∷ 2 ∷ 3 ∷ 4 ∷ 5 ∷ 6 ∷ 7 ∷ 8 ∷ 9 ∷ 10 ∷ [];
  passed = 11;
  most = 1;
}

abbrev called_log : JournalState
called_log = record {
  sent = text (codes "SY") ∷ text (codes "CY") ∷ text (codes "HY") ∷ [];
  taken = the_send ∷ [] ∷ text (codes "H") ∷ text (codes "HY") ∷ [];
  packets = control (init_a 2) ∷ control (init_b 0) ∷ control (init_c 2)
      ∷ control (rr 1) ∷ carry 1 1 1 (text (codes "SY"))
      ∷ control (rr 2) ∷ carry 2 2 1 (text (codes "CY"))
      ∷ control (rr 3) ∷ carry 3 3 1 (text (codes "HY"))
      ∷ control (rr 4) ∷ control close ∷ [];
  arrivals = 0 ∷ 1 ∷ 2 ∷ 3 ∷ 4 ∷ 5 ∷ 6 ∷ 7 ∷ 8 ∷ 9 ∷ 10 ∷ [];
  passed = 11;
  most = 1;
}

pub all_packets : Logs (sends_to no_holdings) (flow 20) caller_log called_log
unfolding check header_at decoded smallest_code
all_packets = record { themselves = refl; numbers = refl }
