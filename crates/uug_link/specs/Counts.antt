-- The numbers of two links as counts: what stands in a link modulo eight are places among all messages that were sent.
-- Taylor UUCP manual, UUCP 'g' Protocol.
use Rattle.std.specs.Prelude.{◌≡◌, ℕ, ◌+◌, ◌%◌, ◌≤◌, All, length}
use Rattle.uug_link.specs.Announced.{Announced}
use Rattle.uug_link.specs.InRange.{IsAnnouncement}
use Rattle.uug_link.specs.Step.{next_number}
use Rattle.uug_link.specs.TwoLinks.{End, Ends, IsRun}
use Rattle.uug_packet.specs.WellFormed.{IsWellFormed}

-- Of the messages from one end to the other: what counts as acknowledged was taken, what was taken was sent, and no more
-- is sent than the window allows; and the numbers of both links tell these counts.
pub record AreCounted (from to : End) (window : ℕ) : Type 0 where
  pub acked : ℕ
  pub were_taken : acked ≤ length to.taken
  pub were_sent : length to.taken ≤ length from.sent
  pub few : length from.sent ≤ acked + window
  -- the first message has the number 1
  pub oldest : from.link.oldest ≡ (acked + 1) % 8
  pub next : next_number from.link ≡ (length from.sent + 1) % 8
  pub expected : to.link.expected ≡ (length to.taken + 1) % 8

-- what holds of all packets that an end has emitted in a run, where both have made right announcements
abbrev pub AlwaysEmits : (End → Type 0) → Type 0
AlwaysEmits P = (near far : Announced) (p : Ends) → IsAnnouncement near → IsAnnouncement far → IsRun near far p →
    P p.near × P p.far

-- each packet that the end has emitted can be written, and so is read again as what it is
abbrev pub CanBeWritten : End → Type 0
CanBeWritten e = All IsWellFormed e.emitted
