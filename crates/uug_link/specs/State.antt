-- The state of one end's link. Taylor UUCP manual, UUCP 'g' Protocol; the phases, what is kept of a reject, the
-- closing phase and the count of timeouts are this project's profile.
use Rattle.std.specs.Prelude.{◌≡◌, ℕ, suc, ◌<◌, ◌≤◌, Bool, true, false, Option, None, IfSome, List, [], length, All, ⊤}
use Rattle.uug_link.specs.declared.phase.Phase.{Phase}
use Rattle.uug_link.specs.declared.phase.Phase.TheVariants.{Fresh, AwaitsInitA, AwaitsInitB, AwaitsInitC, Up, Closing, Halted}
use Rattle.uug_link.specs.declared.phase.Role.{Role}
use Rattle.uug_link.specs.declared.phase.Role.TheVariants.{Caller, Called}
use Rattle.uug_link.specs.Announced.{Announced}
use Rattle.uug_link.specs.Terms.{size_of_code}

pub record State : Type 0 where
  pub role : Role
  pub phase : Phase
  -- what the other end shall use
  pub own : Announced
  -- what the other end wants: the window of its INITA, and from its INITC on the smaller of both; and the code of the
  -- size in its INITB; each is 0 until a packet has told it
  pub window : ℕ
  pub size_code : ℕ
  -- the messages that were sent and not acknowledged, oldest first, and the number of the oldest (of the next to be
  -- sent, where there is none)
  pub unacked : List (List ℕ)
  pub oldest : ℕ
  -- the number of the data packet that is to be taken next
  pub expected : ℕ
  -- 0 where no reject has gone out for the expected packet; of an end that is quiet on repeats, how many packets it has
  -- still to take until the other end's repeats are surely over
  pub reject_left : ℕ
  -- the number of the data packet out of order that came last, if one came since the last that was taken; of an end that
  -- is quiet on repeats
  pub passed : Option ℕ
  -- the timeouts in a row without progress
  pub timeouts : ℕ

-- before anything has come; data packets are numbered from 1 in both directions
abbrev pub first_state : Role → Phase → Announced → State
first_state role phase own = record {
  role = role;
  phase = phase;
  own = own;
  window = 0;
  size_code = 0;
  unacked = [];
  oldest = 1;
  expected = 1;
  reject_left = 0;
  passed = None;
  timeouts = 0;
}

abbrev pub caller_state : Announced → State
caller_state own = first_state Caller Fresh own

abbrev pub called_state : Announced → State
called_state own = first_state Called AwaitsInitA own

-- a caller's link on which `begin` has not answered Ok, and which has not ended
abbrev pub IsFresh : State → Type 0
IsFresh s = s.phase ≡ Fresh

abbrev pub IsUp : State → Type 0
IsUp s = s.phase ≡ Up

-- this end has closed the link and waits for the other's CLOSE
abbrev pub IsClosing : State → Type 0
IsClosing s = s.phase ≡ Closing

-- whether the link has not come up
abbrev pub IsStarting : Phase → Type 0
IsStarting Up = ⊥
IsStarting Closing = ⊥
IsStarting Halted = ⊥
IsStarting _ = ⊤

-- whether the other end's INITA has told a window, and its INITB a size (of a link that has ended, nobody asks)
abbrev pub KnowsWindow : Phase → Type 0
KnowsWindow AwaitsInitB = ⊤
KnowsWindow AwaitsInitC = ⊤
KnowsWindow Up = ⊤
KnowsWindow Closing = ⊤
KnowsWindow _ = ⊥

abbrev pub KnowsSize : Phase → Type 0
KnowsSize AwaitsInitC = ⊤
KnowsSize Up = ⊤
KnowsSize Closing = ⊤
KnowsSize _ = ⊥

-- the message fits a field of the size of that code
abbrev pub Fits : ℕ → List ℕ → Type 0
Fits size_code message = length message ≤ size_of_code size_code

-- What every link keeps to: no more messages are outstanding than the other end's window lets, each fits the other
-- end's size, and before the link is up there is none; a window that was told lets at least one be so.
pub record IsSound (s : State) : Type 0 where
  pub within : length s.unacked ≤ s.window
  pub fit : All (Fits s.size_code) s.unacked
  pub none_before : IsStarting s.phase → s.unacked ≡ []
  pub some : KnowsWindow s.phase → 1 ≤ s.window

-- what every link keeps of rejects: at most one more than the window that it has announced, and a number of a packet
pub record KeepsRejects (s : State) : Type 0 where
  pub reject_left : s.reject_left ≤ suc s.own.window
  pub passed : IfSome s.passed (λ number. number < 8)

-- the link is quiet on repeats, or is not
abbrev pub IsQuiet : State → Type 0
IsQuiet s = s.own.quiet ≡ true

abbrev pub IsPlain : State → Type 0
IsPlain s = s.own.quiet ≡ false

-- one more message may go out
abbrev pub HasRoom : State → Type 0
HasRoom s = IsUp s × (length s.unacked < s.window)

-- the link has ended
abbrev pub is_halted : Phase → Bool
is_halted Halted = true
is_halted _ = false
