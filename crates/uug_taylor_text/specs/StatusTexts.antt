-- The result of the last call with a system, as in its status file (as Taylor UUCP 1.07 writes it; that words after the
-- first four are skipped is this project's profile).
use Rattle.std.specs.Prelude.{◌==◌, ◌≤◌, ℕ, ◌+◌, ◌*◌, Bool, List, [], ◌∷◌, ◌++◌, codes, nat_le, Option, Some, None, if◌then◌else◌}
use Rattle.std.specs.Fmt.{decimal}
use Rattle.uug_talk.specs.Number.{number_of}
use Rattle.uug_talk.specs.Words.{words}
use Rattle.uug_talk.specs.declared.call.TheConstants.{NUMBER_MAX}
use Rattle.uug_taylor_text.specs.declared.status.CallState.{CallState}
use Rattle.uug_taylor_text.specs.declared.status.CallState.TheVariants as states
use Rattle.uug_taylor_text.specs.declared.status.Status.{Status}

-- ---- its text

abbrev pub state_digit : CallState → ℕ
state_digit states.Complete = 48
state_digit states.PortUnavailable = 49
state_digit states.DialFailed = 50
state_digit states.LoginFailed = 51
state_digit states.HandshakeFailed = 52
state_digit states.CallFailed = 53
state_digit states.Talking = 54
state_digit states.WrongTime = 55

abbrev pub state_text : CallState → List ℕ
state_text states.Complete = codes "Conversation complete"
state_text states.PortUnavailable = codes "Port unavailable"
state_text states.DialFailed = codes "Dial failed"
state_text states.LoginFailed = codes "Login failed"
state_text states.HandshakeFailed = codes "Handshake failed"
state_text states.CallFailed = codes "Call failed"
state_text states.Talking = codes "Talking"
state_text states.WrongTime = codes "Wrong time to call"

-- CODE TRIES TIME WAIT TEXT SYSTEM
abbrev pub status_line : Status → (system : List ℕ) → List ℕ
status_line s system =
    state_digit s.state ∷ 32 ∷ decimal s.tries ++ 32 ∷ decimal s.time ++ 32 ∷ decimal s.wait
    ++ 32 ∷ state_text s.state ++ 32 ∷ system ++ 10 ∷ []

-- ---- reading it

abbrev pub state_by : (digit : ℕ) → Option CallState
state_by digit =
    if digit == 48 then Some states.Complete else
    (if digit == 49 then Some states.PortUnavailable else
    (if digit == 50 then Some states.DialFailed else
    (if digit == 51 then Some states.LoginFailed else
    (if digit == 52 then Some states.HandshakeFailed else
    (if digit == 53 then Some states.CallFailed else
    (if digit == 54 then Some states.Talking else
    (if digit == 55 then Some states.WrongTime else None)))))))

-- the state of a word of one digit
abbrev pub state_of : List ℕ → Option CallState
state_of (digit ∷ []) = state_by digit
state_of _ = None

abbrev pub status_by : Option CallState → (tries time wait : Option ℕ) → Option Status
status_by (Some state) (Some tries) (Some time) (Some wait) =
    Some (record { state = state; tries = tries; time = time; wait = wait })
status_by _ _ _ _ = None

abbrev pub status_of_words : List (List ℕ) → Option Status
status_of_words (code ∷ tries ∷ time ∷ wait ∷ more) =
    status_by (state_of code) (number_of NUMBER_MAX tries) (number_of NUMBER_MAX time) (number_of NUMBER_MAX wait)
status_of_words _ = None

abbrev pub status_of : List ℕ → Option Status
status_of text = status_of_words (words text)

-- its numbers are in range
pub record IsStatus (s : Status) : Type 0 where
  pub tries : s.tries ≤ NUMBER_MAX
  pub time : s.time ≤ NUMBER_MAX
  pub wait : s.wait ≤ NUMBER_MAX

-- ---- the next call

abbrev pub capped : ℕ → ℕ
capped n = if nat_le n NUMBER_MAX then n else NUMBER_MAX

abbrev pub tries_of : Option Status → ℕ
tries_of None = 0
tries_of (Some s) = s.tries

-- the wait is ten minutes for each failed call in a row, or none if it was the wrong time to call
abbrev pub wait_after : CallState → (tries : ℕ) → ℕ
wait_after states.WrongTime tries = 0
wait_after _ tries = capped (600 * tries)

abbrev pub status_with : CallState → (tries time : ℕ) → Status
status_with state tries time = record { state = state; tries = tries; time = time; wait = wait_after state tries }

abbrev pub status_failed : CallState → (before : Option Status) → (time : ℕ) → Status
status_failed state before time = status_with state (capped (tries_of before + 1)) time

-- the time to wait is over
abbrev pub is_due : Status → (now : ℕ) → Bool
is_due s now = nat_le (s.time + s.wait) now
