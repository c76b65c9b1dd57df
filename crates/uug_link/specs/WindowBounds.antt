-- What bounds a direction of the window machine after every run, said of it and of the opposite one. Taylor UUCP manual,
-- UUCP 'g' Protocol.
use Rattle.std.specs.Prelude.{ℕ, ◌+◌, ◌<◌, ◌≤◌, length}
use Rattle.uug_link.specs.WindowMachine.{Direction, EachNumber, Rise}
use Rattle.uug_link.specs.declared.limits.TheConstants.{WINDOW_MAX}

-- what counts as acknowledged was taken, what was taken was sent, and no more is sent than the window allows
abbrev pub CountsInOrder : Direction → Type 0
CountsInOrder d = (d.acked ≤ d.taken) × (d.taken ≤ length d.sent) × (length d.sent ≤ d.acked + d.window)

-- the data packets in flight were sent, and are from seven before the one that is expected to six after it
abbrev pub IsNear : Direction → ℕ → Type 0
IsNear d n = (n < length d.sent) × (n < d.taken + WINDOW_MAX) × (d.taken ≤ n + WINDOW_MAX)

abbrev pub NumbersNear : Direction → Type 0
NumbersNear d = EachNumber (IsNear d) d.flight

-- the acknowledgements in flight, which are of the opposite direction, never fall, and lie from what counts as acknowledged
-- there to what was taken
abbrev pub AcksRise : (d opposite : Direction) → Type 0
AcksRise d opposite = Rise opposite.acked d.flight opposite.taken

pub record IsWithinBounds (d opposite : Direction) : Type 0 where
  pub counts : CountsInOrder d
  pub numbers : NumbersNear d
  pub acks : AcksRise d opposite
