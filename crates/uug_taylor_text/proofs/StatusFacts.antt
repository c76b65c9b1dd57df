-- Status files as they were found on a disk, so that a wrong definition does not check.
use Rattle.std.proofs.Common.{◌≡◌, ℕ, true, false, [], codes, Some, None, refl}
use Rattle.std.specs.Fmt.{digits}
use Rattle.uug_talk.specs.Lines.{ended}
use Rattle.uug_taylor_text.specs.StatusTexts.{is_due, status_failed, status_line, status_of}
use Rattle.uug_taylor_text.specs.declared.status.CallState.{CallState}
use Rattle.uug_taylor_text.specs.declared.status.CallState.TheVariants as states
use Rattle.uug_taylor_text.specs.declared.status.Status.{Status}

abbrev of : CallState → (tries time wait : ℕ) → Status
of state tries time wait = record { state = state; tries = tries; time = time; wait = wait }

record AreWritten : Type 0 where
  done : status_line (of states.Complete 0 1795658959 0) (codes "beta") ≡ ended (codes "0 0 1795658959 0 Conversation complete beta")
  port : status_line (of states.PortUnavailable 1 1795659271 600) (codes "beta") ≡ ended (codes "1 1 1795659271 600 Port unavailable beta")
  dial : status_line (of states.DialFailed 2 1795768492 1200) (codes "beta") ≡ ended (codes "2 2 1795768492 1200 Dial failed beta")
  login : status_line (of states.LoginFailed 1 1795659278 600) (codes "beta") ≡ ended (codes "3 1 1795659278 600 Login failed beta")
  handshake : status_line (of states.HandshakeFailed 1 1795659281 600) (codes "beta") ≡ ended (codes "4 1 1795659281 600 Handshake failed beta")
  call : status_line (of states.CallFailed 1 1795659106 600) (codes "beta") ≡ ended (codes "5 1 1795659106 600 Call failed beta")
  talking : status_line (of states.Talking 0 1795659003 0) (codes "beta") ≡ ended (codes "6 0 1795659003 0 Talking beta")
  time : status_line (of states.WrongTime 1 1795659293 0) (codes "beta") ≡ ended (codes "7 1 1795659293 0 Wrong time to call beta")

written : AreWritten
unfolding digits
written = record {
  done = refl;
  port = refl;
  dial = refl;
  login = refl;
  handshake = refl;
  call = refl;
  talking = refl;
  time = refl;
}

record AreRead : Type 0 where
  done : status_of (ended (codes "0 0 1795658959 0 Conversation complete beta")) ≡ Some (of states.Complete 0 1795658959 0)
  dial : status_of (codes "2 2 1795768492 1200 Dial failed beta") ≡ Some (of states.DialFailed 2 1795768492 1200)
  empty : status_of [] ≡ None
  other_state : status_of (codes "8 0 1 0 x beta") ≡ None
  two_digits : status_of (codes "00 0 1 0 x beta") ≡ None
  no_number : status_of (codes "0 -1 1 0 x beta") ≡ None
  short : status_of (codes "0 0 1") ≡ None

read : AreRead
read = record {
  done = refl;
  dial = refl;
  empty = refl;
  other_state = refl;
  two_digits = refl;
  no_number = refl;
  short = refl;
}

-- calls in a row that failed
record AreFailed : Type 0 where
  first : status_failed states.DialFailed None 5 ≡ of states.DialFailed 1 5 600
  second : status_failed states.DialFailed (Some (of states.DialFailed 1 5 600)) 9 ≡ of states.DialFailed 2 9 1200
  after_talking : status_failed states.CallFailed (Some (of states.Talking 0 5 0)) 9 ≡ of states.CallFailed 1 9 600
  wrong_time : status_failed states.WrongTime None 1795659293 ≡ of states.WrongTime 1 1795659293 0
  early : is_due (of states.DialFailed 1 5 600) 604 ≡ false
  due : is_due (of states.DialFailed 1 5 600) 605 ≡ true

failed : AreFailed
failed = record {
  first = refl;
  second = refl;
  after_talking = refl;
  wrong_time = refl;
  early = refl;
  due = refl;
}
