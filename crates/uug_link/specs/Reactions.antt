-- What the program's values of a link mean.
use Rattle.std.specs.Prelude.{ℕ, ◌+◌, ◌%◌, option_map, List, [], drop}
use Rattle.uug_link.specs.declared.outcome.Reply.{Reply}
use Rattle.uug_link.specs.declared.outcome.Reply.TheVariants as replies
use Rattle.uug_link.specs.declared.reaction.Emits.{Emits}
use Rattle.uug_link.specs.declared.reaction.Emits.TheVariants as emits
use Rattle.uug_link.specs.declared.reaction.Reaction.{Reaction}
use Rattle.uug_link.specs.declared.status.Status.{Status}
use Rattle.uug_link.specs.Announced.{announced}
use Rattle.uug_link.specs.State.{State}
use Rattle.uug_link.specs.Step.{Effect, Emission, only, outstanding, selected, OutcomeValue, nothing, up, taken, closed, gave_up, halted}
use Rattle.uug_packet.specs.Number.{number_of}
use Rattle.uug_packet.specs.Packet.{shown_control}

-- a link, by its status and the messages that were sent and not acknowledged
abbrev pub state_of : Status → List (List ℕ) → State
state_of s unacked = record {
  role = s.role;
  phase = s.phase;
  own = announced s.own;
  window = number_of s.window;
  size_code = number_of s.size_code;
  unacked = unacked;
  oldest = number_of s.oldest;
  expected = (number_of s.received + 1) % 8;
  reject_left = s.reject_left;
  passed = option_map number_of s.passed;
  timeouts = s.timeouts.count;
}

abbrev pub reply_of : Reply → OutcomeValue
reply_of replies.Nothing = nothing
reply_of replies.Up = up
reply_of replies.Taken = taken
reply_of replies.Closed = closed
reply_of replies.GaveUp = gave_up
reply_of replies.Halted = halted

-- what goes out, of the link as it is then
abbrev pub emitted_of : Emits → State → List Emission
emitted_of emits.Nothing s = []
emitted_of (emits.Control c) s = only (shown_control c)
emitted_of emits.Outstanding s = outstanding s
emitted_of (emits.Selected y) s = selected (number_of y) s

-- what a reaction is on a link that keeps these messages
abbrev pub effect_of : Reaction → List (List ℕ) → Effect
effect_of r unacked =
    let after = state_of r.status (drop r.strikes unacked) in
    record { state = after; emitted = emitted_of r.emits after; outcome = reply_of r.reply }
