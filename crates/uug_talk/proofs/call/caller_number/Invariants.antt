use Rattle.std.proofs.Common.{◌≡◌, length}
use Rattle.uug_talk.specs.Call.{number_in_call, first_told}
use Rattle.uug_talk.specs.Words.{words}
use Rattle.uug_talk.proofs.call.caller_number.Given as goal

abbrev pub invariant-loop-word : goal.invariant-loop-word
invariant-loop-word l = number_in_call l.fn.text ≡ first_told (words l.rest)

abbrev pub decreases-loop-word : goal.decreases-loop-word
decreases-loop-word l = length (words l.rest)
