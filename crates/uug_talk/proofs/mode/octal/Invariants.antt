use Rattle.std.proofs.Common.{◌≡◌, ◌<◌, ◌+◌, take}
use Rattle.uug_talk.specs.declared.mode.TheConstants.{MODE_MAX}
use Rattle.uug_talk.specs.Mode.{mode_of}
use Rattle.uug_talk.proofs.mode.octal.Given as goal

abbrev pub invariant-loop-digit : goal.invariant-loop-digit
invariant-loop-digit l = (l.mode ≡ mode_of (take l.digit-index l.word)) × (l.mode < MODE_MAX + 1)
