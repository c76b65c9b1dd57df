use Rattle.std.proofs.Common.{◌≡◌, drop}
use Rattle.uug_talk.specs.Texts.{used_before, hear}
use Rattle.uug_talk.proofs.hail.Hail.listen.Given as goal

abbrev pub invariant-loop-used : goal.invariant-loop-used
invariant-loop-used l = hear l.initial.self l.piece ≡ used_before l.used (hear l.self (drop l.used l.piece))
