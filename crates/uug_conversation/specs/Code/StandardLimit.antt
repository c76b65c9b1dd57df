-- The limit of files that stands where no other is said is one that can be kept.
use Rattle.std.proofs.Common.{arith}
use Rattle.uug_conversation.specs.Holdings.{IsLimit}
use Rattle.uug_talk.specs.declared.gather.TheConstants.{FILE_MAX}

pub standard_limit : IsLimit FILE_MAX
standard_limit = record { some = omega arith; fits = omega arith }
