-- What an iterator over the messages shows of its fields.
use Rattle.std.specs.Prelude.{ℕ, List, []}
use Rattle.uug_talk.specs.declared.chunks.Chunks.{Chunks}
use Rattle.uug_talk.specs.declared.chunks.Ending.{Ending}
use Rattle.uug_talk.specs.declared.chunks.Ending.TheVariants.{Zeros, Empty, Given}
use Rattle.uug_talk.specs.Chunks.{Measure, command_messages, file_messages}

-- what an iterator has still to give
abbrev pub left_by : Ending → Measure → List ℕ → List (List ℕ)
left_by Zeros m rest = command_messages m rest
left_by Empty m rest = file_messages m.size rest
left_by Given m rest = []

abbrev pub measure_of : Chunks → Measure
measure_of chunks = record { size = chunks.size; short = chunks.short }

abbrev pub messages_left : Chunks → List (List ℕ)
messages_left chunks = left_by chunks.ending (measure_of chunks) chunks.rest.now
