use Rattle.std.proofs.Common.{◌≡◌, ◌++◌, length}
use Rattle.uug_talk.specs.Words.{words}
use Rattle.uug_taylor_text.specs.ExecutionTexts.{spaced}
use Rattle.uug_taylor_text.proofs.execution.add_words.Given as goal

-- what was appended, and the words that are left, are all the words
abbrev pub invariant-loop-word : goal.invariant-loop-word
invariant-loop-word g l = l.text.items ++ spaced (words l.rest) ≡ l.fn.text.items ++ spaced (words l.fn.command)

abbrev pub decreases-loop-word : goal.decreases-loop-word
decreases-loop-word g l = length (words l.rest)
