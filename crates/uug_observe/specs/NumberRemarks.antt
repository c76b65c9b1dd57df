-- Spells the remark on two ends whose conversation numbers differ (this project's profile).
use Rattle.std.specs.Fmt.{decimal}
use Rattle.std.specs.Prelude.{ℕ, List, [], ◌++◌, codes, Option, Some, None}
use Rattle.uug_session.specs.declared.end.End.TheVariants.{BadSequence}
use Rattle.uug_session.specs.declared.phase.Phase.{Phase}
use Rattle.uug_session.specs.declared.phase.Phase.TheVariants.{Ended}
use Rattle.uug_talk.specs.Lines.{ended}

abbrev pub own_words : Option ℕ → List ℕ
own_words None = codes "this end keeps no number"
own_words (Some number) = codes "the number of this end is " ++ decimal number

abbrev pub mending_words : List ℕ
mending_words = codes " (write the same number to both number files, or remove both, while neither end runs)"

abbrev pub heard_words : Option ℕ → List ℕ
heard_words None = mending_words
heard_words (Some number) = codes ", that of the other end " ++ (decimal number ++ mending_words)

-- the number of this end, that of the other one if it was heard, and what to do, as a line
abbrev pub numbers_line : (own heard : Option ℕ) → List ℕ
numbers_line own heard = codes "uucpair: " ++ (own_words own ++ ended (heard_words heard))

-- that line, if the session ended because the numbers differ
abbrev pub numbers_remark : Phase → (own heard : Option ℕ) → List ℕ
numbers_remark (Ended BadSequence) own heard = numbers_line own heard
numbers_remark phase own heard = []
