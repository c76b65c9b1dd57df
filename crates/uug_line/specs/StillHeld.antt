-- What the ends that a report lends still hold of the bytes that came to them (this project's profile).
use Rattle.std.specs.Prelude.{◌≡◌, ℕ, List, take}
use Rattle.uug_reader.specs.declared.reader.TheConstants.{READER_SIZE}
use Rattle.uug_conversation.specs.declared.side.Side.{Side}
use Rattle.uug_line.specs.declared.verdict.LineVerdict.TheVariants.{Clean}
use Rattle.uug_line.specs.Run.{Run, end_at}
use Rattle.uug_conversation.specs.Sides.{AtBoth, at}

pub record HoldWhatIsLeft {C : Type 0} (run : Run C) (held : AtBoth (List ℕ)) : Type 0 where
  -- what fits of the bytes that were not taken up: where the run is fooled, the packet that was not sent stands first
  pub fits : (side : Side) → at side held ≡ take READER_SIZE (end_at side run).held
  -- on a clean run all of them
  pub all : run.verdict ≡ Clean → (side : Side) → at side held ≡ (end_at side run).held
