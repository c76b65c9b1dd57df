-- What a `Hail` shows of its fields.
use Rattle.std.specs.Prelude.{ℕ, List}
use Rattle.uug_talk.specs.declared.hail.Stage.{Stage}
use Rattle.uug_talk.specs.declared.hail.Stage.TheVariants as stage
use Rattle.uug_talk.specs.Texts.{Heard, Passing, Open, Whole}

abbrev pub heard_of : Stage → List ℕ → Heard
heard_of stage.Passing text = Passing
heard_of stage.Open text = Open text
heard_of stage.Whole text = Whole text
