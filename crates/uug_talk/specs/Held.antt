-- What a `Gather` shows of its fields.
use Rattle.std.specs.Prelude.{Bool}
use Rattle.uug_talk.specs.declared.gather.Held.{Held}
use Rattle.uug_talk.specs.declared.gather.Held.TheVariants.{Command, File}
use Rattle.uug_talk.specs.Gathering.{Gathering, OfCommand, OfFile}

abbrev pub gathering_of : {A : Type 0} → Held A → Bool → Gathering
gathering_of (Command text) whole = record { kind = OfCommand; bytes = text.items; whole = whole }
gathering_of (File bytes limit) whole = record { kind = OfFile limit; bytes = bytes.items; whole = whole }
