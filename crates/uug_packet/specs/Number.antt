-- What a `Seq` holds.
use Rattle.std.specs.Prelude.{ℕ}
use Rattle.uug_packet.specs.declared.number.Seq.{Seq}

abbrev pub number_of : Seq → ℕ
number_of seq = seq.value
