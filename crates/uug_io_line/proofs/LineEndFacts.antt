-- What becomes of a line whose other end is gone, so that a wrong definition does not check.
use Rattle.std.proofs.Common.{◌≡◌, true, false, Ok, Err, refl}
use Rattle.uug_io_line.specs.LineEnds.{outcome_then, taken_then}
use Rattle.uug_error.specs.declared.failure.Cause.{Cause}
use Rattle.uug_transfer.specs.declared.read_outcome.ReadOutcome.TheVariants.{Bytes, TimedOut, Eof}

record AreEnds (reset : Cause) : Type 0 where
  a_read_is_reset : outcome_then false (Err reset) ≡ Eof
  a_read_is_reset_behind_a_broken_write : outcome_then true (Err reset) ≡ Eof
  a_broken_write : taken_then 100 (Err reset) ≡ 100
  its_last_words : outcome_then true (Ok (Bytes 20)) ≡ Bytes 20
  nothing_behind_them : outcome_then true (Ok TimedOut) ≡ Eof
  a_silence : outcome_then false (Ok TimedOut) ≡ TimedOut

ends : (reset : Cause) → AreEnds reset
ends reset = record {
  a_read_is_reset = refl;
  a_read_is_reset_behind_a_broken_write = refl;
  a_broken_write = refl;
  its_last_words = refl;
  nothing_behind_them = refl;
  a_silence = refl;
}
