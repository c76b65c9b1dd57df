use Rattle.std.proofs.Common.{refl}
use Rattle.uug_taylor_text.specs.SpoolNames.{spot}
use Rattle.uug_taylor_text.specs.declared.spool_names.Room.TheVariants as rooms
use Rattle.uug_taylor_text.proofs.ReplacedLemmas.{before_or_replaced}
use Rattle.uug_taylor_queue.proofs.laws.what_is_written_anew_is_whole.Goals as goal

pub returns : goal.returns
returns c = λ file text s. before_or_replaced (spot rooms.Commands file) text s refl
