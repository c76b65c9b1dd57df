use Rattle.std.proofs.Common.{◌∙◌, ap, arith}
use Rattle.std.proofs.lemmas.Result.{IfOk-weaker}
use Rattle.uug_io_lock.proofs.LockTextLemmas.{text_is_read}
use Rattle.uug_io_lock.specs.DeviceLocks.{holder_in}
use Rattle.uug_io_lock.proofs.holder.lock_text.Goals as goal

pub returns-clause-read_back : goal.returns-clause-read_back
returns-clause-read_back g c some =
    IfOk-weaker c.written_text.result _ _
    (λ text is. ap holder_in is ∙ text_is_read c.args.process some (omega (arith, c.written_text.ensures.within))) c.written_text.ensures.text
