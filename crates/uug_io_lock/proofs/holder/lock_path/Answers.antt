use Rattle.std.proofs.Common.{◌∙◌, ap}
use Rattle.std.proofs.lemmas.Result.{IfOk-weaker}
use Rattle.uug_io_lock.specs.DeviceLocks.{lock_named}
use Rattle.uug_io_lock.proofs.holder.lock_path.Goals as goal

pub returns : goal.returns
returns g c =
    IfOk-weaker c.lock_named.result _ _ (λ path is. is ∙ ap (lock_named c.args.folder.now) c.device_name.ensures) c.lock_named.ensures
