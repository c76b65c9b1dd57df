use Rattle.std.proofs.Common.{ℕ, List, Option, Some, None, ap, arith}
use Rattle.std.specs.Option.{option_map_or}
use Rattle.uug_store.proofs.LastPlaceLemmas.{split_at_last}
use Rattle.uug_io_lock.specs.DeviceLocks.{slash}
use Rattle.uug_io_lock.proofs.holder.device_name.Goals as goal

pub returns-in-Some : goal.returns-in-Some
returns-in-Some c =
    ap (λ (o : Option (List ℕ × List ℕ)). option_map_or (λ parts. parts.1) o c.args.path.now)
    (split_at_last slash c.args.path.now (Some (c.in-Some.field-0-0, c.in-Some.name)) c.in-Some.ensures.cases (omega arith))

pub returns-in-None : goal.returns-in-None
returns-in-None c =
    ap (λ (o : Option (List ℕ × List ℕ)). option_map_or (λ parts. parts.1) o c.args.path.now)
    (split_at_last slash c.args.path.now None c.in-None.ensures.cases (omega arith))
