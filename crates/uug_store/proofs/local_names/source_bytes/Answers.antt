use Rattle.std.proofs.Common.{◌≡◌, Some, rules, subst, false}
use Rattle.uug_store.specs.LocalNames.{local_source}
use Rattle.uug_store.proofs.LocalLemmas.{source_is}
use Rattle.uug_store.proofs.local_names.source_bytes.Goals as goal

pub returns : goal.returns
returns c =
    let local = c.behind_root-local.result.now in
    subst (λ name. local_source name ≡ Some local) c.as_bytes.ensures.value
    (source_is c.as_bytes.result.now local false c.as_bytes.ensures.name c.behind_root-local.ensures (search rules) (search rules))
