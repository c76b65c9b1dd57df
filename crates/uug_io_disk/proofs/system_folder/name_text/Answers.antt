use Rattle.uug_io_disk.proofs.NameLemmas.{name_is_text}
use Rattle.uug_io_disk.proofs.system_folder.name_text.Goals as goal

pub unreachable-requires : goal.unreachable-requires
unreachable-requires c = c.in_default.ensures.cases.0 (name_is_text _ c.as_bytes.ensures.name)
