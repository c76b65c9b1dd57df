-- The files that a spool over a disk has kept, as clauses see them (this project's profile).
use Rattle.std.specs.Prelude.{map}
use Rattle.uug_conversation.specs.Holdings.{Kept}
use Rattle.uug_store.specs.declared.kept_file.KeptFile.{KeptFile}

abbrev pub shown_kept : {A : Type 0} → KeptFile A → Kept
shown_kept f = record { name = f.name; mode = f.mode; bytes = map (λ b. b.value) f.bytes.items }
