use Rattle.std.proofs.Common.{ap, map}
use Rattle.std.specs.declared.snapshot.Snapshot.{Snapshot}
use Rattle.uug_store.specs.declared.kept_file.KeptFile.{KeptFile}
use Rattle.uug_store.specs.KeptFiles.{shown_kept}
use Rattle.uug_store.proofs.FolderLemmas.{none_is_placed}
use Rattle.uug_store.proofs.folder_spool.FolderSpool.new.Goals as goal

pub invariant_of-result : goal.invariant_of-result
invariant_of-result g c =
    none_is_placed (map (λ (f : Snapshot (KeptFile _)). shown_kept f.value) c.new.result.items) (g.F.Folder.placed c.args.folder)
    (ap (map (λ (f : Snapshot (KeptFile _)). shown_kept f.value)) c.new.ensures.items)
