use Rattle.std.proofs.Common.{rules, map}
use Rattle.std.specs.declared.snapshot.Snapshot.{Snapshot}
use Rattle.uug_store.specs.declared.kept_file.KeptFile.{KeptFile}
use Rattle.uug_store.specs.KeptFiles.{shown_kept}
use Rattle.uug_conversation.specs.Holdings.{kept_file}
use Rattle.uug_store.proofs.FolderLemmas.{kept_is_placed}
use Rattle.uug_store.proofs.folder_spool.put_and_store.Goals as goal

pub returns-clause-ends : goal.returns-clause-ends
returns-clause-ends g c =
    kept_is_placed (map (λ (f : Snapshot (KeptFile _)). shown_kept f.value) c.args.stored.now.items)
    (map (λ (f : Snapshot (KeptFile _)). shown_kept f.value) c.push_kept.new.kept.items)
    (kept_file c.args.name.now c.args.mode c.args.bytes.now)
    (g.F.Folder.placed c.args.folder.now) (g.F.Folder.placed c.put.new.self)
    c.requires.ends (search rules) (search rules)
