-- The operations and notices that a spool in memory reports.
use Rattle.std.specs.Prelude.{ℕ, List, map}
use Rattle.uug_taylor_text.specs.Operations.{Op, folder_synced, made, renamed, synced, unlinked}
use Rattle.uug_taylor_text.specs.declared.memory_disk.MemoryDisk.{MemoryDisk}
use Rattle.uug_taylor_text.specs.declared.memory_disk.Operation.{Operation}
use Rattle.uug_taylor_text.specs.declared.memory_disk.Operation.TheVariants as operations

abbrev pub op_of : {A : Type 0} → Operation A → Op
op_of (operations.Made spot bytes) = made spot bytes.items
op_of (operations.Synced spot) = synced spot
op_of (operations.Renamed from to) = renamed from to
op_of (operations.Unlinked spot) = unlinked spot
op_of (operations.FolderSynced room) = folder_synced room

abbrev pub ops_of : {A : Type 0} → MemoryDisk A → List Op
ops_of disk = map op_of disk.operations.items

abbrev pub told_of : {A : Type 0} → MemoryDisk A → List ℕ
told_of disk = disk.told.items
