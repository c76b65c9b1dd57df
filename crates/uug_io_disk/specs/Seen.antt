-- Defines how a held file is shown, by the first bytes of the text that holds it (this project's profile).
use Rattle.std.specs.Prelude.{◌-◌, ℕ, length, Option, Some, None}
use Rattle.uug_conversation.specs.Partial.{Partial}
use Rattle.uug_io_disk.specs.declared.seen_files.HeldFile.{HeldFile}
use Rattle.uug_io_disk.specs.declared.seen_files.SeenFile.{SeenFile}

-- the held size leaves out the line before the bytes; `front` is the number of first bytes that were read of the text
abbrev pub held_by : (front : ℕ) → Option Partial → (text : SeenFile) → Option HeldFile
held_by front None text = None
held_by front (Some p) text = Some (record {
  name = p.key.source;
  whole = p.key.told.size;
  held = record { size = text.size - (front - length p.bytes); age = text.age };
})
