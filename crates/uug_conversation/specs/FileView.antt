-- What a file shows that a spool lends (this project's profile).
use Rattle.std.specs.Prelude.{Option, Some, None}
use Rattle.uug_conversation.specs.declared.spool.FileView.{FileView}
use Rattle.uug_conversation.specs.Holdings.{File}

abbrev pub shown_file : Option FileView → Option File
shown_file None = None
shown_file (Some f) = Some (record { mode = f.mode; bytes = f.bytes.now })
