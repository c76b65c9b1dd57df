-- Spools whose files hold bytes (this project's profile).
use Rattle.std.specs.Prelude.{◌≡◌, ℕ, List, Some}
use Rattle.uug_packet.specs.Bytes.{AreBytes}
use Rattle.uug_conversation.specs.Holdings.{File, Holdings}

abbrev pub HoldsBytes : Holdings → Type 0
HoldsBytes h = (name : List ℕ) (file : File) → h.file name ≡ Some file → AreBytes file.bytes
