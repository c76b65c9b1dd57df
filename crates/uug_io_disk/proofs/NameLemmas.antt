-- A name is a text.
use Rattle.std.proofs.Common.{ℕ, ◌<◌, List, arith}
use Rattle.std.proofs.lemmas.List.Elements.{All-weaker}
use Rattle.std.proofs.lemmas.Str.{IsUtf8-from_ascii}
use Rattle.std.proofs.lemmas.Str.Ascii.{IsAscii-from_all}
use Rattle.std.specs.Str.{IsUtf8}
use Rattle.uug_talk.specs.Name.{IsName, IsNameByte}

below_ascii : (b : ℕ) → IsNameByte b → b < 128
below_ascii b h = omega (arith, h.1)

pub name_is_text : (bytes : List ℕ) → IsName bytes → IsUtf8 bytes
name_is_text bytes h = IsUtf8-from_ascii bytes (IsAscii-from_all bytes (All-weaker IsNameByte (λ b. b < 128) below_ascii bytes h.printing))
