-- The field in which a message goes out. Fields and their codes are of the Taylor UUCP manual, UUCP 'g' Protocol; that it
-- is the smallest is this project's profile.
use Rattle.std.specs.Prelude.{◌≡◌, ℕ, ◌*◌, ◌<◌, ◌≤◌, ◌⊎◌, List, [], ◌∷◌, length, ⊤}
use Rattle.uug_link.specs.declared.limits.TheConstants.{SIZE_MIN}
use Rattle.uug_link.specs.Step.{Emission}
use Rattle.uug_packet.specs.Field.{IsFieldCode, field_size}
use Rattle.uug_packet.specs.Packet.{PacketValue, control, carry}

-- The field of that code is the smallest for the message: none that is smaller holds it. So it has less than twice the
-- message's bytes, or is the smallest of all.
pub record IsSmallestFor (message : List ℕ) (k : ℕ) : Type 0 where
  pub code : IsFieldCode k
  pub least : (smaller : ℕ) → 1 ≤ smaller → smaller < k → field_size smaller < length message
  pub saves : (field_size k < 2 * length message) ⊎ (field_size k ≡ SIZE_MIN)

abbrev pub HasSmallestField : PacketValue → Type 0
HasSmallestField (control c) = ⊤
HasSmallestField (carry seq ack k message) = IsSmallestFor message k

-- each data packet among these has the smallest field for its message
abbrev pub HaveSmallestFields : List Emission → Type 0
HaveSmallestFields [] = ⊤
HaveSmallestFields (e ∷ es) = HasSmallestField e.packet × HaveSmallestFields es
