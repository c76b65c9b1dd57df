-- The field of a data packet. Taylor UUCP manual, UUCP 'g' Protocol; what is this project's own profile is said
-- beside it.
use Rattle.std.specs.Prelude.{◌≡◌, ℕ, ◌+◌, ◌-◌, ◌/◌, ◌%◌, ◌^◌, ◌≤◌, ◌==◌, nat_le, if◌then◌else◌, List, [], ◌∷◌, ◌++◌, length, replicate, ◌⊎◌}
use Rattle.uug_packet.specs.declared.field.FieldKind.{FieldKind}
use Rattle.uug_packet.specs.declared.field.FieldKind.TheVariants.{Long, Short}
use Rattle.uug_packet.specs.declared.field.TheConstants.{FIELD_CODE_MAX, ONE_BYTE_MAX}

-- the bytes of a field, by its code
abbrev pub field_size : ℕ → ℕ
field_size k = 2 ^ (k + 4)

abbrev pub IsFieldCode : ℕ → Type 0
IsFieldCode k = (1 ≤ k) × (k ≤ FIELD_CODE_MAX)

-- The front of a short field says how many of its bytes are missing from the message: one byte up to 127, or two
-- bytes of seven and eight bits for 2 and more (this project's profile).
abbrev pub SpellsMissing : ℕ → List ℕ → Type 0
SpellsMissing d front =
    ((1 ≤ d) × (d ≤ ONE_BYTE_MAX) × (front ≡ d ∷ []))
    ⊎ ((2 ≤ d) × (front ≡ (128 + d % 128) ∷ (d / 128) ∷ []))

-- how many bytes this front has, by the first of them
abbrev pub front_size : ℕ → ℕ
front_size first = if nat_le first ONE_BYTE_MAX then 1 else 2

-- a field that the message doesn't fill: its front, the message, and any bytes as padding
pub record HoldsShort (size : ℕ) (message field : List ℕ) : Type 0 where
  pub missing : ℕ
  pub front : List ℕ
  pub padding : List ℕ
  pub fewer : length message + missing ≡ size
  pub says : SpellsMissing missing front
  pub joined : field ≡ front ++ (message ++ padding)
  pub whole : length field ≡ size

-- the field of this size holds the message
abbrev pub Holds : FieldKind → ℕ → List ℕ → List ℕ → Type 0
Holds Long size message field = (length message ≡ size) × (field ≡ message)
Holds Short size message field = HoldsShort size message field

-- ---- as it is written: one byte where that can say it, and zeros as padding (this project's profile)

abbrev pub canonical_kind : ℕ → List ℕ → FieldKind
canonical_kind size message = if length message == size then Long else Short

abbrev pub canonical_front : ℕ → List ℕ
canonical_front missing =
    if missing == 0 then []
    else (if nat_le missing ONE_BYTE_MAX then missing ∷ []
    else (128 + missing % 128) ∷ (missing / 128) ∷ [])

abbrev pub canonical_field : ℕ → List ℕ → List ℕ
canonical_field size message =
    let front = canonical_front (size - length message) in
    front ++ (message ++ replicate (size - length message - length front) 0)
