-- Which packets are lost or changed on purpose (this project's profile).
use Rattle.std.specs.Prelude.{ℕ, ◌%◌, ◌==◌, ◌&&◌, nat_le, Bool, true, false, Option, Some, None}
use Rattle.uug_transfer.specs.declared.packet_fate.PacketFate.{PacketFate}
use Rattle.uug_transfer.specs.declared.packet_fate.PacketFate.TheVariants.{Goes, Lost, Changed}

-- the N of every Nth packet is from 2 to 1,000,000, or there is no N
abbrev pub is_in_range : (every : Option ℕ) → Bool
is_in_range None = true
is_in_range (Some n) = nat_le 2 n && nat_le n 1000000

-- whether there is an N, and the packet of this number is an Nth one
abbrev pub is_nth : (every : Option ℕ) → (number : ℕ) → Bool
is_nth None number = false
is_nth (Some n) number = (number % n) == 0

abbrev pub fate_by : (is_dropped is_flipped : Bool) → PacketFate
fate_by true _ = Lost
fate_by false true = Changed
fate_by false false = Goes

-- the fate of the packet of this number; if it is to be both lost and changed, it is lost
abbrev pub fate_of : (drop_every flip_every : Option ℕ) → (number : ℕ) → PacketFate
fate_of drop_every flip_every number = fate_by (is_nth drop_every number) (is_nth flip_every number)
