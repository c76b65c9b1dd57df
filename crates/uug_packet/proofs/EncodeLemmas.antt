-- What `encode` writes is a spelling.
use Rattle.std.proofs.Common.{◌≡◌, ℕ, List, ◌++◌, length, take, drop, refl, arith}
use Rattle.std.proofs.Math.Seq.{take-append_seam}
use Rattle.uug_packet.specs.declared.control.Control.TheVariants.{Close, Rj, Srj, Rr, InitC, InitB, InitA}
use Rattle.uug_packet.specs.declared.packet.Packet.{Packet}
use Rattle.uug_packet.specs.declared.packet.Packet.TheVariants.{Control, Carry}
use Rattle.uug_packet.specs.Number.{number_of}
use Rattle.uug_packet.specs.Packet.{shown}
use Rattle.uug_packet.specs.Spelling.{IsSpelling, IsWritable, canonical}
use Rattle.uug_packet.proofs.DecodedLemmas.{spells-written}

-- a slice that was written whole is what was written
pub refill_whole : (xs ws : List ℕ) → length ws ≡ length xs → take (length xs) (ws ++ drop (length ws) xs) ≡ ws
refill_whole xs ws same = rw (← same) (take-append_seam ws (drop (length ws) xs))

-- the numbers of a packet of the program are below eight
pub IsSpelling-shown : (p : Packet) → IsWritable (shown p) → IsSpelling (shown p) (canonical (shown p))
IsSpelling-shown (Control Close) h = (8, (0, omega arith, refl), refl)
IsSpelling-shown (Control (Rj y)) h = (_, (y.below, refl), refl)
IsSpelling-shown (Control (Srj y)) h = (_, (y.below, refl), refl)
IsSpelling-shown (Control (Rr y)) h = (_, (y.below, refl), refl)
IsSpelling-shown (Control (InitC y)) h = (_, (y.below, refl), refl)
IsSpelling-shown (Control (InitB y)) h = (_, (y.below, refl), refl)
IsSpelling-shown (Control (InitA y)) h = (_, (y.below, refl), refl)
IsSpelling-shown (Carry seq ack k message) h =
    spells-written (number_of seq) (number_of ack) k message.now h.0 seq.below ack.below h.1
