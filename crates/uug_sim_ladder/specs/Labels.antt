-- What occurs at an end, in words (this project's profile).
use Rattle.std.specs.Prelude.{ℕ, ◌-◌, ◌==◌, ◌&&◌, ◌||◌, not, Bool, true, false, List, [], ◌∷◌, ◌++◌, codes, drop, length, take, Result, Ok, Err}
use Rattle.std.specs.Char.{is_ascii_graphic}
use Rattle.std.specs.Fmt.{decimal}
use Rattle.uug_packet.specs.Decoded.{decoded}
use Rattle.uug_packet.specs.Packet.{PacketValue, control, carry}
use Rattle.uug_packet.specs.declared.decoding.NoPacket.{NoPacket}
use Rattle.uug_session.specs.PhaseWords.{phase_word}
use Rattle.uug_scan.specs.Listing.{control_text}
use Rattle.uug_scan.specs.Detailed.{byte_words}
use Rattle.uug_sim_ladder.specs.Rungs.{WhatValue, begins, says, sends, times_out, hangs_up, takes, stores, strikes, fails, comes}

-- ---- a packet: its number, its acknowledgement, and how many bytes its message has

abbrev pub data_words : (seq ack valid : ℕ) → List ℕ
data_words seq ack valid =
    codes "DATA " ++ decimal seq ++ codes " ACK " ++ decimal ack ++ codes " VALID " ++ decimal valid

abbrev pub words_of : PacketValue → List ℕ
words_of (control c) = control_text c
words_of (carry seq ack k message) = data_words seq ack (length message)

abbrev pub packet_words : Result (PacketValue × ℕ) NoPacket → List ℕ
packet_words (Ok found) = words_of found.0
packet_words (Err none) = codes "BAD"

-- ---- a text

-- a byte that can be seen, or is a space, stands for itself, but for a backslash and what has a meaning of its own in a page of markup
abbrev pub is_markup : ℕ → Bool
is_markup b = (b == 92) || ((b == 60) || ((b == 62) || (b == 38)))

abbrev pub is_plain : ℕ → Bool
is_plain b = (is_ascii_graphic b || b == 32) && not (is_markup b)

abbrev pub escaped : List ℕ → List ℕ
escaped [] = []
escaped (b ∷ bs) = byte_words (is_plain b) b ++ escaped bs

-- a text without its frame, the first byte and the last
abbrev pub inside : List ℕ → List ℕ
inside written = take (length written - 2) (drop 1 written)

-- ---- a rung

abbrev pub again_word : Bool → List ℕ
again_word true = codes " again"
again_word false = []

abbrev pub label : WhatValue → List ℕ
label (begins number) = codes "session " ++ decimal number
label (says written) = codes "TEXT " ++ escaped (inside written)
label (sends bytes again) = packet_words (decoded bytes) ++ again_word again
label times_out = codes "timeout"
label hangs_up = codes "hangup"
label (takes count) = codes "taken " ++ decimal count
label (stores count) = codes "stored " ++ decimal count
label (strikes count) = codes "struck " ++ decimal count
label (fails count) = codes "failed " ++ decimal count
label (comes phase) = phase_word phase
