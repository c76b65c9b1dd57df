-- What an end does, drawn: what it sends follows on the line (this project's profile).
use Rattle.std.specs.Prelude.{ℕ, ◌+◌, ◌-◌, ◌%◌, ◌==◌, not, nat_lt, Bool, true, false, List, [], ◌∷◌, ◌++◌, length, drop, take, Option, Some, Result, Ok, Err, if◌then◌else◌}
use Rattle.std.specs.Str.{bytes_eq}
use Rattle.uug_conversation.specs.declared.side.Side.{Side}
use Rattle.uug_packet.specs.Decoded.{decoded}
use Rattle.uug_packet.specs.Packet.{PacketValue, control, carry}
use Rattle.uug_packet.specs.declared.decoding.NoPacket.{NoPacket}
use Rattle.uug_session.specs.PhaseWords.{phase_word}
use Rattle.uug_session.specs.declared.phase.Phase.{Phase}
use Rattle.uug_session.specs.declared.phase.Phase.TheVariants.{Hail}
use Rattle.uug_sim_ladder.specs.declared.end.DrawnEnd.{DrawnEnd}
use Rattle.uug_sim_ladder.specs.declared.moment.Mark.{Mark}
use Rattle.uug_sim_ladder.specs.declared.way.WayByte.{WayByte}
use Rattle.uug_sim_ladder.specs.Rungs.{LadderValue, WhatValue, added, says, sends, takes, stores, strikes, fails, comes}
use Rattle.uug_sim_ladder.specs.Way.{sent_by}

-- ---- an end

-- what is kept of an end
pub record EndValue : Type 0 where
  -- the number of the next data packet that it sends for the first time
  pub next : ℕ
  -- what is on its way from it
  pub way : List WayByte

-- a session begins
abbrev pub end_begins : EndValue
end_begins = record { next = 1; way = [] }

abbrev pub end_kept : {A : Type 0} → DrawnEnd A → EndValue
end_kept e = record { next = e.next; way = e.way.items }

-- ---- repeats

-- A data packet with another number than the next one was sent before: numbers go up by one and are counted modulo eight,
-- and at most seven packets wait to be acknowledged.
abbrev pub is_old : (next : ℕ) → PacketValue → Bool
is_old next (control c) = false
is_old next (carry seq ack k message) = not (seq == next)

abbrev pub is_repeat : (next : ℕ) → Result (PacketValue × ℕ) NoPacket → Bool
is_repeat next (Err none) = false
is_repeat next (Ok found) = is_old next found.0

abbrev pub next_by : (next : ℕ) → PacketValue → ℕ
next_by next (control c) = next
next_by next (carry seq ack k message) = if seq == next then (seq + 1) % 8 else next

abbrev pub next_behind : (next : ℕ) → Result (PacketValue × ℕ) NoPacket → ℕ
next_behind next (Err none) = next
next_behind next (Ok found) = next_by next found.0

-- ---- what it sends

-- a ladder, and an end
pub record Drawn : Type 0 where
  pub ladder : LadderValue
  pub end : EndValue

-- something goes out, which these are the bytes of
abbrev pub puts : Option ℕ → Side → WhatValue → (bytes : List ℕ) → Drawn → Drawn
puts event side what bytes d = record {
  ladder = added event side what d.ladder;
  end = record { next = d.end.next; way = d.end.way ++ sent_by (length d.ladder.rungs) bytes };
}

-- texts, of which each ends with a zero byte: this much of the next one was passed
pub record Texts : Type 0 where
  pub text : List ℕ
  pub drawn : Drawn

abbrev pub text_by : (is_last : Bool) → Option ℕ → Side → (text : List ℕ) → Drawn → Texts
text_by true event side text d = record { text = []; drawn = puts event side (says text) text d }
text_by false event side text d = record { text = text; drawn = d }

abbrev pub text_byte : Option ℕ → Side → (byte : ℕ) → Texts → Texts
text_byte event side byte t = text_by (byte == 0) event side (t.text ++ byte ∷ []) t.drawn

abbrev pub text_bytes : Option ℕ → Side → (bytes : List ℕ) → Texts → Texts
text_bytes event side [] t = t
text_bytes event side (b ∷ bs) t = text_bytes event side bs (text_byte event side b t)

abbrev pub says_texts : Option ℕ → Side → (bytes : List ℕ) → Drawn → Drawn
says_texts event side bytes d = (text_bytes event side bytes (record { text = []; drawn = d })).drawn

-- a packet goes out
abbrev pub with_next : ℕ → Drawn → Drawn
with_next next d = record { ladder = d.ladder; end = record { next = next; way = d.end.way } }

abbrev pub sends_packet : (event : ℕ) → Side → (bytes : List ℕ) → Drawn → Drawn
sends_packet event side bytes d =
    with_next (next_behind d.end.next (decoded bytes))
    (puts (Some event) side (sends bytes (is_repeat d.end.next (decoded bytes))) bytes d)

abbrev pub sends_packets : (event : ℕ) → Side → List (List ℕ) → Drawn → Drawn
sends_packets event side [] d = d
sends_packets event side (bytes ∷ more) d = sends_packets event side more (sends_packet event side bytes d)

-- ---- all that it sends at an event

-- these bytes without so many as the packets have, at their end
abbrev pub without : List (List ℕ) → (bytes : List ℕ) → List ℕ
without [] bytes = bytes
without (p ∷ ps) bytes = without ps (take (length bytes - length p) bytes)

-- the bytes on the line that are not on the way yet
abbrev pub new_on : (line : List ℕ) → (way : List WayByte) → List ℕ
new_on line way = drop (length way) line

-- in its greeting it says texts before packets, and else behind them, as its last one
abbrev pub emits : (is_hailing : Bool) → (event : ℕ) → Side → (packets : List (List ℕ)) → (line : List ℕ) → Drawn → Drawn
emits true event side packets line d =
    sends_packets event side packets (says_texts (Some event) side (without packets (new_on line d.end.way)) d)
emits false event side packets line d =
    let sent = sends_packets event side packets d in says_texts (Some event) side (new_on line sent.end.way) sent

abbrev pub is_hailing : Phase → Bool
is_hailing Hail = true
is_hailing _ = false

-- ---- what has become of its jobs and its session

abbrev pub added_if : Bool → (event : ℕ) → Side → WhatValue → LadderValue → LadderValue
added_if false event side what l = l
added_if true event side what l = added (Some event) side what l

-- messages taken, files stored, jobs done and given up
abbrev pub notes : (event : ℕ) → Side → (before after : Mark) → LadderValue → LadderValue
notes event side before after l =
    added_if (nat_lt before.failed after.failed) event side (fails after.failed)
    (added_if (nat_lt before.struck after.struck) event side (strikes after.struck)
    (added_if (nat_lt before.stored after.stored) event side (stores after.stored)
    (added_if (nat_lt before.taken after.taken) event side (takes after.taken) l)))

abbrev pub is_other : (before after : Phase) → Bool
is_other before after = not (bytes_eq (phase_word before) (phase_word after))

abbrev pub comes_to : (event : ℕ) → Side → (before after : Phase) → LadderValue → LadderValue
comes_to event side before after l = added_if (is_other before after) event side (comes after) l

-- ---- all that an end does at an event

abbrev pub with_ladder : LadderValue → Drawn → Drawn
with_ladder ladder d = record { ladder = ladder; end = d.end }

-- these are the packets that it has sent in the session, and this is on the line from it then
abbrev pub acts : (number : ℕ) → Side → (before after : Mark) → (packets : List (List ℕ)) → (line : List ℕ) → Drawn → Drawn
acts number side before after packets line d =
    let done = emits (is_hailing before.phase) number side (drop before.packets packets) line
    (with_ladder (notes number side before after d.ladder) d) in
    with_ladder (comes_to number side before.phase after.phase done.ladder) done
