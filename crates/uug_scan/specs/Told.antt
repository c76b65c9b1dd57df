-- What a detailed listing tells of the parts of a stream (this project's profile).
use Rattle.std.specs.Prelude.{ℕ, ◌+◌, ◌-◌, ◌==◌, if◌then◌else◌, List, [], ◌∷◌, ◌++◌, length, drop, Option, Some, None, Result, Err}
use Rattle.uug_packet.specs.declared.decoding.NoPacket.{NoPacket}
use Rattle.uug_packet.specs.declared.decoding.NoPacket.TheVariants as refusals
use Rattle.uug_packet.specs.Decoded.{decoded}
use Rattle.uug_packet.specs.Packet.{PacketValue}
use Rattle.uug_reader.specs.Cut.{Part, packet, broken, noise}
use Rattle.uug_talk.specs.Texts.{Heard, Passing, Open, Whole, heard_byte}

-- what stands at a place: a packet; the first byte of a broken one, by what is wrong with it; the first byte of a
-- control packet with a wrong checksum; a handshake text; noise; the bytes that wait at the end
pub data What : Type 0 where
  of_packet : PacketValue → What
  bad_checksum : What
  bad_length : What
  control_bad_checksum : What
  of_text : List ℕ → What
  of_noise : What
  of_rest : What

-- where its bytes begin, counted from 0, and how many they are
pub record Entry : Type 0 where
  pub what : What
  pub at : ℕ
  pub size : ℕ

-- After some parts: the entries so far; where the noise behind them begins, and how many bytes it has; and what was
-- heard of a handshake text in it.
pub record Told : Type 0 where
  pub entries : List Entry
  pub start : ℕ
  pub size : ℕ
  pub heard : Heard

abbrev pub begin : Told
begin = record { entries = []; start = 0; size = 0; heard = Passing }

-- noise of no bytes has no entry
abbrev pub noise_entries : (at size : ℕ) → List Entry
noise_entries at size = if size == 0 then [] else record { what = of_noise; at = at; size = size } ∷ []

-- something of so many bytes stands behind the noise
abbrev pub puts : What → (size : ℕ) → Told → Told
puts what size told = record {
  entries = told.entries ++ (noise_entries told.start told.size ++ record { what = what; at = told.start + told.size; size = size } ∷ []);
  start = told.start + told.size + size;
  size = 0;
  heard = Passing;
}

-- the bytes of a text, with its start byte and its end byte
abbrev pub text_size : List ℕ → ℕ
text_size text = length text + 2

-- What is heard of a text in the noise. Where one is whole, the last bytes of the noise are the text.
abbrev pub hears : Heard → Told → Told
hears (Whole text) told = puts (of_text text) (text_size text) (record told { size = told.size - text_size text })
hears (Open text) told = record told { heard = Open text }
hears Passing told = record told { heard = Passing }

-- a text is heard as in a greeting; where one is too long, nothing is heard of it
abbrev pub or_passing : Option Heard → Heard
or_passing (Some heard) = heard
or_passing None = Passing

abbrev pub heard_with : Heard → ℕ → Heard
heard_with heard b = or_passing (heard_byte heard b)

-- what is wrong with a broken packet, by the refusal of the bytes from there on
abbrev pub broken_as : Result (PacketValue × ℕ) NoPacket → What
broken_as (Err refusals.BadLength) = bad_length
broken_as r = bad_checksum

-- a byte that is no part of a packet is the first of a control packet with a wrong checksum, or one of noise more
abbrev pub passes : Result (PacketValue × ℕ) NoPacket → ℕ → Told → Told
passes (Err refusals.BadSum) b told = puts control_bad_checksum 1 told
passes r b told = hears (heard_with told.heard b) (record told { size = told.size + 1 })

-- one part more, at the front of these bytes
abbrev pub tells : Part → List ℕ → Told → Told
tells (packet p w) s told = puts (of_packet p) (length w) told
tells (broken b) s told = puts (broken_as (decoded s)) 1 told
tells (noise b) s told = passes (decoded s) b told

abbrev pub part_size : Part → ℕ
part_size (packet p w) = length w
part_size (broken b) = 1
part_size (noise b) = 1

-- all parts, which stand at the front of these bytes
abbrev pub told_of : List Part → List ℕ → Told → Told
told_of [] s told = told
told_of (part ∷ parts) s told = told_of parts (drop (part_size part) s) (tells part s told)

-- the entries of a stream that is these parts and a rest
abbrev pub entries_of : List ℕ → List Part → (rest : List ℕ) → List Entry
entries_of s parts rest = (puts of_rest (length rest) (told_of parts s begin)).entries
