-- That the detailed listing is the plain one with what it adds, that its lines adjoin, and that each stream has one.
use Rattle.std.proofs.Common.{◌≡◌, ℕ, ◌+◌, ◌-◌, ◌≤◌, ◌==◌, Bool, true, false, if◌then◌else◌, List, [], ◌∷◌, ◌++◌, length, drop, None, Result, Ok, Err, refl, sym, ap, ◌∙◌, arith, subst, append_assoc, length-append}
use Rattle.std.proofs.lemmas.Bool.Decides.{nat_tests}
use Rattle.std.proofs.lemmas.List.{append-nil}
use Rattle.uug_packet.specs.Bytes.{AreBytes}
use Rattle.uug_packet.specs.Decoded.{decoded}
use Rattle.uug_packet.specs.Packet.{PacketValue}
use Rattle.uug_packet.specs.declared.decoding.NoPacket.{NoPacket}
use Rattle.uug_packet.specs.declared.decoding.NoPacket.TheVariants as refusals
use Rattle.uug_reader.specs.Cut.{Part, packet, broken, noise, CutsOff, IsCut, found, bad, items_of}
use Rattle.uug_reader.proofs.OneCut.{IsCut-some, IsCut-unique}
use Rattle.uug_talk.specs.Texts.{Heard, Passing, Open, Whole, is_whole}
use Rattle.uug_scan.specs.Listing.{line_of, lines_of, rest_line, IsListing}
use Rattle.uug_scan.specs.Told.{What, of_packet, of_text, of_noise, of_rest, control_bad_checksum, Entry, Told, begin, noise_entries, puts, hears, heard_with, text_size, broken_as, passes, tells, told_of, entries_of}
use Rattle.uug_scan.specs.Detailed.{plain_words, line_of_words, plain_lines, Adjoin, IsDetailed, entry_lines}
use Rattle.uug_scan.specs.Code.Noise.{heard_size, tells_byte}

-- ---- the plain lines

plain_lines-append : (a b : List Entry) → plain_lines (a ++ b) ≡ plain_lines a ++ plain_lines b
plain_lines-append [] b = refl
plain_lines-append (e ∷ a) b =
    ap (λ x. line_of_words (plain_words e.what e.size) ++ x) (plain_lines-append a b)
    ∙ sym (append_assoc (line_of_words (plain_words e.what e.size)) (plain_lines a) (plain_lines b))

noise_if : (none : Bool) (x e : Entry) → plain_words x.what x.size ≡ None → plain_lines ((if none then [] else x ∷ []) ++ e ∷ []) ≡ line_of_words (plain_words e.what e.size) ++ []
noise_if true x e h = refl
noise_if false x e h = ap (λ w. line_of_words w ++ (line_of_words (plain_words e.what e.size) ++ [])) h

plain_puts : (what : What) (size : ℕ) (told : Told) → plain_lines (puts what size told).entries ≡ plain_lines told.entries ++ line_of_words (plain_words what size)
plain_puts what size told =
    let e : Entry = record { what = what; at = told.start + told.size; size = size } in
    let noise_e : Entry = record { what = of_noise; at = told.start; size = told.size } in
    plain_lines-append told.entries (noise_entries told.start told.size ++ e ∷ [])
    ∙ ap (λ x. plain_lines told.entries ++ x) (noise_if (told.size == 0) noise_e e refl ∙ append-nil (line_of_words (plain_words what size)))

plain_hears : (heard : Heard) (told : Told) → plain_lines (hears heard told).entries ≡ plain_lines told.entries
plain_hears (Whole text) told =
    plain_puts (of_text text) (text_size text) (record told { size = told.size - text_size text }) ∙ append-nil (plain_lines told.entries)
plain_hears (Open text) told = refl
plain_hears Passing told = refl

plain_byte : (b : ℕ) (told : Told) → plain_lines (tells_byte b told).entries ≡ plain_lines told.entries
plain_byte b told = plain_hears (heard_with told.heard b) (record told { size = told.size + 1 })

plain_passes : (r : Result (PacketValue × ℕ) NoPacket) (b : ℕ) (told : Told) → plain_lines (passes r b told).entries ≡ plain_lines told.entries
plain_passes (Err refusals.BadSum) b told = plain_puts control_bad_checksum 1 told ∙ append-nil (plain_lines told.entries)
plain_passes (Ok front) b told = plain_byte b told
plain_passes (Err refusals.BadLength) b told = plain_byte b told
plain_passes (Err refusals.Short) b told = plain_byte b told
plain_passes (Err refusals.BadStart) b told = plain_byte b told
plain_passes (Err refusals.BadK) b told = plain_byte b told
plain_passes (Err refusals.BadXor) b told = plain_byte b told
plain_passes (Err refusals.BadKind) b told = plain_byte b told

bad_line : (r : Result (PacketValue × ℕ) NoPacket) → line_of_words (plain_words (broken_as r) 1) ≡ line_of bad
bad_line (Ok front) = refl
bad_line (Err refusals.BadSum) = refl
bad_line (Err refusals.BadLength) = refl
bad_line (Err refusals.Short) = refl
bad_line (Err refusals.BadStart) = refl
bad_line (Err refusals.BadK) = refl
bad_line (Err refusals.BadXor) = refl
bad_line (Err refusals.BadKind) = refl

plain_told : (parts : List Part) (s : List ℕ) (told : Told) → plain_lines (told_of parts s told).entries ≡ plain_lines told.entries ++ lines_of (items_of parts)
plain_told [] s told = sym (append-nil (plain_lines told.entries))
plain_told (packet p w ∷ parts) s told =
    plain_told parts (drop (length w) s) (tells (packet p w) s told)
    ∙ ap (λ x. x ++ lines_of (items_of parts)) (plain_puts (of_packet p) (length w) told)
    ∙ append_assoc (plain_lines told.entries) (line_of (found p)) (lines_of (items_of parts))
plain_told (broken b ∷ parts) s told =
    plain_told parts (drop 1 s) (tells (broken b) s told)
    ∙ ap (λ x. x ++ lines_of (items_of parts)) (plain_puts (broken_as (decoded s)) 1 told ∙ ap (λ x. plain_lines told.entries ++ x) (bad_line (decoded s)))
    ∙ append_assoc (plain_lines told.entries) (line_of bad) (lines_of (items_of parts))
plain_told (noise b ∷ parts) s told =
    plain_told parts (drop 1 s) (tells (noise b) s told)
    ∙ ap (λ x. x ++ lines_of (items_of parts)) (plain_passes (decoded s) b told)

pub plain_listing : (s text : List ℕ) → (d : IsDetailed s text) → IsListing s (plain_lines (entries_of s d.parts d.rest))
plain_listing s text d = record {
  items = items_of d.parts;
  rest = d.rest;
  scan = record { finds = (d.parts, d.cut.parts_are, refl); waits = d.cut.rest_waits };
  text_is =
      plain_puts of_rest (length d.rest) (told_of d.parts s begin)
      ∙ ap (λ x. x ++ rest_line d.rest) (plain_told d.parts s begin);
}

-- ---- where the lines begin

Adjoin-append : (a : ℕ) (xs : List Entry) (b : ℕ) (ys : List Entry) (c : ℕ) → Adjoin a xs b → Adjoin b ys c → Adjoin a (xs ++ ys) c
Adjoin-append a [] b ys c h k = subst (λ x. Adjoin x ys c) (sym h) k
Adjoin-append a (e ∷ xs) b ys c h k = (h.0, Adjoin-append (a + e.size) xs b ys c h.1 k)

adjoin_if : (none : Bool) (at n : ℕ) → (n == 0) ≡ none → Adjoin at (if none then [] else record { what = of_noise; at = at; size = n } ∷ []) (at + n)
adjoin_if true at n h = grind (arith, nat_tests)
adjoin_if false at n h = (refl, refl)

Adjoin-puts : (what : What) (n : ℕ) (told : Told) → Adjoin 0 told.entries told.start → Adjoin 0 (puts what n told).entries (told.start + told.size + n)
Adjoin-puts what n told h =
    let e : Entry = record { what = what; at = told.start + told.size; size = n } in
    Adjoin-append 0 told.entries told.start (noise_entries told.start told.size ++ e ∷ []) (told.start + told.size + n) h
    (Adjoin-append told.start (noise_entries told.start told.size) (told.start + told.size) (e ∷ []) (told.start + told.size + n)
    (adjoin_if (told.size == 0) told.start told.size refl) (refl, refl))

-- up to this place
record Reaches (told : Told) (end : ℕ) : Type 0 where
  adjoins : Adjoin 0 told.entries told.start
  open_yet : is_whole told.heard ≡ false
  within : heard_size told.heard ≤ told.size
  ends : told.start + told.size ≡ end

puts_reaches : (what : What) (n : ℕ) (told : Told) → Adjoin 0 told.entries told.start → Reaches (puts what n told) (told.start + told.size + n)
puts_reaches what n told h = record { adjoins = Adjoin-puts what n told h; open_yet = refl; within = omega arith; ends = omega arith }

hears_reaches : (heard : Heard) (told : Told) → Adjoin 0 told.entries told.start → heard_size heard ≤ told.size → Reaches (hears heard told) (told.start + told.size)
hears_reaches (Whole text) told h within =
    let front : Told = record told { size = told.size - text_size text } in
    subst (Reaches (puts (of_text text) (text_size text) front)) (omega (arith, within)) (puts_reaches (of_text text) (text_size text) front h)
hears_reaches (Open text) told h within = record { adjoins = h; open_yet = refl; within = within; ends = refl }
hears_reaches Passing told h within = record { adjoins = h; open_yet = refl; within = within; ends = refl }

one_heard : (heard : Heard) (b : ℕ) → is_whole heard ≡ false → heard_size (heard_with heard b) ≤ heard_size heard + 1
one_heard Passing b h = grind (arith, nat_tests)
one_heard (Open text) b h = grind (arith, nat_tests, length-append text (b ∷ []))
one_heard (Whole text) b h = cc

byte_reaches : (b : ℕ) (told : Told) (end : ℕ) → Reaches told end → Reaches (tells_byte b told) (end + 1)
byte_reaches b told end h =
    let more : Told = record told { size = told.size + 1 } in
    subst (Reaches (tells_byte b told)) (omega (arith, h.ends))
    (hears_reaches (heard_with told.heard b) more h.adjoins (omega (arith, one_heard told.heard b h.open_yet, h.within)))

put_reaches : (what : What) (n : ℕ) (told : Told) (end : ℕ) → Reaches told end → Reaches (puts what n told) (end + n)
put_reaches what n told end h = subst (Reaches (puts what n told)) (ap (λ x. x + n) h.ends) (puts_reaches what n told h.adjoins)

passes_reaches : (r : Result (PacketValue × ℕ) NoPacket) (b : ℕ) (told : Told) (end : ℕ) → Reaches told end → Reaches (passes r b told) (end + 1)
passes_reaches (Err refusals.BadSum) b told end h = put_reaches control_bad_checksum 1 told end h
passes_reaches (Ok front) b told end h = byte_reaches b told end h
passes_reaches (Err refusals.BadLength) b told end h = byte_reaches b told end h
passes_reaches (Err refusals.Short) b told end h = byte_reaches b told end h
passes_reaches (Err refusals.BadStart) b told end h = byte_reaches b told end h
passes_reaches (Err refusals.BadK) b told end h = byte_reaches b told end h
passes_reaches (Err refusals.BadXor) b told end h = byte_reaches b told end h
passes_reaches (Err refusals.BadKind) b told end h = byte_reaches b told end h

-- with what is left, the whole stream
record Whole_of (parts : List Part) (at others : List ℕ) (told : Told) (size : ℕ) : Type 0 where
  adjoins : Adjoin 0 (told_of parts at told).entries (told_of parts at told).start
  ends : (told_of parts at told).start + (told_of parts at told).size + length others ≡ size

told_reaches : (parts : List Part) (at s others : List ℕ) (told : Told) (end : ℕ) → CutsOff s parts others → Reaches told end → Whole_of parts at others told (end + length s)
told_reaches [] at s others told end cut h = record { adjoins = h.adjoins; ends = omega (arith, h.ends, ap length cut) }
told_reaches (packet p w ∷ parts) at s others told end cut h =
    let next = told_reaches parts (drop (length w) at) cut.1 others (tells (packet p w) at told) (end + length w) cut.3 (put_reaches (of_packet p) (length w) told end h) in
    record { adjoins = next.adjoins; ends = omega (arith, next.ends, ap length cut.2, length-append w cut.1) }
told_reaches (broken b ∷ parts) at s others told end cut h =
    let next = told_reaches parts (drop 1 at) cut.1 others (tells (broken b) at told) (end + 1) cut.3 (put_reaches (broken_as (decoded at)) 1 told end h) in
    record { adjoins = next.adjoins; ends = omega (arith, next.ends, ap length cut.2) }
told_reaches (noise b ∷ parts) at s others told end cut h =
    let next = told_reaches parts (drop 1 at) cut.1 others (tells (noise b) at told) (end + 1) cut.3 (passes_reaches (decoded at) b told end h) in
    record { adjoins = next.adjoins; ends = omega (arith, next.ends, ap length cut.2) }

pub entries_adjoin : (s rest : List ℕ) (parts : List Part) → IsCut s parts rest → Adjoin 0 (entries_of s parts rest) (length s)
entries_adjoin s rest parts cut =
    let from : Reaches begin 0 = record { adjoins = refl; open_yet = refl; within = omega arith; ends = refl } in
    let whole = told_reaches parts s s rest begin 0 cut.parts_are from in
    subst (Adjoin 0 (entries_of s parts rest)) (omega (arith, whole.ends)) (Adjoin-puts of_rest (length rest) (told_of parts s begin) whole.adjoins)

-- ---- one for each stream

pub IsDetailed-some : (s : List ℕ) → AreBytes s → (text : List ℕ) × IsDetailed s text
IsDetailed-some s bytes =
    let found = IsCut-some s bytes in
    (entry_lines (entries_of s found.0 found.1), record { parts = found.0; rest = found.1; cut = found.2; text_is = refl })

pub IsDetailed-unique : (s text other : List ℕ) → IsDetailed s text → IsDetailed s other → text ≡ other
IsDetailed-unique s text other h k =
    let same = IsCut-unique s h.rest k.rest h.parts k.parts h.cut k.cut in
    h.text_is ∙ ap (λ parts. entry_lines (entries_of s parts h.rest)) same.0 ∙ ap (λ rest. entry_lines (entries_of s k.parts rest)) same.1 ∙ sym k.text_is
