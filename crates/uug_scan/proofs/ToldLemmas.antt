-- What is told step by step.
use Rattle.std.proofs.Common.{◌≡◌, ◌≢◌, ℕ, ◌+◌, ◌-◌, ◌<◌, ◌≤◌, List, [], ◌∷◌, ◌++◌, length, take, drop, slice_index, Result, Ok, Err, refl, sym, ap, ◌∙◌, arith, subst, append_assoc, inl, length-drop}
use Rattle.std.proofs.lemmas.List.{append-nil, take-append-drop, take_rest, length-take-le, get_or-drop, drop-drop}
use Rattle.std.proofs.Math.Seq.{drop-append_seam}
use Rattle.uug_packet.specs.Bytes.{AreBytes}
use Rattle.uug_packet.specs.Decoded.{decoded}
use Rattle.uug_packet.specs.Packet.{PacketValue, control, carry, shown}
use Rattle.uug_packet.specs.Spelling.{IsSpelling}
use Rattle.uug_packet.specs.Waits.{IsDamage}
use Rattle.uug_packet.specs.declared.decoding.NoPacket.{NoPacket}
use Rattle.uug_packet.specs.declared.decoding.NoPacket.TheVariants as refusals
use Rattle.uug_packet.proofs.BrokenLemmas.{broken_of_damage}
use Rattle.uug_packet.proofs.DecodedLemmas.{spelling-decoded}
use Rattle.uug_packet.proofs.PrefixLemmas.{waits_not-broken}
use Rattle.uug_reader.specs.Cut.{found, Part, packet, broken, noise, CutsOff}
use Rattle.uug_reader.proofs.CutLemmas.{CutsOff-append, CutsOff-join, some_spelled}
use Rattle.uug_reader.proofs.OneCut.{AreBytes-drop, refused_noise}
use Rattle.uug_talk.specs.Texts.{Heard, Passing, Open, Whole}
use Rattle.uug_scan.specs.Listing.{HasSize}
use Rattle.uug_scan.specs.Told.{What, of_packet, of_text, control_bad_checksum, text_size, Entry, Told, puts, hears, heard_with, broken_as, passes, tells, part_size, told_of}
use Rattle.uug_scan.specs.Detailed.{entry_line, entry_lines}
use Rattle.uug_scan.specs.Code.Noise.{told_by, Tells, IsSized, IsFront, front_size, tells_byte, tells_front, AddsParts}
use Rattle.uug_scan.specs.declared.noise.Noise.{Noise}
use Rattle.uug_scan.specs.declared.front.Damage.TheVariants as damages
use Rattle.uug_scan.specs.declared.front.Front.{Front}
use Rattle.uug_scan.specs.declared.front.Front.TheVariants as fronts
use Rattle.uug_scan.proofs.DecodedLemmas.{decoded_behind}

pub entry_lines-append : (a b : List Entry) → entry_lines (a ++ b) ≡ entry_lines a ++ entry_lines b
entry_lines-append [] b = refl
entry_lines-append (e ∷ a) b = ap (λ x. entry_line e ++ x) (entry_lines-append a b) ∙ sym (append_assoc (entry_line e) (entry_lines a) (entry_lines b))

-- ---- entries in front, which no step changes

abbrev pub behind : List Entry → Told → Told
behind front told = record told { entries = front ++ told.entries }

pub puts-behind : (front : List Entry) (what : What) (size : ℕ) (told : Told) → puts what size (behind front told) ≡ behind front (puts what size told)
puts-behind front what size told =
    ap (λ (es : List Entry). record (puts what size told) { entries = es }) (append_assoc front told.entries _)

hears-behind : (front : List Entry) (heard : Heard) (told : Told) → hears heard (behind front told) ≡ behind front (hears heard told)
hears-behind front (Whole text) told = puts-behind front (of_text text) (text_size text) (record told { size = told.size - text_size text })
hears-behind front (Open text) told = refl
hears-behind front Passing told = refl

tells_byte-behind : (front : List Entry) (b : ℕ) (told : Told) → tells_byte b (behind front told) ≡ behind front (tells_byte b told)
tells_byte-behind front b told = hears-behind front (heard_with told.heard b) (record told { size = told.size + 1 })

passes-behind : (front : List Entry) (r : Result (PacketValue × ℕ) NoPacket) (b : ℕ) (told : Told) → passes r b (behind front told) ≡ behind front (passes r b told)
passes-behind front (Ok read) b told = tells_byte-behind front b told
passes-behind front (Err refusals.BadSum) b told = puts-behind front control_bad_checksum 1 told
passes-behind front (Err refusals.BadLength) b told = tells_byte-behind front b told
passes-behind front (Err refusals.Short) b told = tells_byte-behind front b told
passes-behind front (Err refusals.BadStart) b told = tells_byte-behind front b told
passes-behind front (Err refusals.BadK) b told = tells_byte-behind front b told
passes-behind front (Err refusals.BadXor) b told = tells_byte-behind front b told
passes-behind front (Err refusals.BadKind) b told = tells_byte-behind front b told

tells-behind : (front : List Entry) (part : Part) (s : List ℕ) (told : Told) → tells part s (behind front told) ≡ behind front (tells part s told)
tells-behind front (packet p w) s told = puts-behind front (of_packet p) (length w) told
tells-behind front (broken b) s told = puts-behind front (broken_as (decoded s)) 1 told
tells-behind front (noise b) s told = passes-behind front (decoded s) b told

told_of-behind : (front : List Entry) (parts : List Part) (s : List ℕ) (told : Told) → told_of parts s (behind front told) ≡ behind front (told_of parts s told)
told_of-behind front [] s told = refl
told_of-behind front (part ∷ parts) s told =
    ap (told_of parts (drop (part_size part) s)) (tells-behind front part s told) ∙ told_of-behind front parts (drop (part_size part) s) (tells part s told)

pub told_by-behind : (n : Noise) (entries : List Entry) → told_by n entries ≡ behind entries (told_by n [])
told_by-behind n entries = ap (told_by n) (sym (append-nil entries))

-- ---- parts and then more parts

told_of-join : (s : List ℕ) (parts : List Part) (middle : List ℕ) (more : List Part) (t : List ℕ) (told : Told) → CutsOff s parts middle → told_of (parts ++ more) (s ++ t) told ≡ told_of more (middle ++ t) (told_of parts (s ++ t) told)
told_of-join s [] middle more t told h = ap (λ x. told_of more (x ++ t) told) h
told_of-join s (packet p w ∷ parts) middle more t told h =
    let rest : drop (length w) (s ++ t) ≡ h.1 ++ t = ap (λ x. drop (length w) (x ++ t)) h.2 ∙ ap (drop (length w)) (append_assoc w h.1 t) ∙ drop-append_seam w (h.1 ++ t) in
    let next : Told = tells (packet p w) (s ++ t) told in
    subst (λ x. told_of (parts ++ more) x next ≡ told_of more (middle ++ t) (told_of parts x next)) (sym rest) (told_of-join h.1 parts middle more t next h.3)
told_of-join s (broken b ∷ parts) middle more t told h =
    let rest : drop 1 (s ++ t) ≡ h.1 ++ t = ap (λ x. drop 1 (x ++ t)) h.2 in
    let next : Told = tells (broken b) (s ++ t) told in
    subst (λ x. told_of (parts ++ more) x next ≡ told_of more (middle ++ t) (told_of parts x next)) (sym rest) (told_of-join h.1 parts middle more t next h.3)
told_of-join s (noise b ∷ parts) middle more t told h =
    let rest : drop 1 (s ++ t) ≡ h.1 ++ t = ap (λ x. drop 1 (x ++ t)) h.2 in
    let next : Told = tells (noise b) (s ++ t) told in
    subst (λ x. told_of (parts ++ more) x next ≡ told_of more (middle ++ t) (told_of parts x next)) (sym rest) (told_of-join h.1 parts middle more t next h.3)

-- ---- the part that stands at the front

pub record Takes (front : Front) (s : List ℕ) : Type 0 where
  pub part : Part
  pub some : 0 < front_size front
  pub within : front_size front ≤ length s
  pub cut : CutsOff s (part ∷ []) (drop (front_size front) s)
  pub told : (t : List ℕ) (told : Told) → tells part (s ++ t) told ≡ tells_front front (slice_index s 0) told

-- it is refused, and not for want of bytes
still : (s : List ℕ) (e : NoPacket) → decoded s ≡ Err e → e ≢ refusals.Short → decoded s ≡ Err refusals.Short → ⊥
still s e refused not_short short =
    let clash : ◌≡◌ {A = Result (PacketValue × ℕ) NoPacket} (Err e) (Err refusals.Short) = sym refused ∙ short in
    let same : e ≡ refusals.Short = cc in
    not_short same

takes_packet : (front : Front) (s : List ℕ) (p : PacketValue) (n : ℕ) → AreBytes s → decoded s ≡ Ok (p, n) → front_size front ≡ n → ((told : Told) → tells_front front (slice_index s 0) told ≡ puts (of_packet p) n told) → Takes front s
takes_packet front s p n bytes read size tell =
    let reads = spelling-decoded s p n bytes read in record {
      part = packet p (take n s);
      some = omega (arith, size, some_spelled p n s reads.spelled);
      within = omega (arith, size, reads.long);
      cut = subst (λ m. CutsOff s (packet p (take n s) ∷ []) (drop m s)) (sym size) (reads.spelled, drop n s, sym (take-append-drop n s), refl);
      told = λ t told. ap (λ m. puts (of_packet p) m told) (length-take-le n s reads.long) ∙ sym (tell told);
    }

-- one byte: of a broken packet, or of noise
takes_broken : (front : Front) (s : List ℕ) (e : NoPacket) → AreBytes s → decoded s ≡ Err e → e ≢ refusals.Short → IsDamage e s → front_size front ≡ 1 → ((told : Told) → tells_front front (slice_index s 0) told ≡ puts (broken_as (Err e)) 1 told) → Takes front s
takes_broken front [] e bytes refused not_short damage size tell = absurd (waits_not-broken [] (broken_of_damage [] e bytes refused damage) (inl tt))
takes_broken front (b ∷ s) e bytes refused not_short damage size tell = record {
  part = broken b;
  some = omega (arith, size);
  within = omega (arith, size);
  cut = subst (λ m. CutsOff (b ∷ s) (broken b ∷ []) (drop m (b ∷ s))) (sym size) (broken_of_damage (b ∷ s) e bytes refused damage, s, refl, refl);
  told = λ t told. ap (λ r. puts (broken_as r) 1 told) (decoded_behind (b ∷ s) t (still (b ∷ s) e refused not_short) ∙ refused) ∙ sym (tell told);
}

takes_noise : (front : Front) (s : List ℕ) (e : NoPacket) → AreBytes s → decoded s ≡ Err e → e ≢ refusals.Short → (IsDamage e s → ⊥) → front_size front ≡ 1 → ((told : Told) → tells_front front (slice_index s 0) told ≡ passes (Err e) (slice_index s 0) told) → Takes front s
takes_noise front [] e bytes refused not_short none size tell = absurd ((refused_noise [] e bytes refused not_short none).settled (inl tt))
takes_noise front (b ∷ s) e bytes refused not_short none size tell = record {
  part = noise b;
  some = omega (arith, size);
  within = omega (arith, size);
  cut = subst (λ m. CutsOff (b ∷ s) (noise b ∷ []) (drop m (b ∷ s))) (sym size) (refused_noise (b ∷ s) e bytes refused not_short none, s, refl, refl);
  told = λ t told. ap (λ r. passes r b told) (decoded_behind (b ∷ s) t (still (b ∷ s) e refused not_short) ∙ refused) ∙ sym (tell told);
}

no_damage : (e : NoPacket) (s : List ℕ) → e ≢ refusals.BadSum → e ≢ refusals.BadLength → IsDamage e s → ⊥
no_damage refusals.BadSum s sum length_ d = sum refl
no_damage refusals.BadLength s sum length_ d = length_ refl
no_damage refusals.Short s sum length_ d = d
no_damage refusals.BadStart s sum length_ d = d
no_damage refusals.BadK s sum length_ d = d
no_damage refusals.BadXor s sum length_ d = d
no_damage refusals.BadKind s sum length_ d = d

passes_other : (e : NoPacket) (b : ℕ) (told : Told) → e ≢ refusals.BadSum → tells_byte b told ≡ passes (Err e) b told
passes_other refusals.BadSum b told sum = absurd (sum refl)
passes_other refusals.BadLength b told sum = refl
passes_other refusals.Short b told sum = refl
passes_other refusals.BadStart b told sum = refl
passes_other refusals.BadK b told sum = refl
passes_other refusals.BadXor b told sum = refl
passes_other refusals.BadKind b told sum = refl

pub takes : (front : Front) (s : List ℕ) → AreBytes s → IsFront front s → Takes front s
takes (fronts.Packet p n) s bytes is = takes_packet (fronts.Packet p n) s (shown p) n bytes is refl (λ told. refl)
takes (fronts.Damaged damages.Checksum) s bytes is =
    takes_broken (fronts.Damaged damages.Checksum) s refusals.BadSum bytes is.0 (λ e. cc) is.1 refl (λ told. refl)
takes (fronts.Damaged damages.Length) s bytes is =
    takes_broken (fronts.Damaged damages.Length) s refusals.BadLength bytes is (λ e. cc) tt refl (λ told. refl)
takes (fronts.Damaged damages.Control) s bytes is =
    takes_noise (fronts.Damaged damages.Control) s refusals.BadSum bytes is.0 (λ e. cc) (λ d. d is.1) refl (λ told. refl)
takes (fronts.Noise e) s bytes is =
    takes_noise (fronts.Noise e) s e bytes is.0 is.1 (no_damage e s is.2 is.3) refl (λ told. passes_other e _ told is.2)

-- ---- the lines of parts

pub AddsParts-none : (s : List ℕ) (n : Noise) (x : List ℕ) → AddsParts s s n n x x
AddsParts-none s n x = record { parts = []; entries = []; cut = refl; told = λ t. refl; lines = sym (append-nil x) }

pub AddsParts-one : (front : Front) (s : List ℕ) (n : ℕ) (old new : Noise) (x y : List ℕ) → Takes front s → Tells (tells_front front (slice_index s 0)) n old new x y → AddsParts s (drop (front_size front) s) old new x y
AddsParts-one front s n old new x y part told = record {
  parts = part.part ∷ [];
  entries = (tells_front front (slice_index s 0) (told_by old [])).entries;
  cut = part.cut;
  told = λ t. part.told t (told_by old []) ∙ told.told;
  lines = told.lines;
}

pub AddsParts-join : (s middle others : List ℕ) (old mid new : Noise) (x y z : List ℕ) → AddsParts s middle old mid x y → AddsParts middle others mid new y z → AddsParts s others old new x z
AddsParts-join s middle others old mid new x y z h k = record {
  parts = h.parts ++ k.parts;
  entries = h.entries ++ k.entries;
  cut = CutsOff-join s h.parts middle k.parts others h.cut k.cut;
  told = λ t.
      told_of-join s h.parts middle k.parts t (told_by old []) h.cut
      ∙ ap (told_of k.parts (middle ++ t)) (h.told t ∙ told_by-behind mid h.entries)
      ∙ told_of-behind h.entries k.parts (middle ++ t) (told_by mid [])
      ∙ ap (behind h.entries) (k.told t);
  lines =
      k.lines ∙ ap (λ v. v ++ entry_lines k.entries) h.lines ∙ append_assoc x (entry_lines h.entries) (entry_lines k.entries)
      ∙ ap (λ v. x ++ v) (sym (entry_lines-append h.entries k.entries));
}

pub AddsParts-append : (s others t : List ℕ) (old new : Noise) (x y : List ℕ) → AddsParts s others old new x y → AddsParts (s ++ t) (others ++ t) old new x y
AddsParts-append s others t old new x y h = record {
  parts = h.parts;
  entries = h.entries;
  cut = CutsOff-append s h.parts others t h.cut;
  told = λ more. ap (λ v. told_of h.parts v (told_by old [])) (append_assoc s t more) ∙ h.told (t ++ more);
  lines = h.lines;
}

-- ---- the loop over some bytes

has_size : (v : PacketValue) (w : List ℕ) → IsSpelling v w → HasSize (found v)
has_size (control c) w h = tt
has_size (carry seq ack k message) w h = h.code

is_sized : (front : Front) (s : List ℕ) → AreBytes s → IsFront front s → IsSized front
is_sized (fronts.Packet p n) s bytes is = has_size (shown p) (take n s) (spelling-decoded s (shown p) n bytes is).spelled
is_sized (fronts.Damaged damage) s bytes is = tt
is_sized (fronts.Noise e) s bytes is = tt

pub record Stands (front : Front) (bytes : List ℕ) (passed : ℕ) : Type 0 where
  pub takes_part : Takes front (drop passed bytes)
  pub sized : IsSized front
  pub some : 0 < front_size front
  pub within : passed + front_size front ≤ length bytes

-- behind so many bytes
pub stands : (front : Front) (bytes : List ℕ) (passed : ℕ) → AreBytes bytes → IsFront front (take (length bytes - passed) (drop passed bytes)) → Stands front bytes passed
stands front bytes passed are_bytes is =
    let here : IsFront front (drop passed bytes) = subst (IsFront front) (take_rest bytes passed) is in
    let behind_bytes : AreBytes (drop passed bytes) = AreBytes-drop bytes passed are_bytes in
    let part : Takes front (drop passed bytes) = takes front (drop passed bytes) behind_bytes here in
    record {
      takes_part = part;
      sized = is_sized front (drop passed bytes) behind_bytes here;
      some = part.some;
      within = omega (arith, part.some, part.within, length-drop passed bytes);
    }

pub AddsParts-more : (front : Front) (bytes : List ℕ) (passed n b : ℕ) (first old new : Noise) (x y z : List ℕ) → Stands front bytes passed → AddsParts bytes (drop passed bytes) first old x y → n ≡ front_size front → b ≡ slice_index bytes passed → Tells (tells_front front b) (front_size front) old new y z → AddsParts bytes (drop (passed + n) bytes) first new x z
AddsParts-more front bytes passed n b first old new x y z at added size first_byte told =
    let same : b ≡ slice_index (drop passed bytes) 0 = first_byte ∙ ap (slice_index bytes) (omega arith) ∙ sym (get_or-drop passed bytes 0 0) in
    let here : Tells (tells_front front (slice_index (drop passed bytes) 0)) (front_size front) old new y z = subst (λ c. Tells (tells_front front c) (front_size front) old new y z) same told in
    let one = AddsParts-one front (drop passed bytes) (front_size front) old new y z at.takes_part here in
    let next : AddsParts bytes (drop (front_size front) (drop passed bytes)) first new x z = AddsParts-join bytes (drop passed bytes) (drop (front_size front) (drop passed bytes)) first old new x y z added one in
    subst (λ s. AddsParts bytes s first new x z) (drop-drop (front_size front) passed bytes ∙ ap (λ m. drop (passed + m) bytes) (sym size)) next
