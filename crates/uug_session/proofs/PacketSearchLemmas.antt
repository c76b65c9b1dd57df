-- The search for packets where more bytes come behind.
use Rattle.std.proofs.Common.{◌≡◌, ℕ, ◌+◌, ◌<◌, ◌≤◌, ◌/◌, ◌%◌, ◌==◌, bit_xor, nat_lt, Bool, true, false, if◌then◌else◌, List, [], ◌∷◌, ◌++◌, length, drop, slice_index, Result, Ok, Err, ◌⊎◌, inl, inr, refl, sym, ap, subst, ◌∙◌, arith, length-append, length-drop}
use Rattle.std.proofs.lemmas.Bool.Decides.{nat_tests}
use Rattle.std.proofs.lemmas.List.{get_or_append_left, drop-append-le, take-append-le}
use Rattle.std.specs.Option.{ok_or}
use Rattle.uug_packet.specs.Decoded.{◌>>=◌, header_at, control_of, control_decoded, kind_of, field_at, message_at, checked, data_decoded, decoded}
use Rattle.uug_packet.specs.Field.{field_size}
use Rattle.uug_packet.specs.Packet.{PacketValue, control, carry}
use Rattle.uug_packet.specs.Spelling.{checksum_of}
use Rattle.uug_packet.specs.Checksum.{check}
use Rattle.uug_packet.specs.declared.decoding.NoPacket.{NoPacket}
use Rattle.uug_packet.specs.declared.decoding.NoPacket.TheVariants as refusals
use Rattle.uug_packet.specs.declared.header.Header.{Header}
use Rattle.uug_packet.specs.declared.header.TheConstants.{START, CONTROL_K, HEADER_SIZE}
use Rattle.uug_reader.specs.Cut.{Item, found, bad}
use Rattle.uug_reader.specs.Search.{Search, waiting, standing, search_by, search_of}

-- ---- the header

-- one that is whole is read with more behind it, too
header_stays : (s t : List ℕ) → HEADER_SIZE ≤ length s → header_at (s ++ t) ≡ header_at s
unfolding header_at
header_stays s t long =
    let l : length (s ++ t) ≡ length s + length t = length-append s t in
    let at : (i : ℕ) → i < HEADER_SIZE → slice_index (s ++ t) i ≡ slice_index s i = λ i h. get_or_append_left s t 0 i (omega (arith, h, long)) in
    let e0 : slice_index (s ++ t) 0 ≡ slice_index s 0 = at 0 (omega arith) in
    let e1 : slice_index (s ++ t) 1 ≡ slice_index s 1 = at 1 (omega arith) in
    let e2 : slice_index (s ++ t) 2 ≡ slice_index s 2 = at 2 (omega arith) in
    let e3 : slice_index (s ++ t) 3 ≡ slice_index s 3 = at 3 (omega arith) in
    let e4 : slice_index (s ++ t) 4 ≡ slice_index s 4 = at 4 (omega arith) in
    let e5 : slice_index (s ++ t) 5 ≡ slice_index s 5 = at 5 (omega arith) in
    let z : (length (s ++ t) == 0) ≡ (length s == 0) = grind (arith, nat_tests) in
    let w : nat_lt (length (s ++ t)) HEADER_SIZE ≡ nat_lt (length s) HEADER_SIZE = grind (arith, nat_tests) in
    rw (z, w, e0, e1, e2, e3, e4, e5) refl

header_short : (b : ℕ) (s : List ℕ) → (b == START) ≡ true → length (b ∷ s) < HEADER_SIZE → header_at (b ∷ s) ≡ Err refusals.Short
unfolding header_at
header_short b s e short =
    let z : (length (b ∷ s) == 0) ≡ false = grind (arith, nat_tests) in
    let w : nat_lt (length (b ∷ s)) HEADER_SIZE ≡ true = grind (arith, nat_tests) in
    rw (z, e, w) refl

header_noise : (b : ℕ) (s : List ℕ) → (b == START) ≡ false → header_at (b ∷ s) ≡ Err refusals.BadStart
unfolding header_at
header_noise b s e =
    let z : (length (b ∷ s) == 0) ≡ false = grind (arith, nat_tests) in
    rw (z, e) refl

-- ---- what is read at the front

-- behind the header
abbrev behind_header : List ℕ → Header → Result (PacketValue × ℕ) NoPacket
behind_header s h = if h.k == CONTROL_K then control_decoded h else data_decoded h (drop HEADER_SIZE s)

by_header : (s : List ℕ) (r : Result Header NoPacket) → header_at s ≡ r → decoded s ≡ (r >>= behind_header s)
unfolding decoded
by_header s r e = ap (λ (x : Result Header NoPacket). x >>= behind_header s) e

-- too few bytes were there, or with more of them the same is read
abbrev Stays : {A : Type 0} → (now later : Result A NoPacket) → Type 0
Stays now later = (now ≡ Err refusals.Short) ⊎ (later ≡ now)

first_stays : {A B : Type 0} (now later : Result A NoPacket) (f : A → Result B NoPacket) → Stays now later → Stays (now >>= f) (later >>= f)
first_stays now later f (inl e) = inl (ap (λ r. r >>= f) e)
first_stays now later f (inr e) = inr (ap (λ r. r >>= f) e)

second_stays : {A B : Type 0} (r : Result A NoPacket) (f g : A → Result B NoPacket) → ((x : A) → Stays (f x) (g x)) → Stays (r >>= f) (r >>= g)
second_stays (Ok x) f g h = h x
second_stays (Err e) f g h = inr refl

field_by : (c : Bool) (size : ℕ) (rest t : List ℕ) → nat_lt (length rest) size ≡ c → Stays (field_at size rest) (field_at size (rest ++ t))
field_by true size rest t e = inl (rw e refl)
field_by false size rest t e =
    let l : length (rest ++ t) ≡ length rest + length t = length-append rest t in
    let w : nat_lt (length (rest ++ t)) size ≡ false = grind (arith, nat_tests) in
    let fits : size ≤ length rest = grind (arith, nat_tests) in
    inr (rw (e, w) (ap (λ (field : List ℕ). Ok field) (take-append-le size rest t fits)))

data_stays : (h : Header) (rest t : List ℕ) → Stays (data_decoded h rest) (data_decoded h (rest ++ t))
data_stays h rest t =
    second_stays (ok_or (kind_of h.control) refusals.BadKind) _ _ λ kind.
    first_stays (field_at (field_size h.k) rest) (field_at (field_size h.k) (rest ++ t)) _ (field_by (nat_lt (length rest) (field_size h.k)) (field_size h.k) rest t refl)

behind_header_by : (c : Bool) (s t : List ℕ) (h : Header) → HEADER_SIZE ≤ length s
    → Stays (if c then control_decoded h else data_decoded h (drop HEADER_SIZE s)) (if c then control_decoded h else data_decoded h (drop HEADER_SIZE (s ++ t)))
behind_header_by true s t h long = inr refl
behind_header_by false s t h long =
    subst (λ rest. Stays (data_decoded h (drop HEADER_SIZE s)) (data_decoded h rest)) (sym (drop-append-le HEADER_SIZE s t long)) (data_stays h (drop HEADER_SIZE s) t)

long_stays : (s t : List ℕ) → HEADER_SIZE ≤ length s → Stays (decoded s) (decoded (s ++ t))
long_stays s t long =
    let now : decoded s ≡ (header_at s >>= behind_header s) = by_header s (header_at s) refl in
    let later : decoded (s ++ t) ≡ (header_at s >>= behind_header (s ++ t)) = by_header (s ++ t) (header_at s) (header_stays s t long) in
    let both : Stays (header_at s >>= behind_header s) (header_at s >>= behind_header (s ++ t)) =
    second_stays (header_at s) (behind_header s) (behind_header (s ++ t)) (λ h. behind_header_by (h.k == CONTROL_K) s t h long) in
    subst (λ r. Stays r (decoded (s ++ t))) (sym now) (subst (λ r. Stays (header_at s >>= behind_header s) r) (sym later) both)

short_by : (c : Bool) (b : ℕ) (s t : List ℕ) → (b == START) ≡ c → length (b ∷ s) < HEADER_SIZE → Stays (decoded (b ∷ s)) (decoded (b ∷ (s ++ t)))
short_by true b s t e short = inl (by_header (b ∷ s) (Err refusals.Short) (header_short b s e short))
short_by false b s t e short =
    inr (by_header (b ∷ (s ++ t)) (Err refusals.BadStart) (header_noise b (s ++ t) e) ∙ sym (by_header (b ∷ s) (Err refusals.BadStart) (header_noise b s e)))

by_length : (c : Bool) (b : ℕ) (s t : List ℕ) → nat_lt (length (b ∷ s)) HEADER_SIZE ≡ c → Stays (decoded (b ∷ s)) (decoded (b ∷ (s ++ t)))
by_length true b s t e = short_by (b == START) b s t refl (grind (arith, nat_tests))
by_length false b s t e = long_stays (b ∷ s) t (grind (arith, nat_tests))

read_stays : (b : ℕ) (s t : List ℕ) → Stays (decoded (b ∷ s)) (decoded (b ∷ (s ++ t)))
read_stays b s t = by_length (nat_lt (length (b ∷ s)) HEADER_SIZE) b s t refl

read_again : (b : ℕ) (s t : List ℕ) (r : Result (PacketValue × ℕ) NoPacket) → decoded (b ∷ s) ≡ r → (r ≡ Err refusals.Short → ⊥) → decoded (b ∷ (s ++ t)) ≡ r
read_again b s t r e whole = by_stays (read_stays b s t) where
  by_stays : Stays (decoded (b ∷ s)) (decoded (b ∷ (s ++ t))) → decoded (b ∷ (s ++ t)) ≡ r
  by_stays (inl short) = absurd (whole (sym e ∙ short))
  by_stays (inr same) = same ∙ e

-- a packet that is read takes bytes, and they are there
record Fits (len : ℕ) (r : Result (PacketValue × ℕ) NoPacket) : Type 0 where
  size : (front : PacketValue × ℕ) → r ≡ Ok front → (HEADER_SIZE ≤ front.1) × (front.1 ≤ len)

ok_fits : (len : ℕ) (front : PacketValue × ℕ) → HEADER_SIZE ≤ front.1 → front.1 ≤ len → Fits len (Ok front)
ok_fits len front some within = record {
  size = λ other e.
      let same : front ≡ other = cc in
      subst (λ (z : PacketValue × ℕ). (HEADER_SIZE ≤ z.1) × (z.1 ≤ len)) same (some, within);
}

err_fits : (len : ℕ) (e : NoPacket) → Fits len (Err e)
err_fits len e = record { size = λ other is. absurd cc }

bind_fits : {A : Type 0} (len : ℕ) (r : Result A NoPacket) (f : A → Result (PacketValue × ℕ) NoPacket) → ((x : A) → r ≡ Ok x → Fits len (f x)) → Fits len (r >>= f)
bind_fits len (Ok x) f h = h x refl
bind_fits len (Err e) f h = err_fits len e

if_fits : (len : ℕ) (c : Bool) (x y : Result (PacketValue × ℕ) NoPacket) → Fits len x → Fits len y → Fits len (if c then x else y)
if_fits len true x y h k = h
if_fits len false x y h k = k

control_fits : (len : ℕ) (h : Header) → HEADER_SIZE ≤ len → Fits len (control_decoded h)
control_fits len h long =
    bind_fits len (ok_or (control_of h.control) refusals.BadKind) _ λ p e.
    if_fits len (h.checksum == checksum_of h.control) (Ok (control p, HEADER_SIZE)) (Err refusals.BadSum)
    (ok_fits len (control p, HEADER_SIZE) (omega arith) long) (err_fits len refusals.BadSum)

field_long : (size : ℕ) (rest field : List ℕ) → field_at size rest ≡ Ok field → size ≤ length rest
field_long size rest field e = grind (arith, nat_tests)

data_fits : (len : ℕ) (h : Header) (rest : List ℕ) → HEADER_SIZE + length rest ≤ len → Fits len (data_decoded h rest)
data_fits len h rest long =
    let size = field_size h.k in
    bind_fits len (ok_or (kind_of h.control) refusals.BadKind) _ λ kind e.
    bind_fits len (field_at size rest) _ λ field is.
    let whole : size ≤ length rest = field_long size rest field is in
    bind_fits {A = List ℕ} len (checked (h.checksum == checksum_of (bit_xor (check field) h.control)) (message_at kind field)) _ λ message right.
    ok_fits len (carry (h.control / 8 % 8) (h.control % 8) h.k message, HEADER_SIZE + size) (omega arith) (omega arith)

header_long : (s : List ℕ) (h : Header) → header_at s ≡ Ok h → HEADER_SIZE ≤ length s
unfolding header_at
header_long s h e = by_test (nat_lt (length s) HEADER_SIZE) refl where
  by_byte : (c : Bool) (b : ℕ) (rest : List ℕ) → s ≡ b ∷ rest → (b == START) ≡ c → length (b ∷ rest) < HEADER_SIZE → HEADER_SIZE ≤ length s
  by_byte true b rest is at short = absurd (let no : Ok h ≡ Err refusals.Short = sym e ∙ ap header_at is ∙ header_short b rest at short in cc)
  by_byte false b rest is at short = absurd (let no : Ok h ≡ Err refusals.BadStart = sym e ∙ ap header_at is ∙ header_noise b rest at in cc)

  by_list : (l : List ℕ) → s ≡ l → length l < HEADER_SIZE → HEADER_SIZE ≤ length s
  by_list [] is short = absurd (let no : Ok h ≡ Err refusals.Short = sym e ∙ ap header_at is in cc)
  by_list (b ∷ rest) is short = by_byte (b == START) b rest is refl short

  by_test : (c : Bool) → nat_lt (length s) HEADER_SIZE ≡ c → HEADER_SIZE ≤ length s
  by_test true is = by_list s refl (grind (arith, nat_tests))
  by_test false is = grind (arith, nat_tests)

decoded_fits : (s : List ℕ) → Fits (length s) (decoded s)
decoded_fits s =
    subst (Fits (length s)) (sym (by_header s (header_at s) refl))
    (bind_fits (length s) (header_at s) (behind_header s) λ h e.
    let long : HEADER_SIZE ≤ length s = header_long s h e in
    if_fits (length s) (h.k == CONTROL_K) _ _ (control_fits (length s) h long) (data_fits (length s) h (drop HEADER_SIZE s) (omega (arith, length-drop HEADER_SIZE s))))

-- ---- the search

-- what stands is found with more behind it, and what waits goes on as the whole
abbrev pub search_with : (more : List ℕ) → Search → Search
search_with more (waiting rest) = search_of (rest ++ more)
search_with more (standing item size others) = standing item size (others ++ more)

by_sum : (c : Bool) (b : ℕ) (s more : List ℕ) (now later : Search) → later ≡ search_with more now
    → (if c then later else standing bad 1 (b ∷ (s ++ more))) ≡ search_with more (if c then now else standing bad 1 (b ∷ s))
by_sum true b s more now later h = h
by_sum false b s more now later h = refl

second_byte : (b : ℕ) (s more : List ℕ) → decoded (b ∷ s) ≡ Err refusals.BadSum → slice_index (b ∷ (s ++ more)) 1 ≡ slice_index (b ∷ s) 1
second_byte b [] more e = by_start (b == START) refl where
  by_start : (c : Bool) → (b == START) ≡ c → slice_index (b ∷ more) 1 ≡ slice_index (b ∷ []) 1
  by_start true at = absurd (let no : Err refusals.BadSum ≡ Err refusals.Short = sym e ∙ by_header (b ∷ []) (Err refusals.Short) (header_short b [] at (omega arith)) in cc)
  by_start false at = absurd (let no : Err refusals.BadSum ≡ Err refusals.BadStart = sym e ∙ by_header (b ∷ []) (Err refusals.BadStart) (header_noise b [] at) in cc)
second_byte b (second ∷ s) more e = refl

step_with : (r : Result (PacketValue × ℕ) NoPacket) (b : ℕ) (s more : List ℕ) → decoded (b ∷ s) ≡ r → search_of (s ++ more) ≡ search_with more (search_of s)
    → search_of (b ∷ (s ++ more)) ≡ search_with more (search_by r (b ∷ s) (search_of s))
step_with (Ok front) b s more e h = ap (λ r. search_by r (b ∷ (s ++ more)) (search_of (s ++ more))) (read_again b s more (Ok front) e (λ x. cc))
step_with (Err refusals.Short) b s more e h = refl
step_with (Err refusals.BadLength) b s more e h = ap (λ r. search_by r (b ∷ (s ++ more)) (search_of (s ++ more))) (read_again b s more (Err refusals.BadLength) e (λ x. cc))
step_with (Err refusals.BadSum) b s more e h =
    ap (λ r. search_by r (b ∷ (s ++ more)) (search_of (s ++ more))) (read_again b s more (Err refusals.BadSum) e (λ x. cc))
    ∙ ap (λ (k : ℕ). if k == CONTROL_K then search_of (s ++ more) else standing bad 1 (b ∷ (s ++ more))) (second_byte b s more e)
    ∙ by_sum (slice_index (b ∷ s) 1 == CONTROL_K) b s more (search_of s) (search_of (s ++ more)) h
step_with (Err refusals.BadStart) b s more e h = ap (λ r. search_by r (b ∷ (s ++ more)) (search_of (s ++ more))) (read_again b s more (Err refusals.BadStart) e (λ x. cc)) ∙ h
step_with (Err refusals.BadK) b s more e h = ap (λ r. search_by r (b ∷ (s ++ more)) (search_of (s ++ more))) (read_again b s more (Err refusals.BadK) e (λ x. cc)) ∙ h
step_with (Err refusals.BadXor) b s more e h = ap (λ r. search_by r (b ∷ (s ++ more)) (search_of (s ++ more))) (read_again b s more (Err refusals.BadXor) e (λ x. cc)) ∙ h
step_with (Err refusals.BadKind) b s more e h = ap (λ r. search_by r (b ∷ (s ++ more)) (search_of (s ++ more))) (read_again b s more (Err refusals.BadKind) e (λ x. cc)) ∙ h

pub search_more : (s more : List ℕ) → search_of (s ++ more) ≡ search_with more (search_of s)
search_more [] more = refl
search_more (b ∷ s) more = step_with (decoded (b ∷ s)) b s more refl (search_more s more)

-- a packet takes a header at least, a broken one a byte
abbrev pub HasSize : Item → ℕ → Type 0
HasSize (found p) size = HEADER_SIZE ≤ size
HasSize bad size = size ≡ 1

-- what stands is there
abbrev pub Within : List ℕ → Search → Type 0
Within s (waiting rest) = length rest ≤ length s
Within s (standing item size others) = HasSize item size × (size ≤ length others) × (length others ≤ length s)

pub some_size : (item : Item) (size : ℕ) → HasSize item size → 0 < size
some_size (found p) size h = omega arith
some_size bad size h = omega arith

within_later : (b : ℕ) (s : List ℕ) (x : Search) → Within s x → Within (b ∷ s) x
within_later b s (waiting rest) h = omega arith
within_later b s (standing item size others) h = (h.0, h.1, omega (arith, h.2))

bad_within : (b : ℕ) (s : List ℕ) → Within (b ∷ s) (standing bad 1 (b ∷ s))
bad_within b s = (refl, omega arith, omega arith)

if_within : (s : List ℕ) (c : Bool) (x y : Search) → Within s x → Within s y → Within s (if c then x else y)
if_within s true x y h k = h
if_within s false x y h k = k

step_within : (r : Result (PacketValue × ℕ) NoPacket) (b : ℕ) (s : List ℕ) (later : Search) → Fits (length (b ∷ s)) r → Within s later
    → Within (b ∷ s) (search_by r (b ∷ s) later)
step_within (Ok front) b s later fits h = let size = fits.size front refl in (size.0, size.1, omega arith)
step_within (Err refusals.Short) b s later fits h = omega arith
step_within (Err refusals.BadLength) b s later fits h = bad_within b s
step_within (Err refusals.BadSum) b s later fits h =
    if_within (b ∷ s) (slice_index (b ∷ s) 1 == CONTROL_K) later (standing bad 1 (b ∷ s)) (within_later b s later h) (bad_within b s)
step_within (Err refusals.BadStart) b s later fits h = within_later b s later h
step_within (Err refusals.BadK) b s later fits h = within_later b s later h
step_within (Err refusals.BadXor) b s later fits h = within_later b s later h
step_within (Err refusals.BadKind) b s later fits h = within_later b s later h

pub search_within : (s : List ℕ) → Within s (search_of s)
search_within [] = omega arith
search_within (b ∷ s) = step_within (decoded (b ∷ s)) b s (search_of s) (decoded_fits (b ∷ s)) (search_within s)

-- what stands is found again at its place
abbrev pub IsFoundAgain : Search → Type 0
IsFoundAgain (waiting rest) = Unit {0}
IsFoundAgain (standing item size others) = search_of others ≡ standing item size others

bad_again : (c : Bool) (b : ℕ) (s : List ℕ) → search_of (b ∷ s) ≡ (if c then search_of s else standing bad 1 (b ∷ s)) → IsFoundAgain (search_of s)
    → IsFoundAgain (if c then search_of s else standing bad 1 (b ∷ s))
bad_again true b s e h = h
bad_again false b s e h = e

step_again : (r : Result (PacketValue × ℕ) NoPacket) (b : ℕ) (s : List ℕ) → search_of (b ∷ s) ≡ search_by r (b ∷ s) (search_of s) → IsFoundAgain (search_of s)
    → IsFoundAgain (search_by r (b ∷ s) (search_of s))
step_again (Ok front) b s e h = e
step_again (Err refusals.Short) b s e h = tt
step_again (Err refusals.BadLength) b s e h = e
step_again (Err refusals.BadSum) b s e h = bad_again (slice_index (b ∷ s) 1 == CONTROL_K) b s e h
step_again (Err refusals.BadStart) b s e h = h
step_again (Err refusals.BadK) b s e h = h
step_again (Err refusals.BadXor) b s e h = h
step_again (Err refusals.BadKind) b s e h = h

pub search_again : (s : List ℕ) → IsFoundAgain (search_of s)
search_again [] = tt
search_again (b ∷ s) = step_again (decoded (b ∷ s)) b s refl (search_again s)

-- a packet that is read at the front stands first
pub read_stands : (s : List ℕ) (p : PacketValue) (size : ℕ) → 0 < length s → decoded s ≡ Ok (p, size) → search_of s ≡ standing (found p) size s
read_stands [] p size some e = absurd (omega arith)
read_stands (b ∷ s) p size some e = ap (λ r. search_by r (b ∷ s) (search_of s)) e
