-- What remains of what an event had an end emit.
use Rattle.std.proofs.Common.{◌≡◌, ◌⊎◌, inl, inr, ◌==◌, ℕ, ◌≤◌, Bool, true, false, not, ◌&&◌, ◌||◌, List, [], ◌∷◌, ◌++◌, length, map, nat_lt, refl, sym, ap, ◌∙◌, arith}
use Rattle.std.proofs.lemmas.Bool.{and_from, and_left, and_parts, both_ways, eqb-true, false≢true, le-ltb, ltb-true, ne_eqb}
use Rattle.std.proofs.lemmas.List.{map-append}
use Rattle.std.specs.Cmp.Lexicographic.{bytes_decides}
use Rattle.std.specs.Str.{bytes_eq}
use Rattle.std.specs.List.{list_all, list_any}
use Rattle.uug_link.specs.Entries.{EntryValue, text, packet}
use Rattle.uug_packet.specs.Decoded.{decoded}
use Rattle.uug_packet.specs.declared.header.TheConstants.{HEADER_SIZE}
use Rattle.uug_session.specs.EndStep.{Emitted}
use Rattle.uug_session.specs.Engine.{entry_of}
use Rattle.uug_transfer.specs.Listening.{all_said}
use Rattle.uug_transfer.specs.Thinning.{IsLetThrough, RemainsData, RemainsRr, acknowledged, acknowledges, is_covered, is_left_out, is_packet, is_read_as_rr, is_repeated, is_rr, is_said_by, is_sent_again, thinned, unless_left_out}
use Rattle.uug_transfer.specs.Writing.{all_thinned}
use Rattle.uug_transfer.specs.declared.thinning.Thinning.{Thinning}
use Rattle.uug_transfer.specs.declared.thinning.Thinning.TheVariants.{Nothing, Repeats, RepeatsAndAcks}

-- ---- without thinning

pub nothing_left_out : (entries : List EntryValue) → thinned Nothing entries ≡ entries
nothing_left_out [] = refl
nothing_left_out (entry ∷ behind) = ap (λ (rest : List EntryValue). entry ∷ rest) (nothing_left_out behind)

pub all_remains : (says : List (List Emitted)) → all_thinned Nothing says ≡ map entry_of (all_said says)
all_remains [] = refl
all_remains (said ∷ more) =
    ap (λ (z : List EntryValue). z ++ all_thinned Nothing more) (nothing_left_out (map entry_of said))
    ∙ ap (λ (z : List EntryValue). map entry_of said ++ z) (all_remains more)
    ∙ sym (map-append entry_of said (all_said more))

-- ---- a text

pub text_remains : (thinning : Thinning) (behind : List EntryValue) (bytes : List ℕ) → is_left_out thinning (text bytes) behind ≡ false
text_remains Nothing behind bytes = refl
text_remains Repeats behind bytes = refl
text_remains RepeatsAndAcks [] bytes = refl
text_remains RepeatsAndAcks (next ∷ []) bytes = refl
text_remains RepeatsAndAcks (next ∷ last ∷ behind) bytes = refl

-- ---- an RR

-- an RR is no data packet
no_repeat : (entry : EntryValue) (behind : List EntryValue) → is_rr entry ≡ true → is_repeated entry behind ≡ false
no_repeat (text bytes) behind is = refl
no_repeat (packet bytes first) behind is =
    let size = eqb-true (length bytes) HEADER_SIZE (and_parts (length bytes == HEADER_SIZE) (is_read_as_rr (decoded bytes)) is).0 in
    let short : length bytes ≤ HEADER_SIZE = omega (arith, size) in
    and_left (nat_lt HEADER_SIZE (length bytes)) _ (le-ltb HEADER_SIZE (length bytes) short)

-- ---- a data packet

-- a data packet is no RR
no_rr : (bytes : List ℕ) (first : Bool) → nat_lt HEADER_SIZE (length bytes) ≡ true → is_rr (packet bytes first) ≡ false
no_rr bytes first long =
    let larger = ltb-true HEADER_SIZE (length bytes) long in
    and_left (length bytes == HEADER_SIZE) (is_read_as_rr (decoded bytes)) (ne_eqb (length bytes) HEADER_SIZE (λ same. omega (arith, larger, same)))

not_covered : (bytes : List ℕ) (first : Bool) (behind : List EntryValue) → nat_lt HEADER_SIZE (length bytes) ≡ true →
    is_covered (packet bytes first) behind ≡ false
not_covered bytes first [] long = refl
not_covered bytes first (next ∷ []) long =
    and_left (is_rr (packet bytes first)) (is_said_by (packet bytes first) next) (no_rr bytes first long)
not_covered bytes first (next ∷ last ∷ behind) long =
    and_left (is_rr (packet bytes first)) (is_said_by (packet bytes first) next || (is_rr next && (is_rr last || is_said_by next last)))
    (no_rr bytes first long)

or_false : (a b : Bool) → b ≡ false → (a || b) ≡ true → a ≡ true
or_false true b is either = refl
or_false false b is either = absurd (both_ways b is either)

repeats : (thinning : Thinning) (bytes : List ℕ) (first : Bool) (behind : List EntryValue) →
    nat_lt HEADER_SIZE (length bytes) ≡ true → is_left_out thinning (packet bytes first) behind ≡ true →
    is_repeated (packet bytes first) behind ≡ true
repeats Nothing bytes first behind long out = absurd (false≢true out)
repeats Repeats bytes first behind long out = out
repeats RepeatsAndAcks bytes first behind long out =
    or_false (is_repeated (packet bytes first) behind) (is_covered (packet bytes first) behind) (not_covered bytes first behind long) out

-- one that was sent before is a packet of these bytes
sent_again_is : (bytes : List ℕ) (entry : EntryValue) → is_sent_again bytes entry ≡ true → is_packet bytes entry ≡ true
sent_again_is bytes (text other) is = is
sent_again_is bytes (packet other first) is = (and_parts (not first) (bytes_eq other bytes) is).1

or_left : (a b : Bool) → a ≡ true → (a || b) ≡ true
or_left true b is = refl
or_left false b is = absurd (false≢true is)

or_right : (a b : Bool) → b ≡ true → (a || b) ≡ true
or_right true b is = refl
or_right false b is = is

either_step : (a b a' b' : Bool) → (a || b) ≡ true → (a ≡ true → a' ≡ true) → (b ≡ true → b' ≡ true) → (a' || b') ≡ true
either_step true b a' b' either first second = or_left a' b' (first refl)
either_step false b a' b' either first second = or_right a' b' (second either)

any_again : (bytes : List ℕ) (entries : List EntryValue) → list_any (is_sent_again bytes) entries ≡ true →
    list_any (is_packet bytes) entries ≡ true
any_again bytes [] again = again
any_again bytes (entry ∷ behind) again =
    either_step (is_sent_again bytes entry) (list_any (is_sent_again bytes) behind) (is_packet bytes entry) (list_any (is_packet bytes) behind)
    again (sent_again_is bytes entry) (any_again bytes behind)

-- where it is left out, an equal one stands behind
equal_behind : (thinning : Thinning) (bytes : List ℕ) (entry : EntryValue) (behind : List EntryValue) →
    nat_lt HEADER_SIZE (length bytes) ≡ true → is_packet bytes entry ≡ true → is_left_out thinning entry behind ≡ true →
    list_any (is_packet bytes) behind ≡ true
equal_behind thinning bytes (text other) behind long same out = absurd (false≢true same)
equal_behind thinning bytes (packet other first) behind long same out =
    let is : other ≡ bytes = (bytes_decides other bytes).0 same in
    let large : nat_lt HEADER_SIZE (length other) ≡ true = ap (λ (z : List ℕ). nat_lt HEADER_SIZE (length z)) is ∙ long in
    let again = repeats thinning other first behind large out in
    let sent = (and_parts (nat_lt HEADER_SIZE (length other)) (list_any (is_sent_again other) behind) again).1 in
    any_again bytes behind (ap (λ (z : List ℕ). list_any (is_sent_again z) behind) (sym is) ∙ sent)

-- it remains where this one does, or where one behind it does
found_behind : (bytes : List ℕ) (out : Bool) (entry : EntryValue) (rest : List EntryValue) → list_any (is_packet bytes) rest ≡ true →
    list_any (is_packet bytes) (unless_left_out out entry rest) ≡ true
found_behind bytes true entry rest found = found
found_behind bytes false entry rest found = or_right (is_packet bytes entry) (list_any (is_packet bytes) rest) found

here_step : (thinning : Thinning) (bytes : List ℕ) (entry : EntryValue) (behind : List EntryValue) (out : Bool) →
    nat_lt HEADER_SIZE (length bytes) ≡ true → is_packet bytes entry ≡ true → is_left_out thinning entry behind ≡ out →
    (list_any (is_packet bytes) behind ≡ true → list_any (is_packet bytes) (thinned thinning behind) ≡ true) →
    list_any (is_packet bytes) (unless_left_out out entry (thinned thinning behind)) ≡ true
here_step thinning bytes entry behind true long same out later = later (equal_behind thinning bytes entry behind long same out)
here_step thinning bytes entry behind false long same out later =
    or_left (is_packet bytes entry) (list_any (is_packet bytes) (thinned thinning behind)) same

at_entry : (thinning : Thinning) (bytes : List ℕ) (entry : EntryValue) (behind : List EntryValue) (same : Bool) →
    nat_lt HEADER_SIZE (length bytes) ≡ true → is_packet bytes entry ≡ same → (same || list_any (is_packet bytes) behind) ≡ true →
    (list_any (is_packet bytes) behind ≡ true → list_any (is_packet bytes) (thinned thinning behind) ≡ true) →
    list_any (is_packet bytes) (thinned thinning (entry ∷ behind)) ≡ true
at_entry thinning bytes entry behind true long same stands later =
    here_step thinning bytes entry behind (is_left_out thinning entry behind) long same refl later
at_entry thinning bytes entry behind false long same stands later =
    found_behind bytes (is_left_out thinning entry behind) entry (thinned thinning behind) (later stands)

pub data_remains : (thinning : Thinning) (bytes : List ℕ) (entries : List EntryValue) → nat_lt HEADER_SIZE (length bytes) ≡ true →
    list_any (is_packet bytes) entries ≡ true → list_any (is_packet bytes) (thinned thinning entries) ≡ true
data_remains thinning bytes [] long stands = stands
data_remains thinning bytes (entry ∷ behind) long stands =
    at_entry thinning bytes entry behind (is_packet bytes entry) long refl stands (data_remains thinning bytes behind long)

-- where it is left out, an equal one remains behind it
pub sent_behind : (thinning : Thinning) (bytes : List ℕ) (entry : EntryValue) (behind : List EntryValue) →
    nat_lt HEADER_SIZE (length bytes) ≡ true → is_packet bytes entry ≡ true → is_left_out thinning entry behind ≡ true →
    list_any (is_packet bytes) (thinned thinning behind) ≡ true
sent_behind thinning bytes entry behind long same out =
    data_remains thinning bytes behind long (equal_behind thinning bytes entry behind long same out)

-- ---- an RR that is left out

or_cases : (a b : Bool) → (a || b) ≡ true → (a ≡ true) ⊎ (b ≡ true)
or_cases true b either = inl refl
or_cases false b either = inr either

by_rr : (next : EntryValue) (later : Bool) {said : Type 0} → said ⊎ ((is_rr next && later) ≡ true) → said ⊎ (is_rr next ≡ true)
by_rr next later (inl says) = inl says
by_rr next later (inr rr) = inr (and_parts (is_rr next) later rr).0

-- the next says as much, or is an RR
covers : (thinning : Thinning) (entry next : EntryValue) (behind : List EntryValue) → is_rr entry ≡ true →
    is_left_out thinning entry (next ∷ behind) ≡ true → (is_said_by entry next ≡ true) ⊎ (is_rr next ≡ true)
covers Nothing entry next behind is out = absurd (false≢true out)
covers Repeats entry next behind is out = absurd (both_ways (is_repeated entry (next ∷ behind)) (no_repeat entry (next ∷ behind) is) out)
covers RepeatsAndAcks entry next [] is out =
    inl (and_parts (is_rr entry) (is_said_by entry next)
    (ap (λ (b : Bool). b || (is_rr entry && is_said_by entry next)) (sym (no_repeat entry (next ∷ []) is)) ∙ out)).1
covers RepeatsAndAcks entry next (last ∷ behind) is out =
    let later = is_rr last || is_said_by next last in
    let said = (and_parts (is_rr entry) (is_said_by entry next || (is_rr next && later))
    (ap (λ (b : Bool). b || (is_rr entry && (is_said_by entry next || (is_rr next && later)))) (sym (no_repeat entry (next ∷ last ∷ behind) is))
    ∙ out)).1 in
    by_rr next later (or_cases (is_said_by entry next) (is_rr next && later) said)

-- the last one is not left out
alone : (thinning : Thinning) (entry : EntryValue) → is_rr entry ≡ true → is_left_out thinning entry [] ≡ false
alone Nothing entry is = refl
alone Repeats entry is = no_repeat entry [] is
alone RepeatsAndAcks entry is = ap (λ (b : Bool). b || false) (no_repeat entry [] is)

itself : (thinning : Thinning) (entry : EntryValue) (behind : List EntryValue) → is_rr entry ≡ true →
    is_left_out thinning entry behind ≡ false → RemainsRr thinning (entry ∷ behind)
itself thinning entry behind is stays = record {
  passed = [];
  last = entry;
  behind = behind;
  remaining = thinned thinning behind;
  parts = refl;
  only_rrs = refl;
  is = is;
  remains = ap (λ (out : Bool). unless_left_out out entry (thinned thinning behind)) stays;
}

-- a packet of the bytes of one that says as much has a field
says_long : (header : List ℕ) (carrier : EntryValue) (bytes : List ℕ) → acknowledges header carrier ≡ true → is_packet bytes carrier ≡ true →
    nat_lt HEADER_SIZE (length bytes) ≡ true
says_long header (text other) bytes says same = absurd (false≢true says)
says_long header (packet other first) bytes says same =
    let is : other ≡ bytes = (bytes_decides other bytes).0 same in
    let numbers = acknowledged other == acknowledged header in
    let long = (and_parts (nat_lt HEADER_SIZE (length other)) numbers
    (and_parts first (nat_lt HEADER_SIZE (length other) && numbers) says).1).0 in
    ap (λ (z : List ℕ). nat_lt HEADER_SIZE (length z)) (sym is) ∙ long

is_long : (entry carrier : EntryValue) (bytes : List ℕ) → is_said_by entry carrier ≡ true → is_packet bytes carrier ≡ true →
    nat_lt HEADER_SIZE (length bytes) ≡ true
is_long (text other) carrier bytes says same = absurd (false≢true says)
is_long (packet header first) carrier bytes says same =
    says_long header carrier bytes (and_parts (length header == HEADER_SIZE) (acknowledges header carrier) says).1 same

-- the next is a new data packet
by_data : (thinning : Thinning) (entry carrier : EntryValue) (rest : List EntryValue) → is_rr entry ≡ true → is_said_by entry carrier ≡ true →
    RemainsData thinning entry (carrier ∷ rest)
by_data thinning entry carrier rest is says = record {
  passed = [];
  last = entry;
  carrier = carrier;
  rest = rest;
  parts = refl;
  only_rrs = refl;
  is = is;
  says = says;
  remains = λ bytes same. data_remains thinning bytes (carrier ∷ rest) (is_long entry carrier bytes says same)
      (or_left (is_packet bytes carrier) (list_any (is_packet bytes) rest) same);
}

-- what is said behind the next is said behind this one
later_rr : (thinning : Thinning) (entry : EntryValue) (behind : List EntryValue) → is_rr entry ≡ true →
    is_left_out thinning entry behind ≡ true → RemainsRr thinning behind → RemainsRr thinning (entry ∷ behind)
later_rr thinning entry behind is gone on = record {
  passed = entry ∷ on.passed;
  last = on.last;
  behind = on.behind;
  remaining = on.remaining;
  parts = ap (λ (z : List EntryValue). entry ∷ z) on.parts;
  only_rrs = and_from (is_rr entry) (list_all is_rr on.passed) is on.only_rrs;
  is = on.is;
  remains = ap (λ (out : Bool). unless_left_out out entry (thinned thinning behind)) gone ∙ on.remains;
}

later_data : (thinning : Thinning) (entry next : EntryValue) (behind : List EntryValue) → is_rr entry ≡ true →
    RemainsData thinning next behind → RemainsData thinning entry (next ∷ behind)
later_data thinning entry next behind is on = record {
  passed = entry ∷ on.passed;
  last = on.last;
  carrier = on.carrier;
  rest = on.rest;
  parts = ap (λ (z : List EntryValue). entry ∷ z) on.parts;
  only_rrs = and_from (is_rr entry) (list_all is_rr on.passed) is on.only_rrs;
  is = on.is;
  says = on.says;
  remains = on.remains;
}

-- an RR remains, or is said by what stands behind it
abbrev IsSaid : (thinning : Thinning) (entry : EntryValue) (behind : List EntryValue) → Type 0
IsSaid thinning entry behind = RemainsRr thinning (entry ∷ behind) ⊎ RemainsData thinning entry behind

with_next : (thinning : Thinning) (entry next : EntryValue) (behind : List EntryValue) → is_rr entry ≡ true →
    is_left_out thinning entry (next ∷ behind) ≡ true → IsSaid thinning next behind → IsSaid thinning entry (next ∷ behind)
with_next thinning entry next behind is gone (inl on) = inl (later_rr thinning entry (next ∷ behind) is gone on)
with_next thinning entry next behind is gone (inr on) = inr (later_data thinning entry next behind is on)

by_cover : (thinning : Thinning) (entry next : EntryValue) (behind : List EntryValue) → is_rr entry ≡ true →
    is_left_out thinning entry (next ∷ behind) ≡ true → (is_said_by entry next ≡ true) ⊎ (is_rr next ≡ true) →
    (is_rr next ≡ true → IsSaid thinning next behind) → IsSaid thinning entry (next ∷ behind)
by_cover thinning entry next behind is gone (inl says) later = inr (by_data thinning entry next behind is says)
by_cover thinning entry next behind is gone (inr rr) later = with_next thinning entry next behind is gone (later rr)

by_whether : (thinning : Thinning) (entry : EntryValue) (behind : List EntryValue) (out : Bool) → is_rr entry ≡ true →
    is_left_out thinning entry behind ≡ out → (is_left_out thinning entry behind ≡ true → IsSaid thinning entry behind) →
    IsSaid thinning entry behind
by_whether thinning entry behind false is stays later = inl (itself thinning entry behind is stays)
by_whether thinning entry behind true is gone later = later gone

rr_is_said : (thinning : Thinning) (entry : EntryValue) (behind : List EntryValue) → is_rr entry ≡ true → IsSaid thinning entry behind
rr_is_said thinning entry [] is = inl (itself thinning entry [] is (alone thinning entry is))
rr_is_said thinning entry (next ∷ behind) is =
    by_whether thinning entry (next ∷ behind) (is_left_out thinning entry (next ∷ behind)) is refl
    (λ out. by_cover thinning entry next behind is out (covers thinning entry next behind is out) (rr_is_said thinning next behind))

-- behind one that is left out
behind_one : (thinning : Thinning) (entry next : EntryValue) (behind : List EntryValue) → is_rr entry ≡ true →
    IsSaid thinning next behind → RemainsRr thinning (next ∷ behind) ⊎ RemainsData thinning entry (next ∷ behind)
behind_one thinning entry next behind is (inl on) = inl on
behind_one thinning entry next behind is (inr on) = inr (later_data thinning entry next behind is on)

covered_by : (thinning : Thinning) (entry next : EntryValue) (behind : List EntryValue) → is_rr entry ≡ true →
    (is_said_by entry next ≡ true) ⊎ (is_rr next ≡ true) → RemainsRr thinning (next ∷ behind) ⊎ RemainsData thinning entry (next ∷ behind)
covered_by thinning entry next behind is (inl says) = inr (by_data thinning entry next behind is says)
covered_by thinning entry next behind is (inr rr) = behind_one thinning entry next behind is (rr_is_said thinning next behind rr)

pub rr_covered : (thinning : Thinning) (entry : EntryValue) (behind : List EntryValue) → is_rr entry ≡ true →
    is_left_out thinning entry behind ≡ true → RemainsRr thinning behind ⊎ RemainsData thinning entry behind
rr_covered thinning entry [] is out = absurd (both_ways (is_left_out thinning entry []) (alone thinning entry is) out)
rr_covered thinning entry (next ∷ behind) is out = covered_by thinning entry next behind is (covers thinning entry next behind is out)

-- ---- all of it

pub is_let_through : (thinning : Thinning) (entries : List EntryValue) → IsLetThrough entries (thinned thinning entries)
is_let_through thinning [] = ([], refl)
is_let_through thinning (entry ∷ behind) =
    let more = is_let_through thinning behind in (
      is_left_out thinning entry behind ∷ more.0,
      ap (λ (z : List EntryValue). unless_left_out (is_left_out thinning entry behind) entry z) more.1,
    )
