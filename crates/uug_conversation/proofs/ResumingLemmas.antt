-- A file of which a front is held: what is asked for, and what is sent, is the rest behind it.
use Rattle.std.proofs.Common.{◌≡◌, ℕ, ◌≤◌, Bool, true, false, ◌&&◌, nat_le, List, [], ◌∷◌, ◌++◌, length, drop, Option, Some, None, refl, sym, ap, subst, ◌∙◌, arith}
use Rattle.std.proofs.lemmas.Bool.Decides.{nat_tests}
use Rattle.std.proofs.lemmas.List.{length-append}
use Rattle.uug_talk.specs.Positions.{consent_text, position_told}
use Rattle.uug_talk.specs.declared.file_digest.FileDigest.{FileDigest}
use Rattle.uug_conversation.specs.Holdings.{File, Holdings, to_give}
use Rattle.uug_conversation.specs.Left.{IsLeft}
use Rattle.uug_conversation.specs.Partial.{Key, Partial}
use Rattle.uug_conversation.specs.Partials.{bytes_under, held_among, holding, is_key, none_of, partials_then, put}
use Rattle.uug_conversation.specs.Party.{HoldsFronts, HoldsNone, Party}
use Rattle.uug_conversation.proofs.PartialLemmas.{key_decides, put_displaces_none, put_is_held}
use Rattle.uug_conversation.specs.Resuming.{IsFront, front_held, front_of, front_where, position_heard, rest_from, rest_where}
use Rattle.uug_conversation.specs.Told.{heard, told_of}

pub off_hears_none : (digests : Bool) (text : List ℕ) → digests ≡ false → position_heard digests text ≡ 0
off_hears_none true text off = absurd cc
off_hears_none false text off = refl

is_within : (n m : ℕ) → n ≤ m → nat_le n m ≡ true
is_within n m h = grind (arith, nat_tests)

pub whole_from_first : (found : Option File) → rest_from 0 found ≡ found
whole_from_first None = refl
whole_from_first (Some file) = ap (λ within. rest_where within 0 file) (is_within 0 (length file.bytes) (omega arith))

-- ---- a front, and the rest behind it

behind_front : (front rest : List ℕ) → drop (length front) (front ++ rest) ≡ rest
behind_front [] rest = refl
behind_front (b ∷ front) rest = behind_front front rest

pub whole_again : (front whole : List ℕ) → IsFront front whole → front ++ drop (length front) whole ≡ whole
whole_again front whole is =
    ap (λ z. front ++ drop (length front) z) is.1 ∙ ap (λ z. front ++ z) (behind_front front is.0) ∙ sym is.1

pub front_short : (front whole : List ℕ) → IsFront front whole → length front ≤ length whole
front_short front whole is = omega (arith, ap length is.1, length-append front is.0)

pub rest_short : (front whole : List ℕ) → IsFront front whole → length (drop (length front) whole) ≤ length whole
rest_short front whole is =
    omega (arith, ap length (whole_again front whole is), length-append front (drop (length front) whole))

-- ---- a file that may be given, and what its taker holds of it

pub record GoesBehind (digests : Bool) (front : List ℕ) (file : File) : Type 0 where
  pub is_front : IsFront front file.bytes
  pub untold : digests ≡ false → front ≡ []

none_heard_of_none : (digests : Bool) → heard digests None ≡ None
none_heard_of_none true = refl
none_heard_of_none false = refl

untold_of : (found : Option File) → told_of false found ≡ None
untold_of None = refl
untold_of (Some file) = refl

-- of a giver that tells no digests nothing is held
none_held : (taker : Holdings) (source : List ℕ) (found : Option File) → front_held taker false source found ≡ []
none_held taker source found =
    ap (λ told. front_of taker source (heard taker.digests told)) (untold_of found)
    ∙ ap (λ told. front_of taker source told) (none_heard_of_none taker.digests)

pub goes_behind : (giver taker : Holdings) → HoldsFronts giver taker → (source : List ℕ) (found : Option File) → to_give giver source ≡ found →
    (file : File) → found ≡ Some file → GoesBehind giver.digests (front_held taker giver.digests source found) file
goes_behind giver taker fronts source found given file e = record {
  is_front = subst (λ z. IsFront (front_held taker giver.digests source z) file.bytes) (sym e) (fronts source file (given ∙ e));
  untold = λ off. ap (λ digests. front_held taker digests source found) off ∙ none_held taker source found;
}

heard_so : (digests : Bool) (front : List ℕ) → (digests ≡ false → front ≡ []) → position_told (consent_text (length front)) ≡ length front →
    position_heard digests (consent_text (length front)) ≡ length front
heard_so true front untold told = told
heard_so false front untold told = sym (ap length (untold refl))

-- where the position behind a front is asked for, the rest is sent
pub rest_sent : (digests : Bool) (front : List ℕ) (file : File) → GoesBehind digests front file →
    position_told (consent_text (length front)) ≡ length front → (found : Option File) → found ≡ Some file →
    rest_from (position_heard digests (consent_text (length front))) found
    ≡ Some (record { mode = file.mode; bytes = drop (length front) file.bytes })
rest_sent digests front file well told found e =
    ap (λ position. rest_from position found) (heard_so digests front well.untold told)
    ∙ ap (λ z. rest_from (length front) z) e
    ∙ ap (λ within. rest_where within (length front) file)
    (is_within (length front) (length file.bytes) (front_short front file.bytes well.is_front))

-- ---- nothing is held

none_among : (partials : Option (List Partial)) (source : List ℕ) (told : FileDigest) → held_among (none_of partials) source told ≡ []
none_among None source told = refl
none_among (Some ps) source told = refl

front_of_none : (h : Holdings) → HoldsNone h → (source : List ℕ) (told : Option FileDigest) → front_of h source told ≡ []
front_of_none h none source None = refl
front_of_none h none source (Some told) =
    ap (λ z. front_where (nat_le (length z) told.size && nat_le told.size h.limit) z)
    (ap (λ ps. held_among ps source told) none ∙ none_among h.partials source told)

pub none_again : (partials : Option (List Partial)) → none_of partials ≡ none_of (none_of partials)
none_again None = refl
none_again (Some ps) = refl

pub stays_without_left : (partials : Option (List Partial)) → partials ≡ partials_then partials None
stays_without_left None = refl
stays_without_left (Some ps) = refl

pub holds_no_fronts : (giver taker : Holdings) → HoldsNone taker → HoldsFronts giver taker
holds_no_fronts giver taker none source file e =
    (file.bytes, sym (ap (λ z. z ++ file.bytes) (front_of_none taker none source (heard taker.digests (told_of giver.digests (Some file))))))

-- ---- behind a session

filtered_front : (within : Bool) (bytes whole : List ℕ) → IsFront bytes whole → IsFront (front_where within bytes) whole
filtered_front within [] whole is = is
filtered_front true (b ∷ bytes) whole is = is
filtered_front false (b ∷ bytes) whole is = (whole, refl)

-- what is held of a file takes the place of what was held of it, and displaces nothing else
front_put : (h : Holdings) (ps : List Partial) (p : Partial) (source : List ℕ) (told : FileDigest) (whole : List ℕ) (same : Bool) →
    is_key p.key (record { source = source; told = told }) ≡ same → (p.key ≡ record { source = source; told = told } → IsFront p.bytes whole) →
    h.partials ≡ Some ps → IsFront (front_of h source (Some told)) whole → IsFront (front_of (holding (Some (put p ps)) h) source (Some told)) whole
front_put h ps p source told whole true e own are is =
    let key : Key = record { source = source; told = told } in
    let k : p.key ≡ key = (key_decides p.key key).0 e in
    subst (λ z. IsFront (front_where (nat_le (length z) told.size && nat_le told.size h.limit) z) whole)
    (sym (ap (λ z. bytes_under z (put p ps)) (sym k) ∙ put_is_held p ps))
    (filtered_front (nat_le (length p.bytes) told.size && nat_le told.size h.limit) p.bytes whole (own k))
front_put h ps p source told whole false e own are is =
    let key : Key = record { source = source; told = told } in
    subst (λ z. IsFront (front_where (nat_le (length z) told.size && nat_le told.size h.limit) z) whole)
    (ap (λ z. held_among z source told) are ∙ sym (put_displaces_none key p ps e)) is

front_then : (h : Holdings) (partials : Option (List Partial)) (left : Option Partial) (source : List ℕ) (told : Option FileDigest) (whole : List ℕ) →
    h.partials ≡ partials → ((p : Partial) → left ≡ Some p → p.key.source ≡ source → IsFront p.bytes whole) →
    IsFront (front_of h source told) whole → IsFront (front_of (holding (partials_then partials left) h) source told) whole
front_then h partials left source None whole are own is = is
front_then h None left source (Some told) whole are own is = (whole, refl)
front_then h (Some ps) None source (Some told) whole are own is =
    subst (λ z. IsFront (front_where (nat_le (length (held_among z source told)) told.size && nat_le told.size h.limit) (held_among z source told)) whole) are is
front_then h (Some ps) (Some p) source (Some told) whole are own is =
    front_put h ps p source told whole (is_key p.key (record { source = source; told = told })) refl
    (λ k. own p refl (ap (λ (key : Key). key.source) k)) are is

left_front : (giver : Party) (taker : Holdings) (left : Option Partial) → IsLeft giver taker left → (source : List ℕ) (file : File) →
    to_give giver.holdings source ≡ Some file → (p : Partial) → left ≡ Some p → p.key.source ≡ source → IsFront p.bytes file.bytes
left_front giver taker None is source file given p e same = absurd cc
left_front giver taker (Some q) is source file given p e same =
    let same_partial : q ≡ p = cc in
    let given_so : Some is.file ≡ Some file = sym is.is_given ∙ ap (λ (z : Partial). to_give giver.holdings z.key.source) same_partial
    ∙ ap (to_give giver.holdings) same ∙ given in
    let same_file : is.file ≡ file = cc in
    subst (λ (z : Partial). IsFront z.bytes file.bytes) same_partial
    (subst (λ (z : File). IsFront q.bytes z.bytes) same_file is.front)

-- what an end holds stays fronts of the other's files
pub fronts_then : (giver : Party) (taker : Holdings) (left : Option Partial) → HoldsFronts giver.holdings taker → IsLeft giver taker left →
    HoldsFronts giver.holdings (holding (partials_then taker.partials left) taker)
fronts_then giver taker left fronts is source file given =
    front_then taker taker.partials left source (heard taker.digests (told_of giver.holdings.digests (Some file))) file.bytes refl
    (left_front giver taker left is source file given) (fronts source file given)
