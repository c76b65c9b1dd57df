-- How the program finds what is left out.
use Rattle.std.proofs.Common.{◌≡◌, ℕ, zero, suc, ◌+◌, ◌<◌, ◌≤◌, Bool, true, false, ◌&&◌, ◌||◌, List, [], ◌∷◌, ◌++◌, Option, Some, length, drop, slice_get, nat_lt, refl, sym, ap, ◌∙◌, arith}
use Rattle.std.proofs.lemmas.Bool.{le-ltb, lt-ltb}
use Rattle.std.proofs.lemmas.List.{drop_all}
use Rattle.std.specs.List.{list_any}
use Rattle.uug_link.specs.Entries.{EntryValue, packet}
use Rattle.uug_packet.specs.declared.header.TheConstants.{HEADER_SIZE}
use Rattle.uug_transfer.proofs.OutgoingLemmas.{drop_one, one_counts, one_goes}
use Rattle.uug_transfer.specs.Outgoing.{count_behind, count_with, outgoing_from, outgoing_of_entry}
use Rattle.uug_transfer.specs.Thinning.{is_covered, is_covered_of, is_left_out_at, is_left_out_of, is_repeated, is_repeated_of, is_rr, is_said_by, is_sent_again, thinned, unless_left_out}
use Rattle.uug_transfer.specs.declared.thinning.Thinning.{Thinning}
use Rattle.uug_transfer.specs.declared.thinning.Thinning.TheVariants.{Nothing, Repeats, RepeatsAndAcks}

-- ---- the entry at a place

pub entry_there : (es : List EntryValue) (i : ℕ) → i < length es → (e : EntryValue) × (slice_get es i ≡ Some e)
entry_there [] i within = absurd (omega (arith, within))
entry_there (e ∷ es) zero within = (e, refl)
entry_there (e ∷ es) (suc i) within = entry_there es i (omega (arith, within))

-- ---- what remains from a place on

pub remaining_one : (thinning : Thinning) (es : List EntryValue) (i : ℕ) (e : EntryValue) → slice_get es i ≡ Some e →
    thinned thinning (drop i es) ≡ unless_left_out (is_left_out_at thinning es i) e (thinned thinning (drop (i + 1) es))
remaining_one thinning es i e got =
    let rest = drop (i + 1) es in
    let at : drop i es ≡ e ∷ rest = drop_one es i e got in
    ap (thinned thinning) at
    ∙ ap (λ (z : List EntryValue). unless_left_out (is_left_out_of thinning z) e (thinned thinning rest)) (sym at)

-- where it is left out
pub one_gone : (thinning : Thinning) (es : List EntryValue) (i : ℕ) → i < length es → is_left_out_at thinning es i ≡ true →
    thinned thinning (drop i es) ≡ thinned thinning (drop (i + 1) es)
one_gone thinning es i within out =
    let there = entry_there es i within in
    remaining_one thinning es i there.0 there.1
    ∙ ap (λ (b : Bool). unless_left_out b there.0 (thinned thinning (drop (i + 1) es))) out

-- where it goes out
pub one_stays : (thinning : Thinning) (es : List EntryValue) (i : ℕ) (e : EntryValue) → slice_get es i ≡ Some e →
    is_left_out_at thinning es i ≡ false → thinned thinning (drop i es) ≡ e ∷ thinned thinning (drop (i + 1) es)
one_stays thinning es i e got stays =
    remaining_one thinning es i e got ∙ ap (λ (b : Bool). unless_left_out b e (thinned thinning (drop (i + 1) es))) stays

-- what has gone out, and what goes out of what remains from there on, behind an entry that is left out
pub skip_goes : (t : Thinning) (d f : Option ℕ) (n i : ℕ) (es : List EntryValue) (out : List ℕ) (r : Bool) → i < length es →
    r ≡ is_left_out_at t es i → r ≡ true →
    out ++ outgoing_from d f n (thinned t (drop (i + 1) es)) ≡ out ++ outgoing_from d f n (thinned t (drop i es))
skip_goes t d f n i es out r within r-is gone =
    ap (λ z. out ++ outgoing_from d f n z) (sym (one_gone t es i within (sym r-is ∙ gone)))

pub skip_counts : (t : Thinning) (n i : ℕ) (es : List EntryValue) (r : Bool) → i < length es → r ≡ is_left_out_at t es i → r ≡ true →
    count_behind n (thinned t (drop (i + 1) es)) ≡ count_behind n (thinned t (drop i es))
skip_counts t n i es r within r-is gone = ap (count_behind n) (sym (one_gone t es i within (sym r-is ∙ gone)))

-- behind one that goes out
pub step_goes : (t t' : Thinning) (d f d' f' : Option ℕ) (n n' i : ℕ) (es : List EntryValue) (e : EntryValue) (out new : List ℕ) →
    slice_get es i ≡ Some e → (r : Bool) → r ≡ is_left_out_at t es i → r ≡ false → t' ≡ t → d' ≡ d → f' ≡ f → n' ≡ count_with n e →
    new ≡ out ++ outgoing_of_entry d f n e →
    new ++ outgoing_from d' f' n' (thinned t' (drop (i + 1) es)) ≡ out ++ outgoing_from d f n (thinned t (drop i es))
step_goes t t' d f d' f' n n' i es e out new got r r-is stays t-is d-is f-is n-is new-is =
    ap (λ z. new ++ outgoing_from d' f' n' (thinned z (drop (i + 1) es))) t-is
    ∙ one_goes d f d' f' n n' (thinned t (drop i es)) (thinned t (drop (i + 1) es)) e out new
    (one_stays t es i e got (sym r-is ∙ stays)) d-is f-is n-is new-is

pub step_counts : (t t' : Thinning) (n n' i : ℕ) (es : List EntryValue) (e : EntryValue) →
    slice_get es i ≡ Some e → (r : Bool) → r ≡ is_left_out_at t es i → r ≡ false → t' ≡ t → n' ≡ count_with n e →
    count_behind n' (thinned t' (drop (i + 1) es)) ≡ count_behind n (thinned t (drop i es))
step_counts t t' n n' i es e got r r-is stays t-is n-is =
    ap (λ z. count_behind n' (thinned z (drop (i + 1) es))) t-is
    ∙ one_counts n n' (thinned t (drop i es)) (thinned t (drop (i + 1) es)) e (one_stays t es i e got (sym r-is ∙ stays)) n-is

-- ---- what is left out at a place

pub repeated_at : (es : List EntryValue) (i : ℕ) (e : EntryValue) → slice_get es i ≡ Some e →
    is_repeated_of (drop i es) ≡ is_repeated e (drop (i + 1) es)
repeated_at es i e got = ap is_repeated_of (drop_one es i e got)

-- of a data packet
pub repeated_long : (es : List EntryValue) (i : ℕ) (bytes : List ℕ) (first found : Bool) → slice_get es i ≡ Some (packet bytes first) →
    HEADER_SIZE < length bytes → found ≡ list_any (is_sent_again bytes) (drop (i + 1) es) → found ≡ is_repeated_of (drop i es)
repeated_long es i bytes first found got large is =
    is ∙ ap (λ (b : Bool). b && list_any (is_sent_again bytes) (drop (i + 1) es)) (sym (lt-ltb HEADER_SIZE (length bytes) large))
    ∙ sym (repeated_at es i (packet bytes first) got)

-- of a header alone
pub repeated_short : (es : List EntryValue) (i : ℕ) (bytes : List ℕ) (first : Bool) → slice_get es i ≡ Some (packet bytes first) →
    length bytes ≤ HEADER_SIZE → nat_lt HEADER_SIZE (length bytes) ≡ is_repeated_of (drop i es)
repeated_short es i bytes first got short =
    let small = le-ltb HEADER_SIZE (length bytes) short in
    small ∙ ap (λ (b : Bool). b && list_any (is_sent_again bytes) (drop (i + 1) es)) (sym small)
    ∙ sym (repeated_at es i (packet bytes first) got)

-- ---- whether a packet goes out again from a place on

again_one : (bytes : List ℕ) (es : List EntryValue) (i : ℕ) (e : EntryValue) → slice_get es i ≡ Some e →
    list_any (is_sent_again bytes) (drop i es) ≡ (is_sent_again bytes e || list_any (is_sent_again bytes) (drop (i + 1) es))
again_one bytes es i e got = ap (list_any (is_sent_again bytes)) (drop_one es i e got)

-- it is the one at that place
pub again_here : (bytes : List ℕ) (es : List EntryValue) (i : ℕ) (e : EntryValue) (r all : Bool) → slice_get es i ≡ Some e →
    r ≡ is_sent_again bytes e → r ≡ true → all ≡ list_any (is_sent_again bytes) (drop i es) → true ≡ all
again_here bytes es i e r all got r-is same all-is =
    ap (λ (b : Bool). b || list_any (is_sent_again bytes) (drop (i + 1) es)) (sym same ∙ r-is)
    ∙ sym (again_one bytes es i e got) ∙ sym all-is

-- it is another
pub again_later : (bytes : List ℕ) (es : List EntryValue) (i : ℕ) (e : EntryValue) (r all : Bool) → slice_get es i ≡ Some e →
    r ≡ is_sent_again bytes e → r ≡ false → all ≡ list_any (is_sent_again bytes) (drop i es) →
    all ≡ list_any (is_sent_again bytes) (drop (i + 1) es)
again_later bytes es i e r all got r-is other all-is =
    all-is ∙ again_one bytes es i e got
    ∙ ap (λ (b : Bool). b || list_any (is_sent_again bytes) (drop (i + 1) es)) (sym r-is ∙ other)

-- ---- what two more cover

-- the last one is not
pub covered_last : (es : List EntryValue) (i : ℕ) → length es ≤ i + 1 → false ≡ is_covered_of (drop i es)
covered_last [] zero last = refl
covered_last (e ∷ []) zero last = refl
covered_last (e ∷ next ∷ es) zero last = absurd (omega (arith, last))
covered_last [] (suc i) last = refl
covered_last (e ∷ es) (suc i) last = covered_last es i (omega (arith, last))

two_on : (i : ℕ) → i + 1 + 1 ≡ i + 2
two_on i = omega (arith)

pub covered_two : (es : List EntryValue) (i : ℕ) (e next : EntryValue) (r : Bool) → slice_get es i ≡ Some e →
    slice_get es (i + 1) ≡ Some next → length es ≤ i + 2 → r ≡ (is_rr e && is_said_by e next) → r ≡ is_covered_of (drop i es)
covered_two es i e next r got second over r-is =
    let none : drop (i + 1 + 1) es ≡ [] = drop_all (i + 1 + 1) es (omega (arith, over)) in
    r-is ∙ sym (ap is_covered_of (drop_one es i e got) ∙ ap (is_covered e) (drop_one es (i + 1) next second)
    ∙ ap (λ (z : List EntryValue). is_covered e (next ∷ z)) none)

pub covered_three : (es : List EntryValue) (i : ℕ) (e next last : EntryValue) (r : Bool) → slice_get es i ≡ Some e →
    slice_get es (i + 1) ≡ Some next → slice_get es (i + 2) ≡ Some last →
    r ≡ (is_rr e && (is_said_by e next || (is_rr next && (is_rr last || is_said_by next last)))) → r ≡ is_covered_of (drop i es)
covered_three es i e next last r got second third r-is =
    let from_third : drop (i + 1 + 1) es ≡ last ∷ drop (i + 2 + 1) es =
    ap (λ (k : ℕ). drop k es) (two_on i) ∙ drop_one es (i + 2) last third in
    r-is ∙ sym (ap is_covered_of (drop_one es i e got) ∙ ap (is_covered e) (drop_one es (i + 1) next second)
    ∙ ap (λ (z : List EntryValue). is_covered e (next ∷ z)) from_third)

-- ---- by the thinning

pub nothing_of : (entries : List EntryValue) → is_left_out_of Nothing entries ≡ false
nothing_of [] = refl
nothing_of (entry ∷ behind) = refl

pub repeats_of : (entries : List EntryValue) → is_left_out_of Repeats entries ≡ is_repeated_of entries
repeats_of [] = refl
repeats_of (entry ∷ behind) = refl

pub either_of : (entries : List EntryValue) → is_left_out_of RepeatsAndAcks entries ≡ (is_repeated_of entries || is_covered_of entries)
either_of [] = refl
either_of (entry ∷ behind) = refl
