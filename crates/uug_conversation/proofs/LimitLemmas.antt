-- A text or a file that is past its limit.
use Rattle.std.proofs.Common.{IsTrue, ◌≡◌, ◌↔◌, ℕ, ◌<◌, ◌≤◌, nat_le, nat_lt, Bool, true, false, ◌&&◌, if◌then◌else◌, List, [], ◌∷◌, length, map, bytes_eq, Option, Some, None, refl, sym, ap, subst, ◌∙◌, arith}
use Rattle.std.proofs.lemmas.Bool.Decides.{nat_tests}
use Rattle.std.proofs.lemmas.List.Folds.{list_all-map}
use Rattle.uug_talk.specs.Gathering.{Gathering, Kind, limit_of}
use Rattle.uug_conversation.specs.declared.awaits.Awaits.{Awaits}
use Rattle.std.specs.List.{list_all}
use Rattle.uug_conversation.specs.Jobs.{Lists}
use Rattle.uug_conversation.specs.MemoryHoldings.{MemoryHoldings, first_named, gives_within, kept_of}
use Rattle.uug_conversation.specs.declared.stored.Stored.{Stored}
use Rattle.uug_conversation.specs.Holdings.{File, Holdings, within_limit, to_give}
use Rattle.uug_conversation.specs.Machine.{State, kind_awaited, on_past_limit, on_part, on_gathering, gathered_with, step, out_of_turn}

-- ---- what comes

is_true : (a b : ℕ) → a < b → nat_lt a b ≡ true
is_true a b h = grind (arith, h)

past_gathering : (g : Gathering) (h : Holdings) (s : State) → limit_of g.kind < length g.bytes →
    on_gathering g h s ≡ on_past_limit h.lenient g.kind s.awaits s.lists
past_gathering g h s long = ap (λ (b : Bool). on_part b g h s) (is_true (limit_of g.kind) (length g.bytes) long)

pub past_limit : (h : Holdings) (s : State) (message : List ℕ)
    → limit_of (gathered_with s message).kind < length (gathered_with s message).bytes
    → step h s message ≡ on_past_limit h.lenient (kind_awaited s.awaits) s.awaits s.lists
past_limit h s message long = past_gathering (gathered_with s message) h s long

strict_limit : (kind : Kind) (awaited : Awaits) (l : Lists) → on_past_limit false kind awaited l ≡ out_of_turn l
strict_limit kind awaited l = refl

pub past_strict_limit : (h : Holdings) (s : State) (message : List ℕ) → h.lenient ≡ false
    → limit_of (gathered_with s message).kind < length (gathered_with s message).bytes → step h s message ≡ out_of_turn s.lists
past_strict_limit h s message strict long =
    past_limit h s message long
    ∙ ap (λ (b : Bool). on_past_limit b (kind_awaited s.awaits) s.awaits s.lists) strict
    ∙ strict_limit (kind_awaited s.awaits) s.awaits s.lists

-- ---- what is given

given : (limit : ℕ) (found : Option File) (file : File) → within_limit limit found ≡ Some file → (found ≡ Some file) × (length file.bytes ≤ limit)
given limit None file e = absurd cc
given limit (Some f) file e =
    let small : length f.bytes ≤ limit = grind (arith, nat_tests, e) in
    let same : f ≡ file = grind (arith, nat_tests, e) in
    (ap (λ (z : File). Some z) same, subst (λ (z : File). length z.bytes ≤ limit) same small)

small_file : (limit : ℕ) (file : File) → length file.bytes ≤ limit → within_limit limit (Some file) ≡ Some file
small_file limit file h = grind (arith, nat_tests, h)

large_file : (limit : ℕ) (file : File) → limit < length file.bytes → within_limit limit (Some file) ≡ None
large_file limit file h = grind (arith, nat_tests, h)

pub given_file : (limit : ℕ) (found : Option File) (file : File) → (within_limit limit found ≡ Some file) ↔ ((found ≡ Some file) × (length file.bytes ≤ limit))
given_file limit found file = (given limit found file, λ h. ap (within_limit limit) h.0 ∙ small_file limit file h.1)

pub may_be_given : (h : Holdings) (name : List ℕ) (file : File) → (to_give h name ≡ Some file) ↔ ((h.file name ≡ Some file) × (length file.bytes ≤ h.limit))
may_be_given h name file = given_file h.limit (h.file name) file

pub too_large : (h : Holdings) (name : List ℕ) (file : File) → h.file name ≡ Some file → h.limit < length file.bytes → to_give h name ≡ None
too_large h name file e large = ap (within_limit h.limit) e ∙ large_file h.limit file large

-- where no file of a spool in memory is larger, and where its limit is no larger, none that it gives is

abbrev pub AreWithin : {A : Type 0} (limit : ℕ) → List (Stored A) → Bool
AreWithin limit files = list_all (λ f. nat_le (length f.bytes.items) limit) files

both : (a b : Bool) → (a && b) ≡ true → IsTrue a × IsTrue b
both true true e = (refl, refl)
both true false e = absurd cc
both false b e = absurd cc

-- of two files of one name the first counts
first_within : (limit : ℕ) (first : File) (found : Option File) (file : File) (same : Bool) → IsTrue (nat_le (length first.bytes) limit)
    → (found ≡ Some file → length file.bytes ≤ limit) → (if same then Some first else found) ≡ Some file → length file.bytes ≤ limit
first_within limit first found file true here rest e =
    let is : first ≡ file = cc in
    subst (λ (z : File). length z.bytes ≤ limit) is (grind (arith, nat_tests, here))
first_within limit first found file false here rest e = rest e

named_within : {A : Type 0} (limit : ℕ) (files : List (Stored A)) → IsTrue (AreWithin limit files) → (name : List ℕ) (file : File)
    → first_named (map kept_of files) name ≡ Some file → length file.bytes ≤ limit
named_within limit [] all name file e = absurd cc
named_within limit (f ∷ files) all name file e =
    let each = both (nat_le (length f.bytes.items) limit) (AreWithin limit files) all in
    first_within limit (record { mode = f.mode; bytes = f.bytes.items }) (first_named (map kept_of files) name) file (bytes_eq f.name name) each.0
    (λ found. named_within limit files each.1 name file found) e

pub given_within : {A : Type 0} (limit own : ℕ) (files : List (Stored A)) → IsTrue (AreWithin limit files) → (name : List ℕ) (file : File)
    → within_limit own (first_named (map kept_of files) name) ≡ Some file → length file.bytes ≤ limit
given_within limit own files all name file e = named_within limit files all name file ((given_file own (first_named (map kept_of files) name) file).0 e).0

-- by the files as the spool has them, where its own limit is larger
is_not_within : (a b : ℕ) → b < a → nat_le a b ≡ false
is_not_within a b h = grind (arith, h)

by_files : (limit : ℕ) (m : MemoryHoldings) → limit < m.limit
    → gives_within limit m ≡ list_all (λ f. nat_le (length f.bytes) limit) m.files
by_files limit m larger = ap (λ (b : Bool). if b then true else list_all (λ f. nat_le (length f.bytes) limit) m.files) (is_not_within m.limit limit larger)

pub are_within_so : {A : Type 0} (limit : ℕ) (m : MemoryHoldings) (files : List (Stored A)) → m.files ≡ map kept_of files
    → limit < m.limit → AreWithin limit files ≡ gives_within limit m
are_within_so limit m files same larger =
    sym (list_all-map (λ f. nat_le (length f.bytes) limit) kept_of files)
    ∙ ap (list_all (λ f. nat_le (length f.bytes) limit)) (sym same) ∙ sym (by_files limit m larger)
