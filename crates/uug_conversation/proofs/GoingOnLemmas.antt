-- A file whose session ended in its middle is sent from there on in the next.
use Rattle.std.proofs.Common.{◌≡◌, ℕ, ◌≤◌, Bool, true, false, ◌&&◌, nat_le, List, [], ◌∷◌, length, drop, Option, Some, refl, sym, ap, ap₂, subst, ◌∙◌, arith}
use Rattle.std.proofs.lemmas.Bool.Decides.{nat_tests}
use Rattle.uug_talk.specs.Digests.{digest_of}
use Rattle.uug_talk.specs.declared.file_digest.FileDigest.{FileDigest}
use Rattle.uug_conversation.specs.declared.side.Side.{Side}
use Rattle.uug_conversation.specs.declared.side.Side.TheVariants.{Caller, Called}
use Rattle.uug_conversation.specs.declared.verdict.Verdict.{Verdict}
use Rattle.uug_conversation.specs.declared.verdict.Verdict.TheVariants.{Yes}
use Rattle.uug_conversation.specs.Choice.{fetched_by}
use Rattle.uug_conversation.specs.Exchange.{send_exchange}
use Rattle.uug_conversation.specs.Holdings.{File, Holdings, to_give}
use Rattle.uug_conversation.specs.Jobs.{Move}
use Rattle.uug_conversation.specs.Left.{GoesOnBehind, IsLeftOf, said_of_file}
use Rattle.uug_conversation.specs.Partial.{Partial}
use Rattle.uug_conversation.specs.Partials.{holding, partials_then}
use Rattle.uug_conversation.specs.Party.{Party, Suit, TakesSizes}
use Rattle.uug_conversation.specs.Resuming.{front_held, front_of, front_where}
use Rattle.uug_conversation.specs.Told.{heard, told_of}
use Rattle.uug_conversation.specs.Turns.{Turn, other, the_consent, the_file}
use Rattle.uug_conversation.specs.View.{party}
use Rattle.uug_conversation.proofs.PartialLemmas.{put_is_held}
use Rattle.uug_conversation.proofs.ResumingLemmas.{front_short}

-- ---- what each end is given is small enough for it

pub sizes_at : (a b : Party) → Suit a b → (me : Side) → TakesSizes (party (other me) a b).holdings (party me a b).holdings
sizes_at a b suit Caller = suit.sizes_of_called
sizes_at a b suit Called = suit.sizes_of_caller

-- ---- what is told of a file, where anything is heard, is its digest

told_is : (comparing digests : Bool) (file : File) (told : FileDigest) → heard comparing (told_of digests (Some file)) ≡ Some told → told ≡ digest_of file.bytes
told_is true true file told e = let k : digest_of file.bytes ≡ told = cc in sym k
told_is true false file told e = absurd cc
told_is false true file told e = absurd cc
told_is false false file told e = absurd cc

-- ---- the front that is held is just what was left

both_within : (a b c d : ℕ) → a ≤ b → c ≤ d → (nat_le a b && nat_le c d) ≡ true
both_within a b c d h k = grind (arith, nat_tests, h, k)

all_of_it : (within : Bool) (bytes : List ℕ) → within ≡ true → front_where within bytes ≡ bytes
all_of_it within [] e = refl
all_of_it true (b ∷ bytes) e = refl
all_of_it false (b ∷ bytes) e = absurd cc

front_is : (giver : Party) (taker : Holdings) (ps : List Partial) (p : Partial) → TakesSizes giver.holdings taker → taker.partials ≡ Some ps → IsLeftOf giver taker p →
    (file : File) → to_give giver.holdings p.key.source ≡ Some file →
    front_held (holding (partials_then taker.partials (Some p)) taker) giver.holdings.digests p.key.source (Some file) ≡ p.bytes
front_is giver taker ps p sizes resumes is file given =
    let same : is.file ≡ file = let k : Some is.file ≡ Some file = sym is.is_given ∙ given in cc in
    let told = p.key.told in
    let heard_so : heard taker.digests (told_of giver.holdings.digests (Some file)) ≡ Some told =
    ap (λ z. heard taker.digests (told_of giver.holdings.digests (Some z))) (sym same) ∙ is.is_told in
    let size : told.size ≡ length file.bytes = ap (λ (d : FileDigest). d.size) (told_is taker.digests giver.holdings.digests file told heard_so) in
    let small : length file.bytes ≤ taker.limit = sizes p.key.source file given in
    let short : length p.bytes ≤ length file.bytes = subst (λ (z : File). length p.bytes ≤ length z.bytes) same (front_short p.bytes is.file.bytes is.front) in
    ap (λ z. front_of (holding (partials_then taker.partials (Some p)) taker) p.key.source z) heard_so
    ∙ ap (λ z. front_of (holding (partials_then z (Some p)) taker) p.key.source (Some told)) resumes
    ∙ ap (λ z. front_where (nat_le (length z) told.size && nat_le told.size taker.limit) z) (put_is_held p ps)
    ∙ all_of_it (nat_le (length p.bytes) told.size && nat_le told.size taker.limit) p.bytes
    (both_within (length p.bytes) told.size told.size taker.limit (omega (arith, size, short)) (omega (arith, size, small)))

-- ---- what is said

said_by_exchange : (master slave : Side) (digests : Bool) (source target user : List ℕ) (temp : Option (List ℕ)) (found : Option File) (file : File)
    (name front : List ℕ) (verdict : Verdict) (immovable : Bool) (next : List Move) (rest : List Turn) → found ≡ Some file → verdict ≡ Yes →
    said_of_file (send_exchange master slave digests source target user temp found name front verdict immovable next rest)
    ≡ the_consent (length front) ∷ the_file (drop (length front) file.bytes) ∷ []
said_by_exchange master slave digests source target user temp found file name front verdict false next rest e v =
    ap₂ (λ f z. said_of_file (send_exchange master slave digests source target user temp f name front z false next rest)) e v
said_by_exchange master slave digests source target user temp found file name front verdict true next rest e v =
    ap₂ (λ f z. said_of_file (send_exchange master slave digests source target user temp f name front z true next rest)) e v

pub goes_on_behind : (giver : Party) (taker : Holdings) (ps : List Partial) (p : Partial) → TakesSizes giver.holdings taker → taker.partials ≡ Some ps → IsLeftOf giver taker p →
    GoesOnBehind giver.holdings taker p
goes_on_behind giver taker ps p sizes resumes is master slave source target user temp file next rest fetched given taken =
    let h = holding (partials_then taker.partials (Some p)) taker in
    let found = to_give giver.holdings (fetched_by source temp) in
    let found_is : found ≡ Some file = ap (to_give giver.holdings) fetched ∙ given in
    let front_so : front_held h giver.holdings.digests (fetched_by source temp) found ≡ p.bytes =
    ap₂ (λ s f. front_held h giver.holdings.digests s f) fetched found_is ∙ front_is giver taker ps p sizes resumes is file given in
    said_by_exchange master slave giver.holdings.digests source target user temp found file (taker.landing source target)
    (front_held h giver.holdings.digests (fetched_by source temp) found) (taker.verdict (taker.landing source target))
    (taker.immovable (taker.landing source target)) next rest found_is taken
    ∙ ap (λ front. the_consent (length front) ∷ the_file (drop (length front) file.bytes) ∷ []) front_so
