-- Over how many sessions a file comes.
use Rattle.std.proofs.Common.{◌≡◌, ◌≢◌, ℕ, suc, ◌+◌, ◌*◌, ◌<◌, ◌≤◌, List, [], ◌∷◌, length, Some, refl, sym, subst, subst₂, ◌∙◌, arith}
use Rattle.uug_conversation.specs.CutSessions.{EachLeavesMore, LeavesMore, Session}
use Rattle.uug_conversation.specs.Holdings.{File}
use Rattle.uug_conversation.specs.Left.{Advances, by_messages, by_nothing, to_its_end, IsLeft, IsLeftOf}
use Rattle.uug_conversation.specs.Partial.{Key}
use Rattle.uug_conversation.specs.Turns.{other}
use Rattle.uug_conversation.specs.View.{party}
use Rattle.uug_conversation.specs.declared.side.Side.{Side}
use Rattle.uug_conversation.proofs.FirstLaw.{left_law}
use Rattle.uug_conversation.proofs.ResumingLemmas.{front_short}

-- ---- on numbers

-- a session in which more has come
record Comes (size whole before after : ℕ) : Type 0 where
  within : after ≤ whole
  advances : Advances size whole before after

-- behind all of a file no more comes
none_behind : (size whole before after : ℕ) → 0 < size → before ≡ whole → after ≢ before → after ≤ whole → Advances size whole before after → ⊥
none_behind size whole before after some all more within (by_nothing e) = more e
none_behind size whole before after some all more within (by_messages far) = absurd (omega (arith, far, within, all, some))
none_behind size whole before after some all more within (to_its_end far e) = absurd (omega (arith, far, e, all))

-- ---- on sessions

comes : (taker : Side) (key : Key) (file : File) (size before : ℕ) (s : Session) (it : LeavesMore taker key file size before s) →
    Comes size (length file.bytes) before (length it.bytes)
comes taker key file size before s it =
    let giver = party (other taker) s.a s.b in
    let is : IsLeftOf giver (party taker s.a s.b).holdings (record { key = key; bytes = it.bytes }) =
    subst (IsLeft giver (party taker s.a s.b).holdings) it.left (left_law s.a s.b it.suit it.sound_a it.sound_b taker s.taken) in
    let given : Some is.file ≡ Some file = sym is.is_given ∙ it.given in
    let same : is.file ≡ file = cc in
    let far = subst₂ (λ size before. Advances size (length is.file.bytes) before (length it.bytes)) it.in_messages it.begins is.advances in
    record {
      within = subst (λ (f : File). length it.bytes ≤ length f.bytes) same (front_short it.bytes is.file.bytes is.front);
      advances = subst (λ (f : File). Advances size (length f.bytes) before (length it.bytes)) same far;
    }

none_left : (taker : Side) (key : Key) (file : File) (size before : ℕ) (ss : List Session) → 0 < size → before ≡ length file.bytes →
    EachLeavesMore taker key file size before ss → length ss ≡ 0
none_left taker key file size before [] some all each = refl
none_left taker key file size before (s ∷ ss) some all each =
    let it = each.0 in
    let far = comes taker key file size before s it in
    absurd (none_behind size (length file.bytes) before (length it.bytes) some all it.more far.within far.advances)

one_more : (size whole before after n : ℕ) → after ≢ before → after ≤ whole → n * size + after < whole + size →
    (after ≡ whole → n ≡ 0) → Advances size whole before after → suc n * size + before < whole + size
one_more size whole before after n more within rest none (by_nothing e) = absurd (more e)
one_more size whole before after n more within rest none (by_messages far) = omega (arith, rest, far)
one_more size whole before after n more within rest none (to_its_end far e) =
    subst (λ k. suc k * size + before < whole + size) (sym (none e)) (omega (arith, far, within))

pub so_many : (taker : Side) (key : Key) (file : File) (size before : ℕ) (ss : List Session) → 0 < size → before ≤ length file.bytes →
    EachLeavesMore taker key file size before ss → length ss * size + before < length file.bytes + size
so_many taker key file size before [] some within each = omega (arith, some, within)
so_many taker key file size before (s ∷ ss) some within each =
    let it = each.0 in
    let far = comes taker key file size before s it in
    one_more size (length file.bytes) before (length it.bytes) (length ss) it.more far.within
    (so_many taker key file size (length it.bytes) ss some far.within each.1)
    (λ all. none_left taker key file size (length it.bytes) ss some all each.1) far.advances
