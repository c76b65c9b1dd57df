-- What occurs at two links is one list of moves alone.
use Rattle.std.proofs.Common.{◌≡◌, ℕ, ◌+◌, ◌%◌, ◌≤◌, List, [], ◌∷◌, ◌++◌, length, length-append, map, slice_get, refl, ap, sym, subst, ◌∙◌, arith}
use Rattle.std.proofs.lemmas.Option.{same_Some}
use Rattle.uug_link.specs.Announced.{Announced}
use Rattle.uug_link.specs.Moves.{comes, Emits, AllEmit, AreMoves, MovesWith}
use Rattle.uug_link.specs.OnTheLine.{IsWritten}
use Rattle.uug_link.specs.Terms.{IsWindow}
use Rattle.uug_link.specs.TwoLinks.{End, Happening, Ends, Occurrence, at_near, at_far}
use Rattle.uug_link.specs.WindowMachine.{Machine, data_at, acknowledgement, turned, Act, sends, repeats, acknowledges, loses, arrives, Permits, after_act, Move, on_out, on_back, after_move, mirrored, AllAllowed, after, IsReached}
use Rattle.uug_link.proofs.MovesRuns.{mirrored_twice, reached_windows}
use Rattle.uug_link.proofs.OnTheLineLemmas.{slice_get-last}
use Rattle.uug_link.proofs.WindowMachineRuns.{AllAllowed-mirrored, IsReached-after, IsReached-turned, always_counts}
use Rattle.uug_packet.specs.Packet.{PacketValue, control, carry}

-- ---- what a packet tells of the one in flight

digit_told : (s t : List (List ℕ)) (n a k c : ℕ) (p : PacketValue) → IsWritten s (data_at n a) p →
    IsWritten t (data_at k c) p → (n + 1) % 8 ≡ (k + 1) % 8
digit_told s t n a k c (carry seq ack size message) h g = sym h.0 ∙ g.0
digit_told s t n a k c (control x) h g = absurd h

message_told : (s t : List (List ℕ)) (n a k c : ℕ) (p : PacketValue) → IsWritten s (data_at n a) p →
    IsWritten t (data_at k c) p → slice_get s n ≡ slice_get t k
message_told s t n a k c (carry seq ack size message) h g = h.2 ∙ sym g.2
message_told s t n a k c (control x) h g = absurd h

not_both : (s t : List (List ℕ)) (n a c : ℕ) (p : PacketValue) → IsWritten s (data_at n a) p →
    IsWritten t (acknowledgement c) p → ⊥
not_both s t n a c (carry seq ack size message) h g = g
not_both s t n a c (control x) h g = h

-- ---- the step of a packet

-- no more than seven are not acknowledged, and no more ever will be
record IsNarrow (m : Machine) : Type 0 where
  few : length m.out.sent ≤ m.out.acked + 7
  window : m.out.window ≤ 7

act_alone : (m : Machine) (x y : Act) (p : PacketValue) → IsNarrow m → Permits m.out x → Permits m.out y →
    Emits m x p → Emits m y p → x ≡ y
act_alone m (sends u) (sends v) p h i j f g =
    let told = message_told (m.out.sent ++ u ∷ []) (m.out.sent ++ v ∷ []) (length m.out.sent) m.back.taken
    (length m.out.sent) m.back.taken p f g in
    ap sends (same_Some u v (sym (slice_get-last m.out.sent u) ∙ told ∙ slice_get-last m.out.sent v))
act_alone m (sends u) (repeats k) p h i j f g =
    let told = digit_told (m.out.sent ++ u ∷ []) m.out.sent (length m.out.sent) m.back.taken k m.back.taken p f g in
    absurd (omega (arith, told, j.0, j.1, h.few))
act_alone m (repeats n) (sends v) p h i j f g =
    let told = digit_told m.out.sent (m.out.sent ++ v ∷ []) n m.back.taken (length m.out.sent) m.back.taken p f g in
    absurd (omega (arith, told, i.0, i.1, h.few))
act_alone m (repeats n) (repeats k) p h i j f g =
    let told = digit_told m.out.sent m.out.sent n m.back.taken k m.back.taken p f g in
    let same : n ≡ k = omega (arith, told, i.0, i.1, j.0, j.1, h.few) in
    ap repeats same
act_alone m acknowledges acknowledges p h i j f g = refl
act_alone m (sends u) acknowledges p h i j f g =
    absurd (not_both (m.out.sent ++ u ∷ []) m.out.sent (length m.out.sent) m.back.taken m.back.taken p f g)
act_alone m (repeats n) acknowledges p h i j f g =
    absurd (not_both m.out.sent m.out.sent n m.back.taken m.back.taken p f g)
act_alone m acknowledges (sends v) p h i j f g =
    absurd (not_both (m.out.sent ++ v ∷ []) m.out.sent (length m.out.sent) m.back.taken m.back.taken p g f)
act_alone m acknowledges (repeats k) p h i j f g =
    absurd (not_both m.out.sent m.out.sent k m.back.taken m.back.taken p g f)
act_alone m loses y p h i j f g = absurd f
act_alone m arrives y p h i j f g = absurd f
act_alone m (sends u) loses p h i j f g = absurd g
act_alone m (sends u) arrives p h i j f g = absurd g
act_alone m (repeats n) loses p h i j f g = absurd g
act_alone m (repeats n) arrives p h i j f g = absurd g
act_alone m acknowledges loses p h i j f g = absurd g
act_alone m acknowledges arrives p h i j f g = absurd g

narrow_after : (m : Machine) (x : Act) (p : PacketValue) → IsNarrow m → Permits m.out x → Emits m x p →
    IsNarrow (after_act m x)
narrow_after m (sends u) p h may f = record {
  few = omega (arith, may, h.window, length-append m.out.sent (u ∷ []));
  window = h.window;
}
narrow_after m (repeats n) p h may f = record { few = h.few; window = h.window }
narrow_after m acknowledges p h may f = record { few = h.few; window = h.window }
narrow_after m loses p h may f = absurd f
narrow_after m arrives p h may f = absurd f

-- the steps of several packets
acts_alone : (m : Machine) (xs ys : List Act) (ps : List PacketValue) → IsNarrow m → AllAllowed m (map on_out xs) →
    AllAllowed m (map on_out ys) → AllEmit m xs ps → AllEmit m ys ps → xs ≡ ys
acts_alone m [] [] ps h i j f g = refl
acts_alone m [] (y ∷ ys) [] h i j f g = absurd g
acts_alone m [] (y ∷ ys) (p ∷ ps) h i j f g = absurd f
acts_alone m (x ∷ xs) [] [] h i j f g = absurd f
acts_alone m (x ∷ xs) [] (p ∷ ps) h i j f g = absurd g
acts_alone m (x ∷ xs) (y ∷ ys) [] h i j f g = absurd f
acts_alone m (x ∷ xs) (y ∷ ys) (p ∷ ps) h i j f g =
    let same : x ≡ y = act_alone m x y p h i.0 j.0 f.0 g.0 in
    let more : xs ≡ ys = acts_alone (after_act m x) xs ys ps (narrow_after m x p h i.0 f.0) i.1
    (subst (λ (z : Act). AllAllowed (after_act m z) (map on_out ys)) (sym same) j.1) f.1
    (subst (λ (z : Act). AllEmit (after_act m z) ys ps) (sym same) g.1) in
    ap (λ (z : Act). z ∷ xs) same ∙ ap (λ (l : List Act). y ∷ l) more

-- ---- the moves of what happens

allowed_front : (m : Machine) (made more : List Move) → AllAllowed m (made ++ more) → AllAllowed m made
allowed_front m [] more h = tt
allowed_front m (move ∷ made) more h = (h.0, allowed_front (after_move m move) made more h.1)

allowed_rest : (m : Machine) (made more : List Move) → AllAllowed m (made ++ more) → AllAllowed (after m made) more
allowed_rest m [] more h = h
allowed_rest m (move ∷ made) more h = allowed_rest (after_move m move) made more h.1

narrow_reached : (w v : ℕ) (m : Machine) → IsWindow w → IsWindow v → IsReached w v m → IsNarrow m
narrow_reached w v m is_w is_v reached =
    let counts = always_counts w v m is_w is_v reached in
    let same = reached_windows w v m reached in
    record {
      few = omega (arith, counts.0.2, same.out, is_w.1);
      window = omega (arith, same.out, is_w.1);
    }

moves_alone : (w v : ℕ) (e f : End) (h : Happening) (m : Machine) (made others : List Move) →
    IsWindow w → IsWindow v → IsReached w v m → AllAllowed m made → AllAllowed m others → AreMoves e f h m made →
    AreMoves e f h m others → made ≡ others
moves_alone w v e f h m made others is_w is_v reached may may' are are' =
    let came : List Move = map on_back (comes e f h) in
    let i = subst (λ (l : List Move). AllAllowed m l) are.are may in
    let j = subst (λ (l : List Move). AllAllowed m l) are'.are may' in
    let later = IsReached-after w v m came reached (allowed_front m came (map on_out are.gone) i) in
    let same : are.gone ≡ are'.gone =
    acts_alone (after m came) are.gone are'.gone _ (narrow_reached w v (after m came) is_w is_v later)
    (allowed_rest m came (map on_out are.gone) i) (allowed_rest m came (map on_out are'.gone) j) are.emits are'.emits in
    are.are ∙ ap (λ (l : List Act). came ++ map on_out l) same ∙ sym are'.are

pub occurrence_alone : (near far : Announced) (ends : Ends) (o : Occurrence) (m : Machine)
    (made others : List Move) → IsWindow near.window → IsWindow far.window → IsReached far.window near.window m →
    MovesWith ends o m made → MovesWith ends o m others → made ≡ others
occurrence_alone a b p (at_near h) m made others wa wb reached x y =
    moves_alone b.window a.window p.near p.far h m made others wb wa reached x.allowed y.allowed x.are y.are
occurrence_alone a b p (at_far h) m made others wa wb reached x y =
    let same : map mirrored made ≡ map mirrored others =
    moves_alone a.window b.window p.far p.near h (turned m) (map mirrored made) (map mirrored others) wa wb
    (IsReached-turned b.window a.window m reached) (AllAllowed-mirrored m made x.allowed)
    (AllAllowed-mirrored m others y.allowed) x.are y.are in
    sym (mirrored_twice made) ∙ ap (λ (l : List Move). map mirrored l) same ∙ mirrored_twice others
