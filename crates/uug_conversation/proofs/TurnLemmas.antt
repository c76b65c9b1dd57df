-- A turn of one's own, and a turn of the other end, in front of what an end accords with.
use Rattle.std.proofs.Common.{◌≡◌, ◌≢◌, ℕ, ◌<◌, ◌≤◌, Bool, true, false, nat_lt, List, [], ◌∷◌, ◌++◌, length, refl, sym, ap, subst, ◌∙◌, arith}
use Rattle.std.proofs.lemmas.Bool.Decides.{nat_tests}
use Rattle.std.proofs.lemmas.List.{append_assoc, length-append}
use Rattle.uug_talk.specs.Chunks.{Measure}
use Rattle.uug_talk.specs.Answer.{answer_text}
use Rattle.uug_talk.specs.Lenient.{refusal_text}
use Rattle.uug_talk.specs.Gathering.{Kind, OfCommand, OfFile, part_of, ends, limit_of, gathered, GathersBack}
use Rattle.uug_conversation.specs.Told.{giving_said, order_said}
use Rattle.uug_conversation.specs.declared.awaits.Awaits.{Awaits}
use Rattle.uug_conversation.specs.Holdings.{Kept, Holdings}
use Rattle.uug_conversation.specs.Jobs.{Lists, Move}
use Rattle.uug_conversation.specs.Left.{IsLeft, left_of}
use Rattle.uug_conversation.specs.Party.{Party}
use Rattle.uug_conversation.specs.Machine.{State, Reply, between, kind_awaited, on_whole, on_gathered, on_part, gathered_with, on_gathering, step}
use Rattle.uug_conversation.specs.Messages.{Message, turn_messages, messages}
use Rattle.uug_conversation.specs.ReadBack.{IsReadBack}
use Rattle.uug_conversation.specs.Runs.{has_said_all, is_over, is_bad}
use Rattle.uug_conversation.specs.Turns.{other, Said, the_order, the_answer, the_consent, the_giving, the_file, the_refusal, said_messages, all_messages, Turn}
use Rattle.uug_conversation.specs.declared.side.Side.{Side}
use Rattle.uug_conversation.specs.declared.side.Side.TheVariants.{Caller, Called}
use Rattle.uug_conversation.specs.View.{Seen, says, hears, seen, view, own_messages}
use Rattle.uug_conversation.proofs.Accord.{none_left, Listens, Does, Accords}
use Rattle.uug_talk.proofs.GatherLemmas.{gathered_push}
use Rattle.uug_talk.proofs.GathersBackLemmas.{command_back, file_back}
use Rattle.uug_talk.specs.Positions.{consent_text}

seen-own : (me : Side) (bytes : List ℕ) (moves : List Move) (keeps : List Kept) → seen me me bytes moves keeps ≡ says bytes
seen-own Caller bytes moves keeps = refl
seen-own Called bytes moves keeps = refl

seen-other : (me : Side) (bytes : List ℕ) (moves : List Move) (keeps : List Kept) →
    seen me (other me) bytes moves keeps ≡ hears bytes moves keeps
seen-other Caller bytes moves keeps = refl
seen-other Called bytes moves keeps = refl

-- ---- a turn of one's own

module _ (me : Side) (giver : Party) (h : Holdings) (measure : Measure) (s : State) (said : Said) (moves : List Move) (keeps : List Kept) where
  own_chunks : (cs left : List (List ℕ)) (rest : List Message) → Accords giver h measure s left (view me rest) →
      Accords giver h measure s (cs ++ left) (view me (turn_messages (record { speaker = me; said = said; moves = moves; keeps = keeps }) cs rest))
  own_chunks [] left rest a = a
  own_chunks (c ∷ []) left rest a =
      subst (λ z. Accords giver h measure s (c ∷ left) (z ∷ view me rest)) (sym (seen-own me c moves keeps)) (left, refl, a)
  own_chunks (c ∷ d ∷ cs) left rest a =
      let t : Turn = record { speaker = me; said = said; moves = moves; keeps = keeps } in
      subst (λ z. Accords giver h measure s (c ∷ (d ∷ cs) ++ left) (z ∷ view me (turn_messages t (d ∷ cs) rest)))
      (sym (seen-own me c [] [])) ((d ∷ cs) ++ left, refl, own_chunks (d ∷ cs) left rest a)

  own_chunks_say : (c : List ℕ) (cs : List (List ℕ)) (rest : List Message) →
      none_left (own_messages (view me (turn_messages (record { speaker = me; said = said; moves = moves; keeps = keeps }) (c ∷ cs) rest))) ≡ false
  own_chunks_say c [] rest = ap (λ z. none_left (own_messages (z ∷ view me rest))) (seen-own me c moves keeps)
  own_chunks_say c (d ∷ cs) rest =
      let t : Turn = record { speaker = me; said = said; moves = moves; keeps = keeps } in
      ap (λ z. none_left (own_messages (z ∷ view me (turn_messages t (d ∷ cs) rest)))) (seen-own me c [] [])

-- ---- one step

below : (a b : ℕ) → b ≤ a → nat_lt a b ≡ false
below a b h = grind (arith, nat_tests)

whole_step : (h : Holdings) (s : State) (m : List ℕ) (kind : Kind) (held : List ℕ) →
    gathered_with s m ≡ record { kind = kind; bytes = held; whole = true } → length held ≤ limit_of kind →
    step h s m ≡ on_whole kind h s.awaits held s.lists
whole_step h s m kind held e n =
    ap (λ g. on_gathering g h s) e
    ∙ ap (λ b. on_part b (record { kind = kind; bytes = held; whole = true }) h s) (below (limit_of kind) (length held) n)

part_step : (h : Holdings) (s : State) (m : List ℕ) → (gathered_with s m).whole ≡ false →
    length (gathered_with s m).bytes ≤ limit_of (kind_awaited s.awaits) →
    step h s m ≡ record {
      state = record { lists = s.lists; awaits = s.awaits; gathered = (gathered_with s m).bytes };
      says = [];
      keeps = [];
    }
part_step h s m e n =
    ap (λ b. on_part b (gathered_with s m) h s) (below (limit_of (kind_awaited s.awaits)) (length (gathered_with s m).bytes) n)
    ∙ ap (λ b. on_gathered b (kind_awaited s.awaits) h s (gathered_with s m).bytes) e

-- ---- a turn of the other end

gathered_kind : (kind : Kind) (ms : List (List ℕ)) → (gathered kind ms).kind ≡ kind
gathered_kind OfCommand ms = refl
gathered_kind (OfFile limit) ms = refl

nothing_held : (kind : Kind) → (gathered kind []).bytes ≡ []
nothing_held OfCommand = refl
nothing_held (OfFile limit) = refl

nothing_whole : (kind : Kind) → (gathered kind []).whole ≡ false
nothing_whole OfCommand = refl
nothing_whole (OfFile limit) = refl

-- where it has taken these of the turn's messages
abbrev amid : Lists → Awaits → List (List ℕ) → State
amid l w front = record { lists = l; awaits = w; gathered = (gathered (kind_awaited w) front).bytes }

gathered_amid : (l : Lists) (w : Awaits) (front : List (List ℕ)) (m : List ℕ) →
    (gathered (kind_awaited w) front).whole ≡ false →
    gathered (kind_awaited w) (front ++ m ∷ []) ≡ gathered_with (amid l w front) m
gathered_amid l w front m e =
    sym (gathered_push (kind_awaited w) front m e)
    ∙ ap (λ k. record { kind = k; bytes = (gathered (kind_awaited w) front).bytes ++ part_of k m; whole = ends k m })
    (gathered_kind (kind_awaited w) front)

-- by what the step is
hears_by : (giver : Party) (h : Holdings) (measure : Measure) (s : State) (m : List ℕ) (moves : List Move) (keeps : List Kept) (v : List Seen)
    (r : Reply) → step h s m ≡ r → Listens giver h s [] (none_left (own_messages v)) → Does s.lists moves keeps r →
    Accords giver h measure r.state (all_messages measure r.says) v → Accords giver h measure s [] (hears m moves keeps ∷ v)
hears_by giver h measure s m moves keeps v r e listens does a =
    let both = subst (λ z. Does s.lists moves keeps z × Accords giver h measure z.state (all_messages measure z.says) v) (sym e) (does, a) in
    (listens, both.0, both.1)

module _ (me : Side) (said : Said) (moves : List Move) (keeps : List Kept) where
  others_say_nothing : (cs : List (List ℕ)) (rest : List Message) →
      own_messages (view me (turn_messages (record { speaker = other me; said = said; moves = moves; keeps = keeps }) cs rest))
      ≡ own_messages (view me rest)
  others_say_nothing [] rest = refl
  others_say_nothing (c ∷ []) rest = ap (λ z. own_messages (z ∷ view me rest)) (seen-other me c moves keeps)
  others_say_nothing (c ∷ d ∷ cs) rest =
      let t : Turn = record { speaker = other me; said = said; moves = moves; keeps = keeps } in
      ap (λ z. own_messages (z ∷ view me (turn_messages t (d ∷ cs) rest))) (seen-other me c [] [])
      ∙ others_say_nothing (d ∷ cs) rest

-- what an end awaits, where it is not over, and has parted only where it has nothing more to say
pub record Waits (w : Awaits) (no_more : Bool) : Type 0 where
  pub not_over : is_over w ≡ false
  pub not_bad : is_bad w ≡ false
  pub parted : has_said_all w ≡ no_more

listens_amid : (giver : Party) (h : Holdings) (l : Lists) (w : Awaits) (front : List (List ℕ)) (no_more : Bool) → Waits w no_more →
    IsLeft giver h (left_of h (amid l w front)) → Listens giver h (amid l w front) [] no_more
listens_amid giver h l w front no_more x fronts =
    record { nothing_left = refl; not_over = x.not_over; not_bad = x.not_bad; parted = x.parted; fronts = fronts }

-- wherever the turn's messages end for now, what is left of a file is a front of it
abbrev pub LeavesFronts : (giver : Party) → Holdings → Lists → Awaits → (messages : List (List ℕ)) → Type 0
LeavesFronts giver h l w messages =
    (front rest : List (List ℕ)) → messages ≡ front ++ rest → IsLeft giver h (left_of h (amid l w front))

one_more : (front : List (List ℕ)) (c : List ℕ) (cs : List (List ℕ)) → front ++ c ∷ cs ≡ (front ++ c ∷ []) ++ cs
one_more front c cs = sym (append_assoc front (c ∷ []) cs)

not_none : (d : List ℕ) (ds : List (List ℕ)) → d ∷ ds ≢ []
not_none d ds e = absurd cc

module _ (me : Side) (giver : Party) (h : Holdings) (measure : Measure) (l : Lists) (w : Awaits) (held : List ℕ)
    (said : Said) (moves : List Move) (keeps : List Kept) (rest : List Message) where
  hear_chunks : length held ≤ limit_of (kind_awaited w) → Waits w (none_left (own_messages (view me rest))) →
      Does l moves keeps (on_whole (kind_awaited w) h w held l) →
      Accords giver h measure (on_whole (kind_awaited w) h w held l).state
      (all_messages measure (on_whole (kind_awaited w) h w held l).says) (view me rest) →
      (whole : List (List ℕ)) → LeavesFronts giver h l w whole →
      (front : List (List ℕ)) (c : List ℕ) (cs : List (List ℕ)) → whole ≡ front ++ c ∷ cs → (gathered (kind_awaited w) front).whole ≡ false →
      GathersBack (kind_awaited w) (front ++ c ∷ cs) held →
      Accords giver h measure (amid l w front) []
      (view me (turn_messages (record { speaker = other me; said = said; moves = moves; keeps = keeps }) (c ∷ cs) rest))
  hear_chunks limit waits does a whole fronts front c [] is e back =
      subst (λ z. Accords giver h measure (amid l w front) [] (z ∷ view me rest)) (sym (seen-other me c moves keeps))
      (hears_by giver h measure (amid l w front) c moves keeps (view me rest) (on_whole (kind_awaited w) h w held l)
      (whole_step h (amid l w front) c (kind_awaited w) held (sym (gathered_amid l w front c e) ∙ back.whole) limit)
      (listens_amid giver h l w front _ waits (fronts front (c ∷ []) is)) does a)
  hear_chunks limit waits does a whole fronts front c (d ∷ cs) is e back =
      let t : Turn = record { speaker = other me; said = said; moves = moves; keeps = keeps } in
      let next = gathered_amid l w front c e in
      let open_still : (gathered (kind_awaited w) (front ++ c ∷ [])).whole ≡ false =
      back.not_before (front ++ c ∷ []) (d ∷ cs) (one_more front c (d ∷ cs)) (not_none d cs) in
      let fits : length (gathered_with (amid l w front) c).bytes ≤ limit_of (kind_awaited w) =
      omega (
        arith,
        limit,
        back.within front (d ∷ cs) c refl,
        length-append (gathered (kind_awaited w) front).bytes (part_of (kind_awaited w) c),
      ) in
      subst (λ z. Accords giver h measure (amid l w front) [] (z ∷ view me (turn_messages t (d ∷ cs) rest))) (sym (seen-other me c [] []))
      (hears_by giver h measure (amid l w front) c [] [] (view me (turn_messages t (d ∷ cs) rest))
      (record { state = amid l w (front ++ c ∷ []); says = []; keeps = [] })
      (part_step h (amid l w front) c (sym (ap (λ g. g.whole) next) ∙ open_still) fits
      ∙ ap (λ z. record { state = record { lists = l; awaits = w; gathered = z }; says = []; keeps = [] })
      (sym (ap (λ g. g.bytes) next)))
      (listens_amid giver h l w front _ (record {
        not_over = waits.not_over;
        not_bad = waits.not_bad;
        parted = waits.parted ∙ sym (ap none_left (others_say_nothing me said moves keeps (d ∷ cs) rest));
      }) (fronts front (c ∷ d ∷ cs) is))
      (record { lists_moved = refl; kept = refl })
      (hear_chunks limit waits does a whole fronts (front ++ c ∷ []) d cs (is ∙ one_more front c (d ∷ cs)) open_still
      (subst (λ z. GathersBack (kind_awaited w) z held) (one_more front c (d ∷ cs)) back)))

-- ---- whole turns

abbrev pub said_kind : (limit : ℕ) → Said → Kind
said_kind limit (the_order order told) = OfCommand
said_kind limit (the_answer answer) = OfCommand
said_kind limit (the_consent position) = OfCommand
said_kind limit (the_giving mode told) = OfCommand
said_kind limit (the_file bytes) = OfFile limit
said_kind limit (the_refusal letter) = OfCommand

abbrev pub said_bytes : Said → List ℕ
said_bytes (the_order order told) = order_said order told
said_bytes (the_answer answer) = answer_text answer
said_bytes (the_consent position) = consent_text position
said_bytes (the_giving mode told) = giving_said mode told
said_bytes (the_file bytes) = bytes
said_bytes (the_refusal letter) = refusal_text letter

said_back : (limit : ℕ) (measure : Measure) → 0 < measure.size → (said : Said) → IsReadBack limit said →
    GathersBack (said_kind limit said) (said_messages measure said) (said_bytes said)
said_back limit measure p (the_order order told) r = command_back measure (order_said order told) p r.0
said_back limit measure p (the_answer answer) r = command_back measure (answer_text answer) p r.0
said_back limit measure p (the_consent position) r = command_back measure (consent_text position) p r.0
said_back limit measure p (the_giving mode told) r = command_back measure (giving_said mode told) p r.0
said_back limit measure p (the_file bytes) r = file_back measure.size limit bytes p
said_back limit measure p (the_refusal letter) r = absurd r

said_fits : (limit : ℕ) (said : Said) → IsReadBack limit said → length (said_bytes said) ≤ limit_of (said_kind limit said)
said_fits limit (the_order order told) r = r.0.short
said_fits limit (the_answer answer) r = r.0.short
said_fits limit (the_consent position) r = r.0.short
said_fits limit (the_giving mode told) r = r.0.short
said_fits limit (the_file bytes) r = r
said_fits limit (the_refusal letter) r = absurd r

not_whole_yet : {kind : Kind} {held : List ℕ} → GathersBack kind [] held → ⊥
not_whole_yet {kind} {held} back = let e : false ≡ true = sym (nothing_whole kind) ∙ ap (λ g. g.whole) back.whole in cc

-- an end accords with these turns, and has something to say in them
pub record Fits (giver : Party) (h : Holdings) (measure_of : Side → Measure) (me : Side) (s : State) (left : List (List ℕ)) (ts : List Turn) : Type 0 where
  pub accords : Accords giver h (measure_of me) s left (view me (messages measure_of ts))
  pub speaks : none_left (own_messages (view me (messages measure_of ts))) ≡ false

-- it awaits something, and has not parted
pub record Open (w : Awaits) : Type 0 where
  pub not_over : is_over w ≡ false
  pub not_bad : is_bad w ≡ false
  pub not_parted : has_said_all w ≡ false

module _ (measure_of : Side → Measure) (positive : (side : Side) → 0 < (measure_of side).size) (me : Side)
    (giver : Party) (h : Holdings) (said : Said) (moves : List Move) (keeps : List Kept) (ts : List Turn) where
  own_by : (s : State) (left cs : List (List ℕ)) → {kind : Kind} {held : List ℕ} → GathersBack kind cs held →
      Accords giver h (measure_of me) s left (view me (messages measure_of ts)) →
      (Accords giver h (measure_of me) s (cs ++ left)
      (view me (turn_messages (record { speaker = me; said = said; moves = moves; keeps = keeps }) cs (messages measure_of ts))))
      × (none_left (own_messages
      (view me (turn_messages (record { speaker = me; said = said; moves = moves; keeps = keeps }) cs (messages measure_of ts)))) ≡ false)
  own_by s left [] back a = absurd (not_whole_yet back)
  own_by s left (c ∷ cs) back a = (
    own_chunks me giver h (measure_of me) s said moves keeps (c ∷ cs) left (messages measure_of ts) a,
    own_chunks_say me giver h (measure_of me) s said moves keeps c cs (messages measure_of ts),
  )

  pub own_says : (s : State) (left : List (List ℕ)) → IsReadBack h.limit said →
      Accords giver h (measure_of me) s left (view me (messages measure_of ts)) →
      Fits giver h measure_of me s (said_messages (measure_of me) said ++ left)
      (record { speaker = me; said = said; moves = moves; keeps = keeps } ∷ ts)
  own_says s left r a =
      let both = own_by s left (said_messages (measure_of me) said) (said_back h.limit (measure_of me) (positive me) said r) a in
      record { accords = both.0; speaks = both.1 }

  other_by : (l : Lists) (w : Awaits) (held : List ℕ) (cs : List (List ℕ)) → length held ≤ limit_of (kind_awaited w) →
      GathersBack (kind_awaited w) cs held → LeavesFronts giver h l w cs → Waits w (none_left (own_messages (view me (messages measure_of ts)))) →
      Does l moves keeps (on_whole (kind_awaited w) h w held l) →
      Accords giver h (measure_of me) (on_whole (kind_awaited w) h w held l).state
      (all_messages (measure_of me) (on_whole (kind_awaited w) h w held l).says) (view me (messages measure_of ts)) →
      Accords giver h (measure_of me) (between l w) []
      (view me (turn_messages (record { speaker = other me; said = said; moves = moves; keeps = keeps }) cs (messages measure_of ts)))
  other_by l w held [] limit back fronts waits does a = absurd (not_whole_yet back)
  other_by l w held (c ∷ cs) limit back fronts waits does a =
      subst (λ z. Accords giver h (measure_of me) (record { lists = l; awaits = w; gathered = z }) []
      (view me (turn_messages (record { speaker = other me; said = said; moves = moves; keeps = keeps }) (c ∷ cs) (messages measure_of ts))))
      (nothing_held (kind_awaited w))
      (hear_chunks me giver h (measure_of me) l w held said moves keeps (messages measure_of ts) limit waits does a (c ∷ cs) fronts [] c cs refl
      (nothing_whole (kind_awaited w)) back)

  -- by the reply to it
  pub other_hears : (l : Lists) (w : Awaits) → IsReadBack h.limit said → said_kind h.limit said ≡ kind_awaited w →
      LeavesFronts giver h l w (said_messages (measure_of (other me)) said) →
      Waits w (none_left (own_messages (view me (messages measure_of ts)))) → (r : Reply) →
      on_whole (kind_awaited w) h w (said_bytes said) l ≡ r → Does l moves keeps r →
      Accords giver h (measure_of me) r.state (all_messages (measure_of me) r.says) (view me (messages measure_of ts)) →
      Accords giver h (measure_of me) (between l w) []
      (view me (messages measure_of (record { speaker = other me; said = said; moves = moves; keeps = keeps } ∷ ts)))
  other_hears l w b k fronts waits r e does a =
      other_by l w (said_bytes said) (said_messages (measure_of (other me)) said)
      (subst (λ z. length (said_bytes said) ≤ limit_of z) k (said_fits h.limit said b))
      (subst (λ z. GathersBack z (said_messages (measure_of (other me)) said) (said_bytes said)) k
      (said_back h.limit (measure_of (other me)) (positive (other me)) said b))
      fronts
      waits
      (subst (λ z. Does l moves keeps z) (sym e) does)
      (subst (λ z. Accords giver h (measure_of me) z.state (all_messages (measure_of me) z.says) (view me (messages measure_of ts))) (sym e) a)

  pub other_says : (l : Lists) (w : Awaits) → IsReadBack h.limit said → said_kind h.limit said ≡ kind_awaited w →
      LeavesFronts giver h l w (said_messages (measure_of (other me)) said) → Open w → (r : Reply) →
      on_whole (kind_awaited w) h w (said_bytes said) l ≡ r → Does l moves keeps r →
      Fits giver h measure_of me r.state (all_messages (measure_of me) r.says) ts →
      Fits giver h measure_of me (between l w) []
      (record { speaker = other me; said = said; moves = moves; keeps = keeps } ∷ ts)
  other_says l w b k fronts o r e does f = record {
    accords = other_hears l w b k fronts
        (record { not_over = o.not_over; not_bad = o.not_bad; parted = o.not_parted ∙ sym f.speaks }) r e does f.accords;
    speaks = ap none_left (others_say_nothing me said moves keeps (said_messages (measure_of (other me)) said) (messages measure_of ts)) ∙ f.speaks;
  }
