-- What the numbers of two ends say on a line where nothing is lost: whatever was sent is taken where the line is empty, and two
-- ends that talk have something to say or to take yet.
use Rattle.std.proofs.Common.{◌≡◌, ◌⊎◌, inl, inr, ℕ, zero, suc, ◌<◌, ◌≤◌, ◌&&◌, nat_lt, Bool, true, false, if◌then◌else◌, List, [], ◌∷◌, length, slice_get, get_or, Some, None, refl, ap, sym, subst, ◌∙◌, arith, true≢false}
use Rattle.std.proofs.lemmas.Bool.Decides.{nat_tests}
use Rattle.std.proofs.lemmas.Option.{slice_get_cases, none-some}
use Rattle.uug_link.specs.Counts.{AreCounted}
use Rattle.uug_link.specs.OnTheWay.{BringAll, TellAll}
use Rattle.uug_link.specs.State.{KnowsWindow, State, IsUp}
use Rattle.uug_conversation.specs.Count.{Count, all_sent, all_taken, count_keeper, message_before}
use Rattle.uug_session.specs.EndStep.{Stage, has_room, is_up}
use Rattle.uug_conversation.specs.Holdings.{Kept}
use Rattle.uug_conversation.specs.Keeper.{Keeper}
use Rattle.uug_conversation.specs.Jobs.{Move}
use Rattle.uug_conversation.specs.Messages.{Message, conversation_messages}
use Rattle.uug_session.specs.Sending.{GoesOnAt, SaidAt}
use Rattle.uug_conversation.specs.Turns.{other}
use Rattle.uug_conversation.specs.View.{Seen, floor, others_messages, own_messages, says, hears, seen as seen_as, view}
use Rattle.uug_conversation.specs.declared.side.Side.{Side}
use Rattle.uug_conversation.specs.declared.side.Side.TheVariants.{Caller, Called}
use Rattle.uug_line.specs.Belongings.{Belongings, SetupValue, party}
use Rattle.uug_line.specs.LineEndState.{LineEndState}
use Rattle.uug_conversation.specs.Sides.{AtBoth, at}
use Rattle.uug_line.proofs.Clean.Base.{Base, as_end, seen}
use Rattle.uug_line.proofs.Clean.Items.{Talks}
use Rattle.uug_link.proofs.TwoLinksRuns.{within as links_unacked, windows}
use Rattle.uug_link.proofs.CountsRuns.{counted as links_counted}

-- ---- a conversation

-- what the one says is what the other hears
abbrev SayAlike : (v w : List Seen) → Type 0
SayAlike v w = (length (own_messages v) ≡ length (others_messages w)) × (length (own_messages w) ≡ length (others_messages v))

alike_with : (speaker : Side) (bytes : List ℕ) (moves : List Move) (keeps : List Kept) (v w : List Seen) → SayAlike v w →
    SayAlike (seen_as Caller speaker bytes moves keeps ∷ v) (seen_as Called speaker bytes moves keeps ∷ w)
alike_with Caller bytes moves keeps v w so = (ap suc so.0, so.1)
alike_with Called bytes moves keeps v w so = (so.0, ap suc so.1)

say_alike : (ms : List Message) → SayAlike (view Caller ms) (view Called ms)
say_alike [] = (refl, refl)
say_alike (m ∷ ms) = alike_with m.speaker m.bytes m.moves m.keeps (view Caller ms) (view Called ms) (say_alike ms)

-- where each has said as many as it may before more come, all is said
abbrev AllIsSaid : (v w : List Seen) → Type 0
AllIsSaid v w = (j k : ℕ) → floor k v ≤ j → floor j w ≤ k → (length (own_messages v) ≤ j) × (length (own_messages w) ≤ k)

said_with : (speaker : Side) (bytes : List ℕ) (moves : List Move) (keeps : List Kept) (v w : List Seen) → AllIsSaid v w →
    AllIsSaid (seen_as Caller speaker bytes moves keeps ∷ v) (seen_as Called speaker bytes moves keeps ∷ w)
said_with Caller bytes moves keeps v w so zero k near far = absurd (omega (arith, near))
said_with Caller bytes moves keeps v w so (suc j) k near far =
    let rest = so j k (omega (arith, near)) far in
    (omega (arith, rest.0), rest.1)
said_with Called bytes moves keeps v w so j zero near far = absurd (omega (arith, far))
said_with Called bytes moves keeps v w so j (suc k) near far =
    let rest = so j k near (omega (arith, far)) in
    (rest.0, omega (arith, rest.1))

all_is_said : (ms : List Message) → AllIsSaid (view Caller ms) (view Called ms)
all_is_said [] = λ j k near far. (omega arith, omega arith)
all_is_said (m ∷ ms) =
    said_with m.speaker m.bytes m.moves m.keeps (view Caller ms) (view Called ms) (all_is_said ms)

pub floor_within : (k : ℕ) (v : List Seen) → floor k v ≤ length (own_messages v)
floor_within k [] = omega arith
floor_within k (says bytes ∷ v) = omega (arith, floor_within k v)
floor_within zero (hears bytes moves keeps ∷ v) = omega arith
floor_within (suc k) (hears bytes moves keeps ∷ v) = floor_within k v

module _ (setup : SetupValue) (brought : AtBoth Belongings) where
  abbrev all_messages : List Message
  all_messages = conversation_messages (party setup brought Caller) (party setup brought Called)

  -- so of the end on the side and of the other one
  pub own_is_others : (side : Side) →
      length (own_messages (seen setup brought side)) ≡ length (others_messages (seen setup brought (other side)))
  own_is_others Caller = (say_alike all_messages).0
  own_is_others Called = (say_alike all_messages).1

  pub others_is_own : (side : Side) →
      length (others_messages (seen setup brought side)) ≡ length (own_messages (seen setup brought (other side)))
  others_is_own Caller = sym (say_alike all_messages).1
  others_is_own Called = sym (say_alike all_messages).0

  pub none_waits : (side : Side) (j k : ℕ) → floor k (seen setup brought side) ≤ j → floor j (seen setup brought (other side)) ≤ k →
      (length (own_messages (seen setup brought side)) ≤ j) × (length (own_messages (seen setup brought (other side))) ≤ k)
  none_waits Caller j k near far = all_is_said all_messages j k near far
  none_waits Called j k near far = let both = all_is_said all_messages k j far near in (both.1, both.0)

-- ---- what an end has to say

next_by : (t : Bool) (f n : ℕ) (own : List (List ℕ)) → nat_lt n f ≡ t → f ≤ length own → (if t then slice_get own n else None) ≡ None →
    f ≤ n
next_by false f n own is within none = grind (arith, nat_tests, is)
next_by true f n own is within none = by (slice_get_cases own n).1
  where
    by : ((x : List ℕ) × (n < length own) × (slice_get own n ≡ Some x) × (get_or own n x ≡ x)) ⊎ ((length own ≤ n) × (slice_get own n ≡ None)) → f ≤ n
    by (inl there) = absurd (none-some there.0 (sym none ∙ there.2))
    by (inr behind) = omega (arith, within, behind.0)

-- there is nothing to be said before more is taken
nothing_next : (v : List Seen) (c : Count) → c.opened ≡ true → (count_keeper v).next c ≡ None → floor c.taken v ≤ c.sent
nothing_next v c is none =
    let f = floor c.taken v in
    next_by (nat_lt c.sent f) f c.sent (own_messages v) refl (floor_within c.taken v)
    (ap (λ (b : Bool). if b then message_before f v c.sent else None) (sym is) ∙ none)

over_by : (opened sent took : Bool) → opened ≡ true → sent ≡ true → took ≡ true → (opened && (sent && took)) ≡ true
over_by true true true a b c = refl
over_by false sent took a b c = absurd cc
over_by true false took a b c = absurd cc
over_by true true false a b c = absurd cc

pub is_over_where : (v : List Seen) (c : Count) → c.opened ≡ true → length (own_messages v) ≤ c.sent →
    length (others_messages v) ≤ c.taken → (count_keeper v).is_over c ≡ true
is_over_where v c is sent took =
    over_by c.opened (all_sent v c) (all_taken v c) is (grind (arith, nat_tests, sent)) (grind (arith, nat_tests, took))

pub record OverAt (v : List Seen) (c : Count) : Type 0 where
  pub opened : c.opened ≡ true
  pub sent : length (own_messages v) ≤ c.sent
  pub taken : length (others_messages v) ≤ c.taken

live_end_value_over : (opened sent took : Bool) → (opened && (sent && took)) ≡ true → (opened ≡ true) × (sent ≡ true) × (took ≡ true)
live_end_value_over true true true is = (refl, refl, refl)
live_end_value_over true true false is = absurd cc
live_end_value_over true false took is = absurd cc
live_end_value_over false sent took is = absurd cc

pub over_at : (v : List Seen) (c : Count) → (count_keeper v).is_over c ≡ true → OverAt v c
over_at v c is =
    let parts = live_end_value_over c.opened (all_sent v c) (all_taken v c) is in
    record {
      opened = parts.0;
      sent = grind (arith, nat_tests, parts.1);
      taken = grind (arith, nat_tests, parts.2);
    }

room_with : (s : State) → IsUp s → length s.unacked < s.window → has_room s ≡ true
room_with s is below =
    ap (λ (b : Bool). if b then nat_lt (length s.unacked) s.window else false) (ap is_up is) ∙ grind (arith, nat_tests, below)

-- ---- two ends

module _ (setup : SetupValue) (brought : AtBoth Belongings) (B : Side → LineEndState Count → LineEndState Count → Type 0)
    (base : Base setup brought B) where
  abbrev CountedTo : (side : Side) (x y : LineEndState Count) → Type 0
  CountedTo side x y = AreCounted (as_end x) (as_end y) (at (other side) setup).own.window

  pub counted_to : (side : Side) (x y : LineEndState Count) → B side x y → CountedTo side x y
  counted_to side x y is =
      (links_counted (at side setup).own (at (other side) setup).own (record { near = as_end x; far = as_end y })
      (base.window side) (base.window (other side)) (base.run side x y is)).0

  pub counted_back : (side : Side) (x y : LineEndState Count) → B side x y →
      AreCounted (as_end y) (as_end x) (at side setup).own.window
  counted_back side x y is =
      (links_counted (at side setup).own (at (other side) setup).own (record { near = as_end x; far = as_end y })
      (base.window side) (base.window (other side)) (base.run side x y is)).1

  pub few : (side : Side) (x y : LineEndState Count) → B side x y → length x.state.link.unacked ≤ 7
  few side x y is =
      let within = (links_unacked (at side setup).own (at (other side) setup).own (record { near = as_end x; far = as_end y })
      (base.window side) (base.window (other side)) (base.run side x y is)).0 in
      omega (arith, within, (base.window (other side)).1)

  -- where nothing is on the way any more all is taken
  pub all_came : (side : Side) (x y : LineEndState Count) → B side x y → BringAll x.state.link y.state.link [] →
      length y.log.taken ≡ length x.log.sent
  all_came side x y is brings =
      let c = counted_to side x y is in
      omega (arith, brings, c.next, c.expected, c.were_taken, c.were_sent, c.few, (base.window (other side)).1)

  -- and where that is told nothing is outstanding
  pub none_outstanding : (side : Side) (x y : LineEndState Count) → B side x y → length y.log.taken ≡ length x.log.sent →
      TellAll y.state.link x.state.link [] → length x.state.link.unacked ≡ 0
  none_outstanding side x y is all told =
      let c = counted_to side x y is in
      omega (arith, all, told, c.next, c.expected, c.oldest, few side x y is)

  -- an end that talks and has nothing outstanding has said what it may
  said_to_floor : (side : Side) (x y : LineEndState Count) → B side x y → Talks x → length x.state.link.unacked ≡ 0 →
      floor (length x.log.taken) (seen setup brought side) ≤ length x.log.sent
  said_to_floor side x y is talks none =
      by (subst (λ (stage : Stage). SaidAt k stage x.state.link x.state.keeper) talks.stage (base.spoken side x y is).said)
    where
      k : Keeper Count
      k = count_keeper (seen setup brought side)

      window : x.state.link.window ≡ (at (other side) setup).own.window
      window = (windows (at side setup).own (at (other side) setup).own (record { near = as_end x; far = as_end y })
          (base.window side) (base.window (other side)) (base.run side x y is)).0
          (subst KnowsWindow (sym talks.is_up) tt)

      room : has_room x.state.link ≡ true
      room = room_with x.state.link talks.is_up (omega (arith, none, window, (base.window (other side)).0))

      by : (has_room x.state.link ≡ false) ⊎ (k.next x.state.keeper ≡ None) →
          floor (length x.log.taken) (seen setup brought side) ≤ length x.log.sent
      by (inl full) = absurd (true≢false (sym room ∙ full))
      by (inr nothing) =
          subst (λ (n : ℕ). floor (length x.log.taken) (seen setup brought side) ≤ n) (base.sent side x y is)
          (subst (λ (n : ℕ). floor n (seen setup brought side) ≤ x.state.keeper.sent) (base.taken side x y is)
          (nothing_next (seen setup brought side) x.state.keeper (base.opened side x y is talks.is_up) nothing))

  -- an end that talks isn't over
  pub goes_on : (side : Side) (x y : LineEndState Count) → B side x y → Talks x →
      length (own_messages (seen setup brought side)) ≤ length x.log.sent →
      length (others_messages (seen setup brought side)) ≤ length x.log.taken → ⊥
  goes_on side x y is talks sent took =
      let v = seen setup brought side in
      let open_still : (count_keeper v).is_over x.state.keeper ≡ false =
      subst (λ (stage : Stage). GoesOnAt (count_keeper v) stage x.state.link x.state.keeper) talks.stage
      (base.spoken side x y is).goes_on (ap is_up talks.is_up) in
      true≢false (sym (is_over_where v x.state.keeper (base.opened side x y is talks.is_up)
      (subst (λ (n : ℕ). length (own_messages v) ≤ n) (sym (base.sent side x y is)) sent)
      (subst (λ (n : ℕ). length (others_messages v) ≤ n) (sym (base.taken side x y is)) took)) ∙ open_still)

  -- So two ends that talk are not both without anything outstanding, all being taken.
  pub stuck : (side : Side) (x y : LineEndState Count) → B side x y → Talks x → Talks y →
      length y.log.taken ≡ length x.log.sent → length x.log.taken ≡ length y.log.sent →
      length x.state.link.unacked ≡ 0 → length y.state.link.unacked ≡ 0 → ⊥
  stuck side x y is x_talks y_talks there back x_none y_none =
      let w = seen setup brought (other side) in
      let near = said_to_floor side x y is x_talks x_none in
      let far = said_to_floor (other side) y x (base.turned side x y is) y_talks y_none in
      let far_too : floor (length x.log.sent) w ≤ length x.log.taken =
      subst (λ (n : ℕ). floor (length x.log.sent) w ≤ n) (sym back)
      (subst (λ (n : ℕ). floor n w ≤ length y.log.sent) there far) in
      let said = none_waits setup brought side (length x.log.sent) (length x.log.taken) near far_too in
      goes_on side x y is x_talks said.0
      (subst (λ (n : ℕ). n ≤ length x.log.taken) (sym (others_is_own setup brought side)) said.1)

  -- where the one has closed, all being said and taken, and the other has taken all, that is over too
  pub over_too : (side : Side) (x y : LineEndState Count) → B side x y → (count_keeper (seen setup brought side)).is_over x.state.keeper ≡ true →
      length y.log.taken ≡ length x.log.sent → Talks y → ⊥
  over_too side x y is over there talks =
      let o = over_at (seen setup brought side) x.state.keeper over in
      let back = counted_back side x y is in
      goes_on (other side) y x (base.turned side x y is) talks
      (omega (arith, o.taken, base.taken side x y is, back.were_sent, others_is_own setup brought side))
      (omega (arith, o.sent, base.sent side x y is, there, own_is_others setup brought side))
