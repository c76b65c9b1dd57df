-- What an end says behind its link's answer, and how its session ends, told by two numbers.
use Rattle.std.proofs.Common.{◌≡◌, ℕ, Bool, true, false, List, ◌++◌, Option, refl, sym, ap, subst, ◌∙◌, true≢false}
use Rattle.uug_link.specs.declared.limits.TheConstants.{WINDOW_MAX}
use Rattle.uug_link.specs.State.{State, IsUp}
use Rattle.uug_link.specs.Step.{Effect, Emission, to_close, step}
use Rattle.uug_packet.specs.Packet.{PacketValue}
use Rattle.uug_session.specs.declared.end.End.{End}
use Rattle.uug_conversation.specs.Count.{Count, count_keeper}
use Rattle.uug_session.specs.EndStep.{Identity, Sending, Stage, hailing, linked, ended, closes_by, ends_so, goes_on, goes_on_with, how_it_ends, is_up, packets, sending_nothing, sends, speaks_and_closes, speaks_by}
use Rattle.uug_conversation.specs.Holdings.{Holdings}
use Rattle.uug_conversation.specs.DialogueState.{DialogueState, end_keeper}
use Rattle.uug_conversation.specs.declared.side.Side.{Side}
use Rattle.uug_conversation.specs.View.{Seen}
use Rattle.uug_line.proofs.World.Invariant.{DoesAlike, HailsFresh, IsInvariant, SendsAlike, counted_effect, counted_sending, done_all, moved, sent_all}
use Rattle.uug_line.proofs.World.Joining.{Moment}
use Rattle.uug_line.proofs.World.MomentLemmas.{count, count_silent, emits, emits_and_leaves, emits_more_packets, none_sent}
use Rattle.uug_line.proofs.SendLemmas.{nothing_alike, sends_alike, sends_stays_up, up_by}
use Rattle.uug_link.proofs.OutcomeLemmas.{firsts_of}

-- an end that is linked, or whose session has ended, does not hail
abbrev hails_no_more : Stage → Bool
hails_no_more (hailing g) = false
hails_no_more linked = true
hails_no_more (ended how) = true

pub linked_hails_not : (first link : State) → HailsFresh first linked link
linked_hails_not first link g at = absurd (true≢false (ap hails_no_more at))

pub ended_hails_not : (first link : State) (how : End) → HailsFresh first (ended how) link
ended_hails_not first link how g at = absurd (true≢false (ap hails_no_more at))

-- ---- CLOSE goes out behind the last message

module _ (me : Side) (h : Holdings) (v : List Seen) (J : Moment → Type 0)
    (IsThere : Moment → PacketValue → ℕ → Type 0) (is : IsInvariant me h v J IsThere) where
  closes_alike : (m : Moment) (x : Sending DialogueState) (over : Bool) → IsUp x.link → J (sent_all m x) →
      SendsAlike J m (closes_by over x) (closes_by over (counted_sending (sent_all m x) x))
  closes_alike m x false up j = record { holds = j; same = refl }
  closes_alike m x true up j =
      let es = (step x.link to_close).emitted in
      let link = (step x.link to_close).state in
      let all : moved (sent_all m x) to_close x.keeper ≡ sent_all m (closes_by true x) =
      emits_more_packets m x.emissions es x.link link x.keeper x.keeper in
      record {
        holds = subst J all (is.closes (sent_all m x) j up);
        same = ap (λ (c : Count). record { link = link; keeper = c; emissions = x.emissions ++ es })
            (sym (count_silent (sent_all m x) es link (none_sent es (firsts_of x.link to_close))) ∙ ap count all);
      }

  speaks_and_closes_alike : (m : Moment) (x : Sending DialogueState) (y : Sending Count) → IsUp x.link → SendsAlike J m x y →
      SendsAlike J m (speaks_and_closes (end_keeper me h) x) (speaks_and_closes (count_keeper v) y)
  speaks_and_closes_alike m x y up alike =
      let z = counted_sending (sent_all m x) x in
      subst (λ (w : Sending Count). SendsAlike J m (speaks_and_closes (end_keeper me h) x) (speaks_and_closes (count_keeper v) w))
      (sym alike.same)
      (subst (λ (over : Bool). SendsAlike J m (speaks_and_closes (end_keeper me h) x) (closes_by over z))
      (is.over (sent_all m x) alike.holds)
      (closes_alike m x ((end_keeper me h).is_over x.keeper) up alike.holds))

  speaks_alike : (m : Moment) → J m → (up : Bool) → is_up m.link.phase ≡ up →
      SendsAlike J m (speaks_by up (end_keeper me h) m.link m.talk) (speaks_by up (count_keeper v) m.link (count m))
  speaks_alike m j false eq = nothing_alike J m j
  speaks_alike m j true eq =
      speaks_and_closes_alike m (sends (end_keeper me h) m.link m.talk) (sends (count_keeper v) m.link (count m))
      (sends_stays_up WINDOW_MAX (end_keeper me h) m.link m.talk (up_by m.link.phase eq))
      (sends_alike me h v J IsThere is WINDOW_MAX m j)

-- ---- the session goes on

goes_on_with_alike : (number : Option ℕ) (J : Moment → Type 0) (first : State) (m : Moment) (took : Bool) (es : List Emission) (link : State)
    (talk : DialogueState) (x : Sending DialogueState) (y : Sending Count) → SendsAlike J (emits m (packets es) link talk) x y →
    DoesAlike J first m (goes_on_with number took es x) (goes_on_with number took es y)
goes_on_with_alike number J first m took es link talk x y alike =
    let all : sent_all (emits m (packets es) link talk) x ≡ done_all m (goes_on_with number took es x) =
    emits_more_packets m es x.emissions link x.link talk x.keeper in
    record {
      holds = subst J all alike.holds;
      same = ap (λ (z : Sending Count). goes_on_with number took es z) alike.same
          ∙ ap (λ (z : Moment). counted_effect z (goes_on_with number took es x)) all;
      hails = linked_hails_not first x.link;
    }

-- behind a link's effect, where the talk and the numbers are then so
pub goes_on_alike : (number : Option ℕ) → (me : Side) (h : Holdings) (v : List Seen) (J : Moment → Type 0)
    (IsThere : Moment → PacketValue → ℕ → Type 0) → IsInvariant me h v J IsThere →
    (first : State) (m : Moment) (took : Bool) (e : Effect) (talk : DialogueState) (c : Count) →
    J (emits m (packets e.emitted) e.state talk) → c ≡ count (emits m (packets e.emitted) e.state talk) →
    DoesAlike J first m (goes_on number (end_keeper me h) took e talk) (goes_on number (count_keeper v) took e c)
goes_on_alike number me h v J IsThere is first m took e talk c j same =
    let then_m = emits m (packets e.emitted) e.state talk in
    subst (λ (d : Count). DoesAlike J first m (goes_on number (end_keeper me h) took e talk) (goes_on number (count_keeper v) took e d))
    (sym same)
    (goes_on_with_alike number J first m took e.emitted e.state talk (speaks_by (is_up e.state.phase) (end_keeper me h) e.state talk)
    (speaks_by (is_up e.state.phase) (count_keeper v) e.state (count then_m))
    (speaks_alike me h v J IsThere is then_m j (is_up e.state.phase) refl))

-- it says nothing
pub stays_alike : (number : Option ℕ) (J : Moment → Type 0) (first : State) (m : Moment) (e : Effect) (talk : DialogueState) (c : Count) →
    J (emits m (packets e.emitted) e.state talk) → c ≡ count (emits m (packets e.emitted) e.state talk) →
    DoesAlike J first m (goes_on_with number false e.emitted (sending_nothing e.state talk))
    (goes_on_with number false e.emitted (sending_nothing e.state c))
stays_alike number J first m e talk c j same =
    let then_m = emits m (packets e.emitted) e.state talk in
    subst (λ (d : Count). DoesAlike J first m (goes_on_with number false e.emitted (sending_nothing e.state talk))
    (goes_on_with number false e.emitted (sending_nothing e.state d))) (sym same)
    (goes_on_with_alike number J first m false e.emitted e.state talk (sending_nothing e.state talk)
    (sending_nothing e.state (count then_m)) (nothing_alike J then_m j))

-- ---- the session ends

pub ends_alike : (number : Option ℕ) (J : Moment → Type 0) (first : State) (id : Identity) (m : Moment) (parted also_parted : Bool) (how : End)
    (e : Effect) (talk : DialogueState) (c : Count) (took : Bool) → parted ≡ also_parted → J (emits m (packets e.emitted) e.state talk) →
    c ≡ count (emits m (packets e.emitted) e.state talk) →
    DoesAlike J first m (ends_so number id parted how e talk took) (ends_so number id also_parted how e c took)
ends_alike number J first id m parted also_parted how e talk c took agree j same =
    let all : emits m (packets e.emitted) e.state talk ≡ done_all m (ends_so number id parted how e talk took) =
    sym (emits_and_leaves m (packets e.emitted) parted id.side e.state talk) in
    record {
      holds = subst J all j;
      same = ap (λ (b : Bool). ends_so number id b how e c took) (sym agree)
          ∙ ap (λ (d : Count). ends_so number id parted how e d took) (same ∙ ap count all);
      hails = ended_hails_not first e.state (how_it_ends parted how);
    }
