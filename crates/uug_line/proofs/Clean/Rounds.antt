-- A round: all bytes of the one line, then all of the other, where nothing on them is lost.
use Rattle.std.proofs.Common.{◌≡◌, ◌⊎◌, inl, inr, ℕ, true, All, List, [], ◌∷◌, ◌++◌, refl, ap, sym, subst, ◌∙◌, arith}
use Rattle.std.proofs.lemmas.List.{append_assoc, append-nil}
use Rattle.std.proofs.lemmas.List.Elements.{All-nil}
use Rattle.std.specs.Bool.{⊤}
use Rattle.uug_conversation.specs.Turns.{other}
use Rattle.uug_link.specs.OnTheWay.{AreComing, BringAll, IsTalk}
use Rattle.uug_link.specs.State.{State}
use Rattle.uug_link.specs.Step.{next_number}
use Rattle.uug_packet.specs.Packet.{PacketValue, close, control, carry}
use Rattle.uug_packet.specs.Spelling.{canonical}
use Rattle.uug_session.specs.declared.end.End.TheVariants as ends
use Rattle.uug_conversation.specs.Count.{Count, count_keeper}
use Rattle.uug_session.specs.EndStep.{EndState, ended, linked}
use Rattle.uug_conversation.specs.View.{Seen}
use Rattle.uug_conversation.specs.declared.side.Side.{Side}
use Rattle.uug_line.specs.Belongings.{Belongings, SetupValue}
use Rattle.uug_line.specs.LineEndState.{LineEndState}
use Rattle.uug_conversation.specs.Sides.{AtBoth}
use Rattle.uug_line.proofs.Clean.Base.{Base, as_end, came_on, seen, with_line, written, written-append}
use Rattle.uug_line.proofs.Clean.Counts.{all_came, none_outstanding, over_too, stuck}
use Rattle.uug_line.proofs.Clean.Items.{Back, Open, Shutting, ShutsWith, StaysKnown, Talks}
use Rattle.uug_line.proofs.Clean.Passes.{Closed, Passed, closed_of, closes_with, forgets, HeardAll, heard_all, leaves, passed_all, passed_behind}
use Rattle.uug_line.proofs.Clean.Ways.{Certainty, IsTold, Knows, knows_on, sure, then_sure}

-- ---- two ends and their lines

-- both talk; ps stand on the line from x, and qs on the other
pub record OpenPair (there back : Certainty) (x y : LineEndState Count) (ps qs : List PacketValue) : Type 0 where
  pub x_talks : Talks x
  pub y_talks : Talks y
  pub out : Back y x ps
  pub brings : BringAll x.state.link y.state.link ps
  pub tells : IsTold there x.state.link y.state.link ps qs
  pub home : Back x y qs
  pub brings_back : BringAll y.state.link x.state.link qs
  pub tells_back : IsTold back y.state.link x.state.link qs ps

pub turned_open : (there back : Certainty) (x y : LineEndState Count) (ps qs : List PacketValue) → OpenPair there back x y ps qs →
    OpenPair back there y x qs ps
turned_open there back x y ps qs o = record {
  x_talks = o.y_talks;
  y_talks = o.x_talks;
  out = o.home;
  brings = o.brings_back;
  tells = o.tells_back;
  home = o.out;
  brings_back = o.brings;
  tells_back = o.tells;
}

-- x has closed, and nothing is on its way to it
pub record ShutPair (v : List Seen) (x y : LineEndState Count) : Type 0 where
  pub shutting : Shutting v y x
  pub talks : Talks y
  pub brings : BringAll x.state.link y.state.link shutting.last
  pub empty : y.line ≡ []
  pub none_coming : AreComing (as_end y) (as_end x) []

-- the session of x is done, and its CLOSE is on the way to y, which has closed
pub record LeftPair (v w : List Seen) (x y : LineEndState Count) : Type 0 where
  pub stage : x.state.stage ≡ ended ends.Done
  pub over : (count_keeper v).is_over x.state.keeper ≡ true
  pub last : List PacketValue
  pub behind : List ℕ
  pub line : x.line ≡ written (last ++ control close ∷ []) ++ behind
  pub coming : AreComing (as_end x) (as_end y) (last ++ control close ∷ [])
  pub talk : All IsTalk last
  pub closed : Closed w y
  pub empty : y.line ≡ []

-- both sessions are done
pub record DonePair (v w : List Seen) (x y : LineEndState Count) : Type 0 where
  pub x_stage : x.state.stage ≡ ended ends.Done
  pub y_stage : y.state.stage ≡ ended ends.Done
  pub x_over : (count_keeper v).is_over x.state.keeper ≡ true
  pub y_over : (count_keeper w).is_over y.state.keeper ≡ true

pub turned_done : (v w : List Seen) (x y : LineEndState Count) → DonePair v w x y → DonePair w v y x
turned_done v w x y d = record { x_stage = d.y_stage; y_stage = d.x_stage; x_over = d.y_over; y_over = d.x_over }

-- ---- a line without bytes

abbrev IsNone : List ℕ → Type 0
IsNone [] = ⊤
IsNone (byte ∷ bytes) = ⊥

some_bytes : (p : PacketValue) (bytes : List ℕ) → canonical p ++ bytes ≡ [] → ⊥
some_bytes (control c) bytes is = subst IsNone (sym is) tt
some_bytes (carry seq ack k message) bytes is = subst IsNone (sym is) tt

pub none_written : (ps : List PacketValue) → written ps ≡ [] → ps ≡ []
none_written [] is = refl
none_written (p ∷ ps) is = absurd (some_bytes p (written ps) is)

pub some_closing : (last : List PacketValue) (behind : List ℕ) → written (last ++ control close ∷ []) ++ behind ≡ [] → ⊥
some_closing [] behind is = some_bytes (control close) behind is
some_closing (p ∷ last) behind is =
    some_bytes p (written (last ++ control close ∷ []) ++ behind)
    (sym (append_assoc (canonical p) (written (last ++ control close ∷ [])) behind) ∙ is)

pub some_closing_line : (last : List PacketValue) → written (last ++ control close ∷ []) ≡ [] → ⊥
some_closing_line last is =
    some_closing last [] (append-nil (written (last ++ control close ∷ [])) ∙ is)

-- ---- a pass

-- All bytes of the line from x have come to y on the side.
pub record PassedTo (setup : SetupValue) (brought : AtBoth Belongings) (B : Side → LineEndState Count → LineEndState Count → Type 0)
    (side : Side) (x y : LineEndState Count) (P : LineEndState Count → Type 0) : Type 0 where
  pub then : LineEndState Count
  pub passed : Passed setup brought B side (with_line [] x) y then x.line
  pub holds : P then

closed_line : (last : List PacketValue) → written (last ++ control close ∷ []) ≡ written last ++ canonical (control close)
closed_line last =
    written-append last (control close ∷ []) ∙ ap (λ (l : List ℕ). written last ++ l) (append-nil (canonical (control close)))

module _ (setup : SetupValue) (brought : AtBoth Belongings) (B : Side → LineEndState Count → LineEndState Count → Type 0)
    (base : Base setup brought B) (side : Side) where
  -- the line of the other end becomes empty
  pub far_empty : (x y : LineEndState Count) → B side y x → B side y (with_line [] x)
  far_empty x y is =
      base.turned_back side (with_line [] x) y (base.relined (other side) [] x y (base.turned side y x is))

  -- ---- where both talk

  stays_known : (there back : Certainty) (far : State) → StaysKnown (Knows there back far)
  stays_known there back far p a b ps qs answer plain h k = knows_on there back far a b p ps qs answer plain h k

  abbrev pub PassesOpen : (there : Certainty) (x y z : LineEndState Count) → Type 0
  PassesOpen there x y z =
      ((qs : List PacketValue) × OpenPair there sure (with_line [] x) z [] qs)
      ⊎ ShutPair (seen setup brought side) z (with_line [] x)

  open_so : (there back : Certainty) (x z : LineEndState Count) (qs : List PacketValue) → Talks x →
      Open (Knows there back x.state.link) (with_line [] x) z [] [] qs → OpenPair there sure (with_line [] x) z [] qs
  open_so there back x z qs talks o = record {
    x_talks = record { stage = talks.stage; is_up = talks.is_up };
    y_talks = o.talks;
    out = record { line = refl; coming = o.there.coming; talk = All-nil IsTalk };
    brings = o.there.brings;
    tells = o.knows.tells;
    home = o.back;
    brings_back = o.knows.brings_back;
    tells_back = then_sure back z.state.link x.state.link qs o.knows.tells_back;
  }

  shut_so : (there back : Certainty) (x z : LineEndState Count) → Talks x → AreComing (as_end x) (as_end z) [] →
      ShutsWith (seen setup brought side) (Knows there back x.state.link) (with_line [] x) z →
      ShutPair (seen setup brought side) z (with_line [] x)
  shut_so there back x z talks coming shut =
      let s = shut.shutting in
      record {
        shutting = s;
        talks = record { stage = talks.stage; is_up = talks.is_up };
        brings = shut.knows.brings_back ∙ sym (ap (λ (e : EndState Count). next_number e.link) s.state);
        empty = refl;
        none_coming = coming;
      }

  pub open_passes : (there back : Certainty) (x y : LineEndState Count) (ps qs : List PacketValue) → B side y x →
      OpenPair there back x y ps qs → PassedTo setup brought B side x y (PassesOpen there x y)
  open_passes there back x y ps qs is o = by h.how
    where
      far : LineEndState Count
      far = with_line [] x

      K : State → List PacketValue → List PacketValue → Type 0
      K = Knows there back x.state.link

      open_to : Open K far y ps [] qs
      open_to = record {
        talks = o.y_talks;
        there = record {
          coming = subst (λ (l : List PacketValue). AreComing (as_end x) (as_end y) l) (sym (append-nil ps)) o.out.coming;
          talk = o.out.talk;
          brings = o.brings;
        };
        back = record { line = o.home.line; coming = o.home.coming; talk = o.home.talk };
        knows = record { tells = o.tells; brings_back = o.brings_back; tells_back = o.tells_back };
      }

      h : HeardAll setup brought B side K far y (written ps) []
      h = heard_all setup brought B base side K (stays_known there back x.state.link) ps far y [] qs (far_empty x y is) open_to

      passed_so : h.then.state.stage ≡ linked → Passed setup brought B side far y h.then x.line
      passed_so on = subst (λ (l : List ℕ). Passed setup brought B side far y h.then l) (sym o.out.line)
          (passed_all setup brought B base side far y h.then (written ps) h.came on)

      by : ((qs : List PacketValue) × Open K far h.then [] [] qs) ⊎ ShutsWith (seen setup brought side) K far h.then →
          PassedTo setup brought B side x y (PassesOpen there x y)
      by (inl on) = record {
        then = h.then;
        passed = passed_so on.1.talks.stage;
        holds = inl (on.0, open_so there back x h.then on.0 o.x_talks on.1);
      }
      by (inr shut) = record {
        then = h.then;
        passed = passed_so (ap (λ (e : EndState Count). e.stage) shut.shutting.state);
        holds = inr (shut_so there back x h.then o.x_talks h.coming shut);
      }

  -- ---- where the other end has closed

  abbrev pub LeavesPair : (x z : LineEndState Count) → Type 0
  LeavesPair x z = LeftPair (seen setup brought side) (seen setup brought (other side)) z (with_line [] x)

  abbrev Anything : State → List PacketValue → List PacketValue → Type 0
  Anything s ps qs = ⊤

  pub shut_passes : (x y : LineEndState Count) → B side y x → ShutPair (seen setup brought (other side)) x y →
      PassedTo setup brought B side x y (LeavesPair x)
  shut_passes x y is s = by h.how
    where
      far : LineEndState Count
      far = with_line [] x

      last : List PacketValue
      last = s.shutting.last

      open_to : Open Anything far y last (control close ∷ []) []
      open_to = record {
        talks = s.talks;
        there = record { coming = s.shutting.coming; talk = s.shutting.talk; brings = s.brings };
        back = record { line = s.empty; coming = s.none_coming; talk = All-nil IsTalk };
        knows = tt;
      }

      h : HeardAll setup brought B side Anything far y (written last) (control close ∷ [])
      h = heard_all setup brought B base side Anything (λ p a b ps qs answer plain h k. tt) last far y (control close ∷ []) []
          (far_empty x y is) open_to

      far_base : B (other side) far h.then
      far_base = base.turned side h.then far h.came.base

      over : (count_keeper (seen setup brought (other side))).is_over x.state.keeper ≡ true
      over = ap (λ (e : EndState Count). (count_keeper (seen setup brought (other side))).is_over e.keeper) s.shutting.state
          ∙ s.shutting.over

      by : ((qs : List PacketValue) × Open Anything far h.then [] (control close ∷ []) qs)
          ⊎ ShutsWith (seen setup brought side) Anything far h.then →
          PassedTo setup brought B side x y (LeavesPair x)
      by (inl on) =
          absurd (over_too setup brought B base (other side) far h.then far_base over
          (all_came setup brought B base (other side) far h.then far_base on.1.there.brings) on.1.talks)
      by (inr shut) =
          let shutting = shut.shutting in
          let l = leaves setup brought B base side far h.then h.came.base
          (closed_of (seen setup brought side) far h.then shutting) h.coming in
          let came = came_on setup brought B side far y h.then l.then (written last) (canonical (control close)) h.came l.came in
          record {
            then = l.then;
            passed = subst (λ (b : List ℕ). Passed setup brought B side far y l.then b)
                (append-nil (written last ++ canonical (control close)) ∙ sym (s.shutting.line ∙ closed_line last))
                (passed_behind setup brought B base side far y l.then (written last ++ canonical (control close)) [] came l.stage);
            holds = record {
              stage = l.stage;
              over = l.over;
              last = shutting.last;
              behind = l.behind;
              line = l.line ∙ ap (λ (b : List ℕ). b ++ l.behind) shutting.line;
              coming = record {
                before = shutting.coming.before;
                emitted = l.packets ∙ shutting.coming.emitted;
                passed = shutting.coming.passed;
              };
              talk = shutting.talk;
              closed = record {
                before = s.shutting.before;
                count = s.shutting.count;
                number = s.shutting.number;
                state = s.shutting.state;
                over = s.shutting.over;
              };
              empty = refl;
            };
          }

  -- ---- where the session of the other end is done

  abbrev pub EndsPair : (x z : LineEndState Count) → Type 0
  EndsPair x z = DonePair (seen setup brought (other side)) (seen setup brought side) (with_line [] x) z

  pub left_passes : (x y : LineEndState Count) → B side y x →
      LeftPair (seen setup brought (other side)) (seen setup brought side) x y → PassedTo setup brought B side x y (EndsPair x)
  left_passes x y is l =
      let far = with_line [] x in
      let c = closes_with setup brought B base side far y l.last (far_empty x y is) l.closed l.talk l.coming in
      record {
        then = c.then;
        passed = subst (λ (b : List ℕ). Passed setup brought B side far y c.then b)
            (ap (λ (b : List ℕ). b ++ l.behind) (sym (closed_line l.last)) ∙ sym l.line)
            (passed_behind setup brought B base side far y c.then (written l.last ++ canonical (control close)) l.behind c.came
            c.stage);
        holds = record { x_stage = l.stage; y_stage = c.stage; x_over = l.over; y_over = c.over };
      }

  -- an end whose session is done stays so
  pub done_passes : (x y : LineEndState Count) → B side y x →
      DonePair (seen setup brought (other side)) (seen setup brought side) x y → PassedTo setup brought B side x y (EndsPair x)
  done_passes x y is d = record {
    then = y;
    passed = record {
      base = far_empty x y is;
      took = forgets setup brought B base side (with_line [] x) y x.line d.y_stage;
      sent = omega arith;
      taken = omega arith;
    };
    holds = record { x_stage = d.x_stage; y_stage = d.y_stage; x_over = d.x_over; y_over = d.y_over };
  }

  -- ---- something is on the way

  pub open_is_not_idle : (there back : Certainty) (x y : LineEndState Count) → B side x y → OpenPair there back x y [] [] → ⊥
  open_is_not_idle there back x y is o =
      let far = base.turned side x y is in
      let all = all_came setup brought B base side x y is o.brings in
      let all_back = all_came setup brought B base (other side) y x far o.brings_back in
      stuck setup brought B base side x y is o.x_talks o.y_talks all all_back
      (none_outstanding setup brought B base side x y is all (then_sure back y.state.link x.state.link [] o.tells_back))
      (none_outstanding setup brought B base (other side) y x far all_back
      (then_sure there x.state.link y.state.link [] o.tells))
