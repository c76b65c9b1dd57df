-- All packets of a line come to an end, where nothing on it is lost: to one that talks, or to one that has closed.
use Rattle.std.proofs.Common.{◌≡◌, ◌⊎◌, inl, inr, ℕ, ◌≤◌, true, false, All, List, [], ◌∷◌, ◌++◌, Option, length, refl, ap, sym, subst, ◌∙◌}
use Rattle.std.proofs.lemmas.List.{append-nil}
use Rattle.std.proofs.lemmas.List.Elements.{All-head, All-tail}
use Rattle.uug_link.specs.OnTheWay.{AreComing, IsTalk}
use Rattle.uug_link.specs.State.{State}
use Rattle.uug_packet.specs.Packet.{PacketValue, close, control}
use Rattle.uug_packet.specs.Spelling.{canonical}
use Rattle.uug_session.specs.declared.end.End.TheVariants as ends
use Rattle.uug_session.specs.Arriving.{all_taken, held_in, holds, takes_all, takes_up}
use Rattle.uug_conversation.specs.Count.{Count, count_keeper}
use Rattle.uug_session.specs.EndStep.{EndState, Stage, end_step, ended, final_text, linked, message_of, packet_found_whole}
use Rattle.uug_session.specs.Finding.{finding}
use Rattle.uug_talk.specs.Texts.{written_text}
use Rattle.uug_conversation.specs.View.{Seen}
use Rattle.uug_conversation.specs.declared.side.Side.{Side}
use Rattle.uug_line.specs.Belongings.{Belongings, SetupValue, identity}
use Rattle.uug_line.specs.LineEndState.{LineEndState}
use Rattle.uug_conversation.specs.Sides.{AtBoth}
use Rattle.uug_line.specs.Taking.{packet_taken_up, with_packet}
use Rattle.uug_line.proofs.Clean.Base.{Base, Came, as_end, came_on, came_so, next_found, nothing_came, seen, still_coming, receiver, took_passed, written}
use Rattle.uug_line.proofs.Clean.Ends.{closing_end, closing_ends, closing_ignores, done_end}
use Rattle.uug_line.proofs.Clean.Items.{Open, Shutting, ShutsWith, StaysKnown, formed_there, heard}
use Rattle.uug_line.proofs.World.Steps.{count_player}
use Rattle.uug_session.proofs.ArrivingLemmas.{takes_next}

-- ---- an end that closes, and one that is done

-- what comes in front of CLOSE changes nothing but what it has found
pub record Ignores (setup : SetupValue) (brought : AtBoth Belongings) (B : Side → LineEndState Count → LineEndState Count → Type 0)
    (side : Side) (x y : LineEndState Count) (bytes : List ℕ) (rest : List PacketValue) : Type 0 where
  pub then : LineEndState Count
  pub came : Came setup brought B side x y then bytes
  pub coming : AreComing (as_end x) (as_end then) rest
  pub state : then.state ≡ y.state
  pub line : then.line ≡ y.line
  pub packets : then.log.packets ≡ y.log.packets

-- an end that has closed where all is said and taken
pub record Closed (v : List Seen) (y : LineEndState Count) : Type 0 where
  pub before : State
  pub count : Count
  pub number : Option ℕ
  pub state : y.state ≡ closing_end number before count
  pub over : (count_keeper v).is_over count ≡ true

pub closed_of : (v : List Seen) (x y : LineEndState Count) → Shutting v x y → Closed v y
closed_of v x y s = record { before = s.before; count = s.count; number = s.number; state = s.state; over = s.over }

-- one whose session is done then: CLOSE is the last packet that it has emitted
pub record Leaves (setup : SetupValue) (brought : AtBoth Belongings) (B : Side → LineEndState Count → LineEndState Count → Type 0)
    (side : Side) (x y : LineEndState Count) (bytes : List ℕ) : Type 0 where
  pub then : LineEndState Count
  pub came : Came setup brought B side x y then bytes
  pub stage : then.state.stage ≡ ended ends.Done
  pub over : (count_keeper (seen setup brought side)).is_over then.state.keeper ≡ true
  pub behind : List ℕ
  pub line : then.line ≡ y.line ++ behind
  pub packets : then.log.packets ≡ y.log.packets

still_shutting : (v : List Seen) (x y then : LineEndState Count) → then.state ≡ y.state → then.line ≡ y.line →
    then.log.packets ≡ y.log.packets → (s : Shutting v x y) → Shutting v x then
still_shutting v x y then state line packets s = record {
  before = s.before;
  count = s.count;
  number = s.number;
  state = state ∙ s.state;
  over = s.over;
  last = s.last;
  line = line ∙ s.line;
  coming = record { before = s.coming.before; emitted = packets ∙ s.coming.emitted; passed = s.coming.passed };
  talk = s.talk;
}

-- all of ps have come
pub record HeardAll (setup : SetupValue) (brought : AtBoth Belongings) (B : Side → LineEndState Count → LineEndState Count → Type 0)
    (side : Side) (K : State → List PacketValue → List PacketValue → Type 0) (x y : LineEndState Count) (bytes : List ℕ)
    (behind : List PacketValue) : Type 0 where
  pub then : LineEndState Count
  pub came : Came setup brought B side x y then bytes
  pub coming : AreComing (as_end x) (as_end then) behind
  pub how : ((qs : List PacketValue) × Open K x then [] behind qs) ⊎ ShutsWith (seen setup brought side) K x then

-- these bytes were all that came
pub record Passed (setup : SetupValue) (brought : AtBoth Belongings) (B : Side → LineEndState Count → LineEndState Count → Type 0)
    (side : Side) (x y then : LineEndState Count) (bytes : List ℕ) : Type 0 where
  pub base : B side then x
  pub took : takes_all (receiver setup brought side x) (holds (receiver setup brought side x) bytes y)
      ≡ all_taken (record { held = []; end = then })
  pub sent : length y.log.sent ≤ length then.log.sent
  pub taken : length y.log.taken ≤ length then.log.taken

module _ (setup : SetupValue) (brought : AtBoth Belongings) (B : Side → LineEndState Count → LineEndState Count → Type 0)
    (base : Base setup brought B) (side : Side) where
  -- ---- to one that closes

  ignores_as : (x y : LineEndState Count) (p : PacketValue) (rest : List PacketValue) (before : State) (count : Count) (number : Option ℕ) → B side y x →
      y.state ≡ closing_end number before count → IsTalk p → AreComing (as_end x) (as_end y) (p ∷ rest) →
      Ignores setup brought B side x y (canonical p) rest
  ignores_as x y p rest before count number is state talk coming =
      let at_place = next_found (as_end x) (as_end y) p rest coming in
      let participant = count_player setup brought side in
      let id = identity setup side in
      let v = seen setup brought side in
      let effect = end_step participant.keeper participant.identity (packet_found_whole false p) y.state in
      let then = packet_taken_up participant p at_place.place y in
      let on : y.state.stage ≡ linked = ap (λ (e : EndState Count). e.stage) state in
      let same : then ≡ with_packet p at_place.place y (record { state = closing_end number before count; emitted = []; took = false }) =
      ap (with_packet p at_place.place y)
      (ap (end_step participant.keeper participant.identity (packet_found_whole false p)) state ∙ closing_ignores number v id p before count talk) in
      record {
        then = then;
        came = came_so setup brought B base side x y p at_place.place on
            (formed_there setup brought B base side x y p rest is coming) at_place.there is;
        coming = still_coming (as_end x) (as_end y) (as_end then) p rest at_place.place at_place.is
            (took_passed effect.took (message_of p) at_place.place y.log) coming;
        state = ap (λ (e : LineEndState Count). e.state) same ∙ sym state;
        line = ap (λ (e : LineEndState Count). e.line) same ∙ append-nil y.line;
        packets = ap (λ (e : LineEndState Count). e.log.packets) same ∙ append-nil y.log.packets;
      }

  ignores_all : (ps : List PacketValue) (x y : LineEndState Count) (rest : List PacketValue) (before : State) (count : Count) (number : Option ℕ) → B side y x →
      y.state ≡ closing_end number before count → All IsTalk ps → AreComing (as_end x) (as_end y) (ps ++ rest) →
      Ignores setup brought B side x y (written ps) rest
  ignores_all [] x y rest before count number is state talk coming = record {
    then = y;
    came = nothing_came setup brought B side x y is;
    coming = coming;
    state = refl;
    line = refl;
    packets = refl;
  }
  ignores_all (p ∷ ps) x y rest before count number is state talk coming =
      let first = ignores_as x y p (ps ++ rest) before count number is state (All-head IsTalk p ps talk) coming in
      let later = ignores_all ps x first.then rest before count number first.came.base (first.state ∙ state)
      (All-tail IsTalk p ps talk) first.coming in
      record {
        then = later.then;
        came = came_on setup brought B side x y first.then later.then (canonical p) (written ps) first.came later.came;
        coming = later.coming;
        state = later.state ∙ first.state;
        line = later.line ∙ first.line;
        packets = later.packets ∙ first.packets;
      }

  -- CLOSE comes to it
  pub leaves : (x y : LineEndState Count) → B side y x → Closed (seen setup brought side) y →
      AreComing (as_end x) (as_end y) (control close ∷ []) → Leaves setup brought B side x y (canonical (control close))
  leaves x y is s coming =
      let p = control close in
      let at_place = next_found (as_end x) (as_end y) p [] coming in
      let participant = count_player setup brought side in
      let id = identity setup side in
      let v = seen setup brought side in
      let then = packet_taken_up participant p at_place.place y in
      let on : y.state.stage ≡ linked = ap (λ (e : EndState Count). e.stage) s.state in
      let same : then ≡ with_packet p at_place.place y (done_end s.number id s.before s.count) =
      ap (with_packet p at_place.place y)
      (ap (end_step participant.keeper participant.identity (packet_found_whole false p)) s.state
      ∙ closing_ends s.number v id s.before s.count s.over) in
      record {
        then = then;
        came = came_so setup brought B base side x y p at_place.place on
            (formed_there setup brought B base side x y p [] is coming) at_place.there is;
        stage = ap (λ (e : LineEndState Count). e.state.stage) same;
        over = ap (λ (e : LineEndState Count). (count_keeper v).is_over e.state.keeper) same ∙ s.over;
        behind = written_text (final_text id.side) ++ [];
        line = ap (λ (e : LineEndState Count). e.line) same;
        packets = ap (λ (e : LineEndState Count). e.log.packets) same ∙ append-nil y.log.packets;
      }

  -- packets and then CLOSE
  pub closes_with : (x y : LineEndState Count) (ps : List PacketValue) → B side y x → Closed (seen setup brought side) y → All IsTalk ps →
      AreComing (as_end x) (as_end y) (ps ++ control close ∷ []) →
      Leaves setup brought B side x y (written ps ++ canonical (control close))
  closes_with x y ps is s talk coming =
      let first = ignores_all ps x y (control close ∷ []) s.before s.count s.number is s.state talk coming in
      let later = leaves x first.then first.came.base
      (record { before = s.before; count = s.count; number = s.number; state = first.state ∙ s.state; over = s.over }) first.coming in
      record {
        then = later.then;
        came = came_on setup brought B side x y first.then later.then (written ps) (canonical (control close)) first.came later.came;
        stage = later.stage;
        over = later.over;
        behind = later.behind;
        line = later.line ∙ ap (λ (l : List ℕ). l ++ later.behind) first.line;
        packets = later.packets ∙ first.packets;
      }

  -- ---- to one that talks

  heard_still : (K : State → List PacketValue → List PacketValue → Type 0) (x y then : LineEndState Count) (p : PacketValue)
      (ps behind : List PacketValue) → Came setup brought B side x y then (canonical p) →
      HeardAll setup brought B side K x then (written ps) behind → HeardAll setup brought B side K x y (written (p ∷ ps)) behind
  heard_still K x y then p ps behind came h = record {
    then = h.then;
    came = came_on setup brought B side x y then h.then (canonical p) (written ps) came h.came;
    coming = h.coming;
    how = h.how;
  }

  heard_shut : (K : State → List PacketValue → List PacketValue → Type 0) (x y : LineEndState Count) (ps behind : List PacketValue) →
      B side y x → All IsTalk ps → AreComing (as_end x) (as_end y) (ps ++ behind) → ShutsWith (seen setup brought side) K x y →
      HeardAll setup brought B side K x y (written ps) behind
  unfolding still_shutting
  heard_shut K x y ps behind is talk coming shut =
      let s = shut.shutting in
      let i = ignores_all ps x y behind s.before s.count s.number is s.state talk coming in
      record {
        then = i.then;
        came = i.came;
        coming = i.coming;
        how = inr (record {
          shutting = still_shutting (seen setup brought side) x y i.then i.state i.line i.packets s;
          ps = shut.ps;
          knows = shut.knows;
        });
      }

  heard_more : (K : State → List PacketValue → List PacketValue → Type 0) (x y then : LineEndState Count) (p : PacketValue)
      (ps behind qs : List PacketValue) → All IsTalk ps → Came setup brought B side x y then (canonical p) →
      AreComing (as_end x) (as_end then) (ps ++ behind) →
      ((qs : List PacketValue) → B side then x → Open K x then ps behind qs →
      HeardAll setup brought B side K x then (written ps) behind) →
      ((answer : List PacketValue) × Open K x then ps behind (qs ++ answer)) ⊎ ShutsWith (seen setup brought side) K x then →
      HeardAll setup brought B side K x y (written (p ∷ ps)) behind
  heard_more K x y then p ps behind qs talk came coming more (inl on) =
      heard_still K x y then p ps behind came (more (qs ++ on.0) came.base on.1)
  heard_more K x y then p ps behind qs talk came coming more (inr shut) =
      heard_still K x y then p ps behind came (heard_shut K x then ps behind came.base talk coming shut)

  pub heard_all : (K : State → List PacketValue → List PacketValue → Type 0) → StaysKnown K → (ps : List PacketValue)
      (x y : LineEndState Count) (behind qs : List PacketValue) → B side y x → Open K x y ps behind qs →
      HeardAll setup brought B side K x y (written ps) behind
  heard_all K stays [] x y behind qs is o = record {
    then = y;
    came = nothing_came setup brought B side x y is;
    coming = o.there.coming;
    how = inl (qs, o);
  }
  heard_all K stays (p ∷ ps) x y behind qs is o =
      let h = heard setup brought B base side K stays x y p ps behind qs is o in
      heard_more K x y h.then p ps behind qs (All-tail IsTalk p ps o.there.talk) h.came h.coming
      (λ more. heard_all K stays ps x h.then behind more) h.how

  -- ---- the whole of a line

  -- nothing more is held
  pub passed_all : (x y then : LineEndState Count) (bytes : List ℕ) → Came setup brought B side x y then bytes → then.state.stage ≡ linked →
      Passed setup brought B side x y then bytes
  passed_all x y then bytes came on =
      let t = receiver setup brought side x in
      record {
        base = came.base;
        took = ap (λ (l : List ℕ). takes_all t (holds t l y)) (sym (append-nil bytes)) ∙ came.same [] ∙ takes_next (LineEndState Count) t [] then
            ∙ subst (λ (stage : Stage). takes_up (takes_all t) t (finding stage []) then ≡ all_taken (holds t [] then)) (sym on) refl
            ∙ subst (λ (stage : Stage). all_taken (record { held = held_in stage []; end = then })
            ≡ all_taken (record { held = []; end = then })) (sym on) refl;
        sent = came.sent;
        taken = came.taken;
      }

  -- an end that has ended forgets what comes
  pub forgets : (x y : LineEndState Count) (bytes : List ℕ) → y.state.stage ≡ ended ends.Done →
      takes_all (receiver setup brought side x) (holds (receiver setup brought side x) bytes y)
      ≡ all_taken (record { held = []; end = y })
  forgets x y bytes done =
      let t = receiver setup brought side x in
      takes_next (LineEndState Count) t bytes y
      ∙ subst (λ (stage : Stage). takes_up (takes_all t) t (finding stage bytes) y ≡ all_taken (holds t [] y)) (sym done) refl
      ∙ subst (λ (stage : Stage). all_taken (record { held = held_in stage []; end = y })
      ≡ all_taken (record { held = []; end = y })) (sym done) refl

  pub passed_behind : (x y then : LineEndState Count) (bytes behind : List ℕ) → Came setup brought B side x y then bytes →
      then.state.stage ≡ ended ends.Done → Passed setup brought B side x y then (bytes ++ behind)
  passed_behind x y then bytes behind came done = record {
    base = came.base;
    took = came.same behind ∙ forgets x then behind done;
    sent = came.sent;
    taken = came.taken;
  }
