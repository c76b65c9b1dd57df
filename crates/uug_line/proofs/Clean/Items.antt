-- What an end does with packets that come to it, one after the other, on a line where nothing is lost: it talks on, or closes
-- when all is said and taken.
use Rattle.std.proofs.Common.{◌≡◌, ◌⊎◌, inl, inr, ℕ, ◌<◌, Bool, true, false, All, List, [], ◌∷◌, ◌++◌, Option, ap, ap₂, sym, subst, ◌∙◌, arith}
use Rattle.std.proofs.lemmas.List.{append_assoc}
use Rattle.std.proofs.lemmas.List.Elements.{All-append, All-head, All-tail}
use Rattle.uug_conversation.specs.Turns.{other}
use Rattle.uug_link.specs.declared.phase.Phase.TheVariants.{Closing}
use Rattle.uug_link.specs.OnTheWay.{AreComing, BringAll, Hears, IsTalk}
use Rattle.uug_link.specs.State.{IsPlain, State, IsUp}
use Rattle.uug_link.specs.Step.{moved, only, packet_found}
use Rattle.uug_link.specs.TwoLinks.{packets_of}
use Rattle.uug_link.proofs.OnTheWayLemmas.{still_brings, hears_so as link_hears}
use Rattle.uug_packet.specs.Packet.{PacketValue, close, control}
use Rattle.uug_packet.specs.Spelling.{canonical}
use Rattle.uug_packet.specs.WellFormed.{IsWellFormed}
use Rattle.uug_conversation.specs.Count.{Count, count_keeper}
use Rattle.uug_session.specs.EndStep.{EndEffect, EndState, Emitted, end_step, linked, message_of, packet_found_whole}
use Rattle.uug_conversation.specs.View.{Seen}
use Rattle.uug_conversation.specs.declared.side.Side.{Side}
use Rattle.uug_line.specs.Belongings.{Belongings, SetupValue}
use Rattle.uug_line.specs.LineEndState.{LineEndState, bytes_in, found_at, packets_in, took}
use Rattle.uug_conversation.specs.Sides.{AtBoth, at}
use Rattle.uug_line.specs.Taking.{packet_taken_up, with_packet}
use Rattle.uug_line.proofs.Clean.Base.{Base, Came, as_end, bytes_written, came_so, more_coming, next_found, packets_written, seen, still_coming, took_packets, took_passed, with_close, written, written-append}
use Rattle.uug_line.proofs.Clean.Ends.{ClosesThen, TalksOn, TalksOrCloses, closing_end, talks_or_closes}
use Rattle.uug_line.proofs.World.Steps.{count_player}
use Rattle.uug_link.proofs.OutcomeLemmas.{moves_of}
use Rattle.uug_link.proofs.CountsRuns.{counted as links_counted}

-- ---- an end that talks, while packets come to it from the other end x and others behind them

-- on a link that is up
pub record Talks (y : LineEndState Count) : Type 0 where
  pub stage : y.state.stage ≡ linked
  pub is_up : IsUp y.state.link

-- they bring all that was sent
pub record There (x y : LineEndState Count) (ps behind : List PacketValue) : Type 0 where
  pub coming : AreComing (as_end x) (as_end y) (ps ++ behind)
  pub talk : All IsTalk ps
  pub brings : BringAll x.state.link y.state.link ps

-- just these stand on the way back
pub record Back (x y : LineEndState Count) (qs : List PacketValue) : Type 0 where
  pub line : y.line ≡ written qs
  pub coming : AreComing (as_end y) (as_end x) qs
  pub talk : All IsTalk qs

-- and what else is known of its link and of both ways
pub record Open (K : State → List PacketValue → List PacketValue → Type 0) (x y : LineEndState Count)
    (ps behind qs : List PacketValue) : Type 0 where
  pub talks : Talks y
  pub there : There x y ps behind
  pub back : Back x y qs
  pub knows : K y.state.link ps qs

-- what is known stays so with each packet that is heard, by an end that is not quiet on repeats
abbrev pub StaysKnown : (State → List PacketValue → List PacketValue → Type 0) → Type 0
StaysKnown K = (p : PacketValue) (a b : State) (ps qs answer : List PacketValue) → IsPlain a → Hears p a b answer →
    K a (p ∷ ps) qs → K b ps (qs ++ answer)

-- ---- an end that has closed where all is said and taken: CLOSE is its last packet

pub record Shutting (v : List Seen) (x y : LineEndState Count) : Type 0 where
  pub before : State
  pub count : Count
  pub number : Option ℕ
  pub state : y.state ≡ closing_end number before count
  pub over : (count_keeper v).is_over count ≡ true
  pub last : List PacketValue
  pub line : y.line ≡ written (last ++ control close ∷ [])
  pub coming : AreComing (as_end y) (as_end x) (last ++ control close ∷ [])
  pub talk : All IsTalk last

-- what was known when it closed
pub record ShutsWith (v : List Seen) (K : State → List PacketValue → List PacketValue → Type 0) (x y : LineEndState Count) :
    Type 0 where
  pub shutting : Shutting v x y
  pub ps : List PacketValue
  pub knows : K shutting.before ps shutting.last

-- ---- what follows of one packet

pub record Heard (setup : SetupValue) (brought : AtBoth Belongings) (B : Side → LineEndState Count → LineEndState Count → Type 0)
    (side : Side) (K : State → List PacketValue → List PacketValue → Type 0) (x y : LineEndState Count) (p : PacketValue)
    (ps behind qs : List PacketValue) : Type 0 where
  pub then : LineEndState Count
  pub came : Came setup brought B side x y then (canonical p)
  pub coming : AreComing (as_end x) (as_end then) (ps ++ behind)
  pub how : ((answer : List PacketValue) × Open K x then ps behind (qs ++ answer))
      ⊎ ShutsWith (seen setup brought side) K x then

all_there : (P : PacketValue → Type 0) (before : List PacketValue) (p : PacketValue) (ps : List PacketValue) →
    All P (before ++ p ∷ ps) → P p
all_there P [] p ps all = All-head P p ps all
all_there P (q ∷ before) p ps all = all_there P before p ps (All-tail P q (before ++ p ∷ ps) all)

same_state : (e : EndState Count) (before : State) → e.stage ≡ linked → e.link ≡ moved before Closing →
    e ≡ closing_end e.number before e.keeper
same_state e before on is = ap₂ (λ stage link. record { stage = stage; link = link; keeper = e.keeper; number = e.number }) on is

module _ (setup : SetupValue) (brought : AtBoth Belongings) (B : Side → LineEndState Count → LineEndState Count → Type 0)
    (base : Base setup brought B) (side : Side) where
  pub formed_there : (x y : LineEndState Count) (p : PacketValue) (ps : List PacketValue) → B side y x →
      AreComing (as_end x) (as_end y) (p ∷ ps) → IsWellFormed p
  formed_there x y p ps is coming =
      all_there IsWellFormed coming.before p ps
      (subst (λ (l : List PacketValue). All IsWellFormed l) coming.emitted
      (base.formed (other side) x y (base.turned side y x is)))

  expected_low : (x y : LineEndState Count) → B side y x → y.state.link.expected < 8
  expected_low x y is =
      let counted = (links_counted (at side setup).own (at (other side) setup).own (record { near = as_end y; far = as_end x })
      (base.window side) (base.window (other side)) (base.run side y x is)).1 in
      omega (arith, counted.expected)

  -- ---- an end that talks

  -- what it emitted stands behind what was on its line
  line_then : (y : LineEndState Count) (qs more : List PacketValue) (emitted : List Emitted) → y.line ≡ written qs →
      bytes_in emitted ≡ written more → y.line ++ bytes_in emitted ≡ written (qs ++ more)
  line_then y qs more emitted line is =
      ap₂ (λ (a b : List ℕ). a ++ b) line is ∙ sym (written-append qs more)

  packets_then : (y : LineEndState Count) (place : ℕ) (took_it : Bool) (message : List ℕ) (more : List PacketValue)
      (emitted : List Emitted) → packets_in emitted ≡ more →
      (took took_it message (found_at place y.log)).packets ++ packets_in emitted ≡ y.log.packets ++ more
  packets_then y place took_it message more emitted is =
      ap₂ (λ (a b : List PacketValue). a ++ b) (took_packets took_it message place y.log) is

  open_then : (K : State → List PacketValue → List PacketValue → Type 0) → StaysKnown K →
      (x y : LineEndState Count) (p : PacketValue) (ps behind qs : List PacketValue) (place : ℕ) (eff : EndEffect Count) →
      IsPlain y.state.link → Open K x y (p ∷ ps) behind qs →
      AreComing (as_end x) (as_end (with_packet p place y eff)) (ps ++ behind) → TalksOn p y.state.link eff →
      (answer : List PacketValue) × Open K x (with_packet p place y eff) ps behind (qs ++ answer)
  open_then K stays x y p ps behind qs place eff plain o coming on =
      let h = on.hears in
      let answer = packets_of on.emissions in (
        answer,
        record {
          talks = record { stage = on.stage; is_up = h.is_up };
          there = record {
            coming = coming;
            talk = All-tail IsTalk p ps o.there.talk;
            brings = (still_brings p y.state.link eff.state.link answer h).brings x.state.link ps o.there.brings;
          };
          back = record {
            line = line_then y qs answer eff.emitted o.back.line (ap bytes_in on.emitted ∙ bytes_written on.emissions);
            coming = more_coming (as_end y) (as_end (with_packet p place y eff)) (as_end x) qs answer
                (packets_then y place eff.took (message_of p) answer eff.emitted
                (ap packets_in on.emitted ∙ packets_written on.emissions)) o.back.coming;
            talk = All-append IsTalk qs answer o.back.talk h.answers.talk;
          };
          knows = stays p y.state.link eff.state.link ps qs answer plain h o.knows;
        },
      )

  shut_then : (K : State → List PacketValue → List PacketValue → Type 0) → StaysKnown K →
      (x y : LineEndState Count) (p : PacketValue) (ps behind qs : List PacketValue) (place : ℕ) (eff : EndEffect Count) →
      IsPlain y.state.link → Open K x y (p ∷ ps) behind qs → ClosesThen (seen setup brought side) p y.state.link eff →
      ShutsWith (seen setup brought side) K x (with_packet p place y eff)
  shut_then K stays x y p ps behind qs place eff plain o shut =
      let h = shut.hears in
      let answer = packets_of shut.emissions in
      let last = qs ++ answer in
      record {
        shutting = record {
          before = shut.before;
          count = eff.state.keeper;
          number = eff.state.number;
          state = same_state eff.state shut.before shut.stage shut.link;
          over = shut.over;
          last = last;
          line = line_then y qs (answer ++ control close ∷ []) eff.emitted o.back.line
              (ap bytes_in shut.emitted ∙ bytes_written (shut.emissions ++ only close) ∙ ap written (with_close shut.emissions))
              ∙ ap written (sym (append_assoc qs answer (control close ∷ [])));
          coming = subst (λ (l : List PacketValue). AreComing (as_end (with_packet p place y eff)) (as_end x) l)
              (sym (append_assoc qs answer (control close ∷ [])))
              (more_coming (as_end y) (as_end (with_packet p place y eff)) (as_end x) qs (answer ++ control close ∷ [])
              (packets_then y place eff.took (message_of p) (answer ++ control close ∷ []) eff.emitted
              (ap packets_in shut.emitted ∙ packets_written (shut.emissions ++ only close) ∙ with_close shut.emissions))
              o.back.coming);
          talk = All-append IsTalk qs answer o.back.talk h.answers.talk;
        };
        ps = ps;
        knows = stays p y.state.link shut.before ps qs answer plain h o.knows;
      }

  how_then : (K : State → List PacketValue → List PacketValue → Type 0) → StaysKnown K →
      (x y : LineEndState Count) (p : PacketValue) (ps behind qs : List PacketValue) (place : ℕ) (eff : EndEffect Count) →
      IsPlain y.state.link → Open K x y (p ∷ ps) behind qs →
      AreComing (as_end x) (as_end (with_packet p place y eff)) (ps ++ behind) →
      TalksOrCloses (seen setup brought side) p y.state.link eff →
      ((answer : List PacketValue) × Open K x (with_packet p place y eff) ps behind (qs ++ answer))
      ⊎ ShutsWith (seen setup brought side) K x (with_packet p place y eff)
  how_then K stays x y p ps behind qs place eff plain o coming (inl on) =
      inl (open_then K stays x y p ps behind qs place eff plain o coming on)
  how_then K stays x y p ps behind qs place eff plain o coming (inr shut) =
      inr (shut_then K stays x y p ps behind qs place eff plain o shut)

  pub heard : (K : State → List PacketValue → List PacketValue → Type 0) → StaysKnown K →
      (x y : LineEndState Count) (p : PacketValue) (ps behind qs : List PacketValue) → B side y x → Open K x y (p ∷ ps) behind qs →
      Heard setup brought B side K x y p ps behind qs
  heard K stays x y p ps behind qs is o =
      let at_place = next_found (as_end x) (as_end y) p (ps ++ behind) o.there.coming in
      let participant = count_player setup brought side in
      let eff = end_step participant.keeper participant.identity (packet_found_whole false p) y.state in
      let then = packet_taken_up participant p at_place.place y in
      let talk = All-head IsTalk p ps o.there.talk in
      let coming = still_coming (as_end x) (as_end y) (as_end then) p (ps ++ behind) at_place.place at_place.is
      (took_passed eff.took (message_of p) at_place.place y.log) o.there.coming in
      let hears = (link_hears (at side setup).own (at (other side) setup).own (record { near = as_end y; far = as_end x }) p
      (ps ++ behind) at_place.place (base.window side) (base.window (other side)) (base.run side y x is) o.talks.is_up talk
      o.there.coming at_place.is).1 in
      record {
        then = then;
        came = came_so setup brought B base side x y p at_place.place o.talks.stage
            (formed_there x y p (ps ++ behind) is o.there.coming) at_place.there is;
        coming = coming;
        how = how_then K stays x y p ps behind qs at_place.place eff (base.plain side y x is) o coming
            (talks_or_closes (seen setup brought side) participant.identity p y.state o.talks.stage o.talks.is_up
            (expected_low x y is) (moves_of y.state.link (packet_found p) tt) hears);
      }
