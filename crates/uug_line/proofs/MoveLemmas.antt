-- Two ends stay joined whatever move one of them makes.
use Rattle.std.proofs.Common.{◌≡◌, inl, inr, ℕ, ◌<◌, ◌≤◌, nat_lt, Bool, true, false, List, [], ◌∷◌, ◌++◌, All, length, take, Option, Some, None, if◌then◌else◌, refl, sym, ap, subst, ◌∙◌, arith, true≢false}
use Rattle.std.proofs.lemmas.Bool.Decides.{nat_tests}
use Rattle.std.proofs.lemmas.List.Elements.{All-drop, All-head, All-take}
use Rattle.uug_link.specs.Announced.{Announced}
use Rattle.uug_talk.specs.Chunks.{Measure}
use Rattle.uug_link.specs.declared.phase.Phase.TheVariants as phases
use Rattle.uug_link.specs.Arrivals.{IsPlace}
use Rattle.uug_link.specs.Outcomes.{MayAnswer, MovesPhase}
use Rattle.uug_link.specs.State.{State, IsFresh, IsStarting, IsUp, KnowsSize}
use Rattle.uug_link.specs.Step.{Event, OutcomeValue, nothing, up, taken, closed, gave_up, halted, bad_found, packet_found, timed_out, to_begin, to_close, to_send, step}
use Rattle.uug_link.specs.Terms.{size_of_code}
use Rattle.uug_link.specs.TwoLinks.{Ends, IsFrontOf, MayCall}
use Rattle.uug_packet.specs.Packet.{PacketValue}
use Rattle.uug_conversation.specs.EarlierJobs.{behind}
use Rattle.uug_session.specs.EndStep.{first_link, has_room, is_up, message_of, packets, measure_of}
use Rattle.uug_conversation.specs.Holdings.{Holdings}
use Rattle.uug_conversation.specs.Jobs.{Lists, at_start, pending}
use Rattle.uug_conversation.specs.DialogueState.{DialogueState, end_keeper, first_of, opened_with, unopened}
use Rattle.uug_session.specs.TwoEnds.{Talker, Two, first_talker, sends, takes}
use Rattle.uug_conversation.specs.Turns.{other}
use Rattle.uug_conversation.specs.View.{own_messages}
use Rattle.uug_conversation.specs.declared.side.Side.{Side}
use Rattle.uug_line.specs.Belongings.{Belongings, SetupValue, party}
use Rattle.uug_line.specs.LineEndState.{messages_sent}
use Rattle.uug_conversation.specs.Sides.{AtBoth, at}
use Rattle.uug_line.proofs.AnswerLemmas.{taken_message}
use Rattle.uug_line.proofs.World.Invariant.{answer_to, heard_by, heard_with, moved}
use Rattle.uug_line.proofs.World.Joining.{IsSoundSession, IsTalk, Joined, LinksOf, Moment, link_end}
use Rattle.uug_line.proofs.LinkLemmas.{DoesNotOpen, FindsNone, IsNotUp, does_not_open, closes_it, links_run, opened_stays, run_hears, run_moves, sends_none, stays_starting, stays_up, up_is_not_starting}
use Rattle.uug_line.proofs.World.MomentLemmas.{none_sent}
use Rattle.uug_line.proofs.SendLemmas.{sends_it, up_with_room}
use Rattle.uug_line.proofs.World.TalkLemmas.{Acted, Reaches, acts, fit_at, seen_at, talk_at, talker_at, told_at}
use Rattle.uug_link.proofs.OutcomeLemmas.{answers_of, moves_of, begin_phase, send_phase, close_phase, firsts_of}
use Rattle.uug_link.proofs.TwoLinksRuns.{fronts, owns as link_owns, sizes as link_sizes}
use Rattle.uug_conversation.proofs.EarlierJobLemmas.{start_behind}
use Rattle.uug_line.proofs.LowerLemmas.{talk_opens, talk_takes, talk_sends}

-- ---- what an end keeps before and after its link has come up

-- it has come up
talks_behind : (me : Side) (setup : SetupValue) (brought : AtBoth Belongings) (side : Side) (talk : DialogueState) (t : Talker) →
    talk.opened ≡ true → IsTalk me (party setup brought side) (at side brought) talk t → talk ≡ talk_at setup brought side t
talks_behind me setup brought side talk t opened (inl h) = absurd (true≢false (sym opened ∙ ap (λ (x : DialogueState). x.opened) h.0))
talks_behind me setup brought side talk t opened (inr h) = h

-- it has not come up
not_opened : (me : Side) (setup : SetupValue) (brought : AtBoth Belongings) (side : Side) (talk : DialogueState) (t : Talker) →
    talk.opened ≡ false → IsTalk me (party setup brought side) (at side brought) talk t →
    (talk ≡ unopened (at side brought).lists (at side brought).kept) × (t ≡ first_talker me (party setup brought side))
not_opened me setup brought side talk t not_yet (inl h) = h
not_opened me setup brought side talk t not_yet (inr h) =
    absurd (true≢false (sym (ap (λ (x : DialogueState). x.opened) h) ∙ not_yet))

-- what waits has a first message
abbrev or_empty : Option (List ℕ) → List ℕ
or_empty None = []
or_empty (Some m) = m

abbrev is_none : Option (List ℕ) → Bool
is_none None = true
is_none (Some m) = false

first_waits : (waiting : List (List ℕ)) (message : List ℕ) → first_of waiting ≡ Some message →
    (more : List (List ℕ)) × (waiting ≡ message ∷ more)
first_waits [] message is = absurd (true≢false (ap is_none is))
first_waits (m ∷ more) message is = (more, ap (λ (x : List ℕ). x ∷ more) (ap or_empty is))

-- ---- what a link answers

bad_is_not_up : (o : OutcomeValue) → MayAnswer o bad_found → IsNotUp o
bad_is_not_up up may = may
bad_is_not_up _ may = tt

late_is_not_up : (o : OutcomeValue) → MayAnswer o timed_out → IsNotUp o
late_is_not_up up may = may
late_is_not_up _ may = tt

-- where there is room
room_in : (t : Bool) (n w : ℕ) → (if t then nat_lt n w else false) ≡ true → n < w
room_in true n w h = grind (arith, nat_tests)
room_in false n w h = absurd (true≢false (sym h))

-- the other end's packet stands at that place
abbrev pub StandsThere : (far m : Moment) → PacketValue → (place : ℕ) → Type 0
StandsThere far m p place = IsPlace p far.packets m.passed place

module _ (setup : SetupValue) (brought : AtBoth Belongings) (side : Side) (far : Moment)
    (sound : IsSoundSession setup brought) where
  abbrev J : Moment → Type 0
  J m = Joined setup brought side m far

  abbrev own : Belongings
  own = at side brought

  abbrev Runs : Moment → Type 0
  Runs m = LinksOf setup side m far

  -- the links at first
  abbrev near_first : State
  near_first = first_link side (at side setup).own

  abbrev far_first : State
  far_first = first_link (other side) (at (other side) setup).own

  -- what the far end keeps
  abbrev FarTalk : Talker → Type 0
  FarTalk t = IsTalk (other side) (party setup brought (other side)) (at (other side) brought) far.talk t

  -- ---- what is kept stays

  same_talk : (m then_m : Moment) → J m → Runs then_m → then_m.talk ≡ m.talk → m.sent ≡ then_m.sent →
      m.taken ≡ then_m.taken → DoesNotOpen m.link then_m.link → J then_m
  same_talk m then_m j runs talk sent messages phase = record {
    links = runs;
    two = j.two;
    reached = j.reached;
    near_talk = subst (λ (x : DialogueState). IsTalk side (party setup brought side) own x
        (talker_at setup brought side j.two)) (sym talk) j.near_talk;
    near_sent = j.near_sent ∙ sent;
    near_taken = j.near_taken ∙ messages;
    far_talk = j.far_talk;
    far_sent = j.far_sent;
    far_taken = j.far_taken;
    near_opened = opened_stays m then_m (ap (λ (x : DialogueState). x.opened) talk) j.near_opened phase;
    far_opened = j.far_opened;
  }

  -- an event of the link that sends no message
  quiet_event : (m : Moment) (event : Event) → J m → MayCall m.link event → FindsNone event →
      messages_sent (packets (step m.link event).emitted) ≡ [] → DoesNotOpen m.link (step m.link event).state →
      J (moved m event m.talk)
  quiet_event m event j may finds none phase =
      same_talk m (moved m event m.talk) j
      (run_moves near_first far_first far m event m.talk j.links may finds)
      refl (sends_none m.link event none m.sent) refl phase

  pub joined_begins : (m : Moment) → J m → IsFresh m.link → J (moved m to_begin m.talk)
  joined_begins m j fresh =
      quiet_event m to_begin j fresh tt (none_sent (step m.link to_begin).emitted (firsts_of m.link to_begin))
      (stays_starting m.link (step m.link to_begin).state (subst IsStarting (sym fresh) tt)
      (subst IsStarting (sym (begin_phase m.link fresh)) tt))

  pub joined_closes : (m : Moment) → J m → IsUp m.link → J (moved m to_close m.talk)
  joined_closes m j at_up =
      quiet_event m to_close j at_up tt (none_sent (step m.link to_close).emitted (firsts_of m.link to_close))
      (closes_it m.link (step m.link to_close).state (close_phase m.link at_up))

  pub joined_finds_bad : (m : Moment) → J m → J (moved m bad_found m.talk)
  joined_finds_bad m j =
      let e = step m.link bad_found in
      quiet_event m bad_found j tt tt (none_sent e.emitted (firsts_of m.link bad_found))
      (does_not_open e.outcome m.link e.state (bad_is_not_up e.outcome (answers_of m.link bad_found))
      (moves_of m.link bad_found tt))

  pub joined_times_out : (m : Moment) → J m → J (moved m timed_out m.talk)
  joined_times_out m j =
      let e = step m.link timed_out in
      quiet_event m timed_out j tt tt (none_sent e.emitted (firsts_of m.link timed_out))
      (does_not_open e.outcome m.link e.state (late_is_not_up e.outcome (answers_of m.link timed_out))
      (moves_of m.link timed_out tt))

  -- ---- a message is sent

  -- of an end whose link is up
  is_behind : (m : Moment) (j : J m) → IsUp m.link → m.talk ≡ talk_at setup brought side (talker_at setup brought side j.two)
  is_behind m j at_up = talks_behind side setup brought side m.talk (talker_at setup brought side j.two)
      (j.near_opened.up at_up) j.near_talk

  -- how its messages are cut
  abbrev measured : ℕ → Announced → Measure
  measured code own = record { size = size_of_code code; short = own.short }

  measure_known : (m : Moment) → Runs m → IsUp m.link → measure_of m.link ≡ (party setup brought side).measure
  measure_known m runs at_up =
      let ends : Ends = record { near = link_end m; far = link_end far } in
      let sizes = link_sizes (at side setup).own (at (other side) setup).own ends (sound.window side) (sound.window (other side)) in
      let owns = link_owns (at side setup).own (at (other side) setup).own ends (sound.window side) (sound.window (other side)) in
      let run = links_run setup side m far runs in
      ap (λ (code : ℕ). measured code m.link.own) ((sizes run).0 (subst KnowsSize (sym at_up) tt))
      ∙ ap (measured (at (other side) setup).own.size_code) (owns run).1

  waiting_fits : (two : Two) → Reaches setup brought two → (message : List ℕ) (more : List (List ℕ)) →
      (talker_at setup brought side two).waiting ≡ message ∷ more → length message ≤ (party setup brought side).measure.size
  waiting_fits two reached message more waits =
      let told = told_at setup brought sound side two reached in
      let Small : List ℕ → Type 0 = λ m. length m ≤ (party setup brought side).measure.size in
      All-head Small message more
      (subst (All Small) (sym told.waiting_next ∙ waits)
      (All-drop Small (length (talker_at setup brought side two).sent) _
      (All-take Small _ (own_messages (seen_at setup brought side)) (fit_at setup brought side))))

  sends_by_talker : (m : Moment) (message : List ℕ) (j : J m) → IsUp m.link → length m.link.unacked < m.link.window →
      m.talk ≡ talk_at setup brought side (talker_at setup brought side j.two) →
      (more : List (List ℕ)) × ((talker_at setup brought side j.two).waiting ≡ message ∷ more) →
      J (moved m (to_send message) ((end_keeper side (party setup brought side).holdings).sent m.talk))
  sends_by_talker m message j at_up room talk waits =
      let t = talker_at setup brought side j.two in
      let acted : Acted setup brought side sends j.two =
      acts setup brought side sends j.two j.reached (message, waits.0, waits.1) in
      let then_m = moved m (to_send message) ((end_keeper side (party setup brought side).holdings).sent m.talk) in
      record {
        links = run_moves near_first far_first far m (to_send message) then_m.talk j.links (
          (at_up, room),
          subst (λ (x : Measure). length message ≤ x.size) (sym (measure_known m j.links at_up))
              (waiting_fits j.two j.reached message waits.0 waits.1),
        ) tt;
        two = acted.then_two;
        reached = acted.reached;
        near_talk = inr (ap (λ (x : DialogueState). (end_keeper side (party setup brought side).holdings).sent x) talk
            ∙ talk_sends (party setup brought side) t own.lists.struck own.lists.failed own.kept
            ∙ ap (λ (x : Talker). talk_at setup brought side x) (sym acted.near));
        near_sent = ap (λ (x : Talker). x.sent) acted.near ∙ ap (λ (l : List (List ℕ)). t.sent ++ take 1 l) waits.1
            ∙ ap (λ (l : List (List ℕ)). l ++ message ∷ []) j.near_sent
            ∙ ap (λ (l : List (List ℕ)). m.sent ++ l) (sym (sends_it m.link message at_up));
        near_taken = ap (λ (x : Talker). x.taken) acted.near ∙ j.near_taken;
        far_talk = subst FarTalk (sym acted.far) j.far_talk;
        far_sent = ap (λ (x : Talker). x.sent) acted.far ∙ j.far_sent;
        far_taken = ap (λ (x : Talker). x.taken) acted.far ∙ j.far_taken;
        near_opened = opened_stays m then_m refl j.near_opened
            (stays_up m.link then_m.link at_up (send_phase m.link message at_up));
        far_opened = j.far_opened;
      }

  pub joined_sends : (m : Moment) (message : List ℕ) → J m → has_room m.link ≡ true →
      (end_keeper side (party setup brought side).holdings).next m.talk ≡ Some message →
      J (moved m (to_send message) ((end_keeper side (party setup brought side).holdings).sent m.talk))
  joined_sends m message j room next =
      let at_up = up_with_room m.link room in
      let talk = is_behind m j at_up in
      let t = talker_at setup brought side j.two in
      sends_by_talker m message j at_up
      (room_in (is_up m.link.phase) (length m.link.unacked) m.link.window room) talk
      (first_waits t.waiting message (sym (ap (λ (x : DialogueState). first_of x.waiting) talk) ∙ next))

  -- ---- a packet is heard

  abbrev heard : Moment → PacketValue → (place : ℕ) → OutcomeValue → Moment
  heard m p place o = heard_by (end_keeper side (party setup brought side).holdings) m p place o

  -- what was sent stays
  same_sent : (m : Moment) (p : PacketValue) → m.sent ≡ m.sent ++ messages_sent (packets (step m.link (packet_found p)).emitted)
  same_sent m p =
      let none = none_sent (step m.link (packet_found p)).emitted (firsts_of m.link (packet_found p)) in
      sends_none m.link (packet_found p) none m.sent

  -- the lists that it brought are those of a session's start, behind what was done before
  brought_lists : own.lists ≡ behind own.lists.struck own.lists.failed (at_start (pending own.lists) [] [])
  brought_lists = sound.renewed side ∙ sym (start_behind (pending own.lists) own.lists.struck own.lists.failed)

  opens_behind : (talk : DialogueState) (t : Talker) (measure : Measure) → talk ≡ unopened own.lists own.kept →
      t ≡ first_talker side (party setup brought side) → measure ≡ (party setup brought side).measure →
      (end_keeper side (party setup brought side).holdings).opened measure talk ≡ talk_at setup brought side t
  opens_behind talk t measure talk_is t_is measure_is =
      let me = side in
      let h : Holdings = (party setup brought side).holdings in
      ap (λ (x : DialogueState). opened_with me h measure x) talk_is
      ∙ ap (λ (x : Measure). opened_with me h x (unopened own.lists own.kept)) measure_is
      ∙ ap (λ (l : Lists). opened_with me h (party setup brought side).measure (unopened l own.kept)) brought_lists
      ∙ talk_opens me (party setup brought side) own.lists.struck own.lists.failed own.kept
      ∙ ap (λ (x : Talker). talk_at setup brought side x) (sym t_is)

  -- the link has come up
  hears_up : (m : Moment) (p : PacketValue) (place : ℕ) → J m → Runs (heard m p place up) →
      m.link.phase ≡ phases.AwaitsInitC → (step m.link (packet_found p)).state.phase ≡ phases.Up → J (heard m p place up)
  hears_up m p place j runs before after =
      let then_m = heard m p place up in
      let t = talker_at setup brought side j.two in
      let fresh = not_opened side setup brought side m.talk t
      (j.near_opened.starting (subst IsStarting (sym before) tt)) j.near_talk in
      record {
        links = runs;
        two = j.two;
        reached = j.reached;
        near_talk = inr (opens_behind m.talk t (measure_of then_m.link) fresh.0 fresh.1 (measure_known then_m runs after));
        near_sent = j.near_sent ∙ same_sent m p;
        near_taken = j.near_taken;
        far_talk = j.far_talk;
        far_sent = j.far_sent;
        far_taken = j.far_taken;
        near_opened = record {
          up = λ risen. refl;
          starting = λ starting. absurd (up_is_not_starting then_m.link.phase after starting);
        };
        far_opened = j.far_opened;
      }

  -- a message is taken, which the other end has sent
  hears_taken : (m : Moment) (p : PacketValue) (place : ℕ) → J m → MayAnswer taken (packet_found p) →
      Runs (heard m p place taken) → IsUp m.link → (step m.link (packet_found p)).state.phase ≡ phases.Up →
      J (heard m p place taken)
  hears_taken m p place j may runs before after =
      let then_m = heard m p place taken in
      let t = talker_at setup brought side j.two in
      let message = message_of p in
      let front : IsFrontOf then_m.taken far.sent =
      (fronts (at side setup).own (at (other side) setup).own (record { near = link_end then_m; far = link_end far })
      (sound.window side) (sound.window (other side)) (links_run setup side then_m far runs)).0 in
      let grown : then_m.taken ≡ t.taken ++ message ∷ [] =
      taken_message p m.taken may ∙ ap (λ (l : List (List ℕ)). l ++ message ∷ []) (sym j.near_taken) in
      let acted : Acted setup brought side (takes message) j.two =
      acts setup brought side (takes message) j.two j.reached
      (front.0, ap (λ (l : List (List ℕ)). l ++ front.0) (sym grown) ∙ front.1 ∙ sym j.far_sent) in
      record {
        links = runs;
        two = acted.then_two;
        reached = acted.reached;
        near_talk = inr (ap (λ (x : DialogueState). (end_keeper side (party setup brought side).holdings).taking message x)
            (is_behind m j before)
            ∙ talk_takes (party setup brought side) t message own.lists.struck own.lists.failed own.kept
            ∙ ap (λ (x : Talker). talk_at setup brought side x) (sym acted.near));
        near_sent = ap (λ (x : Talker). x.sent) acted.near ∙ j.near_sent ∙ same_sent m p;
        near_taken = ap (λ (x : Talker). x.taken) acted.near ∙ sym grown;
        far_talk = subst FarTalk (sym acted.far) j.far_talk;
        far_sent = ap (λ (x : Talker). x.sent) acted.far ∙ j.far_sent;
        far_taken = ap (λ (x : Talker). x.taken) acted.far ∙ j.far_taken;
        near_opened = record {
          up = λ risen. refl;
          starting = λ starting. absurd (up_is_not_starting then_m.link.phase after starting);
        };
        far_opened = j.far_opened;
      }

  -- nothing is kept of it
  hears_nothing : (m : Moment) (p : PacketValue) (place : ℕ) (o : OutcomeValue) → IsNotUp o → J m →
      MovesPhase o m.link.phase (step m.link (packet_found p)).state.phase → Runs (heard_with m p place nothing m.talk) →
      J (heard_with m p place nothing m.talk)
  hears_nothing m p place o silent j moving runs =
      same_talk m (heard_with m p place nothing m.talk) j runs refl (same_sent m p) refl
      (does_not_open o m.link (step m.link (packet_found p)).state silent moving)

  hears_by : (m : Moment) (p : PacketValue) (place : ℕ) (o : OutcomeValue) → J m → MayAnswer o (packet_found p) →
      MovesPhase o m.link.phase (step m.link (packet_found p)).state.phase → Runs (heard m p place o) → J (heard m p place o)
  hears_by m p place nothing j may moving runs = hears_nothing m p place nothing tt j moving runs
  hears_by m p place up j may moving runs = hears_up m p place j runs moving.0 moving.1
  hears_by m p place taken j may moving runs = hears_taken m p place j may runs moving.0 moving.1
  hears_by m p place closed j may moving runs = hears_nothing m p place closed tt j moving runs
  hears_by m p place gave_up j may moving runs = hears_nothing m p place gave_up tt j moving runs
  hears_by m p place halted j may moving runs = hears_nothing m p place halted tt j moving runs

  pub joined_hears : (m : Moment) (p : PacketValue) (place : ℕ) → J m → StandsThere far m p place →
      J (heard m p place (answer_to m p))
  joined_hears m p place j there =
      let o = answer_to m p in
      hears_by m p place o j (answers_of m.link (packet_found p)) (moves_of m.link (packet_found p) tt)
      (run_hears near_first far_first far m p place (heard m p place o).talk j.links there)
