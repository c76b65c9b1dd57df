-- What a fact on an end's moments has to keep to, so that it holds after every step, and the end is described by two numbers.
use Rattle.std.specs.Prelude.{◌≡◌, ℕ, suc, true, false, List, [], ◌∷◌, ◌++◌, Some}
use Rattle.uug_talk.specs.Chunks.{Measure}
use Rattle.uug_link.specs.State.{State, IsFresh, IsUp}
use Rattle.uug_link.specs.Step.{Event, bad_found, timed_out, to_begin, to_close, to_send, packet_found, OutcomeValue, nothing, up, taken, closed, gave_up, halted, step}
use Rattle.uug_link.specs.Terms.{size_of_code}
use Rattle.uug_link.specs.TwoLinks.{taken_by}
use Rattle.uug_packet.specs.Packet.{PacketValue}
use Rattle.uug_session.specs.declared.greeting.Greeting.{Greeting}
use Rattle.uug_conversation.specs.Count.{Count, count_keeper}
use Rattle.uug_session.specs.EndStep.{EndEffect, Sending, Stage, has_room, hailing, message_of, packets, measure_of}
use Rattle.uug_conversation.specs.Holdings.{Holdings}
use Rattle.uug_conversation.specs.Keeper.{Keeper}
use Rattle.uug_conversation.specs.DialogueState.{DialogueState, end_keeper}
use Rattle.uug_conversation.specs.declared.side.Side.{Side}
use Rattle.uug_conversation.specs.View.{Seen}
use Rattle.uug_line.proofs.World.Joining.{Moment}
use Rattle.uug_line.proofs.World.MomentLemmas.{count, emits}

-- what is kept then, by the link's answer
abbrev pub heard_talk : Keeper DialogueState → OutcomeValue → Measure → (message : List ℕ) → DialogueState → DialogueState
heard_talk k nothing measure message talk = talk
heard_talk k up measure message talk = k.opened measure talk
heard_talk k taken measure message talk = k.taking message talk
heard_talk k closed measure message talk = talk
heard_talk k gave_up measure message talk = talk
heard_talk k halted measure message talk = talk

-- the other end's packet at the place was found, and these messages are taken then
abbrev pub found : Moment → (place : ℕ) → (messages : List (List ℕ)) → Moment
found m place messages = record {
  link = m.link;
  talk = m.talk;
  sent = m.sent;
  taken = messages;
  packets = m.packets;
  arrivals = m.arrivals ++ place ∷ [];
  passed = suc place;
}

-- an event has moved its link
abbrev pub moved : Moment → Event → DialogueState → Moment
moved m event talk = emits m (packets (step m.link event).emitted) (step m.link event).state talk

-- a packet was found at its place, and answered so by the link
abbrev pub answer_to : Moment → PacketValue → OutcomeValue
answer_to m p = (step m.link (packet_found p)).outcome

abbrev pub heard_with : Moment → PacketValue → (place : ℕ) → OutcomeValue → DialogueState → Moment
heard_with m p place o talk = moved (found m place (taken_by o (packet_found p) m.taken)) (packet_found p) talk

abbrev pub heard_by : Keeper DialogueState → Moment → PacketValue → (place : ℕ) → OutcomeValue → Moment
heard_by k m p place o =
    let measure = measure_of (step m.link (packet_found p)).state in
    heard_with m p place o (heard_talk k o measure (message_of p) m.talk)

-- The fact J holds of a moment of the end on this side with these holdings, which sees the conversation so; IsThere says
-- where a packet stands among those that the other end emitted.
pub record IsInvariant (me : Side) (h : Holdings) (v : List Seen) (J : Moment → Type 0)
    (IsThere : Moment → PacketValue → ℕ → Type 0) : Type 0 where
  -- two numbers tell the end
  pub next : (m : Moment) → J m → (end_keeper me h).next m.talk ≡ (count_keeper v).next (count m)
  pub over : (m : Moment) → J m → (end_keeper me h).is_over m.talk ≡ (count_keeper v).is_over (count m)
  pub parted : (m : Moment) → J m → (end_keeper me h).has_parted m.talk ≡ (count_keeper v).has_parted (count m)
  pub good : (m : Moment) → J m → (end_keeper me h).is_bad m.talk ≡ false
  pub opened : (m : Moment) → J m → IsUp m.link → m.talk.opened ≡ true
  -- each move keeps the fact
  pub begins : (m : Moment) → J m → IsFresh m.link → J (moved m to_begin m.talk)
  pub sends : (m : Moment) (message : List ℕ) → J m → has_room m.link ≡ true → (end_keeper me h).next m.talk ≡ Some message →
      J (moved m (to_send message) ((end_keeper me h).sent m.talk))
  pub closes : (m : Moment) → J m → IsUp m.link → J (moved m to_close m.talk)
  pub finds_bad : (m : Moment) → J m → J (moved m bad_found m.talk)
  pub times_out : (m : Moment) → J m → J (moved m timed_out m.talk)
  pub hears : (m : Moment) (p : PacketValue) (place : ℕ) → J m → IsThere m p place →
      J (heard_by (end_keeper me h) m p place (answer_to m p))

-- ---- told by numbers

-- what was done, with the keeper's two numbers
abbrev pub counted_sending : Moment → Sending DialogueState → Sending Count
counted_sending m x = record { link = x.link; keeper = count m; emissions = x.emissions }

abbrev pub counted_effect : Moment → EndEffect DialogueState → EndEffect Count
counted_effect m x = record {
  state = record { stage = x.state.stage; link = x.state.link; keeper = count m; number = x.state.number };
  emitted = x.emitted;
  took = x.took;
}

-- what the end has come to by it
abbrev pub sent_all : Moment → Sending DialogueState → Moment
sent_all m x = emits m (packets x.emissions) x.link x.keeper

abbrev pub done_all : Moment → EndEffect DialogueState → Moment
done_all m x = emits m x.emitted x.state.link x.state.keeper

-- the fact holds after it, and the same was done by numbers
pub record SendsAlike (J : Moment → Type 0) (m : Moment) (x : Sending DialogueState) (y : Sending Count) : Type 0 where
  pub holds : J (sent_all m x)
  pub same : y ≡ counted_sending (sent_all m x) x

-- an end that hails has a link to which nothing has happened
abbrev pub HailsFresh : (first : State) → Stage → (link : State) → Type 0
HailsFresh first stage link = (g : Greeting) → stage ≡ hailing g → link ≡ first

pub record DoesAlike (J : Moment → Type 0) (first : State) (m : Moment) (x : EndEffect DialogueState) (y : EndEffect Count) :
    Type 0 where
  pub holds : J (done_all m x)
  pub same : y ≡ counted_effect (done_all m x) x
  pub hails : HailsFresh first x.state.stage x.state.link
