-- What an event does to an end that is told by its events.
use Rattle.std.proofs.Common.{◌≡◌, ◌⊎◌, inl, inr, ℕ, Bool, true, false, ◌&&◌, List, [], ◌∷◌, ◌++◌, Option, refl, sym, ap, ◌∙◌, append-nil}
use Rattle.uug_link.specs.Outcomes.{NoneIsFirst}
use Rattle.uug_link.specs.State.{State}
use Rattle.uug_link.specs.Step.{Effect, Emission, OutcomeValue, nothing, up, taken, closed, gave_up, halted}
use Rattle.uug_packet.specs.Packet.{PacketValue}
use Rattle.uug_conversation.specs.DialogueState.{DialogueState}
use Rattle.uug_conversation.specs.Keeper.{Keeper}
use Rattle.uug_conversation.specs.declared.side.Side.{Side}
use Rattle.uug_session.specs.declared.end.End.TheVariants as ends
use Rattle.uug_session.specs.EndStep.{EndEffect, EndEvent, Emitted, Identity, Stage, hailing, linked, ended, text_found, long_text_found, packet_found_whole, broken_found, time_ran_out, line_lost, behind_link, ends_so, leave, message_of, packets, takes_by, then_closes, unmoved}
use Rattle.uug_line.specs.LineEndState.{messages_sent, packets_in}
use Rattle.uug_line.specs.WereSent.{passed_at}
use Rattle.uug_line.proofs.AnswerLemmas.{taken_if}
use Rattle.uug_line.proofs.World.Joining.{Moment}
use Rattle.uug_line.proofs.World.MomentLemmas.{emits, emits_nothing, leave_sends_nothing, messages_sent_append, none_sent, packets_in_append}
use Rattle.uug_line.proofs.World.Steps.{IsNoPacket}
use Rattle.uug_pair.specs.Courses.{EndCourse, after_effect, packets_found, messages_taken}
use Rattle.uug_pair.proofs.Joins.{moment}

-- ---- what is found and taken

pub none_found : (stage : Stage) (event : EndEvent) → IsNoPacket event → packets_found stage event ≡ []
none_found (hailing g) event none = refl
none_found (ended how) event none = refl
none_found linked (text_found text) none = refl
none_found linked long_text_found none = refl
none_found linked (packet_found_whole failed p) none = absurd none
none_found linked broken_found none = refl
none_found linked time_ran_out none = refl
none_found linked line_lost none = refl

pub none_taken : (took : Bool) (event : EndEvent) → IsNoPacket event → messages_taken took event ≡ []
none_taken false event none = refl
none_taken true (text_found text) none = refl
none_taken true long_text_found none = refl
none_taken true (packet_found_whole failed p) none = absurd none
none_taken true broken_found none = refl
none_taken true time_ran_out none = refl
none_taken true line_lost none = refl

pub taken_is : (took failed : Bool) (p : PacketValue) (messages : List (List ℕ)) →
    taken_if took (message_of p) messages ≡ messages ++ messages_taken took (packet_found_whole failed p)
taken_is false failed p messages = sym (append-nil messages)
taken_is true failed p messages = refl

-- ---- what an end has come to then

abbrev pub so_far : EndCourse → State → DialogueState → (messages : List (List ℕ)) → (places : List ℕ) → (passed : ℕ) → Moment
so_far c link talk messages places passed = record {
  link = link;
  talk = talk;
  sent = messages_sent c.emitted;
  taken = messages;
  packets = packets_in c.emitted;
  arrivals = places;
  passed = passed;
}

abbrev moment_with : State → DialogueState → (sent taken : List (List ℕ)) → List PacketValue → (places : List ℕ) → (passed : ℕ) → Moment
moment_with link talk sent messages packets places passed = record {
  link = link;
  talk = talk;
  sent = sent;
  taken = messages;
  packets = packets;
  arrivals = places;
  passed = passed;
}

pub grown : (event : EndEvent) (x : EndEffect DialogueState) (c : EndCourse) (link : State) (before talk : DialogueState)
    (messages : List (List ℕ)) (places : List ℕ) (passed : ℕ) → messages ≡ c.taken ++ messages_taken x.took event →
    passed ≡ passed_at places 0 →
    emits (so_far c link before messages places passed) x.emitted x.state.link talk ≡ moment (after_effect event x c) talk places
grown event x c link before talk messages places passed messages_are passed_is =
    let sent : List (List ℕ) = messages_sent c.emitted ++ messages_sent x.emitted in
    let all : List PacketValue = packets_in c.emitted ++ packets_in x.emitted in
    let messages_then : List (List ℕ) = c.taken ++ messages_taken x.took event in
    let passed_then : ℕ = passed_at places 0 in
    ap (λ (l : List (List ℕ)). moment_with x.state.link talk sent l all places passed) messages_are
    ∙ ap (λ (n : ℕ). moment_with x.state.link talk sent messages_then all places n) passed_is
    ∙ ap (λ (l : List (List ℕ)). moment_with x.state.link talk l messages_then all places passed_then)
    (sym (messages_sent_append c.emitted x.emitted))
    ∙ ap (λ (l : List PacketValue). moment_with x.state.link talk (messages_sent (c.emitted ++ x.emitted)) messages_then l places passed_then)
    (sym (packets_in_append c.emitted x.emitted))

-- nothing happens
pub same_moment : (event : EndEvent) (c : EndCourse) (talk : DialogueState) (places : List ℕ) →
    moment c talk places ≡ moment (after_effect event (unmoved c.state) c) talk places
same_moment event c talk places =
    sym (emits_nothing (moment c talk places))
    ∙ grown event (unmoved c.state) c c.state.link talk talk c.taken places (passed_at places 0) (sym (append-nil c.taken)) refl

-- ---- nothing goes out for the first time

none_first : (es more : List Emission) → NoneIsFirst es → NoneIsFirst more → NoneIsFirst (es ++ more)
none_first [] more h k = k
none_first (e ∷ es) more h k = (h.0, none_first es more h.1 k)

pub quiet_sends_nothing : (before : List Emitted) (es more : List Emission) (parted : Bool) (side : Side) →
    NoneIsFirst es → NoneIsFirst more →
    messages_sent (before ++ (packets (es ++ more) ++ leave parted side)) ≡ messages_sent before
quiet_sends_nothing before es more parted side first second =
    messages_sent_append before (packets (es ++ more) ++ leave parted side)
    ∙ ap (λ (l : List (List ℕ)). messages_sent before ++ l)
    (messages_sent_append (packets (es ++ more)) (leave parted side)
    ∙ ap (λ (l : List (List ℕ)). l ++ messages_sent (leave parted side)) (none_sent (es ++ more) (none_first es more first second))
    ∙ leave_sends_nothing parted side)
    ∙ append-nil (messages_sent before)

-- ---- a packet, where the spool's device fails

abbrev Fails : (number : Option ℕ) → Keeper DialogueState → Identity → OutcomeValue → Effect → DialogueState → EndEffect DialogueState → Type 0
Fails number k id o e talk x = (o ≡ taken) × (x ≡ ends_so number id (k.has_parted talk) ends.SpoolFault (then_closes e) talk true)

fails_by : (number : Option ℕ) (k : Keeper DialogueState) (id : Identity) (failed : Bool) (e : Effect) (message : List ℕ) (talk : DialogueState) →
    (takes_by number failed k id e message talk ≡ takes_by number false k id e message talk)
    ⊎ Fails number k id taken e talk (takes_by number failed k id e message talk)
fails_by number k id false e message talk = inl refl
fails_by number k id true e message talk = inr (refl, refl)

-- it is as if it had not failed, unless the link has taken a message with which a file ends
pub fails_or_not : (number : Option ℕ) (k : Keeper DialogueState) (id : Identity) (failed : Bool) (o : OutcomeValue) (e : Effect)
    (message : List ℕ) (talk : DialogueState) →
    (behind_link number k id failed o e message talk ≡ behind_link number k id false o e message talk)
    ⊎ Fails number k id o e talk (behind_link number k id failed o e message talk)
fails_or_not number k id failed nothing e message talk = inl refl
fails_or_not number k id failed up e message talk = inl refl
fails_or_not number k id failed taken e message talk = fails_by number k id (failed && k.asks_spool message talk) e message talk
fails_or_not number k id failed closed e message talk = inl refl
fails_or_not number k id failed gave_up e message talk = inl refl
fails_or_not number k id failed halted e message talk = inl refl
