-- What a link answers to which event, and how an answer tells where the link then is. Taylor UUCP manual, UUCP 'g'
-- Protocol; the phases are this project's profile.
use Rattle.std.specs.Prelude.{◌≡◌, ◌≢◌, ◌⊎◌, List, [], ◌∷◌, false, ⊤}
use Rattle.uug_link.specs.declared.phase.Phase.{Phase}
use Rattle.uug_link.specs.declared.phase.Phase.TheVariants.{AwaitsInitC, Up, Halted}
use Rattle.uug_link.specs.State.{IsStarting}
use Rattle.uug_link.specs.Step.{Event, packet_found, bad_found, timed_out, to_send, Emission, OutcomeValue, nothing, up, taken, closed, gave_up, halted}
use Rattle.uug_packet.specs.Packet.{close, init_c, control, carry}

-- Up answers INITC, Taken a data packet, Closed CLOSE, GaveUp a timeout, each nothing else
abbrev pub MayAnswer : OutcomeValue → Event → Type 0
MayAnswer nothing e = ⊤
MayAnswer up (packet_found (control (init_c y))) = ⊤
MayAnswer up _ = ⊥
MayAnswer taken (packet_found (carry seq ack k message)) = ⊤
MayAnswer taken _ = ⊥
MayAnswer closed (packet_found (control close)) = ⊤
MayAnswer closed _ = ⊥
MayAnswer gave_up timed_out = ⊤
MayAnswer gave_up _ = ⊥
MayAnswer halted e = ⊤

-- a packet, a broken one or a timeout: not what the link's caller asks for
abbrev pub IsComing : Event → Type 0
IsComing (packet_found p) = ⊤
IsComing bad_found = ⊤
IsComing timed_out = ⊤
IsComing _ = ⊥

-- where a link is before and after such an event, by its answer
abbrev pub MovesPhase : OutcomeValue → (before after : Phase) → Type 0
MovesPhase nothing before after = (before ≢ Halted) × ((after ≡ before) ⊎ (IsStarting before × IsStarting after))
MovesPhase up before after = (before ≡ AwaitsInitC) × (after ≡ Up)
MovesPhase taken before after = (before ≡ Up) × (after ≡ Up)
MovesPhase closed before after = (before ≢ Halted) × (after ≡ Halted)
MovesPhase gave_up before after = (before ≢ Halted) × (after ≡ Halted)
MovesPhase halted before after = (before ≡ Halted) × (after ≡ Halted)

-- none of these packets is a data packet that goes out for the first time
abbrev pub NoneIsFirst : List Emission → Type 0
NoneIsFirst [] = ⊤
NoneIsFirst (e ∷ es) = (e.first ≡ false) × NoneIsFirst es

-- unless the event sends a message
abbrev pub FirstBySend : Event → List Emission → Type 0
FirstBySend (to_send message) es = ⊤
FirstBySend _ es = NoneIsFirst es
