-- What a line has brought led its end, and nothing else did (this project's profile).
use Rattle.std.specs.Prelude.{◌≡◌, List, [], ◌∷◌, ◌++◌, Option, ⊤}
use Rattle.uug_conversation.specs.Holdings.{Holdings, Kept}
use Rattle.uug_session.specs.Arriving.{Buffered}
use Rattle.uug_session.specs.EndStep.{Emitted, Identity}
use Rattle.uug_session.specs.Node.{NodeState}
use Rattle.uug_session.specs.LineEvents.{HasListened, LineEvent, ListeningEnd, after_line_event, brings_bytes, brings_nothing, is_at_end, is_left, listening_at}
use Rattle.uug_transfer.specs.Received.{Received, also_received, piece, silence}

-- the results of the reads among the events at a line; the line's end and a hang-up add none
abbrev pub reads_in : List LineEvent → List Received
reads_in [] = []
reads_in (brings_bytes bytes failures ∷ es) = piece bytes ∷ reads_in es
reads_in (brings_nothing ∷ es) = silence ∷ reads_in es
reads_in (is_at_end ∷ es) = reads_in es
reads_in (is_left ∷ es) = reads_in es

-- all that was emitted, joined
abbrev pub all_said : List (List Emitted) → List Emitted
all_said [] = []
all_said (said ∷ more) = said ++ all_said more

-- each of these events makes an end emit the list at the same place
abbrev pub SaysEach : Holdings → Identity → List LineEvent → List (List Emitted) → Buffered ListeningEnd → Type 0
SaysEach h id [] [] b = ⊤
SaysEach h id (e ∷ es) (said ∷ more) b =
    ((after_line_event h id e b).end.emitted ≡ b.end.emitted ++ said) × SaysEach h id es more (after_line_event h id e b)
SaysEach h id _ _ b = ⊥

-- The end has handled exactly what the line brought since, and perhaps hung up. `says` has what it emitted at each
-- event.
pub record HearsSaying (h : Holdings) (kept kept_after : List Kept) (received received_after : Option (List Received))
    (says : List (List Emitted)) (before after : NodeState) : Type 0 where
  pub events : List LineEvent
  pub listened : HasListened h kept kept_after events (all_said says) before after
  pub each : SaysEach h before.engine.identity events says (listening_at h kept before)
  pub told : received_after ≡ also_received (reads_in events) received

-- the same, whatever the end has emitted
pub record HearsLine (h : Holdings) (kept kept_after : List Kept) (received received_after : Option (List Received))
    (before after : NodeState) : Type 0 where
  pub says : List (List Emitted)
  pub heard : HearsSaying h kept kept_after received received_after says before after
