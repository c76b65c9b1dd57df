-- What happens at two links as moves of the window machine that reads them. Taylor UUCP manual, UUCP 'g' Protocol.
use Rattle.std.specs.Prelude.{◌≡◌, ℕ, if◌then◌else◌, List, [], ◌∷◌, ◌++◌, drop, length, map, slice_get, Option, Some, None, ⊤}
use Rattle.uug_link.specs.OnTheLine.{is_of_window, of_window, IsWritten, Reads}
use Rattle.uug_link.specs.TwoLinks.{End, Happening, moves, misses, hears, after_happening, Ends, Occurrence, at_near, at_far, after_occurrence}
use Rattle.uug_link.specs.WindowMachine.{Machine, data_at, acknowledgement, turned, Act, sends, repeats, acknowledges, loses, arrives, after_act, Move, on_out, on_back, mirrored, AllAllowed, after}
use Rattle.uug_link.specs.declared.phase.Phase.{Phase}
use Rattle.uug_link.specs.declared.phase.Phase.TheVariants.{Up}
use Rattle.uug_packet.specs.Packet.{PacketValue}

-- the machine reads both ends
abbrev pub ReadsBoth : Ends → Machine → Type 0
ReadsBoth p m = Reads p.near p.far m.out × Reads p.far p.near m.back

-- ---- what comes to an end

-- a packet that is found arrives at a link that is up, and is lost at any other
abbrev pub found_at : Phase → Act
found_at Up = arrives
found_at _ = loses

-- the step of a packet of the window; one that starts a link up or shuts it down is none of the machine
abbrev pub becomes : Act → Option PacketValue → List Act
becomes act None = []
becomes act (Some p) = if is_of_window p then act ∷ [] else []

-- what becomes of the other end's packets; one that is skipped is lost
abbrev pub comes : End → End → Happening → List Act
comes e other (moves event) = []
comes e other misses = becomes loses (slice_get other.emitted e.passed)
comes e other (hears p) = becomes (found_at e.link.phase) (Some p)

-- ---- what goes out

-- the step puts the packet in flight
abbrev pub Emits : Machine → Act → PacketValue → Type 0
Emits m (sends message) p = IsWritten (m.out.sent ++ message ∷ []) (data_at (length m.out.sent) m.back.taken) p
Emits m (repeats number) p = IsWritten m.out.sent (data_at number m.back.taken) p
Emits m acknowledges p = IsWritten m.out.sent (acknowledgement m.back.taken) p
Emits m _ p = ⊥

-- one step a packet
abbrev pub AllEmit : Machine → List Act → List PacketValue → Type 0
AllEmit m [] [] = ⊤
AllEmit m (act ∷ acts) (p ∷ ps) = Emits m act p × AllEmit (after_act m act) acts ps
AllEmit m _ _ = ⊥

-- the messages that are sent for the first time
abbrev pub new_of : List Act → List (List ℕ)
new_of [] = []
new_of (sends message ∷ acts) = message ∷ new_of acts
new_of (act ∷ acts) = new_of acts

-- what a list has grown by
abbrev pub grown : {A : Type 0} → (old now : List A) → List A
grown old now = drop (length old) now

-- ---- what happens, as moves

-- At an end, whose way out is the machine's: first what comes, then what goes out.
pub record AreMoves (e other : End) (h : Happening) (m : Machine) (made : List Move) : Type 0 where
  pub gone : List Act
  pub are : made ≡ map on_back (comes e other h) ++ map on_out gone
  -- each packet of the window that the end then emits is a step, and no other step goes out
  pub emits : AllEmit (after m (map on_back (comes e other h))) gone
      (of_window (grown e.emitted (after_happening e h).emitted))
  -- a message that its caller sends is new, and no other
  pub new : new_of gone ≡ grown e.sent (after_happening e h).sent

-- at either end
abbrev pub AreMovesOf : Ends → Occurrence → Machine → List Move → Type 0
AreMovesOf p (at_near h) m made = AreMoves p.near p.far h m made
AreMovesOf p (at_far h) m made = AreMoves p.far p.near h (turned m) (map mirrored made)

-- the machine makes the moves of what occurs, each allowed, and then reads the ends as they then are
pub record MovesWith (p : Ends) (o : Occurrence) (m : Machine) (made : List Move) : Type 0 where
  pub allowed : AllAllowed m made
  pub are : AreMovesOf p o m made
  pub reads : ReadsBoth (after_occurrence p o) (after m made)

-- and so with all that occurs, one after the other
abbrev pub AllMoveWith : Ends → List Occurrence → Machine → List (List Move) → Type 0
AllMoveWith p [] m [] = ⊤
AllMoveWith p (o ∷ os) m (made ∷ more) =
    MovesWith p o m made × AllMoveWith (after_occurrence p o) os (after m made) more
AllMoveWith p _ m _ = ⊥
