-- How far the two ends of a worked conversation are, place by place, worked out by hand: what each says next, whether HY was
-- sent or taken, and whether all is over. An end tells it that has things of earlier sessions, and so do its two numbers.
use Rattle.std.proofs.Common.{◌≡◌, ℕ, Bool, true, false, List, [], ◌∷◌, ◌++◌, codes, Option, Some, None, refl}
use Rattle.uug_conversation.specs.Count.{count_keeper}
use Rattle.uug_conversation.specs.Holdings.{Kept}
use Rattle.uug_conversation.specs.Keeper.{Keeper}
use Rattle.uug_conversation.specs.Party.{Party}
use Rattle.uug_conversation.specs.DialogueState.{end_keeper}
use Rattle.uug_session.specs.Told.{talk_behind, count_of_talker}
use Rattle.uug_conversation.specs.declared.side.Side.{Side}
use Rattle.uug_conversation.specs.declared.side.Side.TheVariants.{Caller, Called}
use Rattle.uug_session.specs.TwoEnds.{Talker, first_talker, Act, sends, takes, after_act}
use Rattle.uug_conversation.specs.View.{conversation_view, party}
use Rattle.uug_conversation.proofs.ConversationFacts.{sender, taker}
use Rattle.uug_conversation.proofs.FactParties.{no_exception, send_nothing, request, z, text}

pub record Place : Type 0 where
  pub next : Option (List ℕ)
  pub parted : Bool
  pub over : Bool

abbrev pub place : {C : Type 0} → Keeper C → C → Place
place k c = record { next = k.next c; parted = k.has_parted c; over = k.is_over c }

abbrev pub after_acts : Party → Talker → List Act → Talker
after_acts p t [] = t
after_acts p t (act ∷ acts) = after_acts p (after_act act p t) acts

abbrev pub talker_after : Side → (a b : Party) → List Act → Talker
talker_after me a b acts = after_acts (party me a b) (first_talker me (party me a b)) acts

abbrev pub kept_before : List Kept
kept_before = record { name = z; mode = 384; bytes = 7 ∷ [] } ∷ []

-- by the end itself, where a job was struck, one has failed and a file was kept before
abbrev pub by_itself : Side → (a b : Party) → List Act → Place
by_itself me a b acts =
    place (end_keeper me (party me a b).holdings)
    (talk_behind (request ∷ []) (send_nothing ∷ []) kept_before (party me a b).measure (talker_after me a b acts))

abbrev pub by_two_numbers : Side → (a b : Party) → List Act → Place
by_two_numbers me a b acts =
    place (count_keeper (conversation_view me a b)) (count_of_talker (talker_after me a b acts))

pub record IsAtPlace (me : Side) (acts : List Act) (where_it_is : Place) : Type 0 where
  pub itself : by_itself me sender (taker no_exception) acts ≡ where_it_is
  pub numbers : by_two_numbers me sender (taker no_exception) acts ≡ where_it_is

-- the caller sends an empty file: up to its H, and up to the called end's HY
abbrev pub caller_acts : List Act
caller_acts = sends ∷ takes (text (codes "SY")) ∷ sends ∷ takes (text (codes "CY")) ∷ sends ∷ []

abbrev pub called_acts : List Act
called_acts =
    takes (text (codes "S x y u - D.0 0644")) ∷ sends ∷ takes [] ∷ sends ∷ takes (text (codes "H")) ∷ []

pub record AreTold : Type 0 where
  pub called_waits : IsAtPlace Called [] (record { next = None; parted = false; over = false })
  pub caller_begins : IsAtPlace Caller []
      (record { next = Some (text (codes "S x y u - D.0 0644")); parted = false; over = false })
  -- HY waits to be sent
  pub called_agrees : IsAtPlace Called called_acts
      (record { next = Some (text (codes "HY")); parted = false; over = false })
  pub called_parts : IsAtPlace Called (called_acts ++ sends ∷ []) (record { next = None; parted = true; over = false })
  -- HY was taken, and the end's own waits
  pub caller_waits : IsAtPlace Caller caller_acts (record { next = None; parted = false; over = false })
  pub caller_parts : IsAtPlace Caller (caller_acts ++ takes (text (codes "HY")) ∷ [])
      (record { next = Some (text (codes "HY")); parted = true; over = false })
  pub caller_over : IsAtPlace Caller (caller_acts ++ takes (text (codes "HY")) ∷ sends ∷ [])
      (record { next = None; parted = true; over = true })
  pub called_over : IsAtPlace Called (called_acts ++ sends ∷ takes (text (codes "HY")) ∷ [])
      (record { next = None; parted = true; over = true })

pub are_told : AreTold
are_told = record {
  called_waits = record { itself = refl; numbers = refl };
  caller_begins = record { itself = refl; numbers = refl };
  called_agrees = record { itself = refl; numbers = refl };
  called_parts = record { itself = refl; numbers = refl };
  caller_waits = record { itself = refl; numbers = refl };
  caller_parts = record { itself = refl; numbers = refl };
  caller_over = record { itself = refl; numbers = refl };
  called_over = record { itself = refl; numbers = refl };
}
