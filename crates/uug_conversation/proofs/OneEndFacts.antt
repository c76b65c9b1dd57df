-- A caller that sends an empty file, act by act; and what became of the file, said before the file was sent: no link allows it.
use Rattle.std.proofs.Common.{◌≡◌, ◌≢◌, ℕ, List, [], ◌∷◌, length, codes, refl, ap, arith}
use Rattle.uug_conversation.specs.declared.awaits.Awaits.TheVariants as awaits
use Rattle.uug_conversation.specs.declared.side.Side.TheVariants.{Caller, Called}
use Rattle.uug_conversation.specs.OneEnd.{LinkedEnd, link_up, Act, sends, takes, after_acts, may_be_said, Allows, AllAllowed}
use Rattle.uug_conversation.proofs.FactParties.{no_exception, send, text}
use Rattle.uug_conversation.proofs.ConversationFacts.{sender, taker}

abbrev first : LinkedEnd
first = link_up Caller sender [] [] []

abbrev acts : List Act
acts = sends ∷ takes (text (codes "SY")) ∷ sends ∷ takes (text (codes "CY")) ∷ sends ∷ takes (text (codes "HY")) ∷ sends ∷ []

abbrev last : LinkedEnd
last = after_acts sender.holdings first acts

-- its file still waits
abbrev with_file_left : LinkedEnd
with_file_left = after_acts sender.holdings first (sends ∷ takes (text (codes "SY")) ∷ [])

some : (m : List ℕ) (ms : List (List ℕ)) → m ∷ ms ≢ []
some m ms e = absurd cc

record IsOneEnd : Type 0 where
  allowed : AllAllowed Caller sender (taker no_exception) first acts
  sent : last.sent ≡ text (codes "S x y u - D.0 0644") ∷ [] ∷ text (codes "H") ∷ text (codes "HY") ∷ []
  none_waits : last.talk.waiting ≡ []
  struck : last.talk.machine.lists.struck ≡ send ∷ []
  over : last.talk.machine.awaits ≡ awaits.NothingMore
  left : with_file_left.talk.waiting ≡ [] ∷ []
  early : (after_acts sender.holdings with_file_left (takes (text (codes "CY")) ∷ [])).talk.machine.awaits ≡ awaits.Bad
  said_by_then : may_be_said Called sender (taker no_exception) (length with_file_left.sent) ≡ text (codes "SY") ∷ []
  not_allowed : Allows Caller sender (taker no_exception) with_file_left (takes (text (codes "CY"))) → ⊥

one_end : IsOneEnd
one_end = record {
  allowed = (some _ _, (([], refl), (some _ _, (([], refl), (some _ _, (([], refl), (some _ _, tt)))))));
  sent = refl;
  none_waits = refl;
  struck = refl;
  over = refl;
  left = refl;
  early = refl;
  said_by_then = refl;
  not_allowed = λ a. omega (arith, ap length a.1);
}
