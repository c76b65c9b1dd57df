-- What goes out next of a text, and what is left behind it.
use Rattle.std.proofs.Common.{◌≡◌, ℕ, ◌+◌, ◌<◌, ◌≤◌, Bool, true, false, List, [], ◌∷◌, ◌++◌, length, take, drop, replicate, All, nat_lt, refl, sym, ap, subst, ◌∙◌, arith}
use Rattle.std.proofs.lemmas.Bool.Decides.{nat_tests}
use Rattle.std.proofs.lemmas.List.{length-drop}
use Rattle.std.proofs.lemmas.List.Elements.{All-head}
use Rattle.uug_talk.specs.Chunks.{Measure, command_messages, last_zeros}
use Rattle.uug_talk.proofs.ChunkLemmas.{command_last_at, command_more_at, command_fits}
use Rattle.uug_conversation.specs.Outgoing.{unless_last}

nothing_left : (m : Measure) (offset : ℕ) (text message : List ℕ) (left : List (List ℕ)) → offset ≤ length text →
    length (drop offset text) < m.size → command_messages m (drop offset text) ≡ message ∷ left → left ≡ []
nothing_left m offset text message left within l e =
    let whole : message ∷ left ≡ (drop offset text ++ replicate (last_zeros m (length (drop offset text))) 0) ∷ [] =
    sym e ∙ command_last_at m offset text within (omega (arith, length-drop offset text, l)) in cc

more_left : (m : Measure) (offset : ℕ) (text message : List ℕ) (left : List (List ℕ)) → 0 < m.size → offset ≤ length text →
    m.size ≤ length (drop offset text) → command_messages m (drop offset text) ≡ message ∷ left →
    left ≡ command_messages m (drop (offset + m.size) text)
more_left m offset text message left some within l e =
    let whole : message ∷ left ≡ take m.size (drop offset text) ∷ command_messages m (drop (offset + m.size) text) =
    sym e ∙ command_more_at m offset text some (omega (arith, length-drop offset text, l)) in cc

-- by whether the message is the last
part_by : (m : Measure) (offset : ℕ) (text message : List ℕ) (left : List (List ℕ)) (is_last : Bool) → 0 < m.size → offset ≤ length text →
    (is_last ≡ true → length (drop offset text) < m.size) → (is_last ≡ false → m.size ≤ length (drop offset text)) →
    command_messages m (drop offset text) ≡ message ∷ left →
    command_messages m (drop offset text) ≡ message ∷ unless_last is_last (command_messages m (drop (offset + m.size) text))
part_by m offset text message left true some within last more e =
    e ∙ ap (λ z. message ∷ z) (nothing_left m offset text message left within (last refl) e)
part_by m offset text message left false some within last more e =
    e ∙ ap (λ z. message ∷ z) (more_left m offset text message left some within (more refl) e)

-- what is left of the text from the offset on
pub part_is : (m : Measure) (offset : ℕ) (text rest message : List ℕ) (left : List (List ℕ)) → 0 < m.size → offset ≤ length text →
    rest ≡ drop offset text → command_messages m rest ≡ message ∷ left →
    command_messages m (drop offset text) ≡ message ∷ unless_last (nat_lt (length rest) m.size) (command_messages m (drop (offset + m.size) text))
part_is m offset text rest message left some within is e =
    let n : length rest ≡ length (drop offset text) = ap length is in
    part_by m offset text message left (nat_lt (length rest) m.size) some within
    (λ last. below (length rest) (length (drop offset text)) m.size n last)
    (λ more. not_below (length rest) (length (drop offset text)) m.size n more)
    (sym (ap (command_messages m) is) ∙ e) where
      below : (a b size : ℕ) → a ≡ b → nat_lt a size ≡ true → b < size
      below a b size n last = grind (arith, nat_tests)

      not_below : (a b size : ℕ) → a ≡ b → nat_lt a size ≡ false → size ≤ b
      not_below a b size n more = grind (arith, nat_tests)

-- each text has a message
pub part_there : (m : Measure) (text : List ℕ) → command_messages m text ≡ [] → ⊥
part_there m [] e = cc
part_there m (b ∷ text) e = cc

abbrev Fits : ℕ → List ℕ → Type 0
Fits size message = length message ≤ size

pub part_fits : (m : Measure) (text message : List ℕ) (left : List (List ℕ)) → command_messages m text ≡ message ∷ left → length message ≤ m.size
part_fits m text message left e = All-head (Fits m.size) message left (subst (All (Fits m.size)) e (command_fits m text))
