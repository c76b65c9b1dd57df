-- What the calls of a link leave of the packets that it keeps.
use Rattle.std.proofs.Common.{◌≡◌, ℕ, zero, suc, ◌+◌, ◌%◌, ◌<◌, ◌≤◌, List, [], ◌∷◌, ◌++◌, length, length-drop, drop, inl, inr, Bool, true, if◌then◌else◌, Some, rules, refl, ap, sym, subst, ◌∙◌, arith}
use Rattle.std.proofs.lemmas.Bool.{cases_lt}
use Rattle.std.proofs.lemmas.List.{drop-map, drop_all, length-map, map-append}
use Rattle.uug_link.specs.declared.limits.TheConstants.{MESSAGE_MAX}
use Rattle.uug_link.specs.declared.reaction.Reaction.{Reaction}
use Rattle.uug_link.specs.declared.status.Status.{Status}
use Rattle.uug_link.specs.Entries.{Held}
use Rattle.uug_link.specs.Follows.{Follows, written}
use Rattle.uug_link.specs.Reactions.{effect_of, state_of}
use Rattle.uug_link.specs.Slots.{AreSlots, IsLinked, IsSlot, Keeps, message_in, messages_in}
use Rattle.uug_link.specs.State.{State, Fits, HasRoom, IsSound, IsUp, is_halted}
use Rattle.uug_link.specs.Step.{Effect, answers_halted, data_packet, next_number, nothing, on_send, step, to_send}
use Rattle.uug_link.proofs.KeepLemmas.{IsSteady}
use Rattle.uug_link.proofs.RepeatLemmas.{IsSlot-written, message_in-written}
use Rattle.uug_link.proofs.SmallestLemmas.{smallest_holds, smallest_is_code, within_most}
use Rattle.uug_link.proofs.SoundLemmas.{sound-sent}
use Rattle.uug_packet.specs.Number.{number_of}
use Rattle.uug_packet.specs.Spelling.{canonical}
use Rattle.uug_packet.specs.WellFormed.{IsWellFormed}

-- ---- a link, by its status and what is unacknowledged

pub same_state : (s : Status) (ws : List (List ℕ)) (now : State) → state_of s (messages_in ws) ≡ now → state_of s now.unacked ≡ now
same_state s ws now is = subst (λ (t : State). state_of s t.unacked ≡ t) is refl

pub steady : (s : Status) (ws : List (List ℕ)) (now : State) → state_of s (messages_in ws) ≡ now → IsLinked s ws
    → IsSteady (state_of s now.unacked)
steady s ws now is h =
    subst (λ (t : State). IsSteady (state_of s t.unacked)) is (record { sound = h.sound; oldest = s.oldest.below })

-- how many are unacknowledged
pub same_count : (s : Status) (ws : List (List ℕ)) (now : State) → state_of s (messages_in ws) ≡ now
    → length now.unacked ≡ length ws
same_count s ws now is = ap (λ (t : State). length t.unacked) (sym is) ∙ length-map ws message_in

-- ---- the oldest are struck

AreSlots-drop : (first k : ℕ) (ws : List (List ℕ)) → first < 8 → AreSlots first ws
    → AreSlots ((first + k) % 8) (drop k ws)
AreSlots-drop first zero ws below are =
    let at : first ≡ (first + 0) % 8 = omega (arith, below) in
    subst (λ (n : ℕ). AreSlots n ws) at are
AreSlots-drop first (suc k) [] below are = tt
AreSlots-drop first (suc k) (w ∷ ws) below are =
    let at : ((first + 1) % 8 + k) % 8 ≡ (first + suc k) % 8 = omega arith in
    subst (λ (n : ℕ). AreSlots n (drop k ws)) at (AreSlots-drop ((first + 1) % 8) k ws (omega arith) are.1)

AreSlots-none : (first k : ℕ) (ws : List (List ℕ)) → length ws ≤ k → AreSlots first (drop k ws)
AreSlots-none first k ws all = subst (AreSlots first) (sym (drop_all k ws all)) tt

AreSlots-struck : (before after : Status) (ws : List (List ℕ)) (k n : ℕ) → k < length ws
    → AreSlots (number_of before.oldest) ws
    → drop k (messages_in ws) ≡ drop n (messages_in ws)
    → number_of after.oldest ≡ (number_of before.oldest + n) % 8
    → AreSlots (number_of after.oldest) (drop k ws)
AreSlots-struck before after ws k n low are same oldest =
    let as_many : n ≡ k =
    omega (arith, low, length-map ws message_in, length-drop k (messages_in ws), length-drop n (messages_in ws), ap length same) in
    let at : number_of after.oldest ≡ (number_of before.oldest + k) % 8 = oldest ∙ ap (λ (x : ℕ). (number_of before.oldest + x) % 8) as_many in
    subst (λ (x : ℕ). AreSlots x (drop k ws)) (sym at)
    (AreSlots-drop (number_of before.oldest) k ws before.oldest.below are)

no_more : (k : ℕ) (ws : List (List ℕ)) → drop k (messages_in ws) ≡ [] → length ws ≤ k
no_more k ws none = omega (arith, length-map ws message_in, length-drop k (messages_in ws), ap length none)

AreSlots-kept : (before after : Status) (ws : List (List ℕ)) (k : ℕ)
    → AreSlots (number_of before.oldest) ws
    → Keeps (state_of before (messages_in ws)) (state_of after (drop k (messages_in ws)))
    → AreSlots (number_of after.oldest) (drop k ws)
AreSlots-kept before after ws k are (inl none) = AreSlots-none _ k ws (no_more k ws none)
AreSlots-kept before after ws k are (inr kept) = elim (cases_lt k (length ws)) [
  | inl low ↦ AreSlots-struck before after ws k kept.struck low are kept.unacked kept.oldest
  | inr high ↦ AreSlots-none _ k ws high
]

-- what a reaction leaves
pub record IsLeft (r : Reaction) (s : Status) (ws after : List (List ℕ)) (now : State) : Type 0 where
  pub view_is : state_of s (messages_in ws) ≡ now
  pub linked : IsLinked s ws
  pub sound : IsSound (effect_of r now.unacked).state
  pub keeps : Keeps now (effect_of r now.unacked).state
  pub after_is : after ≡ drop r.strikes ws

pub left-messages : (r : Reaction) (s : Status) (ws after : List (List ℕ)) (now : State) → IsLeft r s ws after now
    → messages_in after ≡ drop r.strikes now.unacked
left-messages r s ws after now h =
    ap messages_in h.after_is ∙ sym (drop-map message_in r.strikes ws)
    ∙ ap (λ (t : State). drop r.strikes t.unacked) h.view_is

pub left-slots : (r : Reaction) (s : Status) (ws after : List (List ℕ)) (now : State) → IsLeft r s ws after now
    → AreSlots (number_of r.status.oldest) after
left-slots r s ws after now h =
    let keeps = subst (λ (t : State). Keeps t (effect_of r t.unacked).state) (sym h.view_is) h.keeps in
    subst (AreSlots (number_of r.status.oldest)) (sym h.after_is)
    (AreSlots-kept s r.status ws r.strikes h.linked.slots keeps)

-- and what it emits changes no more than acknowledgements
pub left-state : (r : Reaction) (s : Status) (ws after later : List (List ℕ)) (now : State) → IsLeft r s ws after now
    → messages_in later ≡ messages_in after → state_of r.status (messages_in later) ≡ (effect_of r now.unacked).state
left-state r s ws after later now h same =
    ap (state_of r.status) (same ∙ left-messages r s ws after now h)

pub left-linked : (r : Reaction) (s : Status) (ws after later : List (List ℕ)) (now : State) → IsLeft r s ws after now
    → messages_in later ≡ messages_in after → AreSlots (number_of r.status.oldest) later
    → IsLinked r.status later
left-linked r s ws after later now h same are = record {
  sound = subst IsSound (sym (left-state r s ws after later now h same)) h.sound;
  slots = are;
}

-- ---- one more is sent

AreSlots-append : (first : ℕ) (ws : List (List ℕ)) (w : List ℕ) → first < 8 → AreSlots first ws
    → IsSlot ((first + length ws) % 8) w → AreSlots first (ws ++ w ∷ [])
AreSlots-append first [] w below are is =
    let at : (first + 0) % 8 ≡ first = omega (arith, below) in
    (subst (λ (n : ℕ). IsSlot n w) at is, tt)
AreSlots-append first (v ∷ ws) w below are is =
    let at : (first + suc (length ws)) % 8 ≡ ((first + 1) % 8 + length ws) % 8 = omega arith in
    (are.0, AreSlots-append ((first + 1) % 8) ws w (omega arith) are.1 (subst (λ (n : ℕ). IsSlot n w) at is))

-- a message is sent, as the packet of that number
pub record IsSent (s : Status) (number : ℕ) (message : List ℕ) (ws after : List (List ℕ)) : Type 0 where
  pub linked : IsLinked s ws
  pub room : HasRoom (state_of s (messages_in ws))
  pub fits : Fits (number_of s.size_code) message
  pub number_is : number ≡ (number_of s.oldest + length ws) % 8
  pub after_is : after ≡ ws ++ canonical (data_packet (state_of s []) number message) ∷ []

well_sent : (s : Status) (number : ℕ) (message : List ℕ) (ws after : List (List ℕ)) → IsSent s number message ws after
    → IsWellFormed (data_packet (state_of s []) number message)
well_sent s number message ws after h =
    let few : length message ≤ MESSAGE_MAX = within_most (number_of s.size_code) (length message) s.size_code.below h.fits in
    (omega (arith, h.number_is), omega arith, (smallest_is_code (length message), smallest_holds (length message) few))

pub sent-messages : (s : Status) (number : ℕ) (message : List ℕ) (ws after : List (List ℕ))
    → IsSent s number message ws after → messages_in after ≡ messages_in ws ++ message ∷ []
sent-messages s number message ws after h =
    let w = canonical (data_packet (state_of s []) number message) in
    let same : message_in w ≡ message = message_in-written number _ _ message (well_sent s number message ws after h) in
    ap messages_in h.after_is ∙ map-append message_in ws (w ∷ []) ∙ ap (λ (m : List ℕ). messages_in ws ++ m ∷ []) same

pub sent-linked : (s : Status) (number : ℕ) (message : List ℕ) (ws after : List (List ℕ))
    → IsSent s number message ws after → IsLinked s after
sent-linked s number message ws after h =
    let w = canonical (data_packet (state_of s []) number message) in
    let slot : IsSlot number w = IsSlot-written number _ message (well_sent s number message ws after h) in
    let sound = sound-sent message (state_of s (messages_in ws)) h.room h.fits h.linked.sound in
    record {
      sound =
          subst (λ (ms : List (List ℕ)). IsSound (state_of s ms)) (sym (sent-messages s number message ws after h)) sound;
      slots =
          subst (AreSlots (number_of s.oldest)) (sym h.after_is)
          (AreSlots-append (number_of s.oldest) ws w s.oldest.below h.linked.slots
          (subst (λ (n : ℕ). IsSlot n w) h.number_is slot));
    }

-- the packet that goes out
pub sent-packet : (s : Status) (number : ℕ) (message : List ℕ) (ws after : List (List ℕ)) → IsSent s number message ws after
    → data_packet (state_of s []) number message
    ≡ data_packet (state_of s (messages_in ws)) (next_number (state_of s (messages_in ws))) message
sent-packet s number message ws after h =
    let at : number ≡ (number_of s.oldest + length (messages_in ws)) % 8 =
    h.number_is ∙ ap (λ (n : ℕ). (number_of s.oldest + n) % 8) (sym (length-map ws message_in)) in
    ap (λ (n : ℕ). data_packet (state_of s []) n message) at

-- the call does what the step says
pub record IsSentFrom (now after : State) (message : List ℕ) (held held_after : Held) : Type 0 where
  pub up : IsUp now
  pub state : after ≡ record now { unacked = now.unacked ++ message ∷ [] }
  pub emitted : held_after.entries
      ≡ held.entries ++ written (record { packet = data_packet now (next_number now) message; first = true }) ∷ []
  pub spare : held.spare ≤ held_after.spare + 1

pub sent-follows : (now after : State) (message : List ℕ) (held held_after : Held)
    → IsSentFrom now after message held held_after
    → Follows (step now (to_send message)) now after held held_after (Some nothing)
sent-follows now after message held held_after h =
    let goes_on : on_send message now ≡ step now (to_send message) =
    ap (λ (halted : Bool). if halted then answers_halted now else on_send message now) (sym (ap is_halted h.up)) in
    let follows : Follows (on_send message now) now after held held_after (Some nothing) = record {
      state = h.state;
      emitted = h.emitted;
      outcome = refl;
      unchanged = (search rules);
      kept = (search rules);
      memory = (search rules);
      spare = h.spare;
      spare_kept = (search rules);
      few = omega arith;
    } in
    subst (λ (e : Effect). Follows e now after held held_after (Some nothing)) goes_on follows
