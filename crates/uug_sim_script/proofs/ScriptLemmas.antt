-- Reading a script line by line.
use Rattle.std.proofs.Common.{◌≡◌, ℕ, zero, suc, ◌+◌, List, [], ◌∷◌, ◌++◌, refl, sym, ap, ◌∙◌, add-one, append_assoc}
use Rattle.uug_line.specs.declared.event.Event.{Event}
use Rattle.uug_line.specs.declared.event.Event.TheVariants.{Pass}
use Rattle.uug_sim_script.specs.declared.line.TheConstants.{BYTES_MAX}
use Rattle.uug_conversation.specs.declared.side.Side.TheVariants.{Caller, Called}
use Rattle.uug_sim_script.specs.Script.{flow_events}

one_turn_more : (n : ℕ) → flow_events (suc n) ≡ flow_events n ++ Pass Called BYTES_MAX ∷ Pass Caller BYTES_MAX ∷ []
one_turn_more zero = refl
one_turn_more (suc n) = ap (λ events. Pass Called BYTES_MAX ∷ Pass Caller BYTES_MAX ∷ events) (one_turn_more n)

pub turn_added : (start before half after : List Event) (n : ℕ) → before ≡ start ++ flow_events n
    → half ≡ before ++ Pass Called BYTES_MAX ∷ [] → after ≡ half ++ Pass Caller BYTES_MAX ∷ [] → after ≡ start ++ flow_events (n + 1)
turn_added start before half after n e f g =
    g ∙ ap (λ l. l ++ Pass Caller BYTES_MAX ∷ []) (f ∙ ap (λ l. l ++ Pass Called BYTES_MAX ∷ []) e)
    ∙ append_assoc (start ++ flow_events n) (Pass Called BYTES_MAX ∷ []) (Pass Caller BYTES_MAX ∷ [])
    ∙ append_assoc start (flow_events n) (Pass Called BYTES_MAX ∷ Pass Caller BYTES_MAX ∷ [])
    ∙ ap (λ l. start ++ l) (sym (one_turn_more n))
    ∙ ap (λ i. start ++ flow_events i) (sym (add-one n))
