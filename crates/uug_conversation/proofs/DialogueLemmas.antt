-- The dialogue of one end, as the part of it that the definitions keep.
use Rattle.std.proofs.Common.{◌≡◌, ℕ, Bool, true, List, ◌++◌, Option, Some, sym, ap, ◌∙◌}
use Rattle.uug_talk.specs.Chunks.{Measure}
use Rattle.uug_conversation.specs.declared.reaction.Reaction.{Reaction}
use Rattle.uug_conversation.specs.Holdings.{Kept, Holdings}
use Rattle.uug_conversation.specs.Machine.{State, Reply, between, reply_to}
use Rattle.uug_conversation.specs.Outgoing.{IsWithin, is_silent, outgoing_messages, sayings_of}
use Rattle.uug_conversation.specs.Reactions.{reply_of}
use Rattle.uug_conversation.specs.DialogueState.{DialogueState, replied, taking}
use Rattle.uug_conversation.specs.DialogueValue.{DialogueValue, dialogue_of, told_as}
use Rattle.uug_conversation.specs.Turns.{all_messages}
use Rattle.uug_conversation.proofs.OutgoingLemmas.{said_behind, silent_is_empty}

abbrev talk : Bool → State → Measure → (waiting : List (List ℕ)) → List Kept → DialogueState
talk o m measure waiting kept = record { opened = o; machine = m; measure = measure; waiting = waiting; kept = kept }

talk_is : (o o_is : Bool) (m m_is : State) (measure : Measure) (waiting waiting_is : List (List ℕ)) (kept kept_is : List Kept) →
    o ≡ o_is → m ≡ m_is → waiting ≡ waiting_is → kept ≡ kept_is →
    talk o m measure waiting kept ≡ talk o_is m_is measure waiting_is kept_is
talk_is o o_is m m_is measure waiting waiting_is kept kept_is e f w k = cc

-- what a reaction leaves is what the machine replies
pub taken_is : (h : Holdings) (kept kept_after : List Kept) (t t_after : DialogueValue) (message : List ℕ) (told : Option Reaction)
    (r : Reaction) (s_after : State) (silent : Bool) → t.opened ≡ true → told ≡ Some r → silent ≡ is_silent t.outgoing.sayings →
    reply_to h silent t.machine message ≡ told_as h s_after told (reply_to h silent t.machine message).keeps →
    kept_after ≡ kept ++ (reply_to h silent t.machine message).keeps →
    t_after.opened ≡ t.opened → t_after.measure ≡ t.measure → t_after.machine ≡ between s_after.lists r.awaits →
    IsWithin t.outgoing.sayings t.outgoing.offset →
    t_after.outgoing.sayings ≡ t.outgoing.sayings ++ sayings_of r.says → t_after.outgoing.offset ≡ t.outgoing.offset →
    dialogue_of h kept_after t_after ≡ taking h message (dialogue_of h kept t)
taken_is h kept kept_after t t_after message told r s_after silent o n so e k o_same s_same m w a f =
    let given = reply_to h silent t.machine message in
    let reply : given ≡ reply_of h s_after.lists r given.keeps =
    e ∙ ap (λ z. told_as h s_after z given.keeps) n in
    let said = ap (λ z. outgoing_messages h z t_after.outgoing) s_same
    ∙ said_behind h t.measure t.outgoing t_after.outgoing r.says w a f
    ∙ ap (λ (z : Reply). outgoing_messages h t.measure t.outgoing ++ all_messages t.measure z.says) (sym reply) in
    ap (λ z. talk t_after.opened t_after.machine z (outgoing_messages h t_after.measure t_after.outgoing) kept_after) s_same
    ∙ talk_is t_after.opened true t_after.machine given.state t.measure
    (outgoing_messages h t_after.measure t_after.outgoing)
    (outgoing_messages h t.measure t.outgoing ++ all_messages t.measure given.says)
    kept_after (kept ++ given.keeps)
    (o_same ∙ o) (m ∙ sym (ap (λ (z : Reply). z.state) reply)) said k
    ∙ ap (λ b. replied t.measure (outgoing_messages h t.measure t.outgoing) kept (reply_to h b t.machine message))
    (so ∙ silent_is_empty h t.measure t.outgoing)
