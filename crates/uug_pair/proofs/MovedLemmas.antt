-- Whatever happens to an end only moves its jobs from one list to another.
use Rattle.std.proofs.Common.{Bool, ℕ, List, [], ◌∷◌}
use Rattle.uug_link.specs.State.{State}
use Rattle.uug_talk.specs.Chunks.{Measure}
use Rattle.uug_conversation.proofs.MachineMoveLemmas.{after_opening, after_reply, then_moves}
use Rattle.uug_conversation.specs.DialogueState.{DialogueState, end_keeper, is_empty, opened_with, taking}
use Rattle.uug_conversation.specs.Holdings.{Holdings}
use Rattle.uug_conversation.specs.Jobs.{Lists}
use Rattle.uug_conversation.specs.Keeper.{Keeper}
use Rattle.uug_conversation.specs.Machine as machine
use Rattle.uug_conversation.specs.Sharing.{OnlyMoves}
use Rattle.uug_session.proofs.StepKeeps.{hailing_leads, linked_keeps, speaks_so, stage_leads}
use Rattle.uug_session.specs.EndStep.{EndEffect, EndEvent, EndState, Identity, end_step, is_up, speaks_by}
use Rattle.uug_session.specs.NodeRuns.{state_after}

module _ (h : Holdings) (l : Lists) (id : Identity) where
  abbrev Moved : DialogueState → Type 0
  Moved talk = OnlyMoves l talk.machine.lists

  abbrev k : Keeper DialogueState
  k = end_keeper id.side h

  opened_moves : (measure : Measure) (talk : DialogueState) → Moved talk → Moved (opened_with id.side h measure talk)
  opened_moves measure talk is =
      then_moves l talk.machine.lists (machine.opening id.side h talk.machine.lists).state.lists is
      (after_opening id.side h talk.machine.lists)

  taking_moves : (message : List ℕ) (talk : DialogueState) → Moved talk → Moved (taking h message talk)
  taking_moves message talk is =
      then_moves l talk.machine.lists (machine.reply_to h (is_empty talk.waiting) talk.machine message).state.lists is
      (after_reply h (is_empty talk.waiting) talk.machine message)

  speaks_moves : (live : Bool) (s : State) (talk : DialogueState) → Moved talk → Moved (speaks_by live k s talk).keeper
  speaks_moves live s talk is =
      speaks_so k (λ s c. Moved c) (λ x. Moved x.keeper) (λ s c p. p) (λ s c message room next p. (p, λ x q. q)) (λ x p. p) live s talk is

  step_moves : (event : EndEvent) (e : EndState DialogueState) → Moved e.keeper → Moved (end_step k id event e).state.keeper
  step_moves event e p =
      let R : EndEffect DialogueState → Type 0 = λ x. Moved x.state.keeper in
      stage_leads k id event e R (λ stage. Moved e.keeper)
      (λ g p. hailing_leads id e R (λ number g says. p) (λ number says is. p) (λ number says. p) (λ number how says. p) p g event)
      (λ p. linked_keeps k id e R Moved opened_moves taking_moves (λ took x c q. speaks_moves (is_up x.state.phase) x.state c q)
      (λ parted how x c took none q. q) p p p p event)
      p e.stage p

  pub events_move : (events : List EndEvent) (e : EndState DialogueState) → Moved e.keeper → Moved (state_after h id events e).keeper
  events_move [] e is = is
  events_move (event ∷ events) e is = events_move events (end_step k id event e).state (step_moves event e is)
