-- What a keeper's calls keep, each step of an end keeps, and so do all that come of bytes.
use Rattle.std.proofs.Common.{ℕ, zero, suc, Bool, List, ◌++◌, length}
use Rattle.uug_link.specs.State.{State}
use Rattle.uug_talk.specs.Chunks.{Measure}
use Rattle.uug_session.specs.Arriving.{Receiver, Buffered, Arrival, all_taken, stopped, held_in, holds, takes_up, takes_up_to, takes_piece}
use Rattle.uug_session.specs.EndStep.{EndState, EndEffect, Identity, is_up, speaks_by, EndEvent, packet_found_whole, end_step}
use Rattle.uug_session.specs.Finding.{Finding, finds_nothing, finds, finds_packet, finding}
use Rattle.uug_conversation.specs.Holdings.{Holdings}
use Rattle.uug_conversation.specs.Keeper.{Keeper}
use Rattle.uug_session.specs.NodeArriving.{NodeEnd, fails_first, fails_later, node_taker, with_effect}
use Rattle.uug_conversation.specs.DialogueState.{DialogueState, end_keeper}
use Rattle.uug_session.proofs.StepKeeps.{speaks_so, linked_keeps, hailing_leads, stage_leads}

-- ---- each step of an end

module _ (C : Type 0) (k : Keeper C) (P : C → Type 0)
    (opened : (measure : Measure) (c : C) → P c → P (k.opened measure c))
    (takes : (message : List ℕ) (c : C) → P c → P (k.taking message c))
    (sent : (c : C) → P c → P (k.sent c)) where
  speaks_keeps : (live : Bool) (s : State) (c : C) → P c → P (speaks_by live k s c).keeper
  speaks_keeps live s c p =
      speaks_so k (λ s c. P c) (λ x. P x.keeper) (λ s c p. p) (λ s c message room next p. (sent c p, λ x q. q)) (λ x p. p) live s c p

  pub step_keeps : (id : Identity) (event : EndEvent) (e : EndState C) → P e.keeper → P (end_step k id event e).state.keeper
  step_keeps id event e p =
      let R : EndEffect C → Type 0 = λ x. P x.state.keeper in
      stage_leads k id event e R (λ stage. P e.keeper)
      (λ g p. hailing_leads id e R (λ number g says. p) (λ number says is. p) (λ number says. p) (λ number how says. p) p g event)
      (λ p. linked_keeps k id e R P opened takes (λ took x c q. speaks_keeps (is_up x.state.phase) x.state c q)
      (λ parted how x c took none q. q) p p p p event)
      p e.stage p

-- ---- bytes that come

abbrev pub end_in : Arrival NodeEnd → NodeEnd
end_in (all_taken r) = r.end
end_in (stopped r) = r.end

abbrev pub talk_in : Arrival NodeEnd → DialogueState
talk_in came = (end_in came).state.keeper

module _ (id : Identity) (h : Holdings) (P : EndState DialogueState → Type 0)
    (steps : (event : EndEvent) (e : EndState DialogueState) → P e → P (end_step (end_keeper id.side h) id event e).state) where
  abbrev t : Receiver NodeEnd
  t = node_taker h id

  abbrev Keeps : (Buffered NodeEnd → Arrival NodeEnd) → Type 0
  Keeps more = (r : Buffered NodeEnd) → P r.end.state → P (end_in (more r)).state

  found_keeps : (more : Buffered NodeEnd → Arrival NodeEnd) (f : Finding) (x : NodeEnd) → Keeps more → P x.state → P (end_in (takes_up more t f x)).state
  found_keeps more (finds_nothing rest) x keep p = p
  found_keeps more (finds event behind) x keep p = keep (holds t behind (t.takes event x)) (steps event x.state p)
  found_keeps more (finds_packet packet from behind) x keep p =
      let event = packet_found_whole (fails_first x.failures) packet in
      keep (holds t behind (with_effect (end_step (end_keeper id.side h) id event x.state) (fails_later x.failures) x)) (steps event x.state p)

  pub taken_keeps : (n : ℕ) → Keeps (takes_up_to n t)
  taken_keeps zero r p = p
  taken_keeps (suc n) r p = found_keeps (takes_up_to n t) (finding r.end.state.stage r.held) r.end (taken_keeps n) p

  pub piece_keeps : (piece : List ℕ) (r : Buffered NodeEnd) → P r.end.state → P (end_in (takes_piece t piece r)).state
  piece_keeps piece r p = taken_keeps (suc (length (held_in r.end.state.stage (r.held ++ piece)))) (holds t (r.held ++ piece) r.end) p
