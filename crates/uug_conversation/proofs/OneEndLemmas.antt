-- An end that sends and takes as a link allows stands where the conversation says: nothing waits where it takes a message, so
-- none comes too early.
use Rattle.std.proofs.Common.{◌≡◌, ℕ, zero, suc, ◌+◌, ◌≤◌, List, [], ◌∷◌, ◌++◌, length, take, drop, refl, sym, ap, ap₂, subst, ◌∙◌, arith}
use Rattle.std.proofs.lemmas.List.{append_assoc, length-append, take-append-drop}
use Rattle.std.proofs.Math.Seq.{take-append_seam}
use Rattle.uug_conversation.specs.DialogueState.{behind_first, is_empty, replied, taking}
use Rattle.uug_conversation.specs.EarlierJobs.{behind, state_behind, reply_behind}
use Rattle.uug_conversation.specs.Holdings.{Kept, Holdings}
use Rattle.uug_conversation.specs.Jobs.{at_start, pending}
use Rattle.uug_conversation.specs.Left.{IsLeft, left_of}
use Rattle.uug_conversation.specs.Machine.{opening, step}
use Rattle.uug_conversation.specs.Messages.{conversation_messages}
use Rattle.uug_conversation.specs.OneEnd.{LinkedEnd, link_up, Act, sends, takes, after_act, after_acts, Allows, AllAllowed, FollowsConversation}
use Rattle.uug_conversation.specs.Party.{Party}
use Rattle.uug_conversation.specs.Runs.{IsAt, Progress, has_said_all, is_bad, is_over, opened, progress_after, progress_at, taking as bare_taking, taking_all}
use Rattle.uug_conversation.specs.Sharing.{AreShared, OnlyMoves}
use Rattle.uug_conversation.specs.Turns.{other, all_messages}
use Rattle.uug_conversation.specs.View.{conversation_view, own_messages, others_messages, floor, party}
use Rattle.uug_conversation.specs.declared.job.Job.{Job}
use Rattle.uug_conversation.specs.declared.side.Side.{Side}
use Rattle.uug_conversation.proofs.EarlierJobLemmas.{start_behind, opening_behind, step_behind}
use Rattle.uug_conversation.proofs.EarlyLemmas.{taken_when_none_waits}
use Rattle.uug_conversation.proofs.FloorLemmas.{others_are_own, floor_back}
use Rattle.uug_conversation.proofs.MachineMoveLemmas.{after_opening, after_reply, then_moves}
use Rattle.uug_conversation.proofs.SharingLemmas.{moved_are_shared}

-- ---- lists of messages

pub no_length : (ms : List (List ℕ)) → length ms ≤ 0 → ms ≡ []
no_length [] h = refl
no_length (m ∷ ms) h = absurd (omega (arith, h))

pub take_at_most : (n : ℕ) (ms : List (List ℕ)) → length (take n ms) ≤ n
take_at_most zero ms = omega arith
take_at_most (suc n) [] = omega arith
take_at_most (suc n) (m ∷ ms) = omega (arith, take_at_most n ms)

first_and_rest : (ms : List (List ℕ)) → take 1 ms ++ behind_first ms ≡ ms
first_and_rest [] = refl
first_and_rest (m ∷ ms) = refl

front_taken : (front rest whole : List (List ℕ)) → front ++ rest ≡ whole → front ≡ take (length front) whole
front_taken front rest whole e = sym (ap (take (length front)) (sym e) ∙ take-append_seam front rest)

pub taking_more : (p : Party) (start : Progress) (ms : List (List ℕ)) (m : List ℕ) →
    taking_all p start (ms ++ m ∷ []) ≡ bare_taking p (taking_all p start ms) m
taking_more p start [] m = refl
taking_more p start (x ∷ ms) m = taking_more p (bare_taking p start x) ms m

module _ (me : Side) (a b : Party) (struck failed : List Job) (kept : List Kept) where
  -- ---- the end's own turn, and its machine alone

  -- the end has what its machine alone has, with what it has brought in front
  record Tracks (s : LinkedEnd) (p : Progress) : Type 0 where
    measure : s.talk.measure ≡ (party me a b).measure
    machine : s.talk.machine ≡ state_behind struck failed p.state
    said : s.sent ++ s.talk.waiting ≡ p.said
    keeps : s.talk.kept ≡ kept ++ p.kept

  tracks_first : Tracks (link_up me (party me a b) struck failed kept) (opened me (party me a b))
  tracks_first =
      let p = party me a b in
      let e : opening me p.holdings (at_start p.jobs struck failed) ≡ reply_behind struck failed (opening me p.holdings (at_start p.jobs [] [])) =
      ap (opening me p.holdings) (sym (start_behind p.jobs struck failed)) ∙ opening_behind me p.holdings (at_start p.jobs [] []) struck failed in
      subst (λ r. Tracks (record { talk = replied p.measure [] kept r; sent = []; taken = [] }) (opened me p)) (sym e)
      (record { measure = refl; machine = refl; said = refl; keeps = refl })

  tracks_when_sends : (s : LinkedEnd) (p : Progress) → Tracks s p → Tracks (after_act (party me a b).holdings s sends) p
  tracks_when_sends s p t = record {
    measure = t.measure;
    machine = t.machine;
    said = append_assoc s.sent (take 1 s.talk.waiting) (behind_first s.talk.waiting)
        ∙ ap (λ z. s.sent ++ z) (first_and_rest s.talk.waiting) ∙ t.said;
    keeps = t.keeps;
  }

  -- where nothing waits
  tracks_when_takes : (s : LinkedEnd) (p : Progress) (m : List ℕ) → s.talk.waiting ≡ [] → Tracks s p →
      Tracks (after_act (party me a b).holdings s (takes m)) (bare_taking (party me a b) p m)
  tracks_when_takes s p m none t =
      let h = (party me a b).holdings in
      let r = step h p.state m in
      let e : taking h m s.talk ≡ replied s.talk.measure s.talk.waiting s.talk.kept (reply_behind struck failed r) =
      taken_when_none_waits h m s.talk none
      ∙ ap (λ z. replied s.talk.measure s.talk.waiting s.talk.kept (step h z m)) t.machine
      ∙ ap (replied s.talk.measure s.talk.waiting s.talk.kept) (step_behind h p.state m struck failed) in
      subst (λ z. Tracks (record { talk = z; sent = s.sent; taken = s.taken ++ m ∷ [] }) (bare_taking (party me a b) p m)) (sym e)
      (record {
        measure = t.measure;
        machine = refl;
        said = sym (append_assoc s.sent s.talk.waiting (all_messages s.talk.measure r.says))
            ∙ ap₂ (λ z measure. z ++ all_messages measure r.says) t.said t.measure;
        keeps = ap (λ z. z ++ r.keeps) t.keeps ∙ append_assoc kept p.kept r.keeps;
      })

  -- ---- what stays true

  record Holds (s : LinkedEnd) : Type 0 where
    tracks : Tracks s (progress_after me (party me a b) s.taken)
    first : s.taken ≡ take (length s.taken) (others_messages (conversation_view me a b))

  module _ (follow : (k : ℕ) → IsAt me a b k (progress_at me a b k)) where
    stands_at : (s : LinkedEnd) → Holds s → IsAt me a b (length s.taken) (progress_after me (party me a b) s.taken)
    stands_at s h =
        subst (λ z. IsAt me a b (length s.taken) (progress_after me (party me a b) z)) (sym h.first) (follow (length s.taken))

    -- where a link lets it take a message, all was sent that it may say before that message
    nothing_waits : (s : LinkedEnd) (m : List ℕ) → Holds s → Allows me a b s (takes m) → s.talk.waiting ≡ []
    nothing_waits s m h allowed =
        let v = conversation_view me a b in
        let w = conversation_view (other me) a b in
        let k = length s.taken in
        let n = length s.sent in
        let may : suc k ≤ floor n w =
        omega (arith, length-append s.taken (m ∷ allowed.0), ap length allowed.1, take_at_most (floor n w) (own_messages w)) in
        let said : n + length s.talk.waiting ≤ floor k v =
        omega (
          arith,
          length-append s.sent s.talk.waiting,
          ap length h.tracks.said,
          ap length (stands_at s h).said,
          take_at_most (floor k v) (own_messages v),
        ) in
        no_length s.talk.waiting (omega (arith, said, floor_back me (conversation_messages a b) k n may))

    first_taken : (s : LinkedEnd) (m : List ℕ) → Allows me a b s (takes m) →
        s.taken ++ m ∷ [] ≡ take (length (s.taken ++ m ∷ [])) (others_messages (conversation_view me a b))
    first_taken s m allowed =
        let w = conversation_view (other me) a b in
        let n = floor (length s.sent) w in
        front_taken (s.taken ++ m ∷ []) (allowed.0 ++ drop n (own_messages w)) (others_messages (conversation_view me a b))
        (append_assoc s.taken (m ∷ []) (allowed.0 ++ drop n (own_messages w))
        ∙ sym (append_assoc s.taken (m ∷ allowed.0) (drop n (own_messages w)))
        ∙ ap (λ z. z ++ drop n (own_messages w)) allowed.1
        ∙ take-append-drop n (own_messages w)
        ∙ sym (others_are_own me (conversation_messages a b)))

    holds_after : (s : LinkedEnd) (act : Act) → Holds s → Allows me a b s act → Holds (after_act (party me a b).holdings s act)
    holds_after s sends h allowed = record {
      tracks = tracks_when_sends s (progress_after me (party me a b) s.taken) h.tracks;
      first = h.first;
    }
    holds_after s (takes m) h allowed =
        let p = party me a b in
        record {
          tracks = subst (Tracks (after_act p.holdings s (takes m))) (sym (taking_more p (opened me p) s.taken m))
              (tracks_when_takes s (progress_after me p s.taken) m (nothing_waits s m h allowed) h.tracks);
          first = first_taken s m allowed;
        }

    holds_after_all : (s : LinkedEnd) (acts : List Act) → Holds s → AllAllowed me a b s acts → Holds (after_acts (party me a b).holdings s acts)
    holds_after_all s [] h allowed = h
    holds_after_all s (act ∷ acts) h allowed =
        holds_after_all (after_act (party me a b).holdings s act) acts (holds_after s act h allowed.0) allowed.1

    follows : (s : LinkedEnd) → Holds s → FollowsConversation me a b struck failed kept s
    follows s h =
        let at = stands_at s h in
        record {
          taken = h.first;
          given = h.tracks.said ∙ at.said;
          lists = ap (λ z. z.lists) h.tracks.machine ∙ ap (behind struck failed) at.lists;
          stored = h.tracks.keeps ∙ ap (λ z. kept ++ z) at.kept;
          not_bad = ap (λ z. is_bad z.awaits) h.tracks.machine ∙ at.not_bad;
          over = (
            λ e. at.over.0 (sym (ap (λ z. is_over z.awaits) h.tracks.machine) ∙ e),
            λ e. ap (λ z. is_over z.awaits) h.tracks.machine ∙ at.over.1 e,
          );
          parted = (
            λ e. at.parted.0 (sym (ap (λ z. has_said_all z.awaits) h.tracks.machine) ∙ e),
            λ e. ap (λ z. has_said_all z.awaits) h.tracks.machine ∙ at.parted.1 e,
          );
        }

    pub turn_follows : (acts : List Act) → AllAllowed me a b (link_up me (party me a b) struck failed kept) acts →
        FollowsConversation me a b struck failed kept (after_acts (party me a b).holdings (link_up me (party me a b) struck failed kept) acts)
    turn_follows acts allowed =
        let first = link_up me (party me a b) struck failed kept in
        follows (after_acts (party me a b).holdings first acts)
        (holds_after_all first acts (record { tracks = tracks_first; first = refl }) allowed)

    -- what is left where the session ends
    pub turn_leaves : (giver : Party) → ((k : ℕ) → IsLeft giver (party me a b).holdings (left_of (party me a b).holdings (progress_at me a b k).state)) →
        (acts : List Act) → AllAllowed me a b (link_up me (party me a b) struck failed kept) acts →
        IsLeft giver (party me a b).holdings (left_of (party me a b).holdings
        (after_acts (party me a b).holdings (link_up me (party me a b) struck failed kept) acts).talk.machine)
    turn_leaves giver left acts allowed =
        let p = party me a b in
        let first = link_up me p struck failed kept in
        let s = after_acts p.holdings first acts in
        let h = holds_after_all first acts (record { tracks = tracks_first; first = refl }) allowed in
        subst (λ z. IsLeft giver p.holdings (left_of p.holdings z)) (sym h.tracks.machine)
        (subst (λ z. IsLeft giver p.holdings (left_of p.holdings (progress_after me p z).state)) (sym h.first) (left (length s.taken)))

-- ---- jobs

-- whatever is sent and comes, jobs only move from one list to another
only_moves : (h : Holdings) (s : LinkedEnd) (acts : List Act) → OnlyMoves s.talk.machine.lists (after_acts h s acts).talk.machine.lists
only_moves h s [] = record { moves = []; are = refl }
only_moves h s (sends ∷ acts) = only_moves h (after_act h s sends) acts
only_moves h s (takes m ∷ acts) =
    let next = after_act h s (takes m) in
    then_moves s.talk.machine.lists next.talk.machine.lists (after_acts h next acts).talk.machine.lists
    (after_reply h (is_empty s.talk.waiting) s.talk.machine m) (only_moves h next acts)

-- so each job is in exactly one list
pub turn_shares : (me : Side) (p : Party) (struck failed : List Job) (kept : List Kept) (acts : List Act)
    → let l = (after_acts p.holdings (link_up me p struck failed kept) acts).talk.machine.lists in
    AreShared ((struck ++ failed) ++ p.jobs) (pending l) l.struck l.failed
turn_shares me p struck failed kept acts =
    let first = link_up me p struck failed kept in
    let last = after_acts p.holdings first acts in
    let h : OnlyMoves (at_start p.jobs struck failed) last.talk.machine.lists =
    then_moves (at_start p.jobs struck failed) first.talk.machine.lists last.talk.machine.lists
    (after_opening me p.holdings (at_start p.jobs struck failed)) (only_moves p.holdings first acts) in
    rw h.are (moved_are_shared p.jobs struck failed h.moves)
