-- Whatever two ends do that hear each other, each stands where the conversation says.
use Rattle.std.proofs.Common.{◌≡◌, ℕ, suc, ◌+◌, ◌≤◌, List, [], ◌∷◌, ◌++◌, length, take, drop, refl, sym, ap, subst, ◌∙◌, arith}
use Rattle.std.proofs.lemmas.List.{append_assoc, length-append, take-append-drop}
use Rattle.std.proofs.Math.Seq.{take-append_seam, drop-append_seam}
use Rattle.uug_link.specs.TwoLinks.{IsFrontOf}
use Rattle.uug_conversation.specs.DialogueState.{is_empty}
use Rattle.uug_conversation.specs.Machine.{step}
use Rattle.uug_conversation.specs.Messages.{conversation_messages}
use Rattle.uug_conversation.specs.Party.{Party}
use Rattle.uug_conversation.specs.Runs.{taking, progress_after, progress_at, IsAt}
use Rattle.uug_conversation.specs.Turns.{other, all_messages}
use Rattle.uug_conversation.specs.declared.side.Side.{Side}
use Rattle.uug_conversation.specs.declared.side.Side.TheVariants.{Caller, Called}
use Rattle.uug_session.specs.TwoEnds.{Talker, progress_of, Two, sends, takes, after_act, Reached, reply_taken, at_first, after, IsTold}
use Rattle.uug_conversation.specs.View.{conversation_view, own_messages, others_messages, floor, party}
use Rattle.uug_conversation.proofs.EarlyLemmas.{when_none_waits}
use Rattle.uug_conversation.proofs.FloorLemmas.{floor_back, others_are_own}
use Rattle.uug_conversation.proofs.OneEndLemmas.{no_length, take_at_most, taking_more}

-- ---- fronts

front_take : (front whole : List (List ℕ)) → IsFrontOf front whole → front ≡ take (length front) whole
front_take front whole f = sym (ap (take (length front)) (sym f.1) ∙ take-append_seam front f.0)

front_of_front : (a b c : List (List ℕ)) → IsFrontOf a b → IsFrontOf b c → IsFrontOf a c
front_of_front a b c f g = (f.0 ++ g.0, sym (append_assoc a f.0 g.0) ∙ ap (λ z. z ++ g.0) f.1 ∙ g.1)

front_take_of : (n : ℕ) (whole : List (List ℕ)) → IsFrontOf (take n whole) whole
front_take_of n whole = (drop n whole, take-append-drop n whole)

front_length : (front whole : List (List ℕ)) → IsFrontOf front whole → length front ≤ length whole
front_length front whole f = omega (arith, ap length f.1, length-append front f.0)

-- ---- what stays true of each end

-- what every end does when it takes the other's messages
abbrev pub AllFollow : (a b : Party) → Type 0
AllFollow a b = (me : Side) (k : ℕ) → IsAt me a b k (progress_at me a b k)

pub record Keeps (me : Side) (a b : Party) (own others : Talker) : Type 0 where
  pub machine : progress_of own ≡ progress_after me (party me a b) own.taken
  pub heard : IsFrontOf own.taken others.sent
  pub first : IsFrontOf own.taken (others_messages (conversation_view me a b))

-- where an end stands
machine_at : (me : Side) (a b : Party) (own others : Talker) → Keeps me a b own others →
    progress_of own ≡ progress_at me a b (length own.taken)
machine_at me a b own others k =
    k.machine ∙ ap (progress_after me (party me a b)) (front_take own.taken (others_messages (conversation_view me a b)) k.first)

is_at : (me : Side) (a b : Party) (own others : Talker) → AllFollow a b → Keeps me a b own others →
    IsAt me a b (length own.taken) (progress_of own)
is_at me a b own others follow k =
    subst (IsAt me a b (length own.taken)) (sym (machine_at me a b own others k)) (follow me (length own.taken))

sent_front : (me : Side) (a b : Party) (own others : Talker) → AllFollow a b → Keeps me a b own others →
    IsFrontOf own.sent (own_messages (conversation_view me a b))
sent_front me a b own others follow k =
    front_of_front own.sent (own.sent ++ own.waiting) (own_messages (conversation_view me a b)) (own.waiting, refl)
    (subst (λ z. IsFrontOf z (own_messages (conversation_view me a b))) (sym (is_at me a b own others follow k).said)
    (front_take_of (floor (length own.taken) (conversation_view me a b)) (own_messages (conversation_view me a b))))

-- an end has sent no more than it may
within_floor : (me : Side) (a b : Party) (own others : Talker) → AllFollow a b → Keeps me a b own others →
    length own.sent + length own.waiting ≤ floor (length own.taken) (conversation_view me a b)
within_floor me a b own others follow k =
    let all = own_messages (conversation_view me a b) in
    let n = floor (length own.taken) (conversation_view me a b) in
    omega (arith, length-append own.sent own.waiting, ap length (is_at me a b own others follow k).said, take_at_most n all)

-- ---- nothing waits where an end takes a message

none_waits : (me : Side) (a b : Party) (own others : Talker) (m : List ℕ) → AllFollow a b → Keeps me a b own others →
    Keeps (other me) a b others own → IsFrontOf (own.taken ++ m ∷ []) others.sent → own.waiting ≡ []
none_waits me a b own others m follow k j f =
    let said : length own.taken + 1 ≤ length others.sent =
    omega (arith, front_length (own.taken ++ m ∷ []) others.sent f, length-append own.taken (m ∷ [])) in
    let may : suc (length own.taken) ≤ floor (length others.taken) (conversation_view (other me) a b) =
    omega (arith, said, within_floor (other me) a b others own follow j) in
    no_length own.waiting (omega (
      arith,
      within_floor me a b own others follow k,
      floor_back me (conversation_messages a b) (length own.taken) (length others.taken) may,
      front_length others.taken own.sent j.heard,
    ))

-- ---- each act keeps it

keeps_when_sends : (me : Side) (a b : Party) (own others : Talker) → Keeps me a b own others →
    Keeps me a b (after_act sends (party me a b) own) others
keeps_when_sends me a b own others k = record {
  machine =
      ap (λ z. record { state = own.state; said = z; kept = own.kept })
      (append_assoc own.sent (take 1 own.waiting) (drop 1 own.waiting) ∙ ap (λ z. own.sent ++ z) (take-append-drop 1 own.waiting))
      ∙ k.machine;
  heard = k.heard;
  first = k.first;
}

other_keeps_when_sends : (me : Side) (a b : Party) (own others : Talker) (p : Party) → Keeps me a b own others →
    Keeps me a b own (after_act sends p others)
other_keeps_when_sends me a b own others p k = record {
  machine = k.machine;
  heard = front_of_front own.taken others.sent (others.sent ++ take 1 others.waiting) k.heard (take 1 others.waiting, refl);
  first = k.first;
}

takes_at_once : (me : Side) (a b : Party) (own others : Talker) (m : List ℕ) → Keeps me a b own others →
    IsFrontOf (own.taken ++ m ∷ []) others.sent → IsFrontOf others.sent (others_messages (conversation_view me a b)) →
    Keeps me a b (reply_taken (party me a b) own m (step (party me a b).holdings own.state m)) others
takes_at_once me a b own others m k f g = record {
  machine =
      ap (λ z. record {
        state = (step (party me a b).holdings own.state m).state;
        said = z;
        kept = own.kept ++ (step (party me a b).holdings own.state m).keeps;
      })
      (sym (append_assoc own.sent own.waiting (all_messages (party me a b).measure (step (party me a b).holdings own.state m).says)))
      ∙ ap (λ z. taking (party me a b) z m) k.machine
      ∙ sym (taking_more (party me a b) (progress_after me (party me a b) []) own.taken m);
  heard = f;
  first = front_of_front (own.taken ++ m ∷ []) others.sent (others_messages (conversation_view me a b)) f g;
}

keeps_when_takes : (me : Side) (a b : Party) (own others : Talker) (m : List ℕ) → own.waiting ≡ [] → Keeps me a b own others →
    IsFrontOf (own.taken ++ m ∷ []) others.sent → IsFrontOf others.sent (others_messages (conversation_view me a b)) →
    Keeps me a b (after_act (takes m) (party me a b) own) others
keeps_when_takes me a b own others m none k f g =
    subst (λ r. Keeps me a b (reply_taken (party me a b) own m r) others)
    (sym (when_none_waits (party me a b).holdings (is_empty own.waiting) own.state m (ap is_empty none)))
    (takes_at_once me a b own others m k f g)

-- what the other end has sent are the first messages that this one is to hear
sent_to : (me : Side) (a b : Party) (own others : Talker) → AllFollow a b → Keeps (other me) a b others own →
    IsFrontOf others.sent (others_messages (conversation_view me a b))
sent_to me a b own others follow k =
    subst (IsFrontOf others.sent) (sym (others_are_own me (conversation_messages a b)))
    (sent_front (other me) a b others own follow k)

pub record BothKeep (a b : Party) (two : Two) : Type 0 where
  pub caller_keeps : Keeps Caller a b two.caller_end two.called_end
  pub called_keeps : Keeps Called a b two.called_end two.caller_end

both_keep : (a b : Party) → AllFollow a b → (two : Two) → Reached a b two → BothKeep a b two
both_keep a b follow two at_first = record {
  caller_keeps = record { machine = refl; heard = ([], refl); first = (others_messages (conversation_view Caller a b), refl) };
  called_keeps = record { machine = refl; heard = ([], refl); first = (others_messages (conversation_view Called a b), refl) };
}
both_keep a b follow two (after before Caller sends r p) =
    let k = both_keep a b follow before r in
    record {
      caller_keeps = keeps_when_sends Caller a b before.caller_end before.called_end k.caller_keeps;
      called_keeps = other_keeps_when_sends Called a b before.called_end before.caller_end a k.called_keeps;
    }
both_keep a b follow two (after before Called sends r p) =
    let k = both_keep a b follow before r in
    record {
      caller_keeps = other_keeps_when_sends Caller a b before.caller_end before.called_end b k.caller_keeps;
      called_keeps = keeps_when_sends Called a b before.called_end before.caller_end k.called_keeps;
    }
both_keep a b follow two (after before Caller (takes m) r p) =
    let k = both_keep a b follow before r in
    record {
      caller_keeps = keeps_when_takes Caller a b before.caller_end before.called_end m
          (none_waits Caller a b before.caller_end before.called_end m follow k.caller_keeps k.called_keeps p) k.caller_keeps p
          (sent_to Caller a b before.caller_end before.called_end follow k.called_keeps);
      called_keeps = record { machine = k.called_keeps.machine; heard = k.called_keeps.heard; first = k.called_keeps.first };
    }
both_keep a b follow two (after before Called (takes m) r p) =
    let k = both_keep a b follow before r in
    record {
      caller_keeps = record { machine = k.caller_keeps.machine; heard = k.caller_keeps.heard; first = k.caller_keeps.first };
      called_keeps = keeps_when_takes Called a b before.called_end before.caller_end m
          (none_waits Called a b before.called_end before.caller_end m follow k.called_keeps k.caller_keeps p) k.called_keeps p
          (sent_to Called a b before.called_end before.caller_end follow k.caller_keeps);
    }

-- ---- the law

told : (me : Side) (a b : Party) (own others : Talker) → AllFollow a b → Keeps me a b own others → IsTold me a b own others
told me a b own others follow k =
    let at = is_at me a b own others follow k in
    let all = own_messages (conversation_view me a b) in
    record {
      taken_first = front_take own.taken (others_messages (conversation_view me a b)) k.first;
      sent_first = front_take own.sent all (sent_front me a b own others follow k);
      waiting_next = sym (drop-append_seam own.sent own.waiting) ∙ ap (drop (length own.sent)) at.said;
      taken_of_sent = front_length own.taken others.sent k.heard;
      sent_to_floor = omega (arith, within_floor me a b own others follow k);
      machine = machine_at me a b own others k;
      stands = at;
    }

pub two_ends : (a b : Party) → AllFollow a b → (two : Two) → Reached a b two →
    IsTold Caller a b two.caller_end two.called_end × IsTold Called a b two.called_end two.caller_end
two_ends a b follow two r =
    let k = both_keep a b follow two r in (
      told Caller a b two.caller_end two.called_end follow k.caller_keeps,
      told Called a b two.called_end two.caller_end follow k.called_keeps,
    )
