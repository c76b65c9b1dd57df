-- How a node greets to which bytes came from the start of a session on.
use Rattle.std.proofs.Common.{◌≡◌, ℕ, suc, Bool, List, [], ◌∷◌, ◌++◌, Option, length, map, refl, sym, ap, subst, ◌∙◌, append_assoc}
use Rattle.std.proofs.lemmas.List.{append-nil, map-append}
use Rattle.uug_link.specs.Announced.{Announced}
use Rattle.uug_link.specs.Entries.{EntryValue}
use Rattle.uug_link.specs.State.{State}
use Rattle.uug_link.specs.Step.{step, to_begin}
use Rattle.uug_session.specs.declared.end.End.{End}
use Rattle.uug_session.specs.declared.greeting.Greeted.{Greeted}
use Rattle.uug_session.specs.declared.greeting.Greeted.TheVariants.{GoesOn, LinkBegins, Ended}
use Rattle.uug_session.specs.declared.greeting.Greeting.{Greeting}
use Rattle.uug_session.specs.Arriving.{Arrival, Buffered, all_taken, held_in, holds, takes_all, takes_piece}
use Rattle.uug_session.specs.EndStep.{Stage, hailing, linked, Emitted, EndEffect, EndState, Identity, begins_link, begins_session, first_link, first_words, packets, says_text}
use Rattle.uug_session.specs.Engine.{end_of, entry_of}
use Rattle.uug_session.specs.Finding.{finding, finds_nothing, text_finding}
use Rattle.uug_conversation.specs.Holdings.{Holdings}
use Rattle.uug_session.specs.Node.{NodeState, bytes_at, held_bytes}
use Rattle.uug_session.specs.NodeArriving.{NodeEnd, hearer_of, node_taker}
use Rattle.uug_session.specs.NodeGreeting.{HasHeard, GreetsStill, HasEnded, HasBegunLink, at_link, come_to, on_link, talk_at_first}
use Rattle.uug_session.specs.Says.{entry_of_text}
use Rattle.uug_conversation.specs.DialogueState.{DialogueState}
use Rattle.uug_session.specs.TextsHeld.{TextsHeld}
use Rattle.uug_conversation.specs.declared.side.Side.{Side}
use Rattle.uug_conversation.specs.declared.side.Side.TheVariants.{Caller, Called}
use Rattle.uug_session.specs.WholeGreeting.{GreetingRun, Greets}
use Rattle.uug_session.proofs.ArrivingLemmas.{found_nothing}
use Rattle.uug_session.proofs.Greetings.BehindGreetingLemmas.{CameGreeted, CameWith, CameWithout, came_without, front_stays, HasGreeted, hails_not, stays_greeted, stays_with, with_front}
use Rattle.uug_session.proofs.CallLemmas.{begun_with}
use Rattle.uug_session.proofs.CourseLemmas.{hearer_with}
use Rattle.uug_session.proofs.Greetings.NodeGreetingLemmas.{ComesTo, Waits, from_start, node_by}
use Rattle.uug_session.proofs.NumberLemmas.{begun_number}

entries_said : (texts : List (List ℕ)) → map entry_of (map says_text texts) ≡ map entry_of_text texts
entries_said [] = refl
entries_said (text ∷ texts) = ap (λ (e : List EntryValue). entry_of_text text ∷ e) (entries_said texts)

-- behind some entries stand texts, the link's begin, and what followed
entries_behind : (entries : List EntryValue) (texts : List (List ℕ)) (begun later : List Emitted)
    → entries ++ map entry_of ((map says_text texts ++ begun) ++ later)
    ≡ entries ++ map entry_of_text texts ++ map entry_of begun ++ map entry_of later
entries_behind entries texts begun later =
    ap (λ (e : List EntryValue). entries ++ e) (map-append entry_of (map says_text texts ++ begun) later)
    ∙ ap (λ (e : List EntryValue). entries ++ (e ++ map entry_of later)) (map-append entry_of (map says_text texts) begun)
    ∙ ap (λ (e : List EntryValue). entries ++ ((e ++ map entry_of begun) ++ map entry_of later)) (entries_said texts)
    ∙ sym (append_assoc entries (map entry_of_text texts ++ map entry_of begun) (map entry_of later))
    ∙ ap (λ (e : List EntryValue). e ++ map entry_of later) (sym (append_assoc entries (map entry_of_text texts) (map entry_of begun)))

-- the link's begin stands behind the texts
link_in_front : (number : Option ℕ) (side : Side) (s : State) (c : DialogueState) (failures : List Bool) (said : List Emitted) → let e : EndEffect DialogueState = begins_link number side s c said in let alone : EndEffect DialogueState = begins_link number side s c [] in
    let x : NodeEnd = record { state = alone.state; emitted = []; failures = failures } in
    let y : NodeEnd = record { state = e.state; emitted = e.emitted; failures = failures } in
    with_front (said ++ alone.emitted) x ≡ y
link_in_front number Caller s c failures said =
    ap (λ (e : List Emitted). record { state = record { stage = linked; link = (step s to_begin).state; keeper = c; number = number }; emitted = e; failures = failures })
    (append-nil (said ++ packets (step s to_begin).emitted))
link_in_front number Called s c failures said =
    ap (λ (e : List Emitted). record { state = record { stage = linked; link = s; keeper = c; number = number }; emitted = e; failures = failures })
    (append-nil (said ++ []) ∙ append-nil said)

link_stage : (number : Option ℕ) (side : Side) (s : State) (c : DialogueState) → (begins_link number side s c []).state.stage ≡ linked
link_stage number Caller s c = refl
link_stage number Called s c = refl

module _ (h : Holdings) (id : Identity) (own : Announced) where
  pub whole : (number : Option ℕ) (talk : DialogueState) (failures : List Bool) (came behind : List ℕ) (run : GreetingRun) → Greets id.side id.me id.peer number came run behind
      → ComesTo h id (first_link id.side own) talk failures number came run behind
  whole number talk failures came behind run m = from_start h id (first_link id.side own) talk failures number came behind run m

  module _ (number : Option ℕ) (entries : List EntryValue) (came : List ℕ) (now : NodeState) (m : HasHeard h id own number entries came now) where
    abbrev c : DialogueState
    c = talk_at_first m

    abbrev s : State
    s = first_link id.side own

    abbrev failures : List Bool
    failures = m.takes.course.failures

    -- what the node has emitted since the session began
    abbrev emitted : List Emitted
    emitted = first_words id.side id.me ++ m.takes.course.emitted

    abbrev t_goes : List ℕ → NodeEnd → Arrival NodeEnd
    t_goes bytes x = takes_all (node_taker h id) (holds (node_taker h id) bytes x)

    start_is : end_of h m.kept m.start.engine ≡ (begins_session id own number c).state
    start_is = begun_with h m.kept id own number m.lists entries m.start.engine m.begins

    holds_none : held_bytes m.start ≡ []
    holds_none =
        ap (λ (stage : Stage). bytes_at stage m.start) (ap (λ (e : EndState DialogueState). e.stage) start_is)
        ∙ ap (λ (texts : TextsHeld). texts.bytes) m.held.texts

    heard : t_goes came (come_to (begins_session id own number c) failures) ≡ all_taken (hearer_of h m.kept_now emitted [] now)
    heard =
        ap (λ (e : EndState DialogueState). t_goes came (record { state = e; emitted = first_words id.side id.me; failures = failures })) (sym start_is)
        ∙ ap (λ (f : List Bool). t_goes came (record { state = end_of h m.kept m.start.engine; emitted = first_words id.side id.me; failures = f })) (sym (append-nil failures))
        ∙ ap (λ (held : List ℕ). t_goes (held ++ came) (record { state = end_of h m.kept m.start.engine; emitted = first_words id.side id.me; failures = failures ++ [] })) (sym holds_none)
        ∙ subst (λ (i : Identity). takes_piece (node_taker h i) came (hearer_of h m.kept (first_words id.side id.me) (failures ++ []) m.start) ≡ all_taken (hearer_of h m.kept_now emitted [] now))
        m.begins.identity (m.takes.taken (first_words id.side id.me) [])

    all_entries : now.engine.outbox.entries ≡ entries ++ map entry_of emitted
    all_entries =
        m.takes.course.entries
        ∙ ap (λ (e : List EntryValue). e ++ map entry_of m.takes.course.emitted) m.begins.emitted
        ∙ append_assoc entries (map entry_of (first_words id.side id.me)) (map entry_of m.takes.course.emitted)
        ∙ ap (λ (e : List EntryValue). entries ++ e) (sym (map-append entry_of (first_words id.side id.me) m.takes.course.emitted))

    texts_entries : (texts : List (List ℕ)) → map says_text texts ≡ emitted → now.engine.outbox.entries ≡ entries ++ map entry_of_text texts
    texts_entries texts is =
        all_entries ∙ ap (λ (e : List Emitted). entries ++ map entry_of e) (sym is) ∙ ap (λ (e : List EntryValue). entries ++ e) (entries_said texts)

    module _ (behind : List ℕ) (run : GreetingRun) (greets : Greets id.side id.me id.peer number came run behind) where
      comes : ComesTo h id s c failures number came run behind
      comes = whole number c failures came behind run greets

      leads : (greeted : Greeted) → run.greeted ≡ greeted → t_goes behind (node_by run.number id s c failures [] greeted run.says) ≡ all_taken (hearer_of h m.kept_now emitted [] now)
      leads greeted is =
          ap (λ (x : Greeted). t_goes behind (node_by run.number id s c failures [] x run.says)) (sym is) ∙ sym comes.same ∙ heard

      pub greets_still : (g : Greeting) → run.greeted ≡ GoesOn g → GreetsStill id own entries run.says run.number g behind now
      greets_still g is =
          let rest : Waits (GoesOn g) behind = subst (λ (x : Greeted). Waits x behind) is comes.waits in
          let found : finding (hailing g) behind ≡ finds_nothing rest.0 = ap (text_finding behind) rest.1 in
          let same : all_taken (hearer_with rest.0 (node_by run.number id s c failures [] (GoesOn g) run.says)) ≡ all_taken (hearer_of h m.kept_now emitted [] now) =
          sym (found_nothing NodeEnd (node_taker h id) behind rest.0 (node_by run.number id s c failures [] (GoesOn g) run.says) found) ∙ leads (GoesOn g) is in
          let hearer : hearer_with rest.0 (node_by run.number id s c failures [] (GoesOn g) run.says) ≡ hearer_of h m.kept_now emitted [] now = cc in
          record {
            stage = sym (ap (λ (z : Buffered NodeEnd). z.end.state.stage) hearer);
            keeps = sym (ap (λ (z : Buffered NodeEnd). z.end.state.number) hearer);
            says = texts_entries run.says (ap (λ (z : Buffered NodeEnd). z.end.emitted) hearer);
            link = sym (ap (λ (z : Buffered NodeEnd). z.end.state.link) hearer);
            waits = found ∙ ap (λ (z : Buffered NodeEnd). finds_nothing z.held) hearer;
          }

      pub has_ended : (how : End) → run.greeted ≡ Ended how → HasEnded entries run.says run.number how now
      has_ended how is =
          let same : all_taken (hearer_with [] (node_by run.number id s c failures [] (Ended how) run.says)) ≡ all_taken (hearer_of h m.kept_now emitted [] now) = leads (Ended how) is in
          let hearer : hearer_with [] (node_by run.number id s c failures [] (Ended how) run.says) ≡ hearer_of h m.kept_now emitted [] now = cc in
          record {
            stage = sym (ap (λ (z : Buffered NodeEnd). z.end.state.stage) hearer);
            keeps = sym (ap (λ (z : Buffered NodeEnd). z.end.state.number) hearer);
            says = texts_entries run.says (ap (λ (z : Buffered NodeEnd). z.end.emitted) hearer);
          }

      abbrev begun : EndEffect DialogueState
      begun = at_link id own run.number c

      without : run.greeted ≡ LinkBegins → CameWithout (map says_text run.says ++ begun.emitted) (t_goes behind (on_link id own run.number c failures)) (hearer_of h m.kept_now emitted [] now)
      without is =
          let x = on_link id own run.number c failures in
          let held = held_in x.state.stage behind in
          came_without (map says_text run.says ++ begun.emitted) (t_goes behind x) (hearer_of h m.kept_now emitted [] now)
          (sym (front_stays h id (suc (length held)) (map says_text run.says ++ begun.emitted) held x)
          ∙ ap (t_goes behind) (link_in_front run.number id.side s c failures (map says_text run.says))
          ∙ leads LinkBegins is)

      pub has_begun_link : run.greeted ≡ LinkBegins → HasBegunLink m run.says run.number behind
      has_begun_link is =
          let w = without is in
          let x = on_link id own run.number c failures in
          let held = held_in x.state.stage behind in
          record {
            stage = hails_not now.engine.stage
                (subst CameGreeted w.came_is
                (stays_greeted h id (suc (length held)) held x (subst HasGreeted (sym (link_stage run.number id.side s c)) tt)));
            keeps = subst (CameWith run.number) w.came_is
                (stays_with h id run.number (suc (length held)) held x (subst HasGreeted (sym (link_stage run.number id.side s c)) tt)
                (begun_number run.number id.side s c []));
            later = w.later;
            says = all_entries
                ∙ ap (λ (e : List Emitted). entries ++ map entry_of e) (sym w.emitted)
                ∙ entries_behind entries run.says begun.emitted w.later;
            takes = w.came_is;
          }
