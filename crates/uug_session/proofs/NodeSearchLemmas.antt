-- What a node comes to by an offer and by a search.
use Rattle.std.proofs.Common.{◌≡◌, ℕ, ◌+◌, ◌-◌, ◌≤◌, Bool, List, [], ◌++◌, length, take, drop, refl, sym, ap, subst, ◌∙◌, append_assoc, arith}
use Rattle.std.proofs.lemmas.List.{append-nil, take_rest}
use Rattle.std.proofs.Math.Seq.{take-add}
use Rattle.uug_reader.specs.Cut.{Item}
use Rattle.uug_reader.specs.Reading.{Reading}
use Rattle.uug_reader.specs.Search.{Search, waiting, standing, search_of, left_by}
use Rattle.uug_session.specs.declared.end.End.TheVariants as ends
use Rattle.uug_session.specs.declared.greeting.Greeting.{Greeting}
use Rattle.uug_session.specs.Arriving.{all_taken, held_in, holds, takes_all, takes_piece, then_takes}
use Rattle.uug_session.specs.EndStep.{Stage, hailing, linked, ended, Emitted, Identity, long_text_found}
use Rattle.uug_session.specs.Engine.{EngineState, with_stage}
use Rattle.uug_session.specs.Finding.{finds_nothing, finds, text_finding, item_finding, finding, found_with, behind_long_text}
use Rattle.uug_conversation.specs.Holdings.{Kept, Holdings}
use Rattle.uug_session.specs.Node.{NodeState, accepted, accepted_at, bytes_at, held_bytes, item_size, offered_at, offered, struck_jobs, texts_searched, searched_at, searched}
use Rattle.uug_session.specs.NodeArriving.{NodeEnd, node_taker, hearer_of, GoesOn, TakesAll, IsAtRest}
use Rattle.uug_session.specs.TextsHeld.{TextsHeld, TextSearch, text_waits, text_stands, text_too_long, size_of_text, search_text}
use Rattle.uug_session.proofs.ArrivingLemmas.{held_same, same_with, same_found, nothing_again, found_nothing, found_event, in_pieces, found_more}
use Rattle.uug_session.proofs.PacketSearchLemmas.{Within, search_within, some_size, IsFoundAgain, search_again}
use Rattle.uug_session.proofs.CourseLemmas.{at, end_at, hearer_with, quiet, joined}
use Rattle.uug_session.proofs.OwnRequestLemmas.{takes_all_keeps}
use Rattle.uug_session.proofs.TextSearchLemmas.{finds_text}
use Rattle.uug_session.proofs.TextCallLemmas.{found_again}

-- no more is taken of a piece than it has
accepted_most_at : (s : Stage) (n : NodeState) (piece : List ℕ) → accepted_at s n piece ≤ length piece
accepted_most_at (hailing g) n piece = omega arith
accepted_most_at linked n piece = omega arith
accepted_most_at (ended how) n piece = omega arith

pub accepted_most : (n : NodeState) (piece : List ℕ) → accepted n piece ≤ length piece
accepted_most n piece = accepted_most_at n.engine.stage n piece

-- ---- an offer

offered_engine : (s : Stage) (bytes : List ℕ) (n : NodeState) → (offered_at s bytes n).engine ≡ n.engine
offered_engine (hailing g) bytes n = refl
offered_engine linked bytes n = refl
offered_engine (ended how) bytes n = refl

offered_held : (s : Stage) (bytes : List ℕ) (n : NodeState) → bytes_at s (offered_at s bytes n) ≡ held_in s (bytes_at s n ++ bytes)
offered_held (hailing g) bytes n = refl
offered_held linked bytes n = refl
offered_held (ended how) bytes n = refl

held_stays : (s : Stage) (n : NodeState) → held_in s (bytes_at s n) ≡ bytes_at s n
held_stays (hailing g) n = refl
held_stays linked n = refl
held_stays (ended how) n = refl

module _ (h : Holdings) where
  pub offers : (kept : List Kept) (failure : Type 0) (bytes : List ℕ) (n : NodeState) → GoesOn h kept kept failure bytes n (offered bytes n)
  offers kept failure bytes n =
      quiet h kept kept failure bytes n (offered bytes n) (ap (λ (e : EngineState). e.outbox.entries) engine) (ap (λ (e : EngineState). e.identity) engine) (ap (λ (e : EngineState). e.own) engine) (ap (λ (e : EngineState). e.dialogue.machine.lists.struck) engine) refl same where
        s : Stage
        s = n.engine.stage

        engine : (offered bytes n).engine ≡ n.engine
        engine = offered_engine s bytes n

        held : held_bytes (offered bytes n) ≡ held_in s (held_bytes n ++ bytes)
        held = ap (λ (e : EngineState). bytes_at e.stage (offered bytes n)) engine ∙ offered_held s bytes n

        same : (more : List ℕ) (said : List Emitted) (later : List Bool)
            → takes_piece (node_taker h n.engine.identity) (bytes ++ more) (hearer_of h kept said later n)
            ≡ takes_piece (node_taker h n.engine.identity) more (hearer_of h kept said later (offered bytes n))
        same more said later =
            let t = node_taker h n.engine.identity in
            let x : NodeEnd = end_at h kept said later n.engine in
            ap (λ (bs : List ℕ). takes_all t (holds t bs x)) (sym (append_assoc (held_bytes n) bytes more))
            ∙ ap (takes_all t) (held_same NodeEnd t (held_bytes n ++ bytes) more x)
            ∙ ap (λ (bs : List ℕ). takes_piece t more (hearer_with bs x)) (sym held)
            ∙ ap (λ (e : EngineState). takes_piece t more (hearer_with (held_bytes (offered bytes n)) (end_at h kept said later e))) (sym engine)

  -- more of a piece is taken
  pub offers_more : (kept kept_after : List Kept) (failure : Type 0) (piece : List ℕ) (used count : ℕ) (a b c : NodeState)
      → GoesOn h kept kept_after failure (take used piece) a b → c ≡ offered (take count (take (length piece - used) (drop used piece))) b
      → GoesOn h kept kept_after failure (take (used + count) piece) a c
  offers_more kept kept_after failure piece used count a b c first is =
      let next : c ≡ offered (take count (drop used piece)) b = is ∙ ap (λ (bs : List ℕ). offered (take count bs) b) (take_rest piece used) in
      subst (λ (bs : List ℕ). GoesOn h kept kept_after failure bs a c) (sym (take-add used count piece))
      (joined h kept kept_after kept_after failure (take used piece) (take count (drop used piece)) a b c first
      (subst (λ (n : NodeState). GoesOn h kept_after kept_after failure (take count (drop used piece)) b n) (sym next) (offers kept_after failure (take count (drop used piece)) b)))

  -- ---- a search

  shows_standing : (stream text others : List ℕ) → search_text stream ≡ text_stands text others → search_text others ≡ text_stands text others
  shows_standing stream text others e =
      let f = finds_text stream text others e in
      let held : TextsHeld = record { bytes = others; shown_size = size_of_text text } in
      subst (λ (z : List ℕ). search_text z ≡ text_stands text z) (append-nil others)
      (found_again text [] held (record { size = refl; within = f.within; first = f.stands }))

  found_at_text : (g : Greeting) (bytes text others : List ℕ) → search_text bytes ≡ text_stands text others → finding (hailing g) bytes ≡ finding (hailing g) others
  found_at_text g bytes text others e =
      ap (text_finding bytes) e ∙ sym (ap (text_finding others) (shows_standing bytes text others e))

  found_at_item : (bytes others : List ℕ) (item : Item) (size : ℕ) → search_of bytes ≡ standing item size others → finding linked bytes ≡ finding linked others
  found_at_item bytes others item size e =
      let there : search_of others ≡ standing item size others = subst IsFoundAgain e (search_again bytes) in
      ap item_finding e ∙ sym (ap item_finding there)

  too_long_ends : (g : Greeting) (e : EngineState) (texts : TextsHeld) (packets : Reading) (kept : List Kept) → search_text texts.bytes ≡ text_too_long
      → (more : List ℕ) (said : List Emitted) (later : List Bool)
      → takes_piece (node_taker h e.identity) more (hearer_of h kept said later (at (hailing g) e texts packets))
      ≡ takes_piece (node_taker h e.identity) more (hearer_of h kept said later (texts_searched text_too_long (at (hailing g) e texts packets)))
  too_long_ends g e texts packets kept is more said later =
      let t = node_taker h e.identity in
      let x : NodeEnd = end_at h kept said later (with_stage (hailing g) e) in
      let behind = behind_long_text _ texts.bytes in
      let there : finding (hailing g) (texts.bytes ++ more) ≡ finds long_text_found (behind ++ more) =
      found_more (hailing g) texts.bytes more ∙ ap (λ (r : TextSearch). found_with (hailing g) more (text_finding texts.bytes r)) is in
      found_event NodeEnd t (texts.bytes ++ more) (behind ++ more) long_text_found x there
      ∙ ap (λ (s : List Emitted). takes_all t (hearer_with [] (end_at h kept s later (with_stage (ended ends.BadTalk) e)))) (append-nil said)

  waits_same : (s : Stage) (bytes rest more : List ℕ) → finding s bytes ≡ finds_nothing rest → finding s (bytes ++ more) ≡ finding s (rest ++ more)
  waits_same s bytes rest more is = found_more s bytes more ∙ ap (found_with s more) is

  search_leads : (s : Stage) (e : EngineState) (texts : TextsHeld) (packets : Reading) (kept : List Kept) (more : List ℕ) (said : List Emitted) (later : List Bool)
      → takes_piece (node_taker h e.identity) more (hearer_of h kept said later (at s e texts packets))
      ≡ takes_piece (node_taker h e.identity) more (hearer_of h kept said later (searched (at s e texts packets)))
  search_leads (hailing g) e texts packets kept more said later = by_search (search_text texts.bytes) refl where
    n : NodeState
    n = at (hailing g) e texts packets

    x : NodeEnd
    x = end_at h kept said later n.engine

    by_search : (r : TextSearch) → search_text texts.bytes ≡ r
        → takes_piece (node_taker h e.identity) more (hearer_of h kept said later n)
        ≡ takes_piece (node_taker h e.identity) more (hearer_of h kept said later (texts_searched r n))
    by_search (text_waits rest) is =
        same_found NodeEnd (node_taker h e.identity) (texts.bytes ++ more) (rest ++ more) x
        (waits_same (hailing g) texts.bytes rest more (ap (text_finding texts.bytes) is))
    by_search (text_stands text others) is =
        same_found NodeEnd (node_taker h e.identity) (texts.bytes ++ more) (others ++ more) x
        (same_with (hailing g) texts.bytes others more (found_at_text g texts.bytes text others is))
    by_search text_too_long is = too_long_ends g e texts packets kept is more said later
  search_leads linked e texts packets kept more said later = by_search (search_of packets.bytes) refl where
    n : NodeState
    n = at linked e texts packets

    x : NodeEnd
    x = end_at h kept said later n.engine

    by_search : (r : Search) → search_of packets.bytes ≡ r
        → takes_piece (node_taker h e.identity) more (hearer_of h kept said later n)
        ≡ takes_piece (node_taker h e.identity) more (hearer_of h kept said later (record n { packets = left_by r }))
    by_search (waiting rest) is =
        same_found NodeEnd (node_taker h e.identity) (packets.bytes ++ more) (rest ++ more) x
        (waits_same linked packets.bytes rest more (ap item_finding is))
    by_search (standing item size others) is =
        same_found NodeEnd (node_taker h e.identity) (packets.bytes ++ more) (others ++ more) x
        (same_with linked packets.bytes others more (found_at_item packets.bytes others item size is))
  search_leads (ended how) e texts packets kept more said later = refl

  search_stays : (s : Stage) (n : NodeState) → ((searched_at s n).engine.outbox.entries ≡ n.engine.outbox.entries)
      × ((searched_at s n).engine.identity ≡ n.engine.identity) × ((searched_at s n).engine.own ≡ n.engine.own)
      × (struck_jobs (searched_at s n) ≡ struck_jobs n)
  search_stays (hailing g) n = by_search (search_text n.texts.bytes) where
    by_search : (r : TextSearch) → ((texts_searched r n).engine.outbox.entries ≡ n.engine.outbox.entries)
        × ((texts_searched r n).engine.identity ≡ n.engine.identity) × ((texts_searched r n).engine.own ≡ n.engine.own)
        × (struck_jobs (texts_searched r n) ≡ struck_jobs n)
    by_search (text_waits rest) = (refl, refl, refl, refl)
    by_search (text_stands text others) = (refl, refl, refl, refl)
    by_search text_too_long = (refl, refl, refl, refl)
  search_stays linked n = (refl, refl, refl, refl)
  search_stays (ended how) n = (refl, refl, refl, refl)

  pub searches : (kept : List Kept) (failure : Type 0) (n : NodeState) → GoesOn h kept kept failure [] n (searched n)
  searches kept failure n =
      let stay = search_stays n.engine.stage n in
      quiet h kept kept failure [] n (searched n) stay.0 stay.1 stay.2 stay.3 refl
      (λ more said later. search_leads n.engine.stage n.engine n.texts n.packets kept more said later)

  -- where no item is shown behind a search, nothing is found
  rests : (s : Stage) (e : EngineState) (texts : TextsHeld) (packets : Reading) → let n = searched (at s e texts packets) in item_size n ≡ 0 → IsAtRest n
  rests (hailing g) e texts packets = by_search (search_text texts.bytes) refl where
    n : NodeState
    n = at (hailing g) e texts packets

    by_search : (r : TextSearch) → search_text texts.bytes ≡ r → item_size (texts_searched r n) ≡ 0 → IsAtRest (texts_searched r n)
    by_search (text_waits rest) is none = nothing_again (hailing g) texts.bytes rest (ap (text_finding texts.bytes) is)
    by_search (text_stands text others) is none = absurd (omega (arith, none))
    by_search text_too_long is none = refl
  rests linked e texts packets = by_search (search_of packets.bytes) refl where
    n : NodeState
    n = at linked e texts packets

    by_search : (r : Search) → search_of packets.bytes ≡ r → item_size (record n { packets = left_by r }) ≡ 0 → IsAtRest (record n { packets = left_by r })
    by_search (waiting rest) is none = nothing_again linked packets.bytes rest (ap item_finding is)
    by_search (standing item size others) is none =
        let there : Within packets.bytes (standing item size others) = subst (Within packets.bytes) is (search_within packets.bytes) in
        absurd (let some = some_size item size there.0 in omega (arith, none))
  rests (ended how) e texts packets = λ none. refl

  pub searched_rests : (n : NodeState) → item_size (searched n) ≡ 0 → IsAtRest (searched n)
  searched_rests n none = rests n.engine.stage n.engine n.texts n.packets none

  -- a node at rest has taken up all
  at_rest : (kept : List Kept) (n : NodeState) → IsAtRest n → (id : Identity) (said : List Emitted) (later : List Bool)
      → takes_piece (node_taker h id) [] (hearer_of h kept said later n) ≡ all_taken (hearer_of h kept said later n)
  at_rest kept n rest id said later =
      let t = node_taker h id in
      let x : NodeEnd = end_at h kept said later n.engine in
      ap (λ (bs : List ℕ). takes_all t (holds t bs x)) (append-nil (held_bytes n))
      ∙ found_nothing NodeEnd t (held_bytes n) (held_bytes n) x rest
      ∙ ap (λ (bs : List ℕ). all_taken (hearer_with bs x)) (held_stays n.engine.stage n)

  pub takes_all_of : (kept kept_after : List Kept) (failure : Type 0) (bytes : List ℕ) (before after : NodeState)
      → GoesOn h kept kept_after failure bytes before after → IsAtRest after → TakesAll h kept kept_after failure bytes before after
  takes_all_of kept kept_after failure bytes before after g rest = record {
    course = g.course;
    taken = λ said later.
        ap (λ (bs : List ℕ). takes_piece (node_taker h before.engine.identity) bs (hearer_of h kept said (g.course.failures ++ later) before)) (sym (append-nil bytes))
        ∙ g.goes_on [] said later
        ∙ at_rest kept_after after rest before.engine.identity (said ++ g.course.emitted) later;
  }

  -- where all was taken up, more goes on from there
  pub goes_on_from : (kept kept_after : List Kept) (failure : Type 0) (bytes : List ℕ) (before after : NodeState)
      → TakesAll h kept kept_after failure bytes before after → GoesOn h kept kept_after failure bytes before after
  goes_on_from kept kept_after failure bytes before after all = record {
    course = all.course;
    goes_on = λ more said later.
        let t = node_taker h before.engine.identity in
        in_pieces NodeEnd t bytes more (hearer_of h kept said (all.course.failures ++ later) before)
        ∙ ap (then_takes t more) (all.taken said later);
    requests = takes_all_keeps h kept kept_after failure bytes before after all;
  }
