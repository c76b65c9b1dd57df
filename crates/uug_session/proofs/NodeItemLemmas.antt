-- What a node comes to by an item that it takes up.
use Rattle.std.proofs.Common.{◌≡◌, ℕ, ◌<◌, ◌≤◌, Bool, true, false, List, [], ◌∷◌, ◌++◌, length, take, drop, All, Option, Some, None, MatchOption, Ok, refl, sym, ap, subst, ◌∙◌, arith, length-append, length-take}
use Rattle.std.proofs.lemmas.List.{append-nil, take-append-drop}
use Rattle.std.proofs.lemmas.List.Elements.{All-nil, All-cons}
use Rattle.std.specs.Option.{is_some}
use Rattle.uug_packet.specs.Decoded.{decoded}
use Rattle.uug_reader.specs.Cut.{Item, found, bad}
use Rattle.uug_reader.specs.Reading.{Reading}
use Rattle.uug_reader.specs.Search.{Search, waiting, standing, search_of, left_by}
use Rattle.uug_session.specs.declared.greeting.Greeting.{Greeting}
use Rattle.uug_session.specs.Arriving.{Receiver, held_in, holds, takes_all, takes_piece}
use Rattle.uug_session.specs.EndStep.{Stage, hailing, linked, ended, EndState, Emitted, EndEffect, text_found, packet_found_whole, broken_found}
use Rattle.uug_session.specs.Engine.{Does, EngineState, end_of, with_stage}
use Rattle.uug_session.specs.Finding.{Finding, finds, finds_packet, text_finding, item_finding, finding, found_with, LeavesFewer}
use Rattle.uug_conversation.specs.Holdings.{Kept, Holdings}
use Rattle.uug_session.specs.Node.{NodeState, ItemValue, text_item, packet_item, bad_item, ShowsItem, TakesItem, TakesShown, IsAsBefore, IsLeft, bytes_at, held_bytes, item_size, struck_jobs, texts_searched, searched, effect_of, event_of}
use Rattle.uug_session.specs.NodeArriving.{NodeEnd, with_effect, node_taker, GoesOn, IsAtRest}
use Rattle.uug_session.specs.NodeCalls.{ShowsWhatIsFound}
use Rattle.uug_conversation.specs.OwnRequests.{KeepsWhatItAskedFor}
use Rattle.uug_conversation.specs.DialogueState.{DialogueState, end_keeper}
use Rattle.uug_session.specs.TextsHeld.{TextsHeld, TextSearch, text_waits, text_stands, text_too_long, search_text, ShowsText}
use Rattle.uug_session.proofs.ArrivingLemmas.{held_fewer, held_same, found_event, found_packet, found_more, found_fewer}
use Rattle.uug_session.proofs.PacketSearchLemmas.{Within, search_within, IsFoundAgain, search_again, read_stands}
use Rattle.uug_session.proofs.CourseLemmas.{at, end_at, hearer_with, quiet, joined}
use Rattle.uug_session.proofs.OwnRequestLemmas.{event_keeps}
use Rattle.uug_session.proofs.NodeSearchLemmas.{searched_rests, searches}
use Rattle.uug_session.proofs.TextSearchLemmas.{finds_text}
use Rattle.uug_session.proofs.TextCallLemmas.{found_again}
use Rattle.uug_packet.proofs.DecodedLemmas.{decoded-spelling}
use Rattle.uug_session.proofs.Greetings.BehindGreetingLemmas.{HasGreeted, linked_greeted}

-- an answer that has nothing says what is so where there is nothing
pub none_shown : {X : Type 0} (o : Option X) (P : Type 0) (Q : X → Type 0) → is_some o ≡ false → MatchOption o P Q → P
none_shown None P Q none h = h
none_shown (Some x) P Q none h = absurd cc

-- ---- what a node comes to by what is found

left_text : (s : Stage) (n : NodeState) (behind : List ℕ) → n.texts.bytes ≡ behind → n.packets.bytes ≡ behind → bytes_at s n ≡ held_in s behind
left_text (hailing g) n behind texts packets = texts
left_text linked n behind texts packets = packets
left_text (ended how) n behind texts packets = refl

left_packets : (s : Stage) (n : NodeState) (behind : List ℕ) → HasGreeted s → n.packets.bytes ≡ behind → bytes_at s n ≡ held_in s behind
left_packets (hailing g) n behind past packets = absurd past
left_packets linked n behind past packets = packets
left_packets (ended how) n behind past packets = refl

-- what is found where this item is shown
abbrev shown_finding : ItemValue → TextsHeld → Reading → Finding
shown_finding (text_item text) texts packets = finds (text_found text) (drop texts.shown_size texts.bytes)
shown_finding (packet_item p) texts packets = finds_packet p packets.bytes (drop packets.shown_size packets.bytes)
shown_finding bad_item texts packets = finds broken_found (drop packets.shown_size packets.bytes)

abbrev behind_item : ItemValue → TextsHeld → Reading → List ℕ
behind_item (text_item text) texts packets = drop texts.shown_size texts.bytes
behind_item (packet_item p) texts packets = drop packets.shown_size packets.bytes
behind_item bad_item texts packets = drop packets.shown_size packets.bytes

same_bytes : (s : Stage) (n after : NodeState) → after.texts ≡ n.texts → after.packets ≡ n.packets → bytes_at s after ≡ bytes_at s n
same_bytes (hailing g) n after texts packets = ap (λ (r : TextsHeld). r.bytes) texts
same_bytes linked n after texts packets = ap (λ (r : Reading). r.bytes) packets
same_bytes (ended how) n after texts packets = refl

-- the answers of the device that the item uses up
abbrev failures_at : ItemValue → Bool → List Bool
failures_at (text_item text) failed = []
failures_at (packet_item p) failed = failed ∷ []
failures_at bad_item failed = []

if_failed : (failed : Bool) (counts : Bool → Type 0) (failure : Type 0) → (counts true → failure) → counts failed → failed ≡ true → failure
if_failed true counts failure told count is = told count
if_failed false counts failure told count is = absurd cc

counted_at : (item : ItemValue) (failed : Bool) (failure : Type 0) → (failed ≡ true → failure) → All (λ f. f ≡ true → failure) (failures_at item failed)
counted_at (text_item text) failed failure h = All-nil (λ f. f ≡ true → failure)
counted_at (packet_item p) failed failure h = All-cons (λ f. f ≡ true → failure) failed [] h (All-nil (λ f. f ≡ true → failure))
counted_at bad_item failed failure h = All-nil (λ f. f ≡ true → failure)

module _ (h : Holdings) where
  -- ---- an item is taken up

  found_text : (g : Greeting) (text : List ℕ) (texts : TextsHeld) (packets : Reading) → ShowsText text texts → finding (hailing g) texts.bytes ≡ shown_finding (text_item text) texts packets
  found_text g text texts packets shows =
      let there : search_text texts.bytes ≡ text_stands text texts.bytes =
      subst (λ (z : List ℕ). search_text z ≡ text_stands text z) (append-nil texts.bytes) (found_again text [] texts shows) in
      ap (text_finding texts.bytes) there ∙ ap (λ (k : ℕ). finds (text_found text) (drop k texts.bytes)) (sym shows.size)

  found_shown : (item : ItemValue) (there : Item) (texts : TextsHeld) (packets : Reading) → search_of packets.bytes ≡ standing there packets.shown_size packets.bytes
      → ShowsItem linked texts packets item → finding linked packets.bytes ≡ shown_finding item texts packets
  found_shown (text_item text) there texts packets is shows = absurd shows
  found_shown (packet_item p) there texts packets is shows =
      let size = packets.shown_size in
      let others = packets.bytes in
      let count : length (take size others) ≡ size = omega (arith, shows.0.1, length-take size others) in
      let read : decoded others ≡ Ok (p, size) =
      ap decoded (sym (take-append-drop size others)) ∙ decoded-spelling p (take size others) (drop size others) shows.0.0 ∙ ap (λ (k : ℕ). Ok (p, k)) count in
      ap item_finding (read_stands others p size (omega (arith, shows.0.1, shows.1)) read)
  found_shown bad_item bad texts packets is shows = ap item_finding is
  found_shown bad_item (found p) texts packets is shows =
      let within : Within packets.bytes (standing (found p) packets.shown_size packets.bytes) = subst (Within packets.bytes) is (search_within packets.bytes) in
      absurd (omega (arith, within.0, shows.0.1))

  -- the item that is shown is what is found
  shown_is_found : (s : Stage) (e : EngineState) (texts : TextsHeld) (packets : Reading) (item : ItemValue) → (s ≡ linked → ShowsWhatIsFound (at s e texts packets))
      → ShowsItem s texts packets item → finding s (bytes_at s (at s e texts packets)) ≡ shown_finding item texts packets
  shown_is_found (hailing g) e texts packets (text_item text) sound shows = found_text g text texts packets shows
  shown_is_found (hailing g) e texts packets (packet_item p) sound shows = absurd shows
  shown_is_found (hailing g) e texts packets bad_item sound shows = absurd shows
  shown_is_found linked e texts packets (text_item text) sound shows = absurd shows
  shown_is_found linked e texts packets (packet_item p) sound shows = let there = sound refl shows.1 in found_shown (packet_item p) there.0 texts packets there.1 shows
  shown_is_found linked e texts packets bad_item sound shows = let there = sound refl shows.1 in found_shown bad_item there.0 texts packets there.1 shows
  shown_is_found (ended how) e texts packets item sound shows = absurd shows

  -- what a node comes to behind an item
  comes_to : (t : Receiver NodeEnd) (bytes behind more : List ℕ) (x y z : NodeEnd) (after : List ℕ)
      → takes_all t (holds t (bytes ++ more) x) ≡ takes_all t (holds t (behind ++ more) y) → z ≡ y → after ≡ held_in (t.stage_of z) behind
      → takes_piece t more (hearer_with bytes x) ≡ takes_piece t more (hearer_with after z)
  comes_to t bytes behind more x y z after leads same left =
      leads
      ∙ ap (λ (w : NodeEnd). takes_all t (holds t (behind ++ more) w)) (sym same)
      ∙ ap (takes_all t) (held_same NodeEnd t behind more z)
      ∙ ap (λ (bs : List ℕ). takes_piece t more (hearer_with bs z)) (sym left)

  left_behind : (s : Stage) (e : EngineState) (texts : TextsHeld) (packets : Reading) (item : ItemValue) (kept kept_after : List Kept) (failed : Bool) (after : NodeState)
      → ShowsItem s texts packets item → IsLeft item (at s e texts packets) after
      → Does (effect_of h kept (event_of failed item) (with_stage s e)) (end_of h kept_after after.engine) (with_stage s e) after.engine
      → held_bytes after ≡ held_in after.engine.stage (behind_item item texts packets)
  left_behind (hailing g) e texts packets (text_item text) kept kept_after failed after shows left does =
      left_text after.engine.stage after (drop texts.shown_size texts.bytes) (ap (λ (r : TextsHeld). r.bytes) left.0) (ap (λ (r : Reading). r.bytes) left.1)
  left_behind (hailing g) e texts packets (packet_item p) kept kept_after failed after shows left does = absurd shows
  left_behind (hailing g) e texts packets bad_item kept kept_after failed after shows left does = absurd shows
  left_behind linked e texts packets (text_item text) kept kept_after failed after shows left does = absurd shows
  left_behind linked e texts packets (packet_item p) kept kept_after failed after shows left does =
      left_packets after.engine.stage after (drop packets.shown_size packets.bytes)
      (subst HasGreeted (sym (ap (λ (x : EndState DialogueState). x.stage) does.end))
      (linked_greeted (end_keeper e.identity.side h) e.identity (packet_found_whole failed p) (end_of h kept (with_stage linked e)) tt))
      (ap (λ (r : Reading). r.bytes) left)
  left_behind linked e texts packets bad_item kept kept_after failed after shows left does =
      left_packets after.engine.stage after (drop packets.shown_size packets.bytes)
      (subst HasGreeted (sym (ap (λ (x : EndState DialogueState). x.stage) does.end))
      (linked_greeted (end_keeper e.identity.side h) e.identity broken_found (end_of h kept (with_stage linked e)) tt))
      (ap (λ (r : Reading). r.bytes) left)
  left_behind (ended how) e texts packets item kept kept_after failed after shows left does = absurd shows

  -- the step of the item leads there
  leads_behind : (s : Stage) (e : EngineState) (texts : TextsHeld) (packets : Reading) (item : ItemValue) (kept : List Kept) (failed : Bool)
      → finding s (bytes_at s (at s e texts packets)) ≡ shown_finding item texts packets → ShowsItem s texts packets item
      → (more : List ℕ) (said : List Emitted) (later : List Bool) → let t = node_taker h e.identity in let x = end_at h kept said (failures_at item failed ++ later) (with_stage s e) in
      takes_all t (holds t (bytes_at s (at s e texts packets) ++ more) x)
      ≡ takes_all t (holds t (behind_item item texts packets ++ more) (with_effect (effect_of h kept (event_of failed item) (with_stage s e)) later x))
  leads_behind (hailing g) e texts packets (text_item text) kept failed is shows more said later =
      let behind = drop texts.shown_size texts.bytes in
      found_event NodeEnd (node_taker h e.identity) (texts.bytes ++ more) (behind ++ more) (text_found text) (end_at h kept said later (with_stage (hailing g) e))
      (found_more (hailing g) texts.bytes more ∙ ap (found_with (hailing g) more) is)
  leads_behind (hailing g) e texts packets (packet_item p) kept failed is shows more said later = absurd shows
  leads_behind (hailing g) e texts packets bad_item kept failed is shows more said later = absurd shows
  leads_behind linked e texts packets (text_item text) kept failed is shows more said later = absurd shows
  leads_behind linked e texts packets (packet_item p) kept failed is shows more said later =
      let behind = drop packets.shown_size packets.bytes in
      let x : NodeEnd = end_at h kept said (failed ∷ later) (with_stage linked e) in
      found_packet NodeEnd (node_taker h e.identity) (packets.bytes ++ more) (packets.bytes ++ more) (behind ++ more) p x
      (with_effect (effect_of h kept (packet_found_whole failed p) (with_stage linked e)) later x)
      (found_more linked packets.bytes more ∙ ap (found_with linked more) is) refl
  leads_behind linked e texts packets bad_item kept failed is shows more said later =
      let behind = drop packets.shown_size packets.bytes in
      found_event NodeEnd (node_taker h e.identity) (packets.bytes ++ more) (behind ++ more) broken_found (end_at h kept said later (with_stage linked e))
      (found_more linked packets.bytes more ∙ ap (found_with linked more) is)
  leads_behind (ended how) e texts packets item kept failed is shows more said later = absurd shows

  takes_at : (s : Stage) (e : EngineState) (texts : TextsHeld) (packets : Reading) (item : ItemValue) (kept kept_after : List Kept) (counts : Bool → Type 0) (failure : Type 0) (after : NodeState) (took : Bool) → (counts true → failure)
      → finding s (bytes_at s (at s e texts packets)) ≡ shown_finding item texts packets → ShowsItem s texts packets item
      → TakesItem h kept kept_after counts item (at s e texts packets) after took → GoesOn h kept kept_after failure [] (at s e texts packets) after
  takes_at s e texts packets item kept kept_after counts failure after took told is shows did = record {
    course = record {
      emitted = effect.emitted;
      failures = failures_at item did.device_failed;
      counted = counted_at item did.device_failed failure (if_failed did.device_failed counts failure told did.device);
      entries = did.does.emitted;
      identity = did.does.identity;
      own = did.does.own;
    };
    goes_on = λ more said later.
        comes_to (node_taker h e.identity) (bytes_at s n) (behind_item item texts packets) more
        (end_at h kept said (failures_at item did.device_failed ++ later) n.engine)
        (with_effect effect later (end_at h kept said (failures_at item did.device_failed ++ later) n.engine))
        (end_at h kept_after (said ++ effect.emitted) later after.engine) (held_bytes after)
        (leads_behind s e texts packets item kept did.device_failed is shows more said later)
        (ap (λ (x : EndState DialogueState). record { state = x; emitted = said ++ effect.emitted; failures = later }) did.does.end)
        (left_behind s e texts packets item kept kept_after did.device_failed after shows did.left did.does);
    requests = subst (λ (x : EndState DialogueState). KeepsWhatItAskedFor h (struck_jobs n) x.keeper.machine.lists.struck kept x.keeper.kept)
        (sym did.does.end) (event_keeps h kept (event_of did.device_failed item) n.engine);
  } where
    n : NodeState
    n = at s e texts packets

    effect : EndEffect DialogueState
    effect = effect_of h kept (event_of did.device_failed item) n.engine

  behind_fewer : (item : ItemValue) (bytes : List ℕ) (texts : TextsHeld) (packets : Reading) → LeavesFewer (shown_finding item texts packets) bytes → length (behind_item item texts packets) < length bytes
  behind_fewer (text_item text) bytes texts packets fewer = fewer
  behind_fewer (packet_item p) bytes texts packets fewer = fewer.1
  behind_fewer bad_item bytes texts packets fewer = fewer

  fewer_at : (s : Stage) (e : EngineState) (texts : TextsHeld) (packets : Reading) (item : ItemValue) (kept kept_after : List Kept) (counts : Bool → Type 0) (after : NodeState) (took : Bool)
      → finding s (bytes_at s (at s e texts packets)) ≡ shown_finding item texts packets → ShowsItem s texts packets item
      → TakesItem h kept kept_after counts item (at s e texts packets) after took → length (held_bytes after) < length (bytes_at s (at s e texts packets))
  fewer_at s e texts packets item kept kept_after counts after took is shows did =
      let bytes = bytes_at s (at s e texts packets) in
      let behind = behind_item item texts packets in
      let left : held_bytes after ≡ held_in after.engine.stage behind = left_behind s e texts packets item kept kept_after did.device_failed after shows did.left did.does in
      let fewer : length behind < length bytes = behind_fewer item bytes texts packets (subst (λ (f : Finding). LeavesFewer f bytes) is (found_fewer s bytes)) in
      let count : length (held_bytes after) ≡ length (held_in after.engine.stage behind) = ap length left in
      let most : length (held_in after.engine.stage behind) ≤ length behind = held_fewer after.engine.stage behind in
      omega arith

  -- the item that is shown is taken up
  pub takes_shown : (n after : NodeState) (kept kept_after : List Kept) (counts : Bool → Type 0) (failure : Type 0) → (counts true → failure) → (took : Bool) → (n.engine.stage ≡ linked → ShowsWhatIsFound n)
      → TakesShown h kept kept_after counts n after took → GoesOn h kept kept_after failure [] n after × (length (held_bytes after) < length (held_bytes n))
  takes_shown n after kept kept_after counts failure told took sound shown =
      let is = shown_is_found n.engine.stage n.engine n.texts n.packets shown.0 sound shown.1 in (
        takes_at n.engine.stage n.engine n.texts n.packets shown.0 kept kept_after counts failure after took told is shown.1 shown.2,
        fewer_at n.engine.stage n.engine n.texts n.packets shown.0 kept kept_after counts after took is shown.1 shown.2,
      )

  -- ---- memory is refused

  pub refused : (n after : NodeState) (kept kept_after : List Kept) (failure : Type 0) → IsAsBefore h kept kept_after n after → GoesOn h kept kept_after failure [] n after
  refused n after kept kept_after failure same =
      quiet h kept kept_after failure [] n after (same.does.emitted ∙ append-nil n.engine.outbox.entries) same.does.identity same.does.own
      (ap (λ (x : EndState DialogueState). x.keeper.machine.lists.struck) same.does.end) (ap (λ (x : EndState DialogueState). x.keeper.kept) same.does.end)
      (λ more said later.
      ap (λ (bs : List ℕ). takes_piece (node_taker h n.engine.identity) more (hearer_with bs (end_at h kept said later n.engine))) (sym held)
      ∙ ap (λ (x : EndState DialogueState). takes_piece (node_taker h n.engine.identity) more (hearer_with (held_bytes after) (record { state = x; emitted = said; failures = later }))) (sym same.does.end)) where
        stage : after.engine.stage ≡ n.engine.stage
        stage = ap (λ (x : EndState DialogueState). x.stage) same.does.end

        held : held_bytes after ≡ held_bytes n
        held = ap (λ (s : Stage). bytes_at s after) stage ∙ same_bytes n.engine.stage n after same.texts same.packets

  -- ---- the next item, behind a search

  searched_fewer_at : (s : Stage) (e : EngineState) (texts : TextsHeld) (packets : Reading) → let n = at s e texts packets in length (held_bytes (searched n)) ≤ length (bytes_at s n)
  searched_fewer_at (hailing g) e texts packets = by_search (search_text texts.bytes) refl where
    by_search : (r : TextSearch) → search_text texts.bytes ≡ r → length (held_bytes (texts_searched r (at (hailing g) e texts packets))) ≤ length texts.bytes
    by_search (text_waits rest) is = subst (λ (f : Finding). LeavesFewer f texts.bytes) (ap (text_finding texts.bytes) is) (found_fewer (hailing g) texts.bytes)
    by_search (text_stands text others) is =
        let f = finds_text texts.bytes text others is in
        omega (arith, ap length f.spelled, length-append f.passed others)
    by_search text_too_long is = omega arith
  searched_fewer_at linked e texts packets = by_search (search_of packets.bytes) (search_within packets.bytes) where
    by_search : (r : Search) → Within packets.bytes r → length (left_by r).bytes ≤ length packets.bytes
    by_search (waiting rest) fewer = fewer
    by_search (standing item size others) fewer = fewer.2
  searched_fewer_at (ended how) e texts packets = omega arith

  pub searched_shows_at : (s : Stage) (e : EngineState) (texts : TextsHeld) (packets : Reading) → let n = searched (at s e texts packets) in n.engine.stage ≡ linked → ShowsWhatIsFound n
  searched_shows_at (hailing g) e texts packets = by_search (search_text texts.bytes) where
    by_search : (r : TextSearch) → let n = texts_searched r (at (hailing g) e texts packets) in n.engine.stage ≡ linked → ShowsWhatIsFound n
    by_search (text_waits rest) is = absurd cc
    by_search (text_stands text others) is = absurd cc
    by_search text_too_long is = absurd cc
  searched_shows_at linked e texts packets = by_search (search_of packets.bytes) (search_again packets.bytes) where
    by_search : (r : Search) → IsFoundAgain r → linked ≡ linked → ShowsWhatIsFound (record { engine = with_stage linked e; texts = texts; packets = left_by r })
    by_search (waiting rest) again is some = absurd (omega (arith, some))
    by_search (standing item size others) again is some = (item, again)
  searched_shows_at (ended how) e texts packets = λ is. absurd cc

  searched_shows : (n : NodeState) → (searched n).engine.stage ≡ linked → ShowsWhatIsFound (searched n)
  searched_shows n = searched_shows_at n.engine.stage n.engine n.texts n.packets

  searched_fewer : (n : NodeState) → length (held_bytes (searched n)) ≤ length (held_bytes n)
  searched_fewer n = searched_fewer_at n.engine.stage n.engine n.texts n.packets

  pub searches_to : (kept kept_after : List Kept) (failure : Type 0) (n m : NodeState) → m ≡ searched n → kept_after ≡ kept → GoesOn h kept kept_after failure [] n m
  searches_to kept kept_after failure n m is same =
      subst (λ (k : List Kept). GoesOn h kept k failure [] n m) (sym same) (subst (λ (z : NodeState). GoesOn h kept kept failure [] n z) (sym is) (searches h kept failure n))

  pub rests_behind : (n m : NodeState) → m ≡ searched n → item_size m ≡ 0 → IsAtRest m
  rests_behind n m is none =
      subst IsAtRest (sym is) (searched_rests h n (subst (λ (z : NodeState). item_size z ≡ 0) is none))

  pub takes_next : (kept kept_after : List Kept) (counts : Bool → Type 0) (failure : Type 0) → (counts true → failure) → (n m after : NodeState) (took : Bool) → m ≡ searched n
      → TakesShown h kept kept_after counts m after took → GoesOn h kept kept_after failure [] n after × (length (held_bytes after) < length (held_bytes n))
  takes_next kept kept_after counts failure told n m after took is shown =
      let both = takes_shown (searched n) after kept kept_after counts failure told took (searched_shows n)
      (subst (λ (z : NodeState). TakesShown h kept kept_after counts z after took) is shown) in (
        joined h kept kept kept_after failure [] [] n (searched n) after (searches h kept failure n) both.0,
        let fewer = searched_fewer n in omega (arith, both.1),
      )

  pub refuses_next : (kept kept_after : List Kept) (failure : Type 0) (n m after : NodeState) → m ≡ searched n
      → IsAsBefore h kept kept_after m after → GoesOn h kept kept_after failure [] n after
  refuses_next kept kept_after failure n m after is same =
      joined h kept kept kept_after failure [] [] n m after (searches_to kept kept failure n m is refl) (refused m after kept kept_after failure same)
