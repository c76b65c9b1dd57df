-- What a node shows as its next item is what is found next in the bytes that it holds.
use Rattle.std.proofs.Common.{◌≡◌, ℕ, ◌≤◌, List, length, take, drop, Ok, ap, sym, subst, ◌∙◌, refl, arith, length-take}
use Rattle.std.proofs.lemmas.List.{take-append-drop}
use Rattle.uug_packet.specs.Decoded.{decoded}
use Rattle.uug_packet.specs.Packet.{PacketValue}
use Rattle.uug_packet.specs.Spelling.{IsSpelling}
use Rattle.uug_reader.specs.Cut.{found, bad}
use Rattle.uug_reader.specs.Reading.{Reading, Shows}
use Rattle.uug_reader.specs.Search.{Search, waiting, standing, after_search, left_by, search_of}
use Rattle.uug_talk.specs.Texts.{Passing}
use Rattle.uug_session.specs.declared.end.End.{End}
use Rattle.uug_session.specs.declared.end.End.TheVariants as ends
use Rattle.uug_session.specs.declared.greeting.Greeting.{Greeting}
use Rattle.uug_session.specs.EndStep.{Stage, hailing, linked, ended, text_found}
use Rattle.uug_session.specs.Engine.{EngineState}
use Rattle.uug_session.specs.Finding.{Finding, behind_long_text, finding, finds, finds_nothing, finds_packet, item_finding, text_finding}
use Rattle.uug_session.specs.Node.{ItemValue, NodeState, ShowsItem, bad_item, bytes_at, item_size, packet_item, searched, searched_at, shown_size_at, text_item, texts_searched}
use Rattle.uug_session.specs.ShownItems.{IsShown, ItemFound, NothingFound, finding_of, is_too_long, waits}
use Rattle.uug_session.specs.TextsHeld.{ShowsText, TextSearch, TextsHeld, after_text_search, search_text, size_of_text, text_stands, text_too_long, text_waits}
use Rattle.uug_session.proofs.PacketSearchLemmas.{IsFoundAgain, Within, read_stands, search_again, search_within, some_size}
use Rattle.uug_session.proofs.TextSearchLemmas.{finds_text}
use Rattle.uug_session.proofs.TextCallLemmas.{shows_shown}
use Rattle.uug_packet.proofs.DecodedLemmas.{decoded-spelling}

-- ---- the item that is shown

read_front : (p : PacketValue) (n : ℕ) (s : List ℕ) → IsSpelling p (take n s) → n ≤ length s → decoded s ≡ Ok (p, n)
read_front p n s spelled there =
    let count : length (take n s) ≡ n = omega (arith, there, length-take n s) in
    ap decoded (sym (take-append-drop n s)) ∙ decoded-spelling p (take n s) (drop n s) spelled ∙ ap (λ (k : ℕ). Ok (p, k)) count

abbrev ItemShown : ItemValue → Reading → Type 0
ItemShown (text_item text) r = ⊥
ItemShown (packet_item p) r = Shows (found p) r
ItemShown bad_item r = Shows bad r

item_is : (item : ItemValue) (s : List ℕ) (x : Search) → Within s x → IsFoundAgain x → ItemShown item (left_by x)
    → item_finding x ≡ finding_of item (left_by x).bytes (drop (left_by x).shown_size (left_by x).bytes)
item_is (text_item text) s x within again shown = absurd shown
item_is (packet_item p) s (waiting rest) within again shown = absurd (omega (arith, shown.1))
item_is bad_item s (waiting rest) within again shown = absurd (omega (arith, shown.1))
item_is (packet_item p) s (standing item size others) within again shown =
    let read : decoded others ≡ Ok (p, size) = read_front p size others shown.0.0 shown.0.1 in
    ap item_finding (sym again ∙ read_stands others p size (omega (arith, shown.0.1, shown.1)) read)
item_is bad_item s (standing (found q) size others) within again shown = absurd (omega (arith, within.0, shown.0.1))
item_is bad_item s (standing bad size others) within again shown = refl

-- ---- the text that is shown

text_is : (text stream : List ℕ) (x : TextSearch) → search_text stream ≡ x → ShowsText text (after_text_search x)
    → text_finding stream x ≡ finds (text_found text) (drop (after_text_search x).shown_size (after_text_search x).bytes)
text_is text stream (text_waits rest) is shows = absurd (omega (arith, shows.size))
text_is text stream text_too_long is shows = absurd (omega (arith, shows.size))
text_is text stream (text_stands first others) is shows =
    let held : TextsHeld = record { bytes = others; shown_size = size_of_text first } in
    let f = finds_text stream first others is in
    let first_shows : ShowsText first held = record { size = refl; within = f.within; first = f.stands } in
    ap (λ (t : List ℕ). finds (text_found t) (drop (size_of_text first) others))
    (shows_shown first held first_shows ∙ sym (shows_shown text held shows))

-- ---- at each stage

pub none_at_end : (how : End) (texts : TextsHeld) (packets : Reading) (item : ItemValue) → ShowsItem (ended how) texts packets item → ⊥
none_at_end how texts packets (text_item text) shows = shows
none_at_end how texts packets (packet_item p) shows = shows
none_at_end how texts packets bad_item shows = shows

-- of parts that are given
found_with_parts : (stage : Stage) (item : ItemValue) (before after : NodeState) → before.engine.stage ≡ stage → after.engine ≡ before.engine
    → finding stage (bytes_at stage before) ≡ finding_of item (bytes_at stage after) (drop (shown_size_at stage after) (bytes_at stage after))
    → ItemFound item before after
found_with_parts stage item before after is engine found_so =
    let at_after : after.engine.stage ≡ stage = ap (λ (e : EngineState). e.stage) engine ∙ is in
    let of_stages : Stage → Stage → Type 0 =
    λ x y. finding x (bytes_at x before) ≡ finding_of item (bytes_at y after) (drop (shown_size_at y after) (bytes_at y after)) in
    record {
      engine = engine;
      finding = subst (λ (x : Stage). of_stages x after.engine.stage) (sym is) (subst (λ (y : Stage). of_stages stage y) (sym at_after) found_so);
    }

text_found_at : (g : Greeting) (n : NodeState) (x : TextSearch) (item : ItemValue) → n.engine.stage ≡ hailing g
    → search_text n.texts.bytes ≡ x
    → ShowsItem (texts_searched x n).engine.stage (texts_searched x n).texts (texts_searched x n).packets item
    → ItemFound item n (texts_searched x n)
text_found_at g n text_too_long item is found_so shows = absurd (none_at_end ends.BadTalk (after_text_search text_too_long) n.packets item shows)
text_found_at g n (text_waits rest) item is found_so shows =
    waits_at item (subst (λ (s : Stage). ShowsItem s (after_text_search (text_waits rest)) n.packets item) is shows) where
      waits_at : (i : ItemValue) → ShowsItem (hailing g) (after_text_search (text_waits rest)) n.packets i → ItemFound item n (texts_searched (text_waits rest) n)
      waits_at (text_item text) shown = absurd (omega (arith, shown.size))
      waits_at (packet_item p) shown = absurd shown
      waits_at bad_item shown = absurd shown
text_found_at g n (text_stands first others) item is found_so shows =
    stands_at item (subst (λ (s : Stage). ShowsItem s (after_text_search (text_stands first others)) n.packets item) is shows) where
      stands_at : (i : ItemValue) → ShowsItem (hailing g) (after_text_search (text_stands first others)) n.packets i
          → ItemFound i n (texts_searched (text_stands first others) n)
      stands_at (text_item text) shown =
          found_with_parts (hailing g) (text_item text) n (texts_searched (text_stands first others) n) is refl
          (ap (text_finding n.texts.bytes) found_so ∙ text_is text n.texts.bytes (text_stands first others) found_so shown)
      stands_at (packet_item p) shown = absurd shown
      stands_at bad_item shown = absurd shown

packet_found_at : (n : NodeState) (item : ItemValue) → n.engine.stage ≡ linked
    → ShowsItem linked n.texts (after_search n.packets.bytes) item → ItemFound item n (searched_at linked n)
packet_found_at n (text_item text) is shows = absurd shows
packet_found_at n (packet_item p) is shows =
    found_with_parts linked (packet_item p) n (searched_at linked n) is refl
    (item_is (packet_item p) n.packets.bytes (search_of n.packets.bytes) (search_within n.packets.bytes) (search_again n.packets.bytes) shows)
packet_found_at n bad_item is shows =
    found_with_parts linked bad_item n (searched_at linked n) is refl
    (item_is bad_item n.packets.bytes (search_of n.packets.bytes) (search_within n.packets.bytes) (search_again n.packets.bytes) shows)

item_found_at : (stage : Stage) (n : NodeState) (item : ItemValue) → n.engine.stage ≡ stage
    → ShowsItem (searched_at stage n).engine.stage (searched_at stage n).texts (searched_at stage n).packets item
    → ItemFound item n (searched_at stage n)
item_found_at (hailing g) n item is shows = text_found_at g n (search_text n.texts.bytes) item is refl shows
item_found_at linked n item is shows =
    packet_found_at n item is (subst (λ (s : Stage). ShowsItem s n.texts (after_search n.packets.bytes) item) is shows)
item_found_at (ended how) n item is shows =
    absurd (none_at_end how n.texts n.packets item (subst (λ (s : Stage). ShowsItem s n.texts n.packets item) is shows))

pub item_found : (n : NodeState) (item : ItemValue)
    → IsShown item (searched n) → ItemFound item n (searched n)
item_found n item shows = item_found_at n.engine.stage n item refl shows

-- ---- nothing is shown

waits_with_parts : (stage : Stage) (before after : NodeState) → before.engine.stage ≡ stage → after.engine ≡ before.engine
    → finding stage (bytes_at stage before) ≡ finds_nothing (bytes_at stage after) → NothingFound before after
waits_with_parts stage before after is engine found_so =
    let at_after : after.engine.stage ≡ stage = ap (λ (e : EngineState). e.stage) engine ∙ is in
    let of_stages : Stage → Stage → Type 0 = λ x y. finding x (bytes_at x before) ≡ finds_nothing (bytes_at y after) in
    waits engine (subst (λ (x : Stage). of_stages x after.engine.stage) (sym is) (subst (λ (y : Stage). of_stages stage y) (sym at_after) found_so))

no_text_at : (g : Greeting) (n : NodeState) (x : TextSearch) → n.engine.stage ≡ hailing g → search_text n.texts.bytes ≡ x
    → shown_size_at (texts_searched x n).engine.stage (texts_searched x n) ≡ 0 → NothingFound n (texts_searched x n)
no_text_at g n (text_waits rest) is found_so none =
    waits_with_parts (hailing g) n (texts_searched (text_waits rest) n) is refl (ap (text_finding n.texts.bytes) found_so)
no_text_at g n (text_stands first others) is found_so none =
    let size : size_of_text first ≡ 0 =
    ap (λ (s : Stage). shown_size_at s (texts_searched (text_stands first others) n)) (sym is) ∙ none in
    absurd (omega (arith, size))
no_text_at g n text_too_long is found_so none =
    is_too_long g (behind_long_text Passing n.texts.bytes) is
    (ap (λ (s : Stage). finding s (bytes_at s n)) is ∙ ap (text_finding n.texts.bytes) found_so) refl

no_packet_at : (n : NodeState) (x : Search) → n.engine.stage ≡ linked → search_of n.packets.bytes ≡ x → Within n.packets.bytes x
    → (left_by x).shown_size ≡ 0 → NothingFound n (record n { packets = left_by x })
no_packet_at n (waiting rest) is found_so within none =
    waits_with_parts linked n (record n { packets = left_by (waiting rest) }) is refl (ap item_finding found_so)
no_packet_at n (standing item size others) is found_so within none = absurd (omega (arith, some_size item size within.0, none))

nothing_found_at : (stage : Stage) (n : NodeState) → n.engine.stage ≡ stage
    → shown_size_at (searched_at stage n).engine.stage (searched_at stage n) ≡ 0 → NothingFound n (searched_at stage n)
nothing_found_at (hailing g) n is none = no_text_at g n (search_text n.texts.bytes) is refl none
nothing_found_at linked n is none =
    no_packet_at n (search_of n.packets.bytes) is refl (search_within n.packets.bytes)
    (ap (λ (s : Stage). shown_size_at s (searched_at linked n)) (sym is) ∙ none)
nothing_found_at (ended how) n is none =
    waits_with_parts (ended how) n n is refl refl

pub nothing_found : (n : NodeState) → item_size (searched n) ≡ 0 → NothingFound n (searched n)
nothing_found n none = nothing_found_at n.engine.stage n refl none

-- ---- one item is shown at a time

item_in : Finding → ItemValue
item_in (finds (text_found text) behind) = text_item text
item_in (finds_packet p from behind) = packet_item p
item_in _ = bad_item

item_of_finding : (item : ItemValue) (from behind : List ℕ) → item_in (finding_of item from behind) ≡ item
unfolding item_in
item_of_finding (text_item text) from behind = refl
item_of_finding (packet_item p) from behind = refl
item_of_finding bad_item from behind = refl

same_item : (item other : ItemValue) (from behind : List ℕ) → finding_of item from behind ≡ finding_of other from behind → item ≡ other
same_item item other from behind same =
    sym (item_of_finding item from behind) ∙ ap item_in same ∙ item_of_finding other from behind

pub one_item : (n : NodeState) (item other : ItemValue)
    → IsShown item (searched n) → IsShown other (searched n) → item ≡ other
one_item n item other shows also =
    let a = item_found n item shows in
    let b = item_found n other also in
    same_item item other _ _ (sym a.finding ∙ b.finding)
