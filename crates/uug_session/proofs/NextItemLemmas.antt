-- The item that a node shows is the first one in the bytes that it held.
use Rattle.std.proofs.Common.{◌≡◌, ◌↔◌, ℕ, List, ◌++◌, ◌-◌, length, take, drop, ap, sym, subst, ◌∙◌, refl, arith, append_assoc, MatchOption, Option, Some, None, IsNone, IfSome}
use Rattle.std.proofs.lemmas.List.{take-append-drop}
use Rattle.uug_talk.specs.Texts.{IsFirstText}
use Rattle.uug_session.specs.declared.end.End.TheVariants as ends
use Rattle.uug_session.specs.declared.greeting.Greeting.{Greeting}
use Rattle.uug_session.specs.declared.item.Item.{Item}
use Rattle.uug_session.specs.EndStep.{Stage, hailing, linked, ended}
use Rattle.uug_session.specs.Node.{HasRoom, ItemValue, LeavesRoom, NodeState, ShowsItem, bad_item, bytes_at, item_size, packet_item, searched, searched_at, shown_item, shown_size_at, text_item, texts_searched}
use Rattle.uug_session.specs.ShownItems.{HoldsNoItem, IsFirstItem, IsShown, NothingStands, PassesNoiseAt, PassesNoiseOnLink, StandsNext}
use Rattle.uug_session.specs.TextsHeld.{ShowsText, TextSearch, TextsHeld, after_text_search, search_text, size_of_text, text_stands, text_too_long, text_waits}
use Rattle.uug_session.proofs.ShownItemLemmas.{none_at_end}
use Rattle.uug_session.proofs.TextSearchLemmas.{finds_text, text_is_found}
use Rattle.uug_session.proofs.TextCallLemmas.{shows_shown}

-- ---- an item is shown

first_text : (g : Greeting) (text bytes : List ℕ) (x : TextSearch) → search_text bytes ≡ x → ShowsText text (after_text_search x)
    → StandsNext (hailing g) (text_item text) bytes
first_text g text bytes (text_waits rest) is shows = absurd (omega (arith, shows.size))
first_text g text bytes text_too_long is shows = absurd (omega (arith, shows.size))
first_text g text bytes (text_stands first others) is shows =
    let held : TextsHeld = record { bytes = others; shown_size = size_of_text first } in
    let n = size_of_text first in
    let f = finds_text bytes first others is in
    let first_shows : ShowsText first held = record { size = refl; within = f.within; first = f.stands } in
    let same : first ≡ text = shows_shown first held first_shows ∙ sym (shows_shown text held shows) in (
      f.passed ++ take n others,
      drop n others,
      f.spelled ∙ ap (λ bs. f.passed ++ bs) (sym (take-append-drop n others)) ∙ sym (append_assoc f.passed (take n others) (drop n others)),
      subst (λ (t : List ℕ). IsFirstText (f.passed ++ take n others) t) same f.first,
    )

first_hailing : (g : Greeting) (n : NodeState) (x : TextSearch) (item : ItemValue) → n.engine.stage ≡ hailing g
    → search_text n.texts.bytes ≡ x → IsShown item (texts_searched x n) → StandsNext (hailing g) item n.texts.bytes
first_hailing g n text_too_long item is found_so shows =
    absurd (none_at_end ends.BadTalk (after_text_search text_too_long) n.packets item shows)
first_hailing g n (text_waits rest) item is found_so shows =
    waits_at item (subst (λ (s : Stage). ShowsItem s (after_text_search (text_waits rest)) n.packets item) is shows) where
      waits_at : (i : ItemValue) → ShowsItem (hailing g) (after_text_search (text_waits rest)) n.packets i → StandsNext (hailing g) i n.texts.bytes
      waits_at (text_item text) shown = first_text g text n.texts.bytes (text_waits rest) found_so shown
      waits_at (packet_item p) shown = absurd shown
      waits_at bad_item shown = absurd shown
first_hailing g n (text_stands first others) item is found_so shows =
    stands_at item (subst (λ (s : Stage). ShowsItem s (after_text_search (text_stands first others)) n.packets item) is shows) where
      stands_at : (i : ItemValue) → ShowsItem (hailing g) (after_text_search (text_stands first others)) n.packets i → StandsNext (hailing g) i n.texts.bytes
      stands_at (text_item text) shown = first_text g text n.texts.bytes (text_stands first others) found_so shown
      stands_at (packet_item p) shown = absurd shown
      stands_at bad_item shown = absurd shown

first_linked : (item : ItemValue) (before after : NodeState) → PassesNoiseAt before after
    → ShowsItem linked after.texts after.packets item → StandsNext linked item before.packets.bytes
first_linked (text_item text) before after passes shows = absurd shows
first_linked (packet_item p) before after passes shows = (after.packets.bytes, after.packets.shown_size, passes.noise, shows.0)
first_linked bad_item before after passes shows = (after.packets.bytes, after.packets.shown_size, passes.noise, shows.0)

first_at : (stage : Stage) (item : ItemValue) (n : NodeState) → n.engine.stage ≡ stage
    → (stage ≡ linked → PassesNoiseAt n (searched_at stage n)) → IsShown item (searched_at stage n) → StandsNext stage item (bytes_at stage n)
first_at (hailing g) item n is passes shows = first_hailing g n (search_text n.texts.bytes) item is refl shows
first_at linked item n is passes shows =
    first_linked item n (searched_at linked n) (passes refl)
    (subst (λ (s : Stage). ShowsItem s (searched_at linked n).texts (searched_at linked n).packets item) is shows)
first_at (ended how) item n is passes shows =
    absurd (none_at_end how n.texts n.packets item (subst (λ (s : Stage). ShowsItem s n.texts n.packets item) is shows))

pub first_item : (item : ItemValue) (before after : NodeState) → after ≡ searched before → PassesNoiseOnLink before after
    → IsShown item after → IsFirstItem item before
first_item item before after is passes shows =
    first_at before.engine.stage item before refl
    (subst (λ (n : NodeState). PassesNoiseOnLink before n) is passes) (subst (IsShown item) is shows)

-- ---- none is shown

no_text : (g : Greeting) (n : NodeState) (x : TextSearch) → n.engine.stage ≡ hailing g → search_text n.texts.bytes ≡ x
    → item_size (texts_searched x n) ≡ 0 → NothingStands (hailing g) n.texts.bytes
no_text g n (text_waits rest) is found_so none = λ front behind text spelled first.
    let there = text_is_found front text behind first in
    let both : text_waits rest ≡ text_stands text (drop (length front - size_of_text text) (front ++ behind)) = sym found_so ∙ ap search_text spelled ∙ there in
    absurd (cc both)
no_text g n text_too_long is found_so none = λ front behind text spelled first.
    let there = text_is_found front text behind first in
    let both : text_too_long ≡ text_stands text (drop (length front - size_of_text text) (front ++ behind)) = sym found_so ∙ ap search_text spelled ∙ there in
    absurd (cc both)
no_text g n (text_stands first others) is found_so none =
    let size : size_of_text first ≡ 0 =
    ap (λ (s : Stage). shown_size_at s (texts_searched (text_stands first others) n)) (sym is) ∙ none in
    absurd (omega (arith, size))

none_at : (stage : Stage) (n : NodeState) → n.engine.stage ≡ stage
    → (stage ≡ linked → PassesNoiseAt n (searched_at stage n)) → item_size (searched_at stage n) ≡ 0 → NothingStands stage (bytes_at stage n)
none_at (hailing g) n is passes none = no_text g n (search_text n.texts.bytes) is refl none
none_at linked n is passes none = (passes refl).none.0 none
none_at (ended how) n is passes none = tt

-- where nothing stands there, no item is the first
not_first : (stage : Stage) (item : ItemValue) (before after : NodeState) → (stage ≡ linked → after.engine.stage ≡ linked)
    → (stage ≡ linked → PassesNoiseAt before after)
    → StandsNext stage item (bytes_at stage before) → NothingStands stage (bytes_at stage before) → IsShown item after → ⊥
not_first (hailing g) (text_item text) before after is passes (front, behind, spelled, first) nothing shows = nothing front behind text spelled first
not_first (hailing g) (packet_item p) before after is passes stands nothing shows = stands
not_first (hailing g) bad_item before after is passes stands nothing shows = stands
not_first linked (text_item text) before after is passes stands nothing shows = stands
not_first linked (packet_item p) before after is passes stands nothing shows =
    let none : after.packets.shown_size ≡ 0 = ap (λ (s : Stage). shown_size_at s after) (sym (is refl)) ∙ (passes refl).none.1 nothing in
    let some = subst (λ (s : Stage). ShowsItem s after.texts after.packets (packet_item p)) (is refl) shows in
    absurd (omega (arith, some.1, none))
not_first linked bad_item before after is passes stands nothing shows =
    let none : after.packets.shown_size ≡ 0 = ap (λ (s : Stage). shown_size_at s after) (sym (is refl)) ∙ (passes refl).none.1 nothing in
    let some = subst (λ (s : Stage). ShowsItem s after.texts after.packets bad_item) (is refl) shows in
    absurd (omega (arith, some.1, none))
not_first (ended how) (text_item text) before after is passes stands nothing shows = stands
not_first (ended how) (packet_item p) before after is passes stands nothing shows = stands
not_first (ended how) bad_item before after is passes stands nothing shows = stands

linked_still : (stage : Stage) (n : NodeState) → n.engine.stage ≡ stage → stage ≡ linked → (searched_at stage n).engine.stage ≡ linked
linked_still (hailing g) n is up = absurd cc
linked_still linked n is up = is
linked_still (ended how) n is up = absurd cc

pub next_none : (result : Option Item) (before after : NodeState) → after ≡ searched before
    → PassesNoiseOnLink before after → MatchOption result (item_size after ≡ 0) (λ item. IsShown (shown_item item) after)
    → (IsNone result ↔ HoldsNoItem before)
next_none None before after is passes shows = (
  λ _. none_at before.engine.stage before refl
      (subst (λ (n : NodeState). PassesNoiseOnLink before n) is passes) (ap item_size (sym is) ∙ shows),
  λ _. refl,
)
next_none (Some item) before after is passes shows = (
  λ none. absurd (cc none),
  λ nothing. absurd (not_first before.engine.stage (shown_item item) before after
      (λ up. ap (λ (n : NodeState). n.engine.stage) is ∙ linked_still before.engine.stage before refl up) passes
      (first_item (shown_item item) before after is passes shows) nothing shows),
)

pub next_first : (result : Option Item) (before after : NodeState) → after ≡ searched before
    → PassesNoiseOnLink before after → MatchOption result (item_size after ≡ 0) (λ item. IsShown (shown_item item) after)
    → IfSome result (λ item. IsFirstItem (shown_item item) before)
next_first None before after is passes shows = tt
next_first (Some item) before after is passes shows = first_item (shown_item item) before after is passes shows

pub next_room : (result : Option Item) (before after : NodeState) → after ≡ searched before → LeavesRoom after
    → MatchOption result (item_size after ≡ 0) (λ item. IsShown (shown_item item) after) → IsNone result → HasRoom (searched before)
next_room None before after is room shows none = subst HasRoom is (room shows)
next_room (Some item) before after is room shows none = absurd (cc none)
