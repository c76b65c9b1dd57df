-- What the ends of a run have found in all bytes that came to them.
use Rattle.std.proofs.Common.{◌≡◌, inl, inr, ℕ, zero, suc, ◌<◌, Bool, true, false, List, [], ◌∷◌, ◌++◌, length, take, drop, Option, Some, None, refl, sym, ap, subst, ◌∙◌, append_assoc, arith}
use Rattle.std.proofs.lemmas.List.{append-nil}
use Rattle.uug_link.specs.Announced.{Announced}
use Rattle.uug_link.specs.Arrivals.{IsPlace, place_of}
use Rattle.uug_link.specs.Step.{step}
use Rattle.uug_packet.specs.Bytes.{AreBytes}
use Rattle.uug_packet.specs.Packet.{PacketValue}
use Rattle.uug_reader.specs.Cut.{Item, found, bad}
use Rattle.uug_reader.specs.Scan.{Finds}
use Rattle.uug_reader.specs.Search.{Search, waiting, standing, search_of}
use Rattle.uug_session.specs.declared.end.End.{End}
use Rattle.uug_session.specs.declared.end.End.TheVariants as ends
use Rattle.uug_session.specs.declared.greeting.AwaitedText.{AwaitedText}
use Rattle.uug_session.specs.declared.greeting.Greeting.{Greeting}
use Rattle.uug_session.specs.Greeting.{greeting_at_first, number_by}
use Rattle.uug_session.specs.Arriving.{Receiver, Buffered, held_in, holds, Arrival, all_taken, stopped, takes_if, takes_up, takes_up_to, takes_piece}
use Rattle.uug_session.specs.EndStep.{rises_at, EndEffect, EndEvent, EndState, Identity, time_ran_out, line_lost, text_found, long_text_found, packet_found_whole, broken_found, Stage, hailing, linked, ended, message_of, begins_session, stage_step, end_step}
use Rattle.uug_session.specs.Finding.{Finding, finds_nothing, finds, finds_packet, text_finding, item_finding, finding, behind_long_text}
use Rattle.uug_conversation.specs.Keeper.{Keeper}
use Rattle.uug_session.specs.TextsFound.{Taken}
use Rattle.uug_session.proofs.NumberLemmas.{step_number}
use Rattle.uug_session.specs.TextsHeld.{TextSearch, text_waits, text_stands, text_too_long, size_of_text, search_text}
use Rattle.uug_talk.specs.StreamTexts.{StandBefore}
use Rattle.uug_talk.specs.Texts.{Passing}
use Rattle.uug_line.specs.declared.event.Event.{Event}
use Rattle.uug_line.specs.declared.event.Event.TheVariants.{Pass, Drop, Flip, Insert, Timeout, HangUp, Call}
use Rattle.uug_conversation.specs.Turns.{other}
use Rattle.uug_conversation.specs.declared.side.Side.{Side}
use Rattle.uug_conversation.specs.declared.side.Side.TheVariants.{Caller, Called}
use Rattle.uug_line.specs.declared.verdict.LineVerdict.{LineVerdict}
use Rattle.uug_line.specs.declared.verdict.LineVerdict.TheVariants.{Clean, Fooled}
use Rattle.uug_line.specs.Belongings.{Belongings, SetupValue, renewed}
use Rattle.uug_line.specs.Delivered.{EndedOnLink, GreetsOn, LinkBeganWith, event_of, nothing_came, comes, while_clean, comes_with, came_in, packets_among, IsLeft, HasHeard, HasHeardAt, HasScanned}
use Rattle.uug_line.specs.Fooled.{FindsNothingMore}
use Rattle.uug_line.specs.Report.{report_of_end}
use Rattle.uug_line.specs.Run.{Run, end_at, participant, has_now, first_run, session_begins, flipped, with_end_at, with_line_to, hears_next, after_hearing, calls, hung_up, after_event, unless_fooled, goes_through, run_of}
use Rattle.uug_line.specs.RunKeeper.{RunKeeper}
use Rattle.uug_conversation.specs.Sides.{AtBoth, at, at_each}
use Rattle.uug_line.specs.LineEndState.{LineEndState, Participant, does, called_with, changed_line, found_at, packets_in, took}
use Rattle.uug_line.specs.Taking.{takes_sent, line_taker, packet_taken_up, with_packet}
use Rattle.uug_line.specs.WereSent.{HavePlaces, passed_at}
use Rattle.uug_line.specs.Told.{EndReportValue}
use Rattle.uug_line.proofs.SideLemmas.{at_here, at_there, from_other, with_both, with_here}
use Rattle.uug_line.proofs.FoundLemmas.{event_takes, packet_takes, held_fewer, passed_behind, place_is_there, took_packets}
use Rattle.uug_line.proofs.GreetedLemmas.{StandsBehind, text_leads}
use Rattle.uug_line.proofs.PlaceLemmas.{later_places, next_place}
use Rattle.uug_line.proofs.VerdictLemmas.{StaysOrEnds, UsesNoBytes, call_stays, linked_stays}
use Rattle.uug_reader.proofs.ScanLemmas.{Finds-none, Finds-item, Finds-join, Finds-append}
use Rattle.uug_reader.proofs.SearchLemmas.{search_finds_item, search_finds_rest}
use Rattle.uug_session.proofs.FoundLemmas.{bytes_behind_texts, bytes_found, bytes_in_front}
use Rattle.uug_session.proofs.TextCallLemmas.{taken_right_behind, taken_more, first_taken, taken_searched}

-- ---- what an end has heard, and how many packets were found or skipped

pub record HearsSo {C : Type 0} (p : Participant C) (brought : Option ℕ) (came : List ℕ) (now : EndState C) (held arrivals : List ℕ) (passed : ℕ) (emitted : List PacketValue) : Type 0 where
  pub heard : HasHeard p brought came now held arrivals emitted
  pub past : passed ≡ passed_at arrivals 0

abbrev pub Hears : {C : Type 0} → Participant C → (brought : Option ℕ) → (came : List ℕ) → Buffered (LineEndState C) → (emitted : List PacketValue) → Type 0
Hears p brought came h emitted = HearsSo p brought came h.end.state h.held h.end.log.arrivals h.end.log.passed emitted

packets_joined : (items more : List Item) → packets_among (items ++ more) ≡ packets_among items ++ packets_among more
packets_joined [] more = refl
packets_joined (found p ∷ items) more = ap (λ (ps : List PacketValue). p ∷ ps) (packets_joined items more)
packets_joined (bad ∷ items) more = packets_joined items more

-- the other end emits more
pub emits_more : {C : Type 0} (p : Participant C) (brought : Option ℕ) (came : List ℕ) (now : EndState C) (held arrivals : List ℕ) (passed : ℕ) (emitted more : List PacketValue)
    → HearsSo p brought came now held arrivals passed emitted → HearsSo p brought came now held arrivals passed (emitted ++ more)
emits_more p brought came now held arrivals passed emitted more x = record {
  heard = record {
    texts = x.heard.texts;
    begins = x.heard.begins;
    greeting = x.heard.greeting;
    items = x.heard.items;
    others = x.heard.others;
    link = x.heard.link;
    places = later_places (packets_among x.heard.items) emitted more arrivals 0 x.heard.places;
    left = x.heard.left;
  };
  past = x.past;
}

-- a call has ended an end that was on its link
over_by_call : {C : Type 0} (p : Participant C) (event : EndEvent) (e : EndState C) (items : List Item) → UsesNoBytes event → e.stage ≡ linked
    → EndedOnLink p items (end_step p.keeper p.identity event e).state
over_by_call p time_ran_out e items uses on = inr (inl (record { before = e; on_link = on; step = refl }))
over_by_call p line_lost e items uses on = inr (inr (record { before = e; on_link = on; step = refl }))
over_by_call p (text_found text) e items uses on = absurd uses
over_by_call p long_text_found e items uses on = absurd uses
over_by_call p (packet_found_whole failed q) e items uses on = absurd uses
over_by_call p broken_found e items uses on = absurd uses

-- the number that an end keeps stays
quiet_call : (id : Identity) (number : Option ℕ) (stage : Stage) (event : EndEvent) → UsesNoBytes event → rises_at id number stage event ≡ false
quiet_call id number (hailing g) time_ran_out uses = refl
quiet_call id number (hailing g) line_lost uses = refl
quiet_call id number (hailing g) (text_found text) uses = absurd uses
quiet_call id number (hailing g) long_text_found uses = absurd uses
quiet_call id number (hailing g) (packet_found_whole failed q) uses = absurd uses
quiet_call id number (hailing g) broken_found uses = absurd uses
quiet_call id number linked event uses = refl
quiet_call id number (ended how) event uses = refl

call_keeps : {C : Type 0} (p : Participant C) (event : EndEvent) (e : EndState C) → UsesNoBytes event → (end_step p.keeper p.identity event e).state.number ≡ e.number
call_keeps p event e uses =
    step_number p.keeper p.identity event e ∙ ap (λ (b : Bool). number_by b e.number) (quiet_call p.identity e.number e.stage event uses)

on_link_keeps : {C : Type 0} (p : Participant C) (event : EndEvent) (e : EndState C) → e.stage ≡ linked → (end_step p.keeper p.identity event e).state.number ≡ e.number
on_link_keeps p event e on =
    step_number p.keeper p.identity event e ∙ ap (λ (s : Stage). number_by (rises_at p.identity e.number s event) e.number) on

-- the stage moves, and no bytes are used
left_then : {C : Type 0} (p : Participant C) (brought : Option ℕ) (event : EndEvent) (e : EndState C) (s t : Stage) (texts : List (List ℕ)) (items : List Item)
    (others came held : List ℕ) → UsesNoBytes event → e.stage ≡ s → StaysOrEnds s t → IsLeft p brought s e texts items others came held
    → IsLeft p brought t (end_step p.keeper p.identity event e).state texts items others came (held_in t held)
left_then p brought event e (hailing g) (ended how) texts items others came held uses is stays left =
    inl (left.0, inl (g.awaited, subst (GreetsOn p.identity brought texts g.awaited) (sym (call_keeps p event e uses)) left.2))
left_then p brought event e linked (ended how) texts items others came held uses is stays left =
    inr (subst (LinkBeganWith p.identity brought texts) (sym (call_keeps p event e uses)) left.1, over_by_call p event e items uses is)
left_then p brought event e (ended so) (ended how) texts items others came held uses is stays left =
    let same : (end_step p.keeper p.identity event e).state ≡ e = ap (λ t. (stage_step p.keeper p.identity t event e).state) is in
    subst (λ now. IsLeft p brought (ended how) now texts items others came []) (sym same)
    (subst (λ (h : End). IsLeft p brought (ended h) e texts items others came []) stays left)
left_then p brought event e (hailing g) (hailing h) texts items others came held uses is stays left = (
  left.0,
  left.1,
  subst (GreetsOn p.identity brought texts h.awaited) (sym (call_keeps p event e uses))
      (subst (λ (a : AwaitedText). GreetsOn p.identity brought texts a e.number) stays left.2),
)
left_then p brought event e linked linked texts items others came held uses is stays left =
    (left.0, subst (LinkBeganWith p.identity brought texts) (sym (call_keeps p event e uses)) left.1)
left_then p brought event e (hailing g) linked texts items others came held uses is stays left = absurd stays
left_then p brought event e linked (hailing h) texts items others came held uses is stays left = absurd stays
left_then p brought event e (ended how) (hailing h) texts items others came held uses is stays left = absurd stays
left_then p brought event e (ended how) linked texts items others came held uses is stays left = absurd stays

pub called_hears : {C : Type 0} (p : Participant C) (brought : Option ℕ) (event : EndEvent) (h : Buffered (LineEndState C)) (came : List ℕ) (emitted : List PacketValue)
    → UsesNoBytes event → Hears p brought came h emitted → Hears p brought came (called_with p event h) emitted
called_hears p brought event h came emitted uses x = record {
  heard = record {
    texts = x.heard.texts;
    begins = x.heard.begins;
    greeting = x.heard.greeting;
    items = x.heard.items;
    others = x.heard.others;
    link = x.heard.link;
    places = x.heard.places;
    left =
        let s = h.end.state.stage in
        left_then p brought event h.end.state s (end_step p.keeper p.identity event h.end.state).state.stage x.heard.texts x.heard.items
        x.heard.others came h.held uses refl (call_stays p.keeper p.identity s event h.end.state refl uses) x.heard.left;
  };
  past = x.past;
}

-- ---- on the link an end does not go back to the greeting

event_stays : {C : Type 0} (k : Keeper C) (id : Identity) (event : EndEvent) (e : EndState C) → e.stage ≡ linked
    → StaysOrEnds linked (end_step k id event e).state.stage
event_stays k id event e on =
    subst (λ s. StaysOrEnds linked (stage_step k id s event e).state.stage) (sym on) (linked_stays k id event e on)

-- ---- bytes are taken up

abbrev pub hearer_of : {X : Type 0} → Arrival X → Buffered X
hearer_of (all_taken h) = h
hearer_of (stopped h) = h

module _ {C : Type 0} (p : Participant C) (others : List PacketValue) (Far : List PacketValue → Type 0)
    (later : (emitted more : List PacketValue) → Far emitted → Far (emitted ++ more)) where
  abbrev far_taker : Receiver (LineEndState C)
  far_taker = line_taker p others

  -- a fact on what an end has emitted stays while it takes up bytes
  abbrev FarUpTo : ℕ → Type 0
  FarUpTo n = (h : Buffered (LineEndState C)) → Far h.end.log.packets → Far (hearer_of (takes_up_to n far_taker h)).end.log.packets

  far_packet : (q : PacketValue) (place : ℕ) (e : LineEndState C) → Far e.log.packets → Far (packet_taken_up p q place e).log.packets
  far_packet q place e far =
      let effect = end_step p.keeper p.identity (packet_found_whole false q) e.state in
      subst (λ (ps : List PacketValue). Far (ps ++ packets_in effect.emitted)) (sym (took_packets effect.took (message_of q) _))
      (later e.log.packets (packets_in effect.emitted) far)

  far_if : (n : ℕ) → FarUpTo n → (q : PacketValue) (from behind : List ℕ) (e : LineEndState C) (place : Option ℕ) → Far e.log.packets
      → Far (hearer_of (takes_if (takes_up_to n far_taker) far_taker (takes_sent p q place e) from behind e)).end.log.packets
  far_if n more q from behind e None far = far
  far_if n more q from behind e (Some place) far = more (holds far_taker behind (packet_taken_up p q place e)) (far_packet q place e far)

  far_by : (n : ℕ) → FarUpTo n → (what : Finding) (e : LineEndState C) → Far e.log.packets
      → Far (hearer_of (takes_up (takes_up_to n far_taker) far_taker what e)).end.log.packets
  far_by n more (finds_nothing rest) e far = far
  far_by n more (finds event behind) e far =
      more (holds far_taker behind (does p event e))
      (later e.log.packets (packets_in (end_step p.keeper p.identity event e.state).emitted) far)
  far_by n more (finds_packet q from behind) e far = far_if n more q from behind e (place_of q others e.log.passed) far

  far_up_to : (n : ℕ) → FarUpTo n
  far_up_to zero h far = far
  far_up_to (suc n) h far = far_by n (far_up_to n) (finding h.end.state.stage h.held) h.end far

  pub far_piece : (piece : List ℕ) (h : Buffered (LineEndState C)) → Far h.end.log.packets → Far (hearer_of (takes_piece far_taker piece h)).end.log.packets
  far_piece piece h far =
      let held = holds far_taker (h.held ++ piece) h.end in
      far_up_to (suc (length held.held)) held far

module _ {C : Type 0} (p : Participant C) (brought : Option ℕ) (emitted : List PacketValue)
    (came : List ℕ) (all : AreBytes came) where
  abbrev receiver : Receiver (LineEndState C)
  receiver = line_taker p emitted

  abbrev HearsUpTo : ℕ → Type 0
  HearsUpTo n = (h : Buffered (LineEndState C)) → length h.held < n → Hears p brought came h emitted → Hears p brought came (hearer_of (takes_up_to n receiver h)) emitted

  -- so the end stands with these bytes, told by its stage
  held_at : (now : EndState C) (s : Stage) (texts : List (List ℕ)) (items : List Item) (others bytes : List ℕ) → now.stage ≡ s
      → IsLeft p brought s now texts items others came (held_in s bytes) → IsLeft p brought now.stage now texts items others came (held_in now.stage bytes)
  held_at now s texts items others bytes is left = subst (λ t. IsLeft p brought t now texts items others came (held_in t bytes)) (sym is) left

  nothing_among : (items : List Item) (arrivals : List ℕ) → items ≡ [] → HavePlaces (packets_among items) arrivals emitted 0 → HavePlaces [] arrivals emitted 0
  nothing_among items arrivals is places = subst (λ (l : List Item). HavePlaces (packets_among l) arrivals emitted 0) is places

  -- ---- in the greeting

  -- wherever the text leads
  left_behind_text : (t : Stage) (now : EndState C) (texts : List (List ℕ)) (behind : List ℕ) → StandBefore texts behind came
      → StandsBehind p.identity brought texts t now.number → IsLeft p brought t now texts [] behind came (held_in t behind)
  left_behind_text (hailing g) now texts behind stand stands = (refl, taken_right_behind texts came behind stand, stands)
  left_behind_text linked now texts behind stand stands = (refl, stands)
  left_behind_text (ended how) now texts behind stand stands = inl (refl, inr stands)

  by_text : (n : ℕ) → HearsUpTo n → (h : Buffered (LineEndState C)) (g : Greeting) → h.end.state.stage ≡ hailing g → length h.held < suc n
      → (x : Hears p brought came h emitted) → (x.heard.items ≡ []) × Taken x.heard.texts came h.held × GreetsOn p.identity brought x.heard.texts g.awaited h.end.state.number
      → (search : TextSearch) → search_text h.held ≡ search
      → Hears p brought came (hearer_of (takes_up (takes_up_to n receiver) receiver (text_finding h.held search) h.end)) emitted
  by_text n more h g is enough x (none, front, on) (text_waits rest) e =
      let waits : Taken x.heard.texts came rest = taken_searched x.heard.texts came h.held (text_waits rest) (λ no. cc) e front in record {
        heard = record {
          texts = x.heard.texts;
          begins = waits.passed ++ rest;
          greeting = waits.stand;
          items = [];
          others = waits.passed ++ rest;
          link = Finds-none (waits.passed ++ rest);
          places = nothing_among x.heard.items h.end.log.arrivals none x.heard.places;
          left = held_at h.end.state (hailing g) x.heard.texts [] (waits.passed ++ rest) rest is (refl, waits, on);
        };
        past = x.past;
      }
  by_text n more h g is enough x (none, front, on) (text_stands text others) e =
      let behind = drop (size_of_text text) others in
      let y = does p (text_found text) h.end in
      let texts = x.heard.texts ++ text ∷ [] in
      let stand : StandBefore texts behind came = first_taken x.heard.texts came h.held text others front e in
      let after : Stage → EndState C = λ s. (stage_step p.keeper p.identity s (text_found text) h.end.state).state in
      let stands : StandsBehind p.identity brought texts y.state.stage y.state.number =
      subst (λ s. StandsBehind p.identity brought texts (after s).stage (after s).number) (sym is)
      (text_leads p.keeper p.identity brought x.heard.texts text g h.end.state on) in
      more (holds receiver behind y)
      (omega (
        arith,
        enough,
        held_fewer y.state.stage behind,
        event_takes (hailing g) h.held behind (text_found text) (ap (text_finding h.held) e),
      ))
      (record {
        heard = record {
          texts = texts;
          begins = behind;
          greeting = stand;
          items = [];
          others = behind;
          link = Finds-none behind;
          places = nothing_among x.heard.items h.end.log.arrivals none x.heard.places;
          left = left_behind_text y.state.stage y.state texts behind stand stands;
        };
        past = x.past;
      })
  by_text n more h g is enough x (none, front, on) text_too_long e =
      let y = does p long_text_found h.end in
      let behind = behind_long_text Passing h.held in
      let over : y.state.stage ≡ ended ends.BadTalk =
      ap (λ t. (stage_step p.keeper p.identity t long_text_found h.end.state).state.stage) is in
      let stays : y.state.number ≡ h.end.state.number =
      ap (λ t. (stage_step p.keeper p.identity t long_text_found h.end.state).state.number) is in
      more (holds receiver behind y)
      (omega (
        arith,
        enough,
        held_fewer y.state.stage behind,
        event_takes (hailing g) h.held behind long_text_found (ap (text_finding h.held) e),
      ))
      (record {
        heard = record {
          texts = x.heard.texts;
          begins = front.passed ++ h.held;
          greeting = front.stand;
          items = [];
          others = front.passed ++ h.held;
          link = Finds-none (front.passed ++ h.held);
          places = nothing_among x.heard.items h.end.log.arrivals none x.heard.places;
          left = held_at y.state (ended ends.BadTalk) x.heard.texts [] (front.passed ++ h.held) behind over
              (inl (refl, inl (g.awaited, subst (GreetsOn p.identity brought x.heard.texts g.awaited) (sym stays) on)));
        };
        past = x.past;
      })

  -- ---- on the link

  bytes_held : (h : Buffered (LineEndState C)) (x : Hears p brought came h emitted) → x.heard.others ≡ h.held → AreBytes h.held
  bytes_held h x same =
      subst AreBytes same
      (bytes_found x.heard.begins x.heard.others x.heard.items x.heard.link
      (bytes_behind_texts x.heard.texts x.heard.begins came x.heard.greeting all))

  -- by where the item leads
  left_behind_item : (t : Stage) (now : EndState C) (texts : List (List ℕ)) (items : List Item) (behind : List ℕ) → StaysOrEnds linked t
      → LinkBeganWith p.identity brought texts now.number → EndedOnLink p items now → IsLeft p brought t now texts items behind came (held_in t behind)
  left_behind_item (hailing g) now texts items behind stays began over = absurd stays
  left_behind_item linked now texts items behind stays began over = (refl, began)
  left_behind_item (ended how) now texts items behind stays began over = inr (began, over)

  -- an item is taken up, and the end stands behind it
  behind_item : (n : ℕ) → HearsUpTo n → (h : Buffered (LineEndState C)) → h.end.state.stage ≡ linked → length h.held < suc n → (x : Hears p brought came h emitted)
      → x.heard.others ≡ h.held → LinkBeganWith p.identity brought x.heard.texts h.end.state.number → (item : Item) (size : ℕ) (from : List ℕ) → search_of h.held ≡ standing item size from
      → length (drop size from) < length h.held → (y : LineEndState C) → StaysOrEnds linked y.state.stage
      → (end_step p.keeper p.identity (event_of item) h.end.state).state ≡ y.state
      → HavePlaces (packets_among (x.heard.items ++ item ∷ [])) y.log.arrivals emitted 0 → y.log.passed ≡ passed_at y.log.arrivals 0
      → Hears p brought came (hearer_of (takes_up_to n receiver (holds receiver (drop size from) y))) emitted
  behind_item n more h on enough x same began item size from e fewer y stays step places past =
      let behind = drop size from in
      let stands = (search_finds_item h.held from item size (bytes_held h x same)).0 e in
      let here : Finds h.held (item ∷ []) behind = Finds-join h.held from behind [] (item ∷ []) stands.0 (Finds-item from item size stands.1) in
      let items = x.heard.items ++ item ∷ [] in
      let kept : y.state.number ≡ h.end.state.number =
      ap (λ (e : EndState C). e.number) (sym step) ∙ on_link_keeps p (event_of item) h.end.state on in
      more (holds receiver behind y) (omega (arith, enough, fewer, held_fewer y.state.stage behind)) (record {
        heard = record {
          texts = x.heard.texts;
          begins = x.heard.begins;
          greeting = x.heard.greeting;
          items = items;
          others = behind;
          link = Finds-join x.heard.begins h.held behind x.heard.items (item ∷ [])
              (subst (Finds x.heard.begins x.heard.items) same x.heard.link) here;
          places = places;
          left = left_behind_item y.state.stage y.state x.heard.texts items behind stays (subst (LinkBeganWith p.identity brought x.heard.texts) (sym kept) began) (inl (record {
            earlier = x.heard.items;
            last = item;
            item = refl;
            ends = record { before = h.end.state; on_link = on; step = step };
          }));
        };
        past = past;
      })

  -- a packet has its place
  packet_placed : (q : PacketValue) (place : ℕ) (h : Buffered (LineEndState C)) (x : Hears p brought came h emitted)
      → place_of q emitted h.end.log.passed ≡ Some place
      → HavePlaces (packets_among (x.heard.items ++ found q ∷ [])) (h.end.log.arrivals ++ place ∷ []) emitted 0
  packet_placed q place h x at =
      subst (λ (ps : List PacketValue). HavePlaces ps (h.end.log.arrivals ++ place ∷ []) emitted 0) (sym (packets_joined x.heard.items (found q ∷ [])))
      (next_place (packets_among x.heard.items) emitted h.end.log.arrivals q place 0 x.heard.places
      (subst (λ n. IsPlace q emitted n place) x.past (place_is_there q emitted h.end.log.passed place at)))

  took_arrivals : (t : Bool) (q : PacketValue) (place : ℕ) (h : Buffered (LineEndState C)) → (x : Hears p brought came h emitted)
      → place_of q emitted h.end.log.passed ≡ Some place → (effect : EndEffect C) → effect.took ≡ t
      → HavePlaces (packets_among (x.heard.items ++ found q ∷ [])) (with_packet q place h.end effect).log.arrivals emitted 0
      × ((with_packet q place h.end effect).log.passed ≡ passed_at (with_packet q place h.end effect).log.arrivals 0)
  took_arrivals t q place h x at effect is = (
    subst (λ (l : List ℕ). HavePlaces (packets_among (x.heard.items ++ found q ∷ [])) l emitted 0) (sym (same_arrivals effect.took))
        (packet_placed q place h x at),
    same_passed effect.took ∙ sym (passed_behind h.end.log.arrivals place 0) ∙ ap (λ (l : List ℕ). passed_at l 0) (sym (same_arrivals effect.took)),
  )
    where
      same_arrivals : (b : Bool) → (took b (message_of q) (found_at place h.end.log)).arrivals ≡ h.end.log.arrivals ++ place ∷ []
      same_arrivals true = refl
      same_arrivals false = refl

      same_passed : (b : Bool) → (took b (message_of q) (found_at place h.end.log)).passed ≡ suc place
      same_passed true = refl
      same_passed false = refl

  by_place : (n : ℕ) → HearsUpTo n → (h : Buffered (LineEndState C)) → h.end.state.stage ≡ linked → length h.held < suc n → (x : Hears p brought came h emitted)
      → x.heard.others ≡ h.held → LinkBeganWith p.identity brought x.heard.texts h.end.state.number → (q : PacketValue) (size : ℕ) (from : List ℕ) → search_of h.held ≡ standing (found q) size from
      → (place : Option ℕ) → place_of q emitted h.end.log.passed ≡ place
      → Hears p brought came (hearer_of (takes_if (takes_up_to n receiver) receiver (takes_sent p q place h.end) from (drop size from) h.end)) emitted
  by_place n more h on enough x same began q size from e None at =
      let stands = (search_finds_item h.held from (found q) size (bytes_held h x same)).0 e in record {
        heard = record {
          texts = x.heard.texts;
          begins = x.heard.begins;
          greeting = x.heard.greeting;
          items = x.heard.items;
          others = from;
          link = subst (λ items. Finds x.heard.begins items from) (append-nil x.heard.items)
              (Finds-join x.heard.begins h.held from x.heard.items []
              (subst (Finds x.heard.begins x.heard.items) same x.heard.link) stands.0);
          places = x.heard.places;
          left = held_at h.end.state linked x.heard.texts x.heard.items from from on (refl, began);
        };
        past = x.past;
      }
  by_place n more h on enough x same began q size from e (Some place) at =
      let effect = end_step p.keeper p.identity (packet_found_whole false q) h.end.state in
      let placed = took_arrivals effect.took q place h x at effect refl in
      behind_item n more h on enough x same began (found q) size from e
      (packet_takes linked h.held from (drop size from) q (ap item_finding e))
      (packet_taken_up p q place h.end) (event_stays p.keeper p.identity (packet_found_whole false q) h.end.state on) refl placed.0 placed.1

  by_item : (n : ℕ) → HearsUpTo n → (h : Buffered (LineEndState C)) → h.end.state.stage ≡ linked → length h.held < suc n → (x : Hears p brought came h emitted)
      → x.heard.others ≡ h.held → LinkBeganWith p.identity brought x.heard.texts h.end.state.number → (search : Search) → search_of h.held ≡ search
      → Hears p brought came (hearer_of (takes_up (takes_up_to n receiver) receiver (item_finding search) h.end)) emitted
  by_item n more h on enough x same began (waiting rest) e =
      let waits = (search_finds_rest h.held rest (bytes_held h x same)).0 e in record {
        heard = record {
          texts = x.heard.texts;
          begins = x.heard.begins;
          greeting = x.heard.greeting;
          items = x.heard.items;
          others = rest;
          link = subst (λ items. Finds x.heard.begins items rest) (append-nil x.heard.items)
              (Finds-join x.heard.begins h.held rest x.heard.items []
              (subst (Finds x.heard.begins x.heard.items) same x.heard.link) waits.0);
          places = x.heard.places;
          left = held_at h.end.state linked x.heard.texts x.heard.items rest rest on (refl, began);
        };
        past = x.past;
      }
  by_item n more h on enough x same began (standing (found q) size from) e =
      by_place n more h on enough x same began q size from e (place_of q emitted h.end.log.passed) refl
  by_item n more h on enough x same began (standing bad size from) e =
      behind_item n more h on enough x same began bad size from e
      (event_takes linked h.held (drop size from) broken_found (ap item_finding e))
      (does p broken_found h.end) (event_stays p.keeper p.identity broken_found h.end.state on) refl
      (subst (λ (ps : List PacketValue). HavePlaces ps h.end.log.arrivals emitted 0)
      (sym (packets_joined x.heard.items (bad ∷ []) ∙ append-nil (packets_among x.heard.items))) x.heard.places) x.past

  -- ---- by how far the end has come

  by_stage : (n : ℕ) → HearsUpTo n → (h : Buffered (LineEndState C)) → length h.held < suc n → (x : Hears p brought came h emitted) → (s : Stage)
      → h.end.state.stage ≡ s → Hears p brought came (hearer_of (takes_up (takes_up_to n receiver) receiver (finding s h.held) h.end)) emitted
  by_stage n more h enough x (hailing g) is =
      by_text n more h g is enough x (subst (λ s. IsLeft p brought s h.end.state x.heard.texts x.heard.items x.heard.others came h.held) is x.heard.left)
      (search_text h.held) refl
  by_stage n more h enough x linked is =
      let left : IsLeft p brought linked h.end.state x.heard.texts x.heard.items x.heard.others came h.held =
      subst (λ s. IsLeft p brought s h.end.state x.heard.texts x.heard.items x.heard.others came h.held) is x.heard.left in
      by_item n more h is enough x left.0 left.1 (search_of h.held) refl
  by_stage n more h enough x (ended how) is = record {
    heard = record {
      texts = x.heard.texts;
      begins = x.heard.begins;
      greeting = x.heard.greeting;
      items = x.heard.items;
      others = x.heard.others;
      link = x.heard.link;
      places = x.heard.places;
      left = held_at h.end.state (ended how) x.heard.texts x.heard.items x.heard.others [] is
          (subst (λ s. IsLeft p brought s h.end.state x.heard.texts x.heard.items x.heard.others came h.held) is x.heard.left);
    };
    past = x.past;
  }

  hears_up_to : (n : ℕ) → HearsUpTo n
  hears_up_to zero h enough x = absurd (omega (arith, enough))
  hears_up_to (suc n) h enough x = by_stage n (hears_up_to n) h enough x h.end.state.stage refl

-- ---- a piece comes

stand_more : (texts : List (List ℕ)) (rest stream more : List ℕ) → StandBefore texts rest stream → StandBefore texts (rest ++ more) (stream ++ more)
stand_more [] rest stream more h = ap (λ s. s ++ more) h
stand_more (text ∷ texts) rest stream more (front, behind, e, first, later) =
    (front, behind ++ more, ap (λ s. s ++ more) e ∙ append_assoc front behind more, first, stand_more texts rest behind more later)

-- with the piece behind what is held
with_piece : {C : Type 0} (p : Participant C) (brought : Option ℕ) (before piece : List ℕ) (now : EndState C) (s : Stage) (held arrivals : List ℕ)
    (passed : ℕ) (emitted : List PacketValue) → now.stage ≡ s → HearsSo p brought before now held arrivals passed emitted
    → HearsSo p brought (before ++ piece) now (held_in now.stage (held ++ piece)) arrivals passed emitted
with_piece p brought before piece now (hailing g) held arrivals passed emitted is x =
    let left : IsLeft p brought (hailing g) now x.heard.texts x.heard.items x.heard.others before held =
    subst (λ t. IsLeft p brought t now x.heard.texts x.heard.items x.heard.others before held) is x.heard.left in
    let whole : Taken x.heard.texts (before ++ piece) (held ++ piece) = taken_more x.heard.texts before held piece left.1 in
    let begins = whole.passed ++ (held ++ piece) in record {
      heard = record {
        texts = x.heard.texts;
        begins = begins;
        greeting = whole.stand;
        items = [];
        others = begins;
        link = Finds-none begins;
        places = subst (λ (l : List Item). HavePlaces (packets_among l) arrivals emitted 0) left.0 x.heard.places;
        left = subst (λ t. IsLeft p brought t now x.heard.texts [] begins (before ++ piece) (held_in t (held ++ piece))) (sym is) (refl, whole, left.2);
      };
      past = x.past;
    }
with_piece p brought before piece now linked held arrivals passed emitted is x =
    let left : IsLeft p brought linked now x.heard.texts x.heard.items x.heard.others before held =
    subst (λ t. IsLeft p brought t now x.heard.texts x.heard.items x.heard.others before held) is x.heard.left in record {
      heard = record {
        texts = x.heard.texts;
        begins = x.heard.begins ++ piece;
        greeting = stand_more x.heard.texts x.heard.begins before piece x.heard.greeting;
        items = x.heard.items;
        others = x.heard.others ++ piece;
        link = Finds-append x.heard.begins x.heard.others piece x.heard.items x.heard.link;
        places = x.heard.places;
        left = subst (λ t. IsLeft p brought t now x.heard.texts x.heard.items (x.heard.others ++ piece) (before ++ piece) (held_in t (held ++ piece))) (sym is)
            (ap (λ (l : List ℕ). l ++ piece) left.0, left.1);
      };
      past = x.past;
    }
with_piece p brought before piece now (ended how) held arrivals passed emitted is x = record {
  heard = record {
    texts = x.heard.texts;
    begins = x.heard.begins ++ piece;
    greeting = stand_more x.heard.texts x.heard.begins before piece x.heard.greeting;
    items = x.heard.items;
    others = x.heard.others ++ piece;
    link = Finds-append x.heard.begins x.heard.others piece x.heard.items x.heard.link;
    places = x.heard.places;
    left = subst (λ t. IsLeft p brought t now x.heard.texts x.heard.items (x.heard.others ++ piece) (before ++ piece) (held_in t (held ++ piece))) (sym is)
        (subst (λ t. IsLeft p brought t now x.heard.texts x.heard.items x.heard.others before held) is x.heard.left);
  };
  past = x.past;
}

pub hears_piece : {C : Type 0} (p : Participant C) (brought : Option ℕ) (emitted : List PacketValue)
    (before piece : List ℕ) (h : Buffered (LineEndState C)) → AreBytes (before ++ piece) → Hears p brought before h emitted
    → Hears p brought (before ++ piece) (hearer_of (takes_piece (line_taker p emitted) piece h)) emitted
hears_piece p brought emitted before piece h all x =
    let held = holds (line_taker p emitted) (h.held ++ piece) h.end in
    hears_up_to p brought emitted (before ++ piece) all (suc (length held.held)) held (omega arith)
    (with_piece p brought before piece h.end.state h.end.state.stage h.held h.end.log.arrivals h.end.log.passed emitted refl x)

-- ---- a run

-- what an end has heard, where bytes came to it
abbrev pub EndHears : {C : Type 0} → RunKeeper C → SetupValue → (came : AtBoth (List ℕ)) → Run C → Side → (x y : Buffered (LineEndState C)) → Type 0
EndHears k setup came run side x y =
    AreBytes (at side came) → Hears (participant k setup run side) (at side run.brought).number (at side came) x y.end.log.packets

-- what both have
abbrev pub RunHears : {C : Type 0} → RunKeeper C → SetupValue → (came : AtBoth (List ℕ)) → Run C → Type 0
RunHears k setup came run = (side : Side) → EndHears k setup came run side (end_at side run) (end_at (other side) run)

module _ {C : Type 0} (k : RunKeeper C) (setup : SetupValue) where
  -- an end with which nothing has happened yet
  first_heard : (p : Participant C) (brought : Option ℕ) (own : Announced) (c : C) {emitted : List PacketValue}
      → HearsSo p brought [] (begins_session p.identity own brought c).state [] [] 0 emitted
  first_heard p brought own c = record {
    heard = record {
      texts = [];
      begins = [];
      greeting = refl;
      items = [];
      others = [];
      link = Finds-none [];
      places = tt;
      left = (
        refl,
        taken_right_behind [] [] [] refl,
        record { greeting = greeting_at_first p.identity.side; goes_on = refl; awaits = refl; keeps = refl },
      );
    };
    past = refl;
  }

  begins_heard : (past : List (AtBoth EndReportValue)) (brought : AtBoth Belongings) → RunHears k setup nothing_came (session_begins k setup past brought)
  begins_heard past brought Caller all =
      first_heard (participant k setup (session_begins k setup past brought) Caller) brought.at_caller.number setup.at_caller.own (k.first brought.at_caller)
  begins_heard past brought Called all =
      first_heard (participant k setup (session_begins k setup past brought) Called) brought.at_called.number setup.at_called.own (k.first brought.at_called)

  line_heard : (side : Side) (change : List ℕ → List ℕ) (came : AtBoth (List ℕ)) (run : Run C) → RunHears k setup came run
      → RunHears k setup came (with_end_at side (changed_line change (end_at side run)) run)
  line_heard side change came run hear =
      let P = EndHears k setup came run in
      with_here P side (changed_line change (end_at side run)) run.ends (hear side) (from_other P run.ends hear side)

  -- where the other end emits what it does on an event, or takes up bytes
  call_heard : (side : Side) (event : EndEvent) (came : AtBoth (List ℕ)) (run : Run C) → UsesNoBytes event → RunHears k setup came run
      → RunHears k setup came (calls k setup side event run)
  call_heard side event came run uses hear =
      let x = end_at side run in
      let y = end_at (other side) run in
      let p = participant k setup run side in
      let P = EndHears k setup came run in
      with_here P side (called_with p event x) run.ends
      (λ all. called_hears p (at side run.brought).number event x (at side came) y.end.log.packets uses (hear side all))
      (λ all. emits_more (participant k setup run (other side)) (at (other side) run.brought).number (at (other side) came) y.end.state y.held
      y.end.log.arrivals y.end.log.passed x.end.log.packets (packets_in (end_step p.keeper p.identity event x.end.state).emitted)
      (from_other P run.ends hear side all))

  after_heard : (number : ℕ) (side : Side) (n : ℕ) (came : AtBoth (List ℕ)) (run : Run C) (c : Arrival (LineEndState C))
      → EndHears k setup came run side (hearer_of c) (end_at (other side) run)
      → EndHears k setup came run (other side) (end_at (other side) run) (hearer_of c)
      → RunHears k setup came (after_hearing number side c (with_line_to side (drop n) run))
  after_heard number side n came run (all_taken h) here there =
      with_both (EndHears k setup came run) side h (changed_line (drop n) (end_at (other side) run)) run.ends here there
  after_heard number side n came run (stopped h) here there =
      with_both (EndHears k setup came run) side h (changed_line (drop n) (end_at (other side) run)) run.ends here there

  pass_heard : (number : ℕ) (side : Side) (n : ℕ) (came : AtBoth (List ℕ)) (run : Run C) → RunHears k setup came run
      → RunHears k setup (comes (Pass side n) run came) (after_event k setup number (Pass side n) run)
  pass_heard number side n came run hear =
      let x = end_at side run in
      let y = end_at (other side) run in
      let p = participant k setup run side in
      let q = participant k setup run (other side) in
      let brought = (at (other side) run.brought).number in
      let piece = take n y.end.line in
      let before = at side came in
      let far = at (other side) came in
      let heard = hears_next k setup side n run in
      after_heard number side n (comes (Pass side n) run came) run heard
      (subst (λ (bytes : List ℕ). AreBytes bytes → Hears p (at side run.brought).number bytes (hearer_of heard) y.end.log.packets)
      (sym (at_here side (before ++ piece) came))
      (λ all. hears_piece p (at side run.brought).number y.end.log.packets before piece x all (hear side (bytes_in_front before piece all))))
      (subst (λ (bytes : List ℕ). AreBytes bytes → Hears q brought bytes y (hearer_of heard).end.log.packets)
      (sym (at_there side (before ++ piece) came))
      (far_piece p y.end.log.packets (λ (ps : List PacketValue). AreBytes far → Hears q brought far y ps)
      (λ emitted more hears all. emits_more q brought far y.end.state y.held y.end.log.arrivals y.end.log.passed emitted more (hears all))
      piece x (from_other (EndHears k setup came run) run.ends hear side)))

  event_heard : (number : ℕ) (event : Event) (came : AtBoth (List ℕ)) (run : Run C) → RunHears k setup came run
      → RunHears k setup (comes event run came) (after_event k setup number event run)
  event_heard number (Pass side n) came run b = pass_heard number side n came run b
  event_heard number (Drop side n) came run b = line_heard (other side) (drop n) came run b
  event_heard number (Flip side mask) came run b = line_heard (other side) (flipped mask) came run b
  event_heard number (Insert side byte) came run b = line_heard (other side) (λ line. byte ∷ line) came run b
  event_heard number (Timeout side) came run b = call_heard side time_ran_out came run tt b
  event_heard number (HangUp side) came run b = call_heard side line_lost came run tt b
  event_heard number Call came run b =
      begins_heard (run.past ++ at_each (λ side. report_of_end (hung_up k setup run side).end) ∷ [])
      (at_each (λ side. renewed (has_now k setup run side)))

  heard_unless : (verdict : LineVerdict) (more : Run C → Run C) (with_more : AtBoth (List ℕ) → AtBoth (List ℕ)) (came : AtBoth (List ℕ)) (run : Run C)
      → RunHears k setup came run → RunHears k setup (with_more came) (more run) → RunHears k setup (while_clean verdict with_more came) (unless_fooled verdict more run)
  heard_unless Clean more with_more came run b later = later
  heard_unless (Fooled number side) more with_more came run b later = b

  all_heard : (number : ℕ) (events : List Event) (came : AtBoth (List ℕ)) (run : Run C) → RunHears k setup came run
      → RunHears k setup (comes_with k setup number events run came) (goes_through k setup number events run)
  all_heard number [] came run b = b
  all_heard number (event ∷ events) came run b =
      heard_unless run.verdict (λ before. goes_through k setup (suc number) events (after_event k setup number event before))
      (λ so_far. comes_with k setup (suc number) events (after_event k setup number event run) (comes event run so_far)) came run b
      (all_heard (suc number) events (comes event run came) (after_event k setup number event run) (event_heard number event came run b))

  run_heard : (events : List Event) → RunHears k setup (came_in k setup events) (run_of k setup events)
  run_heard events =
      all_heard 0 events nothing_came (first_run k setup) (begins_heard [] (at_each (λ side. renewed (at side setup).belongings)))

  -- ---- for readers

  pub heard_at : (events : List Event) (side : Side) → AreBytes (at side (came_in k setup events))
      → HasHeardAt k setup (at side (came_in k setup events)) (run_of k setup events) side
  heard_at events side all = (run_heard events side all).heard

  nothing_waits : (h : Buffered (LineEndState C)) → h.end.state.stage ≡ linked → FindsNothingMore h → search_of h.held ≡ waiting h.held
  nothing_waits h on none =
      by_search (search_of h.held) refl (subst (λ s. finding s h.held ≡ finds_nothing h.held) on none)
    where
      by_search : (search : Search) → search_of h.held ≡ search → item_finding search ≡ finds_nothing h.held → search_of h.held ≡ waiting h.held
      by_search (waiting rest) e is = let same : rest ≡ h.held = cc in e ∙ ap waiting same
      by_search (standing (found q) size from) e is = absurd cc
      by_search (standing bad size from) e is = absurd cc

  pub scanned_at : (events : List Event) (side : Side) → AreBytes (at side (came_in k setup events))
      → FindsNothingMore (end_at side (run_of k setup events))
      → (heard : HasHeardAt k setup (at side (came_in k setup events)) (run_of k setup events) side)
      → HasScanned k setup (at side (came_in k setup events)) (run_of k setup events) side heard
  scanned_at events side all none heard on =
      let h = end_at side (run_of k setup events) in
      let came = at side (came_in k setup events) in
      let p = participant k setup (run_of k setup events) side in
      let left : IsLeft p (at side (run_of k setup events).brought).number linked h.end.state heard.texts heard.items heard.others came h.held =
      subst (λ s. IsLeft p (at side (run_of k setup events).brought).number s h.end.state heard.texts heard.items heard.others came h.held) on heard.left in
      let same : heard.others ≡ h.held = left.0 in
      let link : Finds heard.begins heard.items h.held = subst (Finds heard.begins heard.items) same heard.link in
      let are : AreBytes h.held = bytes_found heard.begins h.held heard.items link (bytes_behind_texts heard.texts heard.begins came heard.greeting all) in
      record { finds = link; waits = ((search_finds_rest h.held h.held are).0 (nothing_waits h on none)).1 }
