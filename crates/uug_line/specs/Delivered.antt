-- The bytes that came to the ends of a line in a session, and what each has found in them (this project's profile).
use Rattle.std.specs.Prelude.{◌≡◌, ℕ, suc, false, List, [], ◌∷◌, ◌++◌, length, take, Option, ◌⊎◌}
use Rattle.uug_conversation.specs.Turns.{other}
use Rattle.uug_packet.specs.Packet.{PacketValue}
use Rattle.uug_reader.specs.Cut.{Item, found, bad}
use Rattle.uug_reader.specs.Scan.{Finds, IsScan}
use Rattle.uug_session.specs.declared.end.End.{End}
use Rattle.uug_session.specs.declared.greeting.AwaitedText.{AwaitedText}
use Rattle.uug_session.specs.declared.greeting.Greeted.TheVariants.{Ended, GoesOn, LinkBegins}
use Rattle.uug_session.specs.declared.greeting.Greeting.{Greeting}
use Rattle.uug_session.specs.EndStep.{EndEvent, EndState, Identity, Stage, hailing, linked, ended, end_step, packet_found_whole, broken_found, time_ran_out, line_lost}
use Rattle.uug_session.specs.Greeting.{greeting_at_first}
use Rattle.uug_session.specs.TextsFound.{Taken}
use Rattle.uug_session.specs.WholeGreeting.{GreetingRun, texts_came}
use Rattle.uug_talk.specs.StreamTexts.{Rest, StandBefore}
use Rattle.uug_line.specs.declared.event.Event.{Event}
use Rattle.uug_line.specs.declared.event.Event.TheVariants.{Pass, Drop, Flip, Insert, Timeout, HangUp, Call}
use Rattle.uug_conversation.specs.declared.side.Side.{Side}
use Rattle.uug_line.specs.declared.verdict.LineVerdict.{LineVerdict}
use Rattle.uug_line.specs.declared.verdict.LineVerdict.TheVariants.{Clean, Fooled}
use Rattle.uug_line.specs.Belongings.{SetupValue}
use Rattle.uug_line.specs.LineEndState.{Participant}
use Rattle.uug_line.specs.Run.{Run, end_at, after_event, first_run, participant}
use Rattle.uug_line.specs.RunKeeper.{RunKeeper}
use Rattle.uug_conversation.specs.Sides.{AtBoth, at, with_at}
use Rattle.uug_line.specs.WereSent.{HavePlaces}

-- ---- the bytes that came

abbrev pub nothing_came : AtBoth (List ℕ)
nothing_came = record { at_caller = []; at_called = [] }

-- all that came in the session, with an event
abbrev pub comes : {C : Type 0} → Event → Run C → (before : AtBoth (List ℕ)) → AtBoth (List ℕ)
comes (Pass side n) run before = with_at side (at side before ++ take n (end_at (other side) run).end.line) before
comes (Drop side n) run before = before
comes (Flip side mask) run before = before
comes (Insert side byte) run before = before
comes (Timeout side) run before = before
comes (HangUp side) run before = before
comes Call run before = nothing_came

-- to a run that is fooled nothing comes
abbrev pub while_clean : LineVerdict → (more : AtBoth (List ℕ) → AtBoth (List ℕ)) → AtBoth (List ℕ) → AtBoth (List ℕ)
while_clean Clean more before = more before
while_clean (Fooled event side) more before = before

-- with the events from that number on
abbrev pub comes_with : {C : Type 0} → RunKeeper C → SetupValue → (number : ℕ) → List Event → Run C →
    AtBoth (List ℕ) → AtBoth (List ℕ)
comes_with k setup number [] run before = before
comes_with k setup number (event ∷ events) run before = while_clean run.verdict
    (λ so_far. comes_with k setup (suc number) events (after_event k setup number event run) (comes event run so_far)) before

-- in the session that is the present one behind these events
abbrev pub came_in : {C : Type 0} → RunKeeper C → SetupValue → List Event → AtBoth (List ℕ)
came_in k setup events = comes_with k setup 0 events (first_run k setup) nothing_came

-- ---- what was found in them

abbrev pub packets_among : List Item → List PacketValue
packets_among [] = []
packets_among (found packet ∷ items) = packet ∷ packets_among items
packets_among (bad ∷ items) = packets_among items

-- what these texts make of the greeting of an end that is so called and brings this number or none, from its start
abbrev pub greeted_by : Identity → (number : Option ℕ) → (texts : List (List ℕ)) → GreetingRun
greeted_by id number texts = texts_came id.me id.peer texts (Rest []) number (greeting_at_first id.side)

-- with all of these texts the greeting goes on, awaits this, and leaves the end this number or none
pub record GreetsOn (id : Identity) (number : Option ℕ) (texts : List (List ℕ)) (awaited : AwaitedText) (kept : Option ℕ) : Type 0 where
  pub greeting : Greeting
  pub goes_on : (greeted_by id number texts).greeted ≡ GoesOn greeting
  pub awaits : greeting.awaited ≡ awaited
  pub keeps : (greeted_by id number texts).number ≡ kept

-- with the last of these texts, and not before, the greeting was over and the link began
pub record LinkBeganWith (id : Identity) (number : Option ℕ) (texts : List (List ℕ)) (kept : Option ℕ) : Type 0 where
  pub begins : (greeted_by id number texts).greeted ≡ LinkBegins
  pub used : (greeted_by id number texts).used ≡ length texts
  pub keeps : (greeted_by id number texts).number ≡ kept

-- with the last of these texts, and not before, the greeting failed, and the session ended so
pub record GreetingFailed (id : Identity) (number : Option ℕ) (texts : List (List ℕ)) (how : End) (kept : Option ℕ) : Type 0 where
  pub fails : (greeted_by id number texts).greeted ≡ Ended how
  pub used : (greeted_by id number texts).used ≡ length texts
  pub keeps : (greeted_by id number texts).number ≡ kept

-- An end whose session ended in its greeting has used all of these texts for it. With the last of them it failed; or it would
-- have gone on with them all, and the end came by a text that is too long, by a timeout or by a hang-up.
abbrev pub EndedInGreeting : Identity → (number : Option ℕ) → (texts : List (List ℕ)) → End → (kept : Option ℕ) → Type 0
EndedInGreeting id number texts how kept =
    ((awaited : AwaitedText) × GreetsOn id number texts awaited kept) ⊎ GreetingFailed id number texts how kept

-- what an item is to the end that takes it up
abbrev pub event_of : Item → EndEvent
event_of (found packet) = packet_found_whole false packet
event_of bad = broken_found

-- with this event, and not before, an end that was on its link has ended, and stands so
pub record EndedWith {C : Type 0} (p : Participant C) (event : EndEvent) (now : EndState C) : Type 0 where
  pub before : EndState C
  pub on_link : before.stage ≡ linked
  pub step : (end_step p.keeper p.identity event before).state ≡ now

-- with the last of these items
pub record EndedWithLast {C : Type 0} (p : Participant C) (items : List Item) (now : EndState C) : Type 0 where
  pub earlier : List Item
  pub last : Item
  pub item : items ≡ earlier ++ last ∷ []
  pub ends : EndedWith p (event_of last) now

-- An end whose session ended on its link has ended with the last of its items; or it was still there behind all of
-- them, and ended by a timeout or a hang-up.
abbrev pub EndedOnLink : {C : Type 0} → Participant C → List Item → EndState C → Type 0
EndedOnLink p items now = EndedWithLast p items now ⊎ EndedWith p time_ran_out now ⊎ EndedWith p line_lost now

-- By how far the end has come: in the greeting there are no items, and the texts of what is held go on as those of all
-- bytes do; on the link, which began with the last text, just the bytes behind the last item are held; and an end whose
-- session is over has ended in its greeting, without items, or on its link. It keeps the number that the greeting left it,
-- from the one that it brought.
abbrev pub IsLeft : {C : Type 0} → Participant C → (brought : Option ℕ) → Stage → EndState C → (texts : List (List ℕ)) → List Item →
    (others came held : List ℕ) → Type 0
IsLeft p brought (hailing greeting) now texts items others came held =
    (items ≡ []) × Taken texts came held × GreetsOn p.identity brought texts greeting.awaited now.number
IsLeft p brought linked now texts items others came held =
    (others ≡ held) × LinkBeganWith p.identity brought texts now.number
IsLeft p brought (ended how) now texts items others came held =
    ((items ≡ []) × EndedInGreeting p.identity brought texts how now.number)
    ⊎ (LinkBeganWith p.identity brought texts now.number × EndedOnLink p items now)

-- An end has found texts in all bytes that came to it, and then, from where they end, items of the link. The packets of
-- these, and no others, are written down, each at its place among those that the other end emitted.
pub record HasHeard {C : Type 0} (p : Participant C) (brought : Option ℕ) (came : List ℕ) (now : EndState C) (held arrivals : List ℕ)
    (emitted : List PacketValue) : Type 0 where
  pub texts : List (List ℕ)
  pub begins : List ℕ
  pub greeting : StandBefore texts begins came
  pub items : List Item
  pub others : List ℕ
  pub link : Finds begins items others
  pub places : HavePlaces (packets_among items) arrivals emitted 0
  pub left : IsLeft p brought now.stage now texts items others came held

-- the end on the side, of these bytes
abbrev pub HasHeardAt : {C : Type 0} → RunKeeper C → SetupValue → (came : List ℕ) → Run C → Side → Type 0
HasHeardAt k setup came run side =
    let h = end_at side run in
    HasHeard (participant k setup run side) (at side run.brought).number came h.end.state h.held h.end.log.arrivals
    (end_at (other side) run).end.log.packets

-- On a link nothing more than its items stands in all bytes since it began, and what waits is held.
abbrev pub HasScanned : {C : Type 0} → (k : RunKeeper C) → (setup : SetupValue) → (came : List ℕ) → (run : Run C) →
    (side : Side) → HasHeardAt k setup came run side → Type 0
HasScanned k setup came run side heard =
    (end_at side run).end.state.stage ≡ linked → IsScan heard.begins heard.items (end_at side run).held
