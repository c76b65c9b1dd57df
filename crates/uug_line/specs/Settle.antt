-- How two ends come to the end of what they have to say on a line that has become clean: round by round, in each of which all
-- that stands on it passes to the called end and then to the caller, or, where nothing does, each has waited too long (this
-- project's profile).
use Rattle.std.specs.Prelude.{◌≡◌, ℕ, suc, ◌+◌, ◌-◌, ◌*◌, ◌<◌, ◌≤◌, List, [], ◌∷◌, ◌++◌, length, ⊤}
use Rattle.uug_link.specs.State.{IsPlain, IsUp}
use Rattle.uug_session.specs.declared.end.End.TheVariants.{Done}
use Rattle.uug_conversation.specs.Count.{Count}
use Rattle.uug_session.specs.EndStep.{Stage, ended, linked}
use Rattle.uug_conversation.specs.View.{others_messages}
use Rattle.uug_line.specs.declared.event.Event.{Event}
use Rattle.uug_line.specs.declared.event.Event.TheVariants.{Pass, Timeout}
use Rattle.uug_conversation.specs.declared.side.Side.{Side}
use Rattle.uug_conversation.specs.declared.side.Side.TheVariants.{Caller, Called}
use Rattle.uug_line.specs.declared.verdict.LineVerdict.TheVariants.{Clean}
use Rattle.uug_line.specs.Belongings.{SetupValue}
use Rattle.uug_line.specs.Run.{Run, after_event, end_at, goes_through, has_now, parties}
use Rattle.uug_line.specs.RunKeeper.{RunKeeper, by_numbers, has_after, view_at}
use Rattle.uug_conversation.specs.Sides.{at}
use Rattle.uug_line.specs.World.{world}

-- ---- which runs may settle

-- the bytes that the end on the side has emitted and that are still on the line
abbrev pub line_from : {C : Type 0} → Side → Run C → List ℕ
line_from side run = (end_at side run).end.line

-- The end talks, is not quiet on repeats, and has counted at most six timeouts in a row, and nothing that was said is held or
-- on the line.
pub record EndMaySettle {C : Type 0} (run : Run C) (side : Side) : Type 0 where
  pub on_link : (end_at side run).end.state.stage ≡ linked
  pub is_up : IsUp (end_at side run).end.state.link
  pub plain : IsPlain (end_at side run).end.state.link
  pub timeouts : (end_at side run).end.state.link.timeouts ≤ 6
  pub holds_none : (end_at side run).held ≡ []
  pub empty : line_from side run ≡ []

pub record MaySettle {C : Type 0} (run : Run C) : Type 0 where
  pub clean : run.verdict ≡ Clean
  pub ends : (side : Side) → EndMaySettle run side

-- ---- rounds

abbrev pub IsIdle : {C : Type 0} → Run C → Type 0
IsIdle run = (line_from Caller run ≡ []) × (line_from Called run ≡ [])

-- both sessions are over
abbrev pub IsOver : {C : Type 0} → Run C → Type 0
IsOver run = ((end_at Caller run).end.state.stage ≡ ended Done) × ((end_at Called run).end.state.stage ≡ ended Done)

-- both ends have waited too long; or so many bytes pass to the called end and then so many to the caller
pub data Round : Type 0 where
  late : Round
  passing : (to_called to_caller : ℕ) → Round

abbrev pub events_of : List Round → List Event
events_of [] = []
events_of (late ∷ rounds) = Timeout Caller ∷ Timeout Called ∷ events_of rounds
events_of (passing n m ∷ rounds) = Pass Called n ∷ Pass Caller m ∷ events_of rounds

-- behind two events, the first of which has this number
abbrev pub behind_two : {C : Type 0} → RunKeeper C → SetupValue → (number : ℕ) → (first second : Event) → Run C → Run C
behind_two k setup number first second run = after_event k setup (suc number) second (after_event k setup number first run)

-- These are the rounds from a run on, whose next event has this number: until both sessions are over each is a late one
-- where nothing is on the line, and passes all that is there where something is.
abbrev pub AreRounds : {C : Type 0} → RunKeeper C → SetupValue → (number : ℕ) → List Round → Run C → Type 0
AreRounds k setup number [] run = IsOver run
AreRounds k setup number (late ∷ rounds) run =
    (IsOver run → ⊥) × IsIdle run
    × AreRounds k setup (suc (suc number)) rounds (behind_two k setup number (Timeout Caller) (Timeout Called) run)
AreRounds k setup number (passing n m ∷ rounds) run =
    (IsOver run → ⊥) × (IsIdle run → ⊥) × (n ≡ length (line_from Caller run))
    × (m ≡ length (line_from Called (after_event k setup number (Pass Called n) run)))
    × AreRounds k setup (suc (suc number)) rounds (behind_two k setup number (Pass Called n) (Pass Caller m) run)

-- ---- how far a run has come

abbrev pub one_if_over : Stage → ℕ
one_if_over (ended how) = 1
one_if_over _ = 0

-- how many messages both ends have sent and taken, and how many sessions are over
abbrev pub run_weight : {C : Type 0} → Run C → ℕ
run_weight run =
    let caller = (end_at Caller run).end in
    let called = (end_at Called run).end in
    (length caller.log.taken + length called.log.taken) + (length caller.log.sent + length called.log.sent)
    + (one_if_over caller.state.stage + one_if_over called.state.stage)

-- no end finds a packet in a round that was not sent to it
abbrev pub PassesClean : {C : Type 0} → RunKeeper C → SetupValue → (number to_called to_caller : ℕ) → Run C → Type 0
PassesClean k setup number n m run =
    ((after_event k setup number (Pass Called n) run).verdict ≡ Clean)
    × ((behind_two k setup number (Pass Called n) (Pass Caller m) run).verdict ≡ Clean)

-- each of these rounds passes what is on the lines, and brings the run on
abbrev pub AllBringOn : {C : Type 0} → RunKeeper C → SetupValue → (number : ℕ) → List Round → Run C → Type 0
AllBringOn k setup number [] run = ⊤
AllBringOn k setup number (late ∷ rounds) run = ⊥
AllBringOn k setup number (passing n m ∷ rounds) run =
    let then = behind_two k setup number (Pass Called n) (Pass Caller m) run in
    PassesClean k setup number n m run × (run_weight run < run_weight then) × AllBringOn k setup (suc (suc number)) rounds then

-- ---- what they come to

-- all messages of the other end
abbrev pub all_to : {C : Type 0} → SetupValue → Run C → Side → List (List ℕ)
all_to setup run side = others_messages (view_at (parties setup run.brought) side)

-- The session is done, each of the other's messages is taken, and jobs and store are those behind the whole conversation;
-- the number of its conversations is the one that it has kept.
pub record EndIsSettled {C : Type 0} (k : RunKeeper C) (setup : SetupValue) (run : Run C) (side : Side) : Type 0 where
  pub done : (end_at side run).end.state.stage ≡ ended Done
  pub taken : (end_at side run).end.log.taken ≡ all_to setup run side
  pub has : has_now k setup run side
      ≡ has_after (parties setup run.brought) side (at side run.brought) (end_at side run).end.state.number
      (length (all_to setup run side))

pub record IsSettled {C : Type 0} (k : RunKeeper C) (setup : SetupValue) (run : Run C) : Type 0 where
  pub clean : run.verdict ≡ Clean
  pub ends : (side : Side) → EndIsSettled k setup run side

-- how many messages of the conversation the end on the side has not taken, and how many both
abbrev pub left_at : {C : Type 0} → SetupValue → Run C → Side → ℕ
left_at setup run side = length (all_to setup run side) - length (end_at side run).end.log.taken

abbrev pub left : {C : Type 0} → SetupValue → Run C → ℕ
left setup run = left_at setup run Caller + left_at setup run Called

-- From the world of these events on rounds lead to the end: at most four more than messages were left, and so at most four for
-- each message and 32.
pub record Settles (setup : SetupValue) (events : List Event) : Type 0 where
  pub rounds : List Round
  pub are : AreRounds by_numbers setup (length events) rounds (world setup events)
  pub few : length rounds ≤ left setup (world setup events) + 4
  pub within : length rounds ≤ 4 * left setup (world setup events) + 32
  pub settled : IsSettled by_numbers setup (world setup (events ++ events_of rounds))

-- The same for the program's own loop, from a run on whose next event has this number: behind the first two rounds each
-- brings the run on.
pub record SettlesFrom (setup : SetupValue) (number : ℕ) (run : Run Count) : Type 0 where
  pub to_called : ℕ
  pub to_caller : ℕ
  pub rest : List Round
  pub are : AreRounds by_numbers setup number (late ∷ passing to_called to_caller ∷ rest) run
  pub few : length (late ∷ passing to_called to_caller ∷ rest) ≤ left setup run + 4
  pub first_clean : PassesClean by_numbers setup (suc (suc number)) to_called to_caller
      (behind_two by_numbers setup number (Timeout Caller) (Timeout Called) run)
  pub all_bring_on : AllBringOn by_numbers setup (suc (suc (suc (suc number)))) rest
      (behind_two by_numbers setup (suc (suc number)) (Pass Called to_called) (Pass Caller to_caller)
      (behind_two by_numbers setup number (Timeout Caller) (Timeout Called) run))
  pub settled : IsSettled by_numbers setup
      (goes_through by_numbers setup number (events_of (late ∷ passing to_called to_caller ∷ rest)) run)
