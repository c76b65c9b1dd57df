-- Nothing of a ladder arrives, or is lost, before it was sent.
use Rattle.std.specs.Prelude.{⊤}
use Rattle.std.proofs.Common.{◌≡◌, ℕ, zero, suc, ◌+◌, ◌≤◌, ◌==◌, Bool, true, false, List, [], ◌∷◌, ◌++◌, drop, length, take, nat_lt, Option, Some, None, if◌then◌else◌, arith, sym, subst}
use Rattle.uug_conversation.specs.declared.side.Side.{Side}
use Rattle.uug_conversation.specs.declared.side.Side.TheVariants.{Caller, Called}
use Rattle.uug_conversation.specs.Sides.{AtBoth}
use Rattle.uug_line.specs.declared.event.Event.{Event}
use Rattle.uug_line.specs.declared.event.Event.TheVariants.{Pass, Drop, Flip, Insert, Timeout, HangUp, Call}
use Rattle.uug_line.specs.Told.{SpelledEnd}
use Rattle.uug_packet.specs.Decoded.{decoded}
use Rattle.uug_line.specs.Belongings.{SetupValue}
use Rattle.uug_sim_play.specs.Played.{setup_said}
use Rattle.uug_sim_script.specs.Script.{ScriptSays}
use Rattle.uug_session.specs.declared.phase.Phase.{Phase}
use Rattle.uug_sim_ladder.specs.declared.moment.Mark.{Mark}
use Rattle.uug_sim_ladder.specs.declared.moment.Moment.{Moment}
use Rattle.uug_sim_ladder.specs.declared.rung.Fate.{Fate}
use Rattle.uug_sim_ladder.specs.declared.rung.Fate.TheVariants.{OnTheWay, Arrives, Lost}
use Rattle.uug_sim_ladder.specs.declared.way.WayByte.{WayByte}
use Rattle.uug_sim_ladder.specs.Acts.{Drawn, Texts, acts, added_if, comes_to, emits, is_hailing, is_other, is_repeat, new_on, notes, says_texts, sends_packet, sends_packets, text_by, text_byte, text_bytes, with_ladder, without}
use Rattle.uug_sim_ladder.specs.Arrivals.{ComeSince, ComesSince, IsSince, NothingComesBefore}
use Rattle.uug_sim_ladder.specs.Drawing.{DrawingValue, acts_in, begins_session, drawn_at, draws, ends_at, first_drawing, from_other, goes_on, happens, is_fooled, loses_all, opens, side_acts, stepped, steps, unless_fooled, way_from}
use Rattle.uug_sim_ladder.specs.Fronts.{IsLadderOf, front_of, ladder_of, ladder_said}
use Rattle.uug_sim_ladder.specs.Moments.{Front, last_of, moment_told}
use Rattle.uug_sim_ladder.specs.Rungs.{LadderValue, RungValue, WhatValue, added, begins, comes, fails, hangs_up, no_rungs, says, sends, stores, strikes, takes, times_out}
use Rattle.uug_sim_ladder.specs.Way.{Way, arrived, arrived_by, drops, flips, flips_by, inserts, lost, passes, settled, settled_at, settled_by, split_by}

-- the rungs are of events up to this one, and nothing comes before it was sent
abbrev UpTo : (number : ℕ) → List RungValue → List Fate → Type 0
UpTo number [] [] = ⊤
UpTo number [] (fate ∷ fates) = ⊥
UpTo number (r ∷ rungs) [] = ⊥
UpTo number (r ∷ rungs) (fate ∷ fates) = (IsSince r.event number × ComesSince r.event fate) × UpTo number rungs fates

abbrev IsUpTo : (number : ℕ) → LadderValue → Type 0
IsUpTo number l = UpTo number l.rungs l.fates

forgotten : (number : ℕ) (rungs : List RungValue) (fates : List Fate) → UpTo number rungs fates → ComeSince rungs fates
forgotten number [] [] h = tt
forgotten number [] (fate ∷ fates) h = absurd h
forgotten number (r ∷ rungs) [] h = absurd h
forgotten number (r ∷ rungs) (fate ∷ fates) h = (h.0.1, forgotten number rungs fates h.1)

since_later : (number : ℕ) (sent : Option ℕ) → IsSince sent number → IsSince sent (suc number)
since_later number None h = tt
since_later number (Some sent) h = omega (arith, h)

later : (number : ℕ) (rungs : List RungValue) (fates : List Fate) → UpTo number rungs fates → UpTo (suc number) rungs fates
later number [] [] h = tt
later number [] (fate ∷ fates) h = absurd h
later number (r ∷ rungs) [] h = absurd h
later number (r ∷ rungs) (fate ∷ fates) h = ((since_later number r.event h.0.0, h.0.1), later number rungs fates h.1)

-- ---- a rung more

one_more : (number : ℕ) (r : RungValue) (rungs : List RungValue) (fates : List Fate) → IsSince r.event number → UpTo number rungs fates →
    UpTo number (rungs ++ r ∷ []) (fates ++ OnTheWay ∷ [])
one_more number r [] [] s h = ((s, tt), tt)
one_more number r [] (fate ∷ fates) s h = absurd h
one_more number r (q ∷ rungs) [] s h = absurd h
one_more number r (q ∷ rungs) (fate ∷ fates) s h = (h.0, one_more number r rungs fates s h.1)

added_up : (number : ℕ) (event : Option ℕ) (side : Side) (what : WhatValue) (l : LadderValue) → IsSince event number → IsUpTo number l →
    IsUpTo number (added event side what l)
added_up number event side what l s h =
    one_more number (record { event = event; side = side; what = what }) l.rungs l.fates s h

now : (number : ℕ) → IsSince (Some number) number
now number = omega arith

-- ---- what becomes of what was sent

abbrev Settles : (number : ℕ) → Fate → Type 0
Settles number fate = (sent : Option ℕ) → IsSince sent number → ComesSince sent fate

settled_one : (number : ℕ) (sent : Option ℕ) (fate before : Fate) → Settles number fate → IsSince sent number → ComesSince sent before →
    ComesSince sent (settled fate before)
settled_one number sent fate OnTheWay settles s c = settles sent s
settled_one number sent fate (Arrives event) settles s c = c
settled_one number sent fate (Lost event) settles s c = c

settled_up : (number : ℕ) (fate : Fate) → Settles number fate → (rungs : List RungValue) (fates : List Fate) (place : ℕ) →
    UpTo number rungs fates → UpTo number rungs (settled_at place fate fates)
settled_up number fate settles [] [] place h = tt
settled_up number fate settles [] (f ∷ fates) place h = absurd h
settled_up number fate settles (r ∷ rungs) [] place h = absurd h
settled_up number fate settles (r ∷ rungs) (f ∷ fates) zero h =
    ((h.0.0, settled_one number r.event fate f settles h.0.0 h.0.1), h.1)
settled_up number fate settles (r ∷ rungs) (f ∷ fates) (suc place) h = (h.0, settled_up number fate settles rungs fates place h.1)

settled_of : (number : ℕ) (fate : Fate) → Settles number fate → (rungs : List RungValue) (fates : List Fate) (of : Option ℕ) →
    UpTo number rungs fates → UpTo number rungs (settled_by of fate fates)
settled_of number fate settles rungs fates None h = h
settled_of number fate settles rungs fates (Some place) h = settled_up number fate settles rungs fates place h

arrived_one : (number : ℕ) (is_last : Bool) (of : Option ℕ) (rungs : List RungValue) (fates : List Fate) → UpTo number rungs fates →
    UpTo number rungs (arrived_by is_last of number fates)
arrived_one number true of rungs fates h = settled_of number (Arrives number) (λ sent s. s) rungs fates of h
arrived_one number false of rungs fates h = h

arrived_up : (number : ℕ) (bytes : List WayByte) (rungs : List RungValue) (fates : List Fate) → UpTo number rungs fates →
    UpTo number rungs (arrived number bytes fates)
arrived_up number [] rungs fates h = h
arrived_up number (b ∷ bs) rungs fates h =
    arrived_up number bs rungs (arrived_by b.is_last b.of number fates) (arrived_one number b.is_last b.of rungs fates h)

lost_up : (number : ℕ) (bytes : List WayByte) (rungs : List RungValue) (fates : List Fate) → UpTo number rungs fates →
    UpTo number rungs (lost number bytes fates)
lost_up number [] rungs fates h = h
lost_up number (b ∷ bs) rungs fates h =
    lost_up number bs rungs (settled_by b.of (Lost number) fates) (settled_of number (Lost number) (λ sent s. s) rungs fates b.of h)

-- ---- an event on the line

abbrev Keeps : (number : ℕ) → (Way → Way) → Type 0
Keeps number change = (rungs : List RungValue) (w : Way) → UpTo number rungs w.fates → UpTo number rungs (change w).fates

passes_keep : (number n : ℕ) → Keeps number (passes number n)
passes_keep number n rungs w h = arrived_up number (take n w.bytes) rungs w.fates h

drops_keep : (number n : ℕ) → Keeps number (drops number n)
drops_keep number n rungs w h = lost_up number (take n w.bytes) rungs w.fates h

all_keep : (number : ℕ) → Keeps number (loses_all number)
all_keep number rungs w h = drops_keep number (length w.bytes) rungs w h

flipped_up : (number : ℕ) (is_none : Bool) → Keeps number (flips_by is_none number)
flipped_up number true rungs w h = h
flipped_up number false rungs w h = lost_up number (take 1 w.bytes) rungs w.fates h

flips_keep : (number mask : ℕ) → Keeps number (flips number mask)
flips_keep number mask rungs w h = flipped_up number (mask == 0) rungs w h

split_one : (number : ℕ) (b : WayByte) (is_first : Bool) (rungs : List RungValue) (fates : List Fate) → UpTo number rungs fates →
    UpTo number rungs (if is_first then fates else lost number (b ∷ []) fates)
split_one number b true rungs fates h = h
split_one number b false rungs fates h = lost_up number (b ∷ []) rungs fates h

split_up : (number : ℕ) (bytes : List WayByte) (rungs : List RungValue) (fates : List Fate) → UpTo number rungs fates →
    UpTo number rungs (split_by number bytes fates)
split_up number [] rungs fates h = h
split_up number (b ∷ bs) rungs fates h = split_one number b b.is_first rungs fates h

inserts_keep : (number : ℕ) → Keeps number (inserts number)
inserts_keep number rungs w h = split_up number w.bytes rungs w.fates h

other_up : (number : ℕ) (side : Side) (change : Way → Way) (d : DrawingValue) → Keeps number change → IsUpTo number d.ladder →
    IsUpTo number (from_other side change d).ladder
other_up number Caller change d keeps h = keeps d.ladder.rungs (way_from d.ladder d.called) h
other_up number Called change d keeps h = keeps d.ladder.rungs (way_from d.ladder d.caller) h

happens_up : (event : Event) (number : ℕ) (d : DrawingValue) → IsUpTo number d.ladder → IsUpTo number (happens event number d).ladder
happens_up (Pass side n) number d h = other_up number side (passes number n) d (passes_keep number n) h
happens_up (Drop side n) number d h = other_up number side (drops number n) d (drops_keep number n) h
happens_up (Flip side mask) number d h = other_up number side (flips number mask) d (flips_keep number mask) h
happens_up (Insert side byte) number d h = other_up number side (inserts number) d (inserts_keep number) h
happens_up (Timeout side) number d h = added_up number (Some number) side times_out d.ladder (now number) h
happens_up (HangUp side) number d h = added_up number (Some number) side hangs_up d.ladder (now number) h
happens_up Call number d h =
    other_up number Called (loses_all number) (from_other Caller (loses_all number) d) (all_keep number)
    (other_up number Caller (loses_all number) d (all_keep number) h)

-- ---- what an end does

text_up : (number : ℕ) (event : Option ℕ) (side : Side) (is_last : Bool) (text : List ℕ) (d : Drawn) → IsSince event number →
    IsUpTo number d.ladder → IsUpTo number (text_by is_last event side text d).drawn.ladder
text_up number event side true text d s h = added_up number event side (says text) d.ladder s h
text_up number event side false text d s h = h

texts_up : (number : ℕ) (event : Option ℕ) (side : Side) (bytes : List ℕ) (t : Texts) → IsSince event number →
    IsUpTo number t.drawn.ladder → IsUpTo number (text_bytes event side bytes t).drawn.ladder
texts_up number event side [] t s h = h
texts_up number event side (b ∷ bs) t s h =
    texts_up number event side bs (text_byte event side b t) s (text_up number event side (b == 0) (t.text ++ b ∷ []) t.drawn s h)

says_up : (number : ℕ) (event : Option ℕ) (side : Side) (bytes : List ℕ) (d : Drawn) → IsSince event number → IsUpTo number d.ladder →
    IsUpTo number (says_texts event side bytes d).ladder
says_up number event side bytes d s h = texts_up number event side bytes (record { text = []; drawn = d }) s h

sends_up : (number : ℕ) (side : Side) (packets : List (List ℕ)) (d : Drawn) → IsUpTo number d.ladder →
    IsUpTo number (sends_packets number side packets d).ladder
sends_up number side [] d h = h
sends_up number side (bytes ∷ packets) d h =
    sends_up number side packets (sends_packet number side bytes d)
    (added_up number (Some number) side (sends bytes (is_repeat d.end.next (decoded bytes))) d.ladder (now number) h)

emits_up : (number : ℕ) (side : Side) (hails : Bool) (packets : List (List ℕ)) (line : List ℕ) (d : Drawn) → IsUpTo number d.ladder →
    IsUpTo number (emits hails number side packets line d).ladder
emits_up number side true packets line d h =
    sends_up number side packets (says_texts (Some number) side (without packets (new_on line d.end.way)) d)
    (says_up number (Some number) side (without packets (new_on line d.end.way)) d (now number) h)
emits_up number side false packets line d h =
    let sent : Drawn = sends_packets number side packets d in
    says_up number (Some number) side (new_on line sent.end.way) sent (now number) (sends_up number side packets d h)

added_if_up : (number : ℕ) (is : Bool) (side : Side) (what : WhatValue) (l : LadderValue) → IsUpTo number l →
    IsUpTo number (added_if is number side what l)
added_if_up number false side what l h = h
added_if_up number true side what l h = added_up number (Some number) side what l (now number) h

notes_up : (number : ℕ) (side : Side) (before after : Mark) (l : LadderValue) → IsUpTo number l → IsUpTo number (notes number side before after l)
notes_up number side before after l h =
    added_if_up number (nat_lt before.failed after.failed) side (fails after.failed) _
    (added_if_up number (nat_lt before.struck after.struck) side (strikes after.struck) _
    (added_if_up number (nat_lt before.stored after.stored) side (stores after.stored) _
    (added_if_up number (nat_lt before.taken after.taken) side (takes after.taken) l h)))

comes_up : (number : ℕ) (side : Side) (before after : Phase) (l : LadderValue) → IsUpTo number l →
    IsUpTo number (comes_to number side before after l)
comes_up number side before after l h = added_if_up number (is_other before after) side (comes after) l h

acts_up : (number : ℕ) (side : Side) (before after : Mark) (packets : List (List ℕ)) (line : List ℕ) (d : Drawn) → IsUpTo number d.ladder →
    IsUpTo number (acts number side before after packets line d).ladder
acts_up number side before after packets line d h =
    let noted : Drawn = with_ladder (notes number side before after d.ladder) d in
    comes_up number side before.phase after.phase (emits (is_hailing before.phase) number side (drop before.packets packets) line noted).ladder
    (emits_up number side (is_hailing before.phase) (drop before.packets packets) line noted (notes_up number side before after d.ladder h))

side_acts_up : (number : ℕ) (side : Side) (before after : Moment) (told : SpelledEnd) (line : List ℕ) (d : DrawingValue) →
    IsUpTo number d.ladder → IsUpTo number (side_acts number side before after told line d).ladder
side_acts_up number Caller before after told line d h =
    acts_up number Caller before.caller after.caller told.packets line (drawn_at Caller d) h
side_acts_up number Called before after told line d h =
    acts_up number Called before.called after.called told.packets line (drawn_at Called d) h

acts_in_up : (number : ℕ) (before after : Moment) (told : Option (AtBoth SpelledEnd)) (lines : AtBoth (List ℕ)) (d : DrawingValue) →
    IsUpTo number d.ladder → IsUpTo number (acts_in number before after told lines d).ladder
acts_in_up number before after None lines d h = h
acts_in_up number before after (Some told) lines d h =
    side_acts_up number Called before after told.at_called lines.at_called
    (side_acts number Caller before after told.at_caller lines.at_caller d)
    (side_acts_up number Caller before after told.at_caller lines.at_caller d h)

-- ---- a session

begins_up : (number : ℕ) (event : Option ℕ) (session : ℕ) (first : Front) (l : LadderValue) → IsSince event number → IsUpTo number l →
    IsUpTo number (begins_session event session first l).ladder
begins_up number event session first l s h =
    says_up number event Called first.lines.at_called (drawn_at Called (opens event session l)) s
    (added_up number event Caller (begins session) l s h)

ends_up : (number : ℕ) (before : Moment) (over : Option (AtBoth SpelledEnd)) (l : LadderValue) → IsUpTo number l →
    IsUpTo number (ends_at number before over l)
ends_up number before None l h = h
ends_up number before (Some over) l h =
    comes_up number Called before.called.phase over.at_called.phase _
    (comes_up number Caller before.caller.phase over.at_caller.phase l h)

goes_on_up : (same : Bool) (number : ℕ) (before after : Moment) (next : Front) (d : DrawingValue) → IsUpTo number d.ladder →
    IsUpTo number (goes_on same number before after next d).ladder
goes_on_up true number before after next d h = acts_in_up number before after (last_of next.told.sessions) next.lines d h
goes_on_up false number before after next d h =
    begins_up number (Some number) after.session next _ (now number) (ends_up number before _ d.ladder h)

steps_up : (event : Event) (number : ℕ) (before after : Option Moment) (next : Front) (d : DrawingValue) → IsUpTo number d.ladder →
    IsUpTo number (stepped event number before after next d).ladder
steps_up event number None after next d h = h
steps_up event number (Some before) None next d h = h
steps_up event number (Some before) (Some after) next d h =
    goes_on_up (before.session == after.session) number before after next (happens event number d) (happens_up event number d h)

-- ---- the run

unless_up : (number : ℕ) (fooled : Bool) (more : DrawingValue → DrawingValue) (d : DrawingValue) → IsUpTo number d.ladder →
    ((next : DrawingValue) → IsUpTo (suc number) next.ladder → NothingComesBefore (more next).ladder) →
    NothingComesBefore (unless_fooled fooled more d).ladder
unless_up number false more d h goes = goes d (later number d.ladder.rungs d.ladder.fates h)
unless_up number true more d h goes = forgotten number d.ladder.rungs d.ladder.fates h

draws_up : (front : ℕ → Front) (events : List Event) (number : ℕ) (d : DrawingValue) → IsUpTo number d.ladder →
    NothingComesBefore (draws front number events d).ladder
draws_up front [] number d h = forgotten number d.ladder.rungs d.ladder.fates h
draws_up front (event ∷ events) number d h =
    unless_up number (is_fooled (front (suc number)).told.verdict) (draws front (suc number) events)
    (steps event number (front number) (front (suc number)) d)
    (steps_up event number (moment_told (front number).told) (moment_told (front (suc number)).told) (front (suc number)) d h)
    (λ next up. draws_up front events (suc number) next up)

in_order : (setup : SetupValue) (events : List Event) → NothingComesBefore (ladder_of setup events)
in_order setup events =
    draws_up (front_of setup events) events 0 (first_drawing (front_of setup events 0))
    (begins_up 0 None 1 (front_of setup events 0) no_rungs tt tt)

said_in_order : (s : ScriptSays) → NothingComesBefore (ladder_said s)
unfolding ladder_said
said_in_order s = in_order (setup_said s) s.events

pub nothing_comes_before : (text : List ℕ) (ladder : LadderValue) → IsLadderOf text ladder → NothingComesBefore ladder
nothing_comes_before text ladder is = subst NothingComesBefore (sym is.ladder_is) (said_in_order is.says)
