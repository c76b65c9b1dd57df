-- A ladder as a text (this project's profile): two columns, the caller left and the called end right, and a line for each
-- rung.
use Rattle.std.specs.Prelude.{ℕ, ◌-◌, Bool, true, false, List, [], ◌∷◌, ◌++◌, codes, length, replicate, Option, Some, None}
use Rattle.std.specs.Fmt.{decimal}
use Rattle.uug_conversation.specs.declared.side.Side.{Side}
use Rattle.uug_conversation.specs.declared.side.Side.TheVariants.{Caller, Called}
use Rattle.uug_sim_ladder.specs.declared.rung.Fate.{Fate}
use Rattle.uug_sim_ladder.specs.declared.rung.Fate.TheVariants.{OnTheWay, Arrives, Lost}
use Rattle.uug_sim_ladder.specs.Labels.{label}
use Rattle.uug_sim_ladder.specs.Rungs.{LadderValue, RungValue, WhatValue, begins, says, sends}

abbrev pub spaces : ℕ → List ℕ
spaces n = replicate n 32

abbrev pub dashes : ℕ → List ℕ
dashes n = replicate n 45

-- the number of an event, right in five columns, and two spaces
abbrev pub event_words : Option ℕ → List ℕ
event_words None = codes "start"
event_words (Some number) = decimal number

abbrev pub event_cell : Option ℕ → List ℕ
event_cell event = spaces (5 - length (event_words event)) ++ event_words event ++ codes "  "

-- an arrow to the right, in 40 columns, and its end: where it arrives another 12
abbrev pub tip_right : Fate → List ℕ
tip_right OnTheWay = codes "..."
tip_right (Arrives event) = codes "-----------> " ++ decimal event
tip_right (Lost event) = codes "x " ++ decimal event

abbrev pub arrow_right : (words : List ℕ) → Fate → List ℕ
arrow_right words fate = words ++ codes " " ++ dashes (39 - length words) ++ tip_right fate

-- an arrow to the left: its end in 12 columns, and another 40
abbrev pub tip_left : Fate → List ℕ
tip_left OnTheWay = codes "..."
tip_left (Arrives event) = decimal event ++ codes " <"
tip_left (Lost event) = decimal event ++ codes " x"

abbrev pub in_tip : Fate → (words : List ℕ) → List ℕ
in_tip OnTheWay words = spaces (12 - length words) ++ words
in_tip (Arrives event) words = words ++ dashes (12 - length words)
in_tip (Lost event) words = spaces (12 - length words) ++ words

abbrev pub arrow_left : (words : List ℕ) → Fate → List ℕ
arrow_left words fate = in_tip fate (tip_left fate) ++ dashes 40 ++ codes " " ++ words

abbrev pub arrow : Side → (words : List ℕ) → Fate → List ℕ
arrow Caller words fate = arrow_right words fate
arrow Called words fate = arrow_left words fate

-- what occurs at an end stands in its column
abbrev pub note : Side → (words : List ℕ) → List ℕ
note Caller words = words
note Called words = codes "                                                     " ++ words

-- the two lines with which a session begins
abbrev pub head_lines : (words : List ℕ) → List ℕ
head_lines words = words ++ codes "\nevent  caller                                               called\n"

-- what is sent has an arrow
abbrev pub has_arrow : WhatValue → Bool
has_arrow (says bytes) = true
has_arrow (sends bytes again) = true
has_arrow _ = false

abbrev pub begins_one : WhatValue → Bool
begins_one (begins number) = true
begins_one _ = false

abbrev pub mark_by : (has_arrow : Bool) → Side → (words : List ℕ) → Fate → List ℕ
mark_by true side words fate = arrow side words fate
mark_by false side words fate = note side words

abbrev pub lines_by : (begins : Bool) → RungValue → Fate → List ℕ
lines_by true r fate = head_lines (label r.what)
lines_by false r fate =
    event_cell r.event ++ mark_by (has_arrow r.what) r.side (label r.what) fate ++ codes "\n"

abbrev pub rung_lines : RungValue → Fate → List ℕ
rung_lines r fate = lines_by (begins_one r.what) r fate

abbrev pub rungs_text : List RungValue → List Fate → List ℕ
rungs_text [] fates = []
rungs_text (r ∷ rungs) [] = []
rungs_text (r ∷ rungs) (fate ∷ fates) = rung_lines r fate ++ rungs_text rungs fates

abbrev pub ladder_text : LadderValue → List ℕ
ladder_text l = rungs_text l.rungs l.fates
