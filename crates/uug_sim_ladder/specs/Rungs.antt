-- What occurs in the sessions of a run, as values (this project's profile).
use Rattle.std.specs.Prelude.{ℕ, Bool, List, [], ◌∷◌, ◌++◌, map, Option}
use Rattle.uug_conversation.specs.declared.side.Side.{Side}
use Rattle.uug_session.specs.declared.phase.Phase.{Phase}
use Rattle.uug_sim_ladder.specs.declared.ladder.Ladder.{Ladder}
use Rattle.uug_sim_ladder.specs.declared.rung.Fate.{Fate}
use Rattle.uug_sim_ladder.specs.declared.rung.Fate.TheVariants.{OnTheWay}
use Rattle.uug_sim_ladder.specs.declared.rung.Rung.{Rung}
use Rattle.uug_sim_ladder.specs.declared.rung.What.{What}
use Rattle.uug_sim_ladder.specs.declared.rung.What.TheVariants.{Begins, Says, Sends, TimesOut, HangsUp, Takes, Stores, Strikes, Fails, Comes}

-- what occurs at an end
pub data WhatValue : Type 0 where
  -- the session of this number begins
  begins : ℕ → WhatValue
  -- it sends a text in its frame; or a packet, as it is spelled, and whether its message was sent before
  says : (bytes : List ℕ) → WhatValue
  sends : (bytes : List ℕ) → (again : Bool) → WhatValue
  times_out : WhatValue
  hangs_up : WhatValue
  -- so many by now: messages taken, files stored, jobs done, jobs given up
  takes : ℕ → WhatValue
  stores : ℕ → WhatValue
  strikes : ℕ → WhatValue
  fails : ℕ → WhatValue
  -- its session comes so far
  comes : Phase → WhatValue

pub record RungValue : Type 0 where
  pub event : Option ℕ
  pub side : Side
  pub what : WhatValue

-- all of them in order, and for each what becomes of what it sends
pub record LadderValue : Type 0 where
  pub rungs : List RungValue
  pub fates : List Fate

abbrev pub no_rungs : LadderValue
no_rungs = record { rungs = []; fates = [] }

-- one more, which is on the way if it is sent
abbrev pub added : Option ℕ → Side → WhatValue → LadderValue → LadderValue
added event side what l = record {
  rungs = l.rungs ++ record { event = event; side = side; what = what } ∷ [];
  fates = l.fates ++ OnTheWay ∷ [];
}

-- ---- as the program keeps them

abbrev pub what_shown : {A : Type 0} → What A → WhatValue
what_shown (Begins number) = begins number
what_shown (Says bytes) = says bytes.items
what_shown (Sends packet again) = sends packet.items again
what_shown TimesOut = times_out
what_shown HangsUp = hangs_up
what_shown (Takes count) = takes count
what_shown (Stores count) = stores count
what_shown (Strikes count) = strikes count
what_shown (Fails count) = fails count
what_shown (Comes phase) = comes phase

abbrev pub rung_shown : {A : Type 0} → Rung A → RungValue
rung_shown r = record { event = r.event; side = r.side; what = what_shown r.what }

abbrev pub ladder_shown : {A : Type 0} → Ladder A → LadderValue
ladder_shown l = record { rungs = map rung_shown l.rungs.items; fates = l.fates.items }
