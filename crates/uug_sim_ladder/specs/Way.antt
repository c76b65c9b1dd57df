-- Of what each byte on the way from an end is, and what becomes of that (this project's profile). They leave the line in the
-- order in which they came.
use Rattle.std.specs.Prelude.{ℕ, ◌==◌, Bool, true, false, List, [], ◌∷◌, length, take, drop, slice_index_or, slice_set, Option, Some, None, if◌then◌else◌}
use Rattle.uug_sim_ladder.specs.declared.rung.Fate.{Fate}
use Rattle.uug_sim_ladder.specs.declared.rung.Fate.TheVariants.{OnTheWay, Arrives, Lost}
use Rattle.uug_sim_ladder.specs.declared.way.WayByte.{WayByte}

-- ---- what becomes of what was sent

-- the fate, unless there is another one already
abbrev pub settled : (fate before : Fate) → Fate
settled fate OnTheWay = fate
settled fate (Arrives event) = Arrives event
settled fate (Lost event) = Lost event

-- of the rung at this place
abbrev pub settled_at : (place : ℕ) → Fate → List Fate → List Fate
settled_at place fate fates = slice_set fates place (settled fate (slice_index_or fates place OnTheWay))

abbrev pub settled_by : Option ℕ → Fate → List Fate → List Fate
settled_by None fate fates = fates
settled_by (Some place) fate fates = settled_at place fate fates

-- what was sent has arrived with its last byte
abbrev pub arrived_by : (is_last : Bool) → Option ℕ → (event : ℕ) → List Fate → List Fate
arrived_by true of event fates = settled_by of (Arrives event) fates
arrived_by false of event fates = fates

-- these bytes come to the other end
abbrev pub arrived : (event : ℕ) → List WayByte → List Fate → List Fate
arrived event [] fates = fates
arrived event (b ∷ bs) fates = arrived event bs (arrived_by b.is_last b.of event fates)

-- these are lost, or changed: each loses what it is of
abbrev pub lost : (event : ℕ) → List WayByte → List Fate → List Fate
lost event [] fates = fates
lost event (b ∷ bs) fates = lost event bs (settled_by b.of (Lost event) fates)

-- ---- what is on the way

-- these bytes are the last ones of what the rung at this place sends
abbrev pub rest_of : (place : ℕ) → List ℕ → List WayByte
rest_of place [] = []
rest_of place (b ∷ bs) =
    record { of = Some place; is_first = false; is_last = length bs == 0 } ∷ rest_of place bs

abbrev pub sent_by : (place : ℕ) → List ℕ → List WayByte
sent_by place [] = []
sent_by place (b ∷ bs) =
    record { of = Some place; is_first = true; is_last = length bs == 0 } ∷ rest_of place bs

-- a byte that was put in
abbrev pub put_in : WayByte
put_in = record { of = None; is_first = true; is_last = true }

-- ---- what an event does: what is on the way then, and the fates

pub record Way : Type 0 where
  pub bytes : List WayByte
  pub fates : List Fate

-- the next bytes, so many or all, are lost
abbrev pub drops : (event n : ℕ) → Way → Way
drops event n w = record { bytes = drop n w.bytes; fates = lost event (take n w.bytes) w.fates }

-- they come to the other end
abbrev pub passes : (event n : ℕ) → Way → Way
passes event n w = record { bytes = drop n w.bytes; fates = arrived event (take n w.bytes) w.fates }

-- the next byte is changed, where the mask changes anything
abbrev pub flips_by : (is_none : Bool) → (event : ℕ) → Way → Way
flips_by true event w = w
flips_by false event w = record { bytes = w.bytes; fates = lost event (take 1 w.bytes) w.fates }

abbrev pub flips : (event mask : ℕ) → Way → Way
flips event mask w = flips_by (mask == 0) event w

-- a byte is put in front of the next one; what that one is of is lost, where it is not its first byte
abbrev pub split_by : (event : ℕ) → List WayByte → List Fate → List Fate
split_by event [] fates = fates
split_by event (b ∷ bs) fates = if b.is_first then fates else lost event (b ∷ []) fates

abbrev pub inserts : (event : ℕ) → Way → Way
inserts event w = record { bytes = put_in ∷ w.bytes; fates = split_by event w.bytes w.fates }
