-- Worked examples: what becomes of two bytes that a rung sends, and how that is drawn.
use Rattle.std.proofs.Common.{◌≡◌, [], ◌∷◌, codes, refl}
use Rattle.uug_sim_ladder.specs.declared.rung.Fate.TheVariants.{OnTheWay, Arrives, Lost}
use Rattle.uug_sim_ladder.specs.LadderText.{arrow_left, arrow_right}
use Rattle.uug_sim_ladder.specs.Way.{Way, drops, flips, inserts, passes, sent_by}

abbrev two_sent : Way
two_sent = record { bytes = sent_by 0 (7 ∷ 8 ∷ []); fates = OnTheWay ∷ [] }

-- it arrives with its last byte
half : (passes 3 1 two_sent).fates ≡ OnTheWay ∷ []
half = refl

whole : (passes 4 9 (passes 3 1 two_sent)).fates ≡ Arrives 4 ∷ []
whole = refl

-- it is lost with the first byte that is lost
lost_first : (drops 4 9 (drops 3 1 two_sent)).fates ≡ Lost 3 ∷ []
lost_first = refl

lost_last : (drops 4 9 (passes 3 1 two_sent)).fates ≡ Lost 4 ∷ []
lost_last = refl

-- and where one is changed, unless by nothing
changed_once : (passes 4 9 (flips 3 1 two_sent)).fates ≡ Lost 3 ∷ []
changed_once = refl

not_changed : (passes 4 9 (flips 3 0 two_sent)).fates ≡ Arrives 4 ∷ []
not_changed = refl

-- a byte that is put in splits it, but not before its first byte
split : (passes 5 9 (inserts 4 (passes 3 1 two_sent))).fates ≡ Lost 4 ∷ []
split = refl

in_front : (passes 5 9 (inserts 4 two_sent)).fates ≡ Arrives 5 ∷ []
in_front = refl

-- an arrow each way
to_called : arrow_right (codes "RR 1") OnTheWay ≡ codes "RR 1 -----------------------------------..."
to_called = refl

to_caller : arrow_left (codes "RR 1") OnTheWay ≡ codes "         ...---------------------------------------- RR 1"
to_caller = refl
