-- What an end of the program sees next in the bytes that came: an item, and of a packet its place among the spellings of
-- those that the other end has emitted.
use Rattle.std.specs.Prelude.{◌≡◌, ◌≢◌, ℕ, ◌<◌, ◌≤◌, List, slice_get, Some, ⊤}
use Rattle.uug_packet.specs.Spelling.{IsWritable, canonical}
use Rattle.uug_session.specs.Node.{ItemValue, NodeState, ShowsItem, item_size, text_item, packet_item, bad_item}
use Rattle.uug_line.specs.declared.sighting.Sighting.{Sighting}
use Rattle.uug_line.specs.declared.sighting.Sighting.TheVariants.{Nothing, Other, At, Unsent}

-- the least place, from `passed` on, at which these bytes stand
pub record StandsAt (bytes : List ℕ) (others : List (List ℕ)) (passed place : ℕ) : Type 0 where
  pub behind : passed ≤ place
  pub there : slice_get others place ≡ Some bytes
  pub least : (i : ℕ) → passed ≤ i → i < place → slice_get others i ≢ Some bytes

-- there is none
abbrev pub StandsNowhere : (bytes : List ℕ) → (others : List (List ℕ)) → (passed : ℕ) → Type 0
StandsNowhere bytes others passed = (i : ℕ) → passed ≤ i → slice_get others i ≢ Some bytes

abbrev pub ItemIsWritable : ItemValue → Type 0
ItemIsWritable (packet_item p) = IsWritable p
ItemIsWritable _ = ⊤

-- the item is seen so
abbrev pub Sights : ItemValue → (others : List (List ℕ)) → (passed : ℕ) → Sighting → Type 0
Sights (packet_item p) others passed (At place) = StandsAt (canonical p) others passed place
Sights (packet_item p) others passed Unsent = StandsNowhere (canonical p) others passed
Sights (text_item text) others passed Other = ⊤
Sights bad_item others passed Other = ⊤
Sights _ others passed _ = ⊥

abbrev pub SightsShown : NodeState → (others : List (List ℕ)) → (passed : ℕ) → Sighting → Type 0
SightsShown n others passed sighting =
    (item : ItemValue) × ShowsItem n.engine.stage n.texts n.packets item × Sights item others passed sighting

-- the item that is shown, or none
abbrev pub SightsNext : NodeState → (others : List (List ℕ)) → (passed : ℕ) → Sighting → Type 0
SightsNext n others passed Nothing = item_size n ≡ 0
SightsNext n others passed Other = SightsShown n others passed Other
SightsNext n others passed (At place) = SightsShown n others passed (At place)
SightsNext n others passed Unsent = SightsShown n others passed Unsent
