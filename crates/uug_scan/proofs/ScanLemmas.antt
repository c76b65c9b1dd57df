-- Lines that are written one item after the other.
use Rattle.std.proofs.Common.{◌≡◌, ℕ, ◌+◌, ◌*◌, ◌-◌, ◌<◌, ◌≤◌, min, List, [], ◌∷◌, ◌++◌, length, take, drop, Option, Some, None, refl, sym, ap, ◌∙◌, arith, append_assoc, subst, length-drop, length-append, length-take, IfSome}
use Rattle.std.specs.Prelude.{⊤}
use Rattle.std.proofs.lemmas.List.{append-nil, take-append-drop, take_rest}
use Rattle.uug_packet.specs.Waits.{Waits}
use Rattle.uug_reader.specs.declared.found.Found.{Found}
use Rattle.uug_reader.specs.Cut.{Item}
use Rattle.uug_reader.specs.Finding.{StandsFirst, PassesNoise}
use Rattle.uug_reader.specs.Loan.{HasSearched}
use Rattle.uug_reader.specs.Reading.{Reading}
use Rattle.uug_reader.proofs.ScanLemmas.{Finds-item, Finds-join, Finds-append, Finds-fewer}
use Rattle.uug_reader.specs.Shown.{item_of}
use Rattle.uug_scan.specs.Listing.{line_of, lines_of, rest_line, listing_of}
use Rattle.uug_stream.specs.Streams.{Appends, Moves}
use Rattle.uug_scan.specs.declared.scan.TheConstants.{PIECE_SIZE}
use Rattle.uug_scan.specs.Scan.{AddsLines, AppendsListing}
use Rattle.uug_stream.proofs.StreamLemmas.{Appends-join}

pub lines_of-append : (items more : List Item) → lines_of (items ++ more) ≡ lines_of items ++ lines_of more
lines_of-append [] more = refl
lines_of-append (item ∷ items) more =
    ap (λ x. line_of item ++ x) (lines_of-append items more) ∙ sym (append_assoc (line_of item) (lines_of items) (lines_of more))

-- items and then more items
pub AddsLines-join : (s middle others x y z : List ℕ) → AddsLines s middle x y → AddsLines middle others y z → AddsLines s others x z
AddsLines-join s middle others x y z h k = (
  h.0 ++ k.0,
  Finds-join s middle others h.0 k.0 h.1 k.1,
  k.2 ∙ ap (λ t. t ++ lines_of k.0) h.2
      ∙ append_assoc x (lines_of h.0) (lines_of k.0)
      ∙ ap (λ t. x ++ t) (sym (lines_of-append h.0 k.0)),
)

-- noise in front, which has no line
AddsLines-noise : (s others x : List ℕ) → PassesNoise s others → AddsLines s others x x
AddsLines-noise s others x h = ([], h, sym (append-nil x))

-- an item at the front, whose line is added
AddsLines-item : (item : Item) (n : ℕ) (s x y : List ℕ) → StandsFirst item n s → y ≡ x ++ line_of item → AddsLines s (drop n s) x y
AddsLines-item item n s x y h e =
    (item ∷ [], Finds-item s item n h, e ∙ ap (λ t. x ++ t) (sym (append-nil (line_of item))))

-- ---- the loop over the items that a reader finds

pub record AddsItem (first old new x z : List ℕ) : Type 0 where
  pub fewer : length new < length old
  pub added : AddsLines first new x z

-- an item is found, its line is added, and it is dropped
adds_item : (item : Item) (n : ℕ) (first old middle new x y z : List ℕ) → AddsLines first old x y → PassesNoise old middle → StandsFirst item n middle → new ≡ drop n middle → z ≡ y ++ line_of item → AddsItem first old new x z
adds_item item n first old middle new x y z added passes stands new_is line_is =
    let found_middle : AddsLines first middle x y = AddsLines-join first old middle x y y added (AddsLines-noise old middle y passes) in
    let next : AddsLines first (drop n middle) x z = AddsLines-join first middle (drop n middle) x y z found_middle (AddsLines-item item n middle y z stands line_is) in
    record {
      fewer = omega (arith, Finds-fewer old middle [] passes, Finds-fewer middle (drop n middle) (item ∷ []) (Finds-item middle item n stands), ap length new_is);
      added = subst (λ t. AddsLines first t x z) (sym new_is) next;
    }

-- the same, as a reader finds it and drops it
pub adds_found : (old ended : Reading) (new : List ℕ) (result : Option Found) (item : Found) (first x y z : List ℕ) → HasSearched old result ended → result ≡ Some item → new ≡ drop ended.shown_size ended.bytes → AddsLines first old.bytes x y → z ≡ y ++ line_of (item_of item) → AddsItem first old.bytes new x z
adds_found old ended new result item first x y z searched is dropped added line_is =
    let here : HasSearched old (Some item) ended = subst (λ r. HasSearched old r ended) is searched in
    adds_item (item_of item) ended.shown_size first old.bytes ended.bytes new x y z added here.passes here.shows.0 dropped line_is

-- nothing more is found
pub adds_ended : (first old ended x y : List ℕ) → AddsLines first old x y → PassesNoise old ended → AddsLines first ended x y
adds_ended first old ended x y added passes = AddsLines-join first old ended x y y added (AddsLines-noise old ended y passes)

-- ---- the loop over a piece

AddsLines-append : (s others t x y : List ℕ) → AddsLines s others x y → AddsLines (s ++ t) (others ++ t) x y
AddsLines-append s others t x y h = (h.0, Finds-append s others t h.0 h.1, h.2)

pub record AddsTaken (first rest old new x z : List ℕ) : Type 0 where
  pub fewer : length new < length old
  pub added : AddsLines first (rest ++ new) x z

-- the reader takes the first bytes of what is left of a piece, and the lines of its items are added
pub adds_taken : (n size : ℕ) (first held rest grown left behind x y z : List ℕ) → AddsLines first (held ++ rest) x y → n ≡ min (size - length held) (length rest) → length held < size → 0 < length rest → grown ≡ held ++ take n rest → left ≡ take (length rest - n) (drop n rest) → AddsLines grown behind y z → AddsTaken first behind rest left x z
adds_taken n size first held rest grown left behind x y z added count room some grown_is left_is next =
    let left_rest : left ≡ drop n rest = left_is ∙ take_rest rest n in
    let same : held ++ rest ≡ grown ++ left = ap (λ t. held ++ t) (sym (take-append-drop n rest)) ∙ sym (append_assoc held (take n rest) (drop n rest)) ∙ ap (λ t. t ++ drop n rest) (sym grown_is) ∙ ap (λ t. grown ++ t) (sym left_rest) in
    record {
      fewer = omega (arith, count, room, some, ap length left_rest, length-drop n rest);
      added = AddsLines-join first (grown ++ left) (behind ++ left) x y z (subst (λ t. AddsLines first t x y) same added) (AddsLines-append grown behind left y z next);
    }

-- ---- the loop over the reads of an input

-- After some reads of an input that tells its bytes: those that are held and those still to come are what
-- the parts have left whose lines were written so far, and each read moved a byte or more, up to a piece.
abbrev pub Progress : ℕ → Option (List ℕ) → Option (List ℕ) → List ℕ → Option (List ℕ) → Option (List ℕ) → Type 0
Progress reads None now held x y = ⊤
Progress reads (Some bytes) now held x y =
    (rest : List ℕ) × (now ≡ Some rest) × (reads + length rest ≤ length bytes) × (length bytes ≤ length rest + reads * PIECE_SIZE)
    × (text : List ℕ) × AddsLines bytes (held ++ rest) [] text × Appends text x y

-- a piece is read, and the lines of the parts of what is then held are written
pub Progress-piece : (reads n : ℕ) (first now then : Option (List ℕ)) (held others buffer lines : List ℕ) (x y z : Option (List ℕ)) → Progress reads first now held x y → Moves n buffer now then → (n ≡ 0 → ⊥) → n ≤ length buffer → length buffer ≡ PIECE_SIZE → AddsLines (held ++ take n buffer) others [] lines → Appends lines y z → Progress (reads + 1) first then others x z
Progress-piece reads n None now then held others buffer lines x y z h moves some fits size added appended = tt
Progress-piece reads n (Some bytes) now then held others buffer lines x y z h moves some fits size added appended =
    let moved : Moves n buffer (Some h.0) then = rw h.1 at moves in
    let piece = take n buffer in
    let regrouped : held ++ h.0 ≡ (held ++ piece) ++ moved.0 = ap (λ t. held ++ t) moved.2 ∙ sym (append_assoc held piece moved.0) in
    let before : AddsLines bytes ((held ++ piece) ++ moved.0) [] h.4 = subst (λ t. AddsLines bytes t [] h.4) regrouped h.5 in
    let behind : AddsLines (held ++ piece) others h.4 (h.4 ++ lines) = (added.0, added.1, ap (λ t. h.4 ++ t) added.2) in
    let after = AddsLines-append (held ++ piece) others moved.0 h.4 (h.4 ++ lines) behind in (
      moved.0,
      moved.1,
      omega (arith, h.2, some, fits, length-take n buffer, ap length moved.2, length-append piece moved.0),
      omega (arith, h.3, fits, size, length-take n buffer, ap length moved.2, length-append piece moved.0),
      h.4 ++ lines,
      AddsLines-join bytes ((held ++ piece) ++ moved.0) (others ++ moved.0) [] h.4 (h.4 ++ lines) before after,
      Appends-join h.4 lines x y z h.6 appended,
    )

-- the end of the input is found
pub Progress-end : (reads : ℕ) (first now then : Option (List ℕ)) (held buffer : List ℕ) (x y : Option (List ℕ)) → Progress reads first now held x y → Moves 0 buffer now then → IfSome first (λ bytes. (then ≡ Some []) × (text : List ℕ) × AddsLines bytes held [] text × Appends text x y)
Progress-end reads None now then held buffer x y h moves = tt
Progress-end reads (Some bytes) now then held buffer x y h moves =
    let moved : Moves 0 buffer (Some h.0) then = rw h.1 at moves in
    let none : h.0 ≡ [] = moved.3 refl in (
      moved.1 ∙ ap Some (sym moved.2 ∙ none),
      h.4,
      subst (λ t. AddsLines bytes t [] h.4) (ap (λ t. held ++ t) none ∙ append-nil held) h.5,
      h.6,
    )

-- the line for the rest makes the listing whole
AppendsListing-rest : (bytes rest text line : List ℕ) (x y z : Option (List ℕ)) → AddsLines bytes rest [] text → Appends text x y → Waits rest → line ≡ rest_line rest → Appends line y z → AppendsListing bytes x z
AppendsListing-rest bytes rest text line None y z h written waits e a = tt
AppendsListing-rest bytes rest text line (Some before) y z h written waits e a =
    let appended : Appends line (Some (before ++ text)) z = rw written at a in (
      listing_of h.0 rest,
      record { items = h.0; rest = rest; scan = record { finds = h.1; waits = waits }; text_is = refl },
      appended ∙ ap Some (append_assoc before text line ∙ ap (λ t. before ++ (t ++ line)) h.2 ∙ ap (λ t. before ++ (lines_of h.0 ++ t)) e),
    )

-- the input has ended, and the line for the rest was written
pub AppendsListing-end : (reads n : ℕ) (first now then : Option (List ℕ)) (held buffer line : List ℕ) (x y z : Option (List ℕ)) → Progress reads first now held x y → n ≡ 0 → Moves n buffer now then → Waits held → line ≡ rest_line held → Appends line y z → IfSome first (λ bytes. AppendsListing bytes x z)
AppendsListing-end reads n None now then held buffer line x y z h zero moves waits line_is appended = tt
AppendsListing-end reads n (Some bytes) now then held buffer line x y z h zero moves waits line_is appended =
    let end = Progress-end reads (Some bytes) now then held buffer x y h (subst (λ m. Moves m buffer now then) zero moves) in
    AppendsListing-rest bytes held end.1 line x y z end.2 end.3 waits line_is appended
