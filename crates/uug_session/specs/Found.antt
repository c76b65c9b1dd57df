-- What an end finds in all bytes that came to it, in whatever pieces they came: in the greeting their texts, behind it the
-- items of the link. That bytes in front of a text and noise are skipped is this project's profile.
use Rattle.std.specs.Prelude.{◌≡◌, ◌≢◌, ℕ, List, [], ◌∷◌, ◌++◌, Option, Some, None}
use Rattle.uug_packet.specs.Packet.{PacketValue}
use Rattle.uug_reader.specs.Cut.{Item, found, bad}
use Rattle.uug_reader.specs.Finding.{StandsFirst}
use Rattle.uug_reader.specs.Scan.{Finds, IsScan}
use Rattle.uug_talk.specs.StreamTexts.{TooLong, StandBefore, texts_of}
use Rattle.uug_session.specs.declared.greeting.Greeting.{Greeting}
use Rattle.uug_session.specs.Arriving.{Receiver, Arrival, all_taken, stopped, holds, takes_all}
use Rattle.uug_session.specs.EndStep.{Stage, hailing, linked, text_found, long_text_found, broken_found}
use Rattle.uug_session.specs.TextsFound.{Taken}

-- ---- the texts of the greeting

abbrev pub Hails : Stage → Type 0
Hails stage = (greeting : Greeting) × (stage ≡ hailing greeting)

-- the texts are taken up, one after the other, each while it hails
abbrev pub TakesTexts : {X : Type 0} → Receiver X → X → (texts : List (List ℕ)) → X → Type 0
TakesTexts t x [] y = x ≡ y
TakesTexts t x (text ∷ texts) y = Hails (t.stage_of x) × TakesTexts t (t.takes (text_found text) x) texts y

-- These texts were taken up of all bytes that came. How it goes on:
pub data BehindTexts {X : Type 0} (t : Receiver X) (came : List ℕ) (texts : List (List ℕ)) (last : X) (now : Arrival X) : Type 0 where
  -- there are no others, and it hails still; this waits
  hails_on : (rest : List ℕ) → Hails (t.stage_of last) → (texts_of came).texts ≡ texts → Taken texts came rest
      → now ≡ all_taken (record { held = rest; end = last }) → BehindTexts t came texts last now
  -- it hails no longer, and just the bytes behind the last text are left to it
  hails_no_more : (behind : List ℕ) → ((greeting : Greeting) → t.stage_of last ≢ hailing greeting)
      → StandBefore texts behind came → now ≡ takes_all t (holds t behind last) → BehindTexts t came texts last now
  -- the next text is too long
  finds_long_text : (behind : List ℕ) → Hails (t.stage_of last) → texts_of came ≡ record { texts = texts; end = TooLong }
      → now ≡ takes_all t (holds t behind (t.takes long_text_found last)) → BehindTexts t came texts last now

-- Behind these texts, which it has taken up before, it takes up the others of all bytes that came.
pub record FindsTexts {X : Type 0} (t : Receiver X) (came : List ℕ) (before : List (List ℕ)) (x : X) (now : Arrival X) : Type 0 where
  pub texts : List (List ℕ)
  pub last : X
  pub takes : TakesTexts t x texts last
  pub behind : BehindTexts t came (before ++ texts) last now

-- ---- the items of the link

-- by an item that is found, if it may be taken up
abbrev pub takes_item : {X : Type 0} → Receiver X → Item → X → Option X
takes_item t (found packet) x = t.takes_packet packet x
takes_item t bad x = Some (t.takes broken_found x)

-- the items are taken up, one after the other, each on the link
abbrev pub TakesItems : {X : Type 0} → Receiver X → X → List Item → X → Type 0
TakesItems {X = X} t x [] y = x ≡ y
TakesItems {X = X} t x (item ∷ items) y =
    (t.stage_of x ≡ linked) × (next : X) × (takes_item t item x ≡ Some next) × TakesItems t next items y

-- These items were taken up of all bytes that came since the link began. How it goes on:
pub data BehindItems {X : Type 0} (t : Receiver X) (came : List ℕ) (items : List Item) (last : X) (now : Arrival X) : Type 0 where
  -- there are no others, and what waits is held
  links_on : (rest : List ℕ) → t.stage_of last ≡ linked → IsScan came items rest
      → now ≡ all_taken (record { held = rest; end = last }) → BehindItems t came items last now
  -- it has left the link, with the last of them
  links_no_more : (behind : List ℕ) → t.stage_of last ≢ linked → Finds came items behind
      → now ≡ takes_all t (holds t behind last) → BehindItems t came items last now
  -- it stands before a packet that may not be taken up
  stops_at : (packet : PacketValue) (size : ℕ) (from : List ℕ) → t.stage_of last ≡ linked → Finds came items from
      → StandsFirst (found packet) size from → t.takes_packet packet last ≡ None
      → now ≡ stopped (record { held = from; end = last }) → BehindItems t came items last now

-- Behind these items, which it has taken up before, it takes up the others of all bytes that came.
pub record FindsItems {X : Type 0} (t : Receiver X) (came : List ℕ) (before : List Item) (x : X) (now : Arrival X) : Type 0 where
  pub items : List Item
  pub last : X
  pub takes : TakesItems t x items last
  pub behind : BehindItems t came (before ++ items) last now
