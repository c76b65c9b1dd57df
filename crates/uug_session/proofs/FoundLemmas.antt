-- What is found in all bytes that came, by whatever takes it up: their texts, and the items of the link.
use Rattle.std.proofs.Common.{◌≡◌, ◌≢◌, ℕ, zero, suc, ◌<◌, ◌≤◌, List, [], ◌∷◌, ◌++◌, length, drop, slice_index, Option, Some, None, refl, sym, ap, subst, ◌∙◌, append_assoc, arith}
use Rattle.std.proofs.lemmas.List.{append-nil}
use Rattle.uug_packet.specs.Bytes.{AreBytes}
use Rattle.uug_reader.specs.Cut.{Part, packet, broken, noise, CutsOff, Item, found, bad}
use Rattle.uug_reader.specs.Finding.{StandsFirst}
use Rattle.uug_reader.specs.Scan.{Finds}
use Rattle.uug_reader.specs.Search.{Search, waiting, standing, search_of}
use Rattle.uug_talk.specs.StreamTexts.{StreamTexts, TooLong, StandBefore}
use Rattle.uug_session.specs.declared.greeting.Greeting.{Greeting}
use Rattle.uug_session.specs.Arriving.{Receiver, Buffered, Arrival, all_taken, stopped, held_in, holds, takes_if, takes_up, takes_all, takes_piece}
use Rattle.uug_session.specs.EndStep.{Stage, hailing, linked, ended, text_found, broken_found}
use Rattle.uug_session.specs.Finding.{Finding, text_finding, item_finding, finding, behind_long_text, LeavesFewer}
use Rattle.uug_session.specs.Found.{Hails, BehindTexts, hails_on, hails_no_more, finds_long_text, FindsTexts, takes_item, BehindItems, links_on, links_no_more, stops_at, FindsItems}
use Rattle.uug_session.specs.TextsFound.{Taken}
use Rattle.uug_session.specs.TextsHeld.{TextSearch, text_waits, text_stands, text_too_long, size_of_text, search_text}
use Rattle.uug_talk.specs.Texts.{Passing}
use Rattle.uug_session.proofs.ArrivingLemmas.{takes_next, found_fewer}
use Rattle.uug_session.proofs.TextCallLemmas.{taken_right_behind, taken_more, taken_searched, first_taken, taken_are_first, taken_too_long}
use Rattle.uug_session.proofs.TextSearchLemmas.{finds_none}
use Rattle.uug_reader.proofs.ScanLemmas.{Finds-append, Finds-item, Finds-join}
use Rattle.uug_reader.proofs.SearchLemmas.{search_finds_item, search_finds_rest}

-- ---- bytes behind others

bytes_behind : (front others : List ℕ) → AreBytes (front ++ others) → AreBytes others
bytes_behind [] others bytes = bytes
bytes_behind (b ∷ front) others bytes = bytes_behind front others (λ i. bytes (suc i))

bytes_left : (s : List ℕ) (parts : List Part) (others : List ℕ) → CutsOff s parts others → AreBytes s → AreBytes others
bytes_left s [] others h bytes = subst AreBytes h bytes
bytes_left s (packet p w ∷ parts) others h bytes = bytes_left h.1 parts others h.3 (bytes_behind w h.1 (subst AreBytes h.2 bytes))
bytes_left s (broken b ∷ parts) others h bytes = bytes_left h.1 parts others h.3 (bytes_behind (b ∷ []) h.1 (subst AreBytes h.2 bytes))
bytes_left s (noise b ∷ parts) others h bytes = bytes_left h.1 parts others h.3 (bytes_behind (b ∷ []) h.1 (subst AreBytes h.2 bytes))

pub bytes_found : (s others : List ℕ) (items : List Item) → Finds s items others → AreBytes s → AreBytes others
bytes_found s others items h bytes = bytes_left s h.0 others h.1 bytes

pub bytes_behind_texts : (texts : List (List ℕ)) (rest stream : List ℕ) → StandBefore texts rest stream → AreBytes stream → AreBytes rest
bytes_behind_texts [] rest stream h bytes = subst AreBytes h bytes
bytes_behind_texts (text ∷ texts) rest stream (front, behind, e, first, more) bytes =
    bytes_behind_texts texts rest behind more (bytes_behind front behind (subst AreBytes e bytes))

byte_in_front : (front others : List ℕ) → AreBytes (front ++ others) → (i : ℕ) → slice_index front i < 256
byte_in_front [] others bytes i = omega arith
byte_in_front (b ∷ front) others bytes zero = bytes zero
byte_in_front (b ∷ front) others bytes (suc i) = byte_in_front front others (λ j. bytes (suc j)) i

pub bytes_in_front : (front others : List ℕ) → AreBytes (front ++ others) → AreBytes front
bytes_in_front front others bytes = byte_in_front front others bytes

-- ---- stages

hails_or_not : {A : Type 0} (stage : Stage) → ((g : Greeting) → stage ≡ hailing g → A)
    → (((g : Greeting) → stage ≢ hailing g) → A) → A
hails_or_not (hailing g) yes_it no_it = yes_it g refl
hails_or_not linked yes_it no_it = no_it (λ g e. cc)
hails_or_not (ended how) yes_it no_it = no_it (λ g e. cc)

linked_or_not : {A : Type 0} (stage : Stage) → (stage ≡ linked → A) → (stage ≢ linked → A) → A
linked_or_not (hailing g) yes_it no_it = no_it (λ e. cc)
linked_or_not linked yes_it no_it = yes_it refl
linked_or_not (ended how) yes_it no_it = no_it (λ e. cc)

-- ---- texts

module _ (X : Type 0) (t : Receiver X) where
  -- bytes are taken up from there on
  abbrev Goes : List ℕ → X → Arrival X
  Goes bytes x = takes_all t (holds t bytes x)

  -- texts that are found in the bytes left
  abbrev TextsFound : (came : List ℕ) (n : ℕ) → Type 0
  TextsFound came n = (before : List (List ℕ)) (bytes : List ℕ) (x : X) → length bytes < n → Hails (t.stage_of x)
      → Taken before came bytes → FindsTexts t came before x (Goes bytes x)

  text_and_more : (came : List ℕ) (before : List (List ℕ)) (text : List ℕ) (x : X) (now : Arrival X) → Hails (t.stage_of x)
      → FindsTexts t came (before ++ text ∷ []) (t.takes (text_found text) x) now → FindsTexts t came before x now
  text_and_more came before text x now hails more = record {
    texts = text ∷ more.texts;
    last = more.last;
    takes = (hails, more.takes);
    behind = subst (λ texts. BehindTexts t came texts more.last now) (append_assoc before (text ∷ []) more.texts) more.behind;
  }

  text_taken : (came : List ℕ) (n : ℕ) → TextsFound came n → (before : List (List ℕ)) (text behind : List ℕ) (y : X)
      → length behind < n → StandBefore (before ++ text ∷ []) behind came → FindsTexts t came (before ++ text ∷ []) y (Goes behind y)
  text_taken came n more before text behind y fewer stand = hails_or_not (t.stage_of y)
      (λ g e. more (before ++ text ∷ []) behind y fewer (g, e)
      (taken_right_behind (before ++ text ∷ []) came behind stand))
      (λ no. record {
        texts = [];
        last = y;
        takes = refl;
        behind = hails_no_more behind no
            (subst (λ texts. StandBefore texts behind came) (sym (append-nil (before ++ text ∷ []))) stand) refl;
      })

  by_text : (came : List ℕ) (n : ℕ) → TextsFound came n → (before : List (List ℕ)) (bytes : List ℕ) (x : X) (g : Greeting)
      (search : TextSearch) → search_text bytes ≡ search → length bytes ≤ n → LeavesFewer (text_finding bytes search) bytes
      → t.stage_of x ≡ hailing g → Taken before came bytes
      → FindsTexts t came before x (takes_up (takes_all t) t (text_finding bytes search) x)
  by_text came n more before bytes x g (text_waits rest) e enough fewer hails taken = record {
    texts = [];
    last = x;
    takes = refl;
    behind = hails_on rest (g, hails)
        ((taken_are_first before came bytes taken).texts
        ∙ ap (λ (found : StreamTexts). before ++ found.texts) (finds_none bytes rest e).none)
        (subst (λ texts. Taken texts came rest) (sym (append-nil before))
        (taken_searched before came bytes (text_waits rest) (λ no. cc) e taken))
        (ap (λ (s : Stage). all_taken (record { held = held_in s rest; end = x })) hails);
  }
  by_text came n more before bytes x g (text_stands text others) e enough fewer hails taken =
      let behind = drop (size_of_text text) others in
      let y = t.takes (text_found text) x in
      text_and_more came before text x (Goes behind y) (g, hails)
      (text_taken came n more before text behind y (omega (arith, enough, fewer)) (first_taken before came bytes text others taken e))
  by_text came n more before bytes x g text_too_long e enough fewer hails taken = record {
    texts = [];
    last = x;
    takes = refl;
    behind = finds_long_text (behind_long_text Passing bytes) (g, hails)
        (taken_too_long before came bytes taken e
        ∙ ap (λ (texts : List (List ℕ)). record { texts = texts; end = TooLong }) (sym (append-nil before))) refl;
  }

  texts_up_to : (came : List ℕ) (n : ℕ) → TextsFound came n
  texts_up_to came zero before bytes x enough hails taken = absurd (omega (arith, enough))
  texts_up_to came (suc n) before bytes x enough hails taken =
      let at : finding (t.stage_of x) bytes ≡ text_finding bytes (search_text bytes) = ap (λ (s : Stage). finding s bytes) hails.1 in
      subst (FindsTexts t came before x)
      (sym (takes_next X t bytes x ∙ ap (λ (f : Finding). takes_up (takes_all t) t f x) at))
      (by_text came n (texts_up_to came n) before bytes x hails.0 (search_text bytes) refl (omega (arith, enough))
      (subst (λ (f : Finding). LeavesFewer f bytes) at (found_fewer (t.stage_of x) bytes)) hails.1 taken)

  pub texts_found : (came piece : List ℕ) (before : List (List ℕ)) (h : Buffered X) → Hails (t.stage_of h.end) → Taken before came h.held
      → FindsTexts t (came ++ piece) before h.end (takes_piece t piece h)
  texts_found came piece before h hails taken =
      texts_up_to (came ++ piece) (suc (length (h.held ++ piece))) before (h.held ++ piece) h.end (omega arith) hails
      (taken_more before came h.held piece taken)

-- ---- items

module _ (X : Type 0) (t : Receiver X) where
  abbrev GoesOn : List ℕ → X → Arrival X
  GoesOn bytes x = takes_all t (holds t bytes x)

  -- items that are found in the bytes left
  abbrev ItemsFound : (came : List ℕ) (n : ℕ) → Type 0
  ItemsFound came n = (before : List Item) (bytes : List ℕ) (x : X) → length bytes < n → AreBytes bytes → t.stage_of x ≡ linked
      → Finds came before bytes → FindsItems t came before x (GoesOn bytes x)

  -- behind noise the item stands first
  pub record StandsHere (came : List ℕ) (before : List Item) (item : Item) (size : ℕ) (from : List ℕ) : Type 0 where
    pub front : Finds came before from
    pub first : StandsFirst item size from
    pub behind : Finds came (before ++ item ∷ []) (drop size from)

  stands_here : (came bytes : List ℕ) (before : List Item) (item : Item) (size : ℕ) (from : List ℕ) → AreBytes bytes
      → search_of bytes ≡ standing item size from → Finds came before bytes → StandsHere came before item size from
  stands_here came bytes before item size from are e finds_it =
      let stands = (search_finds_item bytes from item size are).0 e in
      let front : Finds came before from =
      subst (λ items. Finds came items from) (append-nil before) (Finds-join came bytes from before [] finds_it stands.0) in
      record {
        front = front;
        first = stands.1;
        behind = Finds-join came from (drop size from) before (item ∷ []) front (Finds-item from item size stands.1);
      }

  item_and_more : (came : List ℕ) (before : List Item) (item : Item) (x y : X) (now : Arrival X) → t.stage_of x ≡ linked
      → takes_item t item x ≡ Some y → FindsItems t came (before ++ item ∷ []) y now → FindsItems t came before x now
  item_and_more came before item x y now on e more = record {
    items = item ∷ more.items;
    last = more.last;
    takes = (on, y, e, more.takes);
    behind = subst (λ items. BehindItems t came items more.last now) (append_assoc before (item ∷ []) more.items) more.behind;
  }

  item_taken : (came : List ℕ) (n : ℕ) → ItemsFound came n → (before : List Item) (behind : List ℕ) (y : X)
      → length behind < n → AreBytes behind → Finds came before behind → FindsItems t came before y (GoesOn behind y)
  item_taken came n more before behind y fewer are finds_it = linked_or_not (t.stage_of y)
      (λ e. more before behind y fewer are e finds_it)
      (λ no. record {
        items = [];
        last = y;
        takes = refl;
        behind = links_no_more behind no (subst (λ items. Finds came items behind) (sym (append-nil before)) finds_it) refl;
      })

  by_packet : (came : List ℕ) (n : ℕ) → ItemsFound came n → (before : List Item) (x : X) (p : _) (size : ℕ) (from : List ℕ)
      (o : Option X) → t.takes_packet p x ≡ o → length (drop size from) < n → AreBytes (drop size from) → t.stage_of x ≡ linked
      → StandsHere came before (found p) size from
      → FindsItems t came before x (takes_if (takes_all t) t o from (drop size from) x)
  by_packet came n more before x p size from None e fewer are on here = record {
    items = [];
    last = x;
    takes = refl;
    behind = stops_at p size from on (subst (λ items. Finds came items from) (sym (append-nil before)) here.front) here.first e
        (ap (λ (s : Stage). stopped (record { held = held_in s from; end = x })) on);
  }
  by_packet came n more before x p size from (Some y) e fewer are on here =
      item_and_more came before (found p) x y (GoesOn (drop size from) y) on e
      (item_taken came n more (before ++ found p ∷ []) (drop size from) y fewer are here.behind)

  by_item : (came : List ℕ) (n : ℕ) → ItemsFound came n → AreBytes came → (before : List Item) (bytes : List ℕ) (x : X)
      (search : Search) → search_of bytes ≡ search → length bytes ≤ n → LeavesFewer (item_finding search) bytes
      → AreBytes bytes → t.stage_of x ≡ linked → Finds came before bytes
      → FindsItems t came before x (takes_up (takes_all t) t (item_finding search) x)
  by_item came n more all before bytes x (waiting rest) e enough fewer are on finds_it =
      let waits = (search_finds_rest bytes rest are).0 e in record {
        items = [];
        last = x;
        takes = refl;
        behind = links_on rest on
            (record { finds = Finds-join came bytes rest before [] finds_it waits.0; waits = waits.1 })
            (ap (λ (s : Stage). all_taken (record { held = held_in s rest; end = x })) on);
      }
  by_item came n more all before bytes x (standing (found p) size from) e enough fewer are on finds_it =
      let here = stands_here came bytes before (found p) size from are e finds_it in
      by_packet came n more before x p size from (t.takes_packet p x) refl (omega (arith, enough, fewer.1))
      (bytes_found came (drop size from) (before ++ found p ∷ []) here.behind all) on here
  by_item came n more all before bytes x (standing bad size from) e enough fewer are on finds_it =
      let here = stands_here came bytes before bad size from are e finds_it in
      let y = t.takes broken_found x in
      item_and_more came before bad x y (GoesOn (drop size from) y) on refl
      (item_taken came n more (before ++ bad ∷ []) (drop size from) y (omega (arith, enough, fewer))
      (bytes_found came (drop size from) (before ++ bad ∷ []) here.behind all) here.behind)

  items_up_to : (came : List ℕ) (n : ℕ) → AreBytes came → ItemsFound came n
  items_up_to came zero all before bytes x enough are on finds_it = absurd (omega (arith, enough))
  items_up_to came (suc n) all before bytes x enough are on finds_it =
      let at : finding (t.stage_of x) bytes ≡ item_finding (search_of bytes) = ap (λ (s : Stage). finding s bytes) on in
      subst (FindsItems t came before x)
      (sym (takes_next X t bytes x ∙ ap (λ (f : Finding). takes_up (takes_all t) t f x) at))
      (by_item came n (items_up_to came n all) all before bytes x (search_of bytes) refl (omega (arith, enough))
      (subst (λ (f : Finding). LeavesFewer f bytes) at (found_fewer (t.stage_of x) bytes)) are on finds_it)

  pub items_found : (came piece : List ℕ) (before : List Item) (h : Buffered X) → AreBytes (came ++ piece) → t.stage_of h.end ≡ linked
      → Finds came before h.held → FindsItems t (came ++ piece) before h.end (takes_piece t piece h)
  items_found came piece before h all on finds_it =
      let with_piece : Finds (came ++ piece) before (h.held ++ piece) = Finds-append came h.held piece before finds_it in
      items_up_to (came ++ piece) (suc (length (h.held ++ piece))) all before (h.held ++ piece) h.end (omega arith)
      (bytes_found (came ++ piece) (h.held ++ piece) before with_piece all) on with_piece
