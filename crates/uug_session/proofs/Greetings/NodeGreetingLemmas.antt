-- What the bytes that come to a node make of its greeting.
use Rattle.std.proofs.Common.{◌≡◌, ℕ, zero, suc, ◌+◌, ◌<◌, ◌≤◌, Bool, List, [], ◌∷◌, ◌++◌, Option, length, map, take, drop, refl, sym, ap, subst, ◌∙◌, append_assoc, arith}
use Rattle.std.proofs.lemmas.List.{append-nil, map-append, take-append-drop}
use Rattle.uug_link.specs.State.{State}
use Rattle.uug_link.specs.Step.{step, to_begin}
use Rattle.uug_talk.specs.StreamTexts.{StreamTexts, StandBefore, texts_of}
use Rattle.uug_session.specs.declared.greeting.Greeted.{Greeted}
use Rattle.uug_session.specs.declared.greeting.Greeted.TheVariants.{GoesOn, LinkBegins, Ended}
use Rattle.uug_session.specs.declared.greeting.Greeting.{Greeting}
use Rattle.uug_session.specs.Arriving.{Receiver, Arrival, holds, takes_all}
use Rattle.uug_session.specs.EndStep.{hailing, linked, ended, Emitted, EndEffect, Identity, begins_link, greeted_so, long_text_found, packets, says_text, text_found}
use Rattle.uug_session.specs.Finding.{text_finding, behind_long_text, LeavesFewer}
use Rattle.uug_session.specs.Greeting.{first_texts, greeting_at_first, number_by, text_came}
use Rattle.uug_conversation.specs.Holdings.{Holdings}
use Rattle.uug_session.specs.NodeArriving.{NodeEnd, node_taker}
use Rattle.uug_conversation.specs.DialogueState.{DialogueState}
use Rattle.uug_session.specs.TextsFound.{FindsText}
use Rattle.uug_session.specs.TextsHeld.{TextSearch, text_waits, text_stands, text_too_long, size_of_text, search_text}
use Rattle.uug_conversation.specs.declared.side.Side.{Side}
use Rattle.uug_conversation.specs.declared.side.Side.TheVariants.{Caller, Called}
use Rattle.uug_session.specs.WholeGreeting.{Greets, GreetingRun, GreetsBy, greeting_run, saying_first, step_behind, texts_came}
use Rattle.uug_talk.specs.Texts.{Passing}
use Rattle.uug_session.proofs.ArrivingLemmas.{found_event, found_fewer}
use Rattle.uug_session.proofs.TextSearchLemmas.{finds_text, finds_none, finds_too_long}
use Rattle.uug_session.proofs.Greetings.WholeGreetingLemmas.{one_left, one_run}
use Rattle.uug_talk.proofs.StreamTextLemmas.{reads}

-- ---- texts that are said one after another

-- a node in whose session this became of the greeting, behind what it had emitted
abbrev pub node_by : (number : Option ℕ) → Identity → State → DialogueState → List Bool → (before : List Emitted) → Greeted → (says : List (List ℕ)) → NodeEnd
node_by number id s c failures before greeted says =
    let e : EndEffect DialogueState = greeted_so number id greeted (map says_text says) s c in
    record { state = e.state; emitted = before ++ e.emitted; failures = failures }

said_both : (before : List Emitted) (first later : List (List ℕ))
    → (before ++ map says_text first) ++ map says_text later ≡ before ++ map says_text (first ++ later)
said_both before first later =
    append_assoc before (map says_text first) (map says_text later)
    ∙ ap (λ (e : List Emitted). before ++ e) (sym (map-append says_text first later))

said_all : (before : List Emitted) (first later : List (List ℕ)) (behind : List Emitted)
    → (before ++ map says_text first) ++ (map says_text later ++ behind) ≡ before ++ (map says_text (first ++ later) ++ behind)
said_all before first later behind =
    sym (append_assoc (before ++ map says_text first) (map says_text later) behind)
    ∙ ap (λ (e : List Emitted). e ++ behind) (said_both before first later)
    ∙ append_assoc before (map says_text (first ++ later)) behind

abbrev link_by : (number : Option ℕ) → Side → State → DialogueState → List Bool → (before : List Emitted) → (says : List (List ℕ)) → NodeEnd
link_by number side s c failures before says =
    let e : EndEffect DialogueState = begins_link number side s c (map says_text says) in
    record { state = e.state; emitted = before ++ e.emitted; failures = failures }

same_link : (number : Option ℕ) (side : Side) (s : State) (c : DialogueState) (failures : List Bool) (before : List Emitted) (first later : List (List ℕ))
    → link_by number side s c failures (before ++ map says_text first) later ≡ link_by number side s c failures before (first ++ later)
same_link number Caller s c failures before first later =
    ap (λ (e : List Emitted). record { state = record { stage = linked; link = (step s to_begin).state; keeper = c; number = number }; emitted = e; failures = failures })
    (said_all before first later (packets (step s to_begin).emitted))
same_link number Called s c failures before first later =
    ap (λ (e : List Emitted). record { state = record { stage = linked; link = s; keeper = c; number = number }; emitted = e; failures = failures }) (said_both before first later)

same_node : (number : Option ℕ) (id : Identity) (s : State) (c : DialogueState) (failures : List Bool) (before : List Emitted) (first later : List (List ℕ)) (greeted : Greeted)
    → node_by number id s c failures (before ++ map says_text first) greeted later ≡ node_by number id s c failures before greeted (first ++ later)
same_node number id s c failures before first later (GoesOn g) =
    ap (λ (e : List Emitted). record { state = record { stage = hailing g; link = s; keeper = c; number = number }; emitted = e; failures = failures }) (said_both before first later)
same_node number id s c failures before first later LinkBegins = same_link number id.side s c failures before first later
same_node number id s c failures before first later (Ended how) =
    ap (λ (e : List Emitted). record { state = record { stage = ended how; link = s; keeper = c; number = number }; emitted = e; failures = failures }) (said_both before first later)

-- ---- what is found in bytes that come in the greeting

-- where the greeting goes on, nothing more is found
abbrev pub Waits : Greeted → List ℕ → Type 0
Waits (GoesOn g) bytes = (rest : List ℕ) × (search_text bytes ≡ text_waits rest)
Waits _ bytes = Unit {0}

take_more : (n : ℕ) (text : List ℕ) (texts : List (List ℕ)) → take (n + 1) (text ∷ texts) ≡ text ∷ take n texts
take_more n text texts = let more : n + 1 ≡ suc n = omega arith in ap (λ m. take m (text ∷ texts)) more

stands_first : (bytes text others : List ℕ) → FindsText bytes text others → StandBefore (text ∷ []) (drop (size_of_text text) others) bytes
stands_first bytes text others f =
    let n = size_of_text text in (
      f.passed ++ take n others,
      drop n others,
      f.spelled ∙ ap (λ bs. f.passed ++ bs) (sym (take-append-drop n others)) ∙ sym (append_assoc f.passed (take n others) (drop n others)),
      f.first,
      refl,
    )

module _ (h : Holdings) (id : Identity) (s : State) (c : DialogueState) (failures : List Bool) where
  abbrev pub t : Receiver NodeEnd
  t = node_taker h id

  abbrev pub Goes : List ℕ → NodeEnd → Arrival NodeEnd
  Goes bytes x = takes_all t (holds t bytes x)

  abbrev pub hails : (said : List Emitted) → (number : Option ℕ) → Greeting → NodeEnd
  hails said number g = record { state = record { stage = hailing g; link = s; keeper = c; number = number }; emitted = said; failures = failures }

  -- It has come to what these texts make of the greeting, and is to take up what stands behind those that were used.
  pub record GreetsSo (said : List Emitted) (number : Option ℕ) (g : Greeting) (bytes : List ℕ) (found : StreamTexts) : Type 0 where
    pub behind : List ℕ
    pub left : StandBefore (take (texts_came id.me id.peer found.texts found.end number g).used found.texts) behind bytes
    pub same : Goes bytes (hails said number g)
        ≡ Goes behind (node_by (texts_came id.me id.peer found.texts found.end number g).number id s c failures said
        (texts_came id.me id.peer found.texts found.end number g).greeted (texts_came id.me id.peer found.texts found.end number g).says)
    pub waits : Waits (texts_came id.me id.peer found.texts found.end number g).greeted behind

  -- such is the law for bytes of at most this length
  abbrev pub GreetsWithin : ℕ → Type 0
  GreetsWithin n = (said : List Emitted) (number : Option ℕ) (g : Greeting) (bytes : List ℕ) → length bytes < n → GreetsSo said number g bytes (texts_of bytes)

  -- a text was used, and those behind it, if the greeting goes on
  by_greeted : (n : ℕ) → GreetsWithin n → (said : List Emitted) (bytes text behind : List ℕ) (number : Option ℕ) (greeted : Greeted) (says : List (List ℕ))
      → length behind < n → StandBefore (text ∷ []) behind bytes
      → let later = texts_of behind in
      let run = step_behind (λ k next. texts_came id.me id.peer later.texts later.end k next) says number greeted in
      (left : List ℕ) × StandBefore (take run.used (text ∷ later.texts)) left bytes
      × (Goes behind (node_by number id s c failures said greeted says) ≡ Goes left (node_by run.number id s c failures said run.greeted run.says))
      × Waits run.greeted left
  by_greeted n more said bytes text behind number (GoesOn next) says fewer (front, rest, e, first, is) =
      let later = more (said ++ map says_text says) number next behind fewer in
      let run = texts_came id.me id.peer (texts_of behind).texts (texts_of behind).end number next in (
        later.behind,
        subst (λ (texts : List (List ℕ)). StandBefore texts later.behind bytes) (sym (take_more run.used text (texts_of behind).texts))
            (front, rest, e, first, subst (StandBefore (take run.used (texts_of behind).texts) later.behind) (sym is) later.left),
        later.same ∙ ap (Goes later.behind) (same_node run.number id s c failures said says run.says run.greeted),
        later.waits,
      )
  by_greeted n more said bytes text behind number LinkBegins says fewer stand = (behind, stand, refl, tt)
  by_greeted n more said bytes text behind number (Ended how) says fewer stand = (behind, stand, refl, tt)

  by_search : (n : ℕ) → GreetsWithin n → (said : List Emitted) (number : Option ℕ) (g : Greeting) (bytes : List ℕ) (search : TextSearch) → search_text bytes ≡ search
      → length bytes ≤ n → LeavesFewer (text_finding bytes search) bytes → GreetsSo said number g bytes (texts_of bytes)
  by_search n more said number g bytes (text_waits rest) is enough fewer =
      subst (GreetsSo said number g bytes) (sym (finds_none bytes rest is).none) (record {
        behind = bytes;
        left = refl;
        same = ap (λ (e : List Emitted). Goes bytes (hails e number g)) (sym (append-nil said));
        waits = (rest, is);
      })
  by_search n more said number g bytes (text_stands text others) is enough fewer =
      let found : FindsText bytes text others = finds_text bytes text others is in
      let behind = drop (size_of_text text) others in
      let step = text_came id.me id.peer number g text in
      let stand : StandBefore (text ∷ []) behind bytes = stands_first bytes text others found in
      let rest = by_greeted n more said bytes text behind (number_by step.rises number) step.greeted step.says (omega (arith, enough, fewer)) stand in
      subst (GreetsSo said number g bytes) (sym found.texts) (record {
        behind = rest.0;
        left = rest.1;
        same = found_event NodeEnd t bytes behind (text_found text) (hails said number g) (ap (text_finding bytes) is) ∙ rest.2;
        waits = rest.3;
      })
  by_search n more said number g bytes text_too_long is enough fewer =
      subst (GreetsSo said number g bytes) (sym (finds_too_long bytes is)) (record {
        behind = bytes;
        left = refl;
        same = found_event NodeEnd t bytes (behind_long_text Passing bytes) long_text_found (hails said number g) (ap (text_finding bytes) is);
        waits = tt;
      })

  pub greets_up_to : (n : ℕ) → GreetsWithin n
  greets_up_to zero said number g bytes enough = absurd (omega (arith, enough))
  greets_up_to (suc n) said number g bytes enough =
      by_search n (greets_up_to n) said number g bytes (search_text bytes) refl (omega (arith, enough)) (found_fewer (hailing g) bytes)

  -- ---- from the start of a session

  pub record ComesTo (number : Option ℕ) (came : List ℕ) (run : GreetingRun) (behind : List ℕ) : Type 0 where
    pub same : Goes came (hails (map says_text (first_texts id.side id.me)) number (greeting_at_first id.side))
        ≡ Goes behind (node_by run.number id s c failures [] run.greeted run.says)
    pub waits : Waits run.greeted behind

  pub from_start : (number : Option ℕ) (came behind : List ℕ) (run : GreetingRun) → Greets id.side id.me id.peer number came run behind → ComesTo number came run behind
  from_start number came behind run m =
      let g = greeting_at_first id.side in
      let first = first_texts id.side id.me in
      let so = greets_up_to (suc (length came)) (map says_text first) number g came (omega arith) in
      let whole = greeting_run id.me id.peer number g came in
      let same : m.heard ≡ whole = one_run id.me id.peer number g came m.heard behind m.greets in
      let all : run ≡ saying_first first whole = m.whole ∙ ap (saying_first first) same in
      let left : so.behind ≡ behind =
      one_left id.me id.peer number g came whole so.behind behind
      (record { found = texts_of came; texts = reads came; came = refl; left = so.left })
      (subst (λ (r : GreetingRun). GreetsBy id.me id.peer number g came r behind) same m.greets) in
      subst (λ (r : GreetingRun). ComesTo number came r behind) (sym all)
      (subst (ComesTo number came (saying_first first whole)) left (record {
        same = so.same ∙ ap (Goes so.behind) (same_node whole.number id s c failures [] first whole.says whole.greeted);
        waits = so.waits;
      }))
