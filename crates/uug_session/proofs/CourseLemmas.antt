-- What calls of a node come to, one behind the other.
use Rattle.std.proofs.Common.{◌≡◌, ℕ, ◌<◌, ◌≤◌, Bool, true, false, nat_lt, List, [], ◌++◌, map, inl, inr, refl, sym, ap, subst, ◌∙◌, append_assoc, arith}
use Rattle.std.proofs.lemmas.Bool.Decides.{nat_tests}
use Rattle.std.proofs.lemmas.List.{append-nil, map-append}
use Rattle.std.proofs.lemmas.List.Elements.{All-nil, All-append, All-weaker}
use Rattle.uug_reader.specs.Reading.{Reading}
use Rattle.uug_session.specs.Arriving.{Receiver, Buffered, all_taken, takes_piece}
use Rattle.uug_session.specs.EndStep.{Stage, Emitted, Identity}
use Rattle.uug_session.specs.Engine.{EngineState, HasFailed, end_of, entry_of, with_stage}
use Rattle.uug_conversation.specs.Holdings.{Kept, Holdings}
use Rattle.uug_session.specs.Node.{NodeState, struck_jobs}
use Rattle.uug_session.specs.NodeArriving.{NodeEnd, node_taker, hearer_of, Course, GoesOn, TakesAll}
use Rattle.uug_session.specs.TextsHeld.{TextsHeld}
use Rattle.uug_session.proofs.OwnRequestLemmas.{same_then, then_keeps}

-- a node, by how far its session has come
abbrev pub at : Stage → EngineState → TextsHeld → Reading → NodeState
at s e texts packets = record { engine = with_stage s e; texts = texts; packets = packets }

abbrev pub end_at : Holdings → List Kept → List Emitted → List Bool → EngineState → NodeEnd
end_at h kept said failures e = record { state = end_of h kept e; emitted = said; failures = failures }

abbrev pub hearer_with : List ℕ → NodeEnd → Buffered NodeEnd
hearer_with bytes x = record { held = bytes; end = x }

-- ---- what is said of some calls

-- nothing was emitted, and no packet taken up
pub quiet : (h : Holdings) (kept kept_after : List Kept) (failure : Type 0) (bytes : List ℕ) (before after : NodeState)
    → after.engine.outbox.entries ≡ before.engine.outbox.entries → after.engine.identity ≡ before.engine.identity → after.engine.own ≡ before.engine.own
    → struck_jobs after ≡ struck_jobs before → kept_after ≡ kept
    → ((more : List ℕ) (said : List Emitted) (later : List Bool)
    → takes_piece (node_taker h before.engine.identity) (bytes ++ more) (hearer_of h kept said later before)
    ≡ takes_piece (node_taker h before.engine.identity) more (hearer_of h kept_after said later after))
    → GoesOn h kept kept_after failure bytes before after
quiet h kept kept_after failure bytes before after entries identity own struck stored same = record {
  course = record {
    emitted = [];
    failures = [];
    counted = All-nil (λ failed. failed ≡ true → failure);
    entries = entries ∙ sym (append-nil before.engine.outbox.entries);
    identity = identity;
    own = own;
  };
  goes_on = λ more said later.
      same more said later
      ∙ ap (λ (s : List Emitted). takes_piece (node_taker h before.engine.identity) more (hearer_of h kept_after s later after)) (sym (append-nil said));
  requests = same_then h (struck_jobs before) (struck_jobs after) kept kept_after struck stored;
}

pub stays : (h : Holdings) (kept : List Kept) (failure : Type 0) (n : NodeState) → GoesOn h kept kept failure [] n n
stays h kept failure n = quiet h kept kept failure [] n n refl refl refl refl refl (λ more said later. refl)

both_courses : (failure : Type 0) (a b c : NodeState) → Course failure a b → Course failure b c → Course failure a c
both_courses failure a b c first second = record {
  emitted = first.emitted ++ second.emitted;
  failures = first.failures ++ second.failures;
  counted = All-append (λ failed. failed ≡ true → failure) first.failures second.failures first.counted second.counted;
  entries = second.entries
      ∙ ap (λ entries. entries ++ map entry_of second.emitted) first.entries
      ∙ append_assoc a.engine.outbox.entries (map entry_of first.emitted) (map entry_of second.emitted)
      ∙ ap (λ entries. a.engine.outbox.entries ++ entries) (sym (map-append entry_of first.emitted second.emitted));
  identity = second.identity ∙ first.identity;
  own = second.own ∙ first.own;
}

-- the one and then the other
pub joined : (h : Holdings) (kept later_kept last_kept : List Kept) (failure : Type 0) (bytes others : List ℕ) (a b c : NodeState)
    → GoesOn h kept later_kept failure bytes a b → GoesOn h later_kept last_kept failure others b c
    → GoesOn h kept last_kept failure (bytes ++ others) a c
unfolding both_courses
joined h kept later_kept last_kept failure bytes others a b c first second = record {
  course = both_courses failure a b c first.course second.course;
  goes_on = λ more said later.
      ap (λ (bs : List ℕ). takes_piece t bs (hearer_of h kept said ((first.course.failures ++ second.course.failures) ++ later) a)) (append_assoc bytes others more)
      ∙ ap (λ (fs : List Bool). takes_piece t (bytes ++ (others ++ more)) (hearer_of h kept said fs a)) (append_assoc first.course.failures second.course.failures later)
      ∙ first.goes_on (others ++ more) said (second.course.failures ++ later)
      ∙ behind more (said ++ first.course.emitted) later
      ∙ ap (λ (s : List Emitted). takes_piece t more (hearer_of h last_kept s later c)) (append_assoc said first.course.emitted second.course.emitted);
  requests = then_keeps h (struck_jobs a) (struck_jobs b) (struck_jobs c) kept later_kept last_kept first.requests second.requests;
} where
  t : Receiver NodeEnd
  t = node_taker h a.engine.identity

  behind : (more : List ℕ) (said : List Emitted) (later : List Bool)
      → takes_piece t (others ++ more) (hearer_of h later_kept said (second.course.failures ++ later) b)
      ≡ takes_piece t more (hearer_of h last_kept (said ++ second.course.emitted) later c)
  behind more said later =
      subst (λ (id : Identity). takes_piece (node_taker h id) (others ++ more) (hearer_of h later_kept said (second.course.failures ++ later) b)
      ≡ takes_piece (node_taker h id) more (hearer_of h last_kept (said ++ second.course.emitted) later c))
      first.course.identity (second.goes_on more said later)

weaker_course : (some more : Type 0) (a b : NodeState) → (some → more) → Course some a b → Course more a b
weaker_course some more a b weaker c = record {
  emitted = c.emitted;
  failures = c.failures;
  counted = All-weaker (λ failed. failed ≡ true → some) (λ failed. failed ≡ true → more) (λ failed h is. weaker (h is)) c.failures c.counted;
  entries = c.entries;
  identity = c.identity;
  own = c.own;
}

-- where the device's failure says this much
pub counted_so : (h : Holdings) (kept kept_after : List Kept) (some more : Type 0) (bytes : List ℕ) (a b : NodeState) → (some → more)
    → GoesOn h kept kept_after some bytes a b → GoesOn h kept kept_after more bytes a b
unfolding weaker_course
counted_so h kept kept_after some more bytes a b weaker g = record { course = weaker_course some more a b weaker g.course; goes_on = g.goes_on; requests = g.requests }

-- ---- that the device failed stands in its count of faults

fails_first : (most faults middle last : ℕ) → middle ≤ last → HasFailed most faults middle → HasFailed most faults last
fails_first most faults middle last more (inl less) = inl (omega arith)
fails_first most faults middle last more (inr stands) = inr stands

fails_later_by : (less : Bool) (most faults middle last : ℕ) → nat_lt faults middle ≡ less → faults ≤ middle → middle ≤ last
    → HasFailed most middle last → HasFailed most faults last
fails_later_by less most faults middle last is before more (inl rises) = inl (omega arith)
fails_later_by true most faults middle last is before more (inr stands) =
    let below : faults < middle = grind (arith, nat_tests) in
    inl (omega arith)
fails_later_by false most faults middle last is before more (inr stands) =
    let above : middle ≤ faults = grind (arith, nat_tests) in
    inr (omega arith)

fails_later : (most faults middle last : ℕ) → faults ≤ middle → middle ≤ last → HasFailed most middle last → HasFailed most faults last
fails_later most faults middle last before more failed = fails_later_by (nat_lt faults middle) most faults middle last refl before more failed

-- one call behind another, beside a spool that gives and accepts the same
pub goes_further : (h later_h : Holdings) (kept later_kept last_kept : List Kept) (most faults middle last : ℕ) (bytes others : List ℕ) (a b c : NodeState)
    → later_h ≡ h → faults ≤ middle → middle ≤ last
    → GoesOn h kept later_kept (HasFailed most faults middle) bytes a b → GoesOn later_h later_kept last_kept (HasFailed most middle last) others b c
    → GoesOn h kept last_kept (HasFailed most faults last) (bytes ++ others) a c
goes_further h later_h kept later_kept last_kept most faults middle last bytes others a b c same before more first second =
    joined h kept later_kept last_kept (HasFailed most faults last) bytes others a b c
    (counted_so h kept later_kept (HasFailed most faults middle) (HasFailed most faults last) bytes a b (fails_first most faults middle last more) first)
    (counted_so h later_kept last_kept (HasFailed most middle last) (HasFailed most faults last) others b c (fails_later most faults middle last before more)
    (subst (λ (held : Holdings). GoesOn held later_kept last_kept (HasFailed most middle last) others b c) same second))

-- and then all that is found is taken up
pub takes_further : (h later_h : Holdings) (kept later_kept last_kept : List Kept) (most faults middle last : ℕ) (bytes : List ℕ) (a b c : NodeState)
    → later_h ≡ h → faults ≤ middle → middle ≤ last
    → GoesOn h kept later_kept (HasFailed most faults middle) bytes a b → GoesOn later_h later_kept last_kept (HasFailed most middle last) [] b c
    → GoesOn h kept last_kept (HasFailed most faults last) bytes a c
takes_further h later_h kept later_kept last_kept most faults middle last bytes a b c same before more first second =
    subst (λ (bs : List ℕ). GoesOn h kept last_kept (HasFailed most faults last) bs a c) (append-nil bytes)
    (goes_further h later_h kept later_kept last_kept most faults middle last bytes [] a b c same before more first second)

-- ---- pieces

pub takes_both : (h : Holdings) (kept later_kept last_kept : List Kept) (failure : Type 0) (bytes others : List ℕ) (a b c : NodeState)
    → GoesOn h kept later_kept failure bytes a b → TakesAll h later_kept last_kept failure others b c → TakesAll h kept last_kept failure (bytes ++ others) a c
unfolding both_courses
takes_both h kept later_kept last_kept failure bytes others a b c first second = record {
  course = both_courses failure a b c first.course second.course;
  taken = λ said later.
      ap (λ (fs : List Bool). takes_piece t (bytes ++ others) (hearer_of h kept said fs a)) (append_assoc first.course.failures second.course.failures later)
      ∙ first.goes_on others said (second.course.failures ++ later)
      ∙ behind (said ++ first.course.emitted) later
      ∙ ap (λ (s : List Emitted). all_taken (hearer_of h last_kept s later c)) (append_assoc said first.course.emitted second.course.emitted);
} where
  t : Receiver NodeEnd
  t = node_taker h a.engine.identity

  behind : (said : List Emitted) (later : List Bool)
      → takes_piece t others (hearer_of h later_kept said (second.course.failures ++ later) b) ≡ all_taken (hearer_of h last_kept (said ++ second.course.emitted) later c)
  behind said later =
      subst (λ (id : Identity). takes_piece (node_taker h id) others (hearer_of h later_kept said (second.course.failures ++ later) b)
      ≡ all_taken (hearer_of h last_kept (said ++ second.course.emitted) later c))
      first.course.identity (second.taken said later)

-- a piece and then more of it
pub pieces_join : (h : Holdings) (kept later_kept last_kept : List Kept) (most faults middle last : ℕ) (bytes others : List ℕ) (a b c : NodeState) → faults ≤ middle → middle ≤ last
    → GoesOn h kept later_kept (HasFailed most faults middle) bytes a b → TakesAll h later_kept last_kept (HasFailed most middle last) others b c
    → TakesAll h kept last_kept (HasFailed most faults last) (bytes ++ others) a c
unfolding weaker_course
pieces_join h kept later_kept last_kept most faults middle last bytes others a b c before more first second =
    takes_both h kept later_kept last_kept (HasFailed most faults last) bytes others a b c
    (counted_so h kept later_kept (HasFailed most faults middle) (HasFailed most faults last) bytes a b (fails_first most faults middle last more) first)
    (record {
      course = weaker_course (HasFailed most middle last) (HasFailed most faults last) b c (fails_later most faults middle last before more) second.course;
      taken = second.taken;
    })
