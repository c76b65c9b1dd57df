-- A node takes a piece by calls of `offer`, `next_found` and `take_found`.
use Rattle.std.proofs.Common.{◌≡◌, ℕ, ◌≤◌, Bool, List, [], ◌∷◌, ◌++◌, map, refl, sym, ap, subst, ◌∙◌, append_assoc}
use Rattle.std.proofs.lemmas.List.{append-nil}
use Rattle.uug_link.specs.Entries.{EntryValue}
use Rattle.uug_session.specs.EndStep.{Stage, hailing, linked, ended}
use Rattle.uug_session.specs.Engine.{CountsFaults, entry_of}
use Rattle.uug_conversation.specs.Holdings.{Holdings}
use Rattle.uug_session.specs.Node.{NodeState, IsAsBefore, TakesShown, effect_of, event_of, offered, offered_at, searched, searched_at, texts_searched}
use Rattle.uug_session.specs.NodeCalls.{Beside, HaveNoTimeout, IsMadeOfCalls, KeepsNothing, Make, NodeCall, offers, looks, takes, refuses, times_out, refuses_timeout, clears, all_offered, taken_in}
use Rattle.uug_session.specs.TextsHeld.{TextSearch, text_waits, text_stands, text_too_long, search_text}

-- ---- what a call adds

offered_entries : (s : Stage) (bytes : List ℕ) (n : NodeState) → (offered_at s bytes n).engine.outbox.entries ≡ n.engine.outbox.entries
offered_entries (hailing g) bytes n = refl
offered_entries linked bytes n = refl
offered_entries (ended how) bytes n = refl

text_entries : (r : TextSearch) (n : NodeState) → (texts_searched r n).engine.outbox.entries ≡ n.engine.outbox.entries
text_entries (text_waits rest) n = refl
text_entries (text_stands text others) n = refl
text_entries text_too_long n = refl

searched_entries : (s : Stage) (n : NodeState) → (searched_at s n).engine.outbox.entries ≡ n.engine.outbox.entries
searched_entries (hailing g) n = text_entries (search_text n.texts.bytes) n
searched_entries linked n = refl
searched_entries (ended how) n = refl

abbrev entries_of : NodeState → List EntryValue
entries_of n = n.engine.outbox.entries

-- ---- one call behind another

none_among : (calls others : List NodeCall) → HaveNoTimeout calls → HaveNoTimeout others → HaveNoTimeout (calls ++ others)
none_among [] others none more = more
none_among (offers bytes ∷ calls) others none more = none_among calls others none more
none_among (looks ∷ calls) others none more = none_among calls others none more
none_among (takes took ∷ calls) others none more = none_among calls others none more
none_among (refuses ∷ calls) others none more = none_among calls others none more
none_among (times_out ∷ calls) others none more = absurd none
none_among (refuses_timeout ∷ calls) others none more = none_among calls others none more
none_among (clears ∷ calls) others none more = none_among calls others none more

offered_both : (calls others : List NodeCall) → all_offered (calls ++ others) ≡ all_offered calls ++ all_offered others
offered_both [] others = refl
offered_both (call ∷ calls) others =
    ap (λ (bytes : List ℕ). taken_in call ++ bytes) (offered_both calls others)
    ∙ sym (append_assoc (taken_in call) (all_offered calls) (all_offered others))

module _ (h : Holdings) (most : ℕ) where
  make_both : (calls others : List NodeCall) (added more : List EntryValue) (old middle new : Beside)
      → Make h most calls added old middle → Make h most others more middle new → Make h most (calls ++ others) (added ++ more) old new
  make_both [] others added more old middle new (is, nothing) later =
      subst (λ (entries : List EntryValue). Make h most others (entries ++ more) old new) (sym nothing)
      (subst (λ (b : Beside). Make h most others more b new) (sym is) later)
  make_both (call ∷ calls) others added more old middle new (next, first, rest, is, makes, adds, made) later = (
    next,
    first,
    rest ++ more,
    ap (λ (entries : List EntryValue). entries ++ more) is ∙ append_assoc first rest more,
    makes,
    adds,
    make_both calls others rest more next middle new made later,
  )

  pub made_of_none : (b : Beside) → IsMadeOfCalls h most [] b b
  made_of_none b = record {
    calls = [];
    added = [];
    made = (refl, refl);
    takes = refl;
    no_timeout = tt;
    adds = sym (append-nil b.node.engine.outbox.entries);
  }

  pub made_of_both : (bytes others : List ℕ) (old middle new : Beside)
      → IsMadeOfCalls h most bytes old middle → IsMadeOfCalls h most others middle new → IsMadeOfCalls h most (bytes ++ others) old new
  made_of_both bytes others old middle new one other = record {
    calls = one.calls ++ other.calls;
    added = one.added ++ other.added;
    made = make_both one.calls other.calls one.added other.added old middle new one.made other.made;
    takes = offered_both one.calls other.calls ∙ ap (λ (b : List ℕ). b ++ all_offered other.calls) one.takes ∙ ap (λ (b : List ℕ). bytes ++ b) other.takes;
    no_timeout = none_among one.calls other.calls one.no_timeout other.no_timeout;
    adds = other.adds ∙ ap (λ (entries : List EntryValue). entries ++ other.added) one.adds
        ∙ append_assoc old.node.engine.outbox.entries one.added other.added;
  }

  -- a call that adds this
  made_of_one : (call : NodeCall) (added : List EntryValue) (old new : Beside) → HaveNoTimeout (call ∷ []) → Make h most (call ∷ []) added old new
      → new.node.engine.outbox.entries ≡ old.node.engine.outbox.entries ++ added → IsMadeOfCalls h most (taken_in call ++ []) old new
  made_of_one call added old new none made adds =
      record { calls = call ∷ []; added = added; made = made; takes = refl; no_timeout = none; adds = adds }

  pub offered_made : (bytes : List ℕ) (old new : Beside) → new.node ≡ offered bytes old.node → KeepsNothing old new → IsMadeOfCalls h most bytes old new
  offered_made bytes old new is same =
      let adds = ap entries_of is ∙ offered_entries old.node.engine.stage bytes old.node ∙ sym (append-nil old.node.engine.outbox.entries) in
      subst (λ (b : List ℕ). IsMadeOfCalls h most b old new) (append-nil bytes)
      (made_of_one (offers bytes) [] old new tt (new, [], [], refl, (is, same), adds, (refl, refl)) adds)

  pub looked_made : (old new : Beside) → new.node ≡ searched old.node → KeepsNothing old new → IsMadeOfCalls h most [] old new
  looked_made old new is same =
      let adds = ap entries_of is ∙ searched_entries old.node.engine.stage old.node ∙ sym (append-nil old.node.engine.outbox.entries) in
      made_of_one looks [] old new tt (new, [], [], refl, (is, same), adds, (refl, refl)) adds

  pub took_made : (took : Bool) (old new : Beside) → old.faults ≤ new.faults
      → TakesShown h old.kept new.kept (CountsFaults most old.faults new.faults) old.node new.node took → IsMadeOfCalls h most [] old new
  took_made took old new counts shown =
      let added = map entry_of (effect_of h old.kept (event_of shown.2.device_failed shown.0) old.node.engine).emitted in
      made_of_one (takes took) added old new tt
      (new, added, [], sym (append-nil added), (counts, shown), shown.2.does.emitted, (refl, refl)) shown.2.does.emitted

  pub refused_made : (old new : Beside) → new.faults ≡ old.faults → IsAsBefore h old.kept new.kept old.node new.node → IsMadeOfCalls h most [] old new
  refused_made old new faults same =
      made_of_one refuses [] old new tt (new, [], [], refl, (faults, same), same.does.emitted, (refl, refl)) same.does.emitted
