-- What whatever calls of a node come to.
use Rattle.std.proofs.Common.{◌≡◌, ℕ, ◌<◌, ◌≤◌, Bool, List, [], ◌∷◌, ◌++◌, map, refl, sym, ap, subst, ◌∙◌, append_assoc, arith}
use Rattle.std.proofs.lemmas.List.{append_cancel_left}
use Rattle.uug_link.specs.Entries.{EntryValue, Held}
use Rattle.uug_reader.specs.Cut.{Item}
use Rattle.uug_reader.specs.Reading.{Reading}
use Rattle.uug_reader.specs.Search.{standing, search_of}
use Rattle.uug_session.specs.Arriving.{Buffered, takes_piece}
use Rattle.uug_session.specs.EndStep.{Stage, hailing, linked, ended, Emitted, time_ran_out, unmoved}
use Rattle.uug_session.specs.Engine.{CountsFaults, Does, EngineState, HasFailed, bare, end_of, entry_of, with_outbox}
use Rattle.uug_session.specs.Finding.{finding, finds_nothing}
use Rattle.uug_conversation.specs.Holdings.{Kept, Holdings}
use Rattle.uug_session.specs.Node.{NodeState, ItemValue, text_item, packet_item, bad_item, IsAsBefore, IsLeft, bytes_at, effect_of, offered_at, texts_searched, searched}
use Rattle.uug_session.specs.NodeArriving.{GoesOn, IsAtRest, NodeEnd, hearer_of, node_taker}
use Rattle.uug_session.specs.NodeCalls.{Adds, Beside, HaveNoTimeout, HoldsTheSame, NodeCall, offers as offers_call, looks, takes, refuses, times_out, refuses_timeout, clears, KeepsNothing, Makes, Make, all_offered, taken_in, ShowsWhatIsFound}
use Rattle.uug_session.specs.NodeSteps.{Coming, Comes, GoesThrough, bytes_come, time_passes, come_first, comes_by, comings_of, with_entries}
use Rattle.uug_session.specs.TextsHeld.{TextsHeld, TextSearch, text_waits, text_stands, text_too_long, search_text}
use Rattle.uug_session.proofs.CallLemmas.{late_beside, with_talk}
use Rattle.uug_session.proofs.PacketSearchLemmas.{search_more, search_with}
use Rattle.uug_session.proofs.CourseLemmas.{at, hearer_with, quiet, stays, goes_further}
use Rattle.uug_session.proofs.NodeSearchLemmas.{offers}
use Rattle.uug_session.proofs.NodeItemLemmas.{searched_shows_at, searches_to, takes_shown, refused}

-- no item of the link is shown
pub shows_none : (n : NodeState) (bytes : List ℕ) → n.packets ≡ record { bytes = bytes; shown_size = 0 } → ShowsWhatIsFound n
shows_none n bytes is = λ some. absurd (omega (arith, some, ap (λ (r : Reading). r.shown_size) is))

-- ---- whatever stands in the outbox

-- the node with another outbox
abbrev put : Held → NodeState → NodeState
put outbox n = record n { engine = with_outbox outbox n.engine }

bytes_put : (outbox : Held) (s : Stage) (n : NodeState) → bytes_at s (put outbox n) ≡ bytes_at s n
bytes_put outbox (hailing g) n = refl
bytes_put outbox linked n = refl
bytes_put outbox (ended how) n = refl

hearer_put : (h : Holdings) (kept : List Kept) (said : List Emitted) (failures : List Bool) (outbox : Held) (n : NodeState)
    → hearer_of h kept said failures (put outbox n) ≡ hearer_of h kept said failures n
hearer_put h kept said failures outbox n =
    ap (λ (bytes : List ℕ). hearer_with bytes (record { state = end_of h kept n.engine; emitted = said; failures = failures }))
    (bytes_put outbox n.engine.stage n)

abbrev entries_of : List EntryValue → NodeState → Held
entries_of entries n = record { entries = entries; spare = n.engine.outbox.spare }

pub rests_with : (entries : List EntryValue) (n : NodeState) → IsAtRest n → IsAtRest (with_entries entries n)
rests_with entries n rests =
    subst (λ (bytes : List ℕ). finding n.engine.stage bytes ≡ finds_nothing bytes) (sym (bytes_put (entries_of entries n) n.engine.stage n)) rests

-- what is emitted stands behind whatever the outbox held
pub with_others : (h : Holdings) (kept kept_after : List Kept) (failure : Type 0) (bytes : List ℕ) (a b : NodeState) (before after : List EntryValue)
    → (g : GoesOn h kept kept_after failure bytes a b) → after ≡ before ++ map entry_of g.course.emitted
    → GoesOn h kept kept_after failure bytes (with_entries before a) (with_entries after b)
with_others h kept kept_after failure bytes a b before after g is = record {
  course = record {
    emitted = g.course.emitted;
    failures = g.course.failures;
    counted = g.course.counted;
    entries = is;
    identity = g.course.identity;
    own = g.course.own;
  };
  goes_on = λ more said later.
      ap (takes_piece (node_taker h a.engine.identity) (bytes ++ more)) (hearer_put h kept said (g.course.failures ++ later) (entries_of before a) a)
      ∙ g.goes_on more said later
      ∙ sym (ap (takes_piece (node_taker h a.engine.identity) more) (hearer_put h kept_after (said ++ g.course.emitted) later (entries_of after b) b));
  requests = g.requests;
}

module _ (h : Holdings) where
  -- ---- whatever is called but a timeout

  record Leads (most : ℕ) (bytes : List ℕ) (added : List EntryValue) (old new : Beside) : Type 0 where
    goes_on : GoesOn h old.kept new.kept (HasFailed most old.faults new.faults) bytes (with_entries [] old.node) (with_entries added new.node)
    counts : old.faults ≤ new.faults
    shows : ShowsWhatIsFound new.node

  offered_shows : (s : Stage) (bytes : List ℕ) (n : NodeState) → ShowsWhatIsFound n → ShowsWhatIsFound (offered_at s bytes n)
  offered_shows (hailing g) bytes n shows = shows
  offered_shows linked bytes n shows = λ some.
      let there = shows some in
      (there.0, search_more n.packets.bytes bytes ∙ ap (search_with bytes) there.1)
  offered_shows (ended how) bytes n shows = shows

  looked_shows : (s : Stage) (e : EngineState) (texts : TextsHeld) (packets : Reading) → ShowsWhatIsFound (at s e texts packets) → ShowsWhatIsFound (searched (at s e texts packets))
  looked_shows (hailing g) e texts packets shows = by_search (search_text texts.bytes) where
    by_search : (r : TextSearch) → ShowsWhatIsFound (texts_searched r (at (hailing g) e texts packets))
    by_search (text_waits rest) = shows
    by_search (text_stands text others) = shows
    by_search text_too_long = shows
  looked_shows linked e texts packets shows = searched_shows_at h linked e texts packets refl
  looked_shows (ended how) e texts packets shows = shows

  left_shows : (item : ItemValue) (before after : NodeState) → IsLeft item before after → ShowsWhatIsFound after
  left_shows (text_item text) before after left = shows_none after _ left.1
  left_shows (packet_item p) before after left = shows_none after _ left
  left_shows bad_item before after left = shows_none after _ left

  same_shows : (old new : NodeState) → new.packets ≡ old.packets → ShowsWhatIsFound old → ShowsWhatIsFound new
  same_shows old new is shows =
      subst (λ (r : Reading). 0 < r.shown_size → (item : Item) × (search_of r.bytes ≡ standing item r.shown_size r.bytes)) (sym is) shows

  -- what was added is what was emitted
  added_is : (h : Holdings) (kept kept_after : List Kept) (failure : Type 0) (bytes : List ℕ) (old new : NodeState) (added : List EntryValue)
      → (g : GoesOn h kept kept_after failure bytes old new) → new.engine.outbox.entries ≡ old.engine.outbox.entries ++ added
      → added ≡ map entry_of g.course.emitted
  added_is h kept kept_after failure bytes old new added g adds =
      append_cancel_left old.engine.outbox.entries added (map entry_of g.course.emitted) (sym adds ∙ g.course.entries)

  leads : (most : ℕ) (bytes : List ℕ) (added : List EntryValue) (old new : Beside)
      → GoesOn h old.kept new.kept (HasFailed most old.faults new.faults) bytes old.node new.node
      → new.node.engine.outbox.entries ≡ old.node.engine.outbox.entries ++ added
      → old.faults ≤ new.faults → ShowsWhatIsFound new.node → Leads most bytes added old new
  leads most bytes added old new g adds counts shows = record {
    goes_on = with_others h old.kept new.kept (HasFailed most old.faults new.faults) bytes old.node new.node [] added g
        (added_is h old.kept new.kept (HasFailed most old.faults new.faults) bytes old.node new.node added g adds);
    counts = counts;
    shows = shows;
  }

  kept_same : (most : ℕ) (bytes : List ℕ) (added : List EntryValue) (old new : Beside) → KeepsNothing old new
      → ((failure : Type 0) → GoesOn h old.kept old.kept failure bytes old.node new.node)
      → new.node.engine.outbox.entries ≡ old.node.engine.outbox.entries ++ added
      → ShowsWhatIsFound new.node → Leads most bytes added old new
  kept_same most bytes added old new same goes_on adds shows =
      leads most bytes added old new
      (subst (λ (kept : List Kept). GoesOn h old.kept kept (HasFailed most old.faults new.faults) bytes old.node new.node) (sym same.kept) (goes_on (HasFailed most old.faults new.faults)))
      adds (omega (arith, same.faults)) shows

  -- memory was refused for what a timeout emits: all is as before
  refused_late : (old new : Beside) → Does (unmoved (bare old.node.engine)) (bare new.node.engine) old.node.engine new.node.engine → HoldsTheSame old new
      → IsAsBefore h old.kept new.kept old.node new.node
  refused_late old new does same = record {
    does = record {
      end = ap (λ (kept : List Kept). end_of h kept new.node.engine) same.spool.kept
          ∙ ap (with_talk h old.kept) does.end;
      emitted = does.emitted;
      identity = does.identity;
      own = does.own;
    };
    texts = same.texts;
    packets = same.packets;
  }

  -- the outbox was cleared, and nothing else
  cleared_hearer : (old new : Beside) (said : List Emitted) (failures : List Bool) → new.node.engine ≡ with_outbox new.node.engine.outbox old.node.engine → HoldsTheSame old new
      → hearer_of h new.kept said failures new.node ≡ hearer_of h old.kept said failures old.node
  cleared_hearer old new said failures is same =
      let by : EngineState → TextsHeld → Reading → List Kept → Buffered NodeEnd =
      λ e texts packets kept. hearer_of h kept said failures (record { engine = e; texts = texts; packets = packets }) in
      let engine = with_outbox new.node.engine.outbox old.node.engine in
      ap (λ (e : EngineState). by e new.node.texts new.node.packets new.kept) is
      ∙ ap (λ (texts : TextsHeld). by engine texts new.node.packets new.kept) same.texts
      ∙ ap (λ (packets : Reading). by engine old.node.texts packets new.kept) same.packets
      ∙ ap (by engine old.node.texts old.node.packets) same.spool.kept
      ∙ hearer_put h old.kept said failures new.node.engine.outbox old.node

  cleared : (most : ℕ) (old new : Beside) → new.node.engine ≡ with_outbox new.node.engine.outbox old.node.engine → HoldsTheSame old new
      → ShowsWhatIsFound old.node → Leads most [] [] old new
  cleared most old new is same shows = record {
    goes_on = quiet h old.kept new.kept (HasFailed most old.faults new.faults) [] (with_entries [] old.node) (with_entries [] new.node)
        refl (ap (λ (e : EngineState). e.identity) is) (ap (λ (e : EngineState). e.own) is)
        (ap (λ (e : EngineState). e.dialogue.machine.lists.struck) is) same.spool.kept
        (λ more said later. ap (takes_piece (node_taker h old.node.engine.identity) more)
        (hearer_put h old.kept said later (entries_of [] old.node) old.node
        ∙ sym (cleared_hearer old new said later is same)
        ∙ sym (hearer_put h new.kept said later (entries_of [] new.node) new.node)));
    counts = omega (arith, same.spool.faults);
    shows = same_shows old.node new.node same.packets shows;
  }

  -- ---- one call

  abbrev IsNoTimeout : NodeCall → Type 0
  IsNoTimeout call = HaveNoTimeout (call ∷ [])

  one_call : (most : ℕ) (call : NodeCall) (added : List EntryValue) (old new : Beside) → IsNoTimeout call → ShowsWhatIsFound old.node
      → Makes h most call old new → Adds call added old new → Leads most (taken_in call) added old new
  one_call most (offers_call bytes) added old new other shows (is, same) adds =
      kept_same most bytes added old new same
      (λ failure. subst (λ (n : NodeState). GoesOn h old.kept old.kept failure bytes old.node n) (sym is) (offers h old.kept failure bytes old.node))
      adds
      (subst ShowsWhatIsFound (sym is) (offered_shows old.node.engine.stage bytes old.node shows))
  one_call most looks added old new other shows (is, same) adds =
      kept_same most [] added old new same
      (λ failure. searches_to h old.kept old.kept failure old.node new.node is refl)
      adds
      (subst ShowsWhatIsFound (sym is) (looked_shows old.node.engine.stage old.node.engine old.node.texts old.node.packets shows))
  one_call most (takes took) added old new other shows (counts, shown) adds =
      leads most [] added old new
      (takes_shown h old.node new.node old.kept new.kept (CountsFaults most old.faults new.faults) (HasFailed most old.faults new.faults)
      (λ failed. failed) took (λ is. shows) shown).0
      adds counts (left_shows shown.0 old.node new.node shown.2.left)
  one_call most refuses added old new other shows (counts, same) adds =
      leads most [] added old new
      (refused h old.node new.node old.kept new.kept (HasFailed most old.faults new.faults) same)
      adds (omega (arith, counts)) (same_shows old.node new.node same.packets shows)
  one_call most times_out added old new other shows makes adds = absurd other
  one_call most refuses_timeout added old new other shows (does, same) adds =
      leads most [] added old new
      (refused h old.node new.node old.kept new.kept (HasFailed most old.faults new.faults) (refused_late old new does same))
      adds (omega (arith, same.spool.faults)) (same_shows old.node new.node same.packets shows)
  one_call most clears added old new other shows (is, same) adds =
      subst (λ (more : List EntryValue). Leads most [] more old new) (sym adds.0) (cleared most old new is same shows)

  -- ---- one behind the other

  abbrev Goes : (most : ℕ) → (bytes : List ℕ) → (added : List EntryValue) → (old new : Beside) → Type 0
  Goes most bytes added old new =
      GoesOn h old.kept new.kept (HasFailed most old.faults new.faults) bytes (with_entries [] old.node) (with_entries added new.node)

  goes_both : (most : ℕ) (bytes others : List ℕ) (first more : List EntryValue) (old middle new : Beside)
      → old.faults ≤ middle.faults → middle.faults ≤ new.faults
      → Goes most bytes first old middle → Goes most others more middle new → Goes most (bytes ++ others) (first ++ more) old new
  goes_both most bytes others first more old middle new before later one other =
      goes_further h h old.kept middle.kept new.kept most old.faults middle.faults new.faults bytes others
      (with_entries [] old.node) (with_entries first middle.node) (with_entries (first ++ more) new.node)
      refl before later one
      (with_others h middle.kept new.kept (HasFailed most middle.faults new.faults) others (with_entries [] middle.node) (with_entries more new.node)
      first (first ++ more) other (ap (λ (entries : List EntryValue). first ++ entries) other.course.entries))

  then_leads : (most : ℕ) (bytes others : List ℕ) (first more : List EntryValue) (old middle new : Beside)
      → Leads most bytes first old middle → Leads most others more middle new → Leads most (bytes ++ others) (first ++ more) old new
  then_leads most bytes others first more old middle new one other = record {
    goes_on = goes_both most bytes others first more old middle new one.counts other.counts one.goes_on other.goes_on;
    counts = let n = one.counts in let m = other.counts in omega arith;
    shows = other.shows;
  }

  both_none : (call : NodeCall) (calls : List NodeCall) → HaveNoTimeout (call ∷ calls) → IsNoTimeout call × HaveNoTimeout calls
  both_none (offers_call bytes) calls none = (tt, none)
  both_none looks calls none = (tt, none)
  both_none (takes took) calls none = (tt, none)
  both_none refuses calls none = (tt, none)
  both_none times_out calls none = absurd none
  both_none refuses_timeout calls none = (tt, none)
  both_none clears calls none = (tt, none)

  all_calls : (most : ℕ) (calls : List NodeCall) (added : List EntryValue) (old new : Beside) → HaveNoTimeout calls → ShowsWhatIsFound old.node
      → Make h most calls added old new → Leads most (all_offered calls) added old new
  all_calls most [] added old new none shows (is, nothing) =
      subst (λ (entries : List EntryValue). Leads most [] entries old new) (sym nothing)
      (subst (λ (b : Beside). Leads most [] [] old b) is (record {
        goes_on = stays h old.kept (HasFailed most old.faults old.faults) (with_entries [] old.node);
        counts = omega arith;
        shows = shows;
      }))
  all_calls most (call ∷ calls) added old new none shows (middle, first, more, is, makes, adds, rest) =
      let others = both_none call calls none in
      let one = one_call most call first old middle others.0 shows makes adds in
      subst (λ (entries : List EntryValue). Leads most (taken_in call ++ all_offered calls) entries old new) (sym is)
      (then_leads most (taken_in call) (all_offered calls) first more old middle new one
      (all_calls most calls more middle new others.1 one.shows rest))

  -- ---- timeouts

  timed_out : (most : ℕ) (added : List EntryValue) (old new : Beside) → Makes h most times_out old new → Adds times_out added old new
      → Comes h most time_passes added old new
  timed_out most added old new (late, same) adds =
      let does = late_beside h old.kept old.node.engine new.node.engine late in (
        same,
        record {
          end = ap (λ (kept : List Kept). end_of h kept new.node.engine) same.spool.kept ∙ does.end;
          emitted = append_cancel_left old.node.engine.outbox.entries added
              (map entry_of (effect_of h old.kept time_ran_out old.node.engine).emitted) (sym adds ∙ does.emitted);
          identity = does.identity;
          own = does.own;
        },
      )

  call_shows : (most : ℕ) (call : NodeCall) (added : List EntryValue) (old new : Beside) → ShowsWhatIsFound old.node
      → Makes h most call old new → Adds call added old new → ShowsWhatIsFound new.node
  call_shows most (offers_call bytes) added old new shows makes adds = (one_call most (offers_call bytes) added old new tt shows makes adds).shows
  call_shows most looks added old new shows makes adds = (one_call most looks added old new tt shows makes adds).shows
  call_shows most (takes took) added old new shows makes adds = (one_call most (takes took) added old new tt shows makes adds).shows
  call_shows most refuses added old new shows makes adds = (one_call most refuses added old new tt shows makes adds).shows
  call_shows most times_out added old new shows (late, same) adds = same_shows old.node new.node same.packets shows
  call_shows most refuses_timeout added old new shows makes adds = (one_call most refuses_timeout added old new tt shows makes adds).shows
  call_shows most clears added old new shows makes adds = (one_call most clears added old new tt shows makes adds).shows

  -- bytes in front of what comes then
  in_front : (most : ℕ) (bytes : List ℕ) (comings : List Coming) (first more added : List EntryValue) (old middle new : Beside)
      → Leads most bytes first old middle → added ≡ first ++ more → GoesThrough h most comings more middle new
      → GoesThrough h most (come_first bytes comings) added old new
  in_front most bytes [] first more added old middle new one is through =
      (middle, first, more, is, (one.counts, one.goes_on), through)
  in_front most bytes (bytes_come others ∷ comings) first more added old middle new one is (next, second, last, parts, (counts, goes_on), through) =
      let n = one.counts in (
        next,
        first ++ second,
        last,
        is ∙ ap (λ (entries : List EntryValue). first ++ entries) parts ∙ sym (append_assoc first second last),
        (omega (arith, n, counts), goes_both most bytes others first second old middle next one.counts counts one.goes_on goes_on),
        through,
      )
  in_front most bytes (time_passes ∷ comings) first more added old middle new one is through =
      (middle, first, more, is, (one.counts, one.goes_on), through)

  through : (most : ℕ) (calls : List NodeCall) (added : List EntryValue) (old new : Beside) → ShowsWhatIsFound old.node
      → Make h most calls added old new → GoesThrough h most (comings_of calls) added old new
  through most [] added old new shows made = made
  through most (call ∷ calls) added old new shows (middle, first, more, is, makes, adds, rest) =
      by_call call makes adds (through most calls more middle new (call_shows most call first old middle shows makes adds) rest) where
        by_call : (call : NodeCall) → Makes h most call old middle → Adds call first old middle → GoesThrough h most (comings_of calls) more middle new
            → GoesThrough h most (comes_by call (comings_of calls)) added old new
        by_call (offers_call bytes) makes adds later = in_front most bytes (comings_of calls) first more added old middle new (one_call most (offers_call bytes) first old middle tt shows makes adds) is later
        by_call looks makes adds later = in_front most [] (comings_of calls) first more added old middle new (one_call most looks first old middle tt shows makes adds) is later
        by_call (takes took) makes adds later = in_front most [] (comings_of calls) first more added old middle new (one_call most (takes took) first old middle tt shows makes adds) is later
        by_call refuses makes adds later = in_front most [] (comings_of calls) first more added old middle new (one_call most refuses first old middle tt shows makes adds) is later
        by_call times_out makes adds later = (middle, first, more, is, timed_out most first old middle makes adds, later)
        by_call refuses_timeout makes adds later = in_front most [] (comings_of calls) first more added old middle new (one_call most refuses_timeout first old middle tt shows makes adds) is later
        by_call clears makes adds later = in_front most [] (comings_of calls) first more added old middle new (one_call most clears first old middle tt shows makes adds) is later

  pub calls_go_through : (most : ℕ) (calls : List NodeCall) (added : List EntryValue) (old new : Beside) → ShowsWhatIsFound old.node
      → Make h most calls added old new → GoesThrough h most (comings_of calls) added old new
  calls_go_through most calls added old new shows made = through most calls added old new shows made

  pub calls_go_on : (most : ℕ) (calls : List NodeCall) (added : List EntryValue) (old new : Beside) → HaveNoTimeout calls → ShowsWhatIsFound old.node
      → Make h most calls added old new
      → GoesOn h old.kept new.kept (HasFailed most old.faults new.faults) (all_offered calls) (with_entries [] old.node) (with_entries added new.node)
  calls_go_on most calls added old new none shows made = (all_calls most calls added old new none shows made).goes_on

  pub calls_show : (most : ℕ) (calls : List NodeCall) (added : List EntryValue) (old new : Beside) → ShowsWhatIsFound old.node
      → Make h most calls added old new → ShowsWhatIsFound new.node
  calls_show most [] added old new shows (is, nothing) = subst (λ (b : Beside). ShowsWhatIsFound b.node) is shows
  calls_show most (call ∷ calls) added old new shows (middle, first, more, is, makes, adds, rest) =
      calls_show most calls more middle new (call_shows most call first old middle shows makes adds) rest
