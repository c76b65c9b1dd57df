-- What a line has brought so far led its end.
use Rattle.std.proofs.Common.{◌≡◌, ℕ, ◌≤◌, List, [], ◌∷◌, ◌++◌, Option, Some, None, Result, Ok, Err, OnErr, drop, length, map, take, refl, sym, ap, subst, ◌∙◌, append-nil, append_assoc, arith}
use Rattle.std.proofs.Math.Seq.{take-append-le}
use Rattle.std.proofs.lemmas.List.{take-append-drop}
use Rattle.uug_conversation.specs.DialogueValue.{dialogue_has_parted}
use Rattle.uug_conversation.specs.Holdings.{Holdings, Kept}
use Rattle.uug_session.proofs.LineEventLemmas.{ListensOn, end_listens, late_listens, listens_at_first, listens_cleared, listens_more, lost_listens, piece_listens}
use Rattle.uug_session.specs.LineEvents.{HasListened, LineEvent, ListeningEnd, after_line_event, after_line_events, brings_bytes, brings_nothing, is_at_end, is_left, listening_at}
use Rattle.uug_link.specs.Entries.{EntryValue}
use Rattle.uug_session.specs.Arriving.{Buffered}
use Rattle.uug_session.proofs.CallLemmas.{late_beside}
use Rattle.uug_session.specs.EndStep.{Emitted, Identity, time_ran_out}
use Rattle.uug_session.specs.Engine.{entry_of, hung_up, with_stage}
use Rattle.uug_session.specs.Node.{NodeState, effect_of}
use Rattle.uug_transfer.specs.BufferedNodes.{IsCleared, SendsOut}
use Rattle.uug_transfer.specs.Listening.{HearsLine, HearsSaying, SaysEach, all_said, reads_in}
use Rattle.uug_transfer.specs.Outgoing.{count_behind, count_with, outgoing_from, outgoing_of_entry}
use Rattle.uug_transfer.specs.ReadOutcomes.{IsWithin, TakesOutcome, outcome_bytes}
use Rattle.uug_transfer.specs.SessionFaults.{UnlessRefused}
use Rattle.uug_transfer.specs.Received.{Received, also_received, piece, received_of, silence}
use Rattle.uug_transfer.specs.Thinning.{thinned}
use Rattle.uug_transfer.specs.Writing.{TakesFront, TalksAtLine, all_thinned, also_taken, goes_out}
use Rattle.uug_transfer.specs.declared.fault_injector.FaultInjector.{FaultInjector}
use Rattle.uug_transfer.specs.declared.read_outcome.ReadOutcome.{ReadOutcome}
use Rattle.uug_transfer.specs.declared.read_outcome.ReadOutcome.TheVariants.{Bytes, TimedOut, Eof}
use Rattle.uug_transfer.specs.declared.session_fault.SessionFault.{SessionFault}
use Rattle.uug_transfer.specs.declared.session_fault.SessionFault.TheVariants as fault
use Rattle.uug_transfer.specs.declared.thinning.Thinning.{Thinning}

-- ---- what was received

reads_append : (es more : List LineEvent) → reads_in (es ++ more) ≡ reads_in es ++ reads_in more
reads_append [] more = refl
reads_append (brings_bytes bytes failures ∷ es) more = ap (λ (rs : List Received). piece bytes ∷ rs) (reads_append es more)
reads_append (brings_nothing ∷ es) more = ap (λ (rs : List Received). silence ∷ rs) (reads_append es more)
reads_append (is_at_end ∷ es) more = reads_append es more
reads_append (is_left ∷ es) more = reads_append es more

none_received : (r : Option (List Received)) → r ≡ also_received [] r
none_received None = refl
none_received (Some rs) = ap (λ (x : List Received). Some x) (sym (append-nil rs))

both_received : (first more : List Received) (r : Option (List Received)) →
    also_received more (also_received first r) ≡ also_received (first ++ more) r
both_received first more None = refl
both_received first more (Some rs) = ap (λ (x : List Received). Some x) (append_assoc rs first more)

-- ---- what each event had the end emit

said_with : (said : List (List Emitted)) (says : List Emitted) → all_said (said ++ says ∷ []) ≡ all_said said ++ says
said_with [] says = append-nil says
said_with (first ∷ said) says =
    ap (λ (z : List Emitted). first ++ z) (said_with said says) ∙ sym (append_assoc first (all_said said) says)

says_one_more : (h : Holdings) (id : Identity) (e : LineEvent) (more : List Emitted) (es : List LineEvent) (says : List (List Emitted))
    (b : Buffered ListeningEnd) → SaysEach h id es says b →
    (after_line_event h id e (after_line_events h id es b)).end.emitted ≡ (after_line_events h id es b).end.emitted ++ more →
    SaysEach h id (es ++ e ∷ []) (says ++ more ∷ []) b
says_one_more h id e more [] [] b each is = (is, tt)
says_one_more h id e more [] (said ∷ says) b each is = absurd each
says_one_more h id e more (x ∷ es) [] b each is = absurd each
says_one_more h id e more (x ∷ es) (said ∷ says) b each is =
    (each.0, says_one_more h id e more es says (after_line_event h id x b) each.1 is)

-- ---- one step behind another

pub hears_at_first : (h : Holdings) (k : List Kept) (r : Option (List Received)) (a : NodeState) → HearsSaying h k k r r [] a a
hears_at_first h k r a = record { events = []; listened = listens_at_first h k a; each = tt; told = none_received r }

hears_more : (h : Holdings) (k l m : List Kept) (r s t : Option (List Received)) (said : List (List Emitted)) (a b d : NodeState)
    (e : LineEvent) (says : List Emitted) → HearsSaying h k l r s said a b → ListensOn h l m e says b d →
    t ≡ also_received (reads_in (e ∷ [])) s → HearsSaying h k m r t (said ++ says ∷ []) a d
hears_more h k l m r s t said a b d e says heard on told = record {
  events = heard.events ++ e ∷ [];
  listened = subst (λ (z : List Emitted). HasListened h k m (heard.events ++ e ∷ []) z a d) (sym (said_with said says))
      (listens_more h k l m heard.events e (all_said said) says a b d heard.listened on);
  each = let now = after_line_events h a.engine.identity heard.events (listening_at h k a) in
      says_one_more h a.engine.identity e says heard.events said (listening_at h k a) heard.each
      (ap (λ (id : Identity). (after_line_event h id e now).end.emitted) (sym heard.listened.identity)
      ∙ on.emitted now heard.listened.held heard.listened.state);
  told = told ∙ ap (also_received (reads_in (e ∷ []))) heard.told
      ∙ both_received (reads_in heard.events) (reads_in (e ∷ [])) r
      ∙ ap (λ (rs : List Received). also_received rs r) (sym (reads_append heard.events (e ∷ [])));
}

hears_cleared : (h : Holdings) (k l m : List Kept) (r s : Option (List Received)) (said : List (List Emitted)) (a b d : NodeState) →
    HearsSaying h k l r s said a b → IsCleared b d → m ≡ l → HearsSaying h k m r s said a d
hears_cleared h k l m r s said a b d heard cleared same = record {
  events = heard.events;
  listened = listens_cleared h k l m heard.events (all_said said) a b d heard.listened cleared.engine cleared.texts cleared.packets same;
  each = heard.each;
  told = heard.told;
}

-- only what it writes has changed
pub hears_same : (h : Holdings) (k l m : List Kept) (r s t : Option (List Received)) (said : List (List Emitted)) (a b d : NodeState) →
    HearsSaying h k l r s said a b → d ≡ b → m ≡ l → t ≡ s → HearsSaying h k m r t said a d
hears_same h k l m r s t said a b d heard node kept received =
    subst (λ (n : NodeState). HearsSaying h k m r t said a n) (sym node)
    (subst (λ (x : List Kept). HearsSaying h k x r t said a b) (sym kept)
    (subst (λ (x : Option (List Received)). HearsSaying h k l r x said a b) (sym received) heard))

-- what the end emits by a read
pub says_by : (h : Holdings) (l m : List Kept) (failure : Type 0) (outcome : ReadOutcome) (buffer : List ℕ)
    (i j : FaultInjector) (bytes left : List ℕ) (b d : NodeState) → TakesOutcome h l m failure outcome buffer i j bytes left b d →
    List Emitted
says_by h l m failure (Bytes n) buffer i j bytes left b d takes = takes.takes.course.emitted
says_by h l m failure TimedOut buffer i j bytes left b d takes = (effect_of h l time_ran_out b.engine).emitted
says_by h l m failure Eof buffer i j bytes left b d takes = []

-- one read more
hears_outcome : (h : Holdings) (k l m : List Kept) (failure : Type 0) (outcome : ReadOutcome) (slice buffer : List ℕ)
    (i j : FaultInjector) (bytes left : List ℕ) (r s t : Option (List Received)) (said : List (List Emitted)) (a b d : NodeState) →
    HearsSaying h k l r s said a b → (takes : TakesOutcome h l m failure outcome buffer i j bytes left b d) →
    t ≡ also_received (received_of outcome slice) s → outcome_bytes outcome slice ≡ outcome_bytes outcome buffer →
    HearsSaying h k m r t (said ++ says_by h l m failure outcome buffer i j bytes left b d takes ∷ []) a d
unfolding says_by
hears_outcome h k l m failure (Bytes n) slice buffer i j bytes left r s t said a b d heard takes told same =
    hears_cleared h k m m r t (said ++ takes.takes.course.emitted ∷ []) a takes.between d
    (hears_more h k l m r s t said a b takes.between (brings_bytes (take n buffer) (takes.takes.course.failures ++ []))
    takes.takes.course.emitted heard (piece_listens h l m failure (take n buffer) b takes.between takes.takes)
    (told ∙ ap (λ (x : List ℕ). also_received (piece x ∷ []) s) same))
    takes.sends.cleared refl
hears_outcome h k l m failure TimedOut slice buffer i j bytes left r s t said a b d heard takes told same =
    let waits = takes.0 in
    let says = (effect_of h l time_ran_out b.engine).emitted in
    hears_cleared h k l m r t (said ++ says ∷ []) a waits.between d
    (hears_more h k l l r s t said a b waits.between brings_nothing says heard
    (late_listens h l b waits.between waits.late waits.texts waits.packets)
    told)
    waits.sends.cleared takes.1
hears_outcome h k l m failure Eof slice buffer i j bytes left r s t said a b d heard takes told same =
    hears_same h k l m r t t (said ++ [] ∷ []) a b d
    (hears_more h k l l r s t said a b b is_at_end [] heard (end_listens h l b) told) takes.0 takes.1 refl

-- what was read stands in front
pub front_read : (outcome : ReadOutcome) (slice rest : List ℕ) (room : ℕ) → IsWithin room outcome → room ≤ length slice →
    outcome_bytes outcome slice ≡ outcome_bytes outcome (slice ++ rest)
front_read (Bytes n) slice rest room within size = sym (take-append-le n slice rest (omega (arith, within.1, size)))
front_read TimedOut slice rest room within size = refl
front_read Eof slice rest room within size = refl

-- it hangs up
hears_lost : (h : Holdings) (k l m : List Kept) (r s t : Option (List Received)) (said : List (List Emitted)) (a b d : NodeState) →
    HearsSaying h k l r s said a b →
    d.engine ≡ with_stage (hung_up (dialogue_has_parted b.engine.dialogue) b.engine.stage) b.engine → m ≡ l → t ≡ s →
    HearsSaying h k m r t (said ++ [] ∷ []) a d
hears_lost h k l m r s t said a b d heard lost kept received =
    hears_same h k l m r s t (said ++ [] ∷ []) a d d
    (hears_more h k l l r s s said a b d is_left [] heard (lost_listens h l b d lost) (none_received s)) refl kept received

-- ---- what goes out

outgoing_append : (d f : Option ℕ) (n : ℕ) (es more : List EntryValue) →
    outgoing_from d f n (es ++ more) ≡ outgoing_from d f n es ++ outgoing_from d f (count_behind n es) more
outgoing_append d f n [] more = refl
outgoing_append d f n (e ∷ es) more =
    ap (λ (z : List ℕ). outgoing_of_entry d f n e ++ z) (outgoing_append d f (count_with n e) es more)
    ∙ sym (append_assoc (outgoing_of_entry d f n e) (outgoing_from d f (count_with n e) es) (outgoing_from d f (count_behind (count_with n e) es) more))

count_append : (n : ℕ) (es more : List EntryValue) → count_behind n (es ++ more) ≡ count_behind (count_behind n es) more
count_append n [] more = refl
count_append n (e ∷ es) more = count_append (count_with n e) es more

thinned_with : (thinning : Thinning) (said : List (List Emitted)) (more : List Emitted) →
    all_thinned thinning (said ++ more ∷ []) ≡ all_thinned thinning said ++ thinned thinning (map entry_of more)
thinned_with thinning [] more = append-nil (thinned thinning (map entry_of more))
thinned_with thinning (first ∷ said) more =
    ap (λ (z : List EntryValue). thinned thinning (map entry_of first) ++ z) (thinned_with thinning said more)
    ∙ sym (append_assoc (thinned thinning (map entry_of first)) (all_thinned thinning said) (thinned thinning (map entry_of more)))

-- what emits nothing adds nothing
with_nothing : (thinning : Thinning) (said : List (List Emitted)) → all_thinned thinning (said ++ [] ∷ []) ≡ all_thinned thinning said
with_nothing thinning said = thinned_with thinning said [] ∙ append-nil (all_thinned thinning said)

-- the injector when this was emitted
pub record HasCounted (injector now : FaultInjector) (said : List (List Emitted)) : Type 0 where
  pub count : now.count ≡ count_behind injector.count (all_thinned injector.thinning said)
  pub drop_every : now.drop_every ≡ injector.drop_every
  pub flip_every : now.flip_every ≡ injector.flip_every
  pub thinning : now.thinning ≡ injector.thinning

-- Of what was to be written and goes out of what was said, this is left, and the line has taken the rest.
pub record HasWritten (injector : FaultInjector) (bytes left : List ℕ) (said : List (List Emitted)) (taken taken_after : Option (List ℕ)) : Type 0 where
  pub written : List ℕ
  pub all : bytes ++ goes_out injector said ≡ written ++ left
  pub took : taken_after ≡ also_taken written taken

pub record TalksOn (h : Holdings) (k l : List Kept) (r s : Option (List Received)) (injector now : FaultInjector) (bytes left : List ℕ)
    (taken taken_after : Option (List ℕ)) (a b : NodeState) : Type 0 where
  pub says : List (List Emitted)
  pub heard : HearsSaying h k l r s says a b
  pub writes : HasWritten injector bytes left says taken taken_after
  pub counted : HasCounted injector now says
  pub cleared : b.engine.outbox.entries ≡ []

none_taken : (t : Option (List ℕ)) → t ≡ also_taken [] t
none_taken None = refl
none_taken (Some bytes) = ap (λ (x : List ℕ). Some x) (sym (append-nil bytes))

both_taken : (first more : List ℕ) (t : Option (List ℕ)) → also_taken more (also_taken first t) ≡ also_taken (first ++ more) t
both_taken first more None = refl
both_taken first more (Some bytes) = ap (λ (x : List ℕ). Some x) (append_assoc bytes first more)

pub talks_at_first : (h : Holdings) (k : List Kept) (r : Option (List Received)) (injector : FaultInjector) (bytes : List ℕ)
    (t : Option (List ℕ)) (a : NodeState) → a.engine.outbox.entries ≡ [] → TalksOn h k k r r injector injector bytes bytes t t a a
talks_at_first h k r injector bytes t a cleared = record {
  says = [];
  heard = hears_at_first h k r a;
  writes = record { written = []; all = append-nil bytes; took = none_taken t };
  counted = record { count = refl; drop_every = refl; flip_every = refl; thinning = refl };
  cleared = cleared;
}

-- all that was left is written
pub talks_written : (h : Holdings) (k l m : List Kept) (r s t : Option (List Received)) (injector now then_now : FaultInjector)
    (bytes left then_left : List ℕ) (u v w : Option (List ℕ)) (a b d : NodeState) →
    TalksOn h k l r s injector now bytes left u v a b →
    d ≡ b → m ≡ l → t ≡ s → then_now ≡ now → then_left ≡ [] → w ≡ also_taken left v →
    TalksOn h k m r t injector then_now bytes then_left u w a d
talks_written h k l m r s t injector now then_now bytes left then_left u v w a b d talks node kept received same none took = record {
  says = talks.says;
  heard = hears_same h k l m r s t talks.says a b d talks.heard node kept received;
  writes = record {
    written = talks.writes.written ++ left;
    all = talks.writes.all ∙ sym (append-nil (talks.writes.written ++ left))
        ∙ ap (λ (z : List ℕ). (talks.writes.written ++ left) ++ z) (sym none);
    took = took ∙ ap (also_taken left) talks.writes.took ∙ both_taken talks.writes.written left u;
  };
  counted = subst (λ (x : FaultInjector). HasCounted injector x talks.says) (sym same) talks.counted;
  cleared = ap (λ (n : NodeState). n.engine.outbox.entries) node ∙ talks.cleared;
}

-- what is emitted then goes out behind the rest
more_goes_out : (injector now then_now : FaultInjector) (bytes left then_left : List ℕ) (said : List (List Emitted)) (more : List Emitted)
    (u v : Option (List ℕ)) (between after : NodeState) → HasWritten injector bytes left said u v → HasCounted injector now said →
    between.engine.outbox.entries ≡ map entry_of more → SendsOut now then_now left then_left between after →
    HasWritten injector bytes then_left (said ++ more ∷ []) u v × HasCounted injector then_now (said ++ more ∷ [])
more_goes_out injector now then_now bytes left then_left said more u v between after writes counted entries sends =
    let d = injector.drop_every in
    let f = injector.flip_every in
    let es = all_thinned injector.thinning said in
    let new = thinned injector.thinning (map entry_of more) in
    let n = count_behind injector.count es in
    let appended : all_thinned injector.thinning (said ++ more ∷ []) ≡ es ++ new = thinned_with injector.thinning said more in
    let remains : thinned now.thinning between.engine.outbox.entries ≡ new =
    ap (λ x. thinned x between.engine.outbox.entries) counted.thinning ∙ ap (thinned injector.thinning) entries in
    let out : outgoing_from now.drop_every now.flip_every now.count (thinned now.thinning between.engine.outbox.entries)
    ≡ outgoing_from d f n new =
    ap (λ x. outgoing_from x now.flip_every now.count (thinned now.thinning between.engine.outbox.entries)) counted.drop_every
    ∙ ap (λ x. outgoing_from d x now.count (thinned now.thinning between.engine.outbox.entries)) counted.flip_every
    ∙ ap (λ x. outgoing_from d f x (thinned now.thinning between.engine.outbox.entries)) counted.count
    ∙ ap (outgoing_from d f n) remains in (
      record {
        written = writes.written;
        all = ap (λ x. bytes ++ outgoing_from d f injector.count x) appended
            ∙ ap (λ (z : List ℕ). bytes ++ z) (outgoing_append d f injector.count es new)
            ∙ sym (append_assoc bytes (outgoing_from d f injector.count es) (outgoing_from d f n new))
            ∙ ap (λ (z : List ℕ). z ++ outgoing_from d f n new) writes.all
            ∙ append_assoc writes.written left (outgoing_from d f n new)
            ∙ ap (λ (z : List ℕ). writes.written ++ z) (sym (sends.goes_out ∙ ap (λ (z : List ℕ). left ++ z) out));
        took = writes.took;
      },
      record {
        count = sends.count ∙ ap (λ x. count_behind x (thinned now.thinning between.engine.outbox.entries)) counted.count
            ∙ ap (count_behind n) remains ∙ sym (count_append injector.count es new)
            ∙ ap (count_behind injector.count) (sym appended);
        drop_every = sends.drop_every ∙ counted.drop_every;
        flip_every = sends.flip_every ∙ counted.flip_every;
        thinning = sends.thinning ∙ counted.thinning;
      },
    )

nothing_more : (injector now : FaultInjector) (bytes left : List ℕ) (said : List (List Emitted)) (u v : Option (List ℕ)) →
    HasWritten injector bytes left said u v → HasCounted injector now said →
    HasWritten injector bytes left (said ++ [] ∷ []) u v × HasCounted injector now (said ++ [] ∷ [])
nothing_more injector now bytes left said u v writes counted =
    let same = with_nothing injector.thinning said in (
      record {
        written = writes.written;
        all = ap (λ x. bytes ++ outgoing_from injector.drop_every injector.flip_every injector.count x) same ∙ writes.all;
        took = writes.took;
      },
      record {
        count = counted.count ∙ ap (count_behind injector.count) (sym same);
        drop_every = counted.drop_every;
        flip_every = counted.flip_every;
        thinning = counted.thinning;
      },
    )

-- one read more
talks_outcome : (h : Holdings) (k l m : List Kept) (failure : Type 0) (outcome : ReadOutcome) (slice buffer : List ℕ)
    (injector now then_now : FaultInjector) (bytes left then_left : List ℕ) (r s t : Option (List Received)) (u v : Option (List ℕ))
    (a b d : NodeState) → TalksOn h k l r s injector now bytes left u v a b →
    TakesOutcome h l m failure outcome buffer now then_now left then_left b d →
    t ≡ also_received (received_of outcome slice) s → outcome_bytes outcome slice ≡ outcome_bytes outcome buffer →
    TalksOn h k m r t injector then_now bytes then_left u v a d
unfolding says_by
talks_outcome h k l m failure (Bytes n) slice buffer injector now then_now bytes left then_left r s t u v a b d talks takes told same =
    let more = takes.takes.course.emitted in
    let entries : takes.between.engine.outbox.entries ≡ map entry_of more =
    takes.takes.course.entries ∙ ap (λ z. z ++ map entry_of more) talks.cleared in
    let wrote = more_goes_out injector now then_now bytes left then_left talks.says more u v takes.between d talks.writes talks.counted
    entries takes.sends in
    record {
      says = talks.says ++ more ∷ [];
      heard = hears_outcome h k l m failure (Bytes n) slice buffer now then_now left then_left r s t talks.says a b d talks.heard takes told same;
      writes = wrote.0;
      counted = wrote.1;
      cleared = takes.sends.cleared.entries;
    }
talks_outcome h k l m failure TimedOut slice buffer injector now then_now bytes left then_left r s t u v a b d talks takes told same =
    let waits = takes.0 in
    let more = (effect_of h l time_ran_out b.engine).emitted in
    let entries : waits.between.engine.outbox.entries ≡ map entry_of more =
    (late_beside h l b.engine waits.between.engine waits.late).emitted ∙ ap (λ z. z ++ map entry_of more) talks.cleared in
    let wrote = more_goes_out injector now then_now bytes left then_left talks.says more u v waits.between d talks.writes talks.counted
    entries waits.sends in
    record {
      says = talks.says ++ more ∷ [];
      heard = hears_outcome h k l m failure TimedOut slice buffer now then_now left then_left r s t talks.says a b d talks.heard takes told same;
      writes = wrote.0;
      counted = wrote.1;
      cleared = waits.sends.cleared.entries;
    }
talks_outcome h k l m failure Eof slice buffer injector now then_now bytes left then_left r s t u v a b d talks takes told same =
    let wrote = nothing_more injector now bytes left talks.says u v talks.writes talks.counted in
    record {
      says = talks.says ++ [] ∷ [];
      heard = hears_outcome h k l m failure Eof slice buffer now then_now left then_left r s t talks.says a b d talks.heard takes told same;
      writes = subst (λ (x : List ℕ). HasWritten injector bytes x (talks.says ++ [] ∷ []) u v) (sym takes.3) wrote.0;
      counted = subst (λ (x : FaultInjector). HasCounted injector x (talks.says ++ [] ∷ [])) (sym takes.2) wrote.1;
      cleared = ap (λ (n : NodeState). n.engine.outbox.entries) takes.0 ∙ talks.cleared;
    }

-- beside a spool that gives and accepts the same
pub talks_read : (f h : Holdings) (k l m : List Kept) (failure : Type 0) (outcome : ReadOutcome) (slice buffer : List ℕ)
    (injector now then_now : FaultInjector) (bytes left then_left : List ℕ) (r s t : Option (List Received)) (u v w : Option (List ℕ))
    (a b d : NodeState) → f ≡ h → TalksOn h k l r s injector now bytes left u v a b →
    TakesOutcome f l m failure outcome buffer now then_now left then_left b d →
    t ≡ also_received (received_of outcome slice) s → outcome_bytes outcome slice ≡ outcome_bytes outcome buffer → w ≡ v →
    TalksOn h k m r t injector then_now bytes then_left u w a d
talks_read f h k l m failure outcome slice buffer injector now then_now bytes left then_left r s t u v w a b d held talks takes told same kept_so =
    subst (λ (x : Option (List ℕ)). TalksOn h k m r t injector then_now bytes then_left u x a d) (sym kept_so)
    (talks_outcome h k l m failure outcome slice buffer injector now then_now bytes left then_left r s t u v a b d talks
    (subst (λ (x : Holdings). TakesOutcome x l m failure outcome buffer now then_now left then_left b d) held takes) told same)

-- a line is told how far the session has come
pub talks_noted : (h : Holdings) (k l : List Kept) (r s t : Option (List Received)) (injector now : FaultInjector) (bytes left : List ℕ)
    (u v w : Option (List ℕ)) (a b : NodeState) → TalksOn h k l r s injector now bytes left u v a b → t ≡ s → w ≡ v →
    TalksOn h k l r t injector now bytes left u w a b
talks_noted h k l r s t injector now bytes left u v w a b talks told took =
    subst (λ (x : Option (List Received)). TalksOn h k l r x injector now bytes left u w a b) (sym told)
    (subst (λ (x : Option (List ℕ)). TalksOn h k l r s injector now bytes left u x a b) (sym took) talks)

-- ---- in the end

takes_written : (injector : FaultInjector) (bytes left : List ℕ) (said : List (List Emitted)) (u v : Option (List ℕ)) →
    HasWritten injector bytes left said u v → TakesFront (bytes ++ goes_out injector said) u v
takes_written injector bytes left said None v writes = tt
takes_written injector bytes left said (Some before) v writes = (writes.written, left, writes.all, writes.took)

takes_some : (injector : FaultInjector) (bytes left : List ℕ) (said : List (List Emitted)) (u v w : Option (List ℕ)) →
    HasWritten injector bytes left said u v → TakesFront left v w → TakesFront (bytes ++ goes_out injector said) u w
takes_some injector bytes left said None v w writes some = tt
takes_some injector bytes left said (Some before) v w writes some =
    let front = subst (λ (x : Option (List ℕ)). TakesFront left x w) writes.took some in (
      writes.written ++ front.0,
      front.1,
      writes.all ∙ ap (λ (z : List ℕ). writes.written ++ z) front.2 ∙ sym (append_assoc writes.written front.0 front.1),
      front.3 ∙ ap (λ (z : List ℕ). Some z) (append_assoc before writes.written front.0),
    )

pub talks_over : (h : Holdings) (k l m : List Kept) (r s t : Option (List Received)) (injector now : FaultInjector) (bytes left : List ℕ)
    (u v w : Option (List ℕ)) (a b d : NodeState) → TalksOn h k l r s injector now bytes left u v a b → d ≡ b → m ≡ l → t ≡ s → w ≡ v →
    TalksAtLine h k m r t injector bytes u w a d
talks_over h k l m r s t injector now bytes left u v w a b d talks node kept received took = record {
  says = talks.says;
  heard = hears_same h k l m r s t talks.says a b d talks.heard node kept received;
  takes = subst (λ (x : Option (List ℕ)). TakesFront (bytes ++ goes_out injector talks.says) u x) (sym took)
      (takes_written injector bytes left talks.says u v talks.writes);
}

-- where the line has failed
pub talks_some : (h : Holdings) (k l m : List Kept) (r s t : Option (List Received)) (injector now : FaultInjector) (bytes left : List ℕ)
    (u v w : Option (List ℕ)) (a b d : NodeState) → TalksOn h k l r s injector now bytes left u v a b → d ≡ b → m ≡ l → t ≡ s →
    TakesFront left v w → TalksAtLine h k m r t injector bytes u w a d
talks_some h k l m r s t injector now bytes left u v w a b d talks node kept received took = record {
  says = talks.says;
  heard = hears_same h k l m r s t talks.says a b d talks.heard node kept received;
  takes = takes_some injector bytes left talks.says u v w talks.writes took;
}

-- it hangs up
pub talks_lost : (h : Holdings) (k l m : List Kept) (r s t : Option (List Received)) (injector : FaultInjector) (bytes : List ℕ)
    (u v w : Option (List ℕ)) (a b d : NodeState) → TalksAtLine h k l r s injector bytes u v a b →
    d.engine ≡ with_stage (hung_up (dialogue_has_parted b.engine.dialogue) b.engine.stage) b.engine → m ≡ l → t ≡ s → w ≡ v →
    TalksAtLine h k m r t injector bytes u w a d
talks_lost h k l m r s t injector bytes u v w a b d talks lost kept received took = record {
  says = talks.says ++ [] ∷ [];
  heard = hears_lost h k l m r s t talks.says a b d talks.heard lost kept received;
  takes = subst (λ (x : List EntryValue). TakesFront (bytes ++ outgoing_from injector.drop_every injector.flip_every injector.count x) u w)
      (sym (with_nothing injector.thinning talks.says))
      (subst (λ (x : Option (List ℕ)). TakesFront (bytes ++ goes_out injector talks.says) u x) (sym took) talks.takes);
}

-- ---- whatever it has emitted

pub line_at_first : (h : Holdings) (k : List Kept) (r : Option (List Received)) (a : NodeState) → HearsLine h k k r r a a
line_at_first h k r a = record { says = []; heard = hears_at_first h k r a }

pub line_same : (h : Holdings) (k l m : List Kept) (r s t : Option (List Received)) (a b d : NodeState) → HearsLine h k l r s a b →
    d ≡ b → m ≡ l → t ≡ s → HearsLine h k m r t a d
line_same h k l m r s t a b d line node kept received =
    record { says = line.says; heard = hears_same h k l m r s t line.says a b d line.heard node kept received }

pub line_read : (f h : Holdings) (k l m : List Kept) (failure : Type 0) (outcome : ReadOutcome) (slice buffer : List ℕ)
    (i j : FaultInjector) (bytes left : List ℕ) (r s t : Option (List Received)) (a b d : NodeState) → f ≡ h →
    HearsLine h k l r s a b → TakesOutcome f l m failure outcome buffer i j bytes left b d →
    t ≡ also_received (received_of outcome slice) s → outcome_bytes outcome slice ≡ outcome_bytes outcome buffer →
    HearsLine h k m r t a d
line_read f h k l m failure outcome slice buffer i j bytes left r s t a b d held line takes told same =
    let here : TakesOutcome h l m failure outcome buffer i j bytes left b d =
    subst (λ (x : Holdings). TakesOutcome x l m failure outcome buffer i j bytes left b d) held takes in
    record {
      says = line.says ++ says_by h l m failure outcome buffer i j bytes left b d here ∷ [];
      heard = hears_outcome h k l m failure outcome slice buffer i j bytes left r s t line.says a b d line.heard here told same;
    }

pub line_lost : (h : Holdings) (k l m : List Kept) (r s t : Option (List Received)) (a b d : NodeState) → HearsLine h k l r s a b →
    d.engine ≡ with_stage (hung_up (dialogue_has_parted b.engine.dialogue) b.engine.stage) b.engine → m ≡ l → t ≡ s →
    HearsLine h k m r t a d
line_lost h k l m r s t a b d line lost kept received =
    record { says = line.says ++ [] ∷ []; heard = hears_lost h k l m r s t line.says a b d line.heard lost kept received }

-- ---- one write after another

pub record Wrote (bytes left : List ℕ) (u v : Option (List ℕ)) : Type 0 where
  pub written : List ℕ
  pub all : bytes ≡ written ++ left
  pub took : v ≡ also_taken written u

pub wrote_none : (bytes : List ℕ) (u : Option (List ℕ)) → Wrote bytes bytes u u
wrote_none bytes u = record { written = []; all = refl; took = none_taken u }

pub wrote_more : (bytes left then_left : List ℕ) (n : ℕ) (u v w : Option (List ℕ)) → Wrote bytes left u v → then_left ≡ drop n left →
    w ≡ also_taken (take n left) v → Wrote bytes then_left u w
wrote_more bytes left then_left n u v w wrote left_is took = record {
  written = wrote.written ++ take n left;
  all = wrote.all ∙ ap (λ (z : List ℕ). wrote.written ++ z) (sym (take-append-drop n left))
      ∙ sym (append_assoc wrote.written (take n left) (drop n left))
      ∙ ap (λ (z : List ℕ). (wrote.written ++ take n left) ++ z) (sym left_is);
  took = took ∙ ap (also_taken (take n left)) wrote.took ∙ both_taken wrote.written (take n left) u;
}

pub wrote_all : (bytes left : List ℕ) (u v : Option (List ℕ)) → Wrote bytes left u v → left ≡ [] → v ≡ also_taken bytes u
wrote_all bytes left u v wrote none =
    wrote.took ∙ ap (λ (z : List ℕ). also_taken z u)
    (sym (wrote.all ∙ ap (λ (z : List ℕ). wrote.written ++ z) none ∙ append-nil wrote.written))

pub wrote_some : (bytes left : List ℕ) (u v w : Option (List ℕ)) → Wrote bytes left u v → TakesFront left v w → TakesFront bytes u w
wrote_some bytes left None v w wrote some = tt
wrote_some bytes left (Some before) v w wrote some =
    let front = subst (λ (x : Option (List ℕ)). TakesFront left x w) wrote.took some in (
      wrote.written ++ front.0,
      front.1,
      wrote.all ∙ ap (λ (z : List ℕ). wrote.written ++ z) front.2 ∙ sym (append_assoc wrote.written front.0 front.1),
      front.3 ∙ ap (λ (z : List ℕ). Some z) (append_assoc before wrote.written front.0),
    )

-- ---- unless memory was refused

pub heard_then : {T : Type 0} (r : Result T SessionFault) (P Q : Type 0) → UnlessRefused r P → (P → Q) → UnlessRefused r Q
heard_then (Ok value) P Q p f = f p
heard_then (Err fault.Jobs) P Q p f = f p
heard_then (Err fault.Number) P Q p f = f p
heard_then (Err fault.Memory) P Q p f = tt

pub on_err : {T E : Type 0} (r : Result T E) (P : Type 0) → P → OnErr r P
on_err (Ok value) P p = tt
on_err (Err fault) P p = p
