-- Whatever happens to an end, each Request job that it strikes has an entry of its own in what it has kept.
use Rattle.std.proofs.Common.{◌≡◌, ◌&&◌, ℕ, nat_lt, Bool, true, false, List, [], ◌∷◌, ◌++◌, length, Option, Some, None, Result, Ok, Err, refl, sym, ap, subst, ◌∙◌, append_assoc}
use Rattle.std.proofs.lemmas.List.{append-nil}
use Rattle.uug_talk.specs.Chunks.{Measure}
use Rattle.uug_talk.specs.Digests.{told_by_answer, told_by_order}
use Rattle.uug_talk.specs.declared.file_digest.FileDigest.{FileDigest}
use Rattle.uug_talk.specs.declared.answer.Answer.{Answer}
use Rattle.uug_talk.specs.declared.answer.Answer.TheVariants as answer
use Rattle.uug_talk.specs.declared.error.BadText.{BadText}
use Rattle.uug_talk.specs.declared.order.Order.{Order}
use Rattle.uug_talk.specs.declared.order.Order.TheVariants as order
use Rattle.uug_talk.specs.Answer.{answer_of}
use Rattle.uug_talk.specs.Gathering.{Kind, OfCommand, OfFile, Gathering, limit_of}
use Rattle.uug_talk.specs.Order.{order_of}
use Rattle.uug_talk.specs.Lenient.{is_held, or_wished, refused_letter_of}
use Rattle.uug_conversation.specs.declared.awaits.Awaits.{Awaits}
use Rattle.uug_conversation.specs.declared.awaits.Awaits.TheVariants as awaits
use Rattle.uug_conversation.specs.declared.job.Job.{Job}
use Rattle.uug_conversation.specs.declared.job.Job.TheVariants as job
use Rattle.uug_conversation.specs.declared.verdict.Verdict.{Verdict}
use Rattle.uug_conversation.specs.declared.verdict.Verdict.TheVariants.{Yes, Never, Later}
use Rattle.uug_session.specs.Arriving.{Buffered, Arrival, takes_piece}
use Rattle.uug_conversation.specs.Choice.{Choice, choice, fetched_by, send_choice}
use Rattle.uug_session.specs.EndStep.{EndState, Identity, EndEvent, end_step}
use Rattle.uug_session.specs.Engine.{EngineState, end_of}
use Rattle.uug_conversation.specs.Holdings.{File, Kept, Holdings, to_give}
use Rattle.uug_conversation.specs.Jobs.{Lists, pass, fail, move_first, moved, moved_once}
use Rattle.uug_conversation.specs.Machine.{State, Reply, goes_on, on_send, send_verdict, on_request, on_hang_up, on_unread, on_order, on_given_file_done, on_last_hang_up, sends_file, on_send_yes, move_refused, on_send_answer, on_sent_job_done, on_request_answer, on_hang_up_answer, on_nothing_more, on_text, file_verdict, on_sent_file, on_asked_file, on_file_of, on_file, on_whole, on_gathered, on_past_limit, on_part, gathered_with, opening, step, comes_early, unless_early, reply_to}
use Rattle.uug_session.specs.Node.{NodeState, effect_of, struck_jobs}
use Rattle.uug_session.specs.NodeArriving.{NodeEnd, TakesAll, hearer_of, node_taker}
use Rattle.uug_conversation.specs.OwnRequests.{OwnRequestEntries, none, not_asked_for, asked_for, sent, KeepsWhatItAskedFor}
use Rattle.uug_conversation.specs.DialogueState.{DialogueState, end_keeper, is_empty, opened_with, taking}
use Rattle.uug_conversation.specs.Told.{heard}
use Rattle.uug_conversation.specs.Turns.{Said, the_answer}
use Rattle.uug_conversation.specs.declared.side.Side.{Side}
use Rattle.uug_conversation.specs.declared.side.Side.TheVariants.{Caller, Called}
use Rattle.uug_session.proofs.KeeperLemmas.{piece_keeps, step_keeps, talk_in}
use Rattle.uug_conversation.specs.Resuming.{front_of, position_heard, rest_from}

-- ---- from one time to a later one

pub nothing_new : (h : Holdings) (struck : List Job) (kept : List Kept) → KeepsWhatItAskedFor h struck struck kept kept
nothing_new h struck kept = record {
  struck_since = [];
  kept_since = [];
  strikes = sym (append-nil struck);
  keeps = sym (append-nil kept);
  own = none;
}

both_own : (h : Holdings) (s t : List Job) (k m : List Kept) → OwnRequestEntries h s k → OwnRequestEntries h t m → OwnRequestEntries h (s ++ t) (k ++ m)
both_own h s t k m none later = later
both_own h s t k m (not_asked_for {s = s'} {e = e'} own) later = not_asked_for (both_own h s' t e' m own later)
both_own h s t k m (asked_for {s = s'} {e = e'} named own) later = asked_for named (both_own h s' t e' m own later)
both_own h s t k m (sent {s = s'} {e = e'} own) later = sent (both_own h s' t e' m own later)

pub then_keeps : (h : Holdings) (s t u : List Job) (k l m : List Kept) → KeepsWhatItAskedFor h s t k l → KeepsWhatItAskedFor h t u l m → KeepsWhatItAskedFor h s u k m
then_keeps h s t u k l m first second = record {
  struck_since = first.struck_since ++ second.struck_since;
  kept_since = first.kept_since ++ second.kept_since;
  strikes = second.strikes ∙ ap (λ js. js ++ second.struck_since) first.strikes ∙ append_assoc s first.struck_since second.struck_since;
  keeps = second.keeps ∙ ap (λ es. es ++ second.kept_since) first.keeps ∙ append_assoc k first.kept_since second.kept_since;
  own = both_own h first.struck_since second.struck_since first.kept_since second.kept_since first.own second.own;
}

-- nothing was kept, and nothing was struck
pub same_then : (h : Holdings) (s t : List Job) (k m : List Kept) → t ≡ s → m ≡ k → KeepsWhatItAskedFor h s t k m
same_then h s t k m jobs entries = record {
  struck_since = [];
  kept_since = [];
  strikes = jobs ∙ sym (append-nil s);
  keeps = entries ∙ sym (append-nil k);
  own = none;
}

-- ---- the next job is chosen

abbrev lists : (passed ahead struck failed : List Job) → Lists
lists passed ahead struck failed = record { passed = passed; ahead = ahead; struck = struck; failed = failed }

send_fails : (source target user : List ℕ) (temp : Option (List ℕ)) (offered : Option File) (behind : Choice) (jobs p s f : List Job)
    → ((failed : List Job) → (moved behind.failing (lists p jobs s failed)).struck ≡ s)
    → (moved (send_choice source target user temp offered behind).failing (lists p (job.Send source target user temp ∷ jobs) s f)).struck ≡ s
send_fails source target user temp None behind jobs p s f more = more (f ++ job.Send source target user temp ∷ [])
send_fails source target user temp (Some file) behind jobs p s f more = refl

choice_strikes_nothing : (h : Holdings) (jobs p s f : List Job) → (moved (choice h jobs).failing (lists p jobs s f)).struck ≡ s
choice_strikes_nothing h [] p s f = refl
choice_strikes_nothing h (job.Send source target user temp ∷ jobs) p s f =
    send_fails source target user temp (to_give h (fetched_by source temp)) (choice h jobs) jobs p s f (λ failed. choice_strikes_nothing h jobs p s failed)
choice_strikes_nothing h (job.Request source target user ∷ jobs) p s f = refl

chosen : (h : Holdings) (l : Lists) → (moved (choice h l.ahead).failing l).struck ≡ l.struck
chosen h l = choice_strikes_nothing h l.ahead l.passed l.struck l.failed

-- ---- replies

-- since these jobs were struck and nothing was kept
abbrev KeepsIn : Holdings → List Job → Reply → Type 0
KeepsIn h struck r = KeepsWhatItAskedFor h struck r.state.lists.struck [] r.keeps

quiet : (h : Holdings) (struck : List Job) → KeepsWhatItAskedFor h struck struck [] []
quiet h struck = nothing_new h struck []

chooses : (h : Holdings) (l : Lists) (before : List Said) → KeepsIn h l.struck (goes_on h l before)
chooses h l before = same_then h l.struck (moved (choice h l.ahead).failing l).struck [] [] (chosen h l) refl

pass_strikes_nothing : (jobs : List Job) (l : Lists) → (move_first pass jobs l).struck ≡ l.struck
pass_strikes_nothing [] l = refl
pass_strikes_nothing (job ∷ jobs) l = refl

fail_strikes_nothing : (jobs : List Job) (l : Lists) → (move_first fail jobs l).struck ≡ l.struck
fail_strikes_nothing [] l = refl
fail_strikes_nothing (job ∷ jobs) l = refl

passes : (h : Holdings) (l : Lists) (before : List Said) → KeepsIn h l.struck (goes_on h (moved_once pass l) before)
passes h l before = subst (λ s. KeepsIn h s (goes_on h (moved_once pass l) before)) (pass_strikes_nothing l.ahead l) (chooses h (moved_once pass l) before)

fails : (h : Holdings) (l : Lists) (before : List Said) → KeepsIn h l.struck (goes_on h (moved_once fail l) before)
fails h l before = subst (λ s. KeepsIn h s (goes_on h (moved_once fail l) before)) (fail_strikes_nothing l.ahead l) (chooses h (moved_once fail l) before)

-- ---- commands

after_send : (h : Holdings) (limit : ℕ) (v : Verdict) (front source target : List ℕ) (mode : ℕ) (told : Option FileDigest) (l : Lists) → KeepsIn h l.struck (on_send limit v front source target mode told l)
after_send h limit Yes front source target mode told l = quiet h l.struck
after_send h limit Never front source target mode told l = quiet h l.struck
after_send h limit Later front source target mode told l = quiet h l.struck

after_request : (h : Holdings) (digests : Bool) (file : Option File) (delayed : Bool) (l : Lists) → KeepsIn h l.struck (on_request digests file delayed l)
after_request h digests None false l = quiet h l.struck
after_request h digests None true l = quiet h l.struck
after_request h digests (Some file) delayed l = quiet h l.struck

after_hang_up : (h : Holdings) (next : Option Order) (l after : Lists) → after.struck ≡ l.struck → KeepsIn h l.struck (on_hang_up h next after)
after_hang_up h None l after same = same_then h l.struck after.struck [] [] same refl
after_hang_up h (Some next) l after same = same_then h l.struck after.struck [] [] same refl

after_unread : (h : Holdings) (lenient : Bool) (letter : Option ℕ) (l : Lists) → KeepsIn h l.struck (on_unread lenient letter l)
after_unread h true (Some letter) l = quiet h l.struck
after_unread h _ _ l = quiet h l.struck

after_order : (h : Holdings) (letter : Option ℕ) (told : Option FileDigest) (r : Result Order BadText) (l : Lists)
    → KeepsIn h l.struck (on_order h letter told r l)
after_order h letter told (Ok (order.Send source target user temp mode)) l = after_send h h.limit (send_verdict h (h.landing source target) told)
    (front_of h (fetched_by source temp) told) (fetched_by source temp) (h.landing source target) mode told l
after_order h letter told (Ok (order.Request source target user)) l = after_request h h.digests (to_give h source) (h.delayed source) l
after_order h letter told (Ok order.HangUp) l = after_hang_up h (choice h l.ahead).next l (moved (choice h l.ahead).failing l) (chosen h l)
after_order h letter told (Err fault) l = after_unread h h.lenient letter l

-- ---- answers

after_given_file : (h : Holdings) (r : Result Answer BadText) (l : Lists) → KeepsIn h l.struck (on_given_file_done r l)
after_given_file h (Ok answer.DoneYes) l = quiet h l.struck
after_given_file h (Ok answer.DoneYesMaster) l = quiet h l.struck
after_given_file h (Ok answer.DoneNever) l = quiet h l.struck
after_given_file h (Ok answer.DoneLater) l = quiet h l.struck
after_given_file h _ l = quiet h l.struck

after_last_hang_up : (h : Holdings) (r : Result Answer BadText) (l : Lists) → KeepsIn h l.struck (on_last_hang_up r l)
after_last_hang_up h (Ok answer.HangYes) l = quiet h l.struck
after_last_hang_up h _ l = quiet h l.struck

after_sends_file : (h : Holdings) (file : Option File) (l : Lists) → KeepsIn h l.struck (sends_file file l)
after_sends_file h None l = quiet h l.struck
after_sends_file h (Some file) l = quiet h l.struck

after_send_yes : (h : Holdings) (position : ℕ) (jobs : List Job) (l : Lists) → KeepsIn h l.struck (on_send_yes h position jobs l)
after_send_yes h position (job.Send source target user temp ∷ jobs) l = after_sends_file h (rest_from position (to_give h (fetched_by source temp))) l
after_send_yes h position _ l = quiet h l.struck

-- a Send job is struck, and nothing was kept
one_sent : (h : Holdings) (source target user : List ℕ) (temp : Option (List ℕ)) (s after : List Job) → after ≡ s ++ job.Send source target user temp ∷ []
    → KeepsWhatItAskedFor h s after [] []
one_sent h source target user temp s after is = record {
  struck_since = job.Send source target user temp ∷ [];
  kept_since = [];
  strikes = is;
  keeps = refl;
  own = sent none;
}

after_held : (held : Bool) (h : Holdings) (jobs p s f : List Job)
    → KeepsIn h s (goes_on h (moved_once (move_refused held jobs) (lists p jobs s f)) [])
after_held true h (job.Send source target user temp ∷ jobs) p s f =
    let struck = s ++ job.Send source target user temp ∷ [] in
    one_sent h source target user temp s (moved (choice h jobs).failing (lists p jobs struck f)).struck (choice_strikes_nothing h jobs p struck f)
after_held _ h jobs p s f = passes h (lists p jobs s f) []

after_send_answer : (h : Holdings) (held : Bool) (position : ℕ) (r : Result Answer BadText) (l : Lists) → KeepsIn h l.struck (on_send_answer h held position r l)
after_send_answer h held position (Ok answer.SendYes) l = after_send_yes h position l.ahead l
after_send_answer h held position (Ok answer.SendNever) l = fails h l []
after_send_answer h held position (Ok answer.SendLater) l = after_held held h l.ahead l.passed l.struck l.failed
after_send_answer h held position _ l = quiet h l.struck

after_sent_job : (h : Holdings) (jobs p s f : List Job) (r : Result Answer BadText) → KeepsIn h s (on_sent_job_done h jobs r (lists p jobs s f))
after_sent_job h (job.Send source target user temp ∷ jobs) p s f (Ok answer.DoneYes) =
    let struck = s ++ job.Send source target user temp ∷ [] in
    one_sent h source target user temp s (moved (choice h jobs).failing (lists p jobs struck f)).struck (choice_strikes_nothing h jobs p struck f)
after_sent_job h (job.Send source target user temp ∷ jobs) p s f (Ok answer.DoneYesMaster) =
    one_sent h source target user temp s (s ++ job.Send source target user temp ∷ []) refl
after_sent_job h (job.Send source target user temp ∷ jobs) p s f (Ok answer.DoneNever) = fails h (lists p (job.Send source target user temp ∷ jobs) s f) []
after_sent_job h (job.Send source target user temp ∷ jobs) p s f (Ok answer.DoneLater) = passes h (lists p (job.Send source target user temp ∷ jobs) s f) []
after_sent_job h (job.Send source target user temp ∷ jobs) p s f _ = quiet h s
after_sent_job h _ p s f r = quiet h s

after_request_answer : (h : Holdings) (told : Option FileDigest) (r : Result Answer BadText) (l : Lists)
    → KeepsIn h l.struck (on_request_answer h told r l)
after_request_answer h told (Ok (answer.GiveYes mode)) l = quiet h l.struck
after_request_answer h told (Ok answer.GiveNever) l = fails h l []
after_request_answer h told (Ok answer.GiveLater) l = passes h l []
after_request_answer h told _ l = quiet h l.struck

after_hang_up_answer : (h : Holdings) (r : Result Answer BadText) (l : Lists) → KeepsIn h l.struck (on_hang_up_answer r l)
after_hang_up_answer h (Ok answer.HangYes) l = quiet h l.struck
after_hang_up_answer h (Ok answer.HangNo) l = quiet h l.struck
after_hang_up_answer h _ l = quiet h l.struck

after_nothing_more : (h : Holdings) (r : Result Answer BadText) (l : Lists) → KeepsIn h l.struck (on_nothing_more r l)
after_nothing_more h (Ok answer.HangYes) l = quiet h l.struck
after_nothing_more h _ l = quiet h l.struck

after_text : (h : Holdings) (a : Awaits) (text : List ℕ) (l : Lists) → KeepsIn h l.struck (on_text h a text l)
after_text h awaits.Order text l = after_order h (refused_letter_of text) (heard h.digests (told_by_order text)) (order_of text) l
after_text h awaits.GivenFileDone text l = after_given_file h (answer_of text) l
after_text h awaits.LastHangUp text l = after_last_hang_up h (answer_of text) l
after_text h awaits.SendAnswer text l = after_send_answer h (is_held text && h.lenient) (position_heard h.digests text) (answer_of text) l
after_text h awaits.SentFileDone text l = after_sent_job h l.ahead l.passed l.struck l.failed (answer_of text)
after_text h awaits.RequestAnswer text l = after_request_answer h (heard h.digests (told_by_answer text)) (or_wished (answer_of text) h.lenient text) l
after_text h awaits.HangUpAnswer text l = after_hang_up_answer h (answer_of text) l
after_text h awaits.NothingMore text l = after_nothing_more h (answer_of text) l
after_text h _ text l = quiet h l.struck

-- ---- files

after_kept : (h : Holdings) (verdict : Verdict) (file : Kept) (l : Lists) → KeepsIn h l.struck (on_sent_file verdict file l)
after_kept h Yes file l = record {
  struck_since = [];
  kept_since = file ∷ [];
  strikes = sym (append-nil l.struck);
  keeps = refl;
  own = not_asked_for none;
}
after_kept h Never file l = quiet h l.struck
after_kept h Later file l = quiet h l.struck

after_asked : (h : Holdings) (verdict : Verdict) (source target user bytes : List ℕ) (mode : ℕ) (jobs p s f : List Job)
    → KeepsIn h s (on_asked_file h verdict (record { name = h.landing source target; mode = mode; bytes = bytes }) (lists p (job.Request source target user ∷ jobs) s f))
after_asked h Yes source target user bytes mode jobs p s f = record {
  struck_since = job.Request source target user ∷ [];
  kept_since = record { name = h.landing source target; mode = mode; bytes = bytes } ∷ [];
  strikes = choice_strikes_nothing h jobs p (s ++ job.Request source target user ∷ []) f;
  keeps = refl;
  own = asked_for refl none;
}
after_asked h Never source target user bytes mode jobs p s f = fails h (lists p (job.Request source target user ∷ jobs) s f) (the_answer answer.DoneNever ∷ [])
after_asked h Later source target user bytes mode jobs p s f = passes h (lists p (job.Request source target user ∷ jobs) s f) (the_answer answer.DoneLater ∷ [])

after_file_of : (h : Holdings) (jobs p s f : List Job) (mode : ℕ) (told : Option FileDigest) (bytes : List ℕ)
    → KeepsIn h s (on_file_of h jobs mode told bytes (lists p jobs s f))
after_file_of h (job.Request source target user ∷ jobs) p s f mode told bytes =
    after_asked h (file_verdict h (h.landing source target) told bytes) source target user bytes mode jobs p s f
after_file_of h _ p s f mode told bytes = quiet h s

after_file : (h : Holdings) (a : Awaits) (bytes : List ℕ) (l : Lists) → KeepsIn h l.struck (on_file h a bytes l)
after_file h (awaits.SentFile source target mode told limit) bytes l =
    after_kept h (file_verdict h target told (front_of h source told ++ bytes))
    (record { name = target; mode = mode; bytes = front_of h source told ++ bytes }) l
after_file h (awaits.AskedFile mode told limit) bytes l = after_file_of h l.ahead l.passed l.struck l.failed mode told bytes
after_file h (awaits.DroppedSentFile limit) bytes l = quiet h l.struck
after_file h (awaits.DroppedAskedFile limit) bytes l = fails h l (the_answer answer.DoneNever ∷ [])
after_file h _ bytes l = quiet h l.struck

-- ---- messages

after_whole : (kind : Kind) (h : Holdings) (a : Awaits) (bytes : List ℕ) (l : Lists) → KeepsIn h l.struck (on_whole kind h a bytes l)
after_whole OfCommand h a bytes l = after_text h a bytes l
after_whole (OfFile limit) h a bytes l = after_file h a bytes l

after_gathered : (whole : Bool) (kind : Kind) (h : Holdings) (s : State) (bytes : List ℕ) → KeepsIn h s.lists.struck (on_gathered whole kind h s bytes)
after_gathered false kind h s bytes = quiet h s.lists.struck
after_gathered true kind h s bytes = after_whole kind h s.awaits bytes s.lists

after_past_limit : (h : Holdings) (lenient : Bool) (kind : Kind) (a : Awaits) (l : Lists) → KeepsIn h l.struck (on_past_limit lenient kind a l)
after_past_limit h true (OfFile limit) a l = quiet h l.struck
after_past_limit h _ kind a l = quiet h l.struck

after_part : (too_long : Bool) (g : Gathering) (h : Holdings) (s : State) → KeepsIn h s.lists.struck (on_part too_long g h s)
after_part true g h s = after_past_limit h h.lenient g.kind s.awaits s.lists
after_part false g h s = after_gathered g.whole g.kind h s g.bytes

after_step : (h : Holdings) (s : State) (message : List ℕ) → KeepsIn h s.lists.struck (step h s message)
after_step h s message =
    let g : Gathering = gathered_with s message in
    after_part (nat_lt (limit_of g.kind) (length g.bytes)) g h s

after_unless_early : (early : Bool) (h : Holdings) (s : State) (message : List ℕ) → KeepsIn h s.lists.struck (unless_early early h s message)
after_unless_early true h s message = quiet h s.lists.struck
after_unless_early false h s message = after_step h s message

after_reply : (h : Holdings) (none_waits : Bool) (s : State) (message : List ℕ) → KeepsIn h s.lists.struck (reply_to h none_waits s message)
after_reply h none_waits s message = after_unless_early (comes_early s.awaits none_waits) h s message

after_opening : (side : Side) (h : Holdings) (l : Lists) → KeepsIn h l.struck (opening side h l)
after_opening Caller h l = chooses h l []
after_opening Called h l = quiet h l.struck

-- ---- an end

-- with what was kept before
behind_kept : (h : Holdings) (s t : List Job) (kept new : List Kept) → KeepsWhatItAskedFor h s t [] new → KeepsWhatItAskedFor h s t kept (kept ++ new)
behind_kept h s t kept new k = record {
  struck_since = k.struck_since;
  kept_since = k.kept_since;
  strikes = k.strikes;
  keeps = ap (λ es. kept ++ es) k.keeps;
  own = k.own;
}

module _ (id : Identity) (h : Holdings) (struck : List Job) (kept : List Kept) where
  abbrev Since : DialogueState → Type 0
  Since talk = KeepsWhatItAskedFor h struck talk.machine.lists.struck kept talk.kept

  since_reply : (talk : DialogueState) (r : Reply) → Since talk → KeepsIn h talk.machine.lists.struck r
      → KeepsWhatItAskedFor h struck r.state.lists.struck kept (talk.kept ++ r.keeps)
  since_reply talk r is next =
      let now = talk.machine.lists.struck in
      then_keeps h struck now r.state.lists.struck kept talk.kept (talk.kept ++ r.keeps) is
      (behind_kept h now r.state.lists.struck talk.kept r.keeps next)

  opened_keeps : (measure : Measure) (talk : DialogueState) → Since talk → Since (opened_with id.side h measure talk)
  opened_keeps size talk is =
      since_reply talk (opening id.side h talk.machine.lists) is (after_opening id.side h talk.machine.lists)

  taking_keeps : (message : List ℕ) (talk : DialogueState) → Since talk → Since (taking h message talk)
  taking_keeps message talk is =
      since_reply talk (reply_to h (is_empty talk.waiting) talk.machine message) is
      (after_reply h (is_empty talk.waiting) talk.machine message)

  event_since : (event : EndEvent) (e : EndState DialogueState) → Since e.keeper → Since (end_step (end_keeper id.side h) id event e).state.keeper
  event_since event e is =
      step_keeps DialogueState (end_keeper id.side h) Since opened_keeps taking_keeps (λ talk same. same) id event e is

  piece_since : (piece : List ℕ) (r : Buffered NodeEnd) → Since r.end.state.keeper → Since (talk_in (takes_piece (node_taker h id) piece r))
  piece_since piece r is = piece_keeps id h (λ e. Since e.keeper) event_since piece r is

pub event_keeps : (h : Holdings) (kept : List Kept) (event : EndEvent) (e : EngineState)
    → KeepsWhatItAskedFor h e.dialogue.machine.lists.struck (effect_of h kept event e).state.keeper.machine.lists.struck
    kept (effect_of h kept event e).state.keeper.kept
event_keeps h kept event e =
    let struck = e.dialogue.machine.lists.struck in
    event_since e.identity h struck kept event (end_of h kept e) (nothing_new h struck kept)

pub takes_all_keeps : (h : Holdings) (kept kept_after : List Kept) (failure : Type 0) (bytes : List ℕ) (before after : NodeState)
    → TakesAll h kept kept_after failure bytes before after
    → KeepsWhatItAskedFor h (struck_jobs before) (struck_jobs after) kept kept_after
takes_all_keeps h kept kept_after failure bytes before after g =
    let from : Buffered NodeEnd = hearer_of h kept [] (g.course.failures ++ []) before in
    subst (λ (c : Arrival NodeEnd). KeepsWhatItAskedFor h (struck_jobs before) (talk_in c).machine.lists.struck kept (talk_in c).kept) (g.taken [] [])
    (piece_since before.engine.identity h (struck_jobs before) kept bytes from (nothing_new h (struck_jobs before) kept))
