-- Whatever comes, an end only moves its jobs from one list to another.
use Rattle.std.proofs.Common.{◌&&◌, ℕ, nat_lt, Bool, true, false, List, [], ◌∷◌, ◌++◌, length, Option, Some, None, Result, Ok, Err, refl, sym, ap, ◌∙◌, arith}
use Rattle.uug_talk.specs.Digests.{told_by_answer, told_by_order}
use Rattle.uug_talk.specs.declared.file_digest.FileDigest.{FileDigest}
use Rattle.uug_talk.specs.declared.answer.Answer.{Answer}
use Rattle.uug_talk.specs.declared.answer.Answer.TheVariants as answer
use Rattle.uug_talk.specs.declared.error.BadText.{BadText}
use Rattle.uug_talk.specs.declared.order.Order.{Order}
use Rattle.uug_talk.specs.declared.order.Order.TheVariants as order
use Rattle.uug_talk.specs.Answer.{answer_of}
use Rattle.uug_talk.specs.Gathering.{Kind, OfCommand, OfFile, Gathering, limit_of}
use Rattle.uug_talk.specs.Lenient.{is_held, or_wished, refused_letter_of}
use Rattle.uug_talk.specs.Order.{order_of}
use Rattle.uug_conversation.specs.declared.awaits.Awaits.{Awaits}
use Rattle.uug_conversation.specs.declared.awaits.Awaits.TheVariants as awaits
use Rattle.uug_conversation.specs.declared.job.Job.{Job}
use Rattle.uug_conversation.specs.declared.job.Job.TheVariants as job
use Rattle.uug_conversation.specs.declared.verdict.Verdict.{Verdict}
use Rattle.uug_conversation.specs.declared.verdict.Verdict.TheVariants.{Yes, Never, Later}
use Rattle.uug_conversation.specs.Choice.{choice, fetched_by}
use Rattle.uug_conversation.specs.Holdings.{File, Kept, Holdings, to_give}
use Rattle.uug_conversation.specs.Jobs.{Lists, Move, pass, strike, fail, moved, moved_once}
use Rattle.uug_conversation.specs.Machine.{State, goes_on, on_send, send_verdict, on_request, on_hang_up, on_unread, on_order, on_given_file_done, on_last_hang_up, sends_file, on_send_yes, move_refused, on_send_answer, on_sent_file_done, on_sent_job_done, on_request_answer, on_hang_up_answer, on_nothing_more, on_text, file_verdict, on_sent_file, on_asked_file, on_file_of, on_file, on_whole, on_gathered, on_past_limit, on_part, gathered_with, opening, step, comes_early, unless_early, reply_to}
use Rattle.uug_conversation.specs.Sharing.{OnlyMoves}
use Rattle.uug_conversation.specs.Told.{heard}
use Rattle.uug_conversation.specs.Turns.{Said, the_answer}
use Rattle.uug_conversation.specs.declared.side.Side.{Side}
use Rattle.uug_conversation.specs.declared.side.Side.TheVariants.{Caller, Called}
use Rattle.uug_conversation.proofs.SharingLemmas.{moved-append}
use Rattle.uug_conversation.specs.Resuming.{front_of, position_heard, rest_from}

pub stays : (l : Lists) → OnlyMoves l l
stays l = record { moves = []; are = refl }

one_move : (move : Move) (l : Lists) → OnlyMoves l (moved_once move l)
one_move move l = record { moves = move ∷ []; are = refl }

chooses : (h : Holdings) (l : Lists) (before : List Said) → OnlyMoves l (goes_on h l before).state.lists
chooses h l before = record { moves = (choice h l.ahead).failing; are = refl }

moves_and_chooses : (move : Move) (h : Holdings) (l : Lists) (before : List Said) → OnlyMoves l (goes_on h (moved_once move l) before).state.lists
moves_and_chooses move h l before = record { moves = move ∷ (choice h (moved_once move l).ahead).failing; are = refl }

-- ---- commands

after_send : (limit : ℕ) (v : Verdict) (front source target : List ℕ) (mode : ℕ) (told : Option FileDigest) (l : Lists) → OnlyMoves l (on_send limit v front source target mode told l).state.lists
after_send limit Yes front source target mode told l = stays l
after_send limit Never front source target mode told l = stays l
after_send limit Later front source target mode told l = stays l

after_request : (digests : Bool) (file : Option File) (delayed : Bool) (l : Lists) → OnlyMoves l (on_request digests file delayed l).state.lists
after_request digests None false l = stays l
after_request digests None true l = stays l
after_request digests (Some file) delayed l = stays l

after_hang_up : (h : Holdings) (next : Option Order) (moves : List Move) (l : Lists) → OnlyMoves l (on_hang_up h next (moved moves l)).state.lists
after_hang_up h None moves l = record { moves = moves; are = refl }
after_hang_up h (Some next) moves l = record { moves = moves; are = refl }

after_unread : (lenient : Bool) (letter : Option ℕ) (l : Lists) → OnlyMoves l (on_unread lenient letter l).state.lists
after_unread lenient letter l = grind (arith, stays)

after_order : (h : Holdings) (letter : Option ℕ) (told : Option FileDigest) (r : Result Order BadText) (l : Lists)
    → OnlyMoves l (on_order h letter told r l).state.lists
after_order h letter told (Ok (order.Send source target user temp mode)) l = after_send h.limit (send_verdict h (h.landing source target) told)
    (front_of h (fetched_by source temp) told) (fetched_by source temp) (h.landing source target) mode told l
after_order h letter told (Ok (order.Request source target user)) l = after_request h.digests (to_give h source) (h.delayed source) l
after_order h letter told (Ok order.HangUp) l = after_hang_up h (choice h l.ahead).next (choice h l.ahead).failing l
after_order h letter told (Err fault) l = after_unread h.lenient letter l

-- ---- answers

after_given_file : (r : Result Answer BadText) (l : Lists) → OnlyMoves l (on_given_file_done r l).state.lists
after_given_file r l = grind (arith, stays)

after_last_hang_up : (r : Result Answer BadText) (l : Lists) → OnlyMoves l (on_last_hang_up r l).state.lists
after_last_hang_up r l = grind (arith, stays)

after_sends_file : (file : Option File) (l : Lists) → OnlyMoves l (sends_file file l).state.lists
after_sends_file file l = grind (arith, stays)

after_send_yes : (h : Holdings) (position : ℕ) (jobs : List Job) (l : Lists) → OnlyMoves l (on_send_yes h position jobs l).state.lists
after_send_yes h position [] l = stays l
after_send_yes h position (job.Send source target user temp ∷ jobs) l = after_sends_file (rest_from position (to_give h (fetched_by source temp))) l
after_send_yes h position (job.Request source target user ∷ jobs) l = stays l

after_send_answer : (h : Holdings) (held : Bool) (position : ℕ) (r : Result Answer BadText) (l : Lists) → OnlyMoves l (on_send_answer h held position r l).state.lists
after_send_answer h held position (Ok answer.SendYes) l = after_send_yes h position l.ahead l
after_send_answer h held position (Ok answer.SendNever) l = moves_and_chooses fail h l []
after_send_answer h held position (Ok answer.SendLater) l = moves_and_chooses (move_refused held l.ahead) h l []
after_send_answer h held position (Ok (answer.GiveYes mode)) l = stays l
after_send_answer h held position (Ok answer.GiveNever) l = stays l
after_send_answer h held position (Ok answer.GiveLater) l = stays l
after_send_answer h held position (Ok answer.DoneYes) l = stays l
after_send_answer h held position (Ok answer.DoneYesMaster) l = stays l
after_send_answer h held position (Ok answer.DoneNever) l = stays l
after_send_answer h held position (Ok answer.DoneLater) l = stays l
after_send_answer h held position (Ok answer.HangYes) l = stays l
after_send_answer h held position (Ok answer.HangNo) l = stays l
after_send_answer h held position (Err fault) l = stays l

after_sent_file : (h : Holdings) (r : Result Answer BadText) (l : Lists) → OnlyMoves l (on_sent_file_done h r l).state.lists
after_sent_file h (Ok answer.SendYes) l = stays l
after_sent_file h (Ok answer.SendNever) l = stays l
after_sent_file h (Ok answer.SendLater) l = stays l
after_sent_file h (Ok (answer.GiveYes mode)) l = stays l
after_sent_file h (Ok answer.GiveNever) l = stays l
after_sent_file h (Ok answer.GiveLater) l = stays l
after_sent_file h (Ok answer.DoneYes) l = moves_and_chooses strike h l []
after_sent_file h (Ok answer.DoneYesMaster) l = one_move strike l
after_sent_file h (Ok answer.DoneNever) l = moves_and_chooses fail h l []
after_sent_file h (Ok answer.DoneLater) l = moves_and_chooses pass h l []
after_sent_file h (Ok answer.HangYes) l = stays l
after_sent_file h (Ok answer.HangNo) l = stays l
after_sent_file h (Err fault) l = stays l

after_sent_job : (h : Holdings) (jobs : List Job) (r : Result Answer BadText) (l : Lists) → OnlyMoves l (on_sent_job_done h jobs r l).state.lists
after_sent_job h [] r l = stays l
after_sent_job h (job.Send source target user temp ∷ jobs) r l = after_sent_file h r l
after_sent_job h (job.Request source target user ∷ jobs) r l = stays l

after_request_answer : (h : Holdings) (told : Option FileDigest) (r : Result Answer BadText) (l : Lists) → OnlyMoves l (on_request_answer h told r l).state.lists
after_request_answer h told (Ok answer.SendYes) l = stays l
after_request_answer h told (Ok answer.SendNever) l = stays l
after_request_answer h told (Ok answer.SendLater) l = stays l
after_request_answer h told (Ok (answer.GiveYes mode)) l = stays l
after_request_answer h told (Ok answer.GiveNever) l = moves_and_chooses fail h l []
after_request_answer h told (Ok answer.GiveLater) l = moves_and_chooses pass h l []
after_request_answer h told (Ok answer.DoneYes) l = stays l
after_request_answer h told (Ok answer.DoneYesMaster) l = stays l
after_request_answer h told (Ok answer.DoneNever) l = stays l
after_request_answer h told (Ok answer.DoneLater) l = stays l
after_request_answer h told (Ok answer.HangYes) l = stays l
after_request_answer h told (Ok answer.HangNo) l = stays l
after_request_answer h told (Err fault) l = stays l

after_hang_up_answer : (r : Result Answer BadText) (l : Lists) → OnlyMoves l (on_hang_up_answer r l).state.lists
after_hang_up_answer r l = grind (arith, stays)

after_nothing_more : (r : Result Answer BadText) (l : Lists) → OnlyMoves l (on_nothing_more r l).state.lists
after_nothing_more r l = grind (arith, stays)

after_text : (h : Holdings) (a : Awaits) (text : List ℕ) (l : Lists) → OnlyMoves l (on_text h a text l).state.lists
after_text h awaits.Order text l = after_order h (refused_letter_of text) (heard h.digests (told_by_order text)) (order_of text) l
after_text h awaits.GivenFileDone text l = after_given_file (answer_of text) l
after_text h awaits.LastHangUp text l = after_last_hang_up (answer_of text) l
after_text h awaits.SendAnswer text l = after_send_answer h (is_held text && h.lenient) (position_heard h.digests text) (answer_of text) l
after_text h awaits.SentFileDone text l = after_sent_job h l.ahead (answer_of text) l
after_text h awaits.RequestAnswer text l = after_request_answer h (heard h.digests (told_by_answer text)) (or_wished (answer_of text) h.lenient text) l
after_text h awaits.HangUpAnswer text l = after_hang_up_answer (answer_of text) l
after_text h awaits.NothingMore text l = after_nothing_more (answer_of text) l
after_text h (awaits.SentFile source target mode told limit) text l = stays l
after_text h (awaits.AskedFile mode told limit) text l = stays l
after_text h (awaits.DroppedSentFile limit) text l = stays l
after_text h (awaits.DroppedAskedFile limit) text l = stays l
after_text h awaits.Bad text l = stays l

-- ---- files

after_kept : (verdict : Verdict) (file : Kept) (l : Lists) → OnlyMoves l (on_sent_file verdict file l).state.lists
after_kept Yes file l = stays l
after_kept Never file l = stays l
after_kept Later file l = stays l

after_asked : (h : Holdings) (verdict : Verdict) (file : Kept) (l : Lists) → OnlyMoves l (on_asked_file h verdict file l).state.lists
after_asked h Yes file l = moves_and_chooses strike h l (the_answer answer.DoneYes ∷ [])
after_asked h Never file l = moves_and_chooses fail h l (the_answer answer.DoneNever ∷ [])
after_asked h Later file l = moves_and_chooses pass h l (the_answer answer.DoneLater ∷ [])

after_file_of : (h : Holdings) (jobs : List Job) (mode : ℕ) (told : Option FileDigest) (bytes : List ℕ) (l : Lists)
    → OnlyMoves l (on_file_of h jobs mode told bytes l).state.lists
after_file_of h [] mode told bytes l = stays l
after_file_of h (job.Send source target user temp ∷ jobs) mode told bytes l = stays l
after_file_of h (job.Request source target user ∷ jobs) mode told bytes l =
    after_asked h (file_verdict h (h.landing source target) told bytes) (record { name = h.landing source target; mode = mode; bytes = bytes }) l

after_file : (h : Holdings) (a : Awaits) (bytes : List ℕ) (l : Lists) → OnlyMoves l (on_file h a bytes l).state.lists
after_file h (awaits.SentFile source target mode told limit) bytes l =
    after_kept (file_verdict h target told (front_of h source told ++ bytes))
    (record { name = target; mode = mode; bytes = front_of h source told ++ bytes }) l
after_file h (awaits.AskedFile mode told limit) bytes l = after_file_of h l.ahead mode told bytes l
after_file h (awaits.DroppedSentFile limit) bytes l = stays l
after_file h (awaits.DroppedAskedFile limit) bytes l = moves_and_chooses fail h l (the_answer answer.DoneNever ∷ [])
after_file h awaits.Order bytes l = stays l
after_file h awaits.GivenFileDone bytes l = stays l
after_file h awaits.LastHangUp bytes l = stays l
after_file h awaits.SendAnswer bytes l = stays l
after_file h awaits.SentFileDone bytes l = stays l
after_file h awaits.RequestAnswer bytes l = stays l
after_file h awaits.HangUpAnswer bytes l = stays l
after_file h awaits.NothingMore bytes l = stays l
after_file h awaits.Bad bytes l = stays l

-- ---- messages

after_whole : (kind : Kind) (h : Holdings) (a : Awaits) (bytes : List ℕ) (l : Lists) → OnlyMoves l (on_whole kind h a bytes l).state.lists
after_whole OfCommand h a bytes l = after_text h a bytes l
after_whole (OfFile limit) h a bytes l = after_file h a bytes l

after_gathered : (whole : Bool) (kind : Kind) (h : Holdings) (s : State) (bytes : List ℕ) → OnlyMoves s.lists (on_gathered whole kind h s bytes).state.lists
after_gathered false kind h s bytes = stays s.lists
after_gathered true kind h s bytes = after_whole kind h s.awaits bytes s.lists

after_past_limit : (lenient : Bool) (kind : Kind) (a : Awaits) (l : Lists) → OnlyMoves l (on_past_limit lenient kind a l).state.lists
after_past_limit lenient kind a l = grind (arith, stays)

after_part : (too_long : Bool) (g : Gathering) (h : Holdings) (s : State) → OnlyMoves s.lists (on_part too_long g h s).state.lists
after_part true g h s = after_past_limit h.lenient g.kind s.awaits s.lists
after_part false g h s = after_gathered g.whole g.kind h s g.bytes

pub after_step : (h : Holdings) (s : State) (message : List ℕ) → OnlyMoves s.lists (step h s message).state.lists
after_step h s message =
    let g : Gathering = gathered_with s message in
    after_part (nat_lt (limit_of g.kind) (length g.bytes)) g h s

after_unless_early : (early : Bool) (h : Holdings) (s : State) (message : List ℕ) → OnlyMoves s.lists (unless_early early h s message).state.lists
after_unless_early true h s message = stays s.lists
after_unless_early false h s message = after_step h s message

pub after_reply : (h : Holdings) (none_waits : Bool) (s : State) (message : List ℕ) → OnlyMoves s.lists (reply_to h none_waits s message).state.lists
after_reply h none_waits s message = after_unless_early (comes_early s.awaits none_waits) h s message

-- ---- from the start

pub then_moves : (first second third : Lists) → OnlyMoves first second → OnlyMoves second third → OnlyMoves first third
then_moves first second third h k = record {
  moves = h.moves ++ k.moves;
  are = k.are ∙ ap (moved k.moves) h.are ∙ sym (moved-append h.moves k.moves first);
}

pub after_opening : (me : Side) (h : Holdings) (l : Lists) → OnlyMoves l (opening me h l).state.lists
after_opening Caller h l = chooses h l []
after_opening Called h l = stays l
