-- Each job is in exactly one of an end's lists.
use Rattle.std.proofs.Common.{◌≡◌, ℕ, List, [], ◌∷◌, ◌++◌, All, refl, sym, subst, ◌∙◌, append_assoc}
use Rattle.std.proofs.lemmas.List.{append-nil}
use Rattle.std.proofs.lemmas.List.Elements.{All-nil, All-cons, All-head, All-tail}
use Rattle.uug_conversation.specs.declared.job.Job.{Job}
use Rattle.uug_conversation.specs.Jobs.{Lists, pending, at_start, Move, pass, strike, fail, moved_once, moved}
use Rattle.uug_conversation.specs.Party.{Party}
use Rattle.uug_conversation.specs.Sharing.{AreShared, none, one_pending, one_struck, one_failed}
use Rattle.uug_conversation.specs.declared.side.Side.{Side}
use Rattle.uug_conversation.specs.View.{party, conversation_view, moves_after, opening_moves, lists_after}

pub moved-append : (moves more : List Move) (l : Lists) → moved (moves ++ more) l ≡ moved more (moved moves l)
moved-append [] more l = refl
moved-append (move ∷ moves) more l = moved-append moves more (moved_once move l)

AreShared-append : {jobs p s f more p' s' f' : List Job} → AreShared jobs p s f → AreShared more p' s' f' →
    AreShared (jobs ++ more) (p ++ p') (s ++ s') (f ++ f')
AreShared-append none k = k
AreShared-append (one_pending h) k = one_pending (AreShared-append h k)
AreShared-append (one_struck h) k = one_struck (AreShared-append h k)
AreShared-append (one_failed h) k = one_failed (AreShared-append h k)

all_pending : (jobs : List Job) → AreShared jobs jobs [] []
all_pending [] = none
all_pending (job ∷ jobs) = one_pending (all_pending jobs)

all_failed : (jobs : List Job) → AreShared jobs [] [] jobs
all_failed [] = none
all_failed (job ∷ jobs) = one_failed (all_failed jobs)

all_gone : (struck failed : List Job) → AreShared (struck ++ failed) [] struck failed
all_gone [] failed = all_failed failed
all_gone (job ∷ struck) failed = one_struck (all_gone struck failed)

-- these jobs have been moved, and those ahead have not
record HasMoved (jobs : List Job) (l : Lists) : Type 0 where
  gone : List Job
  all : jobs ≡ gone ++ l.ahead
  shared : AreShared gone l.passed l.struck l.failed

HasMoved-done : (jobs : List Job) (l : Lists) → HasMoved jobs l → AreShared jobs (pending l) l.struck l.failed
HasMoved-done jobs l h =
    let joined : AreShared (h.gone ++ l.ahead) (l.passed ++ l.ahead) (l.struck ++ []) (l.failed ++ []) =
    AreShared-append h.shared (all_pending l.ahead) in
    subst (λ js. AreShared js (pending l) l.struck l.failed) (sym h.all)
    (subst (λ fs. AreShared (h.gone ++ l.ahead) (pending l) l.struck fs) (append-nil l.failed)
    (subst (λ ss. AreShared (h.gone ++ l.ahead) (pending l) ss (l.failed ++ [])) (append-nil l.struck) joined))

one_more : (jobs gone : List Job) (job : Job) (rest : List Job) → jobs ≡ gone ++ job ∷ rest → jobs ≡ (gone ++ job ∷ []) ++ rest
one_more jobs gone job rest e = e ∙ sym (append_assoc gone (job ∷ []) rest)

HasMoved-first : (jobs : List Job) (move : Move) (passed ahead struck failed : List Job) →
    HasMoved jobs (record { passed = passed; ahead = ahead; struck = struck; failed = failed }) →
    HasMoved jobs (moved_once move (record { passed = passed; ahead = ahead; struck = struck; failed = failed }))
HasMoved-first jobs pass passed [] struck failed h = h
HasMoved-first jobs strike passed [] struck failed h = h
HasMoved-first jobs fail passed [] struck failed h = h
HasMoved-first jobs pass passed (job ∷ ahead) struck failed h = record {
  gone = h.gone ++ job ∷ [];
  all = one_more jobs h.gone job ahead h.all;
  shared = subst (λ fs. AreShared (h.gone ++ job ∷ []) (passed ++ job ∷ []) struck fs) (append-nil failed)
      (subst (λ ss. AreShared (h.gone ++ job ∷ []) (passed ++ job ∷ []) ss (failed ++ [])) (append-nil struck)
      (AreShared-append h.shared (one_pending none)));
}
HasMoved-first jobs strike passed (job ∷ ahead) struck failed h = record {
  gone = h.gone ++ job ∷ [];
  all = one_more jobs h.gone job ahead h.all;
  shared = subst (λ fs. AreShared (h.gone ++ job ∷ []) passed (struck ++ job ∷ []) fs) (append-nil failed)
      (subst (λ ps. AreShared (h.gone ++ job ∷ []) ps (struck ++ job ∷ []) (failed ++ [])) (append-nil passed)
      (AreShared-append h.shared (one_struck none)));
}
HasMoved-first jobs fail passed (job ∷ ahead) struck failed h = record {
  gone = h.gone ++ job ∷ [];
  all = one_more jobs h.gone job ahead h.all;
  shared = subst (λ ss. AreShared (h.gone ++ job ∷ []) passed ss (failed ++ job ∷ [])) (append-nil struck)
      (subst (λ ps. AreShared (h.gone ++ job ∷ []) ps (struck ++ []) (failed ++ job ∷ [])) (append-nil passed)
      (AreShared-append h.shared (one_failed none)));
}

HasMoved-moved : (jobs : List Job) (moves : List Move) (l : Lists) → HasMoved jobs l → HasMoved jobs (moved moves l)
HasMoved-moved jobs [] l h = h
HasMoved-moved jobs (move ∷ moves) l h =
    HasMoved-moved jobs moves (moved_once move l) (HasMoved-first jobs move l.passed l.ahead l.struck l.failed h)

-- whatever moves are made of them, jobs are shared among the lists, with those that were struck and failed before
pub moved_are_shared : (jobs struck failed : List Job) (moves : List Move) → let l = moved moves (at_start jobs struck failed) in
    AreShared ((struck ++ failed) ++ jobs) (pending l) l.struck l.failed
moved_are_shared jobs struck failed moves =
    HasMoved-done ((struck ++ failed) ++ jobs) (moved moves (at_start jobs struck failed))
    (HasMoved-moved ((struck ++ failed) ++ jobs) moves (at_start jobs struck failed)
    (record { gone = struck ++ failed; all = refl; shared = all_gone struck failed }))

-- what holds of all jobs holds of all jobs of each list
pub AreShared-All : (P : Job → Type 0) {jobs p s f : List Job} → AreShared jobs p s f → All P jobs → All P p × All P s × All P f
AreShared-All P none h = (All-nil P, All-nil P, All-nil P)
AreShared-All P (one_pending {job = job} {jobs = jobs} {p = p} k) h =
    let r = AreShared-All P k (All-tail P job jobs h) in
    (All-cons P job p (All-head P job jobs h) r.0, r.1, r.2)
AreShared-All P (one_struck {job = job} {jobs = jobs} {s = s} k) h =
    let r = AreShared-All P k (All-tail P job jobs h) in
    (r.0, All-cons P job s (All-head P job jobs h) r.1, r.2)
AreShared-All P (one_failed {job = job} {jobs = jobs} {f = f} k) h =
    let r = AreShared-All P k (All-tail P job jobs h) in
    (r.0, r.1, All-cons P job f (All-head P job jobs h) r.2)

-- so of an end's jobs after each part of a conversation
pub lists_are_shared : (me : Side) (a b : Party) (k : ℕ)
    → AreShared (party me a b).jobs (pending (lists_after me a b k))
    (lists_after me a b k).struck
    (lists_after me a b k).failed
lists_are_shared me a b k =
    rw (sym (moved-append (opening_moves me (party me a b)) (moves_after k (conversation_view me a b)) (at_start (party me a b).jobs [] [])))
    (moved_are_shared (party me a b).jobs [] [] (opening_moves me (party me a b) ++ moves_after k (conversation_view me a b)))
