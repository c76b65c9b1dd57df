-- What is printed of the sessions of an end that is called, one behind the other.
use Rattle.std.proofs.Common.{arith, ◌≡◌, ◌⊎◌, ◌++◌, ◌<◌, ◌≤◌, ℕ, List, [], Option, Some, None, Result, Ok, Err, IfNone, IfOk, IfSome, IsSome, OnErr, OnOk, inl, inr, max, refl, subst, sym, ap, ◌∙◌}
use Rattle.std.specs.Prelude.{⊤}
use Rattle.uug_conversation.specs.declared.side.Side.{Side}
use Rattle.uug_conversation.specs.declared.side.Side.TheVariants.{Caller, Called}
use Rattle.uug_error.specs.declared.failure.SystemFailure.{SystemFailure}
use Rattle.uug_error.specs.declared.run_fault.RunFault.{RunFault}
use Rattle.uug_error.specs.declared.run_fault.RunFault.TheVariants.{System, Tool}
use Rattle.uug_stream.specs.Streams.{Appends}
use Rattle.uug_stream.specs.declared.fault.ToolFault.TheVariants.{Jobs}
use Rattle.uug_taylor_run.specs.CallAnswers.{AnswersCall}
use Rattle.uug_run.specs.Calls.{AreReported, AreTold, one_session, session_more}
use Rattle.uug_run.specs.declared.answer.Tally.{Tally}
use Rattle.uug_transfer.specs.Ends.{report_of}
use Rattle.uug_transfer.specs.Reported.{IsReported}

-- unless one has failed, those so far are reported, where there were any
abbrev pub so_far : (side : Side) (past status : ℕ) (failed : Option SystemFailure) (bad_line : Option ℕ) (w v : Option (List ℕ)) → Type 0
so_far side past status None None w v = ((past ≡ 0) × (status ≡ 0) × (v ≡ w)) ⊎ AreReported side status w v
so_far side past status None (Some line) w v = ⊤
so_far side past status (Some failure) bad_line w v = ⊤

abbrev pub SoFar : (side : Side) (past : ℕ) (tally : Tally) (w v : Option (List ℕ)) → Type 0
SoFar side past tally w v = so_far side past tally.status tally.failed tally.bad_line w v

-- ---- what was held of a report is printed

printed_of_held : (report held : List ℕ) (w v : Option (List ℕ)) → Appends report (Some []) (Some held) → Appends held w v → Appends report w v
printed_of_held report held None v told given = tt
printed_of_held report held (Some before) v told given = given ∙ ap (λ (x : List ℕ). Some (before ++ x)) (cc told)

held_reported : (side : Side) (status : ℕ) (held : List ℕ) (w v : Option (List ℕ))
    → IsReported side status (Some []) (Some held) → Appends held w v → IsReported side status w v
held_reported side status held w v told given = record {
  end = told.end;
  holdings = told.holdings;
  kept = told.kept;
  ran = told.ran;
  over = told.over;
  is_left = told.is_left;
  is_status = told.is_status;
  printed = printed_of_held (report_of side told.end) held w v told.printed given;
}

-- ---- one more

one_reported : (side : Side) (past past_after status next : ℕ) (failed : Option SystemFailure) (bad_line : Option ℕ) (w u v : Option (List ℕ))
    → so_far side past status failed bad_line w u → IsReported side next u v → so_far side past_after (max status next) failed bad_line w v
one_reported side past past_after status next None None w u v (inl none) told =
    let is : max status next ≡ next = omega (arith, none.1) in
    inr (subst (λ (s : ℕ). AreReported side s w v) (sym is)
    (one_session (subst (λ (x : Option (List ℕ)). IsReported side next x v) none.2 told)))
one_reported side past past_after status next None None w u v (inr some) told = inr (session_more some told)
one_reported side past past_after status next None (Some line) w u v far told = tt
one_reported side past past_after status next (Some failure) bad_line w u v far told = tt

-- a fault counts
one_failed : (side : Side) (past status : ℕ) (failed : Option SystemFailure) (bad_line : Option ℕ) (w v : Option (List ℕ))
    → IfNone failed (IsSome bad_line) → so_far side past status failed bad_line w v
one_failed side past status None None w v counts = absurd (cc counts)
one_failed side past status None (Some line) w v counts = tt
one_failed side past status (Some failure) bad_line w v counts = tt

pub one_more : (side : Side) (past past_after : ℕ) (before after : Tally) (answer given : Result ℕ RunFault) {U : Type 0}
    (counted : Result U RunFault) (value : U) (held : List ℕ) (w u v : Option (List ℕ)) → SoFar side past before w u
    → IfOk answer (λ (n : ℕ). IsReported side n (Some []) (Some held)) → IfOk given (λ (n : ℕ). answer ≡ Ok n) → IfOk given (λ (n : ℕ). Appends held u v)
    → IfOk given (λ (n : ℕ). after ≡ record before { status = max before.status n })
    → OnErr given (OnOk counted (IfNone after.failed (IsSome after.bad_line))) → counted ≡ Ok value → SoFar side past_after after w v
one_more side past past_after before after (Ok m) (Ok n) counted value held w u v far told same prints greatest failed is =
    subst (λ (t : Tally). SoFar side past_after t w v) (sym greatest)
    (one_reported side past past_after before.status n before.failed before.bad_line w u v far
    (held_reported side n held u v (subst (λ (x : ℕ). IsReported side x (Some []) (Some held)) (cc same) told) prints))
one_more side past past_after before after (Err fault) (Ok n) counted value held w u v far told same prints greatest failed is = absurd (cc same)
one_more side past past_after before after answer (Err fault) (Ok x) value held w u v far told same prints greatest failed is =
    one_failed side past_after after.status after.failed after.bad_line w v failed
one_more side past past_after before after answer (Err fault) (Err other) value held w u v far told same prints greatest failed is = absurd (cc is)

-- it ended badly at worst
pub still_well : (before after : Tally) (given : Result ℕ RunFault) → before.status ≤ 1 → IfOk given (λ (n : ℕ). n ≤ 1)
    → IfOk given (λ (n : ℕ). after ≡ record before { status = max before.status n }) → OnErr given (after.status ≡ before.status)
    → after.status ≤ 1
still_well before after (Ok n) well next greatest same =
    let is : after.status ≡ max before.status n = ap (λ (t : Tally). t.status) greatest in
    omega (arith, well, next, is)
still_well before after (Err fault) well next greatest same = omega (arith, well, same)

-- ---- all of them

told_of : (side : Side) (past status n : ℕ) (failed : Option SystemFailure) (bad_line : Option ℕ) (w v : Option (List ℕ)) (answer : Result ℕ RunFault)
    → 0 < past → so_far side past status failed bad_line w v → answer ≡ Ok n
    → IfSome failed (λ (failure : SystemFailure). answer ≡ Err (System failure))
    → IfNone failed (IfSome bad_line (λ (line : ℕ). answer ≡ Err (Tool (Jobs line))))
    → n ≡ status → AreReported side n w v
told_of side past status n None None w v answer some (inl none) is failed bad same = absurd (omega (arith, none.0))
told_of side past status n None None w v answer some (inr far) is failed bad same = subst (λ (s : ℕ). AreReported side s w v) (sym same) far
told_of side past status n None (Some line) w v answer some far is failed bad same = absurd (cc (is, bad))
told_of side past status n (Some failure) bad_line w v answer some far is failed bad same = absurd (cc (is, failed))

pub all_told : (side : Side) (past : ℕ) (tally reached : Tally) (w u v : Option (List ℕ)) (answer : Result ℕ RunFault) → 0 < past
    → SoFar side past reached w u → tally ≡ reached → v ≡ u
    → IfSome tally.failed (λ (failure : SystemFailure). answer ≡ Err (System failure))
    → IfNone tally.failed (IfSome tally.bad_line (λ (line : ℕ). answer ≡ Err (Tool (Jobs line))))
    → IfOk answer (λ (n : ℕ). n ≡ tally.status) → IfOk answer (λ (n : ℕ). AreReported side n w v)
all_told side past tally reached w u v (Ok n) some far tally_is v_is failed bad same =
    told_of side past tally.status n tally.failed tally.bad_line w v (Ok n) some
    (subst (λ (t : Tally). SoFar side past t w v) (sym tally_is) (subst (λ (x : Option (List ℕ)). SoFar side past reached w x) (sym v_is) far))
    refl failed bad same
all_told side past tally reached w u v (Err fault) some far tally_is v_is failed bad same = tt

-- ---- one session

one_told : (side : Side) (answer : Result ℕ RunFault) (w v : Option (List ℕ)) → IfOk answer (λ (n : ℕ). IsReported side n w v)
    → IfOk answer (λ (n : ℕ). AreTold side n w v)
one_told Caller (Ok n) w v told = told
one_told Called (Ok n) w v told = one_session told
one_told side (Err fault) w v told = tt

pub one_answered : (F : RunFault → Type 0) (side : Side) (answer : Result ℕ RunFault) (w v : Option (List ℕ)) (f g : ℕ)
    → AnswersCall F (IsReported side) answer w v f g → AnswersCall F (AreTold side) answer w v f g
one_answered F side answer w v f g a = record {
  status = a.status;
  reported = one_told side answer w v a.reported;
  write = a.write;
  no_other = a.no_other;
}
