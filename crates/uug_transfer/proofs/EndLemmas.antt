-- What is left of an end when its session is over.
use Rattle.std.proofs.Common.{◌≡◌, ◌⊎◌, inl, inr, ℕ, ◌≤◌, List, [], Option, Some, None, Result, Ok, Err, refl, sym, ap, subst, ◌∙◌, arith}
use Rattle.std.proofs.lemmas.List.{append-nil}
use Rattle.std.specs.Prelude.{IfErr, OnErr, OnOk}
use Rattle.uug_session.specs.Engine.{HasFailed, faults_max}
use Rattle.uug_stream.specs.Fault.{StopsWriting}
use Rattle.uug_stream.specs.Streams.{Appends, AppendsFront}
use Rattle.uug_stream.specs.declared.fault.ToolFault.{ToolFault}
use Rattle.uug_stream.specs.declared.fault.ToolFault.TheVariants as faults
use Rattle.uug_store.specs.JobsPlan.{IsCarriedOut, IsPlanned}
use Rattle.uug_store.specs.NumberText.{holding_number}
use Rattle.uug_store.specs.TextFiles.{holding}
use Rattle.uug_store.specs.declared.jobs_plan.JobsPlan.{JobsPlan}
use Rattle.uug_store.specs.declared.jobs_plan.JobsPlan.TheVariants.{Write, Failed}
use Rattle.uug_session.specs.Node.{NodeState}
use Rattle.uug_transfer.specs.EndOver.{FilesState, IsEndFault, IsPlanFaultOfBoth, IsPrinted, LeaveBoth, LeavesBehind, fault_behind_line}

-- ---- nothing was printed

appends_none : (w : Option (List ℕ)) → Appends [] w w
appends_none None = tt
appends_none (Some before) = ap (λ (x : List ℕ). Some x) (sym (append-nil before))

pub front_none : (report : List ℕ) (w : Option (List ℕ)) → AppendsFront report w w
front_none report w = ([], report, refl, appends_none w)

-- what became of the printing of a report, by what it came to
pub record Prints {T : Type 0} (r : Result T ToolFault) (report : List ℕ) (w v : Option (List ℕ)) (c d : ℕ) : Type 0 where
  pub appends : OnOk r (Appends report w v)
  pub begins : OnErr r (AppendsFront report w v)
  pub fault : IfErr r (StopsWriting c d)

-- that fault is answered
printing_failed : (T : Type 0) (fault : ToolFault) (report : List ℕ) (w v : Option (List ℕ)) (c d : ℕ) (F : Type 0)
    → AppendsFront report w v → StopsWriting c d fault → IsPrinted {T = T} (Err fault) report w v c d F
printing_failed T faults.Memory report w v c d F h f = h
printing_failed T faults.Write report w v c d F h f = (h, f)
printing_failed T faults.Device report w v c d F h f = absurd f
printing_failed T faults.Read report w v c d F h f = absurd f
printing_failed T (faults.Script line) report w v c d F h f = absurd f
printing_failed T (faults.Jobs line) report w v c d F h f = absurd f
printing_failed T faults.Usage report w v c d F h f = absurd f

pub printing_stopped : (T : Type 0) (fault : ToolFault) (report printed : List ℕ) (w v : Option (List ℕ)) (c d : ℕ) (F : Type 0)
    → printed ≡ report → AppendsFront printed w v → StopsWriting c d fault → IsPrinted {T = T} (Err fault) report w v c d F
printing_stopped T fault report printed w v c d F same h f =
    printing_failed T fault report w v c d F (subst (λ (x : List ℕ). AppendsFront x w v) same h) f

-- a device has failed before
behind_device : (T U : Type 0) (r : Result U ToolFault) (report : List ℕ) (w v : Option (List ℕ)) (c d : ℕ) (F : Type 0)
    → Prints r report w v c d → IsPrinted {T = T} (Err (fault_behind_line r)) report w v c d F
behind_device T U (Ok value) report w v c d F h = inl h.appends
behind_device T U (Err faults.Memory) report w v c d F h = h.begins
behind_device T U (Err faults.Write) report w v c d F h = inr (h.begins, inl h.fault)
behind_device T U (Err faults.Device) report w v c d F h = absurd h.fault
behind_device T U (Err faults.Read) report w v c d F h = absurd h.fault
behind_device T U (Err (faults.Script line)) report w v c d F h = absurd h.fault
behind_device T U (Err (faults.Jobs line)) report w v c d F h = absurd h.fault
behind_device T U (Err faults.Usage) report w v c d F h = absurd h.fault

pub printed_behind_device : (T U : Type 0) (fault : ToolFault) (r : Result U ToolFault) (report printed : List ℕ) (w v : Option (List ℕ))
    (c d : ℕ) (F : Type 0) → fault ≡ fault_behind_line r → printed ≡ report → Prints r printed w v c d
    → IsPrinted {T = T} (Err fault) report w v c d F
printed_behind_device T U fault r report printed w v c d F e same h =
    subst (λ (f : ToolFault). IsPrinted {T = T} (Err f) report w v c d F) (sym e)
    (behind_device T U r report w v c d F (subst (λ (x : List ℕ). Prints r x w v c d) same h))

-- the front of a text is the front of the report that the text is
pub begins_report : {T : Type 0} (r : Result T ToolFault) (report text bytes : List ℕ) (w v : Option (List ℕ)) → text ≡ report → bytes ≡ text
    → OnErr r (AppendsFront bytes w v) → OnErr r (AppendsFront report w v)
begins_report r report text bytes w v is same h = subst (λ (x : List ℕ). OnErr r (AppendsFront x w v)) (same ∙ is) h

pub not_printed_of_both : (T : Type 0) (fault : ToolFault) (report : List ℕ) (w : Option (List ℕ)) (a b d e c : ℕ) (F : Type 0)
    → IsPlanFaultOfBoth fault a b d e → (HasFailed faults_max a b ⊎ HasFailed faults_max d e → F)
    → IsPrinted {T = T} (Err fault) report w w c c F
not_printed_of_both T faults.Memory report w a b d e c F h f = front_none report w
not_printed_of_both T faults.Device report w a b d e c F h f = inr (front_none report w, inr (f h))
not_printed_of_both T faults.Read report w a b d e c F h f = absurd h
not_printed_of_both T faults.Write report w a b d e c F h f = absurd h
not_printed_of_both T (faults.Script line) report w a b d e c F h f = absurd h
not_printed_of_both T (faults.Jobs line) report w a b d e c F h f = absurd h
not_printed_of_both T faults.Usage report w a b d e c F h f = absurd h

-- ---- a plan was carried out

failed_later : (a b c : ℕ) → HasFailed faults_max a b → b ≤ c → HasFailed faults_max a c
failed_later a b c (inl less) h = inl (omega (arith, less, h))
failed_later a b c (inr most) h = inr most

pub planned_then : {A : Type 0} (plan : JobsPlan A) (goal text between after : Option (List ℕ)) (a b c : ℕ) → between ≡ text
    → IsPlanned plan goal text a b → IsCarriedOut plan between after b c → b ≤ c → (after ≡ goal) ⊎ HasFailed faults_max a c
planned_then (Write written) goal text between after a b c same planned (inl done) h =
    inl (done.0 ∙ ap (λ (x : Option (List ℕ)). holding written.items x) same ∙ planned.0)
planned_then (Write written) goal text between after a b c same planned (inr failed) h =
    inr (subst (λ (n : ℕ). HasFailed faults_max n c) planned.1 failed)
planned_then Failed goal text between after a b c same planned done h = inr (failed_later a b c planned h)

-- the file of the number stayed as it was while this was planned
pub number_then : {N : Type 0} (text : N → Option (List ℕ)) (count : N → ℕ) (before between after : N) (planned kept : Option ℕ)
    → between ≡ before → planned ≡ kept
    → (text after ≡ holding_number planned (text between)) ⊎ HasFailed faults_max (count between) (count after)
    → (text after ≡ holding_number kept (text before)) ⊎ HasFailed faults_max (count before) (count after)
number_then text count before between after planned kept same is_kept h =
    subst (λ (n : Option ℕ). (text after ≡ holding_number n (text before)) ⊎ HasFailed faults_max (count before) (count after)) is_kept
    (subst (λ (file : _). (text after ≡ holding_number planned (text file)) ⊎ HasFailed faults_max (count file) (count after)) same h)

-- on every way out
pub left_on : {T : Type 0} (r : Result T ToolFault) (F U L : Type 0) → L → LeavesBehind r F U L
left_on (Ok value) F U L l = l
left_on (Err faults.Memory) F U L l = inr l
left_on (Err faults.Device) F U L l = inr l
left_on (Err faults.Read) F U L l = l
left_on (Err faults.Write) F U L l = l
left_on (Err (faults.Script line)) F U L l = l
left_on (Err (faults.Jobs line)) F U L l = l
left_on (Err faults.Usage) F U L l = l

-- ---- behind a fault of the line

left_after : {T : Type 0} (V : Type 0) (r : Result T ToolFault) (F U L : Type 0) → IfErr r IsEndFault → LeavesBehind r F U L
    → LeavesBehind {T = V} (Err (fault_behind_line r)) F U L
left_after V (Ok value) F U L k h = inr h
left_after V (Err faults.Memory) F U L k h = h
left_after V (Err faults.Device) F U L k h = h
left_after V (Err faults.Write) F U L k h = inr h
left_after V (Err faults.Read) F U L k h = absurd k
left_after V (Err (faults.Script line)) F U L k h = absurd k
left_after V (Err (faults.Jobs line)) F U L k h = absurd k
left_after V (Err faults.Usage) F U L k h = absurd k

printed_after : {T : Type 0} (V : Type 0) (r : Result T ToolFault) (report : List ℕ) (w v : Option (List ℕ)) (c d : ℕ) (F : Type 0)
    → IfErr r IsEndFault → IsPrinted r report w v c d F → IsPrinted {T = V} (Err (fault_behind_line r)) report w v c d F
printed_after V (Ok value) report w v c d F k h = inl h
printed_after V (Err faults.Memory) report w v c d F k h = h
printed_after V (Err faults.Device) report w v c d F k h = h
printed_after V (Err faults.Write) report w v c d F k h = inr (h.0, inl h.1)
printed_after V (Err faults.Read) report w v c d F k h = absurd k
printed_after V (Err (faults.Script line)) report w v c d F k h = absurd k
printed_after V (Err (faults.Jobs line)) report w v c d F k h = absurd k
printed_after V (Err faults.Usage) report w v c d F k h = absurd k

-- the fault that is answered, and what is left beside it
pub left_behind_line : {T : Type 0} (V : Type 0) (r : Result T ToolFault) (fault : ToolFault) (F U L : Type 0)
    → fault ≡ fault_behind_line r → IfErr r IsEndFault → LeavesBehind r F U L → LeavesBehind {T = V} (Err fault) F U L
left_behind_line V r fault F U L answered k h =
    subst (λ (f : ToolFault). LeavesBehind {T = V} (Err f) F U L) (sym answered) (left_after V r F U L k h)

pub printed_behind_line : {T : Type 0} (V : Type 0) (r : Result T ToolFault) (fault : ToolFault) (report same : List ℕ)
    (w v : Option (List ℕ)) (c d : ℕ) (F : Type 0) → fault ≡ fault_behind_line r → same ≡ report → IfErr r IsEndFault
    → IsPrinted r report w v c d F → IsPrinted {T = V} (Err fault) same w v c d F
printed_behind_line V r fault report same w v c d F answered is_same k h =
    subst (λ (f : ToolFault). IsPrinted {T = V} (Err f) same w v c d F) (sym answered)
    (subst (λ (text : List ℕ). IsPrinted {T = V} (Err (fault_behind_line r)) text w v c d F) (sym is_same)
    (printed_after V r report w v c d F k h))

-- what is left of two ends, told of the same ends
pub both_left : {T : Type 0} (r : Result T ToolFault) (read other_read : List ℕ) (caller called same_caller same_called : NodeState)
    (a b c d : FilesState) → same_caller ≡ caller → same_called ≡ called → LeaveBoth r read other_read caller called a b c d
    → LeaveBoth r read other_read same_caller same_called a b c d
both_left r read other_read caller called same_caller same_called a b c d is_caller is_called h =
    subst (λ (n : NodeState). LeaveBoth r read other_read n same_called a b c d) (sym is_caller)
    (subst (λ (n : NodeState). LeaveBoth r read other_read caller n a b c d) (sym is_called) h)
