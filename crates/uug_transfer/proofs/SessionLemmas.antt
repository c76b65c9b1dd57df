-- Shows what the session of an end comes to, one call behind another.
use Rattle.std.proofs.Common.{◌≡◌, ℕ, [], List, Option, Result, Ok, Err, refl, sym, ap, subst, ◌∙◌}
use Rattle.std.specs.Prelude.{OnOk}
use Rattle.std.specs.Result.{IsErr, IsErrAnd}
use Rattle.uug_store.specs.NumberText.{holding_number}
use Rattle.uug_conversation.specs.DialogueValue.{dialogue_has_parted}
use Rattle.uug_conversation.specs.Holdings.{Holdings, Kept}
use Rattle.uug_conversation.specs.declared.job.Job.{Job}
use Rattle.uug_session.specs.Engine.{HasFailed, faults_max, hung_up, with_stage}
use Rattle.uug_session.specs.NumberStanding.{KeepsNumber}
use Rattle.uug_session.specs.Node.{NodeState}
use Rattle.uug_transfer.proofs.ListeningLemmas.{TalksOn, heard_then, line_lost, line_same, talks_lost, talks_some, wrote_none}
use Rattle.uug_transfer.proofs.NumberLemmas.{later, unless_refused}
use Rattle.uug_transfer.proofs.SettlingLemmas.{FollowsNumber, is_now, loses_same, loses_then, some_then, stays_same, stays_then, tells_of, tells_same, tells_then, unless_settled}
use Rattle.uug_transfer.proofs.StallLemmas.{only_written, stalls_none, within_behind, within_same}
use Rattle.uug_transfer.proofs.UnsettledLemmas.{however_settled}
use Rattle.uug_transfer.specs.Ends.{jobs_of_end, number_of_end}
use Rattle.uug_transfer.specs.BufferedNodes.{node_in, spool_in}
use Rattle.uug_transfer.proofs.HostLemmas.{all_since_then, all_since_weaker}
use Rattle.uug_transfer.specs.Hosts.{AllSince, HasOnlyWritten}
use Rattle.uug_transfer.specs.LineSessions.{CouldEnd, IsSession, SettlesJobs, UsesLine, WritesNumber, WritesWhatIsOnDisk}
use Rattle.uug_transfer.specs.Listening.{HearsLine}
use Rattle.uug_transfer.specs.Moments.{DiskNow, EndNow, HostNow, IsLed, LineNow, Unsent, disk_now, end_now, host_of, line_now}
use Rattle.uug_transfer.specs.Received.{ReadsWithin, Received}
use Rattle.uug_transfer.specs.SessionFaults.{UnlessJobs, UnlessNumber, UnlessRefused, UnlessUnsettled}
use Rattle.uug_transfer.specs.Settling.{IsNumberNow, IsSomeNumber, LosesNoJob}
use Rattle.uug_transfer.specs.WriteSilences.{WritesUpTo, WritesWithin}
use Rattle.uug_transfer.specs.Writing.{TalksAtLine}
use Rattle.uug_transfer.specs.declared.buffered_node.BufferedNode.{BufferedNode}
use Rattle.uug_transfer.specs.declared.fault_injector.FaultInjector.{FaultInjector}
use Rattle.uug_transfer.specs.declared.read_budget.TheConstants.{SILENCES_MAX, STALLS_MAX}
use Rattle.uug_transfer.specs.declared.session_fault.SessionFault.{SessionFault}
use Rattle.uug_transfer.specs.declared.session_fault.SessionFault.TheVariants as fault

-- a fault that is handed on
pub handed_on : {T : Type 0} (r : Result T SessionFault) (f : SessionFault) → IsErr r × IsErrAnd r (λ other. other ≡ f) → r ≡ Err f
handed_on (Ok value) f h = absurd (cc h.0)
handed_on (Err other) f h = ap Err h.1

abbrev end_with : NodeState → Holdings → List Kept → EndNow
end_with node holdings kept = record { node = node; holdings = holdings; kept = kept }

-- ---- by what it ended with

unless_number : {T : Type 0} (r : Result T SessionFault) (P : Type 0) → P → UnlessNumber r P
unless_number (Ok value) P p = p
unless_number (Err fault.Jobs) P p = p
unless_number (Err fault.Number) P p = tt
unless_number (Err fault.Memory) P p = p

unless_number_then : {T : Type 0} (r : Result T SessionFault) (P Q : Type 0) → UnlessNumber r P → (P → Q) → UnlessNumber r Q
unless_number_then (Ok value) P Q p f = f p
unless_number_then (Err fault.Jobs) P Q p f = f p
unless_number_then (Err fault.Number) P Q p f = tt
unless_number_then (Err fault.Memory) P Q p f = f p

on_ok : {T : Type 0} (r : Result T SessionFault) (P : Type 0) → P → OnOk r P
on_ok (Ok value) P p = p
on_ok (Err fault) P p = tt

pub calm_unsettled : {T : Type 0} (r : Result T SessionFault) (P : Type 0) → UnlessJobs r P → UnlessUnsettled r P
calm_unsettled (Ok value) P p = p
calm_unsettled (Err fault.Jobs) P p = tt
calm_unsettled (Err fault.Number) P p = p
calm_unsettled (Err fault.Memory) P p = tt

-- ---- the jobs

-- what a session that goes on has come to so far
abbrev pub goes_on : Result ℕ SessionFault
goes_on = Ok 0

pub settles_at_first : (a b : EndNow) (x y : DiskNow) → jobs_of_end b.node ≡ jobs_of_end a.node → y.jobs ≡ x.jobs → y.told ≡ x.told
    → y.job_faults ≡ x.job_faults → SettlesJobs goes_on a b x y
settles_at_first a b x y jobs stands told calm = record {
  stays = stays_same x.jobs y.jobs a.node b.node jobs stands;
  none_lost = loses_same x.jobs y.jobs a.node b.node jobs stands;
  told = tells_same a.holdings x.told y.told a.node b.node jobs told;
  calm = calm;
  fault = λ is. absurd (cc is);
}

-- a call was done, and the session goes on
pub settles_on : {T : Type 0} (value : T) (a b : EndNow) (x y : DiskNow) → SettlesJobs {T = T} (Ok value) a b x y → SettlesJobs goes_on a b x y
settles_on value a b x y s = record {
  stays = s.stays;
  none_lost = s.none_lost;
  told = s.told;
  calm = s.calm;
  fault = λ is. absurd (cc is);
}

-- the same of the disks before and after
pub settles_at : {T : Type 0} (r : Result T SessionFault) (a b : EndNow) (x y z w : DiskNow) → z ≡ x → w ≡ y → SettlesJobs r a b x y
    → SettlesJobs r a b z w
settles_at r a b x y z w before after s =
    subst (λ (d : DiskNow). SettlesJobs r a b d w) (sym before) (subst (λ (d : DiskNow). SettlesJobs r a b x d) (sym after) s)

-- whatever it ended with, but a fault of their store
pub settles_so : {T : Type 0} (r : Result T SessionFault) (a b : EndNow) (x y : DiskNow) → (r ≡ Err fault.Jobs → ⊥)
    → SettlesJobs goes_on a b x y → SettlesJobs r a b x y
settles_so r a b x y other s = record {
  stays = however_settled r _ s.stays;
  none_lost = s.none_lost;
  told = however_settled r _ s.told;
  calm = however_settled r _ s.calm;
  fault = λ is. absurd (other is);
}

pub settles_then : {T : Type 0} (r : Result T SessionFault) (a b c : EndNow) (x y z : DiskNow) → b.holdings ≡ a.holdings
    → SettlesJobs goes_on a b x y → SettlesJobs r b c y z → SettlesJobs r a c x z
settles_then r a b c x y z same first second = record {
  stays = unless_settled r _ _ second.stays (λ s. stays_then x.jobs y.jobs z.jobs a.node b.node c.node first.stays s);
  none_lost = loses_then x.jobs y.jobs z.jobs a.node b.node c.node first.none_lost second.none_lost;
  told = unless_settled r _ _ second.told (λ t. tells_then a.holdings x.told y.told z.told a.node b.node c.node first.told
      (tells_of b.holdings a.holdings y.told z.told b.node c.node (sym same) t));
  calm = unless_settled r _ _ second.calm (λ e. e ∙ first.calm);
  fault = λ is. subst (λ (n : ℕ). HasFailed faults_max n z.job_faults) first.calm (second.fault is);
}

-- the jobs of the end do not move behind that
pub settles_behind : {T : Type 0} (r : Result T SessionFault) (a b c : EndNow) (x y : DiskNow)
    → jobs_of_end c.node ≡ jobs_of_end b.node → SettlesJobs r a b x y → SettlesJobs r a c x y
settles_behind r a b c x y jobs s = record {
  stays = unless_settled r _ _ s.stays
      (λ h. stays_then x.jobs y.jobs y.jobs a.node b.node c.node h (stays_same y.jobs y.jobs b.node c.node jobs refl));
  none_lost = loses_then x.jobs y.jobs y.jobs a.node b.node c.node s.none_lost (loses_same y.jobs y.jobs b.node c.node jobs refl);
  told = unless_settled r _ _ s.told
      (λ h. tells_then a.holdings x.told y.told y.told a.node b.node c.node h (tells_same a.holdings y.told y.told b.node c.node jobs refl));
  calm = s.calm;
  fault = s.fault;
}

-- ---- the number

-- whatever it ended with, but a fault of its file
pub number_so : {T : Type 0} (r : Result T SessionFault) (a b : EndNow) (x y : DiskNow) (kept : Option ℕ) → (r ≡ Err fault.Number → ⊥)
    → KeepsNumber a.node.engine b.node.engine → FollowsNumber (number_of_end a.node) kept (number_of_end b.node)
    → y.number ≡ holding_number kept x.number → y.number_faults ≡ x.number_faults → WritesNumber r a b x y
number_so r a b x y kept other stands follows file calm = record {
  stands = unless_refused r _ stands;
  is_now = on_ok r _ (is_now (number_of_end a.node) kept (number_of_end b.node) x.number y.number follows file);
  whole = record { number = kept; is = file };
  calm = unless_refused r _ (unless_number r _ calm);
  fault = λ is. absurd (other is);
}

-- the end keeps the same behind that
pub number_behind : {T : Type 0} (r : Result T SessionFault) (a b c : EndNow) (x y : DiskNow)
    → KeepsNumber b.node.engine c.node.engine → number_of_end c.node ≡ number_of_end b.node → WritesNumber r a b x y
    → WritesNumber r a c x y
number_behind r a b c x y keeps same w = record {
  stands = heard_then r _ _ w.stands (λ k. later k keeps);
  is_now = subst (λ (now : Option ℕ). OnOk r (IsNumberNow (number_of_end a.node) now x.number y.number)) (sym same) w.is_now;
  whole = w.whole;
  calm = w.calm;
  fault = w.fault;
}

-- the disk is the same then
pub settles_after : {T : Type 0} (r : Result T SessionFault) (a b : EndNow) (x y z : DiskNow) → z ≡ y → SettlesJobs r a b x y
    → SettlesJobs r a b x z
settles_after r a b x y z same s = subst (λ (d : DiskNow). SettlesJobs r a b x d) (sym same) s

pub number_after : {T : Type 0} (r : Result T SessionFault) (a b : EndNow) (x y z : DiskNow) → z ≡ y → WritesNumber r a b x y
    → WritesNumber r a b x z
number_after r a b x y z same w = subst (λ (d : DiskNow). WritesNumber r a b x d) (sym same) w

-- what has become of the end could not be put on its disk
pub number_left : {T : Type 0} (f : SessionFault) (a b c : EndNow) (x y z : DiskNow)
    → KeepsNumber a.node.engine b.node.engine → UnlessRefused {T = T} (Err f) (KeepsNumber b.node.engine c.node.engine)
    → IsSomeNumber x.number y.number → IsSomeNumber y.number z.number → y.number_faults ≡ x.number_faults
    → UnlessRefused {T = T} (Err f) (UnlessNumber {T = T} (Err f) (z.number_faults ≡ y.number_faults))
    → (f ≡ fault.Number → HasFailed faults_max y.number_faults z.number_faults) → WritesNumber {T = T} (Err f) a c x z
number_left {T = T} f a b c x y z first second whole whole_then calm calm_then failed = record {
  stands = heard_then {T = T} (Err f) _ _ second (λ k. later first k);
  is_now = tt;
  whole = some_then x.number y.number z.number whole whole_then;
  calm = heard_then {T = T} (Err f) _ _ calm_then (λ u. unless_number_then {T = T} (Err f) _ _ u (λ e. e ∙ calm));
  fault = λ is. subst (λ (n : ℕ). HasFailed faults_max n z.number_faults) calm (failed (cc is));
}

-- ---- the line

-- whatever it ended with
pub line_so : {T : Type 0} (r : Result T SessionFault) (most : ℕ) (a b : EndNow) (first : Unsent) (x y : LineNow)
    → HearsLine a.holdings a.kept b.kept x.received y.received a.node b.node
    → (a.node.engine.outbox.entries ≡ []
    → TalksAtLine a.holdings a.kept b.kept x.received y.received first.injector first.bytes x.taken y.taken a.node b.node)
    → ReadsWithin most SILENCES_MAX x.received y.received → WritesWithin STALLS_MAX x.writes y.writes
    → UsesLine most r a b first x y
line_so r most a b first x y heard talked reads writes = record {
  heard = unless_refused r _ heard;
  talked = λ cleared. unless_refused r _ (talked cleared);
  reads = reads;
  writes = writes;
}

-- what came may not have been taken up
pub line_left : {T : Type 0} (r : Result T SessionFault) (most : ℕ) (a b : EndNow) (first : Unsent) (x y : LineNow)
    → UnlessRefused r (HearsLine a.holdings a.kept b.kept x.received y.received a.node b.node)
    → (a.node.engine.outbox.entries ≡ [] → UnlessRefused r
    (TalksAtLine a.holdings a.kept b.kept x.received y.received first.injector first.bytes x.taken y.taken a.node b.node))
    → ReadsWithin most SILENCES_MAX x.received y.received → WritesWithin STALLS_MAX x.writes y.writes
    → UsesLine most r a b first x y
line_left r most a b first x y heard talked reads writes = record {
  heard = heard;
  talked = talked;
  reads = reads;
  writes = writes;
}

-- the end hangs up, and its line is told how far the session has come
pub line_hung_up : {T : Type 0} (r : Result T SessionFault) (most : ℕ) (a b c : EndNow) (first : Unsent) (x y z : LineNow)
    → c.node.engine ≡ with_stage (hung_up (dialogue_has_parted b.node.engine.dialogue) b.node.engine.stage) b.node.engine
    → c.kept ≡ b.kept → z.received ≡ y.received → z.taken ≡ y.taken → z.writes ≡ y.writes
    → UsesLine most r a b first x y → UsesLine most r a c first x z
line_hung_up r most a b c first x y z lost kept received taken writes u = record {
  heard = heard_then r _ _ u.heard (λ h. line_lost a.holdings a.kept b.kept c.kept x.received y.received z.received a.node b.node c.node
      h lost kept received);
  talked = λ cleared. heard_then r _ _ (u.talked cleared) (λ t. talks_lost a.holdings a.kept b.kept c.kept x.received y.received z.received
      first.injector first.bytes x.taken y.taken z.taken a.node b.node c.node t lost kept received taken);
  reads = subst (ReadsWithin most SILENCES_MAX x.received) (sym received) u.reads;
  writes = within_same STALLS_MAX x.writes y.writes z.writes u.writes writes;
}

-- ---- the session

-- what holds behind one fault holds behind what hands that on
pub session_as : {T : Type 0} (r s : Result T SessionFault) (most : ℕ) (a b : EndNow) (first : Unsent) (x y : HostNow)
    → r ≡ s → IsSession most s a b first x y → IsSession most r a b first x y
session_as {T = T} r s most a b first x y is session =
    subst (λ (t : Result T SessionFault). IsSession most t a b first x y) (sym is) session

-- nothing of the end has changed since
pub end_is : {S A : Type 0} (holdings : S → Holdings) (kept : S → List Kept) (a b : BufferedNode S A) → node_in b ≡ node_in a
    → spool_in b ≡ spool_in a → end_now holdings kept b ≡ end_now holdings kept a
end_is {S = S} holdings kept a b node spool =
    ap (λ (n : NodeState). end_with n (holdings (spool_in b)) (kept (spool_in b))) node
    ∙ ap (λ (s : S). end_with (node_in a) (holdings s) (kept s)) spool

-- How a session stands between its turns: what the end has done by now, what it has still to write, and the number in its file.
pub record Stands (most : ℕ) (a b : EndNow) (first : Unsent) (x y : HostNow) (now : FaultInjector) (left : List ℕ)
    (number : Option ℕ) : Type 0 where
  pub same_host : y.lent ≡ x.lent
  pub led : IsLed a b
  pub heard : HearsLine a.holdings a.kept b.kept x.line.received y.line.received a.node b.node
  pub talks : a.node.engine.outbox.entries ≡ [] → TalksOn a.holdings a.kept b.kept x.line.received y.line.received first.injector now
      first.bytes left x.line.taken y.line.taken a.node b.node
  pub reads : ReadsWithin most SILENCES_MAX x.line.received y.line.received
  pub writes : WritesUpTo STALLS_MAX 0 x.line.writes y.line.writes
  pub settles : SettlesJobs goes_on a b x.disk y.disk
  pub keeps : KeepsNumber a.node.engine b.node.engine
  pub follows : FollowsNumber (number_of_end a.node) number (number_of_end b.node)
  pub file : y.disk.number ≡ holding_number number x.disk.number
  pub calm : y.disk.number_faults ≡ x.disk.number_faults

-- it may end there, behind some writes
pub session_written : {T : Type 0} (r : Result T SessionFault) (most : ℕ) (a b : EndNow) (first : Unsent) (x y z : HostNow)
    (now : FaultInjector) (left : List ℕ) (number : Option ℕ) → (r ≡ Err fault.Jobs → ⊥) → (r ≡ Err fault.Number → ⊥)
    → Stands most a b first x y now left number → HasOnlyWritten left y z → IsSession most r a b first x z
session_written r most a b first x y z now left number no_jobs no_number s w = record {
  same_host = w.lent ∙ s.same_host;
  led = s.led;
  at_line = line_so r most a b first x.line z.line
      (line_same a.holdings a.kept b.kept b.kept x.line.received y.line.received z.line.received a.node b.node b.node
      s.heard refl refl w.received)
      (λ cleared. talks_some a.holdings a.kept b.kept b.kept x.line.received y.line.received z.line.received first.injector now
      first.bytes left x.line.taken y.line.taken z.line.taken a.node b.node b.node (s.talks cleared) refl refl w.received w.taken)
      (subst (ReadsWithin most SILENCES_MAX x.line.received) (sym w.received) s.reads)
      (within_behind STALLS_MAX x.line.writes y.line.writes z.line.writes s.writes w.writes);
  jobs = settles_so r a b x.disk z.disk no_jobs (subst (λ (d : DiskNow). SettlesJobs goes_on a b x.disk d) (sym w.disk) s.settles);
  number = number_so r a b x.disk z.disk number no_number s.keeps s.follows
      (ap (λ (d : DiskNow). d.number) w.disk ∙ s.file) (ap (λ (d : DiskNow). d.number_faults) w.disk ∙ s.calm);
}

-- nothing was written either
pub session_still : {T : Type 0} (r : Result T SessionFault) (most : ℕ) (a b : EndNow) (first : Unsent) (x y : HostNow)
    (now : FaultInjector) (left : List ℕ) (number : Option ℕ) → (r ≡ Err fault.Jobs → ⊥) → (r ≡ Err fault.Number → ⊥)
    → Stands most a b first x y now left number → IsSession most r a b first x y
session_still r most a b first x y now left number no_jobs no_number s =
    session_written r most a b first x y y now left number no_jobs no_number s
    (only_written left left STALLS_MAX y y refl refl refl (wrote_none left y.line.taken) (stalls_none y.line.writes))

-- so it could end just after each of these writes
pub could_end : (most : ℕ) (a b : EndNow) (first : Unsent) (x y : HostNow) (now : FaultInjector) (left : List ℕ) (number : Option ℕ)
    → Stands most a b first x y now left number → (m : HostNow) → HasOnlyWritten left y m → CouldEnd most a first x m
could_end most a b first x y now left number s m w = record {
  now = b;
  session = session_written {T = ℕ} (Ok 0) most a b first x y m now left number (λ is. absurd (cc is)) (λ is. absurd (cc is)) s w;
}

-- memory ran out before all was settled
pub settles_refused : {T : Type 0} (r : Result T SessionFault) (a b : EndNow) (x y : DiskNow) → r ≡ Err fault.Memory
    → LosesNoJob x.jobs y.jobs a.node b.node → SettlesJobs r a b x y
settles_refused {T = T} r a b x y is none_lost = subst (λ (t : Result T SessionFault). SettlesJobs t a b x y) (sym is) (record {
  stays = tt;
  none_lost = none_lost;
  told = tt;
  calm = tt;
  fault = λ is. absurd (cc is);
})

-- the end is the same then
pub session_of : {T : Type 0} (r : Result T SessionFault) (most : ℕ) (a b d : EndNow) (first : Unsent) (x y : HostNow) → d ≡ b
    → IsSession most r a b first x y → IsSession most r a d first x y
session_of r most a b d first x y same session = subst (λ (e : EndNow). IsSession most r a e first x y) (sym same) session

pub said_then : (most : ℕ) (a b : EndNow) (first : Unsent) (x y : HostNow) (now : FaultInjector) (left : List ℕ) (number : Option ℕ)
    (t u v : Option (List HostNow)) → Stands most a b first x y now left number → WritesWhatIsOnDisk most a first x t u
    → AllSince (HasOnlyWritten left y) u v → WritesWhatIsOnDisk most a first x t v
said_then most a b first x y now left number t u v stands before written =
    all_since_then (CouldEnd most a first x) t u v before
    (all_since_weaker (HasOnlyWritten left y) (CouldEnd most a first x) u v (could_end most a b first x y now left number stands) written)

-- the line and the files of the host are the same then
pub session_at : {T L J N : Type 0} (received : L → Option (List Received)) (taken : L → Option (List ℕ)) (writes : L → Option (List ℕ))
    (jobs : J → Option (List Job)) (told : J → Option (List ℕ)) (job_faults : J → ℕ) (number : N → Option (List ℕ)) (number_faults : N → ℕ)
    (r : Result T SessionFault) (most : ℕ) (a b : EndNow) (first : Unsent) (x y : HostNow) (l m : L) (i j : J) (n o : N) → m ≡ l → j ≡ i → o ≡ n
    → IsSession most r a b first x y → y.line ≡ line_now received taken writes l
    → y.disk ≡ disk_now jobs told job_faults number number_faults i n
    → IsSession most r a b first (host_of x.line x.disk) (host_of (line_now received taken writes m) (disk_now jobs told job_faults number number_faults j o))
session_at received taken writes jobs told job_faults number number_faults r most a b first x y l m i j n o same_line same_jobs same_number session line disk =
    let line_then = ap (line_now received taken writes) same_line ∙ sym line in
    let disk_then = ap (λ k. disk_now jobs told job_faults number number_faults k o) same_jobs
    ∙ ap (λ k. disk_now jobs told job_faults number number_faults i k) same_number ∙ sym disk in
    record {
      same_host = refl;
      led = session.led;
      at_line = subst (λ (l : LineNow). UsesLine most r a b first x.line l) (sym line_then) session.at_line;
      jobs = settles_after r a b x.disk y.disk _ disk_then session.jobs;
      number = number_after r a b x.disk y.disk _ disk_then session.number;
    }
