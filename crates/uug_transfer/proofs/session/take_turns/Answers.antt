use Rattle.std.proofs.Common.{ap, sym, Err, subst, ◌∙◌, ℕ, List, Option, refl, arith}
use Rattle.uug_conversation.specs.Jobs.{Lists}
use Rattle.uug_store.specs.NumberText.{holding_number}
use Rattle.uug_transfer.specs.BufferedNodes.{injector_in, node_in, to_write}
use Rattle.uug_transfer.specs.Ends.{jobs_of_end, number_of_end}
use Rattle.uug_transfer.specs.LineSessions.{CouldEnd}
use Rattle.uug_transfer.specs.Moments.{DiskNow, HostNow, LineNow, end_now, unsent}
use Rattle.uug_transfer.specs.Settling.{AreSettled, IsOnDisk}
use Rattle.uug_transfer.proofs.HostLemmas.{all_since_none, all_since_same}
use Rattle.uug_transfer.proofs.NumberLemmas.{later, same}
use Rattle.uug_transfer.proofs.LedLemmas.{led_later, led_same}
use Rattle.uug_transfer.proofs.ListeningLemmas.{front_read, heard_then, line_at_first, line_read, line_same, talks_at_first, talks_noted, talks_over, talks_read, talks_written}
use Rattle.uug_transfer.proofs.ReceivedLemmas.{room_of, spends_at_start, spends_more, spends_same, within_then}
use Rattle.uug_transfer.proofs.SessionLemmas.{end_is, goes_on, handed_on, line_left, line_so, number_left, said_then, session_as, session_of, session_still, session_written, settles_at, settles_at_first, settles_behind, settles_on, settles_so, settles_then}
use Rattle.uug_transfer.proofs.SettlingLemmas.{file_then, follows_at_first, follows_then, on_disk_at_first, some_kept}
use Rattle.uug_transfer.proofs.StallLemmas.{up_to_behind, up_to_same, up_to_within, within_behind, within_same, written_none}
use Rattle.uug_transfer.proofs.session.take_turns.Goals as goal

pub loop-alloc-init : goal.loop-alloc-init
loop-alloc-init g c =
    let only = c.in_ok-settled.ensures.only in
    let spends = spends_same _ _ _ _ _ _ (ap (λ (l : LineNow). l.received) only.line)
    (spends_at_start _ _ _ _ c.new-budget.ensures.bytes c.new-budget.ensures.silences) in
    record {
      stands = record {
        same_host = only.lent;
        led = led_same _ _ refl refl refl;
        heard = line_same _ _ _ _ _ _ _ _ _ _ (line_at_first _ _ _ (node_in c.args.buffered.now)) refl refl
            (ap (λ (l : LineNow). l.received) only.line);
        talks = λ cleared. talks_noted _ _ _ _ _ _ _ _ _ _ _ _ _ _ _ (talks_at_first _ _ _ _ _ _ (node_in c.args.buffered.now) cleared)
            (ap (λ (l : LineNow). l.received) only.line) (ap (λ (l : LineNow). l.taken) only.line);
        reads = within_then _ _ _ _ _ spends;
        writes = up_to_same _ _ _ _ _ (written_none (g.H.Host.now c.args.host.now).line.writes) (ap (λ (l : LineNow). l.writes) only.line);
        settles = settles_at_first _ _ _ _ refl only.jobs only.told only.job_faults;
        keeps = record { stands = λ number h. h };
        follows = follows_at_first _ _ (c.in_ok-settled.ensures.number ∙ (c.number.ensures ∙ ap number_of_end c.node-node.ensures));
        file = c.in_ok-settled.ensures.ok
            ∙ ap (λ k. holding_number k (g.H.Host.now c.args.host.now).disk.number) (sym c.in_ok-settled.ensures.number);
        calm = c.in_ok-settled.ensures.calm;
      };
      spends = spends;
      on_disk = on_disk_at_first c.in_ok-settled.settled (node_in c.args.buffered.now) (g.H.Host.now c.args.host.now).disk.number _
          (subst (λ (l : Lists). AreSettled c.in_ok-settled.settled l) (c.queue.ensures.jobs ∙ ap jobs_of_end c.node-node.ensures)
          c.in_ok-settled.ensures.jobs)
          (c.in_ok-settled.ensures.number ∙ (c.number.ensures ∙ ap number_of_end c.node-node.ensures))
          (c.in_ok-settled.ensures.ok
          ∙ ap (λ k. holding_number k (g.H.Host.now c.args.host.now).disk.number) (c.number.ensures ∙ ap number_of_end c.node-node.ensures));
      said = all_since_same (CouldEnd c.args.most (end_now g.S.Spool.holdings g.S.Spool.kept c.args.buffered.now) (unsent c.args.buffered.now) (g.H.Host.now c.args.host.now)) _ _ _
          (all_since_none (CouldEnd c.args.most (end_now g.S.Spool.holdings g.S.Spool.kept c.args.buffered.now) (unsent c.args.buffered.now) (g.H.Host.now c.args.host.now))
          (g.H.Host.after_writes c.args.host.now))
          c.in_ok-settled.ensures.writes;
    }

pub loop-alloc-preserved : goal.loop-alloc-preserved
loop-alloc-preserved g c =
    let stands = c.loop-alloc.invariant.stands in
    let wrote = c.write_all-all_written.ensures in
    let read = c.read-outcome.ensures in
    let took = c.in_ok-take_and_settle.ensures in
    let disk_read = ap (λ (h : HostNow). h.disk) read.done ∙ wrote.only.disk in
    let line_noted = ap (λ (h : HostNow). h.line) c.note-in-loop-alloc.ensures.done ∙ took.line.line in
    let disk_noted = ap (λ (h : HostNow). h.disk) c.note-in-loop-alloc.ensures.done in
    let held = ap g.S.Spool.holdings wrote.spool ∙ stands.led.stays in
    let front = front_read c.read-outcome.result c.read-outcome.new.buffer _ _ read.within (omega (arith, read.size)) in
    let spends = spends_same _ _ _ _ _ _ (ap (λ (l : LineNow). l.received) line_noted)
    (spends_more _ _ _ _ _ _ _ _ _ c.read-outcome.result c.read-outcome.new.buffer
    (spends_same _ _ _ _ _ _ wrote.only.received c.loop-alloc.invariant.spends)
    (c.stays.ensures.lasts c.loop-alloc-test.true) read.within (room_of _ _ c.loop-alloc.buffer c.room-room.ensures.bytes)
    (omega (arith, read.size)) (ap (λ (h : HostNow). h.line.received) read.done)
    c.spend.ensures.bytes c.spend.ensures.silences) in
    record {
      stands = record {
        same_host = ap (λ (h : HostNow). h.lent) c.note-in-loop-alloc.ensures.done ∙ took.line.lent
            ∙ ap (λ (h : HostNow). h.lent) read.done ∙ wrote.only.lent ∙ stands.same_host;
        led = led_later _ _ _ stands.led
            (led_later _ _ _ (led_same _ _ wrote.node (ap g.S.Spool.holdings wrote.spool) (ap g.S.Spool.kept wrote.spool))
            c.take_and_settle.ensures.led);
        heard = line_same _ _ _ _ _ _ _ _ _ _
            (line_read _ _ _ _ _ _ c.read-outcome.result c.read-outcome.new.buffer _ _ _ _ _ _ _ _ _ _ _ held
            (line_same _ _ _ _ _ _ _ _ _ _ stands.heard wrote.node (ap g.S.Spool.kept wrote.spool) wrote.only.received)
            took.takes (ap (λ (h : HostNow). h.line.received) read.done) front)
            refl refl (ap (λ (l : LineNow). l.received) line_noted);
        talks = λ cleared. talks_noted _ _ _ _ _ _ _ _ _ _ _ _ _ _ _
            (talks_read _ _ _ _ _ _ c.read-outcome.result c.read-outcome.new.buffer _ _ _ _ _ _ _ _ _ _ _ _ _ _ _ _ held
            (talks_written _ _ _ _ _ _ _ _ _ _ _ _ _ _ _ _ _ _ _ (stands.talks cleared) wrote.node
            (ap g.S.Spool.kept wrote.spool) wrote.only.received wrote.injector
            (wrote.all c.if-not-all_written.false) (wrote.taken c.if-not-all_written.false))
            took.takes (ap (λ (h : HostNow). h.line.received) read.done) front (ap (λ (h : HostNow). h.line.taken) read.done))
            (ap (λ (l : LineNow). l.received) line_noted) (ap (λ (l : LineNow). l.taken) line_noted);
        reads = within_then _ _ _ _ _ spends;
        writes = up_to_same _ _ _ _ _ (up_to_behind _ _ _ _ stands.writes (wrote.no_wait c.if-not-all_written.false))
            (ap (λ (l : LineNow). l.writes) line_noted ∙ ap (λ (h : HostNow). h.line.writes) read.done);
        settles = settles_then goes_on _ _ _ _ _ _ held
            (settles_behind goes_on _ _ _ _ _ (ap jobs_of_end wrote.node) stands.settles)
            (settles_on _ _ _ _ _ (settles_at _ _ _ _ _ _ _ (sym disk_read) disk_noted took.settles));
        keeps = later stands.keeps (later (same wrote.node) took.number);
        follows = follows_then _ _ _ _ _ took.kept stands.follows;
        file = file_then _ _ _ _ _ _ took.kept (ap (λ (d : DiskNow). d.number) disk_read ∙ stands.file)
            (ap (λ (d : DiskNow). d.number) disk_noted ∙ took.holds);
        calm = ap (λ (d : DiskNow). d.number_faults) disk_noted ∙ took.number_calm
            ∙ ap (λ (d : DiskNow). d.number_faults) disk_read ∙ stands.calm;
      };
      spends = spends;
      on_disk = subst (λ (text : Option (List ℕ)). IsOnDisk c.take_and_settle.new.settled (node_in c.take_and_settle.new.buffered) text) (sym (ap (λ (d : DiskNow). d.number) disk_noted)) took.on_disk;
      said = all_since_same (CouldEnd c.args.most (end_now g.S.Spool.holdings g.S.Spool.kept c.args.buffered.now) (unsent c.args.buffered.now) (g.H.Host.now c.args.host.now)) _ _ _ (said_then c.args.most (end_now g.S.Spool.holdings g.S.Spool.kept c.args.buffered.now) (end_now g.S.Spool.holdings g.S.Spool.kept c.loop-alloc.buffered)
          (unsent c.args.buffered.now) (g.H.Host.now c.args.host.now) (g.H.Host.now c.loop-alloc.host) (injector_in c.loop-alloc.buffered)
          (to_write c.loop-alloc.buffered) c.loop-alloc.settled.number _ _ _ stands c.loop-alloc.invariant.said wrote.writes)
          (c.note-in-loop-alloc.ensures.writes ∙ took.writes ∙ read.writes);
    }

-- all was written, and the session is over
pub returns-then-has_ended-clause-session : goal.returns-then-has_ended-clause-session
returns-then-has_ended-clause-session g c =
    let wrote = c.write_all-all_written.ensures in
    session_of _ _ _ _ _ _ _ _ (end_is g.S.Spool.holdings g.S.Spool.kept c.loop-alloc.buffered c.write_all-all_written.new.buffered wrote.node wrote.spool)
    (session_written _ c.args.most (end_now g.S.Spool.holdings g.S.Spool.kept c.args.buffered.now) (end_now g.S.Spool.holdings g.S.Spool.kept c.loop-alloc.buffered)
    (unsent c.args.buffered.now) (g.H.Host.now c.args.host.now) (g.H.Host.now c.loop-alloc.host) (g.H.Host.now c.write_all-all_written.new.host) (injector_in c.loop-alloc.buffered)
    (to_write c.loop-alloc.buffered) c.loop-alloc.settled.number (λ is. absurd (cc is)) (λ is. absurd (cc is)) c.loop-alloc.invariant.stands wrote.only)

pub returns-then-has_ended-clause-on_disk : goal.returns-then-has_ended-clause-on_disk
returns-then-has_ended-clause-on_disk g c =
    said_then c.args.most (end_now g.S.Spool.holdings g.S.Spool.kept c.args.buffered.now) (end_now g.S.Spool.holdings g.S.Spool.kept c.loop-alloc.buffered)
    (unsent c.args.buffered.now) (g.H.Host.now c.args.host.now) (g.H.Host.now c.loop-alloc.host) (injector_in c.loop-alloc.buffered)
    (to_write c.loop-alloc.buffered) c.loop-alloc.settled.number _ _ _ c.loop-alloc.invariant.stands c.loop-alloc.invariant.said c.write_all-all_written.ensures.writes

-- the line took nothing for so long
pub returns-then-not-all_written-clause-session : goal.returns-then-not-all_written-clause-session
returns-then-not-all_written-clause-session g c =
    let wrote = c.write_all-all_written.ensures in
    session_of _ _ _ _ _ _ _ _ (end_is g.S.Spool.holdings g.S.Spool.kept c.loop-alloc.buffered c.write_all-all_written.new.buffered wrote.node wrote.spool)
    (session_written _ c.args.most (end_now g.S.Spool.holdings g.S.Spool.kept c.args.buffered.now) (end_now g.S.Spool.holdings g.S.Spool.kept c.loop-alloc.buffered)
    (unsent c.args.buffered.now) (g.H.Host.now c.args.host.now) (g.H.Host.now c.loop-alloc.host) (g.H.Host.now c.write_all-all_written.new.host) (injector_in c.loop-alloc.buffered)
    (to_write c.loop-alloc.buffered) c.loop-alloc.settled.number (λ is. absurd (cc is)) (λ is. absurd (cc is)) c.loop-alloc.invariant.stands wrote.only)

pub returns-then-not-all_written-clause-on_disk : goal.returns-then-not-all_written-clause-on_disk
returns-then-not-all_written-clause-on_disk g c =
    said_then c.args.most (end_now g.S.Spool.holdings g.S.Spool.kept c.args.buffered.now) (end_now g.S.Spool.holdings g.S.Spool.kept c.loop-alloc.buffered)
    (unsent c.args.buffered.now) (g.H.Host.now c.args.host.now) (g.H.Host.now c.loop-alloc.host) (injector_in c.loop-alloc.buffered)
    (to_write c.loop-alloc.buffered) c.loop-alloc.settled.number _ _ _ c.loop-alloc.invariant.stands c.loop-alloc.invariant.said c.write_all-all_written.ensures.writes

-- it has waited long enough
pub returns-clause-session : goal.returns-clause-session
returns-clause-session g c =
    session_still _ c.args.most (end_now g.S.Spool.holdings g.S.Spool.kept c.args.buffered.now) (end_now g.S.Spool.holdings g.S.Spool.kept c.loop-alloc.buffered)
    (unsent c.args.buffered.now) (g.H.Host.now c.args.host.now) (g.H.Host.now c.loop-alloc.host) (injector_in c.loop-alloc.buffered)
    (to_write c.loop-alloc.buffered) c.loop-alloc.settled.number (λ is. absurd (cc is)) (λ is. absurd (cc is)) c.loop-alloc.invariant.stands

pub returns-clause-on_disk : goal.returns-clause-on_disk
returns-clause-on_disk g c = c.loop-alloc.invariant.said

-- the number could not be written as the session began
pub returns-in_err-settled-clause-session : goal.returns-in_err-settled-clause-session
returns-in_err-settled-clause-session g c =
    let here = node_in c.args.buffered.now in
    let only = c.in_err-settled.ensures.only in
    let ended = handed_on c.from_residual.result _ c.from_residual.ensures ∙ ap Err c.in_err-settled.ensures.number_fault in
    session_as _ _ _ _ _ _ _ _ ended
    (record {
      same_host = only.lent;
      led = led_same _ _ refl refl refl;
      at_line = line_so _ _ _ _ _ _ _
          (line_same _ _ _ _ _ _ _ _ _ _ (line_at_first _ _ _ here) refl refl (ap (λ (l : LineNow). l.received) only.line))
          (λ cleared. talks_over _ _ _ _ _ _ _ _ _ _ _ _ _ _ _ _ _ (talks_at_first _ _ _ _ _ _ here cleared) refl refl
          (ap (λ (l : LineNow). l.received) only.line) (ap (λ (l : LineNow). l.taken) only.line))
          (within_then _ _ _ _ _ (spends_same _ _ _ _ _ _ (ap (λ (l : LineNow). l.received) only.line)
          (spends_at_start _ _ _ _ c.new-budget.ensures.bytes c.new-budget.ensures.silences)))
          (within_same _ _ _ _ (up_to_within _ _ _ _ (written_none (g.H.Host.now c.args.host.now).line.writes))
          (ap (λ (l : LineNow). l.writes) only.line));
      jobs = settles_so _ _ _ _ _ (λ is. absurd (cc is)) (settles_at_first _ _ _ _ refl only.jobs only.told only.job_faults);
      number = record {
        stands = record { stands = λ number h. h };
        is_now = tt;
        whole = some_kept _ _ _ c.in_err-settled.ensures.err;
        calm = tt;
        fault = λ is. c.in_err-settled.ensures.fault;
      };
    })

pub returns-in_err-settled-clause-on_disk : goal.returns-in_err-settled-clause-on_disk
returns-in_err-settled-clause-on_disk g c =
    all_since_same (CouldEnd c.args.most (end_now g.S.Spool.holdings g.S.Spool.kept c.args.buffered.now) (unsent c.args.buffered.now) (g.H.Host.now c.args.host.now)) _ _ _
    (all_since_none (CouldEnd c.args.most (end_now g.S.Spool.holdings g.S.Spool.kept c.args.buffered.now) (unsent c.args.buffered.now) (g.H.Host.now c.args.host.now))
    (g.H.Host.after_writes c.args.host.now))
    c.in_err-settled.ensures.writes

-- what came could not be taken up, or what became of that could not be put on the disk
pub returns-in_err-take_and_settle-clause-session : goal.returns-in_err-take_and_settle-clause-session
returns-in_err-take_and_settle-clause-session g c =
    let fault = c.in_err-take_and_settle.field-0.0 in
    let stands = c.loop-alloc.invariant.stands in
    let wrote = c.write_all-all_written.ensures in
    let read = c.read-outcome.ensures in
    let took = c.take_and_settle.ensures in
    let left = c.in_err-take_and_settle.ensures in
    let disk_read = ap (λ (h : HostNow). h.disk) read.done ∙ wrote.only.disk in
    let held = ap g.S.Spool.holdings wrote.spool ∙ stands.led.stays in
    let front = front_read c.read-outcome.result c.read-outcome.new.buffer _ _ read.within (omega (arith, read.size)) in
    let received = ap (λ (h : HostNow). h.line.received) read.done in
    session_as _ _ _ _ _ _ _ _ (handed_on _ fault c.from_residual-in_err-take_and_settle.ensures)
    (record {
      same_host = took.line.lent ∙ ap (λ (h : HostNow). h.lent) read.done ∙ wrote.only.lent ∙ stands.same_host;
      led = led_later _ _ _ stands.led
          (led_later _ _ _ (led_same _ _ wrote.node (ap g.S.Spool.holdings wrote.spool) (ap g.S.Spool.kept wrote.spool)) took.led);
      at_line = line_left _ _ _ _ _ _ _
          (heard_then {T = Unit {0}} (Err fault) _ _ left.takes
          (λ takes. line_same _ _ _ _ _ _ _ _ _ _
          (line_read _ _ _ _ _ _ c.read-outcome.result c.read-outcome.new.buffer _ _ _ _ _ _ _ _ _ _ _ held
          (line_same _ _ _ _ _ _ _ _ _ _ stands.heard wrote.node (ap g.S.Spool.kept wrote.spool) wrote.only.received)
          takes received front)
          refl refl (ap (λ (l : LineNow). l.received) took.line.line)))
          (λ cleared. heard_then {T = Unit {0}} (Err fault) _ _ left.takes
          (λ takes. talks_over _ _ _ _ _ _ _ _ _ _ _ _ _ _ _ _ _
          (talks_read _ _ _ _ _ _ c.read-outcome.result c.read-outcome.new.buffer _ _ _ _ _ _ _ _ _ _ _ _ _ _ _ _ held
          (talks_written _ _ _ _ _ _ _ _ _ _ _ _ _ _ _ _ _ _ _ (stands.talks cleared) wrote.node
          (ap g.S.Spool.kept wrote.spool) wrote.only.received wrote.injector
          (wrote.all c.if-not-all_written.false) (wrote.taken c.if-not-all_written.false))
          takes received front (ap (λ (h : HostNow). h.line.taken) read.done))
          refl refl (ap (λ (l : LineNow). l.received) took.line.line) (ap (λ (l : LineNow). l.taken) took.line.line)))
          (within_then _ _ _ _ _ (spends_same _ _ _ _ _ _ (ap (λ (l : LineNow). l.received) took.line.line)
          (spends_more _ _ _ _ _ _ _ _ _ c.read-outcome.result c.read-outcome.new.buffer
          (spends_same _ _ _ _ _ _ wrote.only.received c.loop-alloc.invariant.spends)
          (c.stays.ensures.lasts c.loop-alloc-test.true) read.within (room_of _ _ c.loop-alloc.buffer c.room-room.ensures.bytes)
          (omega (arith, read.size)) received refl refl)))
          (within_same _ _ _ _ (within_behind _ _ _ _ stands.writes wrote.only.writes)
          (ap (λ (l : LineNow). l.writes) took.line.line ∙ ap (λ (h : HostNow). h.line.writes) read.done));
      jobs = settles_then _ _ _ _ _ _ _ held
          (settles_behind goes_on _ _ _ _ _ (ap jobs_of_end wrote.node) stands.settles)
          (settles_at _ _ _ _ _ _ _ (sym disk_read) refl left.settles);
      number = number_left fault _ (end_now g.S.Spool.holdings g.S.Spool.kept c.write_all-all_written.new.buffered) _ _
          (g.H.Host.now c.read-outcome.new.self).disk _
          (later stands.keeps (same wrote.node)) left.number
          (record { number = c.loop-alloc.settled.number; is = ap (λ (d : DiskNow). d.number) disk_read ∙ stands.file }) took.whole
          (ap (λ (d : DiskNow). d.number_faults) disk_read ∙ stands.calm) left.number_calm
          (λ is. left.number_fault (ap Err is));
    })

pub returns-in_err-take_and_settle-clause-on_disk : goal.returns-in_err-take_and_settle-clause-on_disk
returns-in_err-take_and_settle-clause-on_disk g c =
    all_since_same (CouldEnd c.args.most (end_now g.S.Spool.holdings g.S.Spool.kept c.args.buffered.now) (unsent c.args.buffered.now) (g.H.Host.now c.args.host.now)) _ _ _
    (said_then c.args.most (end_now g.S.Spool.holdings g.S.Spool.kept c.args.buffered.now) (end_now g.S.Spool.holdings g.S.Spool.kept c.loop-alloc.buffered)
    (unsent c.args.buffered.now) (g.H.Host.now c.args.host.now) (g.H.Host.now c.loop-alloc.host) (injector_in c.loop-alloc.buffered)
    (to_write c.loop-alloc.buffered) c.loop-alloc.settled.number _ _ _ c.loop-alloc.invariant.stands c.loop-alloc.invariant.said c.write_all-all_written.ensures.writes)
    (c.take_and_settle.ensures.writes ∙ c.read-outcome.ensures.writes)
