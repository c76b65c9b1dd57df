use Rattle.std.proofs.Common.{ap, ◌∙◌}
use Rattle.uug_transfer.specs.Moments.{HostNow, end_now, unsent}
use Rattle.uug_transfer.specs.LineSessions.{CouldEnd}
use Rattle.uug_transfer.proofs.HostLemmas.{all_since_same}
use Rattle.uug_transfer.proofs.LedLemmas.{led_later}
use Rattle.uug_transfer.proofs.SessionLemmas.{line_hung_up, number_after, number_behind, settles_after, settles_behind}
use Rattle.uug_transfer.proofs.session.run_session.Goals as goal

pub returns-clause-session : goal.returns-clause-session
returns-clause-session g c =
    let session = c.take_turns-result.ensures.session in
    let disk = ap (λ (h : HostNow). h.disk) c.note.ensures.done in
    record {
      same_host = ap (λ (h : HostNow). h.lent) c.note.ensures.done ∙ session.same_host;
      led = led_later _ _ _ session.led c.hang_up.ensures.led;
      at_line = line_hung_up _ _ _ _ _ _ _ _ _ c.hang_up.ensures.lost (ap g.S.Spool.kept c.hang_up.ensures.spool)
          (ap (λ (h : HostNow). h.line.received) c.note.ensures.done) (ap (λ (h : HostNow). h.line.taken) c.note.ensures.done)
          (ap (λ (h : HostNow). h.line.writes) c.note.ensures.done) session.at_line;
      jobs = settles_after _ _ _ _ _ _ disk
          (settles_behind _ _ _ _ _ _ (ap (λ e. e.dialogue.machine.lists) c.hang_up.ensures.lost) session.jobs);
      number = number_after _ _ _ _ _ _ disk
          (number_behind _ _ _ _ _ _ c.hang_up.ensures.number (ap (λ e. e.number) c.hang_up.ensures.lost) session.number);
    }

pub returns-clause-on_disk : goal.returns-clause-on_disk
returns-clause-on_disk g c = all_since_same (CouldEnd c.args.most (end_now g.S.Spool.holdings g.S.Spool.kept c.args.buffered.now) (unsent c.args.buffered.now) (g.H.Host.now c.args.host.now)) _ _ _ c.take_turns-result.ensures.on_disk c.note.ensures.writes
