use Rattle.std.proofs.Common.{ap, map, sym}
use Rattle.uug_conversation.specs.MemoryHoldings.{kept_of}
use Rattle.uug_taylor_queue.specs.MailHoldings.{mail_holdings}
use Rattle.uug_taylor_queue.specs.Places.{shown_public}
use Rattle.uug_taylor_queue.specs.declared.mail_spool.MailSpool.{MailSpool}
use Rattle.uug_transfer.proofs.ReportedLemmas.{began_soundly}
use Rattle.uug_taylor_run.proofs.spool_end.SpoolEnd.begin.Goals as goal

pub returns-in-Ok-begin_end-clause-ran : goal.returns-in-Ok-begin_end-clause-ran
returns-in-Ok-begin_end-clause-ran g c =
    began_soundly _ _ _ _ _
    (ap (λ (s : MailSpool _ _ _). mail_holdings s.settings.is_lenient s.settings.tells_digests s.settings.limit.bytes (shown_public s.public) s.partials (map kept_of s.given.items))
    (sym c.in-Ok-begin_end.ensures.spool))
    c.in-Ok-begin_end.ensures.sound c.in-Ok-begin_end.ensures.ran
