use Rattle.std.proofs.Common.{refl, rules}
use Rattle.uug_transfer.proofs.SessionLemmas.{session_at}
use Rattle.uug_transfer.proofs.session.run_at_line.Goals as goal

pub returns-clause-session : goal.returns-clause-session
returns-clause-session g c =
    session_at g.L.EndLine.received g.L.EndLine.taken g.L.EndLine.writes g.J.JobStore.open_jobs g.J.JobStore.told g.J.JobStore.fault_count
    g.N.TextFile.text g.N.TextFile.fault_count _ _ _ _ _ _ _ _ _ _ _ _ _ (search rules) (search rules) (search rules)
    c.run_session.ensures.session refl refl
