use Rattle.std.proofs.Common.{ℕ, List, Option, Result, Ok, Err, false, refl, sym}
use Rattle.std.specs.Prelude.{OnOk}
use Rattle.uug_stream.specs.Streams.{Appends}
use Rattle.uug_stream.specs.declared.fault.ToolFault.{ToolFault}
use Rattle.uug_transfer.proofs.ReportedLemmas.{began_soundly, reported_of, runs_on}
use Rattle.uug_transfer.specs.BufferedNodes.{node_in}
use Rattle.uug_transfer.specs.EndOver.{IsPrinted}
use Rattle.uug_transfer.specs.Moments.{end_now}
use Rattle.uug_config.proofs.end_parts.EndParts.run.Goals as goal

-- where nothing has failed the report is printed whole
printed_well : (r : Result ℕ ToolFault) (report : List ℕ) (w v : Option (List ℕ)) (n m : ℕ) (fault : Type 0)
    → IsPrinted r report w v n m fault → OnOk r (Appends report w v)
printed_well (Ok status) report w v n m fault printed = printed
printed_well (Err other) report w v n m fault printed = tt

pub returns-clause-reported : goal.returns-clause-reported
returns-clause-reported g c =
    reported_of c.call_over-answer.result c.args.side _ _ (node_in c.call_over-answer.new.end.buffered) false _ _
    (runs_on c.args.side (end_now g.S.Spool.holdings g.S.Spool.kept c.in_ok-end.end.buffered)
    (end_now g.S.Spool.holdings g.S.Spool.kept c.call_over-answer.new.end.buffered) (node_in c.call_over-answer.new.end.buffered)
    (began_soundly c.args.side _ _ _ _ (sym c.in_ok-end.ensures.holdings) c.in_ok-end.ensures.sound c.in_ok-end.ensures.ran)
    c.call_over-answer.ensures.session.session.led refl)
    c.call_over-answer.ensures.session.over c.call_over-answer.ensures.status
    (printed_well c.call_over-answer.result _ _ _ _ _ _ c.call_over-answer.ensures.report)
