use Rattle.std.proofs.Common.{◌≡◌, ◌<◌, ℕ, List, Option, Some, None, Result, IfErr, arith, refl, string_bytes, subst, sym}
use Rattle.std.specs.Borrow.{Bor}
use Rattle.std.specs.Io.KnownBytes.{Keeps}
use Rattle.uug_stream.specs.Streams.{CountsFault}
use Rattle.uug_stream.specs.declared.fault.ToolFault.{ToolFault}
use Rattle.uug_sim_input.specs.Inputs.{DoesOn, DoesOver, DoesOverFile, IsFaultOf, streams}
use Rattle.uug_sim_input.specs.declared.input_task.InputTask.{InputTask}
use Rattle.uug_sim_input.specs.declared.input_task.InputTask.TheVariants as over
use Rattle.uug_sim_input.proofs.doing.do_on.Goals as goal

keeps_same : (x : Option (List ℕ)) → Keeps x x
keeps_same None = tt
keeps_same (Some bytes) = refl

counted : (before after : ℕ) → before ≡ 0 → CountsFault before after → 0 < after
counted before after e counts = subst (λ (n : ℕ). n < after) e (counts (omega (arith, e)))

over_file : (task : InputTask) (x to_come left before after : Option (List ℕ)) (remark : List ℕ) (a : Result ℕ ToolFault)
    → DoesOver task (streams to_come left before after) remark a → IfErr a (IsFaultOf task)
    → DoesOverFile task (streams x x before after) a
over_file over.Scan x to_come left before after remark a does faults =
    record { unread = keeps_same x; status = does.status; no_other = faults }
over_file over.ScanVerbose x to_come left before after remark a does faults =
    record { unread = keeps_same x; status = does.status; no_other = faults }
over_file over.Play x to_come left before after remark a does faults =
    record { unread = keeps_same x; nothing_written = does.nothing_written; no_other = faults }
over_file over.PlayVerbose x to_come left before after remark a does faults =
    record { unread = keeps_same x; nothing_written = does.plays.nothing_written; no_other = faults }
over_file over.PlaySettled x to_come left before after remark a does faults =
    record { unread = keeps_same x; nothing_written = does.nothing_written; no_other = faults }
over_file over.PlayDrawn x to_come left before after remark a does faults =
    record { unread = keeps_same x; nothing_written = does.nothing_written; no_other = faults }

pub returns : goal.returns
returns g c =
    let x = g.I.Input.to_come c.args.input.now in
    let before = g.O.Output.written c.args.output.now in
    let after = g.O.Output.written c.do_over-answer-2.new.output in
    let remark = string_bytes c.do_over-answer-2.result.remark in
    let does : DoesOverFile c.args.task (streams x x before after) c.do_over-answer-2.result.answer =
    over_file c.args.task x _ _ before after remark c.do_over-answer-2.result.answer
    c.do_over-answer-2.ensures.does c.do_over-answer-2.ensures.no_other in
    subst (λ (file : Option (Bor (List ℕ))). DoesOn c.args.task file (streams x x before after) remark c.with_cause-2.result) (sym c.in-Some.is) (
      subst (λ (a : Result ℕ ToolFault). DoesOverFile c.args.task (streams x x before after) a) (sym c.with_cause-2.ensures.answered) does,
      c.with_cause-2.ensures.named
          (λ e. c.failure.ensures.told (counted _ _ c.new-opened.ensures (c.do_over-answer-2.ensures.read e))),
    )
