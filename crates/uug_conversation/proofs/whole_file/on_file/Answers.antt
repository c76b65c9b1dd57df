use Rattle.uug_conversation.specs.Machine.{on_file}
use Rattle.uug_conversation.proofs.SayableLemmas.{file_is_sayable}
use Rattle.uug_conversation.proofs.WholeFileLemmas.{when_none, when_told}
use Rattle.uug_conversation.proofs.whole_file.on_file.Goals as goal

pub returns-in-Some-clause-reply : goal.returns-in-Some-clause-reply
returns-in-Some-clause-reply g c =
    (when_told (g.S.Spool.holdings c.args.spool.now) (g.S.Spool.holdings c.keep_awaited.new.spool) c.args.awaits c.args.bytes.now
    c.args.queue.now c.on_kept.new.queue c.in_ok-verdict.field-0 c.in-Some.verdict c.on_kept.result
    (g.S.Spool.kept c.args.spool.now) (g.S.Spool.kept c.keep_awaited.new.spool)
    c.in_ok-verdict.ensures.kept c.in-Some.is c.keep_awaited.ensures.holdings c.on_kept.ensures.reply).reply

pub returns-in-Some-clause-kept : goal.returns-in-Some-clause-kept
returns-in-Some-clause-kept g c =
    (when_told (g.S.Spool.holdings c.args.spool.now) (g.S.Spool.holdings c.keep_awaited.new.spool) c.args.awaits c.args.bytes.now
    c.args.queue.now c.on_kept.new.queue c.in_ok-verdict.field-0 c.in-Some.verdict c.on_kept.result
    (g.S.Spool.kept c.args.spool.now) (g.S.Spool.kept c.keep_awaited.new.spool)
    c.in_ok-verdict.ensures.kept c.in-Some.is c.keep_awaited.ensures.holdings c.on_kept.ensures.reply).kept

pub returns-in-Some-clause-sayable : goal.returns-in-Some-clause-sayable
returns-in-Some-clause-sayable g c =
    let h = g.S.Spool.holdings c.args.spool.now in
    file_is_sayable h (g.met.S.Spool.modes c.args.spool.now) c.args.awaits c.args.bytes.now c.args.queue.now
    c.on_kept.new.queue c.on_kept.result (on_file h c.args.awaits c.args.bytes.now c.args.queue.now).keeps
    (when_told (g.S.Spool.holdings c.args.spool.now) (g.S.Spool.holdings c.keep_awaited.new.spool) c.args.awaits c.args.bytes.now
    c.args.queue.now c.on_kept.new.queue c.in_ok-verdict.field-0 c.in-Some.verdict c.on_kept.result
    (g.S.Spool.kept c.args.spool.now) (g.S.Spool.kept c.keep_awaited.new.spool)
    c.in_ok-verdict.ensures.kept c.in-Some.is c.keep_awaited.ensures.holdings c.on_kept.ensures.reply).reply

pub returns-in-None-clause-reply : goal.returns-in-None-clause-reply
returns-in-None-clause-reply g c =
    (when_none (g.S.Spool.holdings c.args.spool.now) (g.S.Spool.holdings c.keep_awaited.new.spool) c.args.awaits c.args.bytes.now
    c.args.queue.now c.on_none_kept.new.queue c.in_ok-verdict.field-0 c.on_none_kept.result
    (g.S.Spool.kept c.args.spool.now) (g.S.Spool.kept c.keep_awaited.new.spool)
    c.in_ok-verdict.ensures.kept c.in-None.is c.keep_awaited.ensures.holdings c.on_none_kept.ensures.reply).reply

pub returns-in-None-clause-kept : goal.returns-in-None-clause-kept
returns-in-None-clause-kept g c =
    (when_none (g.S.Spool.holdings c.args.spool.now) (g.S.Spool.holdings c.keep_awaited.new.spool) c.args.awaits c.args.bytes.now
    c.args.queue.now c.on_none_kept.new.queue c.in_ok-verdict.field-0 c.on_none_kept.result
    (g.S.Spool.kept c.args.spool.now) (g.S.Spool.kept c.keep_awaited.new.spool)
    c.in_ok-verdict.ensures.kept c.in-None.is c.keep_awaited.ensures.holdings c.on_none_kept.ensures.reply).kept

pub returns-in-None-clause-sayable : goal.returns-in-None-clause-sayable
returns-in-None-clause-sayable g c =
    let h = g.S.Spool.holdings c.args.spool.now in
    file_is_sayable h (g.met.S.Spool.modes c.args.spool.now) c.args.awaits c.args.bytes.now c.args.queue.now
    c.on_none_kept.new.queue c.on_none_kept.result (on_file h c.args.awaits c.args.bytes.now c.args.queue.now).keeps
    (when_none (g.S.Spool.holdings c.args.spool.now) (g.S.Spool.holdings c.keep_awaited.new.spool) c.args.awaits c.args.bytes.now
    c.args.queue.now c.on_none_kept.new.queue c.in_ok-verdict.field-0 c.on_none_kept.result
    (g.S.Spool.kept c.args.spool.now) (g.S.Spool.kept c.keep_awaited.new.spool)
    c.in_ok-verdict.ensures.kept c.in-None.is c.keep_awaited.ensures.holdings c.on_none_kept.ensures.reply).reply
