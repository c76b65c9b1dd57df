use Rattle.std.proofs.Common.{◌∙◌, sym}
use Rattle.uug_talk.proofs.CallLemmas.{no_words, no_words_left, told_now, told_later}
use Rattle.uug_talk.proofs.call.caller_number.Goals as goal

pub returns-in_err-rest : goal.returns-in_err-rest
returns-in_err-rest c = c.from_residual.ensures ∙ sym (no_words c.args.text.now c.in_err-rest.ensures)

pub returns-then-is_some : goal.returns-then-is_some
returns-then-is_some c =
    told_now c.loop-word.rest.now c.in-Some.word.now c.in-Some.behind.now _ c.in-Some.ensures c.told_by-number.ensures c.if-is_some.ensures
    ∙ sym c.loop-word.invariant

pub loop-word-preserved : goal.loop-word-preserved
loop-word-preserved c =
    c.loop-word.invariant
    ∙ told_later c.loop-word.rest.now c.in-Some.word.now c.in-Some.behind.now _ c.in-Some.ensures c.told_by-number.ensures c.if-is_some.ensures

pub returns : goal.returns
returns c = sym (c.loop-word.invariant ∙ no_words_left c.loop-word.rest.now c.in_default.ensures)
