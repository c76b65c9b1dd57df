use Rattle.std.proofs.Common.{◌≡◌, ◌∙◌, length, Some, sym, ap, arith}
use Rattle.std.proofs.lemmas.Result.{MatchResult-from_err}
use Rattle.uug_talk.proofs.HearLemmas.{plus_none, hear_step, hear_stop, hear_at_whole, hear_at_end}
use Rattle.uug_talk.proofs.hail.Hail.listen.Goals as goal

pub loop-used-init : goal.loop-used-init
loop-used-init c = plus_none _

pub returns-then-is_whole : goal.returns-then-is_whole
returns-then-is_whole c = hear_at_whole _ c.args.piece.now _ _ c.loop-used.invariant (sym c.is_whole.ensures ∙ c.if-is_whole.true)

pub loop-used-preserved : goal.loop-used-preserved
loop-used-preserved c =
    hear_step _ c.args.piece.now c.loop-used.used c.loop-used.self c.hear_byte.new.self c.loop-used.invariant (omega arith)
    (sym c.is_whole.ensures ∙ c.if-is_whole.false) c.in_ok-hear_byte.ensures

pub returns-in_err-hear_byte : goal.returns-in_err-hear_byte
returns-in_err-hear_byte c =
    let e = hear_stop _ c.args.piece.now c.loop-used.used c.loop-used.self c.loop-used.invariant (omega arith)
    (sym c.is_whole.ensures ∙ c.if-is_whole.false) c.in_err-hear_byte.ensures.0 in
    MatchResult-from_err _ _ _ c.from_residual.ensures.0 (λ _. (e, c.in_err-hear_byte.ensures.1))

pub returns : goal.returns
returns c =
    let all : c.loop-used.used ≡ length c.args.piece.now = omega arith in
    hear_at_end _ c.args.piece.now c.loop-used.used c.loop-used.self c.loop-used.invariant c.loop-used-test.false
    ∙ ap (λ n. Some (n, c.loop-used.self)) all
