use Rattle.std.proofs.Common.{◌∙◌, sym, ap, Ok}
use Rattle.std.proofs.lemmas.Result.{MatchResult-from_err}
use Rattle.uug_talk.specs.Texts.{is_whole}
use Rattle.uug_talk.proofs.TextLemmas.{took, took_too_long, took_whole, took_of, whole_is_heard}
use Rattle.uug_talk.proofs.hail.Hail.push.Goals as goal

pub returns-clause-ok : goal.returns-clause-ok
returns-clause-ok c = λ stream h. took c.args.piece.now c.args.self.now c.listen.new.self stream c.in_ok-used.used h c.in_ok-used.ensures

pub returns-clause-used : goal.returns-clause-used
returns-clause-used c =
    let t = took_of c.args.piece.now c.args.self.now c.listen.new.self c.in_ok-used.used c.in_ok-used.ensures in
    (t.0, λ f. t.1 (sym c.is_whole.ensures ∙ f))

pub returns-clause-kept : goal.returns-clause-kept
returns-clause-kept c = λ w.
    let t = took_whole c.args.piece.now c.args.self.now c.listen.new.self c.in_ok-used.used w c.in_ok-used.ensures in
    (ap (λ n. Ok (n, c.is_whole.result)) t.0 ∙ ap (λ b. Ok (0, b)) (c.is_whole.ensures ∙ ap is_whole t.1 ∙ w), t.1)

pub returns-in_err-used-clause-too_long : goal.returns-in_err-used-clause-too_long
returns-in_err-used-clause-too_long c =
    MatchResult-from_err _ _ _ c.from_residual.ensures.0
    (λ _. λ stream h. took_too_long c.args.piece.now c.args.self.now stream h c.in_err-used.ensures.0)

pub returns-in_err-used-clause-kept : goal.returns-in_err-used-clause-kept
returns-in_err-used-clause-kept c = λ w. absurd (whole_is_heard c.args.piece.now c.args.self.now w c.in_err-used.ensures.0)
