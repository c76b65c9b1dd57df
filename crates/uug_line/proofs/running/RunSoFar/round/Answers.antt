use Rattle.std.proofs.Common.{ℕ, Bool, true, subst}
use Rattle.uug_line.specs.declared.event.Event.TheVariants.{Pass}
use Rattle.uug_conversation.specs.declared.side.Side.TheVariants.{Caller, Called}
use Rattle.uug_line.specs.RunValue.{Passes, run_value}
use Rattle.uug_line.specs.Code.Settling.{goes}
use Rattle.uug_line.proofs.RunLemmas.{happens_steady}
use Rattle.uug_line.proofs.running.RunSoFar.round.Goals as goal

pub pass-requires-2 : goal.pass-requires-2
pass-requires-2 g c =
    let old = run_value c.args.self.now in
    let middle = run_value c.pass.new.self in
    let n = c.len-to_called.result in
    happens_steady (Pass Called n) old middle c.requires
    (subst (λ (b : Bool). Passes Called n b old middle) c.if-not-branch.false c.in_ok-pass.ensures)

pub returns : goal.returns
returns g c =
    let old = run_value c.args.self.now in
    let middle = run_value c.pass.new.self in
    let new = run_value c.pass-2.new.self in
    let first = subst (λ (b : Bool). Passes Called c.len-to_called.result b old middle) c.if-not-branch.false c.in_ok-pass.ensures in
    goes middle (subst (λ (n : ℕ). Passes Called n true old middle) c.len-to_called.ensures first)
    (subst (λ (n : ℕ). Passes Caller n c.in_ok-all_sent.all_sent middle new) c.len-to_caller.ensures c.in_ok-all_sent.ensures)
