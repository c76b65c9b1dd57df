use Rattle.std.proofs.Common.{◌∙◌, ℕ, ◌≤◌, subst, sym, true≢false}
use Rattle.uug_line.specs.Code.Settling.{AreOver, parts_weight}
use Rattle.uug_line.specs.RunValue.{run_value}
use Rattle.uug_line.proofs.Clean.Loop.{begins_so, goes_nearer, is_finished, less_left}
use Rattle.uug_line.proofs.running.RunSoFar.finish.Goals as goal

pub prove-unreachable-requires : goal.prove-unreachable-requires
prove-unreachable-requires g c =
    let setup = c.requires.setup in
    let events = c.requires.events in
    let may = c.requires.may in
    let first =
    begins_so setup may.types.sound events c.in_ok-all_sent.all_sent
    (run_value c.args.self.now) (run_value c.time_out.new.self) (run_value c.time_out-2.new.self) (run_value c.round.new.self) may
    c.in_ok-time_out.ensures c.in_ok-time_out-2.ensures
    c.in_ok-all_sent.ensures in
    true≢false (sym first.clean ∙ c.if-prove.true)

pub loop-alloc-init : goal.loop-alloc-init
loop-alloc-init g c = λ setup events may.
    (begins_so setup may.types.sound events c.in_ok-all_sent.all_sent
    (run_value c.args.self.now) (run_value c.time_out.new.self) (run_value c.time_out-2.new.self) (run_value c.round.new.self) may
    c.in_ok-time_out.ensures c.in_ok-time_out-2.ensures
    c.in_ok-all_sent.ensures).near

pub prove-unreachable-requires-in-loop-alloc : goal.prove-unreachable-requires-in-loop-alloc
prove-unreachable-requires-in-loop-alloc g c =
    let setup = c.requires.setup in
    let events = c.requires.events in
    let may = c.requires.may in
    let old = run_value c.loop-alloc.self in
    let not_over : AreOver old → ⊥ = λ over. true≢false (sym (c.is_over.ensures.1 over) ∙ c.loop-alloc-test.true) in
    let next =
    goes_nearer setup may.types.sound events c.in_ok-all_sent-2.all_sent
    old (run_value c.round-in-loop-alloc.new.self) (c.loop-alloc.invariant setup events may) not_over c.in_ok-all_sent-2.ensures in
    true≢false (sym next.clean ∙ c.if-prove-2.true)

pub loop-alloc-smaller : goal.loop-alloc-smaller
loop-alloc-smaller g c =
    let setup = c.requires.setup in
    let events = c.requires.events in
    let may = c.requires.may in
    let old = run_value c.loop-alloc.self in
    let new = run_value c.round-in-loop-alloc.new.self in
    let not_over : AreOver old → ⊥ = λ over. true≢false (sym (c.is_over.ensures.1 over) ∙ c.loop-alloc-test.true) in
    let next =
    goes_nearer setup may.types.sound events c.in_ok-all_sent-2.all_sent
    old new (c.loop-alloc.invariant setup events may) not_over c.in_ok-all_sent-2.ensures in
    let most : ℕ = 340282366920938463463374607431768211455 in
    less_left most (parts_weight old) (parts_weight new)
    (subst (λ (weight : ℕ). weight ≤ most) c.weight-weight.ensures.weight c.weight-weight.ensures.within) next.heavier

pub loop-alloc-preserved : goal.loop-alloc-preserved
loop-alloc-preserved g c = λ setup events may.
    let old = run_value c.loop-alloc.self in
    let not_over : AreOver old → ⊥ = λ over. true≢false (sym (c.is_over.ensures.1 over) ∙ c.loop-alloc-test.true) in
    (goes_nearer setup may.types.sound events c.in_ok-all_sent-2.all_sent
    old (run_value c.round-in-loop-alloc.new.self) (c.loop-alloc.invariant setup events may) not_over c.in_ok-all_sent-2.ensures).near

pub returns : goal.returns
returns g c = λ setup events may.
    is_finished setup may.types.sound events (run_value c.loop-alloc.self)
    (c.loop-alloc.invariant setup events may) (c.is_over.ensures.0 c.loop-alloc-test.false)
