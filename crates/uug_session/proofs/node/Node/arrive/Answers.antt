use Rattle.std.proofs.Common.{◌≡◌, ◌+◌, ◌-◌, ◌<◌, ◌≤◌, ◌++◌, [], ap, arith, drop, length, length-drop, length-take, refl, subst, sym, take, ◌∙◌}
use Rattle.std.proofs.lemmas.List.{append-nil, take_all, take_rest}
use Rattle.std.proofs.Math.Seq.{take-add}
use Rattle.uug_session.specs.Engine.{HasFailed, faults_max}
use Rattle.uug_session.specs.Node.{NodeState, node_of}
use Rattle.uug_session.specs.NodeArriving.{GoesOn}
use Rattle.uug_session.specs.NodeCalls.{IsMadeOfCalls, beside}
use Rattle.uug_session.proofs.MadeLemmas.{made_of_both, made_of_none, offered_made}
use Rattle.uug_session.proofs.CourseLemmas.{stays, takes_further}
use Rattle.uug_session.specs.Sending.{SaysWhatItCan}
use Rattle.uug_session.proofs.Greetings.SaysLemmas.{offered_says}
use Rattle.uug_session.proofs.NodeSearchLemmas.{accepted_most, offers_more, takes_all_of}
use Rattle.uug_session.proofs.node.Node.arrive.Goals as goal

pub loop-self-init : goal.loop-self-init
loop-self-init g c = record {
  made = made_of_none (g.S.Spool.holdings c.args.self.now.spool) faults_max
      (beside (node_of c.args.self.now) (g.S.Spool.kept c.args.self.now.spool) (g.S.Spool.faults c.args.self.now.spool));
  same = refl;
  used = omega arith;
  goes_on = stays (g.S.Spool.holdings c.args.self.now.spool) (g.S.Spool.kept c.args.self.now.spool) _ (node_of c.args.self.now);
  says = λ says. says;
  holdings = refl;
  count = omega arith;
}

pub returns-in_default-clause-unfinished : goal.returns-in_default-clause-unfinished
returns-in_default-clause-unfinished g c =
    let old = c.args.self.now in
    let at = c.loop-self.self in
    let new = c.take_all_found.new.self in
    takes_further (g.S.Spool.holdings old.spool) (g.S.Spool.holdings at.spool) (g.S.Spool.kept old.spool) (g.S.Spool.kept at.spool) (g.S.Spool.kept new.spool)
    faults_max (g.S.Spool.faults old.spool) (g.S.Spool.faults at.spool) (g.S.Spool.faults new.spool) (take c.loop-self.used c.args.piece.now) (node_of old) (node_of at) (node_of new)
    c.loop-self.invariant.holdings c.loop-self.invariant.count c.take_all_found.ensures.count c.loop-self.invariant.goes_on c.take_all_found.ensures.goes_on

pub returns-in_default-clause-made_so_far : goal.returns-in_default-clause-made_so_far
returns-in_default-clause-made_so_far g c =
    let old = c.args.self.now in
    let at = c.loop-self.self in
    let new = c.take_all_found.new.self in
    let h = g.S.Spool.holdings old.spool in
    let used = take c.loop-self.used c.args.piece.now in
    let first = beside (node_of old) (g.S.Spool.kept old.spool) (g.S.Spool.faults old.spool) in
    let middle = beside (node_of at) (g.S.Spool.kept at.spool) (g.S.Spool.faults at.spool) in
    let last = beside (node_of new) (g.S.Spool.kept new.spool) (g.S.Spool.faults new.spool) in
    subst (λ bytes. IsMadeOfCalls h faults_max bytes first last) (append-nil used)
    (made_of_both h faults_max used [] first middle last c.loop-self.invariant.made
    (subst (λ held. IsMadeOfCalls held faults_max [] middle last) c.loop-self.invariant.holdings c.take_all_found.ensures.made))

pub returns-then-used-piece-clause-made : goal.returns-then-used-piece-clause-made
returns-then-used-piece-clause-made g c =
    let old = c.args.self.now in
    let at = c.loop-self.self in
    let new = c.take_all_found.new.self in
    let h = g.S.Spool.holdings old.spool in
    let used = take c.loop-self.used c.args.piece.now in
    let first = beside (node_of old) (g.S.Spool.kept old.spool) (g.S.Spool.faults old.spool) in
    let middle = beside (node_of at) (g.S.Spool.kept at.spool) (g.S.Spool.faults at.spool) in
    let last = beside (node_of new) (g.S.Spool.kept new.spool) (g.S.Spool.faults new.spool) in
    let whole : used ≡ c.args.piece.now = take_all c.loop-self.used c.args.piece.now (omega (arith, c.if-used-piece.true)) in
    subst (λ bytes. IsMadeOfCalls h faults_max bytes first last) (append-nil used ∙ whole)
    (made_of_both h faults_max used [] first middle last c.loop-self.invariant.made
    (subst (λ held. IsMadeOfCalls held faults_max [] middle last) c.loop-self.invariant.holdings c.take_all_found.ensures.made))

pub returns-then-used-piece-clause-taken : goal.returns-then-used-piece-clause-taken
returns-then-used-piece-clause-taken g c =
    let old = c.args.self.now in
    let at = c.loop-self.self in
    let new = c.take_all_found.new.self in
    let piece = c.args.piece.now in
    let whole : take c.loop-self.used piece ≡ piece = take_all c.loop-self.used piece (omega (arith, c.if-used-piece.true)) in
    takes_all_of (g.S.Spool.holdings old.spool) (g.S.Spool.kept old.spool) (g.S.Spool.kept new.spool) _ piece (node_of old) (node_of new)
    (subst (λ bytes. GoesOn (g.S.Spool.holdings old.spool) (g.S.Spool.kept old.spool) (g.S.Spool.kept new.spool)
    (HasFailed faults_max (g.S.Spool.faults old.spool) (g.S.Spool.faults new.spool)) bytes (node_of old) (node_of new)) whole
    (takes_further (g.S.Spool.holdings old.spool) (g.S.Spool.holdings at.spool) (g.S.Spool.kept old.spool) (g.S.Spool.kept at.spool) (g.S.Spool.kept new.spool)
    faults_max (g.S.Spool.faults old.spool) (g.S.Spool.faults at.spool) (g.S.Spool.faults new.spool) (take c.loop-self.used piece) (node_of old) (node_of at) (node_of new)
    c.loop-self.invariant.holdings c.loop-self.invariant.count c.take_all_found.ensures.count c.loop-self.invariant.goes_on c.take_all_found.ensures.goes_on))
    c.in-Ok.ensures.rest

pub loop-self-smaller : goal.loop-self-smaller
loop-self-smaller g c =
    let piece = c.args.piece.now in
    let rest = take (length piece - c.loop-self.used) (drop c.loop-self.used piece) in
    let left : 0 < length rest = omega (arith, c.loop-self.invariant.used, c.if-used-piece.false, length-drop c.loop-self.used piece, length-take (length piece - c.loop-self.used) (drop c.loop-self.used piece)) in
    let some = c.in-Ok.ensures.room rest left in
    omega (arith, some, c.offer-used.ensures.count, c.loop-self.invariant.used, c.if-used-piece.false)

pub loop-self-preserved : goal.loop-self-preserved
loop-self-preserved g c =
    let old = c.args.self.now in
    let at = c.loop-self.self in
    let found = c.take_all_found.new.self in
    let new = c.offer-used.new.self in
    let piece = c.args.piece.now in
    let rest = take (length piece - c.loop-self.used) (drop c.loop-self.used piece) in
    let most = accepted_most (node_of found) rest in
    let h = g.S.Spool.holdings old.spool in
    let used = take c.loop-self.used piece in
    let more = take c.offer-used.result rest in
    let first = beside (node_of old) (g.S.Spool.kept old.spool) (g.S.Spool.faults old.spool) in
    let start = beside (node_of at) (g.S.Spool.kept at.spool) (g.S.Spool.faults at.spool) in
    let middle = beside (node_of found) (g.S.Spool.kept found.spool) (g.S.Spool.faults found.spool) in
    let last = beside (node_of new) (g.S.Spool.kept new.spool) (g.S.Spool.faults new.spool) in
    let front_more : used ++ more ≡ take (c.loop-self.used + c.offer-used.result) piece =
    ap (λ bytes. used ++ take c.offer-used.result bytes) (take_rest piece c.loop-self.used) ∙ sym (take-add c.loop-self.used c.offer-used.result piece) in
    let taken = takes_further (g.S.Spool.holdings old.spool) (g.S.Spool.holdings at.spool) (g.S.Spool.kept old.spool) (g.S.Spool.kept at.spool) (g.S.Spool.kept found.spool)
    faults_max (g.S.Spool.faults old.spool) (g.S.Spool.faults at.spool) (g.S.Spool.faults found.spool) (take c.loop-self.used piece) (node_of old) (node_of at) (node_of found)
    c.loop-self.invariant.holdings c.loop-self.invariant.count c.take_all_found.ensures.count c.loop-self.invariant.goes_on c.take_all_found.ensures.goes_on in
    let offered = offers_more (g.S.Spool.holdings old.spool) (g.S.Spool.kept old.spool) (g.S.Spool.kept found.spool)
    (HasFailed faults_max (g.S.Spool.faults old.spool) (g.S.Spool.faults found.spool)) piece c.loop-self.used c.offer-used.result (node_of old) (node_of found) (node_of new)
    taken c.offer-used.ensures.bytes in
    record {
      same = refl;
      made = subst (λ bytes. IsMadeOfCalls h faults_max bytes first last) front_more
          (made_of_both h faults_max used more first middle last
          (subst (λ bytes. IsMadeOfCalls h faults_max bytes first middle) (append-nil used)
          (made_of_both h faults_max used [] first start middle c.loop-self.invariant.made
          (subst (λ held. IsMadeOfCalls held faults_max [] start middle) c.loop-self.invariant.holdings c.take_all_found.ensures.made)))
          (offered_made h faults_max more middle last c.offer-used.ensures.bytes
          (record { kept = ap (g.S.Spool.kept) c.offer-used.ensures.spool; faults = ap (g.S.Spool.faults) c.offer-used.ensures.spool })));
      used = omega (arith, most, c.offer-used.ensures.count, c.loop-self.invariant.used, length-drop c.loop-self.used piece, length-take (length piece - c.loop-self.used) (drop c.loop-self.used piece));
      goes_on = subst (λ s. GoesOn (g.S.Spool.holdings old.spool) (g.S.Spool.kept old.spool) (g.S.Spool.kept s)
          (HasFailed faults_max (g.S.Spool.faults old.spool) (g.S.Spool.faults s)) (take (c.loop-self.used + c.offer-used.result) piece) (node_of old) (node_of new))
          (sym c.offer-used.ensures.spool) offered;
      says = λ says. subst (λ (n : NodeState). SaysWhatItCan n.engine) (sym c.offer-used.ensures.bytes)
          (offered_says _ (node_of found) (c.take_all_found.ensures.says (c.loop-self.invariant.says says)));
      holdings = ap (g.S.Spool.holdings) c.offer-used.ensures.spool ∙ c.take_all_found.ensures.holdings ∙ c.loop-self.invariant.holdings;
      count = subst (λ s. g.S.Spool.faults old.spool ≤ g.S.Spool.faults s) (sym c.offer-used.ensures.spool) (omega (arith, c.loop-self.invariant.count, c.take_all_found.ensures.count));
    }
