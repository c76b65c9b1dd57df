use Rattle.std.proofs.Common.{ap, refl, subst, sym, ◌<◌, ◌≤◌, ◌∙◌, [], length}
use Rattle.uug_session.specs.Engine.{CountsFaults, HasFailed, faults_max}
use Rattle.uug_session.specs.Sending.{SaysWhatItCan}
use Rattle.uug_session.specs.Node.{IsAsBefore, NodeState, TakesShown, held_bytes, node_of}
use Rattle.uug_session.specs.NodeArriving.{GoesOn}
use Rattle.uug_session.proofs.NodeItemLemmas.{none_shown, refuses_next, rests_behind, searches_to, takes_next}
use Rattle.uug_session.specs.NodeCalls.{beside}
use Rattle.uug_session.proofs.MadeLemmas.{looked_made, made_of_both, refused_made, took_made}
use Rattle.uug_session.proofs.Greetings.SaysLemmas.{refused_says, searched_says}
use Rattle.uug_session.proofs.node.Node.take_next.Goals as goal

pub returns-then-is_none-clause-goes_on : goal.returns-then-is_none-clause-goes_on
returns-then-is_none-clause-goes_on g c =
    let old = c.args.self.now in
    searches_to (g.S.Spool.holdings old.spool) (g.S.Spool.kept old.spool) (g.S.Spool.kept c.search.new.self.spool) _
    (node_of old) (node_of c.search.new.self) c.search.ensures.found (ap (g.S.Spool.kept) c.search.ensures.spool)

pub returns-then-is_none-clause-rest : goal.returns-then-is_none-clause-rest
returns-then-is_none-clause-rest g c =
    let old = c.args.self.now in
    λ is. rests_behind (g.S.Spool.holdings old.spool) (node_of old) (node_of c.search.new.self) c.search.ensures.found
    (none_shown c.showing.result _ _ c.if-is_none.ensures c.showing.ensures)

pub returns-in_err-take_found-clause-goes_on : goal.returns-in_err-take_found-clause-goes_on
returns-in_err-take_found-clause-goes_on g c =
    let old = c.args.self.now in
    let found = c.search.new.self in
    let new = c.take_found.new.self in
    refuses_next (g.S.Spool.holdings old.spool) (g.S.Spool.kept old.spool) (g.S.Spool.kept new.spool) _
    (node_of old) (node_of found) (node_of new) c.search.ensures.found
    (subst (λ s. IsAsBefore (g.S.Spool.holdings s) (g.S.Spool.kept s) (g.S.Spool.kept new.spool) (node_of found) (node_of new))
    c.search.ensures.spool c.in_err-take_found.ensures.err)

pub returns-in_err-take_found-clause-says : goal.returns-in_err-take_found-clause-says
returns-in_err-take_found-clause-says g c says =
    let old = c.args.self.now in
    let found = c.search.new.self in
    let new = c.take_found.new.self in
    refused_says (g.S.Spool.holdings found.spool) (g.S.Spool.kept found.spool) (g.S.Spool.kept new.spool) (node_of found) (node_of new)
    c.in_err-take_found.ensures.err
    (subst (λ (n : NodeState). SaysWhatItCan n.engine) (sym c.search.ensures.found) (searched_says (node_of old) says))

takes : (g : _) (c : goal.In_ok-take_found g)
    → GoesOn (g.S.Spool.holdings c.args.self.now.spool) (g.S.Spool.kept c.args.self.now.spool) (g.S.Spool.kept c.take_found.new.self.spool)
    (HasFailed faults_max (g.S.Spool.faults c.args.self.now.spool) (g.S.Spool.faults c.take_found.new.self.spool))
    [] (node_of c.args.self.now) (node_of c.take_found.new.self)
    × (length (held_bytes (node_of c.take_found.new.self)) < length (held_bytes (node_of c.args.self.now)))
takes g c =
    let old = c.args.self.now in
    let found = c.search.new.self in
    let new = c.take_found.new.self in
    takes_next (g.S.Spool.holdings old.spool) (g.S.Spool.kept old.spool) (g.S.Spool.kept new.spool)
    (CountsFaults faults_max (g.S.Spool.faults old.spool) (g.S.Spool.faults new.spool))
    (HasFailed faults_max (g.S.Spool.faults old.spool) (g.S.Spool.faults new.spool)) (λ failed. failed)
    (node_of old) (node_of found) (node_of new) c.in_ok-take_found.field-0 c.search.ensures.found
    (subst (λ s. TakesShown (g.S.Spool.holdings s) (g.S.Spool.kept s) (g.S.Spool.kept new.spool)
    (CountsFaults faults_max (g.S.Spool.faults s) (g.S.Spool.faults new.spool)) (node_of found) (node_of new) c.in_ok-take_found.field-0)
    c.search.ensures.spool c.in_ok-take_found.ensures.taken)

pub returns-clause-goes_on : goal.returns-clause-goes_on
returns-clause-goes_on g c = (takes g c).0

pub returns-clause-fewer : goal.returns-clause-fewer
returns-clause-fewer g c = λ is. (takes g c).1

pub returns-then-is_none-clause-made : goal.returns-then-is_none-clause-made
returns-then-is_none-clause-made g c =
    let old = c.args.self.now in
    let found = c.search.new.self in
    looked_made (g.S.Spool.holdings old.spool) faults_max
    (beside (node_of old) (g.S.Spool.kept old.spool) (g.S.Spool.faults old.spool))
    (beside (node_of found) (g.S.Spool.kept found.spool) (g.S.Spool.faults found.spool))
    c.search.ensures.found
    (record { kept = ap (g.S.Spool.kept) c.search.ensures.spool; faults = ap (g.S.Spool.faults) c.search.ensures.spool })

pub returns-in_err-take_found-clause-made : goal.returns-in_err-take_found-clause-made
returns-in_err-take_found-clause-made g c =
    let old = c.args.self.now in
    let found = c.search.new.self in
    let new = c.take_found.new.self in
    let h = g.S.Spool.holdings old.spool in
    let first = beside (node_of old) (g.S.Spool.kept old.spool) (g.S.Spool.faults old.spool) in
    let middle = beside (node_of found) (g.S.Spool.kept old.spool) (g.S.Spool.faults old.spool) in
    let last = beside (node_of new) (g.S.Spool.kept new.spool) (g.S.Spool.faults new.spool) in
    made_of_both h faults_max [] [] first middle last
    (looked_made h faults_max first middle c.search.ensures.found (record { kept = refl; faults = refl }))
    (refused_made h faults_max middle last
    (c.in_err-take_found.ensures.faults ∙ ap (g.S.Spool.faults) c.search.ensures.spool)
    (subst (λ s. IsAsBefore (g.S.Spool.holdings s) (g.S.Spool.kept s) (g.S.Spool.kept new.spool) (node_of found) (node_of new))
    c.search.ensures.spool c.in_err-take_found.ensures.err))

pub returns-clause-made : goal.returns-clause-made
returns-clause-made g c =
    let old = c.args.self.now in
    let found = c.search.new.self in
    let new = c.take_found.new.self in
    let h = g.S.Spool.holdings old.spool in
    let first = beside (node_of old) (g.S.Spool.kept old.spool) (g.S.Spool.faults old.spool) in
    let middle = beside (node_of found) (g.S.Spool.kept old.spool) (g.S.Spool.faults old.spool) in
    let last = beside (node_of new) (g.S.Spool.kept new.spool) (g.S.Spool.faults new.spool) in
    made_of_both h faults_max [] [] first middle last
    (looked_made h faults_max first middle c.search.ensures.found (record { kept = refl; faults = refl }))
    (took_made h faults_max c.in_ok-take_found.field-0 middle last
    (subst (λ s. g.S.Spool.faults s ≤ g.S.Spool.faults new.spool) c.search.ensures.spool c.take_found.ensures.count)
    (subst (λ s. TakesShown (g.S.Spool.holdings s) (g.S.Spool.kept s) (g.S.Spool.kept new.spool)
    (CountsFaults faults_max (g.S.Spool.faults s) (g.S.Spool.faults new.spool)) (node_of found) (node_of new) c.in_ok-take_found.field-0)
    c.search.ensures.spool c.in_ok-take_found.ensures.taken))
