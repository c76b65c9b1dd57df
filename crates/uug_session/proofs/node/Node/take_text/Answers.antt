use Rattle.std.proofs.Common.{drop, refl, ◌∙◌}
use Rattle.uug_session.specs.Engine.{CountsFaults, faults_max}
use Rattle.uug_session.specs.Node.{NodeState, node_of, text_item}
use Rattle.uug_session.proofs.NodeLemmas.{all_pushed, reading_is, takes_text, texts_held_is}
use Rattle.uug_session.proofs.node.Node.take_text.Goals as goal

pub returns-clause-ok : goal.returns-clause-ok
returns-clause-ok g c =
    let n = c.args.self.now in
    let before = node_of n in
    let text = c.in-Some.text.now in
    let after : NodeState = record { engine = c.on_text.new.self; texts = c.drop_found.new.self; packets = c.push.new.self } in
    let counts = CountsFaults faults_max (g.S.Spool.faults n.spool) (g.S.Spool.faults n.spool) in
    let t =
    takes_text (g.S.Spool.holdings n.spool) (g.S.Spool.kept n.spool) counts c.args.greeting text before after
    c.requires.hailing c.in-Some.ensures.shows c.in_ok-on_text.ensures.ok (
      texts_held_is c.drop_found.new.self (drop n.texts.shown_size n.texts.bytes) 0 c.drop_found.ensures.bytes c.drop_found.ensures.shown,
      reading_is c.push.new.self (drop n.texts.shown_size n.texts.bytes) 0
          (all_pushed c.clear.new.self.bytes c.push.new.self.bytes c.bytes-rest.result.now c.push.result c.clear.ensures.bytes c.push.ensures.count
          c.push.ensures.bytes c.bytes-rest.ensures.most ∙ c.bytes-rest.ensures.bytes ∙ c.drop_found.ensures.bytes)
          (c.push.ensures.shown ∙ c.clear.ensures.shown),
    ) refl in
    (text_item text, t.0, t.1)
