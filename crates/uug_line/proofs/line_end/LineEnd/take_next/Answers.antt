use Rattle.std.proofs.Common.{refl, ap, ◌∙◌}
use Rattle.uug_conversation.specs.MemoryHoldings.{held_by}
use Rattle.uug_session.specs.Node.{node_of, searched}
use Rattle.uug_session.specs.declared.node.Node.{Node}
use Rattle.uug_line.specs.JournalValue.{journal_value}
use Rattle.uug_line.specs.LineEndValue.{LineEndValue, live_end_value}
use Rattle.uug_line.specs.Shown.{lists_in}
use Rattle.uug_line.proofs.ItemLemmas.{sees_nothing, sees_other, sees_packet, sees_unsent, sought_is}
use Rattle.uug_line.proofs.line_end.LineEnd.take_next.Goals as goal

pub returns-in-Nothing : goal.returns-in-Nothing
returns-in-Nothing g c =
    let e = c.args.self.now in
    let node = c.sight.new.node in
    let mid : LineEndValue = record { node = node_of node; spool = held_by node.spool; journal = journal_value e.journal; line = e.line } in
    sees_nothing (lists_in c.args.others.now) (live_end_value e) mid c.requires.ordered
    (sought_is (live_end_value e) mid (c.sight.ensures.found ∙ ap (λ (n : Node _ _). searched (node_of n)) c.deref_mut.ensures.value)
    (ap held_by (c.sight.ensures.spool ∙ ap (λ (n : Node _ _). n.spool) c.deref_mut.ensures.value)) refl refl)
    c.in-Nothing.ensures.next c.sight.ensures.room

pub returns-in-Unsent : goal.returns-in-Unsent
returns-in-Unsent g c =
    let e = c.args.self.now in
    let node = c.sight.new.node in
    let mid : LineEndValue = record { node = node_of node; spool = held_by node.spool; journal = journal_value e.journal; line = e.line } in
    sees_unsent (lists_in c.args.others.now) (live_end_value e) mid c.requires.ordered c.requires.written
    (sought_is (live_end_value e) mid (c.sight.ensures.found ∙ ap (λ (n : Node _ _). searched (node_of n)) c.deref_mut.ensures.value)
    (ap held_by (c.sight.ensures.spool ∙ ap (λ (n : Node _ _). n.spool) c.deref_mut.ensures.value)) refl refl)
    c.in-Unsent.ensures.next

pub returns-in_ok-take_other-in-Other : goal.returns-in_ok-take_other-in-Other
returns-in_ok-take_other-in-Other g c =
    let e = c.args.self.now in
    let node = c.sight.new.node in
    let mid : LineEndValue = record { node = node_of node; spool = held_by node.spool; journal = journal_value e.journal; line = e.line } in
    sees_other (lists_in c.args.others.now) (live_end_value e) mid (live_end_value c.take_other.new.self) c.requires.ordered
    (sought_is (live_end_value e) mid (c.sight.ensures.found ∙ ap (λ (n : Node _ _). searched (node_of n)) c.deref_mut.ensures.value)
    (ap held_by (c.sight.ensures.spool ∙ ap (λ (n : Node _ _). n.spool) c.deref_mut.ensures.value)) refl refl)
    c.in-Other.ensures.next c.in_ok-take_other-in-Other.ensures

pub returns-in_ok-take_packet-in-At : goal.returns-in_ok-take_packet-in-At
returns-in_ok-take_packet-in-At g c =
    let e = c.args.self.now in
    let node = c.sight.new.node in
    let mid : LineEndValue = record { node = node_of node; spool = held_by node.spool; journal = journal_value e.journal; line = e.line } in
    sees_packet c.args.others.now c.in-At.place c.index-others-place.result c.as_slice.result.now
    (live_end_value e) mid (live_end_value c.take_packet.new.self) c.requires.ordered c.requires.written
    (sought_is (live_end_value e) mid (c.sight.ensures.found ∙ ap (λ (n : Node _ _). searched (node_of n)) c.deref_mut.ensures.value)
    (ap held_by (c.sight.ensures.spool ∙ ap (λ (n : Node _ _). n.spool) c.deref_mut.ensures.value)) refl refl)
    c.in-At.ensures.next c.index-others-place.is c.as_slice.ensures.value c.in_ok-take_packet-in-At.ensures
