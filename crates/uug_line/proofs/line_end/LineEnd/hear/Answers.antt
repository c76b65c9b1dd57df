use Rattle.std.proofs.Common.{◌-◌, Bool, length, take, drop, refl, ap, subst, arith, ◌∙◌}
use Rattle.std.proofs.lemmas.Bool.Decides.{nat_tests}
use Rattle.std.proofs.lemmas.List.{take_rest}
use Rattle.uug_conversation.specs.MemoryHoldings.{held_by}
use Rattle.uug_session.specs.Node.{accepted, node_of, offered}
use Rattle.uug_session.specs.declared.node.Node.{Node}
use Rattle.uug_line.specs.JournalValue.{journal_value}
use Rattle.uug_line.specs.LineEndValue.{LineEndValue, TakesItems, live_end_value}
use Rattle.uug_line.specs.Shown.{lists_in}
use Rattle.uug_line.proofs.PieceLemmas.{all_parted, hears_all, hears_some, part_is, part_within, parted, still_hears}
use Rattle.uug_line.proofs.line_end.LineEnd.hear.Goals as goal

pub returns-then-not-branch : goal.returns-then-not-branch
returns-then-not-branch g c =
    let others = lists_in c.args.others.now in
    let now = c.loop-self.self in
    let node = c.offer-count.new.self in
    let count = c.offer-count.result in
    let rest = c.loop-self.rest.now in
    let behind = take (length rest - count) (drop count rest) in
    let mid : LineEndValue = record { node = node_of node; spool = held_by node.spool; journal = journal_value now.journal; line = now.line } in
    let new = live_end_value c.take_all.new.self in
    let last = c.offer.new.self in
    let filled : LineEndValue = record { node = node_of last; spool = held_by last.spool; journal = new.journal; line = new.line } in
    let part = part_is (live_end_value now) mid (take count rest) (c.offer-count.ensures.bytes ∙ ap (λ (n : Node _ _). offered (take count rest) (node_of n)) c.deref_mut.ensures.value)
    (ap held_by (c.offer-count.ensures.spool ∙ ap (λ (n : Node _ _). n.spool) c.deref_mut.ensures.value)) refl refl in
    hears_some others c.args.piece.now rest (take count rest) behind c.offer.result
    (live_end_value c.args.self.now) (live_end_value now) mid new filled
    (parted count rest behind (take_rest rest count)) part c.loop-self.invariant
    (part_within (live_end_value now) mid count rest c.loop-self.invariant.room
    (c.offer-count.ensures.count ∙ ap (λ (n : Node _ _). accepted (node_of n) rest) c.deref_mut.ensures.value) part)
    (subst (λ (b : Bool). TakesItems b others mid new) c.if-not-branch.true c.in_ok-take_all.ensures)
    (c.offer.ensures.count ∙ ap (λ (n : Node _ _). accepted (node_of n) behind) c.deref_mut-then-not-branch.ensures.value)
    (part_is new filled (take c.offer.result behind) (c.offer.ensures.bytes ∙ ap (λ (n : Node _ _). offered (take c.offer.result behind) (node_of n)) c.deref_mut-then-not-branch.ensures.value)
    (ap held_by (c.offer.ensures.spool ∙ ap (λ (n : Node _ _). n.spool) c.deref_mut-then-not-branch.ensures.value)) refl refl)

pub returns-then-is_empty : goal.returns-then-is_empty
returns-then-is_empty g c =
    let others = lists_in c.args.others.now in
    let now = c.loop-self.self in
    let node = c.offer-count.new.self in
    let count = c.offer-count.result in
    let rest = c.loop-self.rest.now in
    let mid : LineEndValue = record { node = node_of node; spool = held_by node.spool; journal = journal_value now.journal; line = now.line } in
    let new = live_end_value c.take_all.new.self in
    hears_all others c.args.piece.now rest (take count rest) (live_end_value c.args.self.now) (live_end_value now) mid new
    (all_parted count rest (take (length rest - count) (drop count rest)) (take_rest rest count) (grind (arith, nat_tests, c.if-is_empty.ensures)))
    (part_is (live_end_value now) mid (take count rest) (c.offer-count.ensures.bytes ∙ ap (λ (n : Node _ _). offered (take count rest) (node_of n)) c.deref_mut.ensures.value)
    (ap held_by (c.offer-count.ensures.spool ∙ ap (λ (n : Node _ _). n.spool) c.deref_mut.ensures.value)) refl refl)
    c.loop-self.invariant
    (subst (λ (b : Bool). TakesItems b others mid new) c.if-not-branch.false c.in_ok-take_all.ensures)

pub loop-self-preserved : goal.loop-self-preserved
loop-self-preserved g c =
    let others = lists_in c.args.others.now in
    let now = c.loop-self.self in
    let node = c.offer-count.new.self in
    let count = c.offer-count.result in
    let rest = c.loop-self.rest.now in
    let mid : LineEndValue = record { node = node_of node; spool = held_by node.spool; journal = journal_value now.journal; line = now.line } in
    let new = live_end_value c.take_all.new.self in
    still_hears others c.args.piece.now rest (take count rest) (take (length rest - count) (drop count rest))
    (live_end_value c.args.self.now) (live_end_value now) mid new (parted count rest (take (length rest - count) (drop count rest)) (take_rest rest count))
    (part_is (live_end_value now) mid (take count rest) (c.offer-count.ensures.bytes ∙ ap (λ (n : Node _ _). offered (take count rest) (node_of n)) c.deref_mut.ensures.value)
    (ap held_by (c.offer-count.ensures.spool ∙ ap (λ (n : Node _ _). n.spool) c.deref_mut.ensures.value)) refl refl)
    c.loop-self.invariant
    (subst (λ (b : Bool). TakesItems b others mid new) c.if-not-branch.false c.in_ok-take_all.ensures)
