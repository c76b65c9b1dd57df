use Rattle.std.proofs.Common.{◌≡◌, sym, ap, subst, ◌∙◌, take, Some, arith}
use Rattle.uug_talk.specs.Texts.{Heard, Whole, Holds, hear, is_whole, waiting_of}
use Rattle.uug_session.proofs.TextsHeldLemmas.{nothing_heard, FoundWhole, found_whole, FoundWaiting, found_waiting}
use Rattle.uug_session.proofs.texts.search_in.Goals as goal

waits : (c : goal.After-waiting) → FoundWaiting c.args.bytes.now c.in_ok-used.used (waiting_of c.push.new.self)
waits c =
    let none : is_whole c.push.new.self ≡ _ = sym c.in_ok-used.ensures.whole ∙ c.if-not-is_whole.true in
    found_waiting c.args.bytes.now c.push.new.self c.in_ok-used.used none (c.in_ok-used.ensures.used.1 c.if-not-is_whole.true)
    (c.in_ok-used.ensures.ok _ (nothing_heard c.new-hail.result c.new-hail.ensures))

pub overflow_sub-result : goal.overflow_sub-result
overflow_sub-result c = omega (arith, (waits c).within, c.waiting.ensures)

pub returns-then-not-is_whole-clause-room : goal.returns-then-not-is_whole-clause-room
returns-then-not-is_whole-clause-room c = λ _. omega (arith, (waits c).short, c.waiting.ensures)

whole : (c : goal.After-text-len) → FoundWhole c.args.bytes.now c.text-len.result.now c.in_ok-used.used
whole c =
    let heard = c.in_ok-used.ensures.exact
    ∙ ap (λ (h : Heard). Some (c.in_ok-used.used, h)) c.text-len.ensures in
    found_whole c.args.bytes.now c.text-len.result.now c.in_ok-used.used c.in_ok-used.ensures.used.0
    (subst (λ (h : Heard). hear h c.args.bytes.now ≡ Some (c.in_ok-used.used, Whole c.text-len.result.now)) c.new-hail.ensures heard)
    (subst (λ (h : Heard). Holds h (take c.in_ok-used.used c.args.bytes.now)) c.text-len.ensures
    (c.in_ok-used.ensures.ok _ (nothing_heard c.new-hail.result c.new-hail.ensures)))

pub overflow_sub-result-2 : goal.overflow_sub-result-2
overflow_sub-result-2 c = (whole c).size

pub returns-clause-exact : goal.returns-clause-exact
returns-clause-exact c = (whole c).exact

pub returns-clause-shows : goal.returns-clause-shows
returns-clause-shows c = (whole c).shows
