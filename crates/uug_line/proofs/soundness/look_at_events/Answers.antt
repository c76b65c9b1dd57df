use Rattle.std.proofs.Common.{ℕ, ◌<◌, ◌+◌, List, take, length, get_or, All, sym, subst, ◌∙◌, ap, add-one}
use Rattle.std.proofs.lemmas.List.{take_all}
use Rattle.std.proofs.lemmas.List.Elements.{All-push}
use Rattle.std.proofs.Math.Seq.{take-suc}
use Rattle.uug_line.specs.declared.event.Event.{Event}
use Rattle.uug_line.specs.OfBytes.{IsOfBytes}
use Rattle.uug_line.proofs.soundness.look_at_events.Goals as goal

one_more : (events : List Event) (i : ℕ) (d : Event) → i < length events → All IsOfBytes (take i events) → IsOfBytes (get_or events i d)
    → All IsOfBytes (take (i + 1) events)
one_more events i d within before here =
    subst (All IsOfBytes) (sym (take-suc events i d within) ∙ ap (λ n. take n events) (sym (add-one i)))
    (All-push IsOfBytes (take i events) (get_or events i d) before here)

pub loop-event-preserved : goal.loop-event-preserved
loop-event-preserved c =
    one_more c.args.events.now c.loop-event.event-index _ c.loop-event-test.true c.loop-event.invariant c.look_at_event.ensures

pub returns : goal.returns
returns c = subst (All IsOfBytes) (take_all c.loop-event.event-index c.args.events.now c.loop-event-test.false) c.loop-event.invariant
