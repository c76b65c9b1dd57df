use Rattle.std.proofs.Common.{◌<◌, ◌∙◌, length, IsTrue, sym, subst}
use Rattle.std.specs.List.{list_any}
use Rattle.uug_talk.specs.Gathering.{is_zero}
use Rattle.uug_talk.proofs.GatherLemmas.{zero_within, text_len-part}
use Rattle.uug_talk.proofs.gather.text_len.Goals as goal

pub returns-clause-zero : goal.returns-clause-zero
returns-clause-zero c =
    let message = c.args.message.now in
    subst (λ n. (n < length message → IsTrue (list_any is_zero message)) × (IsTrue (list_any is_zero message) → n < length message)) (sym c.zero_place.ensures.value) (zero_within message)

pub returns-clause-part : goal.returns-clause-part
returns-clause-part c = text_len-part c.args.message.now ∙ sym c.zero_place.ensures.value
