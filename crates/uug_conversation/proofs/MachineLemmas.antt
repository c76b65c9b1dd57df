-- Replies of the code of one end's machine.
use Rattle.std.proofs.Common.{◌≡◌, [], Option, Some, None, refl, sym, ap, ◌∙◌}
use Rattle.uug_talk.specs.declared.answer.Answer.{Answer}
use Rattle.uug_talk.specs.declared.order.Order.{Order}
use Rattle.uug_talk.specs.declared.order.Order.TheVariants.{HangUp}
use Rattle.std.specs.Option.{unwrap_or}
use Rattle.uug_conversation.specs.declared.reaction.Reaction.{Reaction}
use Rattle.uug_conversation.specs.Choice.{choice}
use Rattle.uug_conversation.specs.Holdings.{Holdings}
use Rattle.uug_conversation.specs.Jobs.{Lists, moved}
use Rattle.uug_conversation.specs.Machine.{commands, goes_on, order_or_hang_up}
use Rattle.uug_conversation.specs.Reactions.{reply_of, said_before, gives_order}
use Rattle.uug_conversation.specs.Told.{told_with}

-- a command, behind an answer where there is one
pub commands_are : (h : Holdings) (l : Lists) (before : Option Answer) (o : Order) →
    commands h l (said_before before) o ≡ reply_of h l (gives_order before o (told_with h o)) []
commands_are h l None o = refl
commands_are h l (Some answer) o = refl

or_hang_up : (o : Option Order) → unwrap_or o HangUp ≡ order_or_hang_up o
or_hang_up None = refl
or_hang_up (Some o) = refl

-- what was chosen is said
pub goes_on_is : (h : Holdings) (l new : Lists) (before : Option Answer) (next : Option Order) (o : Order) (r : Reaction) →
    next ≡ (choice h l.ahead).next → new ≡ moved (choice h l.ahead).failing l → o ≡ unwrap_or next HangUp →
    r ≡ gives_order before o (told_with h o) → goes_on h l (said_before before) ≡ reply_of h new r []
goes_on_is h l new before next o r n m u e =
    let said : order_or_hang_up (choice h l.ahead).next ≡ o = ap order_or_hang_up (sym n) ∙ sym (or_hang_up next) ∙ sym u in
    ap (λ z. commands h z (said_before before) (order_or_hang_up (choice h l.ahead).next)) (sym m)
    ∙ ap (λ z. commands h new (said_before before) z) said
    ∙ commands_are h new before o
    ∙ ap (λ z. reply_of h new z []) (sym e)
