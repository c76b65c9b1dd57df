use Rattle.std.proofs.Common.{◌≡◌, List, ℕ, MatchOption, Option, None, Some, subst}
use Rattle.uug_packet.proofs.WrittenLemmas.{message_in-spelled}
use Rattle.uug_packet.proofs.written.message_in.Goals as goal

pub returns-clause-spelled : goal.returns-clause-spelled
returns-clause-spelled c = λ p is.
    subst (λ (o : Option (List ℕ)). MatchOption c.read_message.result (o ≡ None) (λ message. o ≡ Some message.now))
    (message_in-spelled p c.args.packet.now is) c.read_message.ensures
