use Rattle.std.proofs.Common.{◌+◌, ◌%◌, ◌++◌, ◌∷◌, [], List, true, Some, ℕ, ap, sym, subst, ◌∙◌, arith}
use Rattle.uug_link.specs.Entries.{EntryValue}
use Rattle.uug_link.specs.Follows.{Follows, written}
use Rattle.uug_link.specs.Reactions.{state_of}
use Rattle.uug_link.specs.Slots.{messages_in}
use Rattle.uug_link.specs.State.{State, Fits, HasRoom}
use Rattle.uug_link.specs.Step.{data_packet, nothing, step, to_send}
use Rattle.uug_packet.specs.Number.{number_of}
use Rattle.uug_packet.specs.Packet.{PacketValue}
use Rattle.uug_link.proofs.LinkLemmas.{IsSent, sent-follows, sent-linked, sent-messages, sent-packet}
use Rattle.uug_link.proofs.SmallestLemmas.{within_most}
use Rattle.uug_link.proofs.link.Link.send.Goals as goal

pub send_first-requires-clause-fits : goal.send_first-requires-clause-fits
send_first-requires-clause-fits g c =
    let own = c.self.inside in
    within_most (number_of own.status.size_code) _ own.status.size_code.below
    (subst (λ (s : State). Fits s.size_code c.args.message.now) (sym c.self.view_is) c.requires.fits)

pub invariant_of-self : goal.invariant_of-self
invariant_of-self g c =
    let own = c.self.inside in
    sent-linked own.status (number_of c.plus-number.result) c.args.message.now own.slots
    c.send_first.new.slots (record {
      linked = c.self.invariant;
      room = subst HasRoom (sym c.self.view_is) c.requires.room;
      fits = subst (λ (s : State). Fits s.size_code c.args.message.now) (sym c.self.view_is) c.requires.fits;
      number_is = c.plus-number.ensures ∙ ap (λ (n : ℕ). (number_of own.status.oldest + n) % 8) c.len.ensures.count;
      after_is = c.send_first.ensures.slots;
    })

pub returns : goal.returns
returns g c =
    let own = c.self.inside in
    let message = c.args.message.now in
    let after = c.send_first.new.slots in
    let sent : IsSent own.status (number_of c.plus-number.result) message own.slots after = record {
      linked = c.self.invariant;
      room = subst HasRoom (sym c.self.view_is) c.requires.room;
      fits = subst (λ (s : State). Fits s.size_code message) (sym c.self.view_is) c.requires.fits;
      number_is = c.plus-number.ensures ∙ ap (λ (n : ℕ). (number_of own.status.oldest + n) % 8) c.len.ensures.count;
      after_is = c.send_first.ensures.slots;
    } in
    let packet = sent-packet own.status (number_of c.plus-number.result) message own.slots after sent in
    subst (λ (s : State). Follows (step s (to_send message)) s (state_of own.status (messages_in after)) c.args.out.now
    c.send_first.new.out (Some nothing)) c.self.view_is
    (sent-follows _ _ message c.args.out.now c.send_first.new.out (record {
      up = sent.room.0;
      state = ap (state_of own.status) (sent-messages own.status _ message own.slots after sent);
      emitted = c.send_first.ensures.emitted
          ∙ ap (λ (es : List EntryValue). es ++ written (record {
            packet = data_packet (state_of own.status []) (number_of c.plus-number.result) message;
            first = true;
          }) ∷ [])
          c.reserve.ensures.entries
          ∙ ap (λ (p : PacketValue). c.args.out.now.entries ++ written (record { packet = p; first = true }) ∷ []) packet;
      spare = omega (arith, c.send_first.ensures.spare, c.reserve.ensures.spare);
    }))
