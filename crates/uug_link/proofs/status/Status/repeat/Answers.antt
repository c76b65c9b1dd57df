use Rattle.std.proofs.Common.{◌++◌, ◌∷◌, [], List, ℕ, ap, false, ◌∙◌, arith}
use Rattle.uug_link.specs.Entries.{packet}
use Rattle.uug_packet.specs.Number.{number_of}
use Rattle.uug_link.proofs.RepeatLemmas.{again, again-bytes, again-length, again-messages, again-packet, again-slots, slot_at}
use Rattle.uug_link.proofs.status.Status.repeat.Goals as goal

pub re_ack-requires-clause-written : goal.re_ack-requires-clause-written
re_ack-requires-clause-written g c =
    let slot = slot_at (number_of c.args.self.oldest) c.args.slots.now c.args.i
    c.args.self.oldest.below c.requires.slots c.requires.within in
    record {
      seq = _;
      ack = slot.ack;
      k = _;
      message = _;
      well_formed = slot.well_formed;
      is = slot.is;
    }

pub packet-requires : goal.packet-requires
packet-requires g c =
    let s = c.args.self in
    let h = again (number_of s.oldest) (number_of s.received) c.args.i c.args.slots.now c.re_ack.new.self
    s.oldest.below s.received.below c.requires.slots c.requires.within c.re_ack.ensures in
    omega (arith, c.requires.within, again-length _ _ c.args.i _ _ h)

pub returns-clause-slots : goal.returns-clause-slots
returns-clause-slots g c =
    let s = c.args.self in
    let h = again (number_of s.oldest) (number_of s.received) c.args.i c.args.slots.now c.re_ack.new.self
    s.oldest.below s.received.below c.requires.slots c.requires.within c.re_ack.ensures in
    again-slots _ _ c.args.i _ _ s.oldest.below c.requires.slots h

pub returns-clause-messages : goal.returns-clause-messages
returns-clause-messages g c =
    let s = c.args.self in
    let h = again (number_of s.oldest) (number_of s.received) c.args.i c.args.slots.now c.re_ack.new.self
    s.oldest.below s.received.below c.requires.slots c.requires.within c.re_ack.ensures in
    again-messages _ _ c.args.i _ _ h

pub returns-clause-emitted : goal.returns-clause-emitted
returns-clause-emitted g c =
    let s = c.args.self in
    let h = again (number_of s.oldest) (number_of s.received) c.args.i c.args.slots.now c.re_ack.new.self
    s.oldest.below s.received.below c.requires.slots c.requires.within c.re_ack.ensures in
    let bytes = again-bytes _ _ c.args.i _ _ c.packet.result.now c.requires.within h c.packet.ensures.value
    ∙ again-packet s c.args.i c.args.slots.now c.requires.within in
    c.add_within.ensures.entries ∙ ap (λ (w : List ℕ). c.args.out.now.entries ++ packet w false ∷ []) bytes
