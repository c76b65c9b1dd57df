use Rattle.std.proofs.Common.{◌+◌, ◌*◌, ap, ◌∙◌, slice_index}
use Rattle.uug_packet.specs.Field.{field_size, canonical_field, canonical_kind}
use Rattle.uug_packet.specs.Number.{number_of}
use Rattle.uug_packet.proofs.AcknowledgeLemmas.{acknowledging}
use Rattle.uug_packet.proofs.encoding.re_ack.Goals as goal

pub returns : goal.returns
returns c = λ seq old k message well_formed is.
    let same = c.as_slice.ensures.value in
    c.set_header.ensures
    ∙ acknowledging (canonical_kind (field_size k) message) seq old (number_of c.args.ack) k
    (canonical_field (field_size k) message) c.args.written.now.items c.at-header.result c.acknowledging.result
    well_formed.0 well_formed.1 is (record {
      code_at = c.at-header.ensures.code ∙ ap (λ w. slice_index w 1) same;
      checksum_at = c.at-header.ensures.checksum ∙ ap (λ w. slice_index w 2 + 256 * slice_index w 3) same;
      control_at = c.at-header.ensures.control ∙ ap (λ w. slice_index w 4) same;
      code = c.acknowledging.ensures.code;
      control = c.acknowledging.ensures.control;
      checksum = c.acknowledging.ensures.checksum;
    })
