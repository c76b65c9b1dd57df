use Rattle.std.proofs.lemmas.Bool.{lt-ltb}
use Rattle.uug_packet.specs.declared.header.TheConstants.{HEADER_SIZE}
use Rattle.std.proofs.Common.{length}
use Rattle.uug_transfer.proofs.ThinningLemmas.{data_remains, is_let_through, rr_covered, sent_behind, text_remains}
use Rattle.uug_transfer.proofs.laws.what_is_left_out_need_not_go.Goals as goal

pub returns-clause-lost : goal.returns-clause-lost
returns-clause-lost c = is_let_through

pub returns-clause-packet_remains : goal.returns-clause-packet_remains
returns-clause-packet_remains c thinning entries bytes long stands =
    data_remains thinning bytes entries (lt-ltb HEADER_SIZE (length bytes) long) stands

pub returns-clause-packet_is_behind : goal.returns-clause-packet_is_behind
returns-clause-packet_is_behind c thinning bytes entry behind long =
    sent_behind thinning bytes entry behind (lt-ltb HEADER_SIZE (length bytes) long)

pub returns-clause-text_remains : goal.returns-clause-text_remains
returns-clause-text_remains c = text_remains

pub returns-clause-rr_is_covered : goal.returns-clause-rr_is_covered
returns-clause-rr_is_covered c = rr_covered
