use Rattle.std.proofs.Common.{subst}
use Rattle.std.proofs.lemmas.List.{take_rest}
use Rattle.uug_packet.specs.Waits.{Waits}
use Rattle.uug_reader.proofs.SearchLemmas.{begins_packet, first_broken, first_packet, Passed, passes_byte}
use Rattle.uug_reader.proofs.search.search_in.Goals as goal

pub loop-part-preserved : goal.loop-part-preserved
loop-part-preserved c =
    let passed : Passed c.args.bytes.now _ =
    passes_byte c.in-Some.part c.args.bytes.now c.loop-part.passed c.in-Noise.is c.in-Some.ensures c.loop-part.invariant.within c.loop-part.invariant.passes in
    record { within = passed.within; passes = passed.passes }

pub place_of-requires-clause-within : goal.place_of-requires-clause-within
place_of-requires-clause-within c =
    (begins_packet c.in-Some.part c.in-Packet.packet c.in-Packet.size _ c.in-Packet.is c.in-Some.ensures).1

pub place_of-requires-clause-spelled : goal.place_of-requires-clause-spelled
place_of-requires-clause-spelled c =
    (begins_packet c.in-Some.part c.in-Packet.packet c.in-Packet.size _ c.in-Packet.is c.in-Some.ensures).2

pub returns-in-Packet-clause-stands : goal.returns-in-Packet-clause-stands
returns-in-Packet-clause-stands c =
    first_packet c.in-Some.part c.in-Packet.packet c.in-Packet.size c.place_of.result c.args.bytes.now c.loop-part.passed
    c.in-Packet.is c.in-Some.ensures c.place_of.ensures.item c.place_of.ensures.lies

pub returns-in-Bad-clause-stands : goal.returns-in-Bad-clause-stands
returns-in-Bad-clause-stands c =
    first_broken c.in-Some.part c.args.bytes.now c.loop-part.passed c.in-Bad.is c.in-Some.ensures

pub returns-clause-stands : goal.returns-clause-stands
returns-clause-stands c = subst Waits (take_rest c.args.bytes.now c.loop-part.passed) c.in_default.ensures
