use Rattle.std.proofs.Common.{sym, ◌∙◌}
use Rattle.uug_packet.specs.Packet.{shown}
use Rattle.uug_packet.specs.Spelling.{canonical}
use Rattle.uug_line.specs.Shown.{lists_in}
use Rattle.uug_line.proofs.SightingLemmas.{none_behind, none_so_far}
use Rattle.uug_line.proofs.sighting.place_of.Goals as goal

pub loop-i-preserved : goal.loop-i-preserved
loop-i-preserved g c =
    none_so_far (canonical (shown c.args.packet.now)) (lists_in c.args.others.now) c.args.passed c.loop-i.i c.loop-i.invariant
    (λ at. let yes = sym (c.stands_at.ensures.1 at) ∙ c.if-stands_at.false in absurd cc)

pub returns-then-stands_at : goal.returns-then-stands_at
returns-then-stands_at g c = record {
  behind = c.loop-i.auto.i;
  there = c.stands_at.ensures.0 c.if-stands_at.true;
  least = c.loop-i.invariant;
}

pub returns : goal.returns
returns g c = none_behind (canonical (shown c.args.packet.now)) c.args.others.now c.args.passed c.loop-i.i c.loop-i-test.false c.loop-i.invariant
