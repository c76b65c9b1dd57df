use Rattle.std.proofs.Common.{drop, refl, sym, ap, ◌∙◌, arith}
use Rattle.std.proofs.lemmas.List.{take_rest}
use Rattle.uug_packet.specs.Decoded.{decoded}
use Rattle.uug_packet.proofs.DecodeLemmas.{Waits-decoded}
use Rattle.uug_reader.proofs.OneCut.{AreBytes-drop}
use Rattle.uug_scan.proofs.ToldLemmas.{AddsParts-none, AddsParts-more, stands}
use Rattle.uug_scan.proofs.parts.add_parts.Goals as goal

pub loop-front-init : goal.loop-front-init
loop-front-init g c = record {
  within = omega arith;
  adds = AddsParts-none c.args.bytes.now c.args.noise.now _;
  holds = c.requires.holds;
  ends = omega arith;
}

pub bounds-bytes-passed : goal.bounds-bytes-passed
bounds-bytes-passed g c =
    let at = stands c.in-Some.front c.args.bytes.now c.loop-front.passed (λ i. omega (arith, c.type_inv.bytes i)) c.in-Some.ensures in
    omega (arith, at.within, at.some)

pub add_front-requires-clause-places : goal.add_front-requires-clause-places
add_front-requires-clause-places g c =
    let at = stands c.in-Some.front c.args.bytes.now c.loop-front.passed (λ i. omega (arith, c.type_inv.bytes i)) c.in-Some.ensures in
    omega (arith, at.within, c.loop-front.invariant.ends, c.requires.places)

pub add_front-requires-clause-sized : goal.add_front-requires-clause-sized
add_front-requires-clause-sized g c =
    (stands c.in-Some.front c.args.bytes.now c.loop-front.passed (λ i. omega (arith, c.type_inv.bytes i)) c.in-Some.ensures).sized

pub overflow_add-passed : goal.overflow_add-passed
overflow_add-passed g c =
    let at = stands c.in-Some.front c.args.bytes.now c.loop-front.passed (λ i. omega (arith, c.type_inv.bytes i)) c.in-Some.ensures in
    omega (arith, at.within, c.in_ok-passed.ensures.size, c.requires.places)

pub loop-front-smaller : goal.loop-front-smaller
loop-front-smaller g c =
    let at = stands c.in-Some.front c.args.bytes.now c.loop-front.passed (λ i. omega (arith, c.type_inv.bytes i)) c.in-Some.ensures in
    omega (arith, at.within, at.some, c.in_ok-passed.ensures.size)

pub loop-front-preserved : goal.loop-front-preserved
loop-front-preserved g c =
    let at = stands c.in-Some.front c.args.bytes.now c.loop-front.passed (λ i. omega (arith, c.type_inv.bytes i)) c.in-Some.ensures in
    let size = c.in_ok-passed.ensures.size in
    let told = c.in_ok-passed.ensures.tells in
    record {
      within = omega (arith, at.within, size);
      adds = AddsParts-more c.in-Some.front c.args.bytes.now c.loop-front.passed c.in_ok-passed.field-0 _ _ _ _ _ _ _ at c.loop-front.invariant.adds size refl told;
      holds = told.holds;
      ends = omega (arith, told.ends, c.loop-front.invariant.ends, size);
    }

pub returns-clause-waits : goal.returns-clause-waits
returns-clause-waits g c =
    let rest = drop c.loop-front.passed c.args.bytes.now in
    Waits-decoded rest (AreBytes-drop c.args.bytes.now c.loop-front.passed (λ i. omega (arith, c.type_inv.bytes i)))
    (ap decoded (sym (take_rest c.args.bytes.now c.loop-front.passed)) ∙ c.in_default.ensures)
