use Rattle.std.proofs.Common.{arith}
use Rattle.uug_packet.proofs.BrokenLemmas.{damage_iff_broken}
use Rattle.uug_packet.proofs.DecodeLemmas.{found_is_spelled, found_is_within, spelled_is_found, short_waits}
use Rattle.uug_packet.proofs.decoding.decode.Goals as goal

pub returns-clause-found : goal.returns-clause-found
returns-clause-found c =
    found_is_spelled _ _ (λ i. omega (arith, c.type_inv.bytes i)) c.read_packet.ensures

pub returns-clause-within : goal.returns-clause-within
returns-clause-within c =
    found_is_within _ _ (λ i. omega (arith, c.type_inv.bytes i)) c.read_packet.ensures

pub returns-clause-only : goal.returns-clause-only
returns-clause-only c = spelled_is_found _ _ c.read_packet.ensures

pub returns-clause-short : goal.returns-clause-short
returns-clause-short c = short_waits _ _ (λ i. omega (arith, c.type_inv.bytes i)) c.read_packet.ensures

pub returns-clause-broken : goal.returns-clause-broken
returns-clause-broken c =
    damage_iff_broken _ _ (λ i. omega (arith, c.type_inv.bytes i)) c.read_packet.ensures
