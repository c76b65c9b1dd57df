use Rattle.uug_line.specs.RunKeeper.{by_themselves, by_numbers}
use Rattle.uug_line.proofs.HeardLemmas.{heard_at, scanned_at}
use Rattle.uug_line.proofs.World.RightPacketLemmas.{ends_bytes, world_bytes}
use Rattle.uug_line.proofs.VerdictLemmas.{nothing_left}
use Rattle.uug_line.proofs.world_laws.an_end_finds_what_came.Goals as goal

pub returns-clause-heard : goal.returns-clause-heard
returns-clause-heard c setup events side sound of_bytes are =
    heard_at by_themselves setup events side (ends_bytes setup of_bytes sound events are side)

pub returns-clause-scanned : goal.returns-clause-scanned
returns-clause-scanned c setup events side sound of_bytes are clean heard =
    scanned_at by_themselves setup events side (ends_bytes setup of_bytes sound events are side)
    (nothing_left by_themselves setup events clean side) heard

pub returns-clause-world : goal.returns-clause-world
returns-clause-world c setup events side sound of_bytes are =
    heard_at by_numbers setup events side (world_bytes setup of_bytes sound events are side)
