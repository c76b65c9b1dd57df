use Rattle.std.proofs.Common.{◌≡◌, ◌+◌, List, ℕ, ap, drop, subst, sym, ◌∙◌}
use Rattle.uug_packet.specs.Number.{number_of}
use Rattle.uug_packet.specs.Packet.{carry}
use Rattle.uug_reader.specs.declared.place.Place.{Place}
use Rattle.uug_reader.specs.Cut.{found}
use Rattle.uug_reader.specs.Code.Place.{item_at, item_beside, LiesIn}
use Rattle.uug_reader.proofs.PlaceLemmas.{kept}
use Rattle.uug_reader.proofs.ring.keep.Goals as goal

pub returns-in-Data : goal.returns-in-Data
returns-in-Data c =
    let bytes = c.args.beside.now.items in
    let carried = c.in-Data in
    let lies = subst (λ (p : Place). LiesIn p (drop c.args.passed bytes)) carried.is c.requires.lies in
    let same = c.drop_bytes.ensures ∙ ap (drop (c.args.passed + carried.start)) c.truncate.ensures.items
    ∙ kept bytes c.args.passed carried.start carried.end lies.0 in
    subst (λ (p : Place). item_beside p c.drop_bytes.new.beside.items ≡ item_at p (drop c.args.passed bytes)) (sym carried.is)
    (ap (λ (m : List ℕ). found (carry (number_of carried.seq) (number_of carried.ack) carried.k m)) same)
