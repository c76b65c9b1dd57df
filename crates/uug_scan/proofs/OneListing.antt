-- That a stream has exactly one listing, since it has exactly one scan.
use Rattle.std.proofs.Common.{◌≡◌, ℕ, List, refl, sym, ap, ◌∙◌}
use Rattle.uug_packet.specs.Bytes.{AreBytes}
use Rattle.uug_reader.proofs.ScanLemmas.{IsScan-some, IsScan-unique}
use Rattle.uug_scan.specs.Listing.{listing_of, IsListing}

pub IsListing-some : (s : List ℕ) → AreBytes s → (text : List ℕ) × IsListing s text
IsListing-some s bytes =
    let found = IsScan-some s bytes in
    (listing_of found.0 found.1, record { items = found.0; rest = found.1; scan = found.2; text_is = refl })

pub IsListing-unique : (s text other : List ℕ) → IsListing s text → IsListing s other → text ≡ other
IsListing-unique s text other h k =
    let same = IsScan-unique s h.rest k.rest h.items k.items h.scan k.scan in
    let listed : listing_of h.items h.rest ≡ listing_of k.items k.rest =
    ap (λ v. listing_of v h.rest) same.0 ∙ ap (listing_of k.items) same.1 in
    h.text_is ∙ listed ∙ sym k.text_is
