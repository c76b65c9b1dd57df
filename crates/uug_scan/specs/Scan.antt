-- What a scan of a stream writes.
use Rattle.std.specs.Prelude.{◌≡◌, ℕ, List, ◌++◌, Option, Some, None, ⊤}
use Rattle.uug_reader.specs.Cut.{Item}
use Rattle.uug_reader.specs.Scan.{Finds}
use Rattle.uug_scan.specs.Listing.{lines_of, IsListing}
use Rattle.uug_stream.specs.declared.fault.ToolFault.{ToolFault}
use Rattle.uug_stream.specs.declared.fault.ToolFault.TheVariants as faults

-- the lines of the items in front of the others were added
abbrev pub AddsLines : List ℕ → List ℕ → List ℕ → List ℕ → Type 0
AddsLines s others before after =
    (items : List Item) × Finds s items others × (after ≡ before ++ lines_of items)

-- where the output tells what was written, the listing of the bytes was appended
abbrev pub AppendsListing : List ℕ → Option (List ℕ) → Option (List ℕ) → Type 0
AppendsListing s None after = ⊤
AppendsListing s (Some before) after = (text : List ℕ) × IsListing s text × (after ≡ Some (before ++ text))

-- the faults of a scan: those of its devices, and memory
abbrev pub IsScanFault : ToolFault → Type 0
IsScanFault faults.Read = ⊤
IsScanFault faults.Write = ⊤
IsScanFault faults.Memory = ⊤
IsScanFault faults.Device = ⊤
IsScanFault (faults.Script line) = ⊥
IsScanFault (faults.Jobs line) = ⊥
IsScanFault faults.Usage = ⊥
