-- Spells the remark on a caller who says nothing (this project's profile).
use Rattle.std.specs.Fmt.{decimal}
use Rattle.std.specs.Prelude.{ℕ, Bool, true, false, List, [], ◌++◌, codes}

abbrev pub others_words : (do_others_wait : Bool) → List ℕ
others_words true = codes ", while others waited"
others_words false = []

-- a caller said nothing for this many seconds
abbrev pub silent_words : (seconds : ℕ) → (do_others_wait : Bool) → List ℕ
silent_words seconds do_others_wait =
    codes "the caller said nothing for " ++ (decimal seconds ++ (codes " s" ++ others_words do_others_wait))
