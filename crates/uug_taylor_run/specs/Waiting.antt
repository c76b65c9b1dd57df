-- Which lines of a C. file a status can show (this project's profile).
use Rattle.std.specs.Prelude.{◌||◌, ◌&&◌, ℕ, Bool, true, false, List, [], ◌∷◌, Result, Ok, Err}
use Rattle.uug_taylor_queue.specs.Offers.{offer_of}
use Rattle.uug_taylor_queue.specs.OpenLines.{is_blank}
use Rattle.uug_taylor_queue.specs.declared.offer.NotOffered.{NotOffered}
use Rattle.uug_taylor_queue.specs.declared.offer.Offer.{Offer}

abbrev pub is_offer : Result Offer NotOffered → Bool
is_offer (Ok offer) = true
is_offer (Err why) = false

-- a line that a session can offer, or a blank one
abbrev pub is_shown : (line : List ℕ) → Bool
is_shown line = is_blank line || is_offer (offer_of line)

abbrev pub are_shown : List (List ℕ) → Bool
are_shown [] = true
are_shown (line ∷ more) = is_shown line && are_shown more
