-- Where copies belong that `queue` has made.
use Rattle.std.proofs.Common.{arith, ◌≡◌, ℕ, Bool, true, false, List, refl}
use Rattle.uug_conversation.specs.declared.job.Job.{Job}
use Rattle.uug_io_disk.specs.Copies.{is_needed_by, place_of}
use Rattle.uug_io_disk.specs.declared.copy_place.CopyPlace.TheVariants.{InSend, WithFailed, Nowhere}

-- one that belongs nowhere, or with the files of failed jobs, is needed by no job that waits
pub nowhere_needed : (name : List ℕ) (waiting failed : List Job) → place_of name waiting failed ≡ Nowhere → is_needed_by name waiting ≡ false
nowhere_needed name waiting failed h = grind (arith)

pub aside_needed : (name : List ℕ) (waiting failed : List Job) → place_of name waiting failed ≡ WithFailed → is_needed_by name waiting ≡ false
aside_needed name waiting failed h = grind (arith)
