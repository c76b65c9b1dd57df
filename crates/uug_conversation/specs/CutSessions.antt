-- Sessions in each of which the same file is cut off (this project's profile).
use Rattle.std.specs.Prelude.{◌≡◌, ◌≢◌, ℕ, List, [], ◌∷◌, length, Some}
use Rattle.uug_conversation.specs.Holdings.{File, to_give}
use Rattle.uug_conversation.specs.Left.{left_of}
use Rattle.uug_conversation.specs.Partial.{Key}
use Rattle.uug_conversation.specs.Party.{IsSound, Party, Suit}
use Rattle.uug_conversation.specs.Resuming.{front_of}
use Rattle.uug_conversation.specs.Runs.{progress_at}
use Rattle.uug_conversation.specs.Turns.{other}
use Rattle.uug_conversation.specs.View.{party}
use Rattle.uug_conversation.specs.declared.side.Side.{Side}

-- the two ends as they come to it, and how many of the giver's messages the taker has taken when it ends
pub record Session : Type 0 where
  pub a : Party
  pub b : Party
  pub taken : ℕ

-- The giver gives this file, in messages of `size` bytes. The taker begins with `before` bytes of it, and more of it are left.
pub record LeavesMore (taker : Side) (key : Key) (file : File) (size before : ℕ) (s : Session) : Type 0 where
  pub suit : Suit s.a s.b
  pub sound_a : IsSound s.a
  pub sound_b : IsSound s.b
  pub given : to_give (party (other taker) s.a s.b).holdings key.source ≡ Some file
  pub in_messages : (party (other taker) s.a s.b).measure.size ≡ size
  pub begins : length (front_of (party taker s.a s.b).holdings key.source (Some key.told)) ≡ before
  pub bytes : List ℕ
  pub left : left_of (party taker s.a s.b).holdings (progress_at taker s.a s.b s.taken).state ≡ Some (record { key = key; bytes = bytes })
  pub more : length bytes ≢ before

-- each begins with what the one before has left
abbrev pub EachLeavesMore : (taker : Side) → Key → File → (size before : ℕ) → List Session → Type 0
EachLeavesMore taker key file size before [] = Unit {0}
EachLeavesMore taker key file size before (s ∷ ss) =
    (first : LeavesMore taker key file size before s) × EachLeavesMore taker key file size (length first.bytes) ss
