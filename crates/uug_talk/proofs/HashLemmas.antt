-- The digest of any bytes is 32 bytes.
use Rattle.std.proofs.Common.{◌≡◌, ℕ, zero, suc, List, [], ◌∷◌, ◌++◌, length, slice_index, arith}
use Rattle.std.specs.Int.{to_be_bytes, w32}
use Rattle.hex.specs.Hex.{IsBytes}
use Rattle.sha2.proofs.Facts256.{length-sha256}
use Rattle.sha2.specs.Sha256.{digest_bytes, sha256}
use Rattle.uug_talk.proofs.DigitLemmas.{size_bytes}

both_bytes : (xs ys : List ℕ) → IsBytes xs → IsBytes ys → IsBytes (xs ++ ys)
both_bytes [] ys h k i = k i
both_bytes (x ∷ xs) ys h k zero = h zero
both_bytes (x ∷ xs) ys h k (suc i) = both_bytes xs ys (λ j. h (suc j)) k i

no_bytes : IsBytes []
no_bytes i = omega arith

word_bytes : (h : List ℕ) (n : ℕ) → IsBytes (digest_bytes h n)
unfolding digest_bytes
word_bytes h zero = no_bytes
word_bytes h (suc n) =
    both_bytes (digest_bytes h n) (to_be_bytes w32 (slice_index h n)) (word_bytes h n) (size_bytes (slice_index h n))

pub sha256_bytes : (bytes : List ℕ) → IsBytes (sha256 bytes)
unfolding sha256
sha256_bytes bytes = word_bytes _ 8

pub sha256_length : (bytes : List ℕ) → length (sha256 bytes) ≡ 32
sha256_length bytes = length-sha256 bytes
