-- What an end makes of what it is told of a file.
use Rattle.std.proofs.Common.{◌≡◌, ◌↔◌, ℕ, Bool, true, false, ◌≤◌, nat_lt, ◌==◌, ◌&&◌, List, length, Some, IsTrue, bytes_eq, refl, ap, ap₂, arith}
use Rattle.std.proofs.lemmas.Bool.Decides.{Decides-and, Decides-eqb, Decides-like, nat_tests}
use Rattle.std.specs.Bool.{Decides, one_answer}
use Rattle.std.specs.Cmp.Lexicographic.{bytes_decides}
use Rattle.uug_talk.specs.Digests.{digest_of}
use Rattle.uug_talk.specs.declared.file_digest.FileDigest.{FileDigest}
use Rattle.uug_conversation.specs.Holdings.{File}
use Rattle.uug_conversation.specs.Told.{fits, heard, is_same, is_too_large, told_of}

from_parts : (a b : FileDigest) → a.size ≡ b.size → a.hash ≡ b.hash → a ≡ b
from_parts a b s h = ap₂ (λ size hash. record { size = size; hash = hash }) s h

pub same_decides : (a b : FileDigest) → Decides (is_same a b) (a ≡ b)
same_decides a b =
    Decides-like (is_same a b) (λ h. from_parts a b h.0 h.1) (λ e. (ap (λ (d : FileDigest). d.size) e, ap (λ (d : FileDigest). d.hash) e))
    (Decides-and (a.size == b.size) (bytes_eq a.hash b.hash) (Decides-eqb a.size b.size) (bytes_decides a.hash b.hash))

-- what tells whether a digest is that of these bytes tells whether they fit
pub fits_is : (told : FileDigest) (bytes : List ℕ) (same : Bool) → (IsTrue same ↔ (told ≡ digest_of bytes)) → same ≡ fits (Some told) bytes
fits_is told bytes same decides = one_answer same (is_same told (digest_of bytes)) decides (same_decides told (digest_of bytes))

pub fits_decides : (told : FileDigest) (bytes : List ℕ) → (fits (Some told) bytes ≡ true) ↔ (told ≡ digest_of bytes)
fits_decides told bytes = same_decides told (digest_of bytes)

-- a file fits what was told of it, and what is heard of that
pub fits_given : (comparing digests : Bool) (file : File) → fits (heard comparing (told_of digests (Some file))) file.bytes ≡ true
fits_given true true file = (fits_decides (digest_of file.bytes) file.bytes).1 refl
fits_given true false file = refl
fits_given false true file = refl
fits_given false false file = refl

-- one that is small enough is not too large
within : (limit n : ℕ) → n ≤ limit → nat_lt limit n ≡ false
within limit n h = grind (arith, nat_tests)

pub given_is_taken : (limit : ℕ) (lenient comparing digests : Bool) (file : File) → length file.bytes ≤ limit →
    (lenient && is_too_large limit (heard comparing (told_of digests (Some file)))) ≡ false
given_is_taken limit false comparing digests file h = refl
given_is_taken limit true true true file h = within limit (length file.bytes) h
given_is_taken limit true true false file h = refl
given_is_taken limit true false true file h = refl
given_is_taken limit true false false file h = refl
