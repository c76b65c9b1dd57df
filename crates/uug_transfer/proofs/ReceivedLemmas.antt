-- What an end has read so far keeps within what it may read.
use Rattle.std.proofs.Common.{◌≡◌, ℕ, ◌+◌, ◌≤◌, List, [], ◌∷◌, ◌++◌, Option, Some, None, length, take, length-take-le, refl, sym, ap, subst, ◌∙◌, append_assoc, arith}
use Rattle.std.proofs.lemmas.List.{append-nil, length-take}
use Rattle.std.specs.Prelude.{⊤}
use Rattle.uug_transfer.specs.ReadBudgets.{Lasts, bytes_left, silences_left}
use Rattle.uug_transfer.specs.ReadOutcomes.{IsWithin}
use Rattle.uug_transfer.specs.Received.{Received, piece, silence, ReadsWithin, WaitsWithin, also_received, bytes_in, received_of}
use Rattle.uug_transfer.specs.declared.read_budget.TheConstants.{SILENCES_MAX}
use Rattle.uug_transfer.specs.declared.read_outcome.ReadOutcome.{ReadOutcome}
use Rattle.uug_transfer.specs.declared.read_outcome.ReadOutcome.TheVariants.{Bytes, TimedOut, Eof}

-- so many silences in a row stand at the end
abbrev waited_after : (waited : ℕ) → List Received → ℕ
waited_after waited [] = waited
waited_after waited (piece bytes ∷ rs) = waited_after 0 rs
waited_after waited (silence ∷ rs) = waited_after (waited + 1) rs

bytes_behind : (rs : List Received) (r : Received) → bytes_in (rs ++ r ∷ []) ≡ bytes_in rs + bytes_in (r ∷ [])
bytes_behind [] r = omega arith
bytes_behind (piece bytes ∷ rs) r = omega (arith, bytes_behind rs r)
bytes_behind (silence ∷ rs) r = bytes_behind rs r

waits_behind : (most waited : ℕ) (rs : List Received) (r : Received) → WaitsWithin most waited rs
    → WaitsWithin most (waited_after waited rs) (r ∷ []) → WaitsWithin most waited (rs ++ r ∷ [])
waits_behind most waited [] r h k = k
waits_behind most waited (piece bytes ∷ rs) r h k = waits_behind most 0 rs r h k
waits_behind most waited (silence ∷ rs) r h k = (h.0, waits_behind most (waited + 1) rs r h.1 k)

waited_behind : (waited : ℕ) (rs : List Received) (r : Received)
    → waited_after waited (rs ++ r ∷ []) ≡ waited_after (waited_after waited rs) (r ∷ [])
waited_behind waited [] r = refl
waited_behind waited (piece bytes ∷ rs) r = waited_behind 0 rs r
waited_behind waited (silence ∷ rs) r = waited_behind (waited + 1) rs r

-- so much is left of what may be read, behind what was read since
pub record Spends (most left quiet : ℕ) (since : List Received) : Type 0 where
  pub bytes : bytes_in since + left ≤ most
  pub waits : WaitsWithin SILENCES_MAX 0 since
  pub silences : waited_after 0 since + quiet ≡ SILENCES_MAX

abbrev pub SpendsSince : (most bytes silences : ℕ) → (before after : Option (List Received)) → Type 0
SpendsSince most bytes silences None after = ⊤
SpendsSince most bytes silences (Some before) after =
    (since : List Received) × (after ≡ Some (before ++ since)) × Spends most bytes silences since

pub spends_none : (most : ℕ) (before : Option (List Received)) → SpendsSince most most SILENCES_MAX before before
spends_none most None = tt
spends_none most (Some before) =
    ([], ap (λ (x : List Received). Some x) (sym (append-nil before)), record { bytes = omega arith; waits = tt; silences = refl })

pub spends_at_start : (most bytes silences : ℕ) (before : Option (List Received)) → bytes ≡ most → silences ≡ SILENCES_MAX
    → SpendsSince most bytes silences before before
spends_at_start most bytes silences before left quiet =
    subst (λ (b : ℕ). SpendsSince most b silences before before) (sym left)
    (subst (λ (q : ℕ). SpendsSince most most q before before) (sym quiet) (spends_none most before))

-- a buffer's front has room for no more than that
pub room_of : (n k : ℕ) (buffer : List ℕ) → n ≤ k → length (take n buffer) ≤ k
room_of n k buffer h = omega (arith, length-take n buffer, h)

pub within_then : (most bytes silences : ℕ) (before after : Option (List Received)) → SpendsSince most bytes silences before after
    → ReadsWithin most SILENCES_MAX before after
within_then most bytes silences None after h = tt
within_then most bytes silences (Some before) after h = (h.0, h.1, omega (arith, h.2.bytes), h.2.waits)

-- one read more
spent : (most bytes silences room : ℕ) (since : List Received) (outcome : ReadOutcome) (buffer : List ℕ)
    → Spends most bytes silences since → Lasts bytes silences → IsWithin room outcome → room ≤ bytes → room ≤ length buffer
    → Spends most (bytes_left bytes outcome) (silences_left silences outcome) (since ++ received_of outcome buffer)
spent most bytes silences room since (Bytes n) buffer s lasts within room_is size =
    let taken : length (take n buffer) ≡ n = length-take-le n buffer (omega (arith, within.1, size)) in
    record {
      bytes = omega (arith, bytes_behind since (piece (take n buffer)), taken, s.bytes, within.1, room_is);
      waits = waits_behind SILENCES_MAX 0 since (piece (take n buffer)) s.waits tt;
      silences = ap (λ (w : ℕ). w + SILENCES_MAX) (waited_behind 0 since (piece (take n buffer)));
    }
spent most bytes silences room since TimedOut buffer s lasts within room_is size =
    record {
      bytes = omega (arith, bytes_behind since silence, s.bytes);
      waits = waits_behind SILENCES_MAX 0 since silence s.waits (omega (arith, s.silences, lasts.waits), tt);
      silences = omega (arith, waited_behind 0 since silence, s.silences, lasts.waits);
    }
spent most bytes silences room since Eof buffer s lasts within room_is size =
    subst (λ (rs : List Received). Spends most 0 silences rs) (sym (append-nil since))
    (record { bytes = omega (arith, s.bytes); waits = s.waits; silences = s.silences })

pub spends_more : (most bytes silences room bytes_then silences_then : ℕ) (before mid after : Option (List Received)) (outcome : ReadOutcome)
    (buffer : List ℕ) → SpendsSince most bytes silences before mid → Lasts bytes silences → IsWithin room outcome → room ≤ bytes
    → room ≤ length buffer → after ≡ also_received (received_of outcome buffer) mid → bytes_then ≡ bytes_left bytes outcome
    → silences_then ≡ silences_left silences outcome → SpendsSince most bytes_then silences_then before after
spends_more most bytes silences room bytes_then silences_then None mid after outcome buffer s lasts within room_is size came left quiet = tt
spends_more most bytes silences room bytes_then silences_then (Some before) mid after outcome buffer s lasts within room_is size came left quiet =
    let r : List Received = received_of outcome buffer in
    let more : also_received r mid ≡ Some (before ++ (s.0 ++ r)) =
    ap (also_received r) s.1 ∙ ap (λ (x : List Received). Some x) (append_assoc before s.0 r) in
    let there : Spends most (bytes_left bytes outcome) (silences_left silences outcome) (s.0 ++ r) =
    spent most bytes silences room s.0 outcome buffer s.2 lasts within room_is size in (
      s.0 ++ r,
      came ∙ more,
      subst (λ (b : ℕ). Spends most b silences_then (s.0 ++ r)) (sym left)
          (subst (λ (q : ℕ). Spends most (bytes_left bytes outcome) q (s.0 ++ r)) (sym quiet) there),
    )

-- nothing was read meanwhile
pub spends_same : (most bytes silences : ℕ) (before mid after : Option (List Received)) → after ≡ mid
    → SpendsSince most bytes silences before mid → SpendsSince most bytes silences before after
spends_same most bytes silences before mid after same s = subst (SpendsSince most bytes silences before) (sym same) s
