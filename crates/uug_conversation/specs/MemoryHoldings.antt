-- What a spool in memory has, and what it gives and accepts (this project's profile).
use Rattle.std.specs.Prelude.{ℕ, nat_le, Bool, true, false, List, [], ◌∷◌, length, map, Option, Some, None, if◌then◌else◌}
use Rattle.std.specs.List.{list_all, list_any}
use Rattle.std.specs.Str.{bytes_eq}
use Rattle.uug_conversation.specs.declared.memory_spool.MemorySpool.{MemorySpool}
use Rattle.uug_conversation.specs.declared.stored.Stored.{Stored}
use Rattle.uug_conversation.specs.declared.verdict.Verdict.{Verdict}
use Rattle.uug_conversation.specs.declared.verdict.Verdict.TheVariants.{Yes, Never, Later}
use Rattle.uug_conversation.specs.Holdings.{File, Kept, Holdings}
use Rattle.uug_conversation.specs.Partial.{Partial}
use Rattle.uug_talk.specs.declared.gather.TheConstants.{FILE_MAX}

pub record MemoryHoldings : Type 0 where
  -- the files that it has to give, in the order in which they were added
  pub files : List Kept
  -- the names that it never takes, takes later, and can't put in place
  pub denied : List (List ℕ)
  pub postponed : List (List ℕ)
  pub immovable : List (List ℕ)
  -- the files that it has kept, in the order in which it did
  pub stored : List Kept
  -- what it holds of files that were cut off; none where it does not resume
  pub partials : Option (List Partial)
  -- it refuses what it can't read, and goes on
  pub lenient : Bool
  -- it tells digests of its files, and compares those that it is told
  pub digests : Bool
  -- how many bytes the greatest file has that it gives or takes
  pub limit : ℕ

abbrev pub no_holdings : MemoryHoldings
no_holdings = record { files = []; denied = []; postponed = []; immovable = []; stored = []; partials = None; lenient = false; digests = false; limit = FILE_MAX }

-- whether a name is among these
abbrev pub has_name : List (List ℕ) → List ℕ → Bool
has_name names name = list_any (λ n. bytes_eq n name) names

-- of two files of one name the first counts
abbrev pub first_named : List Kept → List ℕ → Option File
first_named [] name = None
first_named (f ∷ files) name =
    if bytes_eq f.name name then Some (record { mode = f.mode; bytes = f.bytes }) else first_named files name

-- whether none of the files that it gives has more than so many bytes
abbrev pub gives_within : (limit : ℕ) → MemoryHoldings → Bool
gives_within limit m = if nat_le m.limit limit then true else list_all (λ f. nat_le (length f.bytes) limit) m.files

-- a name both denied and later is denied
abbrev pub verdict_on : (denied postponed : List (List ℕ)) → List ℕ → Verdict
verdict_on denied postponed name =
    if has_name denied name then Never else (if has_name postponed name then Later else Yes)

-- a file is kept under the name to which it is sent
abbrev pub holdings_of : MemoryHoldings → Holdings
holdings_of m = record {
  file = first_named m.files;
  delayed = λ name. false;
  verdict = verdict_on m.denied m.postponed;
  immovable = has_name m.immovable;
  landing = λ source target. target;
  partials = m.partials;
  lenient = m.lenient;
  digests = m.digests;
  limit = m.limit;
}

-- ---- how the program keeps them

abbrev pub kept_of : {A : Type 0} → Stored A → Kept
kept_of s = record { name = s.name; mode = s.mode; bytes = s.bytes.items }

abbrev pub held_by : {A : Type 0} → MemorySpool A → MemoryHoldings
held_by m = record {
  files = map kept_of m.files.items;
  denied = m.denied.items;
  postponed = m.postponed.items;
  immovable = m.immovable.items;
  stored = map kept_of m.stored.items;
  partials = m.partials;
  lenient = m.lenient;
  digests = m.digests;
  limit = m.limit.bytes;
}
