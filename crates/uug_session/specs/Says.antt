-- What a call leaves in the outbox that says texts of the greeting.
use Rattle.std.specs.Prelude.{◌≡◌, ℕ, ◌+◌, ◌≤◌, List, ◌++◌, length, map, Result, IsOk, OnOk, OnErr}
use Rattle.uug_link.specs.Entries.{EntryValue, text, Held}
use Rattle.uug_talk.specs.Texts.{written_text}

abbrev pub entry_of_text : List ℕ → EntryValue
entry_of_text t = text (written_text t)

-- The call added exactly these texts, in order, behind what the outbox held. Or memory was refused and the entries are
-- as before; that does not happen within what the outbox has to spare. Each text lowers that by at most one.
pub record Says {T E : Type 0} (texts : List (List ℕ)) (held held_after : Held) (answer : Result T E) : Type 0 where
  pub added : OnOk answer (held_after.entries ≡ held.entries ++ map entry_of_text texts)
  pub unchanged : OnErr answer (held_after.entries ≡ held.entries)
  pub memory : length texts ≤ held.spare → IsOk answer
  pub spare : held.spare ≤ held_after.spare + length texts
  pub spare_kept : OnErr answer (held.spare ≤ held_after.spare)
