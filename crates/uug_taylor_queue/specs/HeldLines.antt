-- Lines of C. files whose data can't be read now (this project's profile).
use Rattle.std.specs.Prelude.{ℕ, Bool, false, List, map, Option, Some, None, if◌then◌else◌}
use Rattle.uug_conversation.specs.MemoryHoldings.{has_name}
use Rattle.uug_taylor_queue.specs.declared.open_line.OpenLine.{OpenLine}

abbrev pub is_held : (unread : List (List ℕ)) → (copy : Option (List ℕ)) → Bool
is_held unread None = false
is_held unread (Some copy) = has_name unread copy

-- a held line stays, and so do its copy and its C. file; no session offers it
abbrev pub held_line : (unread : List (List ℕ)) → OpenLine → OpenLine
held_line unread line =
    record { file = line.file; number = line.number; copy = line.copy; job = if is_held unread line.copy then None else line.job }

abbrev pub held_lines : (unread : List (List ℕ)) → List OpenLine → List OpenLine
held_lines unread lines = map (held_line unread) lines
