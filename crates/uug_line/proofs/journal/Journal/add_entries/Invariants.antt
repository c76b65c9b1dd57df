use Rattle.std.proofs.Common.{◌≡◌, take}
use Rattle.uug_line.specs.JournalValue.{journal_value, saying}
use Rattle.uug_line.proofs.journal.Journal.add_entries.Given as goal

-- the first entries are written down
abbrev pub invariant-loop-i : goal.invariant-loop-i
invariant-loop-i g l = journal_value l.self ≡ saying (take l.i l.outbox.entries) (journal_value l.fn.self)
