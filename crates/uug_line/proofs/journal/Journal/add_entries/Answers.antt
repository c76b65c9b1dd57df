use Rattle.uug_link.specs.Entries.{shown_entry}
use Rattle.uug_line.specs.JournalValue.{journal_value}
use Rattle.uug_line.proofs.JournalLemmas.{next_said}
use Rattle.uug_line.proofs.journal.Journal.add_entries.Goals as goal

pub loop-i-preserved : goal.loop-i-preserved
loop-i-preserved g c =
    next_said c.args.outbox.now.entries c.loop-i.i (shown_entry c.entry.result) (journal_value c.args.self.now) (journal_value c.loop-i.self)
    (journal_value c.add_entry.new.self) c.entry.ensures c.loop-i.invariant c.in_ok-add_entry.ensures
