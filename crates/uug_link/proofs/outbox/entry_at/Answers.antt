use Rattle.std.proofs.Common.{arith}
use Rattle.uug_link.specs.declared.entry.EntryKind.TheVariants as kinds
use Rattle.uug_link.proofs.EntriesLemmas.{cut_within, entry_is}
use Rattle.uug_link.proofs.outbox.entry_at.Goals as goal

pub slice_bounds-bytes-count : goal.slice_bounds-bytes-count
slice_bounds-bytes-count c =
    let h = cut_within 0 c.args.marks.now _ c.args.i (record { kind = kinds.Text; end = 0 }) c.requires.within c.requires.cut in
    omega (arith, c.start_of-start.ensures, h.0)

pub slice_bounds-bytes-start : goal.slice_bounds-bytes-start
slice_bounds-bytes-start c =
    let h = cut_within 0 c.args.marks.now _ c.args.i (record { kind = kinds.Text; end = 0 }) c.requires.within c.requires.cut in
    omega (arith, c.start_of-start.ensures, h.0, h.1)

pub slice_bounds-bytes-end : goal.slice_bounds-bytes-end
slice_bounds-bytes-end c =
    let h = cut_within 0 c.args.marks.now _ c.args.i (record { kind = kinds.Text; end = 0 }) c.requires.within c.requires.cut in
    omega (arith, c.start_of-start.ensures, h.0, h.1)

pub returns-in-Text : goal.returns-in-Text
returns-in-Text c =
    entry_is c.args.marks.now c.args.bytes.now c.args.i _ (record { kind = kinds.Text; end = 0 }) kinds.Text c.requires.within c.start_of-start.ensures c.in-Text.is

pub returns-in-Packet : goal.returns-in-Packet
returns-in-Packet c =
    entry_is c.args.marks.now c.args.bytes.now c.args.i _ (record { kind = kinds.Text; end = 0 }) (kinds.Packet c.in-Packet.first) c.requires.within c.start_of-start.ensures c.in-Packet.is
