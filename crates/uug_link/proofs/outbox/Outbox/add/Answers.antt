use Rattle.std.proofs.Common.{arith}
use Rattle.uug_link.proofs.EntriesLemmas.{IsAdded, added_cuts, added_entries}
use Rattle.uug_link.proofs.outbox.Outbox.add.Goals as goal

pub invariant_of-self-2 : goal.invariant_of-self-2
invariant_of-self-2 g c =
    let h : IsAdded c.args.kind c.args.bytes.now c.self.inside.marks.items c.push_reserved.new.self.items c.self.inside.bytes.items c.extend_from_slice.new.self.items =
    record {
      end = c.len.result;
      end_is = omega (arith, c.len.ensures, c.extend_from_slice.new.self.ok.0);
      marks = cc;
      joined = cc (c.in_ok-extend_from_slice.ensures.items);
    } in
    added_cuts h c.self.invariant

pub returns-clause-ok : goal.returns-clause-ok
returns-clause-ok g c =
    let h : IsAdded c.args.kind c.args.bytes.now c.self.inside.marks.items c.push_reserved.new.self.items c.self.inside.bytes.items c.extend_from_slice.new.self.items =
    record {
      end = c.len.result;
      end_is = omega (arith, c.len.ensures, c.extend_from_slice.new.self.ok.0);
      marks = cc;
      joined = cc (c.in_ok-extend_from_slice.ensures.items);
    } in
    rw (← c.self.view_is) (added_entries h c.self.invariant)
