use Rattle.std.proofs.Common.{string_bytes}
use Rattle.uug_scan.proofs.ScanLemmas.{adds_found, adds_ended}
use Rattle.uug_scan.proofs.scan.list_items.Goals as goal

pub loop-found-smaller : goal.loop-found-smaller
loop-found-smaller g c =
    (adds_found c.loop-found.reader c.find.follows.lender-at-none _ c.find.result c.in-Some.found c.args.reader.now.bytes _ _ _
    c.find.follows.holds-at-none c.in-Some.is c.drop_found.ensures.bytes c.loop-found.invariant c.in_ok-add_line.ensures).fewer

pub loop-found-preserved : goal.loop-found-preserved
loop-found-preserved g c =
    (adds_found c.loop-found.reader c.find.follows.lender-at-none _ c.find.result c.in-Some.found c.args.reader.now.bytes (string_bytes c.args.lines.now) _ _
    c.find.follows.holds-at-none c.in-Some.is c.drop_found.ensures.bytes c.loop-found.invariant c.in_ok-add_line.ensures).added

pub returns-clause-lists : goal.returns-clause-lists
returns-clause-lists g c =
    adds_ended c.args.reader.now.bytes c.loop-found.reader.bytes c.find.follows.lender-at-none.bytes _ _ c.loop-found.invariant c.find.follows.holds-at-none.passes
