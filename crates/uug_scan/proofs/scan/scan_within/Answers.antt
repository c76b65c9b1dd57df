use Rattle.std.proofs.Common.{rules, ◌++◌, take, string_bytes, ap, ◌∙◌, subst, arith}
use Rattle.std.proofs.lemmas.Result.{on_ok_weaker}
use Rattle.uug_scan.specs.Listing.{waiting_line}
use Rattle.uug_scan.specs.Scan.{AddsLines}
use Rattle.uug_stream.specs.Streams.{Appends}
use Rattle.uug_scan.proofs.ScanLemmas.{Progress-piece, AppendsListing-end}
use Rattle.uug_scan.proofs.scan.scan_within.Goals as goal

pub returns-then-count-eq0-clause-listing : goal.returns-then-count-eq0-clause-listing
returns-then-count-eq0-clause-listing g c =
    on_ok_weaker c.write_all.result
    (AppendsListing-end c.loop.counter c.in_ok-count.count _ _ _ c.loop.reader.bytes c.read.new.buffer c.as_bytes.result.now _ _ _
    c.loop.invariant.progress c.if-count-eq0.true c.in_ok-count.ensures.moves c.loop.invariant.waits
    (c.as_bytes.ensures.value ∙ c.in_ok-add_rest_line.ensures ∙ ap (λ t. t ++ waiting_line c.waiting.result) c.loop.invariant.empty ∙ ap waiting_line c.waiting.ensures.len))
    c.write_all.ensures.appends

pub loop-preserved : goal.loop-preserved
loop-preserved g c =
    let piece = take c.in_ok-count.count c.read.new.buffer in
    let lines = string_bytes c.list_piece.new.lines in
    let added = subst (λ t. AddsLines (c.loop.reader.bytes ++ piece) c.list_piece.new.reader.bytes t lines) c.loop.invariant.empty c.in_ok-list_piece.ensures.lists in
    let appended = subst (λ t. Appends t (g.O.Output.written c.loop.output) (g.O.Output.written c.write_all-in-loop.new.output)) c.as_bytes-in-loop.ensures.value c.in_ok-write_all.ensures.appends in
    record {
      progress =
          Progress-piece c.loop.counter c.in_ok-count.count _ _ _ c.loop.reader.bytes c.list_piece.new.reader.bytes c.read.new.buffer lines _ _ _
          c.loop.invariant.progress c.in_ok-count.ensures.moves c.if-count-eq0.false (omega (arith, c.in_ok-count.ensures.within, c.read.auto.buffer)) (search rules) added appended;
      waits = c.in_ok-list_piece.ensures.waits;
      room = c.in_ok-list_piece.ensures.room;
      empty = search rules;
      input_calm = c.in_ok-count.ensures.calm ∙ c.loop.invariant.input_calm;
      output_calm = c.in_ok-write_all.ensures.calm ∙ c.loop.invariant.output_calm;
    }
