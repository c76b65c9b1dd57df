use Rattle.std.proofs.Common.{rules, refl, ◌++◌, ◌∙◌, take, string_bytes, arith, subst, length-take}
use Rattle.std.proofs.lemmas.Result.{on_ok_weaker}
use Rattle.uug_stream.specs.Streams.{Appends}
use Rattle.uug_scan.specs.Code.Noise.{AddsParts}
use Rattle.uug_scan.proofs.DetailedLemmas.{Progress-start, Progress-piece, AppendsDetailed-end, begins}
use Rattle.uug_scan.proofs.detailed.scan_detailed.Goals as goal

pub loop-init : goal.loop-init
loop-init g c =
    let from = begins c.new-held.result.items c.noise_from-noise.result c.new-held.ensures.items c.noise_from-noise.ensures in
    record {
      progress = Progress-start _ _ c.new-held.result.items c.noise_from-noise.result c.new-held.ensures.items c.noise_from-noise.ensures;
      waits = from.waits;
      empty = search rules;
      holds = from.holds;
      places = omega (arith, from.places);
      input_calm = refl;
      output_calm = refl;
    }

pub returns-then-count-eq0-clause-listing : goal.returns-then-count-eq0-clause-listing
returns-then-count-eq0-clause-listing g c =
    on_ok_weaker c.write_all.result
    (AppendsDetailed-end c.loop.counter c.in_ok-count.count c.len.result _ _ _ c.loop.held.items c.read.new.buffer (string_bytes c.loop.lines) (string_bytes c.add_rest.new.lines) c.as_bytes.result.now c.loop.noise c.add_rest.new.noise _ _ _
    c.loop.invariant.progress c.if-count-eq0.true c.in_ok-count.ensures.moves c.loop.invariant.waits c.loop.invariant.empty (search rules) c.in_ok-add_rest.ensures c.as_bytes.ensures.value)
    c.write_all.ensures.appends

pub loop-preserved : goal.loop-preserved
loop-preserved g c =
    let piece = take c.in_ok-count.count c.read.new.buffer in
    let lines = string_bytes c.list_piece.new.lines in
    let added = subst (λ t. AddsParts (c.loop.held.items ++ piece) c.list_piece.new.held.items c.loop.noise c.list_piece.new.noise t lines) c.loop.invariant.empty c.in_ok-list_piece.ensures.adds in
    let appended = subst (λ t. Appends t (g.O.Output.written c.loop.output) (g.O.Output.written c.write_all-in-loop.new.output)) c.as_bytes-in-loop.ensures.value c.in_ok-write_all.ensures.appends in
    record {
      progress =
          Progress-piece c.loop.counter c.in_ok-count.count _ _ _ c.loop.held.items c.list_piece.new.held.items c.read.new.buffer lines c.loop.noise c.list_piece.new.noise _ _ _
          c.loop.invariant.progress c.in_ok-count.ensures.moves c.if-count-eq0.false (omega (arith, c.in_ok-count.ensures.within, c.read.auto.buffer)) (search rules) added appended;
      waits = c.in_ok-list_piece.ensures.waits;
      empty = search rules;
      holds = c.in_ok-list_piece.ensures.holds;
      places = omega (arith, c.in_ok-list_piece.ensures.ends, c.loop.invariant.places, c.in_ok-count.ensures.within, c.read.auto.buffer, length-take c.in_ok-count.count c.read.new.buffer);
      input_calm = c.in_ok-count.ensures.calm ∙ c.loop.invariant.input_calm;
      output_calm = c.in_ok-write_all.ensures.calm ∙ c.loop.invariant.output_calm;
    }
