use Rattle.std.proofs.Common.{arith}
use Rattle.std.proofs.lemmas.Bool.Decides.{nat_tests}
use Rattle.uug_talk.proofs.ChunkLemmas.{left_file}
use Rattle.uug_talk.proofs.chunks.Chunks.file_into.Goals as goal

pub returns : goal.returns
returns c =
    let old = c.args.self.now in
    let cut = c.cut_into.ensures in
    left_file old c.cut_into.new.self _ c.requires old.some (grind (arith, nat_tests)) cut.message cut.rest cut.kept
