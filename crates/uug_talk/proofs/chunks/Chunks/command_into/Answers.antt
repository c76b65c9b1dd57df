use Rattle.uug_talk.proofs.ChunkLemmas.{left_last, left_command}
use Rattle.uug_talk.proofs.chunks.Chunks.command_into.Goals as goal

pub returns-then-self : goal.returns-then-self
returns-then-self c =
    left_last c.args.self.now _ c.requires c.if-self.true _ c.last_zeros-zeros.ensures.value c.pad_into.ensures

pub returns : goal.returns
returns c =
    let old = c.args.self.now in
    let cut = c.cut_into.ensures in
    left_command old c.cut_into.new.self _ c.requires old.some c.if-self.false cut.message cut.rest cut.kept
