use Rattle.std.proofs.Common.{arith}
use Rattle.uug_conversation.proofs.CutSessionLemmas.{so_many}
use Rattle.uug_conversation.proofs.laws.a_file_takes_so_many_sessions.Goals as goal

pub returns : goal.returns
returns c taker key file size sessions some each =
    let bound = so_many taker key file size 0 sessions some (omega arith) each in
    omega (arith, bound)
