use Rattle.std.proofs.Common.{[], List, ◌++◌, ap, ◌∙◌, append_assoc}
use Rattle.uug_conversation.specs.Holdings.{Kept}
use Rattle.uug_conversation.specs.Jobs.{at_start}
use Rattle.uug_conversation.specs.Machine.{Reply, reply_to}
use Rattle.uug_conversation.specs.DialogueState.{is_empty, replied}
use Rattle.uug_conversation.proofs.EarlierJobLemmas.{opening_behind, reply_to_behind}
use Rattle.uug_session.specs.Told.{talk_behind}
use Rattle.uug_session.specs.TwoEnds.{after_act, takes}
use Rattle.uug_session.proofs.told_laws.an_end_keeps_what_it_brought.Goals as goal

pub returns-clause-opens : goal.returns-clause-opens
returns-clause-opens c me p struck failed kept =
    ap (replied p.measure [] kept) (opening_behind me p.holdings (at_start p.jobs [] []) struck failed)

pub returns-clause-takes : goal.returns-clause-takes
returns-clause-takes c p t message struck failed kept =
    let reply : Reply = reply_to p.holdings (is_empty t.waiting) t.state message in
    ap (replied p.measure t.waiting (kept ++ t.kept)) (reply_to_behind p.holdings (is_empty t.waiting) t.state message struck failed)
    ∙ ap (λ (k : List Kept). record (talk_behind struck failed kept p.measure (after_act (takes message) p t)) { kept = k })
    (append_assoc kept t.kept reply.keeps)
