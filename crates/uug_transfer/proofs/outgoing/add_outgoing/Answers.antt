use Rattle.std.proofs.Common.{◌≡◌, ◌++◌, OnOk, sym, ap, subst, ◌∙◌}
use Rattle.uug_transfer.specs.Outgoing.{count_behind, outgoing_from}
use Rattle.uug_transfer.specs.Thinning.{thinned}
use Rattle.uug_transfer.proofs.ThinningLemmas.{nothing_left_out}
use Rattle.uug_transfer.proofs.outgoing.add_outgoing.Goals as goal

pub returns-in-Nothing-clause-bytes : goal.returns-in-Nothing-clause-bytes
returns-in-Nothing-clause-bytes g c =
    let es = c.args.outbox.now.entries in
    let before = c.args.injector.now in
    subst (λ entries. OnOk c.add_all.result (c.add_all.new.outgoing.items
    ≡ c.args.outgoing.now.items ++ outgoing_from before.drop_every before.flip_every before.count entries))
    (sym (ap (λ thinning. thinned thinning es) c.in-Nothing.is ∙ nothing_left_out es)) c.add_all.ensures.bytes

pub returns-in-Nothing-clause-count : goal.returns-in-Nothing-clause-count
returns-in-Nothing-clause-count g c =
    let es = c.args.outbox.now.entries in
    subst (λ entries. OnOk c.add_all.result (c.add_all.new.injector.count ≡ count_behind c.args.injector.now.count entries))
    (sym (ap (λ thinning. thinned thinning es) c.in-Nothing.is ∙ nothing_left_out es)) c.add_all.ensures.count
