use Rattle.std.proofs.Common.{ap, ◌∙◌}
use Rattle.uug_talk.specs.Chained.{◌>>=◌}
use Rattle.uug_sim_script.specs.Fields.{announcement}
use Rattle.uug_sim_script.specs.Meaning.{announced_by}
use Rattle.uug_sim_script.proofs.FieldLemmas.{announcement_made}
use Rattle.uug_sim_script.proofs.fields.read_announce.Goals as goal

pub returns : goal.returns
returns c =
    ap announced_by c.ok.ensures.value
    ∙ announcement_made c.args.window c.in_ok-size.size c.new.result
    c.new.ensures.window c.new.ensures.size c.new.ensures.plain c.new.ensures.filled c.new.ensures.bad_window c.new.ensures.bad_size
    ∙ ap (λ o. o >>= (λ size. announcement c.args.window size)) c.in_ok-size.ensures.exact
