use Rattle.std.proofs.Common.{◌≡◌, ◌++◌, OnOk, string_bytes, subst, sym}
use Rattle.uug_conversation.specs.declared.job.Job.{Job}
use Rattle.uug_io_pending.specs.StatusJson.{job_members}
use Rattle.uug_io_pending.proofs.json.add_job.Goals as goal

pub returns-in-Request : goal.returns-in-Request
returns-in-Request g c =
    subst (λ (j : Job). OnOk c.add_members-in-Request.result
    (string_bytes c.add_members-in-Request.new.text ≡ string_bytes c.args.text.now ++ job_members j))
    (sym c.in-Request.is) c.add_members-in-Request.ensures
