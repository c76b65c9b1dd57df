-- The words that are written of a job say it.
use Rattle.std.proofs.Common.{Some, None, refl}
use Rattle.uug_conversation.specs.declared.side.Side.{Side}
use Rattle.uug_conversation.specs.declared.job.Job.{Job}
use Rattle.uug_conversation.specs.declared.job.Job.TheVariants.{Send, Request}
use Rattle.uug_conversation.specs.Party.{HasNames}
use Rattle.uug_sim_script.specs.JobWords.{job_words}
use Rattle.uug_sim_script.specs.LineSays.{LineSays, send_line, request_line}
use Rattle.uug_sim_script.specs.Meaning.{of_end, job}

pub says_job : (side : Side) (given : Job) → HasNames given → LineSays (job_words side given) (of_end side (job given))
says_job side (Send source target user None) names = send_line names.0 refl
says_job side (Send source target user (Some temp)) names = send_line names.0 (names.1, refl)
says_job side (Request source target user) names = request_line names
