use Rattle.std.proofs.Common.{inl, inr}
use Rattle.uug_cli.proofs.command_line.task_of_tool.Goals as goal

pub returns-in_default : goal.returns-in_default
returns-in_default c named = elim named [
  | inl scan ↦ c.scan_task.ensures _ scan
  | inr (inl play) ↦ absurd (c.in_default.not-play play)
  | inr (inr (inl pair)) ↦ absurd (c.in_default.not-pair pair)
  | inr (inr (inr (inl call))) ↦ absurd (c.in_default.not-call call)
  | inr (inr (inr (inr (inl answer)))) ↦ absurd (c.in_default.not-answer answer)
  | inr (inr (inr (inr (inr (inl queue))))) ↦ absurd (c.in_default.not-queue queue)
  | inr (inr (inr (inr (inr (inr status))))) ↦ absurd (c.in_default.not-status status)
]
