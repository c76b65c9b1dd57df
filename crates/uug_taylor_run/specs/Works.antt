-- The work that waits in the C. files of a system, one after the other (this project's profile).
use Rattle.std.specs.Prelude.{◌≡◌, ◌+◌, ◌^◌, ◌-◌, ◌++◌, min}
use Rattle.uug_taylor_run.specs.declared.work.Work.{Work}

-- Each list of a further C. file is appended to that of the files before, and nothing of it is lost.
pub record IsAppended {A : Type 0} (before more after : Work A) : Type 0 where
  pub names : after.names.items ≡ before.names.items ++ more.names.items
  pub lines : after.lines.items ≡ before.lines.items ++ more.lines.items
  pub texts : after.texts.items ≡ before.texts.items ++ more.texts.items
  pub offered : after.offered ≡ min (before.offered + more.offered) (2 ^ 64 - 1)
  pub files : after.files.items ≡ before.files.items ++ more.files.items
  pub executions : after.executions.items ≡ before.executions.items ++ more.executions.items
  pub unread : after.unread.items ≡ before.unread.items ++ more.unread.items
