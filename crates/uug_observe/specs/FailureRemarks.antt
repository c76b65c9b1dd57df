-- Why a line, or a folder, has failed (this project's profile).
use Rattle.std.specs.Prelude.{ℕ, List, [], Option, Some, None}
use Rattle.uug_error.specs.declared.failure.SystemFailure.{SystemFailure}
use Rattle.uug_error_text.specs.Reasons.{places, reason_line}

-- why the line of this name, or this folder, has failed, as a line on standard error
abbrev pub failure_remark : (line dir : List ℕ) → Option SystemFailure → List ℕ
failure_remark line dir None = []
failure_remark line dir (Some failure) = reason_line (places [] line dir []) failure
