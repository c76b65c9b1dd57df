-- Spells the remark on the target of a queued job (this project's profile).
use Rattle.std.specs.Prelude.{◌||◌, ℕ, Bool, List, [], ◌++◌, codes, nat_eq, Option, Some, None, if◌then◌else◌}
use Rattle.std.specs.Borrow.{Bor}
use Rattle.std.specs.List.{starts_with}
use Rattle.std.specs.Str.{bytes_eq}
use Rattle.uug_io_disk.specs.declared.queue.QueueTask.{QueueTask}
use Rattle.uug_talk.specs.Lines.{ended}

-- a target, `NAME`, `~/NAME` or `/NAME`, has a name that begins with a dot
abbrev pub has_dot : (target : List ℕ) → Bool
has_dot target = starts_with nat_eq target (codes ".")
    || (starts_with nat_eq target (codes "~/.") || starts_with nat_eq target (codes "/."))

-- the end that refuses it
abbrev pub taker_words : (order : List ℕ) → List ℕ
taker_words order =
    if bytes_eq order (codes "send") then codes "uucpair at the other end refuses such a target, Taylor UUCP takes it"
    else codes "this end takes no such target, so the job will be given up"

abbrev pub dotted_remark : (order target : List ℕ) → List ℕ
dotted_remark order target =
    if has_dot target then codes "uucpair: " ++ (target ++ (codes " has a leading dot: " ++ ended (taker_words order))) else []

abbrev pub remark_by : (order target : Option (Bor (List ℕ))) → List ℕ
remark_by (Some order) (Some target) = dotted_remark order.now target.now
remark_by (Some order) None = []
remark_by None target = []

-- no remark without a target
abbrev pub target_remark : QueueTask → List ℕ
target_remark task = remark_by task.order task.target
