-- What is wrong with the order of a job to queue, in words (this project's profile).
use Rattle.std.specs.Prelude.{ℕ, Bool, List, [], ◌++◌, codes, Option, Some, None, if◌then◌else◌, is_some}
use Rattle.std.specs.Borrow.{Bor}
use Rattle.uug_io_disk.specs.declared.queue.QueueTask.{QueueTask}
use Rattle.uug_error_text.specs.JobsWords.{is_order, quoted}
use Rattle.uug_scan.specs.Detailed.{escaped}
use Rattle.uug_talk.specs.Lines.{ended}

-- for an order without a file
abbrev pub lack_words : (order : List ℕ) → List ℕ
lack_words order = codes "FILE is missing: uucpair queue DIR " ++ (order ++ codes " FILE")

-- for a word that is not an order; if the word before it is one, the folder is missing there
abbrev pub no_order_words : (dir order : List ℕ) → List ℕ
no_order_words dir order =
    if is_order dir then codes "DIR goes first: uucpair queue DIR " ++ (dir ++ codes " FILE")
    else quoted order ++ codes " is neither send nor request: uucpair queue DIR send FILE, or uucpair queue DIR request FILE"

abbrev pub order_words : (dir order : List ℕ) → (has_file : Bool) → List ℕ
order_words dir order has_file =
    if is_order order then (if has_file then [] else lack_words order) else no_order_words dir order

abbrev pub words_by : (dir : List ℕ) → (order : Option (Bor (List ℕ))) → (has_file : Bool) → List ℕ
words_by dir None has_file = []
words_by dir (Some order) has_file = order_words dir order.now has_file

-- nothing is wrong if nothing is ordered
abbrev pub order_remark : QueueTask → List ℕ
order_remark task = words_by task.dir.now task.order (is_some task.file)

-- the line about a folder whose queue is full
abbrev pub full_remark : (dir : List ℕ) → List ℕ
full_remark dir = codes "uucpair: " ++ (escaped dir ++ ended (codes "/jobs: the limit of 1024 jobs is reached: call, or cancel one"))
