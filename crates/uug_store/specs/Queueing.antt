-- Queueing: the job of an order, the name of its copy in `send`, and what is appended to the text of the jobs (this
-- project's profile).
use Rattle.std.specs.Prelude.{◌==◌, ◌||◌, ℕ, Bool, true, false, List, [], ◌∷◌, ◌++◌, length, codes, nat_eq, Option, Some, None, option_map, Result, Ok, Err, if◌then◌else◌}
use Rattle.std.specs.Borrow.{Bor}
use Rattle.std.specs.Fmt.{decimal}
use Rattle.std.specs.List.{ends_with, list_any, starts_with}
use Rattle.std.specs.Str.{bytes_eq}
use Rattle.uug_conversation.specs.declared.job.Job.{Job}
use Rattle.uug_conversation.specs.declared.job.Job.TheVariants.{Send, Request}
use Rattle.uug_talk.specs.Name.{name_of}
use Rattle.uug_store.specs.JobsAfter.{is_job}
use Rattle.uug_store.specs.JobsText.{job_line}
use Rattle.uug_store.specs.declared.queued.OrderFault.{OrderFault}
use Rattle.uug_store.specs.declared.queued.OrderFault.TheVariants as fault

abbrev pub shown_text : Option (Bor (List ℕ)) → Option (List ℕ)
shown_text text = option_map (λ (t : Bor (List ℕ)). t.now) text

-- ---- names

abbrev pub has_slash : List ℕ → Bool
has_slash text = list_any (λ b. nat_eq b 47) text

-- the part of a path after the last slash
abbrev pub last_part : List ℕ → List ℕ
last_part [] = []
last_part (b ∷ bs) = if has_slash (b ∷ bs) then last_part bs else b ∷ bs

-- A file with a dot in front of its name is hidden, and not given.
abbrev pub visible : Option (List ℕ) → Option (List ℕ)
visible None = None
visible (Some name) = if starts_with nat_eq name (codes ".") then None else Some name

-- the name of the file at a path, if it has one that may be given
abbrev pub base_name : List ℕ → Option (List ℕ)
base_name path = visible (name_of (last_part path))

-- the text as a name, if there is a text and it is a name
abbrev pub name_in : Option (List ℕ) → Option (List ℕ)
name_in None = None
name_in (Some text) = name_of text

-- the user if none is given: the first of these two names that is there, else `uucp`
abbrev pub user_by : Option (List ℕ) → Option (List ℕ) → List ℕ
user_by (Some user) login = user
user_by None (Some login) = login
user_by None None = codes "uucp"

-- the names of copies in `send`, in the order in which they are tried: the name itself, then with a dot and a number
abbrev pub nth_name : (base : List ℕ) (n : ℕ) → Option (List ℕ)
nth_name base n = if n == 0 then Some base else name_of (base ++ codes "." ++ decimal n)

-- the job with this source, if it sends a file
abbrev pub with_source : (name : List ℕ) → Job → Job
with_source name (Send source target user temp) = Send name target user None
with_source name (Request source target user) = Request source target user

-- whether a job with the same words and the same copy is one of these
abbrev pub is_among : Job → List Job → Bool
is_among job jobs = list_any (λ other. is_job other job) jobs

-- a job that sends the file of this name
abbrev pub gives : (name : List ℕ) → Job → Bool
gives name (Send source target user temp) = bytes_eq source name
gives name (Request source target user) = false

abbrev pub is_given_by : (name : List ℕ) → List Job → Bool
is_given_by name jobs = list_any (gives name) jobs

abbrev pub is_send : Job → Bool
is_send (Send source target user temp) = true
is_send (Request source target user) = false

abbrev pub sends_any : List Job → Bool
sends_any jobs = list_any is_send jobs

-- ---- orders

-- the target that is given, else the name of the file
abbrev pub target_with : (target : Option (List ℕ)) (path : List ℕ) → Option (List ℕ)
target_with None path = base_name path
target_with (Some target) path = name_of target

-- the user that is given, else this one
abbrev pub user_with : (user : Option (List ℕ)) (default : List ℕ) → Option (List ℕ)
user_with None default = Some default
user_with (Some user) default = name_of user

-- the job that sends a file, or the error for the first name that is missing
abbrev pub sends_with : (source target user : Option (List ℕ)) → Result Job OrderFault
sends_with None target user = Err fault.File
sends_with (Some source) None user = Err fault.Target
sends_with (Some source) (Some target) None = Err fault.User
sends_with (Some source) (Some target) (Some user) = Ok (Send source target user None)

-- the job that requests a file, or the error for the first name that is missing
abbrev pub requests_with : (source target user : Option (List ℕ)) → Result Job OrderFault
requests_with None target user = Err fault.File
requests_with (Some source) None user = Err fault.Target
requests_with (Some source) (Some target) None = Err fault.User
requests_with (Some source) (Some target) (Some user) = Ok (Request source target user)

-- The job of an order. The source of a Send job is the name of the file; its copy in `send` may get another name.
abbrev pub ordered : (word path : List ℕ) (target user : Option (List ℕ)) → Result Job OrderFault
ordered word path target user =
    if bytes_eq word (codes "send") then sends_with (base_name path) target user else
    (if bytes_eq word (codes "request") then requests_with (name_of path) target user else Err fault.Word)

-- ---- the text of the jobs

-- an empty text, or one that ends with a line feed
abbrev pub is_whole : List ℕ → Bool
is_whole text = length text == 0 || ends_with nat_eq text (10 ∷ [])

-- what is appended for one more job
abbrev pub appended : (text : List ℕ) → Job → List ℕ
appended text job = if is_whole text then job_line job else 10 ∷ job_line job

-- the line that says which job was queued
abbrev pub queued_line : Job → List ℕ
queued_line job = codes "queued " ++ job_line job
