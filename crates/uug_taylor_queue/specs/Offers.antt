-- What a session offers for a line of a C. file (this project's profile; that a command is sent as its data and an
-- execution file is what Taylor UUCP 1.07 does for an end without the E command).
use Rattle.std.specs.Prelude.{ℕ, List, codes, Option, Some, None, Result, Ok, Err, if◌then◌else◌}
use Rattle.uug_conversation.specs.declared.job.Job.TheVariants as job
use Rattle.uug_talk.specs.Name.{name_of}
use Rattle.uug_taylor_text.specs.CommandLines.{FieldWords, FileWords, Line, command_of, execute, expand, has_option, request, send}
use Rattle.uug_taylor_text.specs.ExecutionTexts.{execution_target, execution_temp}
use Rattle.uug_taylor_text.specs.SpoolNames.{begins_with}
use Rattle.uug_taylor_text.specs.declared.command.CommandFault.{CommandFault}
use Rattle.uug_taylor_queue.specs.declared.offer.JobNames.{JobNames}
use Rattle.uug_taylor_queue.specs.declared.offer.NotOffered.{NotOffered}
use Rattle.uug_taylor_queue.specs.declared.offer.NotOffered.TheVariants as why
use Rattle.uug_taylor_queue.specs.declared.offer.Offer.{Offer}

infixl 10 ◌>>=◌
-- a step, and then one that needs its value
abbrev pub ◌>>=◌ : {A B : Type 0} → Result A NotOffered → (A → Result B NotOffered) → Result B NotOffered
(Ok x) >>= f = f x
(Err e) >>= f = Err e

abbrev pub named_by : Option (List ℕ) → Result (List ℕ) NotOffered
named_by None = Err why.Name
named_by (Some name) = Ok name

abbrev pub named : List ℕ → Result (List ℕ) NotOffered
named word = named_by (name_of word)

-- no command of a session has quoted names
abbrev pub words_of : FieldWords → Result JobNames NotOffered
words_of f = if has_option 113 f.options then Err why.Quoted else
    named f.source >>= (λ source. named f.target >>= (λ target. named f.user >>= (λ user.
    Ok (record { source = source; target = target; user = user }))))

abbrev pub copy_named : Result (List ℕ) NotOffered → Result (Option (List ℕ)) NotOffered
copy_named (Ok name) = Ok (Some name)
copy_named (Err why) = Err why

-- With option C the data is a copy of this name. Otherwise the data is the file at the source's path, and many lines
-- may have the same name in the place of a copy's.
abbrev pub copied : (options source temp : List ℕ) → Result (Option (List ℕ)) NotOffered
copied options source temp =
    if has_option 67 options then copy_named (named temp) else
    (if begins_with (codes "/") source then Ok None else Err why.Relative)

-- the file is fetched by the name of its copy, or of its source if it has none
abbrev pub sending : JobNames → (copy : Option (List ℕ)) → Offer
sending n copy = record { copy = copy; first = job.Send n.source n.target n.user copy; second = None }

abbrev pub sent : FieldWords → FileWords → Result Offer NotOffered
sent f w = words_of f >>= (λ n. copied f.options f.source w.temp >>= (λ copy. Ok (sending n copy)))

abbrev pub requested : FieldWords → Result Offer NotOffered
requested f = words_of f >>= (λ n.
    Ok (record { copy = None; first = job.Request n.source n.target n.user; second = None }))

-- the local name of an execution file: made from the name of the data's copy, or without a copy from the data's name at
-- the other system
abbrev pub text_name : (options target temp : List ℕ) → Option (List ℕ)
text_name options target temp = if has_option 67 options then execution_temp temp else execution_temp target

-- the data as it is on the disk, and the execution file, which is made in memory and has the same names at each try
abbrev pub executed : FieldWords → FileWords → Result Offer NotOffered
executed f w = sent f w >>= (λ offer. named f.user >>= (λ user.
    named_by (execution_target f.target) >>= (λ target. named_by (text_name f.options f.target w.temp) >>= (λ temp.
    Ok (record { copy = offer.copy; first = offer.first; second = Some (job.Send temp target user (Some temp)) })))))

abbrev pub offer_by : Line → Result Offer NotOffered
offer_by (send f w) = sent f w
offer_by (request f) = requested f
offer_by (expand f) = Err why.Wildcard
offer_by (execute f w command) = executed f w

abbrev pub offer_read : Result Line CommandFault → Result Offer NotOffered
offer_read (Ok line) = offer_by line
offer_read (Err fault) = Err (why.Bad fault)

abbrev pub offer_of : List ℕ → Result Offer NotOffered
offer_of line = offer_read (command_of line)
