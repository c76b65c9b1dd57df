-- The words for a failed system call: on what, and why (this project's profile).
use Rattle.std.specs.Fmt.{signed_decimal}
use Rattle.std.specs.Prelude.{ℕ, ℤ, ◌==◌, List, [], ◌++◌, codes, Option, Some, None, if◌then◌else◌}
use Rattle.uug_error.specs.declared.failure.Cause.{Cause}
use Rattle.uug_error.specs.declared.failure.Cause.TheVariants.{Refused, MovedNothing, TooMuch, NotAFile, NotANumber, InUse, IsSpool, NoSpool, NoStream, NoTerminal}
use Rattle.uug_error.specs.declared.failure.EndText.{EndText}
use Rattle.uug_error.specs.declared.failure.EndText.TheVariants.{Jobs, Number, Failed}
use Rattle.uug_error.specs.declared.failure.Resource.{Resource}
use Rattle.uug_error.specs.declared.failure.Resource.TheVariants.{Input, Output, Line, Text, Send, Given, GotFolder, Got}
use Rattle.uug_error.specs.declared.failure.SystemFailure.{SystemFailure}
use Rattle.uug_error_text.specs.KindWords.{kind_words}
use Rattle.uug_error_text.specs.ReasonHints.{hint_words}
use Rattle.uug_scan.specs.Detailed.{escaped}
use Rattle.uug_talk.specs.Lines.{ended}

-- ---- on what

-- The names of the things on which a call may be made: the input or output, the line or the socket, the folder of end
-- 0, and the folder of any other end.
pub record Places : Type 0 where
  pub stream : List ℕ
  pub line : List ℕ
  pub first : List ℕ
  pub second : List ℕ

abbrev pub places : (stream line first second : List ℕ) → Places
places stream line first second = record { stream = stream; line = line; first = first; second = second }

abbrev pub text_words : EndText → List ℕ
text_words Jobs = codes "jobs"
text_words Number = codes "number"
text_words Failed = codes "failed"

-- the folder of the end of this number
abbrev pub dir_of : (first second : List ℕ) → (end : ℕ) → List ℕ
dir_of first second end = if end == 0 then first else second

-- the rest of the path, below that folder
abbrev pub below_words : Resource → List ℕ
below_words (Text which) = codes "/" ++ text_words which
below_words Send = codes "/send"
below_words (Given name) = codes "/send/" ++ name
below_words GotFolder = codes "/got"
below_words (Got name) = codes "/got/" ++ name
below_words resource = []

-- the resource on which a call of this end was made. Bytes of a path that can't be seen are escaped
abbrev pub place_words : Places → (end : ℕ) → Resource → List ℕ
place_words p end Input = escaped p.stream
place_words p end Output = escaped p.stream
place_words p end Line = escaped p.line
place_words p end resource = escaped (dir_of p.first p.second end) ++ below_words resource

-- ---- why

-- An error without a name has a number. One that has neither is, on a line, that of a host whose address can't be
-- looked up.
abbrev pub number_words : Resource → Option ℤ → List ℕ
number_words resource (Some number) = codes "error " ++ signed_decimal number
number_words Line None = codes "unknown host"
number_words resource None = codes "unknown error"

abbrev pub named_or_numbered : Resource → (name : Option (List ℕ)) → (number : Option ℤ) → List ℕ
named_or_numbered resource (Some name) number = name
named_or_numbered resource None number = number_words resource number

-- the words for a limit of the program that was exceeded
abbrev pub much_words : Resource → List ℕ
much_words Input = codes "too large"
much_words (Text which) = codes "over the limit of 16777216 bytes"
much_words Send = codes "over the limit of 256 files"
much_words resource = codes "over a limit"

-- The words for something that is not a regular file. At an output it is a named pipe, since devices and sockets are
-- accepted there.
abbrev pub no_file_words : Resource → List ℕ
no_file_words Output = codes "a named pipe may have no reader: name a file, /dev/stdout or /dev/stderr"
no_file_words resource = codes "not a regular file"

abbrev pub cause_words : Resource → Cause → List ℕ
cause_words resource (Refused kind number) = named_or_numbered resource (kind_words kind) number
cause_words resource MovedNothing = codes "it takes no bytes"
cause_words resource TooMuch = much_words resource
cause_words resource NotAFile = no_file_words resource
cause_words resource NotANumber = codes "not a number up to 4294967295"
cause_words resource InUse = codes "in use"
cause_words resource IsSpool = codes "it is a spool of Taylor UUCP: give --spool"
cause_words resource NoSpool = codes "not a spool, as it has jobs or send: leave out --spool"
cause_words resource NoStream = codes "standard input or output is not a socket, pipe or terminal"
cause_words resource NoTerminal = codes "not a terminal"

-- ---- both, and what to do about a known mistake, as a line
abbrev pub reason_line : Places → SystemFailure → List ℕ
reason_line p failure = codes "uucpair: "
    ++ (place_words p failure.end failure.resource ++ (codes ": " ++ (cause_words failure.resource failure.cause
    ++ ended (hint_words p.line p.first failure.resource failure.cause))))

-- why no lock file can be made in this folder, which is given as the second one
abbrev pub locks_line : (locks : List ℕ) → SystemFailure → List ℕ
locks_line locks failure = reason_line (places [] [] [] (codes "no lock file can be created (--locks): " ++ locks)) failure
