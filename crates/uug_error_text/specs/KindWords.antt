-- The names of the system's errors (this project's profile).
use Rattle.std.specs.Prelude.{ℕ, List, codes, Option, Some, None}
use Rattle.std.specs.declared.io.ErrorKind.{ErrorKind}
use Rattle.std.specs.declared.io.ErrorKind.TheVariants as kinds

-- the kinds that occur on lines
abbrev pub line_words : ErrorKind → Option (List ℕ)
line_words kinds.ConnectionRefused = Some (codes "connection refused")
line_words kinds.ConnectionReset = Some (codes "connection reset")
line_words kinds.ConnectionAborted = Some (codes "connection aborted")
line_words kinds.HostUnreachable = Some (codes "host unreachable")
line_words kinds.NetworkUnreachable = Some (codes "network unreachable")
line_words kinds.NetworkDown = Some (codes "network down")
line_words kinds.NotConnected = Some (codes "not connected")
line_words kinds.AddrInUse = Some (codes "address in use")
line_words kinds.AddrNotAvailable = Some (codes "address not available")
line_words kinds.BrokenPipe = Some (codes "broken pipe")
line_words kinds.TimedOut = Some (codes "timed out")
line_words kinds.WouldBlock = Some (codes "it would block")
line_words kinds.Interrupted = Some (codes "interrupted")
line_words kinds.InProgress = Some (codes "in progress")
line_words kinds.ResourceBusy = Some (codes "device busy")
line_words kinds.Unsupported = Some (codes "not supported")
line_words kinds.UnexpectedEof = Some (codes "unexpected end")
line_words kinds.WriteZero = Some (codes "nothing was written")
line_words kinds.InvalidInput = Some (codes "invalid argument")
line_words kinds.InvalidData = Some (codes "invalid data")
line_words kinds.OutOfMemory = Some (codes "out of memory")
line_words _ = None

-- the kinds that occur only on files and folders
abbrev pub file_words : ErrorKind → Option (List ℕ)
file_words kinds.NotFound = Some (codes "no such file or directory")
file_words kinds.PermissionDenied = Some (codes "permission denied")
file_words kinds.AlreadyExists = Some (codes "it already exists")
file_words kinds.NotADirectory = Some (codes "not a directory")
file_words kinds.IsADirectory = Some (codes "is a directory")
file_words kinds.DirectoryNotEmpty = Some (codes "directory not empty")
file_words kinds.ReadOnlyFilesystem = Some (codes "read-only file system")
file_words kinds.FilesystemLoop = Some (codes "too many symbolic links")
file_words kinds.StaleNetworkFileHandle = Some (codes "stale network file handle")
file_words kinds.StorageFull = Some (codes "no space left")
file_words kinds.QuotaExceeded = Some (codes "disk quota exceeded")
file_words kinds.FileTooLarge = Some (codes "file too large")
file_words kinds.NotSeekable = Some (codes "not seekable")
file_words kinds.ExecutableFileBusy = Some (codes "executable file busy")
file_words kinds.Deadlock = Some (codes "deadlock")
file_words kinds.CrossesDevices = Some (codes "on another file system")
file_words kinds.TooManyLinks = Some (codes "too many links")
file_words kinds.InvalidFilename = Some (codes "invalid file name")
file_words kinds.ArgumentListTooLong = Some (codes "argument list too long")
file_words _ = None

abbrev pub either_words : Option (List ℕ) → Option (List ℕ) → Option (List ℕ)
either_words (Some words) others = Some words
either_words None others = others

-- the name of a kind. A kind has none if the system gives only a number for it
abbrev pub kind_words : ErrorKind → Option (List ℕ)
kind_words kind = either_words (line_words kind) (file_words kind)
