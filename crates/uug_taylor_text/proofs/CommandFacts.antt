-- Lines of C. files as they were found on a disk, so that a wrong definition does not check.
use Rattle.std.proofs.Common.{◌≡◌, ℕ, List, [], ◌∷◌, codes, Ok, Err, refl}
use Rattle.uug_talk.specs.Lines.{ended}
use Rattle.uug_taylor_text.specs.CommandLines.{FieldWords, FileWords, Line, send, request, expand, execute, command_of, name_said}
use Rattle.uug_taylor_text.specs.CommandTexts.{line_text}
use Rattle.uug_taylor_text.specs.Quoting.{quoted, unquoted}
use Rattle.uug_taylor_text.specs.declared.command.CommandFault.TheVariants as fault

abbrev fields : (source target user options : List ℕ) → FieldWords
fields source target user options = record { source = source; target = target; user = user; options = options }

abbrev file : (temp : List ℕ) → (mode : ℕ) → (notify : List ℕ) → FileWords
file temp mode notify = record { temp = temp; mode = mode; notify = notify }

abbrev copied : Line
copied = send (fields (codes "/srv/f1") (codes "~/copym") (codes "uucp") (codes "-Cdm")) (file (codes "D.0003") 420 [])

abbrev told : Line
told = send (fields (codes "/srv/f1") (codes "~/notify") (codes "uucp") (codes "-Cdn")) (file (codes "D.0004") 420 (codes "fred"))

abbrev mail : Line
mail =
    execute (fields (codes "D.0001") (codes "D.alphaN0001") (codes "uucp") (codes "-CNZR"))
    (file (codes "D.0001") 438 (codes "sender@here.org")) (codes "rmail" ∷ codes "rcpt1@there.org" ∷ codes "rcpt2@there.org" ∷ [])

abbrev news : Line
news =
    execute (fields (codes "D.0003") (codes "D.alphad0003") (codes "uucp") (codes "-CNZ")) (file (codes "D.0003") 438 [])
    (codes "rnews" ∷ [])

abbrev asked : FieldWords
asked = fields (codes "~/wanted") (codes "/srv/alpha/pub/here") (codes "uucp") (codes "-d")

record AreLines : Type 0 where
  a_copy : command_of (codes "S /srv/f1 ~/copym uucp -Cdm D.0003 0644 ") ≡ Ok copied
  no_space : command_of (codes "S /srv/f1 ~/copym uucp -Cdm D.0003 0644") ≡ Ok copied
  whom_to_tell : command_of (codes "S /srv/f1 ~/notify uucp -Cdn D.0004 0644 fred") ≡ Ok told
  requested : command_of (codes "R ~/wanted /srv/alpha/pub/here uucp -d") ≡ Ok (request asked)
  expanded : command_of (codes "X ~/wanted /srv/alpha/pub/here uucp -d") ≡ Ok (expand asked)
  a_mail : command_of (codes "E D.0001 D.alphaN0001 uucp -CNZR D.0001 0666 sender@here.org 0 rmail rcpt1@there.org rcpt2@there.org") ≡ Ok mail
  a_batch : command_of (codes "E D.0003 D.alphad0003 uucp -CNZ D.0003 0666 \"\" 0 rnews") ≡ Ok news

lines : AreLines
lines = record {
  a_copy = refl;
  no_space = refl;
  whom_to_tell = refl;
  requested = refl;
  expanded = refl;
  a_mail = refl;
  a_batch = refl;
}

record AreBad : Type 0 where
  empty : command_of [] ≡ Err fault.Unknown
  other : command_of (codes "H") ≡ Err fault.Unknown
  two_letters : command_of (codes "SS x y u - D.0 0644") ≡ Err fault.Unknown
  few : command_of (codes "R x y u") ≡ Err fault.Fields
  no_dash : command_of (codes "R x y u d") ≡ Err fault.Fields
  no_command : command_of (codes "E D.0003 D.alphad0003 uucp -C D.0003 0666 \"\" 0") ≡ Err fault.Fields
  quoting : command_of (codes "R x\\04 y u -q") ≡ Err fault.Name
  blank : command_of (codes "R x \"\" u -") ≡ Err fault.Name
  temp : command_of (codes "S x y u -C /etc/x 0644") ≡ Err fault.Temp
  mode : command_of (codes "S x y u -C D.0001 0648") ≡ Err fault.Mode

bad : AreBad
bad = record {
  empty = refl;
  other = refl;
  two_letters = refl;
  few = refl;
  no_dash = refl;
  no_command = refl;
  quoting = refl;
  blank = refl;
  temp = refl;
  mode = refl;
}

record AreSaid : Type 0 where
  space : name_said (codes "-Cdq") (codes "/srv/a\\040b") ≡ codes "/srv/a b"
  not_quoted : name_said (codes "-Cd") (codes "/srv/a\\040b") ≡ codes "/srv/a\\040b"
  backslash : unquoted (codes "\\134\\060") ≡ codes "\\0"
  written : quoted (codes "a b") ≡ codes "a\\040b"
  written_backslash : quoted (codes "\\") ≡ codes "\\134"

said : AreSaid
said = record {
  space = refl;
  not_quoted = refl;
  backslash = refl;
  written = refl;
  written_backslash = refl;
}

record AreTexts : Type 0 where
  a_copy : line_text copied ≡ ended (codes "S /srv/f1 ~/copym uucp -Cdm D.0003 0644 ")
  whom_to_tell : line_text told ≡ ended (codes "S /srv/f1 ~/notify uucp -Cdn D.0004 0644 fred")
  requested : line_text (request asked) ≡ ended (codes "R ~/wanted /srv/alpha/pub/here uucp -d")
  a_mail : line_text mail ≡ ended (codes "E D.0001 D.alphaN0001 uucp -CNZR D.0001 0666 sender@here.org 0 rmail rcpt1@there.org rcpt2@there.org")
  a_batch : line_text news ≡ ended (codes "E D.0003 D.alphad0003 uucp -CNZ D.0003 0666 \"\" 0 rnews")

texts : AreTexts
texts = record {
  a_copy = refl;
  whom_to_tell = refl;
  requested = refl;
  a_mail = refl;
  a_batch = refl;
}
