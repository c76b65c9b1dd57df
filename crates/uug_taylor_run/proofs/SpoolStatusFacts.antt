-- Lines of a log and of C. files of which it is known what a status does with them, so that a wrong definition does not check.
use Rattle.std.proofs.Common.{◌≡◌, ◌++◌, ℕ, List, [], ◌∷◌, codes, true, false, refl}
use Rattle.uug_taylor_run.specs.SystemLogs.{is_about, lines_about}
use Rattle.uug_taylor_run.specs.Waiting.{are_shown, is_shown}
use Rattle.uug_talk.specs.Lines.{ended}

abbrev start : List ℕ
start = codes "uucico beta - (d t 1) Calling system beta (port p)"

record AreAbout : Type 0 where
  same : is_about (codes "beta") start ≡ true
  another : is_about (codes "bet") start ≡ false
  behind : is_about (codes "uucico") start ≡ false
  short : is_about (codes "beta") (codes "beta") ≡ false
  lines : lines_about (codes "beta") (start ∷ codes "uucico - -" ∷ start ∷ []) ≡ ended start ++ ended start

about : AreAbout
about = record { same = refl; another = refl; behind = refl; short = refl; lines = refl }

record AreShown : Type 0 where
  sends : is_shown (codes "S /x ~/y me -c D.0 0644 ") ≡ true
  asks : is_shown (codes "R ~/x /y me -d") ≡ true
  blank : is_shown (codes " ") ≡ true
  wildcard : is_shown (codes "X ~/w* alpha!~/ me -d") ≡ false
  no_command : is_shown (codes "nothing") ≡ false
  one_is_not : are_shown (codes "R ~/x /y me -d" ∷ codes "nothing" ∷ []) ≡ false
  none : are_shown [] ≡ true

shown : AreShown
shown = record { sends = refl; asks = refl; blank = refl; wildcard = refl; no_command = refl; one_is_not = refl; none = refl }
