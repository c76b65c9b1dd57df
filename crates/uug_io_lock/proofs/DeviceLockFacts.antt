-- Lock files of devices that are known, so that a wrong definition does not check.
use Rattle.std.proofs.Common.{◌≡◌, true, false, [], ◌∷◌, ◌++◌, codes, refl}
use Rattle.std.specs.Fmt.{digits}
use Rattle.std.specs.Path.{rsplit_once}
use Rattle.uug_io_lock.specs.DeviceLocks.{holder_in, is_held, lock_path, lock_text}
use Rattle.uug_io_lock.specs.declared.holder.Holder.TheVariants.{Process, Nobody, Unknown}

record AreNames : Type 0 where
  serial : lock_path (codes "/var/lock") (codes "/dev/ttyS0") ≡ codes "/var/lock/LCK..ttyS0"
  pseudo : lock_path (codes "/var/lock") (codes "/dev/pts/0") ≡ codes "/var/lock/LCK..0"
  plain : lock_path (codes "locks") (codes "tty") ≡ codes "locks/LCK..tty"
  none : lock_path (codes "locks") (codes "dev/") ≡ codes "locks/LCK.."

names : AreNames
unfolding rsplit_once
names = record { serial = refl; pseudo = refl; plain = refl; none = refl }

record AreTexts : Type 0 where
  short : lock_text 7 ≡ codes "         7" ++ 10 ∷ []
  long : lock_text 4194304 ≡ codes "   4194304" ++ 10 ∷ []
  longest : lock_text 4294967295 ≡ codes "4294967295" ++ 10 ∷ []
  read_back : holder_in (lock_text 1740) ≡ Process 1740

texts : AreTexts
unfolding digits
texts = record { short = refl; long = refl; longest = refl; read_back = refl }

record AreHeld : Type 0 where
  columns : holder_in (codes "      1740" ++ 10 ∷ []) ≡ Process 1740
  no_columns : holder_in (codes "1740" ++ 10 ∷ []) ≡ Process 1740
  no_line_feed : holder_in (codes "1740") ≡ Process 1740
  program : holder_in (codes "      1740 minicom root" ++ 10 ∷ []) ≡ Process 1740
  empty : holder_in [] ≡ Nobody
  blank : holder_in (codes "   " ++ 10 ∷ []) ≡ Nobody
  zero : holder_in (codes "         0" ++ 10 ∷ []) ≡ Nobody
  word : holder_in (codes "busy" ++ 10 ∷ []) ≡ Unknown
  minus : holder_in (codes "        -1" ++ 10 ∷ []) ≡ Unknown
  binary : holder_in (204 ∷ 6 ∷ 0 ∷ 0 ∷ []) ≡ Unknown
  too_large : holder_in (codes "4294967296" ++ 10 ∷ []) ≡ Unknown

held : AreHeld
held = record {
  columns = refl;
  no_columns = refl;
  no_line_feed = refl;
  program = refl;
  empty = refl;
  blank = refl;
  zero = refl;
  word = refl;
  minus = refl;
  binary = refl;
  too_large = refl;
}

record AreStale : Type 0 where
  lives : is_held (Process 1740) false ≡ true
  gone : is_held (Process 1740) true ≡ false
  nobody : is_held Nobody false ≡ false
  unknown : is_held Unknown true ≡ true

stale : AreStale
stale = record { lives = refl; gone = refl; nobody = refl; unknown = refl }
