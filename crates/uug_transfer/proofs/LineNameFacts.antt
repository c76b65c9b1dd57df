-- Names of lines whose line is known, so that a wrong definition does not check.
use Rattle.std.proofs.Common.{◌≡◌, [], codes, Some, None, refl}
use Rattle.std.specs.Path.{rsplit_once}
use Rattle.uug_transfer.specs.LineNames.{device, line_of, standard, tcp, unix}

record AreLines : Type 0 where
  streams : line_of (codes "-") ≡ Some standard
  hyphens : line_of (codes "--") ≡ Some (device (codes "--"))
  socket : line_of (codes "unix:/run/line") ≡ Some (unix (codes "/run/line"))
  no_path : line_of (codes "unix:") ≡ None
  host : line_of (codes "tcp:mail.example:540") ≡ Some (tcp (codes "mail.example") 540)
  no_host : line_of (codes "tcp:540") ≡ Some (tcp (codes "127.0.0.1") 540)
  empty_host : line_of (codes "tcp::540") ≡ None
  any_port : line_of (codes "tcp:a:0") ≡ Some (tcp (codes "a") 0)
  last_port : line_of (codes "tcp:a:65535") ≡ Some (tcp (codes "a") 65535)
  too_large : line_of (codes "tcp:a:65536") ≡ None
  zeros : line_of (codes "tcp:a:00540") ≡ Some (tcp (codes "a") 540)
  plus : line_of (codes "tcp:a:+540") ≡ Some (tcp (codes "a") 540)
  minus : line_of (codes "tcp:a:-540") ≡ None
  no_port : line_of (codes "tcp:a:") ≡ None
  nothing : line_of (codes "tcp:") ≡ None
  other : line_of (codes "tcp:a:54b") ≡ None
  host_alone : line_of (codes "tcp:a") ≡ None
  brackets : line_of (codes "tcp:[::1]:540") ≡ Some (tcp (codes "[::1]") 540)
  colons : line_of (codes "tcp:::1:540") ≡ Some (tcp (codes "::1") 540)
  terminal : line_of (codes "/dev/ttyS0") ≡ Some (device (codes "/dev/ttyS0"))
  capital : line_of (codes "TCP:540") ≡ Some (device (codes "TCP:540"))
  empty : line_of [] ≡ None

are_lines : AreLines
unfolding rsplit_once
are_lines = record {
  streams = refl;
  hyphens = refl;
  socket = refl;
  no_path = refl;
  host = refl;
  no_host = refl;
  empty_host = refl;
  any_port = refl;
  last_port = refl;
  too_large = refl;
  zeros = refl;
  plus = refl;
  minus = refl;
  no_port = refl;
  nothing = refl;
  other = refl;
  host_alone = refl;
  brackets = refl;
  colons = refl;
  terminal = refl;
  capital = refl;
  empty = refl;
}
