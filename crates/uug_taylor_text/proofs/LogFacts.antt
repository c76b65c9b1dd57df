-- Lines of a log and of statistics as they were found on a disk, so that a wrong definition does not check.
use Rattle.std.proofs.Common.{◌≡◌, ℕ, List, true, false, [], codes, Some, None, refl}
use Rattle.std.specs.Fmt.{digits}
use Rattle.uug_talk.specs.Lines.{ended}
use Rattle.uug_taylor_text.specs.LogLines.{HeadWords, agreed, called, calls, entry_text, fault, head_text, log_line, logged_in, over, packets, receives, receives_from, sends, sends_from}
use Rattle.uug_taylor_text.specs.Moments.{moment_text}
use Rattle.uug_taylor_text.specs.StatsLines.{StatWords, stats_line}
use Rattle.uug_taylor_text.specs.declared.moment.Moment.{Moment}
use Rattle.uug_taylor_text.specs.declared.stats_text.Course.TheVariants.{Sent, Received}

-- 2026-11-26 02:09:19.5 and so many hundredths
abbrev moment : ℕ → Moment
moment hundredths = record { year = 2026; month = 11; day = 26; hour = 2; minute = 9; second = 19; hundredths = hundredths }

abbrev head : (system user : List ℕ) → HeadWords
head system user = record { program = codes "uucico"; system = system; user = user; moment = moment 52; process = 23544 }

record AreHeads : Type 0 where
  when : moment_text (moment 5) ≡ codes "2026-11-26 02:09:19.05"
  system : head_text (head (codes "beta") []) ≡ codes "uucico beta - (2026-11-26 02:09:19.52 23544) "
  unknown : head_text (head [] []) ≡ codes "uucico - - (2026-11-26 02:09:19.52 23544) "
  user : head_text (head (codes "beta") (codes "uucp")) ≡ codes "uucico beta uucp (2026-11-26 02:09:19.52 23544) "
  whole : log_line (head (codes "beta") []) logged_in ≡ ended (codes "uucico beta - (2026-11-26 02:09:19.52 23544) Login successful")

heads : AreHeads
unfolding digits
heads = record {
  when = refl;
  system = refl;
  unknown = refl;
  user = refl;
  whole = refl;
}

record AreEntries : Type 0 where
  calls_beta : entry_text (codes "beta") (calls (codes "line")) ≡ codes "Calling system beta (port line)"
  somebody : entry_text [] (called (codes "uucp") (codes "stdin")) ≡ codes "Incoming call (login uucp port stdin)"
  begins : entry_text (codes "beta") (agreed 1024 7 1024 7) ≡ codes "Handshake successful (protocol 'g' sending packet/window 1024/7 receiving 1024/7)"
  sent : entry_text (codes "beta") (sends (codes "/etc/hostname") 3) ≡ codes "Sending /etc/hostname (3 bytes)"
  received : entry_text (codes "alpha") (receives (codes "/srv/beta/pub/h1") (Some 3)) ≡ codes "Receiving /srv/beta/pub/h1 (3 bytes)"
  untold : entry_text (codes "alpha") (receives (codes "/srv/beta/pub/h1") None) ≡ codes "Receiving /srv/beta/pub/h1"
  sent_on : entry_text (codes "beta") (sends_from (codes "D.0001") (Some 60000) 28672) ≡ codes "Sending D.0001 (60000 bytes resume at 28672)"
  received_on : entry_text (codes "alpha") (receives_from (codes "y") (Some 60000) 1) ≡ codes "Receiving y (60000 bytes resume at 1)"
  untold_on : entry_text (codes "alpha") (receives_from (codes "y") None 1) ≡ codes "Receiving y (resume at 1)"
  counted : entry_text (codes "beta") (packets 52 0 41) ≡ codes "Protocol 'g' packets: sent 52, resent 0, received 41"
  short : entry_text (codes "beta") (over 0 1533) ≡ codes "Call complete (0 seconds 1533 bytes 0 bps)"
  long : entry_text (codes "beta") (over 4 20000) ≡ codes "Call complete (4 seconds 20000 bytes 5000 bps)"
  failed : entry_text (codes "alpha") (fault (codes "Line disconnected")) ≡ codes "ERROR: Line disconnected"

entries : AreEntries
unfolding digits
entries = record {
  calls_beta = refl;
  somebody = refl;
  begins = refl;
  sent = refl;
  received = refl;
  untold = refl;
  sent_on = refl;
  received_on = refl;
  untold_on = refl;
  counted = refl;
  short = refl;
  long = refl;
  failed = refl;
}

abbrev of : (system port : List ℕ) → (hundredths : ℕ) → StatWords
of system port hundredths = record { user = codes "uucp"; system = system; moment = moment hundredths; port = port }

record AreStats : Type 0 where
  sent : stats_line (of (codes "beta") (codes "line") 53) Sent false 3 0
      ≡ ended (codes "uucp beta (2026-11-26 02:09:19.53) sent 3 bytes in 0.000 seconds (0 bytes/sec) on port line")
  received : stats_line (of (codes "alpha") (codes "stdin") 53) Received false 3 0
      ≡ ended (codes "uucp alpha (2026-11-26 02:09:19.53) received 3 bytes in 0.000 seconds (0 bytes/sec) on port stdin")
  failed : stats_line (of (codes "beta") (codes "line") 57) Sent true 6 14
      ≡ ended (codes "uucp beta (2026-11-26 02:09:19.57) failed after sent 6 bytes in 0.014 seconds (428 bytes/sec) on port line")
  slow : stats_line (of (codes "beta") (codes "line") 53) Sent false 20000 3733
      ≡ ended (codes "uucp beta (2026-11-26 02:09:19.53) sent 20000 bytes in 3.733 seconds (5357 bytes/sec) on port line")

stats : AreStats
unfolding digits
stats = record { sent = refl; received = refl; failed = refl; slow = refl }
