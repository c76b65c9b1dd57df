-- What is counted of a few packets, and the lines, so that a wrong definition does not check.
use Rattle.std.proofs.Common.{◌≡◌, ℕ, List, [], ◌∷◌, codes, Option, Some, None, refl}
use Rattle.std.specs.Fmt.{digits}
use Rattle.uug_packet.specs.Packet.{rj, rr, srj, control, carry}
use Rattle.uug_reader.specs.Cut.{Item, found, bad}
use Rattle.uug_observe_log.specs.Lines.{counts_line, news_line, progress_line}
use Rattle.uug_observe_log.specs.Losses.{next_message, passed_with}
use Rattle.uug_observe_log.specs.Paces.{pace_after, pace_from, percent, rate}
use Rattle.uug_observe_log.specs.Watched.{nothing_yet}
use Rattle.uug_observe_log.specs.declared.pace.Mark.{Mark}
use Rattle.uug_observe_log.specs.declared.passed.Passed.{Passed}
use Rattle.uug_observe_log.specs.declared.transfer.FileProgress.{FileProgress}
use Rattle.uug_observe_log.specs.declared.transfer.News.TheVariants.{Begins, Resumes, Ends}
use Rattle.uug_observe_log.specs.declared.transfer.Outcome.TheVariants.{Done, TooLarge, Differs}
use Rattle.uug_observe_log.specs.declared.transfer.Transfer.{Transfer}
use Rattle.uug_observe_log.specs.declared.transfer.Wish.TheVariants.{Send, Request}
use Rattle.uug_observe_log.specs.declared.way.Way.TheVariants.{Out, In}

abbrev packet : ℕ → Item
packet seq = found (carry seq 0 2 (codes "hi"))

abbrev after : List Item → Passed
after items = passed_with nothing_yet.passed items

abbrev of : (next rejects repeats damaged : ℕ) → Passed
of next rejects repeats damaged =
    record { next = next; counts = record { rejects = rejects; repeats = repeats; damaged = damaged } }

record AreCounted : Type 0 where
  in_order : after (packet 1 ∷ packet 2 ∷ []) ≡ of 3 0 0 0
  twice : after (packet 1 ∷ packet 1 ∷ packet 2 ∷ []) ≡ of 3 0 1 0
  past_a_gap : after (packet 2 ∷ packet 1 ∷ []) ≡ of 2 0 1 0
  around : after (packet 1 ∷ packet 2 ∷ packet 3 ∷ packet 4 ∷ packet 5 ∷ packet 6 ∷ packet 7 ∷ packet 0 ∷ []) ≡ of 1 0 0 0
  rejected : after (found (control (rj 3)) ∷ found (control (srj 3)) ∷ found (control (rr 3)) ∷ []) ≡ of 1 2 0 0
  damaged : after (bad ∷ packet 1 ∷ bad ∷ []) ≡ of 2 0 0 2
  told : next_message 1 (packet 1) ≡ Some (codes "hi")
  told_before : next_message 2 (packet 1) ≡ None

counted : AreCounted
counted = record {
  in_order = refl;
  twice = refl;
  past_a_gap = refl;
  around = refl;
  rejected = refl;
  damaged = refl;
  told = refl;
  told_before = refl;
}

abbrev ours : Transfer
ours = record { way = Out; wish = Send; source = codes "x"; target = codes "y" }

abbrev theirs : Transfer
theirs = record { way = In; wish = Request; source = codes "~/q"; target = codes "q" }

abbrev repeated : Transfer → (position : ℕ) → (size : Option ℕ) → (repeats : ℕ) → FileProgress
repeated job position size repeats = record { job = job; position = position; size = size; repeats = repeats }

abbrev so_far : Transfer → (position : ℕ) → (size : Option ℕ) → FileProgress
so_far job position size = repeated job position size 0

abbrev long : Transfer
long = record { way = In; wish = Request; source = codes "~/backup-of-monday.tar"; target = codes "q" }

record AreLines : Type 0 where
  begins : news_line 3 0 (Begins ours) ≡ codes "uucpair: 3 s: send x y\n"
  ends : news_line 12 9 (Ends theirs Done 400) ≡ codes "uucpair: 12 s: peer's request ~/q q: done 400 bytes in 9 s\n"
  differs : news_line 12 9 (Ends ours Differs 400) ≡ codes "uucpair: 12 s: send x y: wrong digest 400 bytes in 9 s\n"
  too_large : news_line 1 0 (Ends ours TooLarge 0) ≡ codes "uucpair: 1 s: send x y: refused, maybe for its size 0 bytes in 0 s\n"
  resumes : news_line 2 0 (Resumes ours (Some 60000) 30720) ≡ codes "uucpair: 2 s: send x y: resumed at 30720\n"
  goes_on : progress_line 95 118 (so_far ours 30720 (Some 60000))
      ≡ codes "uucpair: 95 s: send x: 30720 of 60000 bytes, 51%, 118 B/s, 248 s left"
  stands : progress_line 95 0 (so_far ours 30720 (Some 60000)) ≡ codes "uucpair: 95 s: send x: 30720 of 60000 bytes, 51%, 0 B/s"
  goes_badly : progress_line 95 118 (repeated ours 30720 (Some 60000) 3)
      ≡ codes "uucpair: 95 s: send x: 51%, 118 B/s, 248 s left, 3 repeats"
  of_no_size : progress_line 5 32 (so_far ours 64 None) ≡ codes "uucpair: 5 s: send x: 64 bytes, 32 B/s"
  of_long_name : progress_line 95 118 (so_far long 30720 (Some 60000))
      ≡ codes "uucpair: 95 s: peer's request ~/backup-of-monday.tar: 51%, 118 B/s, 248 s left"
  all : counts_line (codes "wrote") 1234 (of 1 2 3 4).counts ≡ codes "uucpair: wrote 1234 bytes rejects 2 repeats 3 damaged 4\n"

lines : AreLines
unfolding digits
lines = record {
  begins = refl;
  ends = refl;
  differs = refl;
  too_large = refl;
  resumes = refl;
  goes_on = refl;
  stands = refl;
  goes_badly = refl;
  of_no_size = refl;
  of_long_name = refl;
  all = refl;
}

abbrev at : (second position : ℕ) → Mark
at second position = record { second = second; position = position }

record ArePaces : Type 0 where
  soon : pace_after (pace_from (at 3 0)) (at 12 1000) ≡ pace_from (at 3 0)
  later : (pace_after (pace_from (at 3 0)) (at 13 1000)).newer ≡ at 13 1000
  older : (pace_after (pace_from (at 3 0)) (at 13 1000)).older ≡ at 3 0
  at_once : rate 1000 0 ≡ 0
  in_time : rate 1000 10 ≡ 100
  part : percent 30720 60000 ≡ 51
  all : percent 60000 60000 ≡ 100
  more : percent 61000 60000 ≡ 100
  of_nothing : percent 0 0 ≡ 100

paces : ArePaces
paces = record {
  soon = refl;
  later = refl;
  older = refl;
  at_once = refl;
  in_time = refl;
  part = refl;
  all = refl;
  more = refl;
  of_nothing = refl;
}
