-- A mail, and two copies in one job, as they were found in a spool, so that a wrong definition does not check.
use Rattle.std.proofs.Common.{◌≡◌, ℕ, List, true, false, [], ◌∷◌, codes, Some, None, Ok, Err, refl}
use Rattle.std.specs.Path.{rsplit_once}
use Rattle.uug_conversation.specs.declared.job.Job.{Job}
use Rattle.uug_conversation.specs.declared.job.Job.TheVariants as job
use Rattle.uug_taylor_text.specs.DiskOrder.{replaced_ops}
use Rattle.uug_taylor_text.specs.Operations.{folder_synced, renamed, unlinked}
use Rattle.uug_taylor_text.specs.SpoolNames.{spot}
use Rattle.uug_talk.specs.Words.{words}
use Rattle.uug_taylor_text.specs.declared.spool_names.Room.TheVariants as rooms
use Rattle.uug_taylor_queue.specs.Offers.{offer_of}
use Rattle.uug_taylor_queue.specs.OpenLines.{file_lines, line_of, lines_left}
use Rattle.uug_taylor_queue.specs.OverOrder.{store_ops}
use Rattle.uug_taylor_queue.specs.MailHoldings.{delayed_in}
use Rattle.uug_taylor_queue.specs.Places.{Public, all_elsewhere, is_public_path, landing, place_in, takes, temp_name}
use Rattle.uug_taylor_queue.specs.Placing.{end_ops, is_again, marks_after, names_data, no_marks}
use Rattle.uug_taylor_queue.specs.Rewriting.{settling_ops}
use Rattle.uug_taylor_queue.specs.declared.marks.Came.{Came}
use Rattle.uug_taylor_queue.specs.declared.marks.Marks.{Marks}
use Rattle.uug_taylor_queue.specs.declared.offer.NotOffered.TheVariants as why
use Rattle.uug_taylor_queue.specs.declared.open_line.OpenLine.{OpenLine}

abbrev data_job : Job
data_job = job.Send (codes "D.0001") (codes "D.alphaN0001") (codes "uucp") (Some (codes "D.0001"))

abbrev text_job : Job
text_job = job.Send (codes "D.X0001") (codes "X.alphaN0001") (codes "uucp") (Some (codes "D.X0001"))

abbrev data_line : OpenLine
data_line = line_of (codes "C.N0001") 0 (Some (codes "D.0001")) (Some data_job)

abbrev text_line : OpenLine
text_line = line_of (codes "C.N0001") 0 (Some (codes "D.0001")) (Some text_job)

-- a mail is two jobs
a_mail : offer_of (codes "E D.0001 D.alphaN0001 uucp -CNZR D.0001 0666 sender@here.org 0 rmail rcpt1@there.org rcpt2@there.org")
    ≡ Ok (record { copy = Some (codes "D.0001"); first = data_job; second = Some text_job })
a_mail = refl

no_copy : offer_of (codes "S /srv/f1 ~/nocopy uucp -cd D.0002 0644 ")
    ≡ Ok (record { copy = None; first = job.Send (codes "/srv/f1") (codes "~/nocopy") (codes "uucp") None; second = None })
no_copy = refl

a_wildcard : offer_of (codes "X ~/glob* alpha!/srv/alpha/pub/ uucp -d") ≡ Err why.Wildcard
a_wildcard = refl

quoted_names : offer_of (codes "S /srv/a\\040b ~/a\\040b uucp -Cdq D.0004 0644 ") ≡ Err why.Quoted
quoted_names = refl

-- its lines are over when its data is gone
is_open : file_lines (codes "D.0001" ∷ []) (codes "C.N0001") 0 (codes "E D.0001 D.alphaN0001 uucp -CN D.0001 0666 \"\" 0 rmail u" ∷ [])
    ≡ data_line ∷ text_line ∷ []
is_open = refl

is_over : file_lines [] (codes "C.N0001") 0 (codes "E D.0001 D.alphaN0001 uucp -CN D.0001 0666 \"\" 0 rmail u" ∷ []) ≡ []
is_over = refl

-- nothing goes with its data, and all with its execution file
data_is_sent : store_ops (data_job ∷ []) [] (data_line ∷ text_line ∷ []) ≡ []
data_is_sent = refl

all_is_sent : store_ops (text_job ∷ []) [] (text_line ∷ [])
    ≡ unlinked (spot rooms.Data (codes "D.0001")) ∷ folder_synced rooms.Data ∷ unlinked (spot rooms.Commands (codes "C.N0001")) ∷ []
all_is_sent = refl

-- where its data was refused it is preserved
data_is_refused : store_ops [] (data_job ∷ []) (data_line ∷ text_line ∷ [])
    ≡ renamed (spot rooms.Data (codes "D.0001")) (spot rooms.Preserved (codes "D.0001"))
    ∷ folder_synced rooms.Preserved ∷ folder_synced rooms.Data ∷ []
data_is_refused = refl

-- lines without copies that have the same words are each of its own file
abbrev two_of_one_word : List (List ℕ)
two_of_one_word = codes "S /srv/f1 ~/x1 uucp -c D.0 0644" ∷ codes "" ∷ codes "S /srv/f2 ~/x2 uucp -c D.0 0644" ∷ []

abbrev one_job : Job
one_job = job.Send (codes "/srv/f1") (codes "~/x1") (codes "uucp") None

abbrev other_job : Job
other_job = job.Send (codes "/srv/f2") (codes "~/x2") (codes "uucp") None

abbrev one_line : OpenLine
one_line = line_of (codes "C.N0003") 0 None (Some one_job)

abbrev other_line : OpenLine
other_line = line_of (codes "C.N0003") 2 None (Some other_job)

each_its_own : file_lines [] (codes "C.N0003") 0 two_of_one_word ≡ one_line ∷ other_line ∷ []
each_its_own = refl

not_whole : offer_of (codes "S D.0003 ~/x uucp -c D.0 0644") ≡ Err why.Relative
not_whole = refl

-- the C. file keeps the one that is not over
the_other_stays : settling_ops (one_job ∷ []) [] (one_line ∷ other_line ∷ [])
    ((record { name = codes "C.N0003"; text = codes "S /srv/f1 ~/x1 uucp -c D.0 0644\n\nS /srv/f2 ~/x2 uucp -c D.0 0644\n" }) ∷ [])
    ≡ replaced_ops (spot rooms.Commands (codes "C.N0003")) (codes "S /srv/f2 ~/x2 uucp -c D.0 0644\n")
the_other_stays = refl

-- of two copies of one file with the same words the one goes that was sent
abbrev first_copy : Job
first_copy = job.Send (codes "/a") (codes "~/a") (codes "uucp") (Some (codes "D.0002"))

abbrev second_copy : Job
second_copy = job.Send (codes "/a") (codes "~/a") (codes "uucp") (Some (codes "D.0003"))

abbrev first_line : OpenLine
first_line = line_of (codes "C.N0002") 0 (Some (codes "D.0002")) (Some first_copy)

abbrev second_line : OpenLine
second_line = line_of (codes "C.N0002") 1 (Some (codes "D.0003")) (Some second_copy)

the_second_is_sent : lines_left (second_copy ∷ []) (first_line ∷ second_line ∷ []) ≡ first_line ∷ []
the_second_is_sent = refl

its_copy_goes : store_ops (second_copy ∷ []) [] (first_line ∷ second_line ∷ [])
    ≡ unlinked (spot rooms.Data (codes "D.0003")) ∷ folder_synced rooms.Data ∷ []
its_copy_goes = refl

-- a mail: its data, and then its execution file, which leaves the marker of the data
abbrev text_bytes : List ℕ
text_bytes = codes "U uucp alpha\nF D.alphaN0001\nI D.alphaN0001\nC rmail u\n"

abbrev none_came : List (Came (Unit {0}))
none_came = []

abbrev after_data : Marks
after_data = marks_after no_marks none_came (spot rooms.Data (codes "D.alphaN0001")) (codes "a mail")

data_has_come : after_data ≡ record { before = None; last = Some (codes "D.alphaN0001"); is_new = true }
unfolding rsplit_once
data_has_come = refl

both_have_come : marks_after after_data none_came (spot rooms.Execution (codes "X.alphaN0002")) text_bytes
    ≡ record { before = Some (codes "D.alphaN0001"); last = Some (codes "X.alphaN0002"); is_new = false }
unfolding rsplit_once
both_have_come = refl

-- the next data shows that the sender knows of both
next_comes : end_ops (marks_after after_data none_came (spot rooms.Execution (codes "X.alphaN0002")) text_bytes)
    ≡ unlinked (spot rooms.Marked (codes "D.alphaN0001")) ∷ unlinked (spot rooms.Marked (codes "X.alphaN0002")) ∷ []
unfolding rsplit_once
next_comes = refl

-- whatever markers stand, an execution file whose data is new is new
new_with_its_data : {A : Type 0} (came : List (Came A)) → is_again rooms.Execution after_data.is_new came (codes "X.alphaN0001") text_bytes ≡ false
new_with_its_data came = refl

-- the same text names its data, so it is dropped under another name
names_its_data : names_data text_bytes ≡ true
names_its_data = refl

names_nothing : names_data (codes "U uucp alpha\nC rmail u\n") ≡ false
names_nothing = refl

-- ---- places

abbrev public : Public
public = record { folders = codes "in" ∷ codes "shut" ∷ codes "in/deep" ∷ codes "sealed" ∷ codes "/home/ftp" ∷ codes "/home/ftp/in" ∷ []; others = codes "theirs" ∷ codes "in/theirs" ∷ codes "in/f" ∷ []; barred = codes "theirs" ∷ codes "in/theirs" ∷ codes "sealed" ∷ codes "/home/ftp/theirs" ∷ []; is_closed = false; delayed = codes "late" ∷ codes "~/in/late" ∷ []; is_unknown = false; taken = codes "~ !~/shut /home/ftp/in" }

-- one in which this program may create nothing
abbrev closed_public : Public
closed_public = record public { is_closed = true }

record AreLanded : Type 0 where
  home : landing public (codes "/srv/f") (codes "~/") ≡ codes "~/f"
  root : landing public (codes "/srv/f") (codes "/") ≡ codes "~/f"
  folder : landing public (codes "/srv/f") (codes "~/in") ≡ codes "~/in/f"
  folder_slash : landing public (codes "f") (codes "~/in/") ≡ codes "~/in/f"
  file : landing public (codes "/srv/f") (codes "~/x") ≡ codes "~/x"
  deeper : landing public (codes "/srv/f") (codes "~/in/deep") ≡ codes "~/in/deep/f"
  new_folder : landing public (codes "/srv/f") (codes "~/out/") ≡ codes "~/out/f"
  no_folder : landing public (codes "/srv/f") (codes "~/out") ≡ codes "~/out"
  whole_folder : landing public (codes "/srv/f") (codes "/in/") ≡ codes "~/in/f"
  whole_path : landing public (codes "/srv/f") (codes "/etc/") ≡ codes "/etc/"
  mail : landing public (codes "D.0001") (codes "D.alphaN0001") ≡ codes "D.alphaN0001"
  upwards : place_in public (landing public (codes "/srv/..") (codes "~/")) ≡ None
  hidden : place_in public (landing public (codes "/srv/.f") (codes "~/in")) ≡ None
  elsewhere : landing public (codes "/srv/f") (codes "/home/ftp") ≡ codes "/home/ftp/f"
  elsewhere_slash : landing public (codes "/srv/f") (codes "/home/ftp/in/") ≡ codes "/home/ftp/in/f"
  elsewhere_new : landing public (codes "/srv/f") (codes "/home/ftp/new/") ≡ codes "/home/ftp/new/"

are_landed : AreLanded
unfolding rsplit_once
are_landed = record {
  home = refl;
  root = refl;
  folder = refl;
  folder_slash = refl;
  file = refl;
  deeper = refl;
  new_folder = refl;
  no_folder = refl;
  whole_folder = refl;
  whole_path = refl;
  mail = refl;
  upwards = refl;
  hidden = refl;
  elsewhere = refl;
  elsewhere_slash = refl;
  elsewhere_new = refl;
}

record ArePlaced : Type 0 where
  data_of_ours : place_in public (codes "D.0001") ≡ None
  mail : place_in public (codes "D.alphaN0001") ≡ Some (spot rooms.Data (codes "D.alphaN0001"))
  plain : place_in public (codes "~/x") ≡ Some (spot rooms.Public (codes "x"))
  no_data : place_in public (codes "~/D.alphaN0001") ≡ None
  a_folder : place_in public (codes "~/in") ≡ None
  taken : place_in public (codes "~/theirs") ≡ None
  below : place_in public (codes "~/in/x") ≡ Some (spot rooms.Public (codes "in/x"))
  taken_below : place_in public (codes "~/in/theirs") ≡ None
  new_folder : place_in public (codes "~/out/x") ≡ Some (spot rooms.Public (codes "out/x"))
  new_below : place_in public (codes "~/out/more/x") ≡ Some (spot rooms.Public (codes "out/more/x"))
  deeper : place_in public (codes "~/in/deep/x") ≡ Some (spot rooms.Public (codes "in/deep/x"))
  whole_path : place_in public (codes "/etc/x") ≡ None
  whole_below : place_in public (codes "/in/x") ≡ Some (spot rooms.Public (codes "in/x"))
  a_deep_folder : place_in public (codes "~/in/deep") ≡ None
  in_a_file : place_in public (codes "~/theirs/x") ≡ None
  below_a_file : place_in public (codes "~/in/theirs/more/x") ≡ None
  in_no_file : place_in public (codes "~/theirs2/x") ≡ Some (spot rooms.Public (codes "theirs2/x"))
  closed : place_in closed_public (codes "~/out/x") ≡ None
  closed_above : place_in closed_public (codes "~/in/x") ≡ Some (spot rooms.Public (codes "in/x"))
  two_slashes : place_in public (codes "~/in//x") ≡ None
  hidden_folder : place_in public (codes "~/.in/x") ≡ None
  upwards : place_in public (codes "~/in/../x") ≡ None
  hidden : place_in public (codes "~/in/.x") ≡ None
  no_name : place_in public (codes "~/in/") ≡ None
  temp : temp_name (spot rooms.Public (codes "in/x")) ≡ codes "x"
  sealed : place_in public (codes "~/sealed/x") ≡ None
  elsewhere : place_in public (codes "/home/ftp/x") ≡ Some (spot rooms.Public (codes "/home/ftp/x"))
  elsewhere_below : place_in public (codes "/home/ftp/in/x") ≡ Some (spot rooms.Public (codes "/home/ftp/in/x"))
  elsewhere_folder : place_in public (codes "/home/ftp/in") ≡ None
  elsewhere_taken : place_in public (codes "/home/ftp/theirs") ≡ None
  elsewhere_new : place_in public (codes "/home/ftp/new/x") ≡ None
  elsewhere_hidden : place_in public (codes "/home/ftp/.x") ≡ None
  elsewhere_upwards : place_in public (codes "/home/ftp/../x") ≡ None
  elsewhere_same_front : place_in public (codes "/home/ftp2/x") ≡ None
  elsewhere_temp : temp_name (spot rooms.Public (codes "/home/ftp/x")) ≡ codes "x"

are_placed : ArePlaced
unfolding rsplit_once
are_placed = record {
  data_of_ours = refl;
  mail = refl;
  plain = refl;
  no_data = refl;
  a_folder = refl;
  taken = refl;
  below = refl;
  taken_below = refl;
  new_folder = refl;
  new_below = refl;
  deeper = refl;
  whole_path = refl;
  whole_below = refl;
  a_deep_folder = refl;
  in_a_file = refl;
  below_a_file = refl;
  in_no_file = refl;
  closed = refl;
  closed_above = refl;
  two_slashes = refl;
  hidden_folder = refl;
  upwards = refl;
  hidden = refl;
  no_name = refl;
  temp = refl;
  sealed = refl;
  elsewhere = refl;
  elsewhere_below = refl;
  elsewhere_folder = refl;
  elsewhere_taken = refl;
  elsewhere_new = refl;
  elsewhere_hidden = refl;
  elsewhere_upwards = refl;
  elsewhere_same_front = refl;
  elsewhere_temp = refl;
}

record AreTaken : Type 0 where
  top : takes public (codes "~/x") ≡ true
  below : takes public (codes "~/in/x") ≡ true
  shut : takes public (codes "~/shut/x") ≡ false
  shut_below : takes public (codes "~/shut/more/x") ≡ false
  new_folder : takes public (codes "~/out/x") ≡ true
  no_place : takes public (codes "~/theirs/x") ≡ false
  mail : takes public (codes "D.alphaN0001") ≡ true
  elsewhere : takes public (codes "/home/ftp/in/x") ≡ true
  elsewhere_unlisted : takes public (codes "/home/ftp/x") ≡ false

are_taken : AreTaken
unfolding rsplit_once
are_taken = record { top = refl; below = refl; shut = refl; shut_below = refl; new_folder = refl; no_place = refl; mail = refl; elsewhere = refl; elsewhere_unlisted = refl }

record ArePaths : Type 0 where
  top : is_public_path (codes "x") ≡ true
  below : is_public_path (codes "in/x") ≡ true
  hidden : is_public_path (codes ".x") ≡ false
  hidden_below : is_public_path (codes "in/.x") ≡ false
  hidden_folder : is_public_path (codes ".in/x") ≡ false
  deeper : is_public_path (codes "in/deep/x") ≡ true
  hidden_between : is_public_path (codes "in/.deep/x") ≡ false
  two_slashes : is_public_path (codes "in//x") ≡ false
  upwards : is_public_path (codes "../x") ≡ false
  mail : is_public_path (codes "D.alphaN0001") ≡ false
  late : delayed_in public (codes "~/late") (Some (codes "late")) ≡ true
  late_below : delayed_in public (codes "~/in/late") (Some (codes "in/late")) ≡ true
  no_late : delayed_in public (codes "~/in/x") (Some (codes "in/x")) ≡ false
  elsewhere : is_public_path (codes "/home/ftp/x") ≡ true
  elsewhere_top : is_public_path (codes "/x") ≡ false
  elsewhere_hidden : is_public_path (codes "/home/.ftp/x") ≡ false
  elsewhere_listed : all_elsewhere (words (codes "~ /home/ftp/ !/srv /home/.x / ~/in /srv/in")) ≡ codes "/home/ftp" ∷ codes "/srv/in" ∷ []

are_paths : ArePaths
unfolding rsplit_once
are_paths = record {
  top = refl;
  below = refl;
  hidden = refl;
  hidden_below = refl;
  hidden_folder = refl;
  deeper = refl;
  hidden_between = refl;
  two_slashes = refl;
  upwards = refl;
  mail = refl;
  late = refl;
  late_below = refl;
  no_late = refl;
  elsewhere = refl;
  elsewhere_top = refl;
  elsewhere_hidden = refl;
  elsewhere_listed = refl;
}
