-- Orders whose jobs are known, names of copies, and texts with one job more, so that a wrong definition does not check.
use Rattle.std.proofs.Common.{◌≡◌, true, false, [], ◌∷◌, codes, Some, None, Ok, Err, refl}
use Rattle.std.specs.Fmt.{digits}
use Rattle.uug_conversation.specs.declared.job.Job.{Job}
use Rattle.uug_conversation.specs.declared.job.Job.TheVariants.{Send, Request}
use Rattle.uug_talk.specs.Lines.{ended}
use Rattle.uug_store.specs.Queueing.{appended, base_name, gives, last_part, nth_name, ordered, queued_line, target_with, user_by, user_with}
use Rattle.uug_store.specs.declared.queued.OrderFault.TheVariants as fault

abbrev sent : Job
sent = Send (codes "x") (codes "y") (codes "u") None

record AreNames : Type 0 where
  last : last_part (codes "/tmp/x") ≡ codes "x"
  no_slash : last_part (codes "x") ≡ codes "x"
  slash_behind : last_part (codes "tmp/") ≡ []
  base : base_name (codes "../x") ≡ Some (codes "x")
  hidden : base_name (codes "tmp/.x") ≡ None
  above : base_name (codes "..") ≡ None
  spaced : base_name (codes "a b") ≡ None
  own_name : nth_name (codes "x") 0 ≡ Some (codes "x")
  user : user_by None (Some (codes "l")) ≡ codes "l"
  no_user : user_by None None ≡ codes "uucp"

names : AreNames
names = record {
  last = refl;
  no_slash = refl;
  slash_behind = refl;
  base = refl;
  hidden = refl;
  above = refl;
  spaced = refl;
  own_name = refl;
  user = refl;
  no_user = refl;
}

third_name : nth_name (codes "x") 2 ≡ Some (codes "x.2")
unfolding digits
third_name = refl

record AreOrders : Type 0 where
  send : ordered (codes "send") (codes "/tmp/x") (Some (codes "y")) (Some (codes "u")) ≡ Ok sent
  request : ordered (codes "request") (codes "~/x") (target_with None (codes "~/x")) (user_with None (codes "u"))
      ≡ Ok (Request (codes "~/x") (codes "x") (codes "u"))
  no_file : ordered (codes "send") [] (Some (codes "y")) (Some (codes "u")) ≡ Err fault.File
  bad_target : ordered (codes "send") (codes "x") (target_with (Some (codes "a b")) (codes "x")) (Some (codes "u")) ≡ Err fault.Target
  bad_user : ordered (codes "send") (codes "x") (Some (codes "y")) (user_with (Some []) (codes "u")) ≡ Err fault.User
  other : ordered (codes "fetch") (codes "x") (Some (codes "y")) (Some (codes "u")) ≡ Err fault.Word

orders : AreOrders
orders = record {
  send = refl;
  request = refl;
  no_file = refl;
  bad_target = refl;
  bad_user = refl;
  other = refl;
}

record AreAppended : Type 0 where
  first : appended [] sent ≡ ended (codes "send x y u")
  behind : appended (ended (codes "a")) sent ≡ ended (codes "send x y u")
  no_feed : appended (codes "a") sent ≡ 10 ∷ ended (codes "send x y u")
  said : queued_line sent ≡ ended (codes "queued send x y u")
  given : gives (codes "x") sent ≡ true
  not_given : gives (codes "y") sent ≡ false

texts : AreAppended
texts = record {
  first = refl;
  behind = refl;
  no_feed = refl;
  said = refl;
  given = refl;
  not_given = refl;
}
