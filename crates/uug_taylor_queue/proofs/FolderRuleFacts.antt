-- Lists of folders, and what they allow, that are known, so that a wrong definition does not check.
use Rattle.std.proofs.Common.{◌≡◌, codes, true, false, refl}
use Rattle.uug_taylor_queue.specs.FolderRules.{is_allowed}

record AreAllowed : Type 0 where
  all : is_allowed (codes "~") (codes "x") ≡ true
  all_below : is_allowed (codes "~") (codes "in/x") ≡ true
  none : is_allowed (codes "") (codes "x") ≡ false
  none_by_word : is_allowed (codes "none") (codes "x") ≡ false
  narrowed : is_allowed (codes "~ !~/in") (codes "in/x") ≡ false
  narrowed_beside : is_allowed (codes "~ !~/in") (codes "x") ≡ true
  narrowed_same_front : is_allowed (codes "~ !~/in") (codes "inner/x") ≡ true
  narrowed_file : is_allowed (codes "~ !~/in") (codes "in") ≡ false
  alone : is_allowed (codes "~/in") (codes "in/x") ≡ true
  alone_beside : is_allowed (codes "~/in") (codes "out/x") ≡ false
  alone_above : is_allowed (codes "~/in") (codes "x") ≡ false
  slash_last : is_allowed (codes "~/in/") (codes "in/x") ≡ true
  slash_last_beside : is_allowed (codes "~/in/") (codes "inner/x") ≡ false
  slash_last_barred : is_allowed (codes "~/ !~/in/") (codes "in/x") ≡ false
  last_decides : is_allowed (codes "!~/in ~") (codes "in/x") ≡ true
  barred_at_first : is_allowed (codes "!~/in") (codes "x") ≡ false
  elsewhere : is_allowed (codes "/srv") (codes "/srv/x") ≡ true
  elsewhere_deep : is_allowed (codes "/srv/") (codes "/srv/in/x") ≡ true
  elsewhere_same_front : is_allowed (codes "/srv") (codes "/srv2/x") ≡ false
  elsewhere_barred : is_allowed (codes "/srv !/srv/in") (codes "/srv/in/x") ≡ false
  elsewhere_of_all : is_allowed (codes "~ ~/") (codes "/srv/x") ≡ false
  elsewhere_by_its_name : is_allowed (codes "~/srv") (codes "/srv/x") ≡ false
  below_of_elsewhere : is_allowed (codes "/srv") (codes "srv/x") ≡ false

allowed : AreAllowed
allowed = record {
  all = refl;
  all_below = refl;
  none = refl;
  none_by_word = refl;
  narrowed = refl;
  narrowed_beside = refl;
  narrowed_same_front = refl;
  narrowed_file = refl;
  alone = refl;
  alone_beside = refl;
  alone_above = refl;
  slash_last = refl;
  slash_last_beside = refl;
  slash_last_barred = refl;
  last_decides = refl;
  barred_at_first = refl;
  elsewhere = refl;
  elsewhere_deep = refl;
  elsewhere_same_front = refl;
  elsewhere_barred = refl;
  elsewhere_of_all = refl;
  elsewhere_by_its_name = refl;
  below_of_elsewhere = refl;
}
