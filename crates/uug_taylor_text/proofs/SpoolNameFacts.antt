-- Names whose place is known, so that a wrong definition does not check.
use Rattle.std.proofs.Common.{◌≡◌, true, false, codes, Ok, Err, refl}
use Rattle.uug_taylor_text.specs.SpoolNames.{far_name, is_data_name, is_system_name, spot, spot_of}
use Rattle.uug_taylor_text.specs.declared.spool_names.Barred.TheVariants as barred
use Rattle.uug_taylor_text.specs.declared.spool_names.Room.TheVariants as rooms

record ArePlaces : Type 0 where
  mail : spot_of (codes "D.alphaN000A") ≡ Ok (spot rooms.Data (codes "D.alphaN000A"))
  execution : spot_of (codes "X.alphaN000A") ≡ Ok (spot rooms.Execution (codes "X.alphaN000A"))
  text : spot_of (codes "D.XalphaN01") ≡ Ok (spot rooms.Text (codes "D.XalphaN01"))
  public : spot_of (codes "~/x") ≡ Ok (spot rooms.Public (codes "x"))
  plain : spot_of (codes "x") ≡ Ok (spot rooms.Public (codes "x"))
  root : spot_of (codes "/x") ≡ Ok (spot rooms.Public (codes "x"))
  public_data : spot_of (codes "~/D.0001") ≡ Ok (spot rooms.Public (codes "D.0001"))

places : ArePlaces
places = record {
  mail = refl;
  execution = refl;
  text = refl;
  public = refl;
  plain = refl;
  root = refl;
  public_data = refl;
}

record AreBarred : Type 0 where
  own_data : spot_of (codes "D.0001") ≡ Err barred.Ours
  own_text : spot_of (codes "D.X000D") ≡ Err barred.Ours
  job : spot_of (codes "C.NCBAQriAAGAs") ≡ Err barred.Commands
  up : spot_of (codes "~/../x") ≡ Err barred.Path
  data_up : spot_of (codes "D./../x") ≡ Err barred.Path
  slash : spot_of (codes "D.a/b") ≡ Err barred.Path
  path : spot_of (codes "/etc/passwd") ≡ Err barred.Path
  other_home : spot_of (codes "~user/x") ≡ Err barred.Path
  folder : spot_of (codes "~/") ≡ Err barred.Path
  root : spot_of (codes "~") ≡ Err barred.Path
  hidden : spot_of (codes "~/.profile") ≡ Err barred.Hidden

bars : AreBarred
bars = record {
  own_data = refl;
  own_text = refl;
  job = refl;
  up = refl;
  data_up = refl;
  slash = refl;
  path = refl;
  other_home = refl;
  folder = refl;
  root = refl;
  hidden = refl;
}

record AreNames : Type 0 where
  own_data : is_data_name (codes "D.0001") ≡ true
  far_data : is_data_name (codes "D.alphaN0001") ≡ true
  no_data : is_data_name (codes "D.") ≡ false
  other : is_data_name (codes "X.alphaN0001") ≡ false
  path : is_data_name (codes "D.a/b") ≡ false
  system : is_system_name (codes "beta") ≡ true
  hidden : is_system_name (codes ".Temp") ≡ false
  folder : is_system_name (codes "a/b") ≡ false
  far : far_name 68 (codes "alpha") 78 (codes "000A") ≡ codes "D.alphaN000A"
  long : far_name 68 (codes "averylongnodename") 78 (codes "0001") ≡ codes "D.averyloN0001"

names : AreNames
names = record {
  own_data = refl;
  far_data = refl;
  no_data = refl;
  other = refl;
  path = refl;
  system = refl;
  hidden = refl;
  folder = refl;
  far = refl;
  long = refl;
}
