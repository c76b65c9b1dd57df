-- Where the folders and files of a spool are (as in Taylor UUCP, each system has a folder, with one for each kind of
-- its files; the folders whose names begin with a dot are Taylor UUCP's too, except that here each system has its own
-- in .Temp and .Received; Taylor UUCP has no .Partial).
use Rattle.std.specs.Prelude.{ℕ, List, ◌++◌, codes, string_bytes, if◌then◌else◌}
use Rattle.uug_taylor_text.specs.SpoolNames.{begins_with}
use Rattle.uug_taylor_text.specs.declared.spool_names.Room.{Room}
use Rattle.uug_taylor_text.specs.declared.spool_names.Room.TheVariants as rooms
use Rattle.uug_taylor_text.specs.declared.spool_names.Spot.{Spot}
use Rattle.uug_taylor_disk.specs.declared.spool_paths.SpoolPaths.{SpoolPaths}

-- the folder of a room, by the path of the spool, the name of the system, and the path of the public folder
abbrev pub room_at : (spool system public : List ℕ) → Room → List ℕ
room_at spool system public rooms.Commands = spool ++ codes "/" ++ system ++ codes "/C."
room_at spool system public rooms.Data = spool ++ codes "/" ++ system ++ codes "/D."
room_at spool system public rooms.Text = spool ++ codes "/" ++ system ++ codes "/D.X"
room_at spool system public rooms.Execution = spool ++ codes "/" ++ system ++ codes "/X."
room_at spool system public rooms.Public = public
room_at spool system public rooms.Temporary = spool ++ codes "/.Temp/" ++ system
room_at spool system public rooms.Marked = spool ++ codes "/.Received/" ++ system
room_at spool system public rooms.Preserved = spool ++ codes "/.Preserve"

abbrev pub room_path : {A : Type 0} → SpoolPaths A → Room → List ℕ
room_path paths room = room_at (string_bytes paths.spool) paths.system (string_bytes paths.public) room

-- the folder with the partial files of this system
abbrev pub partial_path : {A : Type 0} → SpoolPaths A → List ℕ
partial_path paths = string_bytes paths.spool ++ codes "/.Partial/" ++ paths.system

-- a file outside the public folder is named by its whole path
abbrev pub below_public : (public name : List ℕ) → List ℕ
below_public public name = if begins_with (codes "/") name then name else public ++ codes "/" ++ name

-- all systems share the folder of preserved files, and may have data of the same names
abbrev pub preserved_in : (folder system name : List ℕ) → List ℕ
preserved_in folder system name = folder ++ codes "/" ++ system ++ codes "." ++ name

abbrev pub file_at : (folder system : List ℕ) → Room → (name : List ℕ) → List ℕ
file_at folder system rooms.Preserved name = preserved_in folder system name
file_at folder system rooms.Public name = below_public folder name
file_at folder system _ name = folder ++ codes "/" ++ name

abbrev pub file_path : {A : Type 0} → SpoolPaths A → Spot → List ℕ
file_path paths spot = file_at (room_path paths spot.room) paths.system spot.room spot.name
