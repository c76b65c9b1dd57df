use Rattle.std.proofs.Common.{rules, ◌≡◌, ◌∙◌, ◌++◌, codes, List, ℕ, ap, refl, sym}
use Rattle.uug_taylor_text.specs.declared.spool_names.Room.{Room}
use Rattle.uug_taylor_text.specs.declared.spool_names.Room.TheVariants as rooms
use Rattle.uug_taylor_disk.specs.Paths.{file_at, room_path}
use Rattle.uug_taylor_disk.proofs.spool_paths.SpoolPaths.file.Goals.{in-Preserved+in_ok-path-in-Preserved, in-Public+in_ok-path-in-Public, in_default+in_ok-path-in_default}
use Rattle.uug_taylor_disk.proofs.spool_paths.SpoolPaths.file.Goals as goal

by_room : (path folder system name : List ℕ) (known room : Room) → room ≡ known → path ≡ file_at folder system known name → path ≡ file_at folder system room name
by_room path folder system name known room h k = k ∙ sym (ap (λ r. file_at folder system r name) h)

plain : (path folder system name : List ℕ) (room : Room) → (room ≡ rooms.Preserved → ⊥) → (room ≡ rooms.Public → ⊥) → path ≡ folder ++ codes "/" ++ name → path ≡ file_at folder system room name
plain path folder system name rooms.Preserved h k p = absurd (h refl)
plain path folder system name rooms.Public h k p = absurd (k refl)
plain path folder system name rooms.Commands h k p = p
plain path folder system name rooms.Data h k p = p
plain path folder system name rooms.Text h k p = p
plain path folder system name rooms.Execution h k p = p
plain path folder system name rooms.Temporary h k p = p
plain path folder system name rooms.Marked h k p = p

pub returns : goal.returns
returns g c = let folder = room_path c.args.self.now c.args.spot.now.room in let system = c.args.self.now.system in let name = c.args.spot.now.name in
    elim c.match-spot.branch [
      | in-Preserved+in_ok-path-in-Preserved w ↦ by_room _ folder system name rooms.Preserved _ (search rules) (search rules)
      | in-Public+in_ok-path-in-Public w ↦ by_room _ folder system name rooms.Public _ (search rules) (search rules)
      | in_default+in_ok-path-in_default w ↦ plain _ folder system name _ w.in_default.not-Preserved w.in_default.not-Public (search rules)
    ]
