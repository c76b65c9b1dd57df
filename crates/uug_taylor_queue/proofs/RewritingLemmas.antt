-- C. files that are written anew, one after the other.
use Rattle.std.proofs.Common.{◌≡◌, List, [], ◌∷◌, ◌++◌, Option, map, refl, ap, subst, ◌∙◌}
use Rattle.uug_taylor_text.specs.DiskOrder.{replaced_ops}
use Rattle.uug_taylor_text.specs.Operations.{FrontDone, Op, also_all}
use Rattle.uug_taylor_text.specs.SpoolNames.{spot}
use Rattle.uug_taylor_text.specs.declared.spool_names.Room.TheVariants as rooms
use Rattle.uug_taylor_queue.specs.Rewriting.{FileText, replacing, shown_text}
use Rattle.uug_taylor_queue.specs.declared.command_text.CommandText.{CommandText}
use Rattle.uug_taylor_queue.proofs.OverLemmas.{AreLeft, fewer_are_left, some_are_done}

abbrev ops_of_file : FileText → List Op
ops_of_file f = replaced_ops (spot rooms.Commands f.name) f.text

pub one_more_is_replaced : {A : Type 0} (file : CommandText A) (others rest : List (CommandText A)) (all : List Op) (now next before : Option (List Op))
    → rest ≡ file ∷ others → AreLeft (replacing (map shown_text rest)) now all before
    → next ≡ also_all (replaced_ops (spot rooms.Commands file.name) file.text.items) now
    → AreLeft (replacing (map shown_text others)) next all before
one_more_is_replaced file others rest all now next before is h done =
    fewer_are_left (ops_of_file (shown_text file)) (replacing (map shown_text others)) all now next before
    (subst (λ (fs : List (CommandText _)). AreLeft (replacing (map shown_text fs)) now all before) is h) done

pub one_is_replaced_in_part : {A : Type 0} (file : CommandText A) (others rest : List (CommandText A)) (all : List Op) (now after before : Option (List Op))
    → rest ≡ file ∷ others → AreLeft (replacing (map shown_text rest)) now all before
    → FrontDone (replaced_ops (spot rooms.Commands file.name) file.text.items) now after
    → FrontDone all before after
one_is_replaced_in_part file others rest all now after before is h done =
    some_are_done (ops_of_file (shown_text file)) (replacing (map shown_text others)) all now after before
    (subst (λ (fs : List (CommandText _)). AreLeft (replacing (map shown_text fs)) now all before) is h) done
