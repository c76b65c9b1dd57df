-- What was kept is what was put in the folder last.
use Rattle.std.proofs.Common.{◌≡◌, List, [], ◌∷◌, ◌++◌, map, Option, Some, None, sym, ap, subst, ◌∙◌, append_assoc}
use Rattle.std.proofs.lemmas.List.{append-nil, map-append}
use Rattle.uug_conversation.specs.Holdings.{Kept}
use Rattle.uug_store.specs.Folders.{Placed, EndsWith, also_placed, placed_of}

nothing_is_placed : (placed : Option (List Placed)) → EndsWith placed []
nothing_is_placed None = tt
nothing_is_placed (Some files) = (files, sym (append-nil files))

pub none_is_placed : (stored : List Kept) (placed : Option (List Placed)) → stored ≡ [] →
    EndsWith placed (map placed_of stored)
none_is_placed stored placed none =
    subst (λ l. EndsWith placed (map placed_of l)) (sym none) (nothing_is_placed placed)

also_ends_with : (file : Placed) (before : Option (List Placed)) (files : List Placed) → EndsWith before files → EndsWith (also_placed file before) (files ++ file ∷ [])
also_ends_with file None files h = tt
also_ends_with file (Some placed) files h =
    (h.0, ap (λ p. p ++ file ∷ []) h.1 ∙ append_assoc h.0 files (file ∷ []))

pub kept_is_placed : (kept new : List Kept) (k : Kept) (before after : Option (List Placed)) → EndsWith before (map placed_of kept) →
    new ≡ kept ++ k ∷ [] → after ≡ also_placed (placed_of k) before → EndsWith after (map placed_of new)
kept_is_placed kept new k before after h grown placed =
    subst (λ files. EndsWith after files) (sym (map-append placed_of kept (k ∷ [])) ∙ ap (map placed_of) (sym grown))
    (subst (λ p. EndsWith p (map placed_of kept ++ placed_of k ∷ [])) (sym placed)
    (also_ends_with (placed_of k) before (map placed_of kept) h))
