-- Shows that what is held under a key is what was put there, and that nothing done with another key changes it.
use Rattle.std.proofs.Common.{◌≡◌, Bool, true, false, List, [], ◌∷◌, ◌++◌, filter, not, bytes_eq, if◌then◌else◌, refl, ap, ap₂, ◌∙◌}
use Rattle.std.proofs.lemmas.Bool.Decides.{Decides-and, Decides-like}
use Rattle.std.specs.Bool.{Decides}
use Rattle.std.specs.Cmp.Lexicographic.{bytes_decides}
use Rattle.uug_conversation.specs.declared.partial_file.PartialFile.{PartialFile}
use Rattle.uug_conversation.specs.Partial.{Key, Partial}
use Rattle.uug_conversation.specs.Partials.{bytes_under, is_key, put, without}
use Rattle.uug_conversation.specs.PartialView.{partial_of, partials_of}
use Rattle.uug_conversation.specs.Told.{is_same}
use Rattle.uug_conversation.proofs.ToldLemmas.{same_decides}

-- ---- keys

same_parts : (a b : Key) → a.source ≡ b.source → a.told ≡ b.told → a ≡ b
same_parts a b s t = ap₂ (λ source told. record { source = source; told = told }) s t

pub key_decides : (a b : Key) → Decides (is_key a b) (a ≡ b)
key_decides a b =
    Decides-like (is_key a b) (λ h. same_parts a b h.0 h.1) (λ e. (ap (λ (k : Key). k.source) e, ap (λ (k : Key). k.told) e))
    (Decides-and (bytes_eq a.source b.source) (is_same a.told b.told) (bytes_decides a.source b.source) (same_decides a.told b.told))

is_own : (key : Key) → is_key key key ≡ true
is_own key = (key_decides key key).1 refl

-- ---- what is dropped

own_step : (b : Bool) (key : Key) (p : Partial) (ps : List Partial) → is_key p.key key ≡ b → bytes_under key (without key ps) ≡ []
    → bytes_under key (without key (p ∷ ps)) ≡ []
own_step true key p ps e h = rw e h
own_step false key p ps e h = rw (e, e) h

pub nothing_under : (key : Key) (ps : List Partial) → bytes_under key (without key ps) ≡ []
nothing_under key [] = refl
nothing_under key (p ∷ ps) = own_step (is_key p.key key) key p ps refl (nothing_under key ps)

other_step : (b : Bool) (key other : Key) (p : Partial) (ps : List Partial) → is_key other key ≡ false → is_key p.key other ≡ b
    → bytes_under key (without other ps) ≡ bytes_under key ps → bytes_under key (without other (p ∷ ps)) ≡ bytes_under key (p ∷ ps)
other_step true key other p ps n e h =
    let not_this : is_key p.key key ≡ false = ap (λ k. is_key k key) ((key_decides p.key other).0 e) ∙ n in
    rw (e, not_this) h
other_step false key other p ps n e h = rw e (ap (λ z. if is_key p.key key then p.bytes else z) h)

pub others_stay : (key other : Key) (ps : List Partial) → is_key other key ≡ false → bytes_under key (without other ps) ≡ bytes_under key ps
others_stay key other [] n = refl
others_stay key other (p ∷ ps) n = other_step (is_key p.key other) key other p ps n refl (others_stay key other ps n)

-- ---- what is put

put_step : (b : Bool) (p q : Partial) (qs : List Partial) → is_key q.key p.key ≡ b → bytes_under p.key (put p qs) ≡ p.bytes
    → bytes_under p.key (put p (q ∷ qs)) ≡ p.bytes
put_step true p q qs e h = rw e h
put_step false p q qs e h = rw (e, e) h

pub put_is_held : (p : Partial) (ps : List Partial) → bytes_under p.key (put p ps) ≡ p.bytes
put_is_held p [] = rw (is_own p.key) refl
put_is_held p (q ∷ qs) = put_step (is_key q.key p.key) p q qs refl (put_is_held p qs)

behind_others : (key : Key) (p : Partial) (ps : List Partial) → is_key p.key key ≡ false → bytes_under key (ps ++ p ∷ []) ≡ bytes_under key ps
behind_others key p [] n = rw n refl
behind_others key p (q ∷ qs) n = ap (λ z. if is_key q.key key then q.bytes else z) (behind_others key p qs n)

pub put_displaces_none : (key : Key) (p : Partial) (ps : List Partial) → is_key p.key key ≡ false → bytes_under key (put p ps) ≡ bytes_under key ps
put_displaces_none key p ps n = behind_others key p (without p.key ps) n ∙ others_stay key p.key ps n

-- ---- how the program keeps them

abbrev pub stays : {A : Type 0} → Key → PartialFile A → Bool
stays key file = not (is_key (partial_of file).key key)

view_step : {A : Type 0} (b : Bool) (key : Key) (file : PartialFile A) (files : List (PartialFile A)) → is_key (partial_of file).key key ≡ b
    → partials_of (filter (stays key) files) ≡ without key (partials_of files)
    → partials_of (filter (stays key) (file ∷ files)) ≡ without key (partials_of (file ∷ files))
view_step true key file files e h = rw e h
view_step false key file files e h = rw e (ap (λ z. partial_of file ∷ z) h)

pub view_without : {A : Type 0} (key : Key) (files : List (PartialFile A)) → partials_of (filter (stays key) files) ≡ without key (partials_of files)
view_without key [] = refl
view_without key (file ∷ files) = view_step (is_key (partial_of file).key key) key file files refl (view_without key files)
