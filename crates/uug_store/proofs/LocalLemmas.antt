-- One file more, under the name under which it came; and the name in the folder of a file that is asked for.
use Rattle.std.proofs.Common.{◌≡◌, ◌≢◌, ◌<◌, ℕ, nat_eq, Bool, true, false, if◌then◌else◌, List, [], ◌∷◌, ◌++◌, length, drop, map, codes, Option, Some, None, ap, refl, sym, subst, ◌∙◌, arith}
use Rattle.std.specs.List.{starts_with}
use Rattle.std.specs.Result.{result_ok}
use Rattle.std.proofs.lemmas.List.{length-drop, length-map}
use Rattle.std.proofs.lemmas.List.Elements.{All-drop}
use Rattle.uug_talk.specs.Name.{IsName, IsNameByte, name_of}
use Rattle.uug_talk.proofs.NameLemmas.{name_read-of}
use Rattle.uug_store.specs.FolderFiles.{FolderFiles}
use Rattle.uug_store.specs.Folders.{folder_holdings, is_hidden}
use Rattle.uug_conversation.specs.Holdings.{Holdings, Kept, kept_file}
use Rattle.uug_conversation.specs.MemoryHoldings.{kept_of}
use Rattle.uug_conversation.specs.Partial.{Partial}
use Rattle.uug_store.specs.LocalFiles.{LocalFiles}
use Rattle.uug_conversation.specs.declared.file_limit.FileLimit.{FileLimit}
use Rattle.uug_store.specs.LocalNames.{StandUnder, behind_root, holdings_here, in_folder, kept_here, local_holdings, local_name, local_source, renamed}

one_more : (names : List (List ℕ)) (files : List Kept) (name : List ℕ) (file : Kept) → length names ≡ length files
    → renamed (names ++ name ∷ []) (files ++ file ∷ []) ≡ renamed names files ++ kept_file name file.mode file.bytes ∷ []
one_more [] [] name file same = refl
one_more [] (f ∷ files) name file same = absurd (omega (arith, same))
one_more (n ∷ names) [] name file same = absurd (omega (arith, same))
one_more (n ∷ names) (f ∷ files) name file same =
    ap (λ (rest : List Kept). kept_file n f.mode f.bytes ∷ rest) (one_more names files name file (omega (arith, same)))

-- as many names as files
pub as_many : (names : List (List ℕ)) (files : List Kept) → StandUnder names files → length names ≡ length files
as_many names files stand =
    sym (length-map names local_name) ∙ ap length stand ∙ length-map files (λ (file : Kept). Some file.name)

-- what is given and taken stays where the folder's stays
pub holdings_stay : {F A : Type 0} (barred : F → List ℕ → Bool) (files : FolderFiles F A) (names delayed : List (List ℕ)) (partials : Option (List Partial)) (lenient digests : Bool) (limit : FileLimit)
    (now : LocalFiles F A) (h : Holdings)
    → record { files = files; names = names; delayed = delayed; partials = partials; lenient = lenient; digests = digests; limit = limit } ≡ now
    → h ≡ folder_holdings (barred files.folder) (map kept_of files.files)
    → local_holdings lenient digests limit.bytes delayed partials h ≡ holdings_here barred now
holdings_stay barred files names delayed partials lenient digests limit now h view stay =
    subst (λ (s : LocalFiles _ _). local_holdings lenient digests limit.bytes delayed partials h ≡ holdings_here barred s) view (ap (λ (l : Holdings). local_holdings lenient digests limit.bytes delayed partials l) stay)

pub kept_more : {F A : Type 0} (files files_after : FolderFiles F A) (names names_after delayed : List (List ℕ)) (partials : Option (List Partial)) (lenient digests : Bool) (limit : FileLimit)
    (now : LocalFiles F A) (name local : List ℕ) (mode : ℕ) (bytes : List ℕ)
    → record { files = files; names = names; delayed = delayed; partials = partials; lenient = lenient; digests = digests; limit = limit } ≡ now
    → length names ≡ length files.stored → names_after ≡ names ++ name ∷ []
    → files_after.stored ≡ files.stored ++ kept_file local mode bytes ∷ []
    → renamed names_after files_after.stored ≡ kept_here now ++ kept_file name mode bytes ∷ []
kept_more files files_after names names_after delayed partials lenient digests limit now name local mode bytes view same named kept =
    let whole = one_more names files.stored name (kept_file local mode bytes) same in
    subst (λ (s : LocalFiles _ _). renamed names_after files_after.stored ≡ kept_here s ++ kept_file name mode bytes ∷ []) view
    (ap (λ (n : List (List ℕ)). renamed n files_after.stored) named
    ∙ ap (λ (k : List Kept). renamed (names ++ name ∷ []) k) kept ∙ whole)

-- ---- the name in the folder of a file that is asked for

some_byte : (bytes : List ℕ) → bytes ≢ [] → 0 < length bytes
some_byte [] some = absurd (some refl)
some_byte (b ∷ bytes) some = omega arith

behind_is : (n : ℕ) (name : List ℕ) → IsName name → drop n name ≢ [] → IsName (drop n name)
behind_is n name named some = record {
  some = some_byte (drop n name) some;
  short = omega (arith, length-drop n name, named.short);
  printing = All-drop IsNameByte n name named.printing;
}

by_roots : (home root : Bool) (name : List ℕ) → IsName name
    → (if home then drop 2 name else (if root then drop 1 name else name)) ≢ []
    → IsName (if home then drop 2 name else (if root then drop 1 name else name))
by_roots true root name named some = behind_is 2 name named some
by_roots false true name named some = behind_is 1 name named some
by_roots false false name named some = named

-- what stands behind the root in a name is a name, where anything does
behind_is_name : (name local : List ℕ) → IsName name → local ≡ behind_root name → local ≢ [] → IsName local
behind_is_name name local named is some =
    subst IsName (sym is) (by_roots (starts_with nat_eq name (codes "~/")) (starts_with nat_eq name (codes "/")) name named (λ none. some (is ∙ none)))

read_as : (local : List ℕ) → IsName local → name_of local ≡ Some local
read_as local named = ap result_ok (name_read-of local named)

by_name : (found : Option (List ℕ)) (local : List ℕ) (hidden : Bool) → found ≡ Some local → is_hidden local ≡ hidden
    → in_folder found ≡ (if hidden then None else Some local)
by_name found local hidden some h = ap in_folder some ∙ ap (λ (b : Bool). if b then None else Some local) h

pub source_is : (name local : List ℕ) (hidden : Bool) → IsName name → local ≡ behind_root name → local ≢ [] → is_hidden local ≡ hidden
    → local_source name ≡ (if hidden then None else Some local)
source_is name local hidden named is some h =
    ap (λ w. in_folder (name_of w)) (sym is)
    ∙ by_name (name_of local) local hidden (read_as local (behind_is_name name local named is some)) h
