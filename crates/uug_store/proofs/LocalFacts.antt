-- Names whose place in a folder is known, so that a wrong definition does not check.
use Rattle.std.proofs.Common.{◌≡◌, ℕ, Bool, true, false, List, [], ◌∷◌, codes, Option, Some, None, refl}
use Rattle.std.specs.Path.{rsplit_once}
use Rattle.std.specs.Str.{bytes_eq}
use Rattle.uug_store.specs.Folders.{folder_holdings}
use Rattle.uug_conversation.specs.Holdings.{File, Holdings, kept_file}
use Rattle.uug_conversation.specs.declared.verdict.Verdict.{Verdict}
use Rattle.uug_conversation.specs.declared.verdict.Verdict.TheVariants.{Yes, Never}
use Rattle.uug_store.specs.LocalNames.{local_holdings, local_name}

record AreLocal : Type 0 where
  plain : local_name (codes "y") ≡ Some (codes "y")
  public : local_name (codes "~/y") ≡ Some (codes "y")
  root : local_name (codes "/y") ≡ Some (codes "y")
  tilde : local_name (codes "~") ≡ Some (codes "~")
  public_alone : local_name (codes "~/") ≡ None
  root_alone : local_name (codes "/") ≡ None

local : AreLocal
local = record { plain = refl; public = refl; root = refl; tilde = refl; public_alone = refl; root_alone = refl }

abbrev source : List ℕ → Option File
source name = (local_holdings false false 9 [] None (folder_holdings (λ name. false) (kept_file (codes "y") 420 (codes "hi") ∷ []))).file name

abbrev hi : Option File
hi = Some (record { mode = 420; bytes = codes "hi" })

record AreGiven : Type 0 where
  plain : source (codes "y") ≡ hi
  public : source (codes "~/y") ≡ hi
  root : source (codes "/y") ≡ hi
  other : source (codes "~/x") ≡ None
  nameless : source (codes "~/") ≡ None

given : AreGiven
given = record { plain = refl; public = refl; root = refl; other = refl; nameless = refl }

-- whatever the folder has
record LeadOut (h : Holdings) : Type 0 where
  up : (local_holdings false false 9 [] None h).file (codes "../x") ≡ None
  deep : (local_holdings false false 9 [] None h).file (codes "/etc/x") ≡ None
  public_deep : (local_holdings false false 9 [] None h).file (codes "~/a/x") ≡ None
  home : (local_holdings false false 9 [] None h).file (codes "~user/x") ≡ None
  twice : (local_holdings false false 9 [] None h).file (codes "//x") ≡ None
  hidden : (local_holdings false false 9 [] None h).file (codes ".x") ≡ None
  public_hidden : (local_holdings false false 9 [] None h).file (codes "~/.x") ≡ None

lead_out : (h : Holdings) → LeadOut h
lead_out h = record {
  up = refl;
  deep = refl;
  public_deep = refl;
  home = refl;
  twice = refl;
  hidden = refl;
  public_hidden = refl;
}

abbrev verdict : List ℕ → Verdict
verdict name = (local_holdings false false 9 [] None (folder_holdings (λ name. false) [])).verdict name

record AreTaken : Type 0 where
  plain : verdict (codes "y") ≡ Yes
  public : verdict (codes "~/y") ≡ Yes
  root : verdict (codes "/y") ≡ Yes
  up : verdict (codes "../x") ≡ Never
  deep : verdict (codes "/etc/x") ≡ Never
  public_deep : verdict (codes "~/a/x") ≡ Never
  public_up : verdict (codes "~/../x") ≡ Never
  home : verdict (codes "~user/x") ≡ Never
  twice : verdict (codes "//x") ≡ Never
  hidden : verdict (codes "~/.x") ≡ Never
  nameless : verdict (codes "/") ≡ Never

taken : AreTaken
taken = record {
  plain = refl;
  public = refl;
  root = refl;
  up = refl;
  deep = refl;
  public_deep = refl;
  public_up = refl;
  home = refl;
  twice = refl;
  hidden = refl;
  nameless = refl;
}

-- a folder with a file that can't be given now
abbrev delayed : List ℕ → Bool
delayed name = (local_holdings false false 9 (codes "q" ∷ []) None (folder_holdings (λ name. false) [])).delayed name

record AreDelayed : Type 0 where
  plain : delayed (codes "q") ≡ true
  public : delayed (codes "~/q") ≡ true
  other : delayed (codes "z") ≡ false
  deep : delayed (codes "/etc/q") ≡ false

delays : AreDelayed
delays = record { plain = refl; public = refl; other = refl; deep = refl }

-- a folder that bars one name
abbrev immovable : List ℕ → Bool
immovable name = (local_holdings false false 9 [] None (folder_holdings (λ other. bytes_eq other (codes "f")) [])).immovable name

record AreBarred : Type 0 where
  plain : immovable (codes "f") ≡ true
  public : immovable (codes "~/f") ≡ true
  other : immovable (codes "~/g") ≡ false
  hidden : immovable (codes "~/.g") ≡ true
  deep : immovable (codes "a/f") ≡ true
  nameless : immovable (codes "~/") ≡ true

barred : AreBarred
barred = record { plain = refl; public = refl; other = refl; hidden = refl; deep = refl; nameless = refl }

abbrev landing : List ℕ → List ℕ → List ℕ
landing source target = (local_holdings false false 9 [] None (folder_holdings (λ name. false) [])).landing source target

record AreLanded : Type 0 where
  plain : landing (codes "/srv/f") (codes "y") ≡ codes "y"
  public : landing (codes "/srv/f") (codes "~/y") ≡ codes "~/y"
  root : landing (codes "/srv/f") (codes "/y") ≡ codes "/y"
  into_public : landing (codes "/srv/f") (codes "~/") ≡ codes "f"
  into_root : landing (codes "~/a/b/f") (codes "/") ≡ codes "f"
  plain_source : landing (codes "f") (codes "~/") ≡ codes "f"
  tilde : landing (codes "/srv/f") (codes "~") ≡ codes "~"
  deep : landing (codes "/srv/f") (codes "~/a/") ≡ codes "~/a/"
  nameless : landing (codes "/srv/") (codes "~/") ≡ codes "~/"
  hidden : verdict (landing (codes "/srv/.f") (codes "~/")) ≡ Never
  up : verdict (landing (codes "/srv/..") (codes "~/")) ≡ Never

landed : AreLanded
unfolding rsplit_once
landed = record {
  plain = refl;
  public = refl;
  root = refl;
  into_public = refl;
  into_root = refl;
  plain_source = refl;
  tilde = refl;
  deep = refl;
  nameless = refl;
  hidden = refl;
  up = refl;
}
