-- When one end, as it stands, accords with what is still to come of a conversation; and what follows of each front of it.
use Rattle.std.proofs.Common.{◌≡◌, ◌↔◌, ℕ, zero, suc, ◌≤◌, Bool, true, false, List, [], ◌∷◌, ◌++◌, length, take, refl, sym, ap, subst, ◌∙◌, arith}
use Rattle.std.proofs.lemmas.List.{append-nil, append_assoc}
use Rattle.uug_talk.specs.Chunks.{Measure}
use Rattle.uug_conversation.specs.declared.awaits.Awaits.TheVariants as awaits
use Rattle.uug_conversation.specs.Holdings.{Kept, Holdings}
use Rattle.uug_conversation.specs.Jobs.{Lists, Move, moved}
use Rattle.uug_conversation.specs.Left.{IsLeft, left_by, left_of}
use Rattle.uug_conversation.specs.Machine.{State, Reply, step}
use Rattle.uug_conversation.specs.Party.{Party}
use Rattle.uug_conversation.specs.Runs.{Progress, taking_all, has_said_all, is_over, is_bad}
use Rattle.uug_conversation.specs.Turns.{all_messages}
use Rattle.uug_conversation.specs.View.{Seen, says, hears, own_messages, others_messages, floor, moves_after, kept_after}

abbrev pub none_left : List (List ℕ) → Bool
none_left [] = true
none_left (m ∷ ms) = false

-- an end that awaits a message: it has said all that it may, and has parted where it has nothing more to say at all; and what is left
-- of a file, were the session to end now, is a front of it
pub record Listens (giver : Party) (h : Holdings) (s : State) (left : List (List ℕ)) (no_more : Bool) : Type 0 where
  pub nothing_left : left ≡ []
  pub not_over : is_over s.awaits ≡ false
  pub not_bad : is_bad s.awaits ≡ false
  pub parted : has_said_all s.awaits ≡ no_more
  pub fronts : IsLeft giver h (left_of h s)

-- what the message does
pub record Does (lists : Lists) (moves : List Move) (keeps : List Kept) (reply : Reply) : Type 0 where
  pub lists_moved : reply.state.lists ≡ moved moves lists
  pub kept : reply.keeps ≡ keeps

-- the end is in this state, has these messages left to say, and this is still to come
abbrev pub Accords : (giver : Party) → Holdings → Measure → State → (left : List (List ℕ)) → List Seen → Type 0
Accords giver h measure s left [] = (left ≡ []) × (s.awaits ≡ awaits.NothingMore)
Accords giver h measure s left (says bytes ∷ v) = (more : List (List ℕ)) × (left ≡ bytes ∷ more) × Accords giver h measure s more v
Accords giver h measure s left (hears bytes moves keeps ∷ v) =
    Listens giver h s left (none_left (own_messages v)) × Does s.lists moves keeps (step h s bytes)
    × Accords giver h measure (step h s bytes).state (all_messages measure (step h s bytes).says) v

-- ---- what follows of each front

-- the end's progress when the first k of the other's messages of what was to come are taken, by how it stood before
pub record Stands (giver : Party) (h : Holdings) (v : List Seen) (k : ℕ) (lists : Lists) (said : List (List ℕ)) (kept : List Kept) (p : Progress) : Type 0 where
  pub says_so : p.said ≡ said ++ take (floor k v) (own_messages v)
  pub lists_so : p.state.lists ≡ moved (moves_after k v) lists
  pub keeps_so : p.kept ≡ kept ++ kept_after k v
  pub good : is_bad p.state.awaits ≡ false
  pub over : (is_over p.state.awaits ≡ true) ↔ (length (others_messages v) ≤ k)
  pub parted : (has_said_all p.state.awaits ≡ true) ↔ (floor k v ≡ length (own_messages v))
  pub fronts : IsLeft giver h (left_of h p.state)

pub moved-append : (front back : List Move) (l : Lists) → moved (front ++ back) l ≡ moved back (moved front l)
moved-append [] back l = refl
moved-append (m ∷ front) back l = moved-append front back _

take-none : (k : ℕ) → take {A = List ℕ} k [] ≡ []
take-none zero = refl
take-none (suc k) = refl

none_left-length : (ms : List (List ℕ)) → (none_left ms ≡ true) ↔ (0 ≡ length ms)
none_left-length [] = (λ e. refl, λ e. refl)
none_left-length (m ∷ ms) = (λ e. absurd cc, λ e. absurd (omega (arith, e)))

pub stands : (giver p : Party) (v : List Seen) (k : ℕ) (s : State) (left said : List (List ℕ)) (kept : List Kept) →
    Accords giver p.holdings p.measure s left v →
    Stands giver p.holdings v k s.lists said kept
    (taking_all p (record { state = s; said = said ++ left; kept = kept }) (take k (others_messages v)))
stands giver p [] k s left said kept a =
    subst (λ ms. Stands giver p.holdings [] k s.lists said kept (taking_all p (record { state = s; said = said ++ left; kept = kept }) ms))
    (sym (take-none k))
    (record {
      says_so = ap (λ z. said ++ z) a.0;
      lists_so = refl;
      keeps_so = sym (append-nil kept);
      good = ap is_bad a.1;
      over = (λ e. omega arith, λ h. ap is_over a.1);
      parted = (λ e. refl, λ e. ap has_said_all a.1);
      fronts = subst (λ w. IsLeft giver p.holdings (left_by p.holdings w s.gathered)) (sym a.1) tt;
    })
stands giver p (says bytes ∷ v) k s left said kept a =
    let rest = stands giver p v k s a.0 (said ++ bytes ∷ []) kept a.2 in
    subst (λ z. Stands giver p.holdings (says bytes ∷ v) k s.lists said kept
    (taking_all p (record { state = s; said = z; kept = kept }) (take k (others_messages v))))
    (append_assoc said (bytes ∷ []) a.0 ∙ ap (λ z. said ++ z) (sym a.1))
    (record {
      says_so = rest.says_so ∙ append_assoc said (bytes ∷ []) (take (floor k v) (own_messages v));
      lists_so = rest.lists_so;
      keeps_so = rest.keeps_so;
      good = rest.good;
      over = rest.over;
      parted = (λ e. ap (λ n. suc n) (rest.parted.0 e), λ e. rest.parted.1 (omega (arith, e)));
      fronts = rest.fronts;
    })
stands giver p (hears bytes moves keeps ∷ v) zero s left said kept a = record {
  says_so = ap (λ z. said ++ z) a.0.nothing_left;
  lists_so = refl;
  keeps_so = sym (append-nil kept);
  good = a.0.not_bad;
  over = (λ e. absurd (let k : true ≡ false = sym e ∙ a.0.not_over in cc), λ h. absurd (omega (arith, h)));
  parted = (
    λ e. (none_left-length (own_messages v)).0 (sym a.0.parted ∙ e),
    λ e. a.0.parted ∙ (none_left-length (own_messages v)).1 e,
  );
  fronts = a.0.fronts;
}
stands giver p (hears bytes moves keeps ∷ v) (suc k) s left said kept a =
    let r = step p.holdings s bytes in
    let rest = stands giver p v k r.state (all_messages p.measure r.says) (said ++ left) (kept ++ r.keeps) a.2 in
    record {
      says_so = rest.says_so ∙ ap (λ z. z ++ take (floor k v) (own_messages v)) (ap (λ z. said ++ z) a.0.nothing_left ∙ append-nil said);
      lists_so = rest.lists_so ∙ ap (moved (moves_after k v)) a.1.lists_moved ∙ sym (moved-append moves (moves_after k v) s.lists);
      keeps_so = rest.keeps_so ∙ ap (λ z. kept ++ z ++ kept_after k v) a.1.kept ∙ append_assoc kept keeps (kept_after k v);
      good = rest.good;
      over = (λ e. omega (arith, rest.over.0 e), λ h. rest.over.1 (omega (arith, h)));
      parted = rest.parted;
      fronts = rest.fronts;
    }
