-- What goes out of an entry more.
use Rattle.std.proofs.Common.{◌≡◌, ℕ, ◌+◌, List, [], ◌∷◌, ◌++◌, drop, Option, Some, None, refl, sym, ap, ◌∙◌, add-one, append_assoc}
use Rattle.std.specs.Prelude.{slice_get}
use Rattle.uug_link.specs.Entries.{EntryValue, text, packet}
use Rattle.uug_link.proofs.OnTheLineLemmas.{drop_at}
use Rattle.uug_transfer.specs.Outgoing.{count_behind, count_with, emitted_bytes, outgoing_from, outgoing_of_entry}

pub drop_one : (es : List EntryValue) (i : ℕ) (e : EntryValue) → slice_get es i ≡ Some e → drop i es ≡ e ∷ drop (i + 1) es
drop_one es i e got = drop_at es i e got ∙ ap (λ (k : ℕ). e ∷ drop k es) (sym (add-one i))

-- what goes out of it, and then of those behind it, goes out of them all
pub one_goes : (d f d' f' : Option ℕ) (n n' : ℕ) (all rest : List EntryValue) (e : EntryValue) (out new : List ℕ)
    → all ≡ e ∷ rest → d' ≡ d → f' ≡ f → n' ≡ count_with n e → new ≡ out ++ outgoing_of_entry d f n e
    → new ++ outgoing_from d' f' n' rest ≡ out ++ outgoing_from d f n all
one_goes d f d' f' n n' all rest e out new all-is d-is f-is n-is new-is =
    let goes : outgoing_from d f n all ≡ outgoing_of_entry d f n e ++ outgoing_from d f (count_with n e) rest =
    ap (outgoing_from d f n) all-is in
    cc (append_assoc out (outgoing_of_entry d f n e) (outgoing_from d f (count_with n e) rest))

pub one_counts : (n n' : ℕ) (all rest : List EntryValue) (e : EntryValue) → all ≡ e ∷ rest → n' ≡ count_with n e
    → count_behind n' rest ≡ count_behind n all
one_counts n n' all rest e all-is n-is =
    let counted : count_behind n all ≡ count_behind (count_with n e) rest = ap (count_behind n) all-is in
    cc

pub one_more : (d f d' f' : Option ℕ) (n n' i : ℕ) (es : List EntryValue) (e : EntryValue) (out new : List ℕ)
    → slice_get es i ≡ Some e → d' ≡ d → f' ≡ f → n' ≡ count_with n e → new ≡ out ++ outgoing_of_entry d f n e
    → new ++ outgoing_from d' f' n' (drop (i + 1) es) ≡ out ++ outgoing_from d f n (drop i es)
one_more d f d' f' n n' i es e out new got =
    one_goes d f d' f' n n' (drop i es) (drop (i + 1) es) e out new (drop_one es i e got)

pub one_more_counted : (n n' i : ℕ) (es : List EntryValue) (e : EntryValue) → slice_get es i ≡ Some e → n' ≡ count_with n e
    → count_behind n' (drop (i + 1) es) ≡ count_behind n (drop i es)
one_more_counted n n' i es e got = one_counts n n' (drop i es) (drop (i + 1) es) e (drop_one es i e got)

-- where none is to be lost and none to be changed, all goes out as it is
pub all_go_out : (count : ℕ) (entries : List EntryValue) → outgoing_from None None count entries ≡ emitted_bytes entries
all_go_out count [] = refl
all_go_out count (text bytes ∷ entries) = ap (λ (rest : List ℕ). bytes ++ rest) (all_go_out (count_with count (text bytes)) entries)
all_go_out count (packet bytes first ∷ entries) =
    ap (λ (rest : List ℕ). bytes ++ rest) (all_go_out (count_with count (packet bytes first)) entries)
