-- An input is read on.
use Rattle.std.proofs.Common.{◌≡◌, ℕ, ◌≤◌, List, [], ◌++◌, take, length, Option, Some, None, IfSome, sym, ap, ◌∙◌, arith, append_assoc, length-append}
use Rattle.std.proofs.lemmas.List.{append-nil}
use Rattle.uug_stream.specs.Streams.{Moves}
use Rattle.uug_sim_play.specs.Whole.{Brings, BringsAll}

pub brings_more : (n : ℕ) (bytes buffer : List ℕ) (first before after : Option (List ℕ)) → Brings bytes first before →
    Moves n buffer before after → Brings (bytes ++ take n buffer) first after
brings_more n bytes buffer None before after h moves = tt
brings_more n bytes buffer (Some s) None after h moves = absurd cc
brings_more n bytes buffer (Some s) (Some t) after h moves =
    let same : t ≡ h.0 = cc in
    (moves.0, moves.1, h.2 ∙ ap (λ r. bytes ++ r) (sym same ∙ moves.2) ∙ sym (append_assoc bytes (take n buffer) moves.0))

-- the read that moves nothing finds the end
pub brings_all : (n : ℕ) (bytes buffer : List ℕ) (first before after : Option (List ℕ)) → n ≡ 0 → Brings bytes first before →
    Moves n buffer before after → BringsAll bytes first after
brings_all n bytes buffer None before after none h moves = tt
brings_all n bytes buffer (Some s) None after none h moves = absurd cc
brings_all n bytes buffer (Some s) (Some t) after none h moves =
    let same : t ≡ h.0 = cc in
    let empty : t ≡ [] = moves.3 none in
    let nothing : take n buffer ≡ [] = ap (λ m. take m buffer) none in
    let rest : moves.0 ≡ [] = sym (sym empty ∙ moves.2 ∙ ap (λ l. l ++ moves.0) nothing) in
    (h.2 ∙ ap (λ r. bytes ++ r) (sym same ∙ empty) ∙ append-nil bytes, moves.1 ∙ ap Some rest)

-- what came is not more than what was to come
pub brings_some : (limit : ℕ) (bytes : List ℕ) (first now : Option (List ℕ)) → Brings bytes first now → limit ≤ length bytes →
    IfSome first (λ all. limit ≤ length all)
brings_some limit bytes None now h many = tt
brings_some limit bytes (Some s) now h many = omega (arith, many, ap length h.2, length-append bytes h.0)
