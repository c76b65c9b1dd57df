-- A call of `refuses_next`: what it is handed, and what its caller has of the answer. Assumes `Logic`.
use Rattle.std.proofs.Common.{◌≡◌, ℕ, Bool, [], ◌∷◌, refl, ap}
use seplogic.Ra.Ura.{Ura}
use mir.Val.{Val, vbool, vptr}
use base.Logic.{SProp, ent, sep, ex, guard, id⊢}
use base.Fml.{Lft, Share, ftrue, fsep, flft}
use prog.Memory.{Memory}
use prog.Routine.{Routine}
use types.Logic.{Logic, sem}
use types.Kit.{‵, raw, ◌⊛◌, some, later, ◌$◌, ◌∵◌, !, qed, move, keep, use1, split, join, pick, fjoin, feq_i, feq_l, check, show, await, updating, now as at_once, done}
use contract.Monad.{Fun}
use denote.RattleType.{RattleType}
use denote.Memory.{hidden_shr}
use denote.Builtin.{bool}
use denote.Steps.{nothing, only}
use denote.Triple.Statement.{Contract}
use denote.Triple.Spec.{triple_of}
use Rattle.uug_test_alloc.specs.contracts.requests.Requests as counter
use Rattle.uug_test_alloc.specs.contracts.requests.Requests.refuses_next as f

abbrev pub Counter : RattleType
Counter = counter.the_row

module _ {M : Type 1} {𝓤 : Ura M} (𝓛 : Logic 𝓤) (at_mem : Memory → SProp 𝓤) (run : Routine → Fun 𝓤) where
  open 𝓛 use {H, A}

  abbrev pub Counts : Contract 𝓤
  Counts = triple_of 𝓛 f.signature (f.spec 𝓛 at_mem run)

  module _ (κ : Lft) (q : Share) (n : Counter.Denot) (p : ℕ × ℕ) where
    abbrev pub at_count : Counts.Ghost
    at_count = (((κ, tt), (q, tt), tt, (record { ref_ptr = p; now = n }, tt), (vptr p.0 p.1 ∷ [], tt)), tt)

    pub count_takes : ent 𝓤 (sep 𝓤 (sem 𝓛 (hidden_shr Counter κ n p.0 p.1)) (A.lft κ q)) (Counts.pre at_count)
    count_takes =
        qed 𝓛 (‵ (hidden_shr Counter κ n p.0 p.1) ∷ ‵ (flft κ q) ∷ []) ∵ feq_i ! _ (vptr p.0 p.1 ∷ []) _ refl $ fjoin ! $
        nothing ! $ move ! (1 ∷ []) $ fjoin ! $ nothing ! $ move ! (2 ∷ []) $ join ! $ join ! $ nothing ! $ move ! (1 ∷ []) $ done !

    -- Some truth value, and the token again.
    pub count_gives : (v : Val) → ent 𝓤 (Counts.post at_count v) (H.⇛ (ex 𝓤 (λ (y : Bool). guard 𝓤 (v ≡ vbool y) (A.lft κ q))))
    count_gives v =
        qed 𝓛 (raw (Counts.post at_count v) ∷ []) ∵ updating ! $
        use1 𝓛 (later (some (λ (y : Bool). ((‵ (flft κ q) ⊛ ‵ ftrue) ⊛ ‵ (bool.own_val y (v ∷ []))) ⊛ some (λ (ws : Unit {0} × Unit {0}). ‵ (fsep ftrue ftrue) ⊛ ‵ ftrue)))) (id⊢ 𝓤 _) $
        await ! tt $ pick ! (λ y. split ! $ split ! $ move ! (1 ∷ []) $ feq_l ! (λ is. split ! $ at_once ! $
        show ! (λ (z : Bool). guard 𝓤 (v ≡ vbool z) (A.lft κ q)) y $ check ! (ap only is) $ keep ! (0 ∷ []) $ done !))
