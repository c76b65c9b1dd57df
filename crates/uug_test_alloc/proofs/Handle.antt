-- A handle over the allocator `Z`: the type arguments of its methods, their `self`, and where its fields lie.
use Rattle.std.proofs.Common.{ℕ, ◌+◌, [], ◌∷◌}
use mir.Syntax.{Args, a_type, dnil, dcons}
use prog.Memory.{size, align, up}
use denote.Builtin.{RefOf}
use denote.Param.{bounded, param}
use denote.Signature.{Slot, plain}
use Rattle.std.proofs.alloc.Calls.{Al, α}
use Rattle.uug_test_alloc.specs.contracts.refusing.Refusing.{the_row as refusing}

module _ (Z : Al) where
  abbrev pub args : Args
  args = bounded (a_type ∷ []) (Z.row, tt) (dcons Z.d (dcons Z.drops dnil))

  abbrev pub self : Slot 2
  self = RefOf (0 ∷ []) tt (plain (λ _. refusing (param 0 Z.row))) (λ _. tt)

  -- The allocator inside comes first, and the counter after it.
  abbrev pub inner_at : ℕ × ℕ → ℕ × ℕ
  inner_at p = (p.0, p.1 + up (align (α Z)) 0)

  abbrev pub counter_at : ℕ × ℕ → ℕ × ℕ
  counter_at p = (p.0, p.1 + up 8 (up (align (α Z)) 0 + size (α Z)))
