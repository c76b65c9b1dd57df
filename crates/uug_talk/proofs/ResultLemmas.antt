-- What a chain of tests and of steps that may fail gave.
use Rattle.std.proofs.Common.{◌≡◌, ◌&&◌, ◌⊎◌, inl, inr, Bool, true, false, cond, Result, Ok, Err, refl}
use Rattle.uug_talk.specs.declared.error.BadText.{BadText}
use Rattle.uug_talk.specs.Refusal.{◌>>=◌}

-- which way a test went
pub chosen : {A : Type 0} (b : Bool) (x y z : A) → cond b x y ≡ z → ((b ≡ true) × (x ≡ z)) ⊎ ((b ≡ false) × (y ≡ z))
chosen true x y z e = inl (refl, e)
chosen false x y z e = inr (refl, e)

-- both ways a test may have gone
pub by_test : {A P : Type 0} {b : Bool} {x y z : A} → cond b x y ≡ z → (b ≡ true → x ≡ z → P) → (b ≡ false → y ≡ z → P) → P
by_test {A} {P} {b} {x} {y} {z} e then_case else_case = elim (chosen b x y z e) [ inl t ↦ then_case t.0 t.1 | inr t ↦ else_case t.0 t.1 ]

pub bind_ok : {A B : Type 0} (r : Result A BadText) (f : A → Result B BadText) (y : B) → (r >>= f) ≡ Ok y → (x : A) × (r ≡ Ok x) × (f x ≡ Ok y)
bind_ok (Ok x) f y e = (x, refl, e)
bind_ok (Err d) f y e = absurd cc

pub guard_ok : {A : Type 0} (b : Bool) (x y : A) (d : BadText) → cond b (Ok x) (Err d) ≡ Ok y → (b ≡ true) × (x ≡ y)
guard_ok true x y d e = (refl, cc)
guard_ok false x y d e = absurd cc

pub three_tests : (a b c : Bool) → (a && b && c) ≡ true → (a ≡ true) × (b ≡ true) × (c ≡ true)
three_tests true true true e = (refl, refl, refl)
three_tests true true false e = absurd cc
three_tests true false c e = absurd cc
three_tests false b c e = absurd cc

pub bind_err : {A B : Type 0} (r : Result A BadText) (f : A → Result B BadText) (d : BadText) → (r >>= f) ≡ Err d → (r ≡ Err d) ⊎ ((x : A) × (r ≡ Ok x) × (f x ≡ Err d))
bind_err (Ok x) f d e = inr (x, refl, e)
bind_err (Err c) f d e = inl cc

pub guard_err : {A : Type 0} (b : Bool) (x : A) (c d : BadText) → cond b (Ok x) (Err c) ≡ Err d → (b ≡ false) × (c ≡ d)
guard_err true x c d e = absurd cc
guard_err false x c d e = (refl, cc)
