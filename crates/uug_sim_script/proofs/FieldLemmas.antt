-- What single words say.
use Rattle.std.proofs.Common.{◌≡◌, ◌==◌, ◌&&◌, ◌⊎◌, inl, inr, ◌↔◌, ℕ, zero, suc, ◌<◌, Bool, true, false, if◌then◌else◌, nat_le, Option, Some, None, Result, Ok, Err, IfOk, lit<, refl, sym, ap, subst, ◌∙◌, arith}
use Rattle.std.proofs.lemmas.Bool.Decides.{nat_tests}
use Rattle.std.specs.Prelude.{IsErrOf}
use Rattle.std.specs.Result.{result_ok}
use Rattle.uug_link.specs.Announced.{Announced, announced, quiet_as, short_as}
use Rattle.uug_link.specs.Terms.{IsSize, IsWindow, size_of_code}
use Rattle.uug_link.specs.declared.announce.Announce.{Announce}
use Rattle.uug_link.specs.declared.announce.BadAnnounce.{BadAnnounce}
use Rattle.uug_link.specs.declared.announce.BadAnnounce.TheVariants as bad
use Rattle.uug_link.specs.declared.limits.TheConstants.{SIZE_CODES, WINDOW_MAX}
use Rattle.uug_talk.specs.Chained.{◌>>=◌}
use Rattle.uug_sim_script.specs.Fields.{code_of_size, is_window, announcement}
use Rattle.uug_sim_script.specs.Meaning.{announced_by}

-- ---- announcements

-- each of the eight sizes has its code
pub code_of_its_size : (code : ℕ) → code < SIZE_CODES → code_of_size (size_of_code code) ≡ Some code
code_of_its_size zero h = refl
code_of_its_size (suc zero) h = refl
code_of_its_size (suc (suc zero)) h = refl
code_of_its_size (suc (suc (suc zero))) h = refl
code_of_its_size (suc (suc (suc (suc zero)))) h = refl
code_of_its_size (suc (suc (suc (suc (suc zero))))) h = refl
code_of_its_size (suc (suc (suc (suc (suc (suc zero)))))) h = refl
code_of_its_size (suc (suc (suc (suc (suc (suc (suc zero))))))) h = refl
code_of_its_size (suc (suc (suc (suc (suc (suc (suc (suc n)))))))) h = absurd (omega arith)

-- what has a code is the size of it
size_step : (size n code y : ℕ) (rest : Option ℕ) → size_of_code code ≡ n → code < SIZE_CODES → (if size == n then Some code else rest) ≡ Some y
    → (rest ≡ Some y → (y < SIZE_CODES) × (size ≡ size_of_code y)) → (y < SIZE_CODES) × (size ≡ size_of_code y)
size_step size n code y rest is small e later = go (size == n) refl e where
  go : (b : Bool) → (size == n) ≡ b → (if b then Some code else rest) ≡ Some y → (y < SIZE_CODES) × (size ≡ size_of_code y)
  go true t e =
      let k : code ≡ y = cc in
      let s : size ≡ n = grind (arith, nat_tests) in
      (subst (λ z. z < SIZE_CODES) k small, s ∙ sym is ∙ ap size_of_code k)
  go false t e = later e

pub size_of_its_code : (size y : ℕ) → code_of_size size ≡ Some y → (y < SIZE_CODES) × (size ≡ size_of_code y)
size_of_its_code size y e =
    size_step size 32 0 y _ refl (lit< tt) e (λ e.
    size_step size 64 1 y _ refl (lit< tt) e (λ e.
    size_step size 128 2 y _ refl (lit< tt) e (λ e.
    size_step size 256 3 y _ refl (lit< tt) e (λ e.
    size_step size 512 4 y _ refl (lit< tt) e (λ e.
    size_step size 1024 5 y _ refl (lit< tt) e (λ e.
    size_step size 2048 6 y _ refl (lit< tt) e (λ e.
    size_step size 4096 7 y _ refl (lit< tt) e (λ e. absurd cc))))))))

no_code : (size : ℕ) (o : Option ℕ) → code_of_size size ≡ o → (IsSize size → ⊥) → o ≡ None
no_code size None e other = refl
no_code size (Some y) e other = absurd (let s = size_of_its_code size y e in other (y, s.0, s.1))

abbrev pub announced_as : ℕ → ℕ → Announced
announced_as window code = record { window = window; size_code = code; quiet = false; short = false }

outside_window : (window : ℕ) → is_window window ≡ false → (window < 1) ⊎ (WINDOW_MAX < window)
outside_window window e = by_low (nat_le 1 window) refl e where
  by_high : (b : Bool) → nat_le window WINDOW_MAX ≡ b → b ≡ false → (window < 1) ⊎ (WINDOW_MAX < window)
  by_high true t f = absurd cc
  by_high false t f = inr (grind (arith, nat_tests))

  by_low : (b : Bool) → nat_le 1 window ≡ b → (b && nat_le window WINDOW_MAX) ≡ false → (window < 1) ⊎ (WINDOW_MAX < window)
  by_low true t f = by_high (nat_le window WINDOW_MAX) refl f
  by_low false t f = inl (grind (arith, nat_tests))

no_window : (window : ℕ) → (window < 1) ⊎ (WINDOW_MAX < window) → is_window window ≡ false
no_window window (inl low) = let none : nat_le 1 window ≡ false = grind (arith, nat_tests) in rw none refl
no_window window (inr high) = by_low (nat_le 1 window) where
  by_low : (b : Bool) → (b && nat_le window WINDOW_MAX) ≡ false
  by_low true = grind (arith, nat_tests)
  by_low false = refl

-- an announcement is made exactly of a window and a size
pub announcement_made : (window size : ℕ) (r : Result Announce BadAnnounce)
    → IfOk r (λ a. (announced a).window ≡ window) → IfOk r (λ a. size_of_code (announced a).size_code ≡ size)
    → IfOk r (λ a. (announced a).quiet ≡ false) → IfOk r (λ a. (announced a).short ≡ false)
    → (IsErrOf r bad.BadWindow ↔ ((window < 1) ⊎ (WINDOW_MAX < window)))
    → (IsErrOf r bad.BadSize ↔ (IsWindow window × (IsSize size → ⊥)))
    → announced_by (result_ok r) ≡ announcement window size
announcement_made window size (Ok a) window_is size_is plain filled bad_window bad_size =
    let some : is_window window ≡ true = window_passes (is_window window) refl in
    let code : code_of_size size ≡ Some (announced a).size_code = ap code_of_size (sym size_is) ∙ code_of_its_size (announced a).size_code a.size_code.below in
    rw (some, code) (ap (λ (s : Bool). Some (short_as s (announced a))) filled ∙ ap (λ (q : Bool). Some (short_as false (quiet_as q (announced a)))) plain ∙ ap (λ w. Some (announced_as w (announced a).size_code)) window_is) where
      window_passes : (b : Bool) → is_window window ≡ b → b ≡ true
      window_passes true t = refl
      window_passes false t =
          let outside : (window < 1) ⊎ (WINDOW_MAX < window) = outside_window window t in
          let e = bad_window.1 outside in
          absurd cc
announcement_made window size (Err bad.BadWindow) window_is size_is plain filled bad_window bad_size =
    let none : is_window window ≡ false = no_window window (bad_window.0 refl) in
    rw none refl
announcement_made window size (Err bad.BadSize) window_is size_is plain filled bad_window bad_size =
    let none : code_of_size size ≡ None = no_code size (code_of_size size) refl (bad_size.0 refl).1 in
    no_size (is_window window) none where
      no_size : (b : Bool) → code_of_size size ≡ None → None ≡ (if b then code_of_size size >>= (λ code. Some (announced_as window code)) else None)
      no_size true e = rw e refl
      no_size false e = refl
