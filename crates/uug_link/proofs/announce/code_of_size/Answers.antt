use Rattle.std.proofs.Common.{◌≡◌, arith}
use Rattle.uug_link.specs.Terms.{size_of_code}
use Rattle.uug_link.proofs.SizeLemmas.{each_code}
use Rattle.uug_link.proofs.announce.code_of_size.Goals as goal

pub returns-in_default : goal.returns-in_default
returns-in_default c =
    λ size. each_code (λ y. c.args.size ≡ size_of_code y → ⊥)
    (λ is. omega (arith, is)) (λ is. omega (arith, is)) (λ is. omega (arith, is)) (λ is. omega (arith, is))
    (λ is. omega (arith, is)) (λ is. omega (arith, is)) (λ is. omega (arith, is)) (λ is. omega (arith, is))
    size.0 size.1 size.2
