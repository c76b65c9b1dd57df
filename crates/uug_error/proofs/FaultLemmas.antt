-- A device that had no faults, and has failed since.
use Rattle.std.proofs.Common.{◌≡◌, ℕ, ◌<◌, ◌≤◌, inl, inr, subst, arith}
use Rattle.uug_session.specs.Engine.{HasFailed, faults_max}

pub has_faults : (before after : ℕ) → before ≡ 0 → HasFailed faults_max before after → 0 < after
has_faults before after calm (inl rises) = subst (λ n. n < after) calm rises
has_faults before after calm (inr stands) = absurd (omega (arith, calm, stands))

-- whatever it had before
pub has_failed_since : (before after : ℕ) → before ≤ after → HasFailed faults_max before after → 0 < after
has_failed_since before after grows (inl rises) = omega (arith, rises)
has_failed_since before after grows (inr stands) = omega (arith, grows, stands)
