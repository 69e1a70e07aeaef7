-- The number that is told is the number that was given: the status bytes of every answer say it.
use mathlib.Core.Path.{◌≡◌, refl}
use Prim.Native.Nat.{ℕ, zero, suc, ◌≤◌}
use native.Mathlib.Omega.{arith}
use Rattle.status.specs.Status.{verdict0, verdict1}
use Rattle.verdict.specs.Verdict.{verdict_in}

pub the_number_is_told : (number : ℕ) → number ≤ 4 → verdict_in (verdict0 number) (verdict1 number) ≡ number
the_number_is_told zero h = refl
the_number_is_told (suc zero) h = refl
the_number_is_told (suc (suc zero)) h = refl
the_number_is_told (suc (suc (suc zero))) h = refl
the_number_is_told (suc (suc (suc (suc zero)))) h = refl
the_number_is_told (suc (suc (suc (suc (suc n))))) h = absurd (omega arith)
