-- Division rounded up: what the library's method gives is document 01's.
-- Assumes nothing.
use mathlib.Core.Path.{◌≡◌}
use Prim.Native.Nat.{ℕ, ◌+◌, ◌-◌, ◌<◌}
use native.Mathlib.Nat.{le-div_iff_mul-le}
use native.Mathlib.Omega.{arith}
use Rattle.std.specs.Int.{div_ceil}
use Rattle.std.proofs.lemmas.Grind.{div_ceil_times}
use Rattle.least.specs.Sums.{up}
use Rattle.least.proofs.Sums.{up_least}

pub div_ceil_is_up : (a b : ℕ) → 0 < b → div_ceil a b ≡ up a b
unfolding up
div_ceil_is_up a b h =
    let q = div_ceil_times a b h in
    omega (arith, up_least a b (div_ceil a b) h q.0, (le-div_iff_mul-le {x = div_ceil a b} {y = a + (b - 1)} h).1 (omega (arith, q.1)))
