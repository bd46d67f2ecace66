-- What the search goes by in the one loop t = f(t).
-- Assumes nothing.
use mathlib.Core.Path.{◌≡◌, ap, ◌∙◌}
use Rattle.std.specs.Prelude.{None}
use Prim.Native.Nat.{ℕ, ◌-◌, ◌≤◌}
use native.Mathlib.Omega.{arith}
use Rattle.least.specs.Search.{first}
use Rattle.least.proofs.Where.{where_empty}
use Rattle.least.proofs.Least.{seek_start, seek_hit, seek_past, seek_next}

-- no candidate
pub seek_none : (f : ℕ → ℕ) (lo end : ℕ) → end ≤ lo → first f lo (end - lo) ≡ None
seek_none f lo end h = let z : end - lo ≡ 0 = omega arith in ap (first f lo) z ∙ where_empty _ lo

pub ruleset seeking = (seek_none, seek_start, seek_hit, seek_past, seek_next)
