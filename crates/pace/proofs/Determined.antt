-- Two answers that meet the promise of `tollsalmon_bench_ticks` are equal.
-- Assumes nothing.
use mathlib.Core.Path.{◌≡◌, sym, ◌∙◌}
use mathlib.Core.List.{List}
use Prim.Native.Nat.{ℕ}
use Rattle.pace.specs.Pace.{pace_of}

pub determined : (state : List ℕ) (mask signal early times a b : ℕ) → a ≡ pace_of state mask signal early times
    → b ≡ pace_of state mask signal early times
    → a ≡ b
determined state mask signal early times a b p q = p ∙ sym q
