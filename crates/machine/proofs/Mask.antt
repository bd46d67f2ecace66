-- The tasks in the mask past the last row. Assumes nothing.
use mathlib.Core.Path.{◌≡◌, refl}
use mathlib.Core.Bool.{Bool, true, false, ◌&&◌}
use mathlib.Core.List.{List, [], ◌∷◌}
use Prim.Native.Nat.{ℕ, suc, ◌+◌, ◌-◌, ◌≤◌, ◌<◌, ◌/◌, ◌^◌}
use native.Mathlib.Nat.{zero-div, zero-add}
use native.Mathlib.Omega.{arith}
use lib.Dec.{leb}
use lib.ListN.{length}
use lib.Pow.{shr-shr}
use borrow.Author.Tests.{leb-true, le-leb}
use Rattle.std.specs.Prelude.{Option, Some, None, MatchOption}
use Rattle.machine.specs.declared.Row.{Row}
use Rattle.machine.specs.Rows.{in_mask, first_from, first}
use Rattle.machine.specs.TickRule.{past_last}
use Rattle.machine.specs.OnePass.{place}
use Rattle.machine.proofs.Tests.{and_false}
use Rattle.machine.proofs.Searches.{all_none, is_first}

-- no task is in the empty mask
pub empty_mask : (i : ℕ) → in_mask 0 i ≡ false
empty_mask i = rw (zero-div (2 ^ i))

module _ (mask count : ℕ) where
  -- nothing is left of the mask
  pub past_nothing : mask / 2 ^ count ≡ 0 → (k : ℕ) → count ≤ k → in_mask mask k ≡ false
  past_nothing h k le =
      let z : count + (k - count) ≡ k = omega arith in
      let e : mask / 2 ^ k ≡ 0 = rw (← z, ← shr-shr mask count (k - count), h) (zero-div (2 ^ (k - count))) in
      rw e

  -- it is asked of no row but its place
  pub past_same : (i : ℕ) (l rs : List Row) → length l ≡ length rs → first_from (past_last mask count) i l ≡ first_from (past_last mask count) i rs
  unfolding first_from
  past_same i [] [] h = refl
  past_same i [] (r ∷ rs) h = absurd (omega arith)
  past_same i (r ∷ rs) [] h = absurd (omega arith)
  past_same i (r ∷ rs) (s ∷ ss) h = rw (past_same (suc i) rs ss (omega arith))

  past_fails : (k : ℕ) → (count ≤ k → in_mask mask k ≡ false) → (in_mask mask k && leb count k) ≡ false
  past_fails k f = go (leb count k) refl
    where
      go : (b : Bool) → leb count k ≡ b → (in_mask mask k && b) ≡ false
      go true e = rw (f (leb-true count k e))
      go false e = and_false (in_mask mask k)

  -- the lowest of the places from count on
  pub past_law : (rows : List Row) (x : Option ℕ) → length rows ≡ 32
      → MatchOption x ((k : ℕ) → count ≤ k → k < 32 → in_mask mask k ≡ false)
      (λ i. (count ≤ i) × (i < 32) × (in_mask mask i ≡ true) × ((k : ℕ) → count ≤ k → k < i → in_mask mask k ≡ false))
      → x ≡ place (first (past_last mask count) rows)
  past_law rows None l h =
      rw (all_none (past_last mask count) rows 0 (λ k lt. rw (zero-add k) (past_fails k (λ le. h k le (omega arith)))))
  past_law rows (Some i) l h =
      let e : (in_mask mask i && leb count i) ≡ true = rw (h.2, le-leb count i h.0) in
      let q = is_first (past_last mask count) rows 0 i (omega (arith, h.1)) (rw (zero-add i) e)
      (λ k lt. rw (zero-add k) (past_fails k (λ le. h.3 k le lt))) in
      rw (q, zero-add i)
