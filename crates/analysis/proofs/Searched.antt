-- The searches of the definitions, from the own part and the end as the code has them.
-- Assumes nothing.
use mathlib.Core.Path.{◌≡◌, ◌∙◌}
use mathlib.Core.List.{List}
use Prim.Native.Nat.{ℕ, suc, ◌+◌, ◌-◌, ◌*◌, ◌<◌}
use native.Mathlib.Nat.{sub-zero}
use native.Mathlib.Omega.{arith}
use Rattle.least.specs.Search.{first}
use Rattle.least.specs.Sums.{sum}
use Rattle.least.proofs.Least.{first_same}
use Rattle.equations.specs.Table.{rows, T, D, C, K}
use Rattle.equations.specs.Hypertask.{B, start_demand, start_side, start, E}
use Rattle.equations.specs.Guest.{window_side, WA, WE}
use Rattle.equations.proofs.Jobs.{one_less, window_same}
use Rattle.analysis.specs.Inside.{offset_in, Offsets}
use Rattle.analysis.specs.declared.results.Responses.{Responses}

-- the start of the job with so many jobs before it
pub start_is : (s : List ℕ) (i before own end : ℕ) → own ≡ B s i + before * K s i → end ≡ D s i + before * T s i + 1 - K s i
    → first (λ w. own + sum (start_demand s w) i) 0 (end - 0) ≡ start s i (suc before)
unfolding start start_side
start_is s i before own end e f = rw (sub-zero, e, f, one_less before)

module _ (s : List ℕ) (found : List Responses) (o : Offsets s found) (i : ℕ) (h : i < rows s) where
  window_is : (own last : ℕ) → first (window_side s (offset_in found) i own) 1 (last + 1 - 1) ≡ first (window_side s (E s) i own) 1 last
  window_is own last =
      let z : last + 1 - 1 ≡ last = omega arith in
      rw z (first_same _ _ (window_same s (offset_in found) (E s) i own (λ j q. o.at j (omega arith))) last 1)

  pub WA_is : (own last : ℕ) → own ≡ C s i → last ≡ offset_in found i → first (window_side s (offset_in found) i own) 1 (last + 1 - 1) ≡ WA s i
  unfolding WA
  WA_is own last e f = window_is own last ∙ rw (e, f, o.at i h)

  pub WE_is : (own last : ℕ) → own ≡ C s i + K s i → last ≡ T s i → first (window_side s (offset_in found) i own) 1 (last + 1 - 1) ≡ WE s i
  unfolding WE
  WE_is own last e f = window_is own last ∙ rw (e, f)
