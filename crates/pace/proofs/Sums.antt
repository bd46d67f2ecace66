-- Laws of ticks added up.
-- Assumes nothing.
use mathlib.Core.Path.{◌≡◌, sym, ap, ◌∙◌}
use mathlib.Core.Bool.{Bool}
use Prim.Native.Nat.{ℕ, ◌+◌}
use native.Mathlib.Numerals.{add-one}
use Rattle.least.proofs.Sums.{sum_step}
use Rattle.machine.specs.TickRule.{step_of}
use Rattle.machine.specs.declared.Machine.{Machine}
use Rattle.machine.specs.declared.Stepped.{Stepped}
use Rattle.pace.specs.Pace.{said_sum, machine_after, said_at, ticks_sum}

-- one tick more
module _ (m : Machine) (mask signal : ℕ) (early : Bool) (i : ℕ) (at : Machine) (s : Stepped) where
  stepped : at ≡ machine_after m mask signal early i → s ≡ step_of at mask signal early
      → s ≡ step_of (machine_after m mask signal early i) mask signal early
  stepped p e = e ∙ ap (λ (x : Machine). step_of x mask signal early) p

  pub machine_more : at ≡ machine_after m mask signal early i → s ≡ step_of at mask signal early → s.machine ≡ machine_after m mask signal early (i + 1)
  unfolding machine_after
  machine_more p e = ap (λ (x : Stepped). x.machine) (stepped p e) ∙ ap (machine_after m mask signal early) (sym (add-one i))

  pub sum_more : (total x : ℕ) → at ≡ machine_after m mask signal early i → s ≡ step_of at mask signal early
      → total ≡ ticks_sum m mask signal early i
      → x ≡ said_sum s.answer → total + x ≡ ticks_sum m mask signal early (i + 1)
  unfolding ticks_sum said_at
  sum_more total x p e t h = sum_step _ _ _ _ t (h ∙ ap (λ (y : Stepped). said_sum y.answer) (stepped p e))
