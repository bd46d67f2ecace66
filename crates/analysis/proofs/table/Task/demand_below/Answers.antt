use mathlib.Core.Path.{refl}
use Prim.Native.Nat.{ℕ, ◌+◌, ◌-◌}
use native.Mathlib.Omega.{arith}
use borrow.Author.Rules.{rules}
use Rattle.equations.specs.Table.{rows}
use Rattle.equations.specs.Hypertask.{demand}
use Rattle.equations.specs.Guest.{below}
use Rattle.equations.proofs.Bounds.{below≤}
use Rattle.analysis.proofs.Ranges.{sum_fits, sum_is}
use Rattle.analysis.proofs.table.Task.demand_below.Goals as goal

pub sum-requires-clause-fits : goal.sum-requires-clause-fits
unfolding below
sum-requires-clause-fits c =
    let task = c.args.self.now in
    let s = task.table.now in
    let n : ℕ = rows s - (task.row + 1) in
    sum_fits _ _ _ _ (demand s c.args.w) _ n (omega arith) (λ k. refl) (λ x y q k. search rules) c.map.ensures.runs _
    (omega (arith, below≤ s task.sound c.args.w task.row task.in_table))

pub returns : goal.returns
unfolding below
returns c =
    sum_is _ _ _ _ (demand c.args.self.now.table.now c.args.w) _ _ (omega arith) (λ k. refl) (λ x y q k. search rules) c.map.ensures.runs _
    (c.sum.ensures.runs tt)
