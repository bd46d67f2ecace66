use native.Mathlib.Omega.{arith}
use borrow.Author.Rules.{rules}
use Rattle.equations.specs.Hypertask.{demand}
use Rattle.equations.proofs.Bounds.{demands≤}
use Rattle.analysis.proofs.Ranges.{above_fits, above_is}
use Rattle.analysis.proofs.table.Task.demand_above.Goals as goal

pub sum-requires-clause-fits : goal.sum-requires-clause-fits
sum-requires-clause-fits c =
    let task = c.args.self.now in
    above_fits _ _ _ (demand task.table.now c.args.t) task.row (λ x y q k. search rules) c.map.ensures.runs _
    (omega (arith, demands≤ task.table.now task.sound c.args.t task.row (omega (arith, task.in_table))))

pub returns : goal.returns
returns c =
    let task = c.args.self.now in
    above_is _ _ _ (demand task.table.now c.args.t) task.row (λ x y q k. search rules) c.map.ensures.runs _ (c.sum.ensures.runs tt)
