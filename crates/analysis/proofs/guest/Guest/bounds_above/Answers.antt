use native.Mathlib.Omega.{arith}
use borrow.Author.Rules.{rules}
use Rattle.equations.specs.Guest.{bound}
use Rattle.equations.proofs.Bounds.{bounds≤}
use Rattle.analysis.specs.Inside.{offset_in}
use Rattle.analysis.proofs.Ranges.{above_fits, above_is}
use Rattle.analysis.proofs.guest.Guest.bounds_above.Goals as goal

pub sum-requires-clause-fits : goal.sum-requires-clause-fits
unfolding bound
sum-requires-clause-fits c =
    let task = c.args.self.now.task in
    let e = offset_in c.args.self.now.found.now in
    above_fits _ _ _ (bound task.table.now e c.args.w) task.row (λ x y q k. search rules) c.map.ensures.runs _
    (omega (arith, bounds≤ task.table.now task.sound e c.args.w task.row (omega (arith, task.in_table))))

pub returns : goal.returns
unfolding bound
returns c =
    let task = c.args.self.now.task in
    above_is _ _ _ (bound task.table.now (offset_in c.args.self.now.found.now) c.args.w) task.row (λ x y q k. search rules) c.map.ensures.runs _
    (c.sum.ensures.runs tt)
