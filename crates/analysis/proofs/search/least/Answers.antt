use mathlib.Core.Path.{sym}
use native.Mathlib.Omega.{arith}
use Rattle.least.proofs.Least.{seek_past, seek_next}
use Rattle.analysis.proofs.search.least.Goals as goal

pub returns-then-from-next : goal.returns-then-from-next
returns-then-from-next g c =
    let m = g.met.E.Equation.never_falls c.args.equation.now in
    sym (seek_past _ m _ _ _ _ c.loop-from.invariant c.side-next.ensures (omega arith))

pub loop-from-preserved : goal.loop-from-preserved
loop-from-preserved g c =
    let m = g.met.E.Equation.never_falls c.args.equation.now in
    seek_next _ m _ _ _ _ c.loop-from.invariant c.side-next.ensures (omega arith)
