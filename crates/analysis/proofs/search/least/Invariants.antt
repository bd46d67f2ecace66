use Prim.Native.Nat.{◌-◌}
use Rattle.least.proofs.Least.{Seek}
use Rattle.analysis.proofs.search.least.Given as goal

abbrev pub invariant-loop-from : goal.invariant-loop-from
invariant-loop-from g l = Seek (g.E.Equation.side l.equation) l.from l.end l.t

abbrev pub decreases-loop-from : goal.decreases-loop-from
decreases-loop-from g l = l.end - l.t
