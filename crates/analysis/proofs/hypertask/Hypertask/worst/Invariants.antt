use mathlib.Core.Path.{◌≡◌}
use Rattle.std.specs.Prelude.{Some}
use Prim.Native.Nat.{◌-◌, ◌≤◌}
use Rattle.equations.specs.Hypertask.{worst}
use Rattle.analysis.proofs.hypertask.Hypertask.worst.Given as goal

abbrev pub invariant-loop-before : goal.invariant-loop-before
invariant-loop-before l = (l.before ≤ l.n) × (worst l.self.task.table.now l.self.task.row l.before ≡ Some l.most)

abbrev pub decreases-loop-before : goal.decreases-loop-before
decreases-loop-before l = l.n - l.before
