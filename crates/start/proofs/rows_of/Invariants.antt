use mathlib.Core.Path.{◌≡◌}
use mathlib.Core.List.{◌++◌}
use Prim.Native.Nat.{◌-◌, ◌≤◌}
use lib.ListN.{length, replicate}
use Rattle.machine.specs.Rows.{no_row}
use Rattle.start.specs.Start.{rows_of}
use Rattle.start.proofs.rows_of.Given as goal

abbrev pub invariant-loop-j : goal.invariant-loop-j
invariant-loop-j l = (l.j ≤ l.n) × (length l.place-items ≡ l.n) × (l.place-items ≡ rows_of l.table l.j ++ replicate (l.n - l.j) no_row)

abbrev pub decreases-loop-j : goal.decreases-loop-j
decreases-loop-j l = l.j-end - l.j
