use mathlib.Core.Path.{◌≡◌}
use mathlib.Core.List.{List, ◌++◌}
use Prim.Native.Nat.{◌+◌, ◌-◌}
use lib.ListN.{length}
use Rattle.equations.specs.Table.{rows}
use Rattle.equations.specs.Hypertask.{response}
use Rattle.equations.proofs.Checks.{Rowwise}
use Rattle.analysis.specs.Inside.{Hypertasks}
use Rattle.analysis.specs.declared.results.Responses.{Responses}
use Rattle.analysis.proofs.results.hypertasks.Given as goal

abbrev pub invariant-loop-i : goal.invariant-loop-i
invariant-loop-i l =
    (length l.row-items ≡ rows l.table)
    × Rowwise (response l.table) (rows l.table) l.i
    × ((rest : List Responses) → length l.row-items + length rest ≡ 32 → Hypertasks l.table (l.row-items ++ rest) l.i)

abbrev pub decreases-loop-i : goal.decreases-loop-i
decreases-loop-i l = l.i-end - l.i
