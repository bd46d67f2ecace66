use mathlib.Core.List.{◌++◌}
use mathlib.Core.Path.{◌≡◌}
use lib.ListN.{drop}
use Rattle.plan.specs.Numbers.{numbers_in}
use Rattle.plan.proofs.bodies.table_of.Given as goal

-- Before turn i the table holds the first i numbers, and past them what it held. Assumes nothing.
abbrev pub invariant-loop-i : goal.invariant-loop-i
invariant-loop-i l = l.table ≡ numbers_in l.rows l.i ++ drop l.i l.initial.table
