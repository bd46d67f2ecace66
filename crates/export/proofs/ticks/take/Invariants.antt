use mathlib.Core.Path.{◌≡◌}
use mathlib.Core.List.{◌++◌}
use Prim.Native.Nat.{◌*◌}
use lib.ListN.{drop}
use Rattle.least.specs.Lists.{flat}
use Rattle.export.specs.Ticks.{machine_after, answer_to}
use Rattle.export.proofs.ticks.take.Given as goal

abbrev pub invariant-loop-i : goal.invariant-loop-i
invariant-loop-i l = (l.m ≡ machine_after l.fn.m l.records l.i) × (l.answers ≡ flat (answer_to l.fn.m l.records) l.i ++ drop (12 * l.i) l.fn.answers)
