use mathlib.Core.Path.{◌≡◌}
use mathlib.Core.List.{◌++◌}
use Prim.Native.Nat.{◌*◌}
use lib.ListN.{length, drop}
use Rattle.least.specs.Lists.{flat}
use Rattle.analysis.specs.Inside.{three_at}
use Rattle.analysis.proofs.results.write.Given as goal

abbrev pub invariant-loop-i : goal.invariant-loop-i
invariant-loop-i l = (l.i-end ≡ length l.found) × (l.lent ≡ flat (three_at l.found) l.i ++ drop (3 * l.i) l.initial.lent)
