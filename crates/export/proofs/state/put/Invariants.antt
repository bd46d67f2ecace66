use mathlib.Core.Path.{◌≡◌}
use mathlib.Core.List.{[], ◌∷◌, ◌++◌}
use Prim.Native.Nat.{◌+◌, ◌*◌}
use lib.ListN.{drop}
use Rattle.least.specs.Lists.{flat}
use Rattle.export.specs.State.{place_numbers}
use Rattle.export.proofs.state.put.Given as goal

abbrev pub invariant-loop-i : goal.invariant-loop-i
invariant-loop-i l = let m = l.fn.m in
    l.numbers ≡ (m.count ∷ m.clock ∷ []) ++ flat (place_numbers m.rows) l.i ++ drop (2 + 8 * l.i) l.fn.numbers
