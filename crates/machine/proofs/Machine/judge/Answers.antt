use Rattle.machine.proofs.Searches.{place_below}
use Rattle.machine.specs.TickRule.{past_last}
use borrow.Author.Rules.{rules}
use lib.ListN.{length}
use mathlib.Core.Path.{◌≡◌}
use Prim.Native.Nat.{◌<◌}
use native.Mathlib.Omega.{arith}
use Rattle.machine.proofs.Machine.judge.Goals as goal

pub overflow_add-result : goal.overflow_add-result
overflow_add-result c =
    let m = c.args.self.now in
    let long : length m.rows ≡ 32 = search rules in
    let lt : c.in-Some.i < 32 = rw (← c.in-Some.ensures) at (place_below (past_last c.args.mask m.count) m.rows (omega arith)) in
    search (rules, lt)
