use mathlib.Core.Path.{◌≡◌}
use native.Mathlib.Omega.{arith}
use Rattle.std.proofs.Common.{get_or, take, get_or-take, length-take}
use Rattle.least.specs.Lists.{flat}
use Rattle.text.proofs.Laws.{puts_none, puts_then}
use Rattle.report.specs.Inside.{no_count, count_at, total_line}
use Rattle.report.proofs.Lines.{flat_turn}
use Rattle.report.proofs.totals.Counts.put_totals.Goals as goal

pub loop-i-init : goal.loop-i-init
unfolding flat
loop-i-init c = record { puts = puts_none (omega arith) (omega arith); short = omega arith }

pub loop-i-preserved : goal.loop-i-preserved
loop-i-preserved c =
    let counts = c.args.self.now in
    let i = c.loop-i.i in
    let e : get_or (take c.args.n counts.tasks) i no_count ≡ count_at counts i =
    get_or-take c.args.n counts.tasks i no_count (omega (arith, length-take c.args.n counts.tasks)) in
    record {
      puts =
          rw (← flat_turn (total_line counts) i)
          (puts_then c.loop-i.invariant.puts (rw (← e, ← c.still_open.ensures) c.put_task.ensures.puts));
      short = omega arith;
    }
