use Rattle.std.proofs.Common.{◌≢◌, ◌<◌, length, arith, get_or-set_other, get_or-set_same, below_more, length-set}
use Rattle.report.proofs.Counts.{arrival_turn}
use Rattle.report.proofs.totals.Counts.add_arrivals.Goals as goal

pub loop-i-preserved : goal.loop-i-preserved
loop-i-preserved c =
    record {
      long = rw length-set c.loop-i.invariant.long;
      counted =
          below_more _ _
          (λ k h. let ne : k ≢ c.loop-i.i = omega arith in rw get_or-set_other (c.loop-i.invariant.counted k h))
          (let lt : c.loop-i.i < length c.loop-i.count-items = omega arith in
          rw get_or-set_same (arrival_turn c.args.mask c.loop-i.i _ _ _ c.from.ensures (c.loop-i.invariant.left c.loop-i.i (omega arith))));
      left = λ k h. let ne : k ≢ c.loop-i.i = omega arith in rw get_or-set_other (c.loop-i.invariant.left k (omega arith));
    }
