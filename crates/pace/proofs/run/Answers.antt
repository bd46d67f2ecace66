use mathlib.Core.Path.{refl}
use native.Mathlib.Omega.{arith}
use Rattle.least.specs.Sums.{sum}
use Rattle.pace.specs.Pace.{machine_after, ticks_sum}
use Rattle.pace.proofs.Sums.{machine_more, sum_more}
use Rattle.pace.proofs.run.Goals as goal

pub loop-init : goal.loop-init
unfolding machine_after ticks_sum sum
loop-init c = (refl, refl, omega arith)

pub loop-preserved : goal.loop-preserved
loop-preserved c =
    let l = c.loop in
    let a = c.args in
    let s = c.step-s in
    let x = c.said_sum-total in (
      machine_more a.m a.mask a.signal a.early l.counter l.s.machine s.result l.invariant.0 s.ensures,
      sum_more a.m a.mask a.signal a.early l.counter l.s.machine s.result l.total x.result l.invariant.0 s.ensures l.invariant.1 x.ensures.value,
      omega arith,
    )
