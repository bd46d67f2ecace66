use native.Mathlib.Omega.{arith}
use Rattle.export.proofs.States.{rows_none, row_more, rows_all}
use Rattle.export.proofs.state.put.Goals as goal

pub loop-i-init : goal.loop-i-init
loop-i-init c = rows_none c.args.numbers.now c.args.m.now c.told-numbers

pub loop-i-preserved : goal.loop-i-preserved
loop-i-preserved c =
    row_more c.args.m.now c.args.numbers.now c.loop-i.numbers _ c.loop-i.i c.put_row.ensures c.loop-i.invariant

pub returns : goal.returns
returns c = rows_all c.args.m.now c.args.numbers.now c.loop-i.numbers c.loop-i.i c.told-numbers (omega arith) c.loop-i.invariant
