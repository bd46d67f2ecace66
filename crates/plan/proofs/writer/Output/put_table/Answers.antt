use mathlib.Core.Path.{refl}
use native.Mathlib.Omega.{arith}
use lib.ListN.{take}
use lib.Seq.{length-take-le}
use Rattle.plan.specs.Numbers.{table_bytes}
use Rattle.plan.proofs.Digits.{table_length}
use Rattle.plan.proofs.Puts.{table_more, puts_then}
use Rattle.plan.proofs.writer.Output.put_table.Goals as goal

pub loop-x-init : goal.loop-x-init
unfolding table_bytes
loop-x-init c = record { same_output = refl; bytes = refl; next = omega arith; room = refl }

pub put_number-requires : goal.put_number-requires
put_number-requires c =
    let t = c.args.table.now in
    let i = c.loop-x.x-index in
    omega (arith, c.loop-x.invariant, table_length (take i t), length-take-le i t (omega arith))

pub loop-x-preserved : goal.loop-x-preserved
loop-x-preserved c = rw (table_more c.args.table.now c.loop-x.x-index (omega arith)) (puts_then c.loop-x.invariant c.put_number.ensures)
