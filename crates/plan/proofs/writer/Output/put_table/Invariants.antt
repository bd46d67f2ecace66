use lib.ListN.{take}
use Rattle.plan.specs.Numbers.{table_bytes}
use Rattle.plan.specs.Inside.{Puts}
use Rattle.plan.proofs.writer.Output.put_table.Given as goal

-- Before turn i the bytes of the first i numbers are put. Assumes nothing.
abbrev pub invariant-loop-x : goal.invariant-loop-x
invariant-loop-x l = Puts l.fn.self (table_bytes (take l.x-index l.table)) l.self
