-- The count and the entries, one right after the other. Assumes nothing.
use native.Mathlib.Omega.{arith}
use Rattle.plan.proofs.Puts.{puts_then}
use Rattle.plan.proofs.Written.{head_of_two, head_of_one, two_sections}
use Rattle.plan.proofs.writer.Output.put_contents.Goals as goal

pub put_entry-requires-then-n-ne0-clause-room : goal.put_entry-requires-then-n-ne0-clause-room
put_entry-requires-then-n-ne0-clause-room c =
    omega (arith, c.put_number.ensures, c.put_entry.ensures, two_sections c.args.m c.args.n _ c.section_count-count.ensures.value c.if-n-ne0.true)

pub returns-then-n-ne0 : goal.returns-then-n-ne0
returns-then-n-ne0 c =
    rw (← head_of_two c.args.m c.args.n _ c.section_count-count.ensures.value c.if-n-ne0.true)
    (puts_then (puts_then c.put_number.ensures c.put_entry.ensures) c.put_entry-then-n-ne0.ensures)

pub returns-else-n-ne0 : goal.returns-else-n-ne0
returns-else-n-ne0 c =
    rw (← head_of_one c.args.m c.args.n _ c.section_count-count.ensures.value c.if-n-ne0.false)
    (puts_then c.put_number.ensures c.put_entry.ensures)
