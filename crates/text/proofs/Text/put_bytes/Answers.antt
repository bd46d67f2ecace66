use native.Mathlib.Omega.{arith}
use Rattle.std.proofs.lemmas.List.{take_more}
use Rattle.text.proofs.Laws.{puts_then}
use Rattle.text.proofs.Text.put_bytes.Goals as goal

pub loop-b-preserved : goal.loop-b-preserved
loop-b-preserved c = rw (take_more c.args.bytes.now c.loop-b.b-index 0 (omega arith)) (puts_then c.loop-b.invariant c.put_byte.ensures)
