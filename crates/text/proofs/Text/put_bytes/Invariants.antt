use lib.ListN.{take}
use Rattle.text.specs.Put.{Puts}
use Rattle.text.proofs.Text.put_bytes.Given as goal

abbrev pub invariant-loop-b : goal.invariant-loop-b
invariant-loop-b l = Puts l.initial.self (take l.b-index l.bytes) l.self
