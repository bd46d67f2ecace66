use Rattle.export.proofs.States.{Before}
use Rattle.export.proofs.state.machine_in.Given as goal

abbrev pub invariant-loop-i : goal.invariant-loop-i
invariant-loop-i l = Before l.numbers l.i l.rows
