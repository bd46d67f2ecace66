use Rattle.machine.proofs.Pass.{Passing}
use Rattle.machine.proofs.Seen.over.Given as goal

abbrev pub invariant-loop-i : goal.invariant-loop-i
invariant-loop-i l = Passing l.clock l.mask l.initial.table l.i l.seen l.table
