use native.Mathlib.Omega.{arith}
use Rattle.analysis.proofs.Found.{results_are}
use Rattle.analysis.proofs.solve.Goals as goal

pub returns-clause-lent_after : goal.returns-clause-lent_after
returns-clause-lent_after c =
    let found = c.guests.ensures.filled c.in_ok-guests.was in
    rw (c.write.ensures, c.rows-n.ensures.value)
    (results_are c.args.table.now c.guests.new.found _ found.0 found.1 c.args.lent.now (omega arith))
