use mathlib.Core.Path.{◌≡◌}
use native.Mathlib.Omega.{arith}
use Rattle.std.specs.Prelude.{Ok}
use Rattle.equations.specs.Guest.{guest}
use Rattle.equations.proofs.Checks.{rows_next}
use Rattle.analysis.proofs.Found.{hypertasks_keep, guests_more}
use Rattle.analysis.proofs.results.guests.Goals as goal

pub loop-i-preserved : goal.loop-i-preserved
loop-i-preserved c =
    let s = c.args.table.now in
    let l = c.loop-i in
    let found : guest s l.i ≡ Ok c.in_ok-found.field-0 = cc (c.in_ok-found.ensures) in (
      l.invariant.0,
      rows_next _ _ l.i _ l.invariant.1 (omega arith) found,
      hypertasks_keep s l.found l.i (omega arith) _ _ l.invariant.2,
      guests_more s l.found l.i (omega arith) _ _ l.invariant.2 l.invariant.3 found,
    )
