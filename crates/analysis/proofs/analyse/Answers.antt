use native.Mathlib.Omega.{arith}
use Rattle.std.proofs.lemmas.Result.{err_from_is_err_and}
use Rattle.analysis.proofs.Entered.{analyses_1_to_3, analyses_4, analyses_from_5}
use Rattle.analysis.proofs.analyse.Goals as goal

pub returns-in_err-table : goal.returns-in_err-table
returns-in_err-table c =
    let p = err_from_is_err_and c.from_residual.result c.from_residual.ensures.1 in
    rw (p.1, p.2) (analyses_1_to_3 _ _ _ c.in_err-table.ensures)

pub returns-then-results-needed : goal.returns-then-results-needed
returns-then-results-needed c = rw c.rows-needed.ensures.value (analyses_4 _ _ _ c.in_ok-table.ensures (omega arith))

pub returns : goal.returns
returns c = analyses_from_5 _ _ _ _ _ c.in_ok-table.ensures (omega arith) c.solve.ensures.value c.solve.ensures.lent_after
