use mathlib.Core.Path.{sym}
use Prim.Native.Nat.{ℕ}
use lib.ListN.{length-replicate}
use Rattle.report.proofs.Whole.{written_counts}
use Rattle.run.proofs.main.Goals as goal

-- by hand, since the search would count the array's places one by one
pub slice_bounds-report-end-2 : goal.slice_bounds-report-end-2
slice_bounds-report-end-2 c = sym (length-replicate {A = ℕ} 655360 0)

pub slice_bounds-text-end : goal.slice_bounds-text-end
slice_bounds-text-end c = (written_counts _ _ _ _ _ c.in-Ok.is c.report.ensures).0

pub slice_bounds-write_all-end : goal.slice_bounds-write_all-end
slice_bounds-write_all-end c = (written_counts _ _ _ _ _ c.in-Ok.is c.report.ensures).1
