-- What the search goes by where a table's shape is checked.
-- Assumes nothing.
use mathlib.Core.Path.{◌≡◌}
use mathlib.Core.List.{List}
use mathlib.Core.Bool.{true}
use Rattle.std.specs.Prelude.{Some, Err}
use Prim.Native.Nat.{ℕ, ◌<◌}
use native.Mathlib.Omega.{arith}
use lib.ListN.{length}
use Rattle.refusals.specs.declared.Refusal.TheVariants.{TableLength}
use Rattle.least.specs.Search.{first_where}
use Rattle.least.proofs.Where.{where_some}
use Rattle.equations.specs.Table.{rows}
use Rattle.equations.specs.Analysis.{bad_length, bad_deadline, table_check}
use Rattle.equations.proofs.Checks.{field_bad, deadline_bad, table_fine, sound}

-- a wrong length is refused first
pub length_bad : (s : List ℕ) → bad_length s ≡ true → table_check s ≡ Err (TableLength (length s))
unfolding table_check
length_bad s e = rw e

-- a row that is found is one of the table's
pub late_row : (s : List ℕ) (j : ℕ) → first_where (bad_deadline s) 0 (rows s) ≡ Some j → j < rows s
late_row s j e = omega (arith, (where_some _ _ 0 j e).below)

pub ruleset shape = (length_bad, field_bad, deadline_bad, table_fine, sound, late_row)
