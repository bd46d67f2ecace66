-- What the private functions tell each other; the public promise names none of it.
-- Assumes nothing.
use Rattle.std.specs.Prelude.{◌≡◌, List, ◌++◌, ℕ, ◌+◌, ◌*◌, ◌-◌, ◌<◌, length, get_or, replicate}
use Rattle.equations.specs.Table.{rows, Sound}
use Rattle.equations.specs.Hypertask.{E}
use Rattle.machine.specs.Rows.{no_row}
use Rattle.machine.specs.declared.Row.{Row}
use Rattle.start.specs.Start.{rows_of}

-- the E of each row of a sound table stands in the results
pub record Analysed (s results : List ℕ) : Type 0 where
  pub sound : Sound s
  pub long : length results ≡ 96
  pub offsets : (j : ℕ) → j < rows s → get_or results (3 * j + 1) 0 ≡ E s j

-- the first n rows of a table and the places past them
unfoldable pub fresh_places : List ℕ → ℕ → List Row
fresh_places s n = rows_of s n ++ replicate (32 - n) no_row
