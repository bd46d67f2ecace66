-- An answer as two numbers: 0 and the number of tasks, or a refusal's number and place; and the analysis told so.
-- Assumes nothing.
use Rattle.std.specs.Prelude.{◌≡◌, List, ℕ, length, Ok, Err}
use Rattle.refusals.specs.Refusals.{number_of, place_of}
use Rattle.equations.specs.Analysis.{analysis, results_after}
use Rattle.equations.specs.Answers.{Answer}

abbrev pub number_in : Answer → ℕ
number_in (Ok n) = 0
number_in (Err r) = number_of r

abbrev pub place_in : Answer → ℕ
place_in (Ok n) = n
place_in (Err r) = place_of r

-- what `tollsalmon_analyse` promises
pub record AnalysesTable (table lent : List ℕ) (answer place : ℕ) (after : List ℕ) : Type 0 where
  pub answers : answer ≡ number_in (analysis table (length lent))
  pub places : place ≡ place_in (analysis table (length lent))
  pub leaves : after ≡ results_after table lent
