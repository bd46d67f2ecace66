-- The text of a plan's run through lent memory.
-- Assumes nothing.
use Rattle.std.specs.Prelude.{◌≡◌, List, ℕ, length}
use Rattle.report.specs.Report.{text_of}
use Rattle.export.specs.Files.{to_front}

-- what `tollsalmon_report` promises
pub record PrintsRun (file lent : List ℕ) (answer : ℕ) (after : List ℕ) : Type 0 where
  pub answers : answer ≡ length (text_of file)
  pub leaves : after ≡ to_front (text_of file) lent
