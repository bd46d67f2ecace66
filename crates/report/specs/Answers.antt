-- What the report answers. Assumes nothing.
use Rattle.std.specs.Prelude.{ℕ, Result}
use Rattle.report.specs.declared.TooShort.{TooShort}

-- lent bytes too few; how many are needed
abbrev pub needing : ℕ → TooShort
needing n = record { needed = n }

-- how many bytes were written, or how many are needed
abbrev pub Reported : Type 0
Reported = Result ℕ TooShort
