-- What the equations and the analysis of a table answer. Assumes nothing.
use Rattle.std.specs.Prelude.{ℕ, Result, ⊤}
use Rattle.refusals.specs.declared.Refusal.{Refusal}

-- R of a row, or its refusal; G of a row, or its refusal
abbrev pub Response : Type 0
Response = Result ℕ Refusal

-- whether some of the checks stop the analysis
abbrev pub Checked : Type 0
Checked = Result ⊤ Refusal

-- the answer to a table: the number of its tasks, or the refusal
abbrev pub Answer : Type 0
Answer = Result ℕ Refusal
