-- What the reader, the writer and the bodies of a plan file answer. Assumes nothing.
use Rattle.std.specs.Prelude.{ℕ, Option, Result, ⊤}
use Rattle.refusals.specs.declared.Refusal.{Refusal}
use Rattle.plan.specs.declared.Tick.{Tick}
use Rattle.plan.specs.declared.RowsError.{RowsError}

-- what the reader says of a file
abbrev pub Answer : Type 0
Answer = Result ⊤ Refusal

-- what the writer says: the file's length, or why nothing was written
abbrev pub Writing : Type 0
Writing = Result ℕ Refusal

-- a record of a script, where there is one
abbrev pub Recorded : Type 0
Recorded = Option Tick

-- what became of rows that were to be taken into lent numbers: how many numbers were taken, or why none was
abbrev pub Taken : Type 0
Taken = Result ℕ RowsError
