-- Worked starts: P1 to P11 of document 01 (a start has no 4, so no P12) and document 02's 19, the answer by number and place, and the machine that is
-- handed back.
-- Assumes nothing.
use Rattle.std.specs.Prelude.{ℕ, ◌-◌, ◌≡◌, List, [], ◌∷◌, ◌++◌, length, replicate}
use Rattle.equations.specs.Analysis.{Says, accepts, refuses, says}
use Rattle.machine.specs.declared.Stage.{Stage}
use Rattle.machine.specs.declared.Row.{Row}
use Rattle.machine.specs.declared.Machine.{Machine}
use Rattle.machine.specs.Rows.{no_row}
use Rattle.start.specs.Start.{start_of}

-- T, D, C, K and E, Never
abbrev row : ℕ → ℕ → ℕ → ℕ → ℕ → Row
row t d c k e = record { t = t; d = d; c = c; k = k; e = e; stage = Stage.Never }

-- "clock 0 and every task Never"; with no rows it is the machine of a refused start, "clock 0, all else zero and Never"
abbrev machine : List Row → Machine
machine rows = record { rows = rows ++ replicate (32 - length rows) no_row; count = length rows; clock = 0 }

pub record Case : Type 0 where
  pub table : List ℕ
  pub answer : Says
  pub machine : Machine

abbrev starts : List ℕ → List Row → Case
starts t rows = record { table = t; answer = accepts (length rows); machine = machine rows }

abbrev refused : List ℕ → ℕ → ℕ → Case
refused t number place = record { table = t; answer = refuses number place; machine = machine [] }

unfoldable pub Right : List Case → Type 0
Right [] = Unit {0}
Right (c ∷ cs) = (says (start_of c.table).answer ≡ c.answer) × ((start_of c.table).machine ≡ c.machine) × Right cs

abbrev pub cases : List Case
cases =
    -- P1 to P6
    refused [] 1 0
    ∷ starts (10 ∷ 8 ∷ 3 ∷ 2 ∷ []) (row 10 8 3 2 6 ∷ [])
    ∷ starts (10 ∷ 8 ∷ 6 ∷ 2 ∷ []) (row 10 8 6 2 6 ∷ [])
    ∷ refused (10 ∷ 8 ∷ 7 ∷ 2 ∷ []) 7 1
    ∷ refused (5 ∷ 2 ∷ 1 ∷ 2 ∷ []) 7 1
    ∷ refused (5 ∷ 2 ∷ 1 ∷ 3 ∷ []) 6 1
    -- P7 to P11
    ∷ refused (5 ∷ 5 ∷ 1 ∷ 6 ∷ []) 5 1
    ∷ refused (10 ∷ 11 ∷ 1 ∷ 1 ∷ []) 3 1
    ∷ starts (10 ∷ 10 ∷ 2 ∷ 1 ∷ 20 ∷ 20 ∷ 4 ∷ 2 ∷ []) (row 10 10 2 1 7 ∷ row 20 20 4 2 16 ∷ [])
    ∷ refused (5 ∷ 5 ∷ 1 ∷ 2 ∷ 7 ∷ 7 ∷ 1 ∷ 2 ∷ 7 ∷ 7 ∷ 1 ∷ 2 ∷ []) 6 2
    ∷ refused (10 ∷ 8 ∷ 0 ∷ 2 ∷ []) 2 2
    -- 19 at the last task, and at task 1 before 7 at task 2; 7 where both windows fail
    ∷ refused (5 ∷ 5 ∷ 2 ∷ 1 ∷ 8 ∷ 8 ∷ 2 ∷ 1 ∷ []) 19 2
    ∷ refused (20 ∷ 20 ∷ 4 ∷ 1 ∷ 13 ∷ 13 ∷ 4 ∷ 4 ∷ 17 ∷ 17 ∷ 1 ∷ 5 ∷ []) 19 1
    ∷ refused (5 ∷ 5 ∷ 1 ∷ 1 ∷ 4 ∷ 4 ∷ 3 ∷ 1 ∷ []) 7 2
    ∷ []
