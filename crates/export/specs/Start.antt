-- A start into 258 lent numbers: 18 and 258 where there are fewer, and they are left as they are.
-- Assumes nothing.
use Rattle.std.specs.Prelude.{◌≡◌, cond, List, ◌++◌, ℕ, ltb, length, drop, Err}
use Rattle.refusals.specs.declared.Refusal.TheVariants.{OutputShort}
use Rattle.equations.specs.Answers.{Answer}
use Rattle.start.specs.Start.{start_answer, start_of}
use Rattle.export.specs.Numbers.{number_in, place_in}
use Rattle.export.specs.State.{state_of}

unfoldable pub start_says : List ℕ → ℕ → Answer
start_says table room = cond (ltb room 258) (Err (OutputShort 258)) (start_answer table)

unfoldable pub state_started : List ℕ → List ℕ → List ℕ
state_started table state = cond (ltb (length state) 258) state (state_of (start_of table).machine ++ drop 258 state)

-- what `tollsalmon_start` promises
pub record StartsMachine (table state : List ℕ) (answer place : ℕ) (after : List ℕ) : Type 0 where
  pub answers : answer ≡ number_in (start_says table (length state))
  pub places : place ≡ place_in (start_says table (length state))
  pub leaves : after ≡ state_started table state
