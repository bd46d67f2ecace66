-- What the code reads and writes by part: a stage as three numbers, a place as eight; and runs and steps before they are told as numbers.
-- Assumes nothing.
use Rattle.std.specs.Prelude.{◌≡◌, cond, ◌||◌, List, [], ◌∷◌, ℕ, leb, ltb, length, Option, None, Some}
use Rattle.plan.specs.Answers.{Answer, Writing}
use Rattle.plan.specs.Refuse.{answer_of}
use Rattle.plan.specs.Writer.{writing_of}
use Rattle.machine.specs.declared.Stage.{Stage}
use Rattle.machine.specs.declared.Row.{Row}
use Rattle.export.specs.State.{stage_number, arrival_number, ticks_number, stage_in, row_in, stray, unreadable}
use Rattle.export.specs.State.{machine_in}
use Rattle.export.specs.Step.{step_in, step_refusal, state_stepped, answer_stepped}
use Rattle.export.specs.Ticks.{ticks_refusal, ticks_taken, state_after, answers_after}

abbrev pub stage_numbers : Stage → List ℕ
stage_numbers s = stage_number s ∷ arrival_number s ∷ ticks_number s ∷ []

-- the stage that three numbers tell, where there is such a stage and each number has its use
abbrev pub stage_told : ℕ → ℕ → ℕ → Option Stage
stage_told stage arrival ticks = cond (ltb 3 stage || stray stage arrival ticks) None (Some (stage_in stage arrival ticks))

-- a field of a row, where it has 32 bits
abbrev pub field_told : ℕ → Option ℕ
field_told x = cond (leb 4294967296 x) None (Some x)

-- the row that the eight numbers of a place tell: the first place of a state, after the count and the clock
abbrev pub row_told : List ℕ → Option Row
row_told place = cond (unreadable (0 ∷ 0 ∷ place) 0) None (Some (row_in (0 ∷ 0 ∷ place) 0))

-- a run of ticks: how many were taken, or the refusal
pub record RunsTicks (state records lent : List ℕ) (answer : Writing) (stateLeft answersLeft : List ℕ) : Type 0 where
  pub answers : answer ≡ writing_of (ticks_refusal state) (ticks_taken state (length records) (length lent))
  pub leaves : stateLeft ≡ state_after state records (ticks_taken state (length records) (length lent))
  pub writes : answersLeft ≡ answers_after state records lent (ticks_taken state (length records) (length lent))

-- one tick: taken, or the refusal
pub record TakesStep (state : List ℕ) (mask signal early : ℕ) (lent : List ℕ) (answer : Answer) (stateLeft answerLeft : List ℕ) : Type 0 where
  pub answers : answer ≡ answer_of (step_refusal state mask signal early (length lent))
  pub leaves : stateLeft ≡ state_stepped (step_refusal state mask signal early (length lent)) (step_in state mask signal early) state
  pub writes : answerLeft ≡ answer_stepped (step_refusal state mask signal early (length lent)) (machine_in state).clock (step_in state mask signal early) lent
