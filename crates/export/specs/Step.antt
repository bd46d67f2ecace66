-- One tick from the machine in lent numbers, its answer as 12 bytes. A refused tick touches nothing.
-- Assumes nothing.
use Rattle.std.specs.Prelude.{◌≡◌, cond, List, ◌++◌, ℕ, ltb, eqb, length, drop, Option, None, Some, Ok, Err}
use Rattle.refusals.specs.declared.Refusal.{Refusal}
use Rattle.refusals.specs.declared.Refusal.TheVariants.{NotWellFormed, RecordBytes, OutputShort}
use Rattle.machine.specs.TickRule.{step_of}
use Rattle.machine.specs.Answers.{Answer}
use Rattle.machine.specs.declared.Stepped.{Stepped}
use Rattle.export.specs.Files.{refusal_number, refusal_place}
use Rattle.export.specs.State.{state_of, machine_in, readable}
use Rattle.export.specs.Ticks.{answer_bytes}

-- the tick rule on the machine in the numbers; the early mark is the byte 1
abbrev pub step_in : List ℕ → ℕ → ℕ → ℕ → Stepped
step_in state mask signal early = step_of (machine_in state) mask signal (eqb early 1)

abbrev pub refusal_in : Answer → Option Refusal
refusal_in (Ok t) = None
refusal_in (Err r) = Some r

-- in this order: 17 for an early mark above 1 (as of the only record), 18 where the answer has no room, 8 for a state that can't be read,
-- then the tick rule's own
unfoldable pub step_refusal : List ℕ → ℕ → ℕ → ℕ → ℕ → Option Refusal
step_refusal state mask signal early room =
    cond (ltb 1 early) (Some (RecordBytes 0)) (cond (ltb room 12) (Some (OutputShort 12))
    (cond (readable state) (refusal_in (step_in state mask signal early).answer) (Some (NotWellFormed 0))))

-- what is left in lent memory
abbrev pub state_stepped : Option Refusal → Stepped → List ℕ → List ℕ
state_stepped None s state = state_of s.machine ++ drop 258 state
state_stepped (Some r) s state = state

abbrev pub answer_stepped : Option Refusal → ℕ → Stepped → List ℕ → List ℕ
answer_stepped None clock s lent = answer_bytes clock s.answer ++ drop 12 lent
answer_stepped (Some r) clock s lent = lent

-- what `tollsalmon_step` promises
pub record StepsMachine (state : List ℕ) (mask signal early : ℕ) (lent : List ℕ) (answer place : ℕ) (stateLeft answerLeft : List ℕ) : Type 0 where
  pub answers : answer ≡ refusal_number (step_refusal state mask signal early (length lent))
  pub places : place ≡ refusal_place (step_refusal state mask signal early (length lent)) 0
  pub leaves : stateLeft ≡ state_stepped (step_refusal state mask signal early (length lent)) (step_in state mask signal early) state
  pub writes : answerLeft ≡ answer_stepped (step_refusal state mask signal early (length lent)) (machine_in state).clock (step_in state mask signal early) lent
