-- Ticks one after the other, and their answers as 12 bytes each: the clock before the tick (4 bytes, modulo 2^32), the refusal's place (4 bytes),
-- who ran (0 nobody, 1 guest, 2 hypertask, 3 refused), the task or the refusal's number, the mark (0 none, 1 output, 2 budget used up), ignored 0 or 1.
-- Assumes nothing.
use Rattle.std.specs.Prelude.{◌≡◌, Bool, true, false, cond, List, [], ◌∷◌, ◌++◌, ℕ, zero, suc, ◌*◌, ◌/◌, ◌%◌, min, eqb, length, drop}
use Rattle.std.specs.Prelude.{Option, None, Some, Ok, Err}
use Rattle.least.specs.Lists.{flat}
use Rattle.refusals.specs.Refusals.{number_of, place_of}
use Rattle.refusals.specs.declared.Refusal.{Refusal}
use Rattle.refusals.specs.declared.Refusal.TheVariants.{NotWellFormed}
use Rattle.plan.specs.Numbers.{bytes_of}
use Rattle.plan.specs.Bodies.{tick_at}
use Rattle.plan.specs.declared.Tick.{Tick}
use Rattle.machine.specs.TickRule.{step_of}
use Rattle.machine.specs.declared.Ran.{Ran}
use Rattle.machine.specs.declared.Mark.{Mark}
use Rattle.machine.specs.Answers.{Answer}
use Rattle.machine.specs.declared.Machine.{Machine}
use Rattle.machine.specs.declared.Stepped.{Stepped}
use Rattle.export.specs.Files.{refusal_number, refusal_place}
use Rattle.export.specs.State.{state_of, machine_in, readable}

-- ## An answer

abbrev pub who_of : Ran → ℕ
who_of Ran.Nobody = 0
who_of (Ran.Guest task) = 1
who_of (Ran.Hypertask task) = 2

abbrev pub task_of : Ran → ℕ
task_of Ran.Nobody = 0
task_of (Ran.Guest task) = task
task_of (Ran.Hypertask task) = task

abbrev pub mark_of : Mark → ℕ
mark_of Mark.Nothing = 0
mark_of Mark.Output = 1
mark_of Mark.BudgetUsedUp = 2

abbrev pub bit_of : Bool → ℕ
bit_of true = 1
bit_of false = 0

-- the last eight bytes; a task is at most 32 and a refusal's number at most 19, so the low byte is the number
abbrev pub said_of : Answer → List ℕ
said_of (Ok t) = bytes_of 0 ++ (who_of t.ran ∷ task_of t.ran % 256 ∷ mark_of t.mark ∷ bit_of t.ignored ∷ [])
said_of (Err r) = bytes_of (place_of r) ++ (3 ∷ number_of r % 256 ∷ 0 ∷ 0 ∷ [])

abbrev pub answer_bytes : ℕ → Answer → List ℕ
answer_bytes clock a = bytes_of clock ++ said_of a

-- ## The ticks of a run of records, from a machine

abbrev pub step_by : Machine → Tick → Stepped
step_by m t = step_of m t.mask t.signal t.early

-- the machine after the first i ticks
unfoldable pub machine_after : Machine → List ℕ → ℕ → Machine
machine_after m records zero = m
machine_after m records (suc i) = (step_by (machine_after m records i) (tick_at records i)).machine

-- the answer to tick i, from 0
unfoldable pub answer_to : Machine → List ℕ → ℕ → List ℕ
answer_to m records i = answer_bytes (machine_after m records i).clock (step_by (machine_after m records i) (tick_at records i)).answer

-- ## A run of records: what is answered, and what is left in lent memory

-- a state that can't be read is not well formed
abbrev pub ticks_refusal : List ℕ → Option Refusal
ticks_refusal state = cond (readable state) None (Some (NotWellFormed 0))

-- a tick for each whole record that has room for its whole answer; none from a state that can't be read
unfoldable pub ticks_taken : List ℕ → ℕ → ℕ → ℕ
ticks_taken state records answers = cond (readable state) (min (records / 8) (answers / 12)) 0

abbrev pub state_after : List ℕ → List ℕ → ℕ → List ℕ
state_after state records n = cond (eqb n 0) state (state_of (machine_after (machine_in state) records n) ++ drop 258 state)

abbrev pub answers_after : List ℕ → List ℕ → List ℕ → ℕ → List ℕ
answers_after state records answers n = flat (answer_to (machine_in state) records) n ++ drop (12 * n) answers

-- what `tollsalmon_ticks` promises: 0 and how many ticks, or the refusal
pub record TakesTicks (state records lent : List ℕ) (answer place : ℕ) (stateLeft answersLeft : List ℕ) : Type 0 where
  pub answers : answer ≡ refusal_number (ticks_refusal state)
  pub places : place ≡ refusal_place (ticks_refusal state) (ticks_taken state (length records) (length lent))
  pub leaves : stateLeft ≡ state_after state records (ticks_taken state (length records) (length lent))
  pub writes : answersLeft ≡ answers_after state records lent (ticks_taken state (length records) (length lent))
