-- The jobs of a run, their outputs, and the counts of each task, all told from the ticks taken. A row stands at its place from 0, so that the
-- row of task i + 1 is row i; a job is a row and the number of the taken tick that brought it. Assumes nothing.
use Rattle.std.specs.Prelude.{ℕ, zero, suc, ◌+◌, ◌<◌, ◌≡◌, Bool, true, false, cond, ◌&&◌, ◌||◌, List, eqb, length, get_or}
use Rattle.least.specs.Sums.{sum}
use Rattle.machine.specs.declared.Ran.{Ran}
use Rattle.machine.specs.declared.Mark.{Mark}
use Rattle.machine.specs.Rows.{in_mask, Found, at, none}
use Rattle.machine.specs.TickRule.{nobody_ran}
use Rattle.demands.specs.Runs.{TakenTick}

-- past the ticks taken there is none: nothing comes and nobody runs
abbrev pub no_tick : TakenTick
no_tick = record { tick = record { mask = 0; signal = 0; early = false }; said = nobody_ran 0 }

-- the taken tick of number x
abbrev pub tick_at : List TakenTick → ℕ → TakenTick
tick_at ticks x = get_or ticks x no_tick

-- tick x brought an arrival of row i
abbrev pub brought : List TakenTick → ℕ → ℕ → Bool
brought ticks i x = in_mask (tick_at ticks x).tick.mask i

-- row i of a table of so many rows and taken tick n, which brought its arrival
pub record Job (rows : ℕ) (ticks : List TakenTick) (i n : ℕ) : Type 0 where
  pub row : i < rows
  pub taken : n < length ticks
  pub came : brought ticks i n ≡ true

-- the latest arrival of row i before tick x, by the number of the tick that brought it
unfoldable pub latest : List TakenTick → ℕ → ℕ → Found
latest ticks i zero = none
latest ticks i (suc x) = cond (brought ticks i x) (at x) (latest ticks i x)

-- an output given by the guest, or by the hypertask, of row i
abbrev pub is_output : Mark → Bool
is_output Mark.Nothing = false
is_output Mark.Output = true
is_output Mark.BudgetUsedUp = false

abbrev pub is_guest_of : ℕ → Ran → Bool
is_guest_of i Ran.Nobody = false
is_guest_of i (Ran.Guest task) = eqb task (i + 1)
is_guest_of i (Ran.Hypertask task) = false

abbrev pub is_hypertask_of : ℕ → Ran → Bool
is_hypertask_of i Ran.Nobody = false
is_hypertask_of i (Ran.Guest task) = false
is_hypertask_of i (Ran.Hypertask task) = eqb task (i + 1)

abbrev pub guest_gives : List TakenTick → ℕ → ℕ → Bool
guest_gives ticks i x = is_output (tick_at ticks x).said.mark && is_guest_of i (tick_at ticks x).said.ran

abbrev pub hypertask_gives : List TakenTick → ℕ → ℕ → Bool
hypertask_gives ticks i x = is_output (tick_at ticks x).said.mark && is_hypertask_of i (tick_at ticks x).said.ran

-- An output is booked to the job that ran, which is the one of the row's latest arrival, in that tick or before it.
abbrev pub is_at : ℕ → Found → Bool
is_at n (at x) = eqb x n
is_at n none = false

abbrev pub booked_to : List TakenTick → ℕ → ℕ → ℕ → Bool
booked_to ticks i n x = is_at n (latest ticks i (suc x))

-- tick x gives an output of job n of row i
abbrev pub guest_output : List TakenTick → ℕ → ℕ → ℕ → Bool
guest_output ticks i n x = guest_gives ticks i x && booked_to ticks i n x

abbrev pub hypertask_output : List TakenTick → ℕ → ℕ → ℕ → Bool
hypertask_output ticks i n x = hypertask_gives ticks i x && booked_to ticks i n x

abbrev pub output : List TakenTick → ℕ → ℕ → ℕ → Bool
output ticks i n x = guest_output ticks i n x || hypertask_output ticks i n x

-- how many of the numbers below n have p
abbrev pub one : Bool → ℕ
one b = cond b 1 0

abbrev pub number_of : (ℕ → Bool) → ℕ → ℕ
number_of p n = sum (λ x. one (p x)) n

-- the outputs of job n of row i among all ticks taken so far
unfoldable pub guest_outputs : List TakenTick → ℕ → ℕ → ℕ
guest_outputs ticks i n = number_of (guest_output ticks i n) (length ticks)

unfoldable pub hypertask_outputs : List TakenTick → ℕ → ℕ → ℕ
hypertask_outputs ticks i n = number_of (hypertask_output ticks i n) (length ticks)

-- a job with no output so far
abbrev pub is_open : List TakenTick → ℕ → ℕ → Bool
is_open ticks i n = brought ticks i n && eqb (guest_outputs ticks i n + hypertask_outputs ticks i n) 0

-- Of the task at row i: jobs arrived, guest outputs, hypertask outputs, jobs still open
unfoldable pub jobs_arrived : List TakenTick → ℕ → ℕ
jobs_arrived ticks i = number_of (brought ticks i) (length ticks)

unfoldable pub guest_outputs_of : List TakenTick → ℕ → ℕ
guest_outputs_of ticks i = number_of (guest_gives ticks i) (length ticks)

unfoldable pub hypertask_outputs_of : List TakenTick → ℕ → ℕ
hypertask_outputs_of ticks i = number_of (hypertask_gives ticks i) (length ticks)

unfoldable pub jobs_open : List TakenTick → ℕ → ℕ
jobs_open ticks i = number_of (is_open ticks i) (length ticks)
