-- The same tick again and again from one machine, and what the answers say added up: for taking the time of ticks.
-- Assumes nothing.
use Rattle.std.specs.Prelude.{Bool, cond, List, ℕ, zero, suc, ◌+◌, ◌%◌, ltb, eqb, Ok, Err}
use Rattle.least.specs.Sums.{sum}
use Rattle.refusals.specs.Refusals.{number_of}
use Rattle.machine.specs.TickRule.{step_of}
use Rattle.machine.specs.declared.Taken.{Taken}
use Rattle.machine.specs.Answers.{Answer}
use Rattle.machine.specs.declared.Machine.{Machine}
use Rattle.export.specs.State.{readable, machine_in}
use Rattle.export.specs.Ticks.{who_of, task_of, mark_of, bit_of}

-- the last four of an answer's twelve bytes, added up
abbrev pub taken_sum : Taken → ℕ
taken_sum t = who_of t.ran + task_of t.ran % 256 + mark_of t.mark + bit_of t.ignored

abbrev pub said_sum : Answer → ℕ
said_sum (Ok t) = taken_sum t
said_sum (Err r) = 3 + number_of r % 256

-- the machine after i ticks
unfoldable pub machine_after : Machine → ℕ → ℕ → Bool → ℕ → Machine
machine_after m mask signal early zero = m
machine_after m mask signal early (suc i) = (step_of (machine_after m mask signal early i) mask signal early).machine

-- what the answer to tick i says, from 0
unfoldable pub said_at : Machine → ℕ → ℕ → Bool → ℕ → ℕ
said_at m mask signal early i = said_sum (step_of (machine_after m mask signal early i) mask signal early).answer

unfoldable pub ticks_sum : Machine → ℕ → ℕ → Bool → ℕ → ℕ
ticks_sum m mask signal early n = sum (said_at m mask signal early) n

-- from the machine in lent numbers; 0 where it can't be read, and for more than 2^32 ticks
unfoldable pub pace_of : List ℕ → ℕ → ℕ → ℕ → ℕ → ℕ
pace_of state mask signal early times =
    cond (readable state) (cond (ltb 4294967296 times) 0 (ticks_sum (machine_in state) mask signal (eqb early 1) times)) 0
