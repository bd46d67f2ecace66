-- The job that ran in a tick, told by the machine's own rows. Jobs.antt books an output from the ticks taken alone, to the row's latest arrival;
-- proofs/Booking.antt shows that this is the job that ran. Assumes nothing.
use Rattle.std.specs.Prelude.{ℕ, ◌≡◌, Bool, ◌||◌, List, eqb, get_or}
use Rattle.machine.specs.declared.Stage.{Stage}
use Rattle.machine.specs.declared.Row.{Row}
use Rattle.machine.specs.declared.Ran.{Ran}
use Rattle.machine.specs.declared.Taken.{Taken}
use Rattle.machine.specs.declared.Machine.{Machine}
use Rattle.machine.specs.Rows.{no_row, Found, at, none}
use Rattle.machine.specs.TickRule.{turned, chosen}
use Rattle.demands.specs.Runs.{Tick, TakenTick}
use Rattle.demands.specs.Jobs.{tick_at, is_guest_of, is_hypertask_of, booked_to}

-- the arrival that a stage carries
abbrev pub arrival_of : Stage → Found
arrival_of Stage.Never = none
arrival_of (Stage.Guest arrival used) = at arrival
arrival_of (Stage.Hyper arrival left) = at arrival
arrival_of (Stage.Closed arrival) = at arrival

-- the machine's rows after steps 1 and 2 of the tick, from which step 3 chooses
abbrev pub rows_for : Machine → Tick → List Row
rows_for m t = turned m.clock t.mask m.rows

-- the answer names row i, as guest or as hypertask
abbrev pub is_row_of : ℕ → Ran → Bool
is_row_of i ran = is_guest_of i ran || is_hypertask_of i ran

-- Among all ticks taken of a run, tick x is t with what its answer said, taken from the machine m. Row i, which the answer names, is the one that
-- step 3 chose; its stage carries the arrival of a job; and of all jobs of the row that is the one to which an output of tick x is booked. The
-- machine was started at clock 0, so that the number of the tick that brought a job is its arrival.
pub record JobThatRan (m : Machine) (t : Tick) (said : Taken) (ticks : List TakenTick) (i x : ℕ) : Type 0 where
  pub tick_is : tick_at ticks x ≡ record { tick = t; said = said }
  pub chosen_row : chosen (rows_for m t) ≡ at i
  pub arrival : ℕ
  pub carries : arrival_of (get_or (rows_for m t) i no_row).stage ≡ at arrival
  pub booked : (n : ℕ) → booked_to ticks i n x ≡ eqb arrival n
