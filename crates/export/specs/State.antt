-- A machine as 258 numbers of 64 bits: the count of rows, the clock, then 8 numbers for each of the 32 places: T, D, C, K, E, the stage
-- (0 Never, 1 Guest, 2 Hyper, 3 Closed), the arrival, the ticks used or left; 0 where the stage has none.
-- Assumes nothing.
use Rattle.std.specs.Prelude.{Bool, true, false, cond, ◌||◌, List, [], ◌∷◌, ◌++◌, ℕ, ◌+◌, ◌*◌, leb, ltb, eqb, length, get_or, Option, None, Some}
use Rattle.least.specs.Search.{first_where}
use Rattle.least.specs.Lists.{list_of, flat}
use Rattle.machine.specs.Rows.{no_row}
use Rattle.machine.specs.declared.Stage.{Stage}
use Rattle.machine.specs.declared.Row.{Row}
use Rattle.machine.specs.declared.Machine.{Machine}

-- ## To numbers

abbrev pub stage_number : Stage → ℕ
stage_number Stage.Never = 0
stage_number (Stage.Guest arrival used) = 1
stage_number (Stage.Hyper arrival left) = 2
stage_number (Stage.Closed arrival) = 3

abbrev pub arrival_number : Stage → ℕ
arrival_number Stage.Never = 0
arrival_number (Stage.Guest arrival used) = arrival
arrival_number (Stage.Hyper arrival left) = arrival
arrival_number (Stage.Closed arrival) = arrival

abbrev pub ticks_number : Stage → ℕ
ticks_number Stage.Never = 0
ticks_number (Stage.Guest arrival used) = used
ticks_number (Stage.Hyper arrival left) = left
ticks_number (Stage.Closed arrival) = 0

abbrev pub row_numbers : Row → List ℕ
row_numbers r =
    r.t ∷ r.d ∷ r.c ∷ r.k ∷ r.e ∷ stage_number r.stage ∷ arrival_number r.stage ∷ ticks_number r.stage ∷ []

abbrev pub place_numbers : List Row → ℕ → List ℕ
place_numbers rows i = row_numbers (get_or rows i no_row)

unfoldable pub state_of : Machine → List ℕ
state_of m = (m.count ∷ m.clock ∷ []) ++ flat (place_numbers m.rows) 32

-- ## From numbers

abbrev pub stage_in : ℕ → ℕ → ℕ → Stage
stage_in stage arrival ticks =
    cond (eqb stage 0) Stage.Never (cond (eqb stage 1) (Stage.Guest arrival ticks) (cond (eqb stage 2) (Stage.Hyper arrival ticks) (Stage.Closed arrival)))

-- number k of place i
abbrev pub number_in : List ℕ → ℕ → ℕ → ℕ
number_in l i k = get_or l (2 + 8 * i + k) 0

unfoldable pub row_in : List ℕ → ℕ → Row
row_in l i =
    record {
      t = number_in l i 0;
      d = number_in l i 1;
      c = number_in l i 2;
      k = number_in l i 3;
      e = number_in l i 4;
      stage = stage_in (number_in l i 5) (number_in l i 6) (number_in l i 7);
    }

unfoldable pub machine_in : List ℕ → Machine
machine_in l = record { rows = list_of (row_in l) 32; count = get_or l 0 0; clock = get_or l 1 0 }

-- a number that its stage has no use for and that isn't 0: Never has neither arrival nor ticks, Closed has no ticks
unfoldable pub stray : ℕ → ℕ → ℕ → Bool
stray stage arrival ticks = cond (eqb stage 0) (ltb 0 arrival || ltb 0 ticks) (cond (eqb stage 3) (ltb 0 ticks) false)

-- a place that can't be read: a field of 2^32 or more, no such stage, or a number without a use
unfoldable pub unreadable : List ℕ → ℕ → Bool
unreadable l i =
    leb 4294967296 (number_in l i 0) || (leb 4294967296 (number_in l i 1) || (leb 4294967296 (number_in l i 2)
    || (leb 4294967296 (number_in l i 3) || (leb 4294967296 (number_in l i 4)
    || (ltb 3 (number_in l i 5) || stray (number_in l i 5) (number_in l i 6) (number_in l i 7))))))

abbrev pub is_none : Option ℕ → Bool
is_none None = true
is_none (Some i) = false

-- long enough, and every place can be read
unfoldable pub readable : List ℕ → Bool
readable l = cond (ltb (length l) 258) false (is_none (first_where (unreadable l) 0 32))

-- the machine where it can be read
unfoldable pub read_of : List ℕ → Option Machine
read_of l = cond (readable l) (Some (machine_in l)) None
