-- Rows, places and ages: the few words that "The tick rule" and "well formed" of document 01 are written in. A place
-- counts from 0, so the row of task i + 1 stands at place i. Assumes nothing.
use Rattle.std.specs.Prelude.{ℕ, zero, suc, ◌-◌, ◌/◌, ◌%◌, ◌^◌, Bool, true, false, cond, ◌&&◌, List, [], ◌∷◌, ltb, eqb}
use Rattle.machine.specs.declared.Stage.{Stage}
use Rattle.machine.specs.declared.Row.{Row}

-- a place past the last row: all zero and Never
abbrev pub no_row : Row
no_row = record { t = 0; d = 0; c = 0; k = 0; e = 0; stage = Stage.Never }

-- a row with its task in another stage
abbrev pub with_stage : Row → Stage → Row
with_stage r s = record { t = r.t; d = r.d; c = r.c; k = r.k; e = r.e; stage = s }

-- a mask of tasks: bit 0 is task 1, so the task at place i has bit i
abbrev pub in_mask : ℕ → ℕ → Bool
in_mask mask i = eqb (mask / 2 ^ i % 2) 1

-- the age of a job: how long ago it arrived. An arrival plus x is the clock when the age is x.
unfoldable pub age : ℕ → ℕ → ℕ
age clock arrival = clock - arrival

-- what a search comes to: a place, or none
pub data Found : Type 0 where
  at : ℕ → Found
  none : Found

-- the first place, from i on, of which p holds
unfoldable pub first_from : (ℕ → Row → Bool) → ℕ → List Row → Found
first_from p i [] = none
first_from p i (r ∷ rs) = cond (p i r) (at i) (first_from p (suc i) rs)

abbrev pub first : (ℕ → Row → Bool) → List Row → Found
first p rows = first_from p 0 rows

-- a place that was found, or else what another search comes to
abbrev pub or_else : Found → Found → Found
or_else (at i) f = at i
or_else none f = f

-- each row, from place i on, changed by f
unfoldable pub map_from : (ℕ → Row → Row) → ℕ → List Row → List Row
map_from f i [] = []
map_from f i (r ∷ rs) = f i r ∷ map_from f (suc i) rs

-- p holds of every row
unfoldable pub every : (Row → Bool) → List Row → Bool
every p [] = true
every p (r ∷ rs) = p r && every p rs

-- of how many rows p holds
unfoldable pub how_many : (Row → Bool) → List Row → ℕ
how_many p [] = zero
how_many p (r ∷ rs) = cond (p r) (suc (how_many p rs)) (how_many p rs)

-- what is asked of a stage

abbrev pub is_never : Stage → Bool
is_never Stage.Never = true
is_never (Stage.Guest arrival used) = false
is_never (Stage.Hyper arrival left) = false
is_never (Stage.Closed arrival) = false

abbrev pub is_hyper : Stage → Bool
is_hyper Stage.Never = false
is_hyper (Stage.Guest arrival used) = false
is_hyper (Stage.Hyper arrival left) = true
is_hyper (Stage.Closed arrival) = false

-- Hyper with fewer than K left
abbrev pub has_begun : ℕ → Stage → Bool
has_begun k Stage.Never = false
has_begun k (Stage.Guest arrival used) = false
has_begun k (Stage.Hyper arrival left) = ltb left k
has_begun k (Stage.Closed arrival) = false

-- Guest with fewer than C used
abbrev pub has_budget : ℕ → Stage → Bool
has_budget c Stage.Never = false
has_budget c (Stage.Guest arrival used) = ltb used c
has_budget c (Stage.Hyper arrival left) = false
has_budget c (Stage.Closed arrival) = false
