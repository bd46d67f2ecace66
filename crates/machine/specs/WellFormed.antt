-- "A state is well formed when": document 01, "The tick rule", clause by clause. Assumes nothing.
use Rattle.std.specs.Prelude.{ℕ, ◌^◌, Bool, true, ◌&&◌, List, leb, ltb, eqb, take, drop}
use Rattle.machine.specs.declared.Stage.{Stage}
use Rattle.machine.specs.declared.Row.{Row}
use Rattle.machine.specs.declared.Machine.{Machine}
use Rattle.machine.specs.Rows.{age, every, how_many, is_never, has_begun}

-- 1 to 32 rows
abbrev pub count_fits : ℕ → Bool
count_fits count = leb 1 count && leb count 32

-- within the limits: T, D, C, K 1 to 1,000,000 each, D at most T
abbrev pub in_limits : ℕ → Bool
in_limits x = leb 1 x && leb x 1_000_000

abbrev pub within_limits : Row → Bool
within_limits r = in_limits r.t && (in_limits r.d && (in_limits r.c && (in_limits r.k && leb r.d r.t)))

-- 1 ≤ E < D
abbrev pub offset_fits : Row → Bool
offset_fits r = leb 1 r.e && ltb r.e r.d

-- clock at most 2^40
abbrev pub clock_fits : ℕ → Bool
clock_fits clock = leb clock (2 ^ 40)

-- every arrival at or before the clock
abbrev pub arrival_fits : ℕ → Stage → Bool
arrival_fits clock Stage.Never = true
arrival_fits clock (Stage.Guest arrival used) = leb arrival clock
arrival_fits clock (Stage.Hyper arrival left) = leb arrival clock
arrival_fits clock (Stage.Closed arrival) = leb arrival clock

-- Guest has used ≤ C and clock ≤ arrival + E
abbrev pub guest_fits : ℕ → ℕ → ℕ → Stage → Bool
guest_fits clock c e Stage.Never = true
guest_fits clock c e (Stage.Guest arrival used) = leb used c && leb (age clock arrival) e
guest_fits clock c e (Stage.Hyper arrival left) = true
guest_fits clock c e (Stage.Closed arrival) = true

-- Hyper has 1 to K left and clock > arrival + E
abbrev pub hyper_fits : ℕ → ℕ → ℕ → Stage → Bool
hyper_fits clock k e Stage.Never = true
hyper_fits clock k e (Stage.Guest arrival used) = true
hyper_fits clock k e (Stage.Hyper arrival left) = leb 1 left && (leb left k && ltb e (age clock arrival))
hyper_fits clock k e (Stage.Closed arrival) = true

-- what is asked of each row by itself: its fields, and its stage
unfoldable pub fields_fit : Row → Bool
fields_fit r = within_limits r && offset_fits r

unfoldable pub stage_fits : ℕ → ℕ → ℕ → ℕ → Stage → Bool
stage_fits clock c k e s = arrival_fits clock s && (guest_fits clock c e s && hyper_fits clock k e s)

abbrev pub row_fits : ℕ → Row → Bool
row_fits clock r = fields_fit r && stage_fits clock r.c r.k r.e r.stage

-- at most one Hyper has fewer than K left
abbrev pub begun_row : Row → Bool
begun_row r = has_begun r.k r.stage

abbrev pub one_begun : List Row → Bool
one_begun rows = leb (how_many begun_row rows) 1

-- all places past the last row are zero and Never
unfoldable pub is_blank : Row → Bool
is_blank r = eqb r.t 0 && (eqb r.d 0 && (eqb r.c 0 && (eqb r.k 0 && (eqb r.e 0 && is_never r.stage))))

unfoldable pub well_formed : Machine → Bool
well_formed m =
    count_fits m.count && (clock_fits m.clock
    && (every (row_fits m.clock) (take m.count m.rows)
    && (one_begun m.rows && every is_blank (drop m.count m.rows))))
