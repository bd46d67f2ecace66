-- "A state is well formed when", clause by clause as document 01 prints it, and when a tick is taken: said of numbers, arrivals and ages, by no
-- test that computes. proofs/Clauses.antt shows that the tests of the tick rule say exactly this. Assumes nothing.
use Rattle.std.specs.Prelude.{ℕ, ◌+◌, ◌/◌, ◌%◌, ◌^◌, ◌≤◌, ◌<◌, ◌≡◌, get_or}
use Rattle.machine.specs.declared.Stage.{Stage}
use Rattle.machine.specs.declared.Row.{Row}
use Rattle.machine.specs.declared.Machine.{Machine}
use Rattle.machine.specs.Rows.{no_row}

-- the row at place i, which is that of task i + 1
abbrev pub row_at : Machine → ℕ → Row
row_at m i = get_or m.rows i no_row

-- "rows within the limits" (T, D, C, K 1 to 1,000,000 each, D at most T) and "1 ≤ E < D"
pub record FieldClauses (r : Row) : Type 0 where
  pub period : (1 ≤ r.t) × (r.t ≤ 1_000_000)
  pub deadline : (1 ≤ r.d) × (r.d ≤ 1_000_000)
  pub guest_part : (1 ≤ r.c) × (r.c ≤ 1_000_000)
  pub hypertask : (1 ≤ r.k) × (r.k ≤ 1_000_000)
  pub within_period : r.d ≤ r.t
  pub offset : (1 ≤ r.e) × (r.e < r.d)

-- "every arrival at or before the clock; Guest has used ≤ C and clock ≤ arrival + E"
pub record GuestClauses (clock : ℕ) (r : Row) (arrival used : ℕ) : Type 0 where
  pub arrived : arrival ≤ clock
  pub budget : used ≤ r.c
  pub not_past_enforcement : clock ≤ arrival + r.e

-- "Hyper has 1 to K left and clock > arrival + E"
pub record HyperClauses (clock : ℕ) (r : Row) (arrival left : ℕ) : Type 0 where
  pub arrived : arrival ≤ clock
  pub some_left : 1 ≤ left
  pub at_most_k : left ≤ r.k
  pub past_enforcement : arrival + r.e < clock

abbrev pub StageClauses : ℕ → Row → Stage → Type 0
StageClauses clock r Stage.Never = Unit {0}
StageClauses clock r (Stage.Guest arrival used) = GuestClauses clock r arrival used
StageClauses clock r (Stage.Hyper arrival left) = HyperClauses clock r arrival left
StageClauses clock r (Stage.Closed arrival) = arrival ≤ clock

-- Hyper with fewer than K left
abbrev pub BegunStage : ℕ → Stage → Type 0
BegunStage k Stage.Never = ⊥
BegunStage k (Stage.Guest arrival used) = ⊥
BegunStage k (Stage.Hyper arrival left) = left < k
BegunStage k (Stage.Closed arrival) = ⊥

abbrev pub Begun : Row → Type 0
Begun r = BegunStage r.k r.stage

-- a state that is well formed
pub record Clauses (m : Machine) : Type 0 where
  -- "1 to 32 rows"
  pub some : 1 ≤ m.count
  pub few : m.count ≤ 32
  pub fields : (i : ℕ) → i < m.count → FieldClauses (row_at m i)
  -- "clock at most 2^40"
  pub time : m.clock ≤ 2 ^ 40
  pub stages : (i : ℕ) → i < m.count → StageClauses m.clock (row_at m i) (row_at m i).stage
  -- "at most one Hyper has fewer than K left"
  pub begun_once : (i j : ℕ) → i < m.count → j < m.count → Begun (row_at m i) → Begun (row_at m j) → i ≡ j
  -- "all places past the last row are zero and Never"
  pub blank : (i : ℕ) → m.count ≤ i → i < 32 → row_at m i ≡ no_row

-- the task of place i is in the mask: bit 0 is task 1
abbrev pub Arrives : ℕ → ℕ → Type 0
Arrives mask i = mask / 2 ^ i % 2 ≡ 1

-- the last arrival of a task, by its stage
abbrev pub CameAt : ℕ → Stage → Type 0
CameAt a Stage.Never = ⊥
CameAt a (Stage.Guest arrival used) = arrival ≡ a
CameAt a (Stage.Hyper arrival left) = arrival ≡ a
CameAt a (Stage.Closed arrival) = arrival ≡ a

-- 8 and 9 don't apply: the state is well formed, and its clock before 2^40
pub record InTime (m : Machine) : Type 0 where
  pub is_well_formed : Clauses m
  pub before_the_end : m.clock < 2 ^ 40

-- 10 doesn't apply: every task in the mask is one of the table
abbrev pub Known : Machine → ℕ → Type 0
Known m mask = (i : ℕ) → i < 32 → Arrives mask i → i < m.count

-- 11 doesn't apply: T or more since the last arrival of every task in the mask
abbrev pub Spaced : Machine → ℕ → Type 0
Spaced m mask = (i a : ℕ) → i < 32 → Arrives mask i → CameAt a (row_at m i).stage → a + (row_at m i).t ≤ m.clock

-- 12 doesn't apply: no task in the mask is Hyper
abbrev pub Free : Machine → ℕ → Type 0
Free m mask = (i a left : ℕ) → i < 32 → Arrives mask i → (row_at m i).stage ≡ Stage.Hyper a left → ⊥

-- none of 8 to 12 applies, so the tick is taken
pub record NoneApplies (m : Machine) (mask : ℕ) : Type 0 where
  pub in_time : InTime m
  pub known : Known m mask
  pub spaced : Spaced m mask
  pub free : Free m mask

-- "of several places the lowest is given": i is the lowest of which p holds
pub record Lowest (p : ℕ → Type 0) (i : ℕ) : Type 0 where
  pub holds : p i
  pub lowest : (j : ℕ) → j < i → p j → ⊥

-- 10: "mask names a task past the last row"
abbrev pub PastLast : Machine → ℕ → ℕ → Type 0
PastLast m mask i = (i < 32) × Arrives mask i × (m.count ≤ i)

-- 11: "arrival less than T after that task's last"
abbrev pub TooSoon : Machine → ℕ → ℕ → Type 0
TooSoon m mask i = (i < 32) × Arrives mask i × ((a : ℕ) × CameAt a (row_at m i).stage × (m.clock < a + (row_at m i).t))

-- 12: "arrival while that task is Hyper"
abbrev pub WhileHyper : Machine → ℕ → ℕ → Type 0
WhileHyper m mask i = (i < 32) × Arrives mask i × ((a : ℕ) × (left : ℕ) × ((row_at m i).stage ≡ Stage.Hyper a left))

-- when each refusal is given: "checks go by number", each over all tasks before the next; for 10 to 12 at the task of place i
abbrev pub Eight : Machine → Type 0
Eight m = Clauses m → ⊥

abbrev pub Nine : Machine → Type 0
Nine m = Clauses m × (m.clock ≡ 2 ^ 40)

abbrev pub Ten : Machine → ℕ → ℕ → Type 0
Ten m mask i = InTime m × Lowest (PastLast m mask) i

abbrev pub Eleven : Machine → ℕ → ℕ → Type 0
Eleven m mask i = InTime m × Known m mask × Lowest (TooSoon m mask) i

abbrev pub Twelve : Machine → ℕ → ℕ → Type 0
Twelve m mask i = InTime m × Known m mask × Spaced m mask × Lowest (WhileHyper m mask) i
