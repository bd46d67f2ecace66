-- What one tick does and when it is refused: document 01, "The tick rule" and refusals 8 to 12. Assumes nothing.
use Rattle.std.specs.Prelude.{ℕ, ◌+◌, ◌-◌, ◌^◌, Bool, false, not, cond, ◌&&◌, ◌||◌, List, leb, ltb, eqb, get_or, set, Ok, Err}
use Rattle.refusals.specs.declared.Refusal.{Refusal}
use Rattle.machine.specs.declared.Stage.{Stage}
use Rattle.machine.specs.declared.Row.{Row}
use Rattle.machine.specs.declared.Machine.{Machine}
use Rattle.machine.specs.declared.Ran.{Ran}
use Rattle.machine.specs.declared.Mark.{Mark}
use Rattle.machine.specs.declared.Outcome.{Outcome}
use Rattle.machine.specs.declared.Taken.{Taken}
use Rattle.machine.specs.declared.Stepped.{Stepped}
use Rattle.machine.specs.Rows.{no_row, with_stage, in_mask, age, Found, at, none, first, or_else, map_from, is_hyper, has_begun, has_budget}
use Rattle.machine.specs.WellFormed.{well_formed}

-- The refusals of a tick at clock c, against the state as it was handed in

-- 10: the mask names a task past the last row
abbrev pub past_last : ℕ → ℕ → ℕ → Row → Bool
past_last mask count i r = in_mask mask i && leb count i

-- 11: an arrival less than T after that task's last
abbrev pub younger_than : ℕ → ℕ → Stage → Bool
younger_than clock t Stage.Never = false
younger_than clock t (Stage.Guest arrival used) = ltb (age clock arrival) t
younger_than clock t (Stage.Hyper arrival left) = ltb (age clock arrival) t
younger_than clock t (Stage.Closed arrival) = ltb (age clock arrival) t

abbrev pub too_soon : ℕ → ℕ → ℕ → Row → Bool
too_soon mask clock i r = in_mask mask i && younger_than clock r.t r.stage

-- 12: an arrival while that task is Hyper
abbrev pub while_hyper : ℕ → ℕ → Row → Bool
while_hyper mask i r = in_mask mask i && is_hyper r.stage

-- what is said of a tick: a refusal, or that it is taken
pub data Verdict : Type 0 where
  refused : Refusal → Verdict
  accepted : Verdict

-- the lowest such task is refused; where there is none, the checks go on
abbrev pub refuse_at : (ℕ → Refusal) → Found → Verdict → Verdict
refuse_at refusal (at i) v = refused (refusal (i + 1))
refuse_at refusal none v = v

-- checks go by number, each over all tasks
unfoldable pub verdict : Machine → ℕ → Verdict
verdict m mask =
    cond (not (well_formed m)) (refused (Refusal.NotWellFormed 0))
    (cond (eqb m.clock (2 ^ 40)) (refused (Refusal.ClockAtEnd 0))
    (refuse_at Refusal.NoSuchTask (first (past_last mask m.count) m.rows)
    (refuse_at Refusal.ArrivalTooSoon (first (too_soon mask m.clock) m.rows)
    (refuse_at Refusal.ArrivalWhileHyper (first (while_hyper mask) m.rows) accepted))))

-- 1. Each Guest task with arrival + E = c becomes Hyper with K left.

-- what a Guest becomes at its enforcement instant
abbrev pub at_enforcement : ℕ → ℕ → Stage
at_enforcement arrival k = Stage.Hyper arrival k

abbrev pub enforced : ℕ → ℕ → ℕ → Stage → Stage
enforced clock k e Stage.Never = Stage.Never
enforced clock k e (Stage.Guest arrival used) = cond (eqb (age clock arrival) e) (at_enforcement arrival k) (Stage.Guest arrival used)
enforced clock k e (Stage.Hyper arrival left) = Stage.Hyper arrival left
enforced clock k e (Stage.Closed arrival) = Stage.Closed arrival

abbrev pub enforcements : ℕ → List Row → List Row
enforcements clock rows = map_from (λ i r. with_stage r (enforced clock r.k r.e r.stage)) 0 rows

-- 2. Each task in the mask becomes Guest, arrival c, 0 used.
abbrev pub arrivals : ℕ → ℕ → List Row → List Row
arrivals clock mask rows = map_from (λ i r. with_stage r (cond (in_mask mask i) (Stage.Guest clock 0) r.stage)) 0 rows

-- 3. If a Hyper task has fewer than K left, it runs. Otherwise the first Hyper task runs; otherwise the first Guest task
-- with fewer than C used; otherwise nothing.
abbrev pub begun : ℕ → Row → Bool
begun i r = has_begun r.k r.stage

abbrev pub waiting : ℕ → Row → Bool
waiting i r = is_hyper r.stage

abbrev pub ready : ℕ → Row → Bool
ready i r = has_budget r.c r.stage

unfoldable pub chosen : List Row → Found
chosen rows = or_else (first begun rows) (or_else (first waiting rows) (first ready rows))

-- 4. A hypertask that ran has one tick fewer left. At 0, or with the early-end mark, it gives its output and is Closed. A
-- guest that ran has one more used; if the signal is its own number, it gives its output and is Closed. A signal that
-- isn't the running guest's number, or comes when no guest ran, is ignored and the answer says so. The early-end mark is
-- ignored when no hypertask ran. The mark of a guest that used its last tick without output is that its budget is used up.
abbrev pub outcome : Stage → Ran → Mark → Bool → Outcome
outcome s ran mark ignored = record { stage = s; taken = record { ran = ran; mark = mark; ignored = ignored } }

-- a signal was given; it is ignored, unless it is the running guest's number
abbrev pub is_signal : ℕ → Bool
is_signal signal = not (eqb signal 0)

-- left: after this tick
abbrev pub hypertask_ran : ℕ → ℕ → Bool → ℕ → ℕ → Outcome
hypertask_ran task signal early arrival left =
    cond (early || eqb left 0)
    (outcome (Stage.Closed arrival) (Ran.Hypertask task) Mark.Output (is_signal signal))
    (outcome (Stage.Hyper arrival left) (Ran.Hypertask task) Mark.Nothing (is_signal signal))

-- used: after this tick
abbrev pub guest_ran : ℕ → ℕ → ℕ → ℕ → ℕ → Outcome
guest_ran task signal c arrival used =
    cond (eqb signal task)
    (outcome (Stage.Closed arrival) (Ran.Guest task) Mark.Output false)
    (outcome (Stage.Guest arrival used) (Ran.Guest task) (cond (eqb used c) Mark.BudgetUsedUp Mark.Nothing) (is_signal signal))

abbrev pub nobody_ran : ℕ → Taken
nobody_ran signal = record { ran = Ran.Nobody; mark = Mark.Nothing; ignored = is_signal signal }

-- the chosen task by its stage; one that is Never or Closed is not chosen
abbrev pub ran_from : ℕ → ℕ → Bool → ℕ → Stage → Outcome
ran_from task signal early c Stage.Never = record { stage = Stage.Never; taken = nobody_ran signal }
ran_from task signal early c (Stage.Guest arrival used) = guest_ran task signal c arrival (used + 1)
ran_from task signal early c (Stage.Hyper arrival left) = hypertask_ran task signal early arrival (left - 1)
ran_from task signal early c (Stage.Closed arrival) = record { stage = Stage.Closed arrival; taken = nobody_ran signal }

-- 5. The clock becomes c + 1.
abbrev pub next_clock : ℕ → ℕ
next_clock clock = clock + 1

-- the rows after steps 1 and 2
unfoldable pub turned : ℕ → ℕ → List Row → List Row
turned clock mask rows = arrivals clock mask (enforcements clock rows)

-- steps 4 and 5 on those rows, with what step 3 chose
abbrev pub ran_on : ℕ → ℕ → List Row → ℕ → Bool → Found → Stepped
ran_on count clock rows signal early (at i) =
    let r : Row = get_or rows i no_row in
    let o : Outcome = ran_from (i + 1) signal early r.c r.stage in
    record { machine = record { rows = set rows i (with_stage r o.stage); count = count; clock = next_clock clock }; answer = Ok o.taken }
ran_on count clock rows signal early none =
    record {
      machine = record { rows = rows; count = count; clock = next_clock clock };
      answer = Ok (nobody_ran signal);
    }

-- a tick that is taken
unfoldable pub taken : Machine → ℕ → ℕ → Bool → Stepped
taken m mask signal early =
    let rows : List Row = turned m.clock mask m.rows in
    ran_on m.count m.clock rows signal early (chosen rows)

-- a refused tick returns the machine it was given
abbrev pub step_by : Machine → ℕ → ℕ → Bool → Verdict → Stepped
step_by m mask signal early (refused refusal) = record { machine = m; answer = Err refusal }
step_by m mask signal early accepted = taken m mask signal early

-- one tick: the next machine and the answer
unfoldable pub step_of : Machine → ℕ → ℕ → Bool → Stepped
step_of m mask signal early = step_by m mask signal early (verdict m mask)
