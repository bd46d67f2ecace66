-- What the stages of a run show beside demand 3: a guest with budget left is before its enforcement instant, and the age of a
-- Hyper is below its deadline, so that no arrival that keeps its period finds its task Hyper. Assumes nothing.
use Prim.Native.Nat.{ℕ, ◌+◌, ◌≤◌, ◌<◌}
use mathlib.Core.Path.{◌≡◌}
use mathlib.Core.List.{List}
use native.Mathlib.Omega.{arith}
use Rattle.std.specs.Prelude.{Ok}
use Rattle.equations.specs.Table.{rows, T, D, C}
use Rattle.equations.specs.Hypertask.{E}
use Rattle.equations.specs.Solutions.{Schedulable}
use Rattle.equations.proofs.Exactly.{R, G}
use Rattle.machine.specs.declared.Stage.{Stage}
use Rattle.machine.specs.Fresh.{fresh_at}
use Rattle.start.specs.Start.{rows_of, start_answer}
use Rattle.demands.specs.Runs.{Tick, Run, run}
use Rattle.demands.proofs.Ticks.{stage_at}
use Rattle.demands.proofs.Accepted.{schedulable, deadline, row_t, row_d, row_c_lem, row_e}
use Rattle.demands.proofs.Deadlines as D3
use Rattle.demands.proofs.Deadlines.{All}
use Rattle.demands.proofs.Demand3.{run_from}

module _ (s : List ℕ) (m : ℕ) (accepted : start_answer s ≡ Ok m) (c₀ : ℕ) (ticks : List Tick) (i : ℕ) (h : i < m) where
  abbrev X : Run
  X = run (fresh_at (rows_of s m) c₀) ticks

  abbrev sch : Schedulable s (R s) (E s) (G s)
  sch = (schedulable s m accepted).1

  inside : i < rows s
  inside = omega (arith, (schedulable s m accepted).0)

  all : All s (R s) (G s) sch X.machine.clock X.machine.rows
  all = (run_from s m accepted c₀ ticks).all

  pub budget_before_enforcement : (a used : ℕ) → stage_at X.machine.rows i ≡ Stage.Guest a used → used < C s i → X.machine.clock < a + E s i
  budget_before_enforcement a used e p =
      omega (
        arith,
        D3.budget_before_enforcement s (R s) (G s) sch X.machine.clock X.machine.rows all i inside a used e (omega (arith, row_c_lem s i)),
        row_e s i,
      )

  pub hypertask_ends_in_time : (a left : ℕ) → stage_at X.machine.rows i ≡ Stage.Hyper a left → X.machine.clock + left ≤ a + D s i
  hypertask_ends_in_time a left e =
      omega (arith, D3.hypertask_in_time s (R s) (G s) sch X.machine.clock X.machine.rows all i inside a left e, row_d s i)

  pub hyper_before_deadline : (a left : ℕ) → stage_at X.machine.rows i ≡ Stage.Hyper a left → X.machine.clock < a + D s i
  hyper_before_deadline a left e =
      omega (arith, D3.hyper_before_deadline s (R s) (G s) sch X.machine.clock X.machine.rows all i inside a left e, row_d s i)

  pub hyper_before_period : (a left : ℕ) → stage_at X.machine.rows i ≡ Stage.Hyper a left → X.machine.clock < a + T s i
  hyper_before_period a left e = omega (arith, hyper_before_deadline a left e, deadline s (R s) (G s) sch i inside, row_d s i, row_t s i)
