-- A script's ticks one after the other: the run so far, and its lines. Assumes nothing.
use mathlib.Core.Path.{◌≡◌, sym, ap, ◌∙◌}
use mathlib.Core.List.{List, [], ◌++◌, append-nil, append_assoc}
use Prim.Native.Nat.{ℕ, zero, suc, ◌+◌, ◌≤◌}
use native.Mathlib.Numerals.{add-one}
use native.Mathlib.Omega.{arith}
use lib.ListN.{length, length-append}
use Rattle.std.specs.Prelude.{Ok, Err}
use Rattle.machine.specs.declared.Machine.{Machine}
use Rattle.machine.specs.Answers.{Answer}
use Rattle.machine.specs.declared.Stepped.{Stepped}
use Rattle.machine.specs.TickRule.{step_of}
use Rattle.plan.specs.declared.Tick.{Tick as PlanTick}
use Rattle.plan.specs.Bodies.{tick_at}
use Rattle.demands.specs.Runs.{Tick, Run, taken_by, after, onward, run}
use Rattle.text.specs.Lines.{tick_line}
use Rattle.report.specs.Report.{tick_of, ticks_from, answer_to, tick_lines}

-- the run of the first i records
abbrev pub so_far : Machine → List ℕ → ℕ → Run
so_far m s i = run m (ticks_from s 0 i)

onward_last : (r : Run) (s : List ℕ) (k i : ℕ) → onward r (ticks_from s k (suc i)) ≡ after (onward r (ticks_from s k i)) (tick_of s (k + i))
unfolding onward ticks_from
onward_last r s k zero = let e : k + 0 ≡ k = omega arith in rw e
onward_last r s k (suc i) = let e : k + suc i ≡ suc k + i = omega arith in rw e (onward_last (after r (tick_of s k)) s (suc k) i)

lines_last : (r : Run) (s : List ℕ) (k i : ℕ) → tick_lines r (ticks_from s k (suc i))
    ≡ tick_lines r (ticks_from s k i)
    ++ tick_line (onward r (ticks_from s k i)).machine.clock (answer_to (onward r (ticks_from s k i)) (tick_of s (k + i)))
unfolding onward ticks_from tick_lines
lines_last r s k zero = let e : k + 0 ≡ k = omega arith in rw e (append-nil _)
lines_last r s k (suc i) =
    let e : k + suc i ≡ suc k + i = omega arith in
    let line : List ℕ = tick_line r.machine.clock (answer_to r (tick_of s k)) in
    let rest : List ℕ = tick_lines (after r (tick_of s k)) (ticks_from s (suc k) i) in
    rw e (ap (λ (t : List ℕ). line ++ t) (lines_last (after r (tick_of s k)) s (suc k) i) ∙ sym (append_assoc line rest _))

pub so_far_more : (m : Machine) (s : List ℕ) (i : ℕ) → so_far m s (i + 1) ≡ after (so_far m s i) (tick_of s i)
so_far_more m s i =
    let e : 0 + i ≡ i = omega arith in
    ap (so_far m s) (add-one i) ∙ onward_last (record { machine = m; taken = [] }) s 0 i ∙ ap (λ (x : ℕ). after (so_far m s i) (tick_of s x)) e

-- no more ticks are taken than were asked for
by_one : (t : Tick) (x : Answer) → length (taken_by t x) ≤ 1
by_one t (Ok said) = omega arith
by_one t (Err refusal) = omega arith

after_length : (r : Run) (t : Tick) → length (after r t).taken ≤ length r.taken + 1
unfolding after
after_length r t =
    let x = (step_of r.machine t.mask t.signal t.early).answer in
    omega (arith, length-append r.taken (taken_by t x), by_one t x)

pub taken_few : (m : Machine) (s : List ℕ) (i : ℕ) → length (so_far m s i).taken ≤ i
unfolding onward ticks_from
taken_few m s zero = omega arith
taken_few m s (suc i) =
    let e : so_far m s (suc i) ≡ after (so_far m s i) (tick_of s i) = ap (so_far m s) (sym (add-one i)) ∙ so_far_more m s i in
    omega (arith, ap (λ (r : Run). length r.taken) e, after_length (so_far m s i) (tick_of s i), taken_few m s i)

module _ (r : Run) (s : List ℕ) (i : ℕ) (m : Machine) (tick : PlanTick) (st : Stepped) (here : r.machine ≡ m) (read : tick ≡ tick_at s i)
    (stepped : st ≡ step_of m tick.mask tick.signal tick.early) where
  same_step : st ≡ step_of r.machine (tick_of s i).mask (tick_of s i).signal (tick_of s i).early
  same_step =
      stepped ∙ ap (λ (x : PlanTick). step_of m x.mask x.signal x.early) read
      ∙ ap (λ (x : Machine). step_of x (tick_of s i).mask (tick_of s i).signal (tick_of s i).early) (sym here)

  pub next_answer : st.answer ≡ (step_of r.machine (tick_of s i).mask (tick_of s i).signal (tick_of s i).early).answer
  next_answer = ap (λ (x : Stepped). x.answer) same_step

  pub next_machine : (after r (tick_of s i)).machine ≡ st.machine
  unfolding after
  next_machine = ap (λ (x : Stepped). x.machine) (sym same_step)

  -- the lines of the first records, and then that of record i
  pub lines_turn : (start : Machine) → r ≡ so_far start s i → tick_lines (run start []) (ticks_from s 0 i) ++ tick_line m.clock st.answer
      ≡ tick_lines (run start []) (ticks_from s 0 (i + 1))
  unfolding onward
  lines_turn start e =
      let z : 0 + i ≡ i = omega arith in
      rw (add-one, lines_last (run start []) s 0 i, z, ← e, ← here, next_answer)
