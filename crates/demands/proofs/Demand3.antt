-- Demand 3. Start the machine fresh on a table that is accepted and take any list of ticks: once the deadline's number of ticks was taken since
-- a job's arrival, the job has exactly one output, given before its deadline, the guest's before its enforcement instant. Assumes nothing.
use Prim.Native.Nat.{ℕ, zero, suc, ◌+◌, ◌≤◌, ◌<◌}
use mathlib.Core.Path.{◌≡◌, refl, sym, ap, subst, ◌∙◌}
use mathlib.Core.Bool.{Bool, true, false}
use mathlib.Core.List.{List}
use mathlib.Core.Logic.{◌⊎◌, inl, inr}
use native.Mathlib.Decide.{dec_le}
use native.Mathlib.Omega.{arith}
use lib.Dec.{eqb}
use lib.ListN.{length}
use borrow.Author.Tests.{eqb-true}
use Rattle.std.specs.Prelude.{Ok}
use Rattle.least.specs.Sums.{sum}
use Rattle.equations.specs.Table.{rows, D}
use Rattle.equations.specs.Hypertask.{E}
use Rattle.equations.specs.Solutions.{Schedulable}
use Rattle.equations.proofs.Exactly.{R, G}
use Rattle.machine.specs.declared.Stage.{Stage}
use Rattle.machine.specs.Fresh.{fresh_at}
use Rattle.start.specs.Start.{row_of, rows_of, start_answer, start_of}
use Rattle.demands.specs.Runs.{Tick, TakenTick, Run, run}
use Rattle.demands.specs.Jobs.{Job, brought, is_at, guest_output, hypertask_output, one, number_of, guest_outputs, hypertask_outputs}
use Rattle.demands.specs.Demand3.{Due, InTime, OneInTime}
use Rattle.demands.proofs.Rows.{Okay, clash}
use Rattle.demands.proofs.Ticks.{stage_at}
use Rattle.demands.proofs.Accepted.{schedulable, offset_early, row_d, row_e}
use Rattle.demands.proofs.Deadlines.{okay, hyper_before_deadline}
use Rattle.demands.proofs.TakenTicks.{not_brought}
use Rattle.demands.proofs.RowJobs.{open_arrival}
use Rattle.demands.proofs.Runs.{State, state}

-- ## At any state of a run

module _ (s : List ℕ) (r g : ℕ → ℕ) (sch : Schedulable s r (E s) g) (c₀ : ℕ) (X : Run) (S : State s r g sch c₀ X) (i : ℕ) (h : i < rows s) where
  -- a job is over when its deadline comes
  over : (n : ℕ) → Due s X.taken i n → is_at (c₀ + n) (open_arrival (stage_at X.machine.rows i)) ≡ false
  over n k = go (stage_at X.machine.rows i) refl
    where
      go : (z : Stage) → stage_at X.machine.rows i ≡ z → is_at (c₀ + n) (open_arrival z) ≡ false
      go Stage.Never e = refl
      go (Stage.Guest a u) e = gone (eqb a (c₀ + n)) refl
        where
          gone : (t : Bool) → eqb a (c₀ + n) ≡ t → t ≡ false
          gone true q =
              let c : ℕ = X.machine.clock in
              let o : Okay (row_of s i) c (Stage.Guest a u) = okay s r g sch c X.machine.rows S.all i h (Stage.Guest a u) e in
              absurd (omega (arith, eqb-true a (c₀ + n) q, o, offset_early s r g sch i h, row_d s i, S.clock))
          gone false q = refl
      go (Stage.Hyper a l) e = gone (eqb a (c₀ + n)) refl
        where
          gone : (t : Bool) → eqb a (c₀ + n) ≡ t → t ≡ false
          gone true q =
              absurd (omega (
                arith,
                eqb-true a (c₀ + n) q,
                hyper_before_deadline s r g sch X.machine.clock X.machine.rows S.all i h a l e,
                row_d s i,
                S.clock,
              ))
          gone false q = refl
      go (Stage.Closed a) e = refl

  pub times : (n : ℕ) → InTime s X.taken i n
  times n =
      record {
        guest_before_enforcement = λ x q. omega (arith, (S.jobs i h).guest_early n x q, row_e s i);
        guest_before_deadline = λ x q. omega (arith, (S.jobs i h).guest_early n x q, offset_early s r g sch i h, row_d s i);
        hypertask_before_deadline = λ x q. omega (arith, (S.jobs i h).hypertask_early n x q, row_d s i);
      }

  one_at_most : (b : Bool) → one b ≤ 1
  one_at_most true = omega arith
  one_at_most false = omega arith

  pub most : (n : ℕ) → guest_outputs X.taken i n + hypertask_outputs X.taken i n ≤ 1
  most n = omega (arith, (S.jobs i h).once n, one_at_most (brought X.taken i n))

  pub ended : (n : ℕ) → brought X.taken i n ≡ true → Due s X.taken i n → OneInTime s X.taken i n
  ended n b k =
      let y : one (is_at (c₀ + n) (open_arrival (stage_at X.machine.rows i))) ≡ 0 = ap one (over n k) in
      let z : one (brought X.taken i n) ≡ 1 = ap one b in
      record { exactly_one = omega (arith, (S.jobs i h).once n); in_time = times n }

-- ## Over `start` and the machine's step

-- the machine that the start hands back
pub started : (s : List ℕ) (m : ℕ) → start_answer s ≡ Ok m → (start_of s).machine ≡ fresh_at (rows_of s m) 0
unfolding start_of
started s m a = rw a

module _ (s : List ℕ) (m : ℕ) (accepted : start_answer s ≡ Ok m) where
  -- every state of a run, from a fresh start of the table at any clock
  pub run_from : (c₀ : ℕ) (ticks : List Tick) → State s (R s) (G s) (schedulable s m accepted).1 c₀ (run (fresh_at (rows_of s m) c₀) ticks)
  run_from c₀ ticks =
      let sch : Schedulable s (R s) (E s) (G s) = (schedulable s m accepted).1 in
      subst (λ (k : ℕ). State s (R s) (G s) sch c₀ (run (fresh_at (rows_of s k) c₀) ticks)) (sym (schedulable s m accepted).0)
      (state s (R s) (G s) sch c₀ ticks)

  module _ (c₀ : ℕ) (ticks : List Tick) where
    abbrev X : Run
    X = run (fresh_at (rows_of s m) c₀) ticks

    -- the clock reads the start's clock plus how many ticks were taken
    pub clock_from : X.machine.clock ≡ c₀ + length X.taken
    clock_from = (run_from c₀ ticks).clock

    -- every arrival of a taken tick is a job of a row of the table
    pub job_from : (i n : ℕ) → i < 32 → brought X.taken i n ≡ true → Job m X.taken i n
    job_from i n h b =
        record {
          row = omega (arith, (run_from c₀ ticks).named i n h b, (schedulable s m accepted).0);
          taken = elim (dec_le (length X.taken) n) [ yes k ↦ clash (sym (not_brought X.taken i n k) ∙ b) | no k ↦ omega arith ];
          came = b;
        }

    row_of_lem : (i n : ℕ) → Job m X.taken i n → i < rows s
    row_of_lem i n j = omega (arith, j.row, (schedulable s m accepted).0)

    pub demand3_from : (i n : ℕ) → Job m X.taken i n → Due s X.taken i n → OneInTime s X.taken i n
    demand3_from i n j = ended s (R s) (G s) (schedulable s m accepted).1 c₀ X (run_from c₀ ticks) i (row_of_lem i n j) n j.came

    -- before the deadline too: never more than one output, and each in time
    pub in_time_from : (i n : ℕ) → Job m X.taken i n → (guest_outputs X.taken i n + hypertask_outputs X.taken i n ≤ 1) × InTime s X.taken i n
    in_time_from i n j =
        let sch : Schedulable s (R s) (E s) (G s) = (schedulable s m accepted).1 in
        (most s (R s) (G s) sch c₀ X (run_from c₀ ticks) i (row_of_lem i n j) n, times s (R s) (G s) sch c₀ X (run_from c₀ ticks) i (row_of_lem i n j) n)

-- For every table that the start accepts, every list of ticks and every job: once n + D ticks were taken, n being the number of the tick that
-- brought the job, it has exactly one output among all ticks taken so far; each output of it is in a tick before n + D, the guest's before n + E.
pub demand3 : (s : List ℕ) (m : ℕ) → start_answer s ≡ Ok m → (ticks : List Tick) (i n : ℕ) →
    Job m (run (start_of s).machine ticks).taken i n → Due s (run (start_of s).machine ticks).taken i n →
    OneInTime s (run (start_of s).machine ticks).taken i n
demand3 s m accepted ticks i n = rw (started s m accepted) (demand3_from s m accepted 0 ticks i n)

-- Before the deadline too: never more than one output, and each in time.
pub never_more : (s : List ℕ) (m : ℕ) → start_answer s ≡ Ok m → (ticks : List Tick) (i n : ℕ) →
    Job m (run (start_of s).machine ticks).taken i n →
    (guest_outputs (run (start_of s).machine ticks).taken i n + hypertask_outputs (run (start_of s).machine ticks).taken i n ≤ 1)
    × InTime s (run (start_of s).machine ticks).taken i n
never_more s m accepted ticks i n = rw (started s m accepted) (in_time_from s m accepted 0 ticks i n)

-- The clock reads how many ticks were taken.
pub clock_counts : (s : List ℕ) (m : ℕ) → start_answer s ≡ Ok m → (ticks : List Tick) →
    (run (start_of s).machine ticks).machine.clock ≡ length (run (start_of s).machine ticks).taken
clock_counts s m accepted ticks = rw (started s m accepted) (omega (arith, clock_from s m accepted 0 ticks))

-- Each of the 32 bits of a taken tick's mask that is set brings a job of the table.
pub every_arrival : (s : List ℕ) (m : ℕ) → start_answer s ≡ Ok m → (ticks : List Tick) (i n : ℕ) → i < 32 →
    brought (run (start_of s).machine ticks).taken i n ≡ true → Job m (run (start_of s).machine ticks).taken i n
every_arrival s m accepted ticks i n = rw (started s m accepted) (job_from s m accepted 0 ticks i n)

-- The same by the clock: once it reads the job's arrival plus its deadline.
pub demand3_by_the_clock : (s : List ℕ) (m : ℕ) → start_answer s ≡ Ok m → (ticks : List Tick) (i n : ℕ) →
    Job m (run (start_of s).machine ticks).taken i n → n + D s i ≤ (run (start_of s).machine ticks).machine.clock →
    OneInTime s (run (start_of s).machine ticks).taken i n
demand3_by_the_clock s m accepted ticks i n j h = demand3 s m accepted ticks i n j (omega (arith, clock_counts s m accepted ticks))

-- where there is something to count, there is a tick
some_tick : (p : ℕ → Bool) (n : ℕ) → 0 < number_of p n → (x : ℕ) × (p x ≡ true)
unfolding sum
some_tick p zero h = absurd (omega arith)
some_tick p (suc n) h = go (p n) refl h (some_tick p n)
  where
    go : (b : Bool) → p n ≡ b → 0 < number_of p n + one b → (0 < number_of p n → (x : ℕ) × (p x ≡ true)) → (x : ℕ) × (p x ≡ true)
    go true q h ih = (n, q)
    go false q h ih = ih (omega arith)

-- so the one output has its tick: the guest's before arrival + E, or the hypertask's, before arrival + D
pub output_tick : (s : List ℕ) (ticks : List TakenTick) (i n : ℕ) → OneInTime s ticks i n →
    ((x : ℕ) × (guest_output ticks i n x ≡ true) × (x < n + E s i)) ⊎ ((x : ℕ) × (hypertask_output ticks i n x ≡ true) × (x < n + D s i))
unfolding guest_outputs hypertask_outputs
output_tick s ticks i n o =
    elim (dec_le 1 (guest_outputs ticks i n)) [
      | yes h ↦ (let k = some_tick (guest_output ticks i n) (length ticks) h in inl (k.0, k.1, o.in_time.guest_before_enforcement k.0 k.1))
      | no h ↦ (
          let k = some_tick (hypertask_output ticks i n) (length ticks) (omega (arith, o.exactly_one)) in
          inr (k.0, k.1, o.in_time.hypertask_before_deadline k.0 k.1)
          )
    ]
