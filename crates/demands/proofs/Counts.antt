-- The counts of each task: jobs arrived are guest outputs, hypertask outputs and jobs still open; a job is open exactly while it has no output,
-- which its row's stage shows. Assumes nothing.
use Prim.Native.Nat.{ℕ, zero, suc, ◌+◌, ◌≤◌, ◌<◌}
use mathlib.Core.Path.{◌≡◌, refl, ap, ◌∙◌}
use mathlib.Core.Bool.{Bool, true, false, ◌&&◌}
use mathlib.Core.List.{List}
use mathlib.Core.Logic.{◌↔◌}
use native.Mathlib.Decide.{ℕ_discrete}
use native.Mathlib.Omega.{arith}
use lib.Dec.{eqb}
use lib.ListN.{length}
use borrow.Author.Tests.{eqb-true, eqb-false, eq-eqb, ne_eqb}
use Rattle.std.specs.Prelude.{Ok}
use Rattle.least.specs.Sums.{sum}
use Rattle.least.proofs.Sums.{sum_same}
use Rattle.machine.specs.declared.Stage.{Stage}
use Rattle.machine.specs.declared.Row.{Row}
use Rattle.machine.specs.Rows.{Found, at, none}
use Rattle.machine.specs.Fresh.{fresh_at}
use Rattle.start.specs.Start.{row_of, rows_of, start_answer, start_of}
use Rattle.demands.specs.Runs.{Tick, TakenTick, Run, run}
use Rattle.demands.specs.Jobs.{Job, brought, latest, is_at, booked_to, guest_gives, hypertask_gives, one, number_of}
use Rattle.demands.specs.Jobs.{guest_outputs, hypertask_outputs, is_open, jobs_arrived, guest_outputs_of, hypertask_outputs_of, jobs_open}
use Rattle.demands.specs.Booking.{arrival_of}
use Rattle.demands.proofs.Sums.{sum_zero, sum_none, sum_add, sum_swap}
use Rattle.demands.proofs.Ticks.{stage_at}
use Rattle.demands.proofs.TakenTicks.{latest_is}
use Rattle.demands.proofs.RowJobs.{open_arrival, same_eqb, is_at_lem, shift, Booked}
use Rattle.demands.proofs.Accepted.{schedulable}
use Rattle.demands.proofs.Demand3.{started, run_from}

-- one number among those below n
sum_none_at : (k n : ℕ) → n ≤ k → sum (λ x. one (eqb k x)) n ≡ 0
sum_none_at k n h = sum_none n (λ x. one (eqb k x)) (λ j b. ap one (ne_eqb k j (λ z. absurd (omega arith))))

sum_one_at : (k n : ℕ) → k < n → sum (λ x. one (eqb k x)) n ≡ 1
unfolding sum
sum_one_at k zero h = absurd (omega arith)
sum_one_at k (suc n) h =
    elim (ℕ_discrete k n) [
      | yes z ↦ (let y : one (eqb k n) ≡ 1 = ap one (eq-eqb k n z) in omega (arith, sum_none_at k n (omega arith)))
      | no z ↦ (let y : one (eqb k n) ≡ 0 = ap one (ne_eqb k n z) in omega (arith, sum_one_at k n (omega arith)))
    ]

-- Every output is booked to one job: p says which ticks give one.
module _ (l : List TakenTick) (i : ℕ) (p : ℕ → Bool) (job : (x : ℕ) → p x ≡ true → (n : ℕ) × (latest l i (suc x) ≡ at n)) where
  booked_once : (x : ℕ) → x < length l → sum (λ n. one (p x && booked_to l i n x)) (length l) ≡ one (p x)
  booked_once x h = go (p x) refl
    where
      go : (b : Bool) → p x ≡ b → sum (λ n. one (b && booked_to l i n x)) (length l) ≡ one b
      go true q =
          let k = job x q in
          let z : sum (λ n. one (booked_to l i n x)) (length l) ≡ sum (λ n. one (eqb k.0 n)) (length l) =
          ap (λ (f : Found). sum (λ n. one (is_at n f)) (length l)) k.1
          in
          omega (arith, z, sum_one_at k.0 (length l) (omega (arith, (latest_is l i (suc x) k.0 k.1).0)))
      go false q = sum_zero (length l)

  pub outputs_all : sum (λ n. number_of (λ x. p x && booked_to l i n x) (length l)) (length l) ≡ number_of p (length l)
  outputs_all =
      sum_swap (λ n x. one (p x && booked_to l i n x)) (length l) (length l)
      ∙ sum_same (λ x. sum (λ n. one (p x && booked_to l i n x)) (length l)) (λ x. one (p x)) (length l) booked_once

-- a count that is nought or one
nought_or_one : (b : Bool) (x y : ℕ) → x + y ≡ one b → one b ≡ x + one (b && eqb x 0)
nought_or_one false x y h = omega arith
nought_or_one true x y h = go (eqb x 0) refl
  where
    go : (b : Bool) → eqb x 0 ≡ b → 1 ≡ x + one b
    go true q = omega (arith, eqb-true x 0 q)
    go false q = (let n : x ≡ 0 → ⊥ = eqb-false x 0 q in omega arith)

-- ## Of one row, its jobs being booked

-- its stage has a job with no output
abbrev pub has_open : Stage → Bool
has_open Stage.Never = false
has_open (Stage.Guest a u) = true
has_open (Stage.Hyper a k) = true
has_open (Stage.Closed a) = false

module _ (c₀ : ℕ) (r : Row) (l : List TakenTick) (i : ℕ) (z : Stage) (B : Booked c₀ r l i z) where
  guest_all : sum (guest_outputs l i) (length l) ≡ guest_outputs_of l i
  unfolding guest_outputs guest_outputs_of
  guest_all = outputs_all l i (guest_gives l i) B.guest_job

  hypertask_all : sum (hypertask_outputs l i) (length l) ≡ hypertask_outputs_of l i
  unfolding hypertask_outputs hypertask_outputs_of
  hypertask_all = outputs_all l i (hypertask_gives l i) B.hypertask_job

  abbrev outputs : ℕ → ℕ
  outputs n = guest_outputs l i n + hypertask_outputs l i n

  each : (n : ℕ) → one (brought l i n) ≡ outputs n + one (is_open l i n)
  each n = nought_or_one (brought l i n) (outputs n) (one (is_at (c₀ + n) (open_arrival z))) (B.once n)

  arrived_all : jobs_arrived l i ≡ guest_outputs_of l i + hypertask_outputs_of l i + jobs_open l i
  unfolding jobs_arrived jobs_open
  arrived_all =
      omega (
        arith,
        sum_same (λ n. one (brought l i n)) (λ n. outputs n + one (is_open l i n)) (length l) (λ n h. each n),
        sum_add outputs (λ n. one (is_open l i n)) (length l),
        sum_add (guest_outputs l i) (hypertask_outputs l i) (length l),
        guest_all,
        hypertask_all,
      )

  -- a job that came has no output exactly while the stage of its row is Guest or Hyper with its arrival
  open_exactly : (n : ℕ) → brought l i n ≡ true → (outputs n ≡ 0) ↔ (open_arrival z ≡ at (c₀ + n))
  open_exactly n b = (
    λ e. held (is_at (c₀ + n) (open_arrival z)) refl (omega (arith, B.once n, ap one b)),
    λ e. omega (arith, B.once n, ap one b, one_of e),
  )
    where
      one_of : open_arrival z ≡ at (c₀ + n) → one (is_at (c₀ + n) (open_arrival z)) ≡ 1
      one_of e = ap (λ f. one (is_at (c₀ + n) f)) e ∙ ap one (eq-eqb (c₀ + n) (c₀ + n) refl)

      held : (t : Bool) → is_at (c₀ + n) (open_arrival z) ≡ t → one t ≡ 1 → open_arrival z ≡ at (c₀ + n)
      held true q e = is_at_lem (c₀ + n) (open_arrival z) q
      held false q e = absurd (omega arith)

  open_as : (n : ℕ) → one (is_open l i n) ≡ one (is_at (c₀ + n) (open_arrival z))
  open_as n = omega (arith, each n, B.once n)

  -- so the stage alone shows how many jobs are open
  open_stage : jobs_open l i ≡ one (has_open z)
  unfolding jobs_open
  open_stage = sum_same (λ n. one (is_open l i n)) (λ n. one (is_at (c₀ + n) (open_arrival z))) (length l) (λ n h. open_as n) ∙ go z B.track
    where
      held : (a : ℕ) (f : Found) → latest l i (length l) ≡ f → at a ≡ shift c₀ f → sum (λ n. one (eqb a (c₀ + n))) (length l) ≡ 1
      held a (at k) q e =
          let x : a ≡ c₀ + k = cc in
          sum_same (λ n. one (eqb a (c₀ + n))) (λ n. one (eqb k n)) (length l)
          (λ n h. ap one (same_eqb a (c₀ + n) k n (λ y. omega arith) (λ y. omega arith)))
          ∙ sum_one_at k (length l) (latest_is l i (length l) k q).0
      held a none q e = absurd (let y : ◌≡◌ {A = ℕ} 0 1 = cc in omega arith)

      go : (w : Stage) → arrival_of w ≡ shift c₀ (latest l i (length l))
          → sum (λ n. one (is_at (c₀ + n) (open_arrival w))) (length l) ≡ one (has_open w)
      go Stage.Never e = sum_zero (length l)
      go (Stage.Guest a u) e = held a (latest l i (length l)) refl e
      go (Stage.Hyper a k) e = held a (latest l i (length l)) refl e
      go (Stage.Closed a) e = sum_zero (length l)

-- ## Over `start` and the machine's step

module _ (s : List ℕ) (m : ℕ) (accepted : start_answer s ≡ Ok m) where
  -- after any list of ticks, from a fresh start at any clock
  module _ (c₀ : ℕ) (ticks : List Tick) (i : ℕ) (h : i < m) where
    abbrev X : Run
    X = run (fresh_at (rows_of s m) c₀) ticks

    booked : Booked c₀ (row_of s i) X.taken i (stage_at X.machine.rows i)
    booked = (run_from s m accepted c₀ ticks).jobs i (omega (arith, (schedulable s m accepted).0))

    pub counts_from : jobs_arrived X.taken i ≡ guest_outputs_of X.taken i + hypertask_outputs_of X.taken i + jobs_open X.taken i
    counts_from = arrived_all c₀ (row_of s i) X.taken i (stage_at X.machine.rows i) booked

    pub open_while_from : (n : ℕ) → Job m X.taken i n →
        (guest_outputs X.taken i n + hypertask_outputs X.taken i n ≡ 0) ↔ (open_arrival (stage_at X.machine.rows i) ≡ at (c₀ + n))
    open_while_from n j = open_exactly c₀ (row_of s i) X.taken i (stage_at X.machine.rows i) booked n j.came

    pub open_shown_from : jobs_open X.taken i ≡ one (has_open (stage_at X.machine.rows i))
    open_shown_from = open_stage c₀ (row_of s i) X.taken i (stage_at X.machine.rows i) booked

  -- Of each task: jobs arrived are guest outputs plus hypertask outputs plus jobs still open.
  pub counts : (ticks : List Tick) (i : ℕ) → i < m →
      jobs_arrived (run (start_of s).machine ticks).taken i
      ≡ guest_outputs_of (run (start_of s).machine ticks).taken i + hypertask_outputs_of (run (start_of s).machine ticks).taken i
      + jobs_open (run (start_of s).machine ticks).taken i
  counts ticks i h = rw (started s m accepted) (counts_from 0 ticks i h)

  -- A job has no output exactly while its row's stage is Guest or Hyper with its arrival.
  pub open_while : (ticks : List Tick) (i n : ℕ) → Job m (run (start_of s).machine ticks).taken i n →
      (guest_outputs (run (start_of s).machine ticks).taken i n + hypertask_outputs (run (start_of s).machine ticks).taken i n ≡ 0)
      ↔ (open_arrival (stage_at (run (start_of s).machine ticks).machine.rows i) ≡ at n)
  open_while ticks i n j = (let z : 0 + n ≡ n = omega arith in rw z at (of_start i n j))
    where
      of_start : (i n : ℕ) → Job m (run (start_of s).machine ticks).taken i n →
          (guest_outputs (run (start_of s).machine ticks).taken i n + hypertask_outputs (run (start_of s).machine ticks).taken i n ≡ 0)
          ↔ (open_arrival (stage_at (run (start_of s).machine ticks).machine.rows i) ≡ at (0 + n))
      of_start i n = rw (started s m accepted) (λ j. open_while_from 0 ticks i j.row n j)

  -- The jobs still open of a task are told by its stage alone.
  pub open_shown : (ticks : List Tick) (i : ℕ) → i < m →
      jobs_open (run (start_of s).machine ticks).taken i ≡ one (has_open (stage_at (run (start_of s).machine ticks).machine.rows i))
  open_shown ticks i h = rw (started s m accepted) (open_shown_from 0 ticks i h)
