-- An output is booked to the job that ran: the row that the answer names is the one that step 3 chose, and the arrival that its stage carries in the
-- machine's own rows, after the enforcements and the arrivals of that tick and before the run, is the one to which the output is booked.
-- Assumes nothing.
use Prim.Native.Nat.{ℕ, suc, ◌+◌, ◌-◌, ◌<◌}
use mathlib.Core.Path.{◌≡◌, refl, sym, ap, ◌∙◌}
use mathlib.Core.Bool.{Bool, true, false, cond, ◌||◌}
use mathlib.Core.List.{List, [], ◌∷◌, ◌++◌, append-nil}
use native.Mathlib.Decide.{dec_le}
use native.Mathlib.Omega.{arith}
use lib.ListN.{length}
use lib.Dec.{eqb}
use borrow.Author.Tests.{eqb-true}
use Rattle.std.specs.Prelude.{Ok, Err}
use Rattle.equations.specs.Table.{rows}
use Rattle.equations.specs.Hypertask.{E}
use Rattle.equations.specs.Solutions.{Schedulable}
use Rattle.equations.proofs.Exactly.{R, G}
use Rattle.machine.specs.declared.Stage.{Stage}
use Rattle.machine.specs.declared.Row.{Row}
use Rattle.machine.specs.declared.Taken.{Taken}
use Rattle.machine.specs.declared.Machine.{Machine}
use Rattle.machine.specs.Answers.{Answer}
use Rattle.machine.specs.Rows.{with_stage, in_mask, Found, at, none, is_hyper, has_budget}
use Rattle.machine.specs.TickRule.{Verdict, refused, accepted, verdict, chosen, ran_from, nobody_ran, ran_on, taken, step_by, step_of}
use Rattle.machine.specs.Fresh.{fresh_at}
use Rattle.machine.proofs.Choice.{turned_length, chosen_runs}
use Rattle.start.specs.Start.{row_of, rows_of, start_answer, start_of}
use Rattle.demands.specs.Runs.{Tick, TakenTick, Run, taken_by, after, onward, run}
use Rattle.demands.specs.Jobs.{tick_at, latest, is_at, booked_to}
use Rattle.demands.specs.Booking.{arrival_of, rows_for, is_row_of, JobThatRan}
use Rattle.demands.proofs.Rows.{clash}
use Rattle.demands.proofs.Ticks.{row_at, stage_at, Legal, legal, turned_at, turned_stage_lem}
use Rattle.demands.proofs.Accepted.{schedulable, fits}
use Rattle.demands.proofs.TakenTicks.{more_length, tick_last, tick_other, latest_now, booked_before}
use Rattle.demands.proofs.RowJobs.{turned_arrival, shift}
use Rattle.demands.proofs.Runs.{State}
use Rattle.demands.proofs.Demand3.{started, run_from}

-- ## Whom the answer names

-- a tick whose answer says that it was taken
was_accepted : (m : Machine) (mask signal : ℕ) (early : Bool) (said : Taken) → (step_of m mask signal early).answer ≡ Ok said
    → verdict m mask ≡ accepted
unfolding step_of
was_accepted m mask signal early said e = go (verdict m mask) refl e
  where
    go : (v : Verdict) → verdict m mask ≡ v → (step_by m mask signal early v).answer ≡ Ok said → verdict m mask ≡ accepted
    go (refused y) q e = absurd (let z : ◌≡◌ {A = ℕ} 0 1 = cc in omega arith)
    go accepted q e = q

-- of the row that runs it is told that it ran, and of no other
named_ran : (k i signal : ℕ) (early : Bool) (c : ℕ) (z : Stage) → is_row_of i (ran_from (k + 1) signal early c z).taken.ran ≡ true → k ≡ i
named_ran k i signal early c Stage.Never e = clash e
named_ran k i signal early c (Stage.Guest a u) e = go (eqb signal (k + 1)) refl
  where
    by : (eqb (k + 1) (i + 1) || false) ≡ true → k ≡ i
    by h = named (eqb (k + 1) (i + 1)) refl h
      where
        named : (b : Bool) → eqb (k + 1) (i + 1) ≡ b → (b || false) ≡ true → k ≡ i
        named true q h = omega (arith, eqb-true (k + 1) (i + 1) q)
        named false q h = clash h

    go : (b : Bool) → eqb signal (k + 1) ≡ b → k ≡ i
    go true q = by (rw (q, ran_from) at e)
    go false q = by (rw (q, ran_from) at e)
named_ran k i signal early c (Stage.Hyper a l) e = go (early || eqb (l - 1) 0) refl
  where
    go : (b : Bool) → (early || eqb (l - 1) 0) ≡ b → k ≡ i
    go true q = let h : eqb (k + 1) (i + 1) ≡ true = rw (q, ran_from) at e in omega (arith, eqb-true (k + 1) (i + 1) h)
    go false q = let h : eqb (k + 1) (i + 1) ≡ true = rw (q, ran_from) at e in omega (arith, eqb-true (k + 1) (i + 1) h)
named_ran k i signal early c (Stage.Closed a) e = clash e

-- the row that the answer names is the one that step 3 chose
pub named_is_chosen : (m : Machine) (t : Tick) (said : Taken) (i : ℕ) → (step_of m t.mask t.signal t.early).answer ≡ Ok said →
    is_row_of i said.ran ≡ true → chosen (rows_for m t) ≡ at i
unfolding step_of taken
named_is_chosen m t said i e w = go (verdict m t.mask) e
  where
    said_is : (a b : Taken) → ◌≡◌ {A = Answer} (Ok a) (Ok b) → a ≡ b
    said_is a b e = cc

    by : (f : Found) → chosen (rows_for m t) ≡ f → (ran_on m.count m.clock (rows_for m t) t.signal t.early f).answer ≡ Ok said
        → chosen (rows_for m t) ≡ at i
    by (at k) q e =
        let y : Row = row_at (rows_for m t) k in
        let z : (ran_from (k + 1) t.signal t.early y.c y.stage).taken ≡ said = said_is _ said e in
        q ∙ ap at (named_ran k i t.signal t.early y.c y.stage (rw (← z) at w))
    by none q e = let z : nobody_ran t.signal ≡ said = said_is _ said e in clash (rw (← z) at w)

    go : (v : Verdict) → (step_by m t.mask t.signal t.early v).answer ≡ Ok said → chosen (rows_for m t) ≡ at i
    go (refused y) e = absurd (let z : ◌≡◌ {A = ℕ} 0 1 = cc in omega arith)
    go accepted e = by (chosen (rows_for m t)) refl e

-- ## What the rows carry

-- a stage that runs carries an arrival
runs_carries : (c : ℕ) (s : Stage) → (is_hyper s || has_budget c s) ≡ true → (a : ℕ) × (arrival_of s ≡ at a)
runs_carries c Stage.Never h = clash h
runs_carries c (Stage.Guest a u) h = (a, refl)
runs_carries c (Stage.Hyper a l) h = (a, refl)
runs_carries c (Stage.Closed a) h = (a, refl)

never_runs : {A : Type 0} (c : ℕ) (s : Stage) → s ≡ Stage.Never → (is_hyper s || has_budget c s) ≡ true → A
never_runs c s e h = clash (rw e at h)

same : (f : Found) → shift 0 f ≡ f
same (at n) = let z : 0 + n ≡ n = omega arith in ap at z
same none = refl

module _ (s : List ℕ) (m : ℕ) (ok : start_answer s ≡ Ok m) (ticks : List Tick) (t : Tick) (said : Taken) where
  abbrev sch : Schedulable s (R s) (E s) (G s)
  sch = (schedulable s m ok).1

  abbrev X : Run
  X = run (fresh_at (rows_of s m) 0) ticks

  abbrev more : List TakenTick
  more = X.taken ++ (record { tick = t; said = said } ∷ [])

  S : State s (R s) (G s) sch 0 X
  S = run_from s m ok 0 ticks

  -- in a tick that is taken, a row of the table carries its latest arrival, in that tick or before it
  carries_latest : verdict X.machine t.mask ≡ accepted → (i : ℕ) → i < rows s →
      arrival_of (stage_at (rows_for X.machine t) i) ≡ latest more i (suc (length X.taken))
  carries_latest v i inside =
      let L : Legal (row_of s) (rows s) X.machine.clock t.mask X.machine.rows =
      legal (row_of s) (rows s) X.machine t.mask S.count S.all.wf v in
      let q = turned_stage_lem (row_of s) (rows s) (fits s (R s) (G s) sch) X.machine.clock t.mask 0 false X.machine.rows S.all.wf L i inside in
      let c : X.machine.clock ≡ length X.taken = omega (arith, S.clock) in
      ap arrival_of q
      ∙ turned_arrival (row_of s i) X.machine.clock (in_mask t.mask i) (stage_at X.machine.rows i)
      ∙ ap (λ (k : ℕ). cond (in_mask t.mask i) (at k) (arrival_of (stage_at X.machine.rows i))) c
      ∙ ap (cond (in_mask t.mask i) (at (length X.taken))) ((S.jobs i inside).track ∙ same (latest X.taken i (length X.taken)))
      ∙ sym (latest_now X.taken (record { tick = t; said = said }) i)

  -- a row past the table is Never after steps 1 and 2, so the one that runs is in it
  runs_inside : verdict X.machine t.mask ≡ accepted → (i : ℕ) → i < length (rows_for X.machine t) →
      (is_hyper (stage_at (rows_for X.machine t) i) || has_budget (row_at (rows_for X.machine t) i).c (stage_at (rows_for X.machine t) i)) ≡ true →
      i < rows s
  runs_inside v i h runs =
      elim (dec_le (suc i) (rows s)) [
        | yes k ↦ k
        | no k ↦ (
            let l : List Row = X.machine.rows in
            let c : ℕ = X.machine.clock in
            let lo : i < length l = omega (arith, turned_length c t.mask l) in
            let L : Legal (row_of s) (rows s) c t.mask l = legal (row_of s) (rows s) X.machine t.mask S.count S.all.wf v in
            let e : row_at (rows_for X.machine t) i ≡ with_stage (row_at l i) Stage.Never =
            rw (L.named i (omega arith) lo, S.all.wf.past i (omega arith)) at (turned_at c t.mask l i lo) in
            never_runs (row_at (rows_for X.machine t) i).c (stage_at (rows_for X.machine t) i) (ap (λ (r : Row). r.stage) e) runs
            )
      ]

-- ## Ticks taken stay as they are while the run goes on

stays_after : (r : Run) (t : Tick) (x : ℕ) → x < length r.taken → (tick_at (after r t).taken x ≡ tick_at r.taken x)
    × ((i n : ℕ) → booked_to (after r t).taken i n x ≡ booked_to r.taken i n x) × (x < length (after r t).taken)
unfolding after
stays_after r t x h = go (step_of r.machine t.mask t.signal t.early).answer
  where
    go : (a : Answer) → (tick_at (r.taken ++ taken_by t a) x ≡ tick_at r.taken x)
        × ((i n : ℕ) → booked_to (r.taken ++ taken_by t a) i n x ≡ booked_to r.taken i n x) × (x < length (r.taken ++ taken_by t a))
    go (Ok said) =
        let e : TakenTick = record { tick = t; said = said } in (
          tick_other r.taken e x (λ q. absurd (omega arith)),
          λ i n. booked_before r.taken e i n x h,
          omega (arith, more_length r.taken e),
        )
    go (Err refusal) = rw (append-nil r.taken) (refl, λ i n. refl, h)

stays : (later : List Tick) (r : Run) (x : ℕ) → x < length r.taken → (tick_at (onward r later).taken x ≡ tick_at r.taken x)
    × ((i n : ℕ) → booked_to (onward r later).taken i n x ≡ booked_to r.taken i n x)
unfolding onward
stays [] r x h = (refl, λ i n. refl)
stays (t ∷ ts) r x h =
    let a = stays_after r t x h in
    let b = stays ts (after r t) x a.2 in
    (b.0 ∙ a.0, λ i n. b.1 i n ∙ a.1 i n)

onward_append : (r : Run) (a b : List Tick) → onward r (a ++ b) ≡ onward (onward r a) b
unfolding onward
onward_append r [] b = refl
onward_append r (t ∷ a) b = onward_append (after r t) a b

-- ## In every taken tick of a run

module _ (s : List ℕ) (m : ℕ) (ok : start_answer s ≡ Ok m) (before : List Tick) (t : Tick) (later : List Tick) (said : Taken) (i : ℕ) where
  abbrev Y : Run
  Y = run (fresh_at (rows_of s m) 0) before

  abbrev e : TakenTick
  e = record { tick = t; said = said }

  ran_from_lem : (step_of Y.machine t.mask t.signal t.early).answer ≡ Ok said → is_row_of i said.ran ≡ true →
      JobThatRan Y.machine t said (run (fresh_at (rows_of s m) 0) (before ++ t ∷ later)).taken i (length Y.taken)
  unfolding onward after
  ran_from_lem a w =
      let v = was_accepted Y.machine t.mask t.signal t.early said a in
      let q = named_is_chosen Y.machine t said i a w in
      let k = chosen_runs (rows_for Y.machine t) i q in
      let c = runs_carries (row_at (rows_for Y.machine t) i).c (stage_at (rows_for Y.machine t) i) k.1 in
      let inside = runs_inside s m ok before t said v i k.0 k.1 in
      let z : (after Y t).taken ≡ Y.taken ++ (e ∷ []) = rw a in
      let lo : length Y.taken < length (after Y t).taken = omega (arith, ap length z, more_length Y.taken e) in
      let k = stays later (after Y t) (length Y.taken) lo in
      rw (onward_append (record { machine = fresh_at (rows_of s m) 0; taken = [] }) before (t ∷ later))
      (record {
        tick_is = k.0 ∙ ap (λ (l : List TakenTick). tick_at l (length Y.taken)) z ∙ tick_last Y.taken e;
        chosen_row = q;
        arrival = c.0;
        carries = c.1;
        booked = λ n.
            k.1 i n
            ∙ ap (λ (l : List TakenTick). booked_to l i n (length Y.taken)) z
            ∙ ap (is_at n) (sym (carries_latest s m ok before t said v i inside) ∙ c.1);
      })

-- For every table that the start accepts, every run, every tick of it that is taken and the row that its answer names.
pub job_that_ran : (s : List ℕ) (m : ℕ) → start_answer s ≡ Ok m → (before : List Tick) (t : Tick) (later : List Tick) (said : Taken)
    (i : ℕ) →
    (step_of (run (start_of s).machine before).machine t.mask t.signal t.early).answer ≡ Ok said → is_row_of i said.ran ≡ true →
    JobThatRan (run (start_of s).machine before).machine t said (run (start_of s).machine (before ++ t ∷ later)).taken i
    (length (run (start_of s).machine before).taken)
job_that_ran s m ok before t later said i = rw (started s m ok) (ran_from_lem s m ok before t later said i)
