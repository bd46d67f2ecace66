-- A tick's line is short: the task that ran and the place of a refusal are places of the machine, and the clock grows by at most one a tick.
-- Assumes nothing.
use mathlib.Core.Path.{◌≡◌, refl, ap, ◌∙◌}
use mathlib.Core.Bool.{Bool, true, false, not, cond, ◌||◌}
use mathlib.Core.List.{List, [], ◌∷◌}
use Prim.Native.Nat.{ℕ, zero, suc, ◌+◌, ◌*◌, ◌-◌, ◌≤◌, ◌^◌}
use native.Mathlib.Nat.{le_trans}
use native.Mathlib.Omega.{arith}
use lib.Dec.{eqb}
use lib.ListN.{length, get_or}
use Rattle.std.specs.Prelude.{Ok, Err}
use Rattle.refusals.specs.declared.Refusal.{Refusal}
use Rattle.refusals.specs.Refusals.{place_of}
use Rattle.machine.specs.declared.Stage.{Stage}
use Rattle.machine.specs.declared.Row.{Row}
use Rattle.machine.specs.declared.Machine.{Machine}
use Rattle.machine.specs.Answers.{Answer}
use Rattle.machine.specs.Rows.{no_row, Found, at, none, first}
use Rattle.machine.specs.WellFormed.{well_formed}
use Rattle.machine.specs.TickRule.{past_last, too_soon, while_hyper, Verdict, refused, accepted, refuse_at, verdict, chosen, guest_ran, hypertask_ran, ran_from}
use Rattle.machine.specs.TickRule.{turned, ran_on, taken, step_by, step_of}
use Rattle.machine.proofs.Searches.{below}
use Rattle.machine.proofs.Choice.{turned_length, chosen_runs}
use Rattle.machine_laws.proofs.Ticks.{refused_clock, taken_clock}
use Rattle.machine_laws.proofs.Kept.{step_length}
use Rattle.demands.specs.Runs.{Tick, Run, after}
use Rattle.text.specs.Put.{last_place}
use Rattle.text.specs.Lines.{tick_line}
use Rattle.report.specs.Report.{answer_to, ticks_from, tick_lines}
use Rattle.report_laws.proofs.Lines.{CountedRan, CountedAnswer, both_short, tick_short}

-- ## A refused tick

abbrev CountedVerdict : Verdict → Type 0
CountedVerdict (refused refusal) = place_of refusal ≤ last_place
CountedVerdict accepted = Unit {0}

verdict_if : (b : Bool) (v next : Verdict) → CountedVerdict v → CountedVerdict next → CountedVerdict (cond b v next)
verdict_if true v next p q = p
verdict_if false v next p q = q

verdict_at : (r : ℕ → Refusal) (x : Found) (next : Verdict) → ((i : ℕ) → x ≡ at i → place_of (r (i + 1)) ≤ last_place) → CountedVerdict next
    → CountedVerdict (refuse_at r x next)
verdict_at r (at i) next p q = p i refl
verdict_at r none next p q = q

verdict_counted : (m : Machine) (mask : ℕ) → length m.rows ≡ 32 → CountedVerdict (verdict m mask)
unfolding verdict
verdict_counted m mask long =
    verdict_if (not (well_formed m)) _ _ (omega arith)
    (verdict_if (eqb m.clock (2 ^ 40)) _ _ (omega arith)
    (verdict_at Refusal.NoSuchTask (first (past_last mask m.count) m.rows) _ (λ i e. omega (arith, below _ m.rows long i e))
    (verdict_at Refusal.ArrivalTooSoon (first (too_soon mask m.clock) m.rows) _ (λ i e. omega (arith, below _ m.rows long i e))
    (verdict_at Refusal.ArrivalWhileHyper (first (while_hyper mask) m.rows) _ (λ i e. omega (arith, below _ m.rows long i e)) tt))))

-- ## A tick that is taken

ran_counted : (task signal : ℕ) (early : Bool) (c : ℕ) (s : Stage) → task ≤ last_place → CountedRan (ran_from task signal early c s).taken.ran
ran_counted task signal early c Stage.Never h = tt
ran_counted task signal early c (Stage.Guest arrival used) h = go (eqb signal task) refl
  where
    go : (b : Bool) → eqb signal task ≡ b → CountedRan (guest_ran task signal c arrival (used + 1)).taken.ran
    go true e = rw e h
    go false e = rw e h
ran_counted task signal early c (Stage.Hyper arrival left) h = go (early || eqb (left - 1) 0) refl
  where
    go : (b : Bool) → (early || eqb (left - 1) 0) ≡ b → CountedRan (hypertask_ran task signal early arrival (left - 1)).taken.ran
    go true e = rw e h
    go false e = rw e h
ran_counted task signal early c (Stage.Closed arrival) h = tt

step_counted : (m : Machine) (mask signal : ℕ) (early : Bool) → length m.rows ≡ 32 → CountedAnswer (step_of m mask signal early).answer
unfolding step_of taken
step_counted m mask signal early long = go (verdict m mask) (verdict_counted m mask long)
  where
    ran : (l : List Row) → length l ≡ 32 → (x : Found) → chosen l ≡ x → CountedAnswer (ran_on m.count m.clock l signal early x).answer
    ran l long (at i) e =
        ran_counted (i + 1) signal early (get_or l i no_row).c (get_or l i no_row).stage (omega (arith, (chosen_runs l i e).0))
    ran l long none e = tt

    go : (v : Verdict) → CountedVerdict v → CountedAnswer (step_by m mask signal early v).answer
    go (refused r) p = p
    go accepted p = ran _ (turned_length m.clock mask m.rows ∙ long) (chosen (turned m.clock mask m.rows)) refl

-- ## One tick after the other

after_clock : (r : Run) (t : Tick) → (after r t).machine.clock ≤ r.machine.clock + 1
unfolding after
after_clock r t = go (answer_to r t) refl
  where
    go : (x : Answer) → answer_to r t ≡ x → (step_of r.machine t.mask t.signal t.early).machine.clock ≤ r.machine.clock + 1
    go (Ok said) e = omega (arith, taken_clock r.machine t.mask t.signal t.early said e)
    go (Err refusal) e = omega (arith, refused_clock r.machine t.mask t.signal t.early refusal e)

after_length : (r : Run) (t : Tick) → length (after r t).machine.rows ≡ length r.machine.rows
unfolding after
after_length r t = step_length r.machine t.mask t.signal t.early

pub tick_lines_short : (r : Run) (ts : List Tick) → length r.machine.rows ≡ 32 → r.machine.clock + length ts ≤ last_place
    → length (tick_lines r ts) ≤ 70 * length ts
unfolding tick_lines
tick_lines_short r [] long h = omega arith
tick_lines_short r (t ∷ ts) long h =
    let line = tick_short r.machine.clock (answer_to r t) (omega arith) (step_counted r.machine t.mask t.signal t.early long) in
    let rest = tick_lines_short (after r t) ts (after_length r t ∙ long) (omega (arith, after_clock r t)) in
    le_trans (both_short (tick_line r.machine.clock (answer_to r t)) (tick_lines (after r t) ts) line rest) (omega arith)

pub ticks_length : (s : List ℕ) (n i : ℕ) → length (ticks_from s i n) ≡ n
unfolding ticks_from
ticks_length s zero i = refl
ticks_length s (suc n) i = ap suc (ticks_length s n (suc i))
