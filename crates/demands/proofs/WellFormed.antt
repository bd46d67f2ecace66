-- Every state of a run is well formed, so no tick of it meets refusal 8: a fresh machine of an accepted table is, and a tick
-- keeps it so. Assumes nothing.
use Prim.Native.Nat.{ℕ, zero, suc, ◌≤◌, ◌<◌, ◌^◌}
use mathlib.Core.Path.{◌≡◌, refl, ◌∙◌}
use mathlib.Core.Bool.{Bool, true}
use mathlib.Core.List.{List, [], ◌∷◌, ◌++◌}
use native.Mathlib.Omega.{arith}
use lib.ListN.{length}
use Rattle.std.specs.Prelude.{Ok, Err}
use Rattle.refusals.specs.declared.Refusal.{Refusal}
use Rattle.least.specs.Lists.{list_of}
use Rattle.least.proofs.Lists.{length_list}
use Rattle.equations.specs.Table.{rows}
use Rattle.equations.specs.Hypertask.{E}
use Rattle.equations.specs.Solutions.{Schedulable}
use Rattle.equations.proofs.Bounds.{T≤, C≥1, C≤, K≥1, K≤}
use Rattle.equations.proofs.Exactly.{R, G, offset_range}
use Rattle.machine.specs.declared.Row.{Row}
use Rattle.machine.specs.Answers.{Answer}
use Rattle.machine.specs.Rows.{every}
use Rattle.machine.specs.WellFormed.{fields_fit, well_formed}
use Rattle.machine.specs.TickRule.{step_of}
use Rattle.machine.specs.Fresh.{fresh_at}
use Rattle.machine.proofs.Tests.{both, fields_fit_lem}
use Rattle.machine_laws.proofs.Kept.{step_formed, step_length, step_not_8}
use Rattle.machine_laws.proofs.Fresh.{fresh_formed, fresh_length}
use Rattle.start.specs.Start.{row_of, rows_of, start_answer, start_of}
use Rattle.demands.specs.Runs.{Tick, Run, after, onward, run}
use Rattle.demands.proofs.Accepted.{schedulable}
use Rattle.demands.proofs.Demand3.{started}

-- a run from a well formed machine
onward_formed : (x : Run) (ticks : List Tick) → length x.machine.rows ≡ 32 → well_formed x.machine ≡ true
    → well_formed (onward x ticks).machine ≡ true
unfolding onward after
onward_formed x [] long h = h
onward_formed x (t ∷ ts) long h =
    onward_formed (after x t) ts (step_length x.machine t.mask t.signal t.early ∙ long)
    (step_formed x.machine t.mask t.signal t.early long h)

-- the fields of an accepted table's rows
every_more : (p : Row → Bool) (l : List Row) (r : Row) → every p l ≡ true → p r ≡ true → every p (l ++ (r ∷ [])) ≡ true
unfolding every
every_more p [] r h e = rw e
every_more p (x ∷ xs) r h e =
    let t = both (p x) (every p xs) h in
    rw t.0 (every_more p xs r t.1 e)

module _ (s : List ℕ) (r g : ℕ → ℕ) (sch : Schedulable s r (E s) g) where
  fields : (j : ℕ) → j < rows s → fields_fit (row_of s j) ≡ true
  unfolding row_of
  fields j h =
      let e = offset_range s r (E s) g sch j h in
      fields_fit_lem (row_of s j)
      (record {
        period = T≤ s sch.sound j h;
        deadline = sch.sound.within j h;
        offset = e.1;
        some_offset = e.0;
        some_guest = C≥1 s sch.sound j h;
        guest = C≤ s sch.sound j h;
        some_hypertask = K≥1 s sch.sound j h;
        hypertask = K≤ s sch.sound j h;
      })

  every_field : (n : ℕ) → n ≤ rows s → every fields_fit (rows_of s n) ≡ true
  unfolding every list_of
  every_field zero h = refl
  every_field (suc n) h = every_more fields_fit (rows_of s n) (row_of s n) (every_field n (omega arith)) (fields n (omega arith))

-- ## Over `start` and the machine's step

module _ (s : List ℕ) (m : ℕ) (accepted : start_answer s ≡ Ok m) where
  pub well_formed_from : (c₀ : ℕ) → c₀ ≤ 2 ^ 40 → (ticks : List Tick) → well_formed (run (fresh_at (rows_of s m) c₀) ticks).machine ≡ true
  well_formed_from c₀ h ticks =
      let a = schedulable s m accepted in
      let sch = a.1 in
      let n : length (rows_of s m) ≡ m = length_list (row_of s) m in
      let some : 1 ≤ length (rows_of s m) = omega (arith, sch.sound.some) in
      let few : length (rows_of s m) ≤ 32 = omega (arith, sch.sound.few) in
      onward_formed (record { machine = fresh_at (rows_of s m) c₀; taken = [] }) ticks (fresh_length (rows_of s m) c₀ few)
      (fresh_formed (rows_of s m) c₀ some few (every_field s (R s) (G s) sch m (omega arith)) h)

  pub is_well_formed : (ticks : List Tick) → well_formed (run (start_of s).machine ticks).machine ≡ true
  is_well_formed ticks = rw (started s m accepted) (well_formed_from 0 (omega arith) ticks)

  -- whatever the next tick brings, it isn't refused with 8
  pub never_eight : (ticks : List Tick) (mask signal : ℕ) (early : Bool) (k : ℕ) →
      (step_of (run (start_of s).machine ticks).machine mask signal early).answer ≡ Err (Refusal.NotWellFormed k) → ⊥
  never_eight ticks mask signal early k = step_not_8 (run (start_of s).machine ticks).machine mask signal early k (is_well_formed ticks)
