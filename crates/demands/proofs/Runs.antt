-- Every state of a run, from a fresh start at any clock: the clock counts the ticks taken, the deadlines hold, and each row's jobs are booked.
-- Assumes nothing.
use Prim.Native.Nat.{ℕ, zero, suc, ◌+◌, ◌-◌, ◌<◌}
use mathlib.Core.Path.{◌≡◌, refl, sym, ap, subst, ◌∙◌}
use mathlib.Core.Bool.{Bool, true, false}
use mathlib.Core.List.{List, [], ◌∷◌, ◌++◌, append-nil}
use native.Mathlib.Decide.{dec_le, ℕ_discrete}
use native.Mathlib.Omega.{arith}
use lib.ListN.{length, set, replicate, length-append, length-replicate, get_or-append, get_or-replicate}
use lib.Seq.{get_or-append_seam, get_or-append-add, get_or-set_same, get_or-set_other}
use Rattle.equations.specs.Table.{rows}
use Rattle.equations.specs.Hypertask.{E}
use Rattle.equations.specs.Solutions.{Schedulable}
use Rattle.machine.specs.declared.Stage.{Stage}
use Rattle.machine.specs.declared.Row.{Row}
use Rattle.machine.specs.declared.Machine.{Machine}
use Rattle.machine.specs.declared.Taken.{Taken}
use Rattle.machine.specs.Rows.{no_row, with_stage, in_mask, Found, at, none, map_from}
use Rattle.machine.specs.TickRule.{Verdict, refused, accepted, verdict, chosen, ran_from, nobody_ran, next_clock, turned, ran_on, taken, step_by, step_of}
use Rattle.machine.specs.Fresh.{fresh_rows, fresh_at}
use Rattle.machine.proofs.Searches.{map_at, map_length}
use Rattle.machine.proofs.Choice.{chosen_runs}
use Rattle.machine_laws.proofs.Fresh.{fresh_length}
use Rattle.least.specs.Lists.{list_of}
use Rattle.least.proofs.Lists.{length_list}
use Rattle.start.specs.Start.{row_of, rows_of}
use Rattle.demands.specs.Runs.{Tick, Run, taken_by, after, onward, run}
use Rattle.demands.specs.Jobs.{brought}
use Rattle.demands.proofs.Rows.{clash}
use Rattle.demands.proofs.Ticks.{row_at, stage_at, out, Shaped, Legal, legal, turned_stage_lem, ymid}
use Rattle.demands.proofs.Accepted.{fits, row_past}
use Rattle.demands.proofs.Deadlines.{All, start, next, hyper_runs_early}
use Rattle.demands.proofs.TakenTicks.{not_brought, brought_last, brought_other}
use Rattle.demands.proofs.RowJobs.{Told, told_ran, told_other, told_nobody, Booked, booked_none, booked_next}

-- ## A fresh machine

pub rows_length : (s : List ℕ) (n : ℕ) → length (rows_of s n) ≡ n
rows_length s n = length_list (row_of s) n

rows_at : (s : List ℕ) (n j : ℕ) → j < n → row_at (rows_of s n) j ≡ row_of s j
unfolding list_of
rows_at s zero j h = absurd (omega arith)
rows_at s (suc n) j h =
    elim (dec_le (suc j) n) [
      | yes k ↦ get_or-append (rows_of s n) (row_of s n ∷ []) no_row j (omega (arith, rows_length s n)) ∙ rows_at s n j k
      | no k ↦ (
          let z : j ≡ length (rows_of s n) = omega (arith, rows_length s n) in
          let y : length (rows_of s n) ≡ j = omega arith in
          ap (row_at (rows_of s n ++ (row_of s n ∷ []))) z ∙ get_or-append_seam (rows_of s n) (row_of s n) [] no_row ∙ ap (row_of s) (sym (rows_length s n) ∙ y)
          )
    ]

blank_at : (n j : ℕ) → row_at (replicate n no_row) j ≡ no_row
blank_at n j =
    elim (dec_le (suc j) n) [
      | yes k ↦ get_or-replicate n j no_row no_row k
      | no k ↦ out (replicate n no_row) j (omega (arith, length-replicate n no_row))
    ]

-- a place of a fresh machine has the row's fields, and is Never
pub fresh_row : (l : List Row) (j : ℕ) → row_at (fresh_rows l) j ≡ with_stage (row_at l j) Stage.Never
unfolding fresh_rows
fresh_row l j =
    elim (dec_le (suc j) (length l)) [
      | yes k ↦ (
          let z : 0 + j ≡ j = omega arith in
          let f : ℕ → Row → Row = λ i r. with_stage r Stage.Never in
          get_or-append (map_from f 0 l) _ no_row j (rw (map_length f l 0) k) ∙ map_at f l 0 j k
          )
      | no k ↦ (
          let f : ℕ → Row → Row = λ i r. with_stage r Stage.Never in
          let z : j ≡ length (map_from f 0 l) + (j - length l) = omega (arith, map_length f l 0) in
          ap (row_at (map_from f 0 l ++ replicate (32 - length l) no_row)) z
          ∙ get_or-append-add (map_from f 0 l) (replicate (32 - length l) no_row) (j - length l) no_row
          ∙ blank_at (32 - length l) (j - length l)
          ∙ ap (λ (r : Row). with_stage r Stage.Never) (sym (out l j (omega arith)))
          )
    ]

-- ## What the answer says of each row, where row k ran

ran_row : ℕ → Bool → List Row → ℕ → Row
ran_row signal early x k = with_stage (row_at x k) (ran_from (k + 1) signal early (row_at x k).c (stage_at x k)).stage

told_at : (signal : ℕ) (early : Bool) (x : List Row) (k : ℕ) → k < length x → (i : ℕ) →
    Told i (ran_from (k + 1) signal early (row_at x k).c (stage_at x k)).taken (stage_at x i) (stage_at (set x k (ran_row signal early x k)) i)
unfolding ran_row
told_at signal early x k h i =
    elim (ℕ_discrete i k) [
      | yes z ↦ rw z (subst (λ (w : Stage). Told k (ran_from (k + 1) signal early (row_at x k).c (stage_at x k)).taken (stage_at x k) w)
          (sym (ap (λ (w : Row). w.stage) (get_or-set_same x k (ran_row signal early x k) no_row h)))
          (told_ran k signal early (row_at x k).c (stage_at x k)))
      | no z ↦ subst (λ (w : Stage). Told i (ran_from (k + 1) signal early (row_at x k).c (stage_at x k)).taken (stage_at x i) w)
          (sym (ap (λ (w : Row). w.stage) (get_or-set_other x k i (ran_row signal early x k) no_row z)))
          (told_other i k signal early (row_at x k).c (stage_at x k) (stage_at x i) z)
    ]

-- ## Every state of a run

module _ (s : List ℕ) (r g : ℕ → ℕ) (sch : Schedulable s r (E s) g) (c₀ : ℕ) where
  pub record State (R : Run) : Type 0 where
    pub clock : R.machine.clock ≡ c₀ + length R.taken
    pub count : R.machine.count ≡ rows s
    pub all : All s r g sch R.machine.clock R.machine.rows
    pub named : (i x : ℕ) → i < 32 → brought R.taken i x ≡ true → i < rows s
    pub jobs : (i : ℕ) → i < rows s → Booked c₀ (row_of s i) R.taken i (stage_at R.machine.rows i)

  -- the row at each place of the machine
  fresh_at_lem : (j : ℕ) → row_at (fresh_rows (rows_of s (rows s))) j ≡ with_stage (row_of s j) Stage.Never
  fresh_at_lem j =
      elim (dec_le (suc j) (rows s)) [
        | yes k ↦ fresh_row (rows_of s (rows s)) j ∙ ap (λ (x : Row). with_stage x Stage.Never) (rows_at s (rows s) j k)
        | no k ↦
            fresh_row (rows_of s (rows s)) j
            ∙ ap (λ (x : Row). with_stage x Stage.Never)
            (out (rows_of s (rows s)) j (omega (arith, rows_length s (rows s))) ∙ sym (row_past s sch.sound j (omega arith)))
      ]

  pub fresh : State (record { machine = fresh_at (rows_of s (rows s)) c₀; taken = [] })
  unfolding fresh_at
  fresh =
      record {
        clock = omega arith;
        count = rows_length s (rows s);
        all = start s r g sch c₀ l (fresh_length (rows_of s (rows s)) c₀ (omega (arith, sch.sound.few, rows_length s (rows s)))) shape never;
        named = λ i x h q. clash (sym (not_brought [] i x (omega arith)) ∙ q);
        jobs = λ i h. rw (never i) (booked_none c₀ (row_of s i) i);
      }
    where
      l : List Row
      l = fresh_rows (rows_of s (rows s))

      never : (j : ℕ) → stage_at (fresh_rows (rows_of s (rows s))) j ≡ Stage.Never
      never j = ap (λ (x : Row). x.stage) (fresh_at_lem j)

      shape : (j : ℕ) → Shaped (row_at (fresh_rows (rows_of s (rows s))) j) (row_of s j)
      shape j = fresh_at_lem j ∙ ap (with_stage (row_of s j)) (sym (never j))

  -- a tick that is taken
  module _ (R : Run) (t : Tick) (S : State R) (v : verdict R.machine t.mask ≡ accepted) where
    abbrev m : Machine
    m = R.machine

    abbrev x : List Row
    x = turned m.clock t.mask m.rows

    L : Legal (row_of s) (rows s) m.clock t.mask m.rows
    L = legal (row_of s) (rows s) m t.mask S.count S.all.wf v

    -- its arrivals are of rows of the table
    arrives : (i : ℕ) → i < 32 → in_mask t.mask i ≡ true → i < rows s
    arrives i h q =
        elim (dec_le (rows s) i) [
          | yes k ↦ clash (sym (L.named i k (omega (arith, S.all.wf.full))) ∙ q)
          | no k ↦ omega arith
        ]

    -- with what its answer says, and the rows afterwards
    joined : (said : Taken) (y : List Row) → All s r g sch (suc m.clock) y → ((i : ℕ) → i < rows s → Told i said (stage_at x i) (stage_at y i)) →
        State (record {
          machine = record { rows = y; count = m.count; clock = next_clock m.clock };
          taken = R.taken ++ (record { tick = t; said = said } ∷ []);
        })
    joined said y a told =
        record {
          clock = omega (arith, S.clock, length-append R.taken (record { tick = t; said = said } ∷ []));
          count = S.count;
          all = (let z : m.clock + 1 ≡ suc m.clock = omega arith in rw z a);
          named = λ i z h q. elim (ℕ_discrete z (length R.taken)) [
            | yes w ↦ arrives i h (sym (brought_last R.taken (record { tick = t; said = said }) i) ∙ (rw w at q))
            | no w ↦ S.named i z h (sym (brought_other R.taken (record { tick = t; said = said }) i z w) ∙ q)
          ];
          jobs = λ i h.
              let q : stage_at x i ≡ _ = turned_stage_lem (row_of s) (rows s) (fits s r g sch) m.clock t.mask 0 false m.rows S.all.wf L i h in
              booked_next c₀ (row_of s i) R.taken (record { tick = t; said = said }) i (stage_at m.rows i) (stage_at y i) (fits s r g sch i h)
              (rw S.clock at (S.all.wf.okay i))
              (rw S.clock at (L.spaced i h))
              (rw (q, S.clock) at (ymid (row_of s) (rows s) (fits s r g sch) m.clock t.mask 0 false m.rows S.all.wf L i).okay)
              (rw (q, S.clock) at (hyper_runs_early s r g sch m.clock m.rows S.all i h t.mask L))
              (rw (q, S.clock) at (told i h))
              (S.jobs i h);
        }

    pub took : State (record {
      machine = (taken m t.mask t.signal t.early).machine;
      taken = R.taken ++ taken_by t (taken m t.mask t.signal t.early).answer;
    })
    unfolding taken ran_row
    took = go (chosen x) refl (next s r g sch m t.mask t.signal t.early S.count S.all v)
      where
        go : (f : Found) → chosen x ≡ f
            → All s r g sch (suc m.clock) (ran_on m.count m.clock x t.signal t.early (chosen x)).machine.rows →
            State (record {
              machine = (ran_on m.count m.clock x t.signal t.early f).machine;
              taken = R.taken ++ taken_by t (ran_on m.count m.clock x t.signal t.early f).answer;
            })
        go (at k) q a =
            joined (ran_from (k + 1) t.signal t.early (row_at x k).c (stage_at x k)).taken (set x k (ran_row t.signal t.early x k)) (rw q at a)
            (λ i h. told_at t.signal t.early x k (chosen_runs x k q).0 i)
        go none q a = joined (nobody_ran t.signal) x (rw q at a) (λ i h. told_nobody i t.signal (stage_at x i))

  -- any tick
  pub kept : (R : Run) (t : Tick) → State R → State (after R t)
  unfolding after step_of
  kept R t S = go (verdict R.machine t.mask) refl
    where
      go : (v : Verdict) → verdict R.machine t.mask ≡ v → State (record {
        machine = (step_by R.machine t.mask t.signal t.early v).machine;
        taken = R.taken ++ taken_by t (step_by R.machine t.mask t.signal t.early v).answer;
      })
      go (refused x) q = rw (append-nil R.taken) S
      go accepted q = took R t S q

  -- any list of ticks
  pub onward_state : (ticks : List Tick) (R : Run) → State R → State (onward R ticks)
  unfolding onward
  onward_state [] R S = S
  onward_state (t ∷ ts) R S = onward_state ts (after R t) (kept R t S)

  pub state : (ticks : List Tick) → State (run (fresh_at (rows_of s (rows s)) c₀) ticks)
  state ticks = onward_state ticks _ fresh
