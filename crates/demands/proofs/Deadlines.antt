-- The deadlines: what holds at each instant of a run on a schedulable table, from any clock at which every task is Never, and is kept by every
-- tick that is taken. Assumes nothing.
use Prim.Native.Nat.{ℕ, suc, ◌+◌, ◌≤◌, ◌<◌}
use mathlib.Core.Path.{◌≡◌, refl, sym, ap, ◌∙◌}
use mathlib.Core.Bool.{Bool, true, false, cond}
use mathlib.Core.List.{List}
use mathlib.Core.Logic.{◌⊎◌, inl, inr}
use native.Mathlib.Omega.{arith}
use lib.Dec.{eqb}
use lib.ListN.{length}
use borrow.Author.Tests.{eqb-true}
use Rattle.equations.specs.Table.{rows}
use Rattle.equations.specs.Hypertask.{B, E}
use Rattle.equations.specs.Solutions.{HypertaskResponse, GuestResponse, Schedulable}
use Rattle.machine.specs.declared.Stage.{Stage}
use Rattle.machine.specs.declared.Row.{Row}
use Rattle.machine.specs.declared.Machine.{Machine}
use Rattle.machine.specs.Rows.{age, in_mask, has_begun}
use Rattle.machine.specs.TickRule.{verdict, accepted, turned, chosen, ran_on, taken}
use Rattle.start.specs.Start.{row_of}
use Rattle.machine.proofs.Tests.{age_sum}
use Rattle.demands.proofs.Sums.{sum_none}
use Rattle.demands.proofs.Hypertasks as H
use Rattle.demands.proofs.Guests as G
use Rattle.demands.proofs.Guests.{Phase, rest, held}
use Rattle.demands.proofs.Rows.{left_of, budget_of, next_arrival_of, next_hyper_of, Okay, turned_stage, clash}
use Rattle.demands.proofs.Ticks.{row_at, stage_at, Shaped, RowsFit, Legal, legal, view, Ticked, ticks, turned_stage_lem}
use Rattle.demands.proofs.Accepted.{level, glevel, fits, offset, deadline, offset_early}

-- a row that is Hyper after steps 1 and 2 was so before, or is at its enforcement instant
was_hyper : (r : Row) (c : ℕ) (b : Bool) (s : Stage) (a n : ℕ) → Okay r c s → turned_stage r c b s ≡ Stage.Hyper a n
    → (s ≡ Stage.Hyper a n) ⊎ (a + r.e ≡ c)
was_hyper r c true s a n o e = absurd (let z : ◌≡◌ {A = ℕ} 0 1 = cc in omega arith)
was_hyper r c false Stage.Never a n o e = inl e
was_hyper r c false (Stage.Guest b u) a n o e = go (eqb (age c b) r.e) refl e
  where
    go : (t : Bool) → eqb (age c b) r.e ≡ t → cond t (Stage.Hyper b r.k) (Stage.Guest b u) ≡ Stage.Hyper a n →
        (Stage.Guest b u ≡ Stage.Hyper a n) ⊎ (a + r.e ≡ c)
    go true q e = let z : b ≡ a = cc in inr (omega (arith, age_sum c b o.0, eqb-true (age c b) r.e q))
    go false q e = inl e
was_hyper r c false (Stage.Hyper b l) a n o e = inl e
was_hyper r c false (Stage.Closed b) a n o e = inl e

module _ (s : List ℕ) (r g : ℕ → ℕ) (sch : Schedulable s r (E s) g) where
  abbrev T : ℕ → ℕ
  T j = (row_of s j).t

  abbrev C : ℕ → ℕ
  C j = (row_of s j).c

  abbrev K : ℕ → ℕ
  K j = (row_of s j).k

  abbrev O : ℕ → ℕ
  O j = (row_of s j).e

  abbrev A : (i : ℕ) → i < rows s → HypertaskResponse s i (r i)
  A i h = sch.hypertasks i h

  abbrev Q : (i : ℕ) → i < rows s → GuestResponse s (E s) i (g i)
  Q i h = sch.guests i h

  pub record All (c : ℕ) (l : List Row) : Type 0 where
    pub wf : RowsFit (row_of s) (rows s) c l
    pub hypers : (i : ℕ) (h : i < rows s) → H.Invariant T C K i (B s i) (A i h).t (r i) (λ q. (A i h).w (suc q)) c (view (row_of s) (rows s) c l)
    pub guests : (i : ℕ) (h : i < rows s) → G.GuestInvariant T C K O (rows s) i (Q i h).wa (Q i h).we c (view (row_of s) (rows s) c l)

  ahead : {c t e next_hyper next_arrival : ℕ} → Phase c t e next_hyper next_arrival → c ≤ next_hyper
  ahead (rest a b) = omega arith
  ahead (held a b) = b

  -- every task Never, at any clock
  module _ (c : ℕ) (l : List Row) (full : length l ≡ 32) (shape : (j : ℕ) → Shaped (row_at l j) (row_of s j))
      (never : (j : ℕ) → stage_at l j ≡ Stage.Never) where
    phase : (j : ℕ) → Phase c (T j) (O j) ((view (row_of s) (rows s) c l).next_hyper j) ((view (row_of s) (rows s) c l).next_arrival j)
    phase j = rw (never j) (rest (omega arith) (omega arith))

    pub start : All c l
    start =
        record {
          wf = record {
            long = omega (arith, sch.sound.few);
            full = full;
            shape = shape;
            okay = λ j. rw (never j) tt;
            past = λ j h. never j;
            cur = 0;
            only = λ j h. clash (sym (ap (has_begun (row_of s j).k) (never j)) ∙ h);
          };
          hypers = λ i h.
              H.quiet T C K i (B s i) (A i h).t (r i) (λ q. (A i h).w (suc q)) (level s r g sch i h) c (view (row_of s) (rows s) c l)
              (λ j. ahead (phase j)) (λ j b. ap left_of (never j));
          guests = λ i h.
              G.guest_quiet T C K O (rows s) i (Q i h).wa (Q i h).we (glevel s r g sch i h) c (view (row_of s) (rows s) c l) phase
              (omega (
                arith,
                sum_none (rows s) (view (row_of s) (rows s) c l).left (λ j b. ap left_of (never j)),
                sum_none (suc i) (view (row_of s) (rows s) c l).budget (λ j b. ap (budget_of (row_of s j)) (never j)),
              ));
        }

  -- a tick that is taken
  pub next : (m : Machine) (mask signal : ℕ) (early : Bool) → m.count ≡ rows s → All m.clock m.rows → verdict m mask ≡ accepted →
      All (suc m.clock) (taken m mask signal early).machine.rows
  unfolding taken
  next m mask signal early n a v =
      record {
        wf = t.wf;
        hypers = λ i h.
            H.tick T C K i (B s i) (A i h).t (r i) (λ q. (A i h).w (suc q)) (level s r g sch i h) m.clock (view (row_of s) (rows s) m.clock m.rows)
            (view (row_of s) (rows s) (suc m.clock) y) (a.hypers i h) t.step (λ j. ahead (t.phases j));
        guests = λ i h.
            G.guest_tick T C K O (rows s) i (Q i h).wa (Q i h).we (glevel s r g sch i h) m.clock (view (row_of s) (rows s) m.clock m.rows)
            (view (row_of s) (rows s) (suc m.clock) y) (a.guests i h) t.step t.dom t.phases;
      }
    where
      y : List Row
      y = (ran_on m.count m.clock (turned m.clock mask m.rows) signal early (chosen (turned m.clock mask m.rows))).machine.rows

      t : Ticked (row_of s) (rows s) m.clock m.rows y
      t = ticks (row_of s) (rows s) (fits s r g sch) m.clock mask signal early m.rows a.wf (legal (row_of s) (rows s) m mask n a.wf v) m.count

  module _ (c : ℕ) (l : List Row) (all : All c l) (i : ℕ) (h : i < rows s) where
    pub okay : (z : Stage) → stage_at l i ≡ z → Okay (row_of s i) c z
    okay z e = rw e at (all.wf.okay i)

    -- A hypertask with n ticks left at clock c is over by its deadline, even if it uses them all.
    pub hypertask_in_time : (a n : ℕ) → stage_at l i ≡ Stage.Hyper a n → c + n ≤ a + (row_of s i).d
    hypertask_in_time a n e =
        let o : Okay (row_of s i) c (Stage.Hyper a n) = okay (Stage.Hyper a n) e in
        omega (arith, go (Stage.Hyper a n) e (omega arith), offset s r g sch i h, deadline s r g sch i h)
      where
        go : (z : Stage) → stage_at l i ≡ z → 0 < left_of z → c + left_of z + T i ≤ next_hyper_of (row_of s i) c z + r i
        go z e = rw e at (all.hypers i h).time

    -- A Hyper's age is below its deadline.
    pub hyper_before_deadline : (a n : ℕ) → stage_at l i ≡ Stage.Hyper a n → c < a + (row_of s i).d
    hyper_before_deadline a n e = omega (arith, hypertask_in_time a n e, okay (Stage.Hyper a n) e)

    -- A guest with budget left is before its enforcement instant.
    pub budget_before_enforcement : (a u : ℕ) → stage_at l i ≡ Stage.Guest a u → u < (row_of s i).c → c < a + (row_of s i).e
    budget_before_enforcement a u e p = omega (arith, okay (Stage.Guest a u) e, go (Stage.Guest a u) e (omega arith), (fits s r g sch i h).within)
      where
        go : (z : Stage) → stage_at l i ≡ z → 0 < budget_of (row_of s i) z → c + T i < next_arrival_of (row_of s i) c z + O i
        go z e = rw e at (G.in_time T C K O (rows s) i (Q i h).wa (Q i h).we (glevel s r g sch i h) c (view (row_of s) (rows s) c l) (all.guests i h))

    -- After steps 1 and 2 too: what a tick does to a Hyper, it does before the deadline.
    pub hyper_runs_early : (mask : ℕ) (L : Legal (row_of s) (rows s) c mask l) (a n : ℕ)
        → stage_at (turned c mask l) i ≡ Stage.Hyper a n → c < a + (row_of s i).d
    hyper_runs_early mask L a n e =
        elim (was_hyper (row_of s i) c (in_mask mask i) (stage_at l i) a n (all.wf.okay i)
        (sym (turned_stage_lem (row_of s) (rows s) (fits s r g sch) c mask 0 false l all.wf L i h) ∙ e)) [
          | inl x ↦ hyper_before_deadline a n x
          | inr x ↦ omega (arith, offset_early s r g sch i h)
        ]
