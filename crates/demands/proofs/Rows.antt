-- One row in one tick of the machine's rule, as the theorems see it: what it has left, and how early its next job can come. Assumes nothing.
use Prim.Native.Nat.{ℕ, suc, ◌+◌, ◌-◌, ◌≤◌, ◌<◌, max}
use mathlib.Core.Path.{◌≡◌, refl, sym}
use mathlib.Core.Bool.{Bool, true, false, cond, ◌||◌}
use mathlib.Core.Logic.{◌⊎◌, inl, inr, ◌≢◌}
use native.Mathlib.Omega.{arith}
use lib.Dec.{eqb}
use borrow.Author.Tests.{ltb-true, ltb-false, eqb-true, eqb-false, lt-ltb}
use Rattle.machine.specs.declared.Stage.{Stage}
use Rattle.machine.specs.declared.Row.{Row}
use Rattle.machine.specs.Rows.{age, is_hyper, has_begun, has_budget}
use Rattle.machine.specs.TickRule.{younger_than, enforced, ran_from}
use Rattle.machine.proofs.Tests.{or_false_right, age_sum}
use Rattle.demands.proofs.Source.{Source, nothing_new, new_job}
use Rattle.demands.proofs.Guests.{Phase, rest, held}

pub clash : {A : Type 0} → false ≡ true → A
clash e = absurd (let z : ◌≡◌ {A = ℕ} 0 1 = cc in omega arith)

-- hypertask ticks left, and guest ticks not used yet
abbrev pub left_of : Stage → ℕ
left_of Stage.Never = 0
left_of (Stage.Guest a u) = 0
left_of (Stage.Hyper a l) = l
left_of (Stage.Closed a) = 0

abbrev pub budget_of : Row → Stage → ℕ
budget_of r Stage.Never = 0
budget_of r (Stage.Guest a u) = r.c - u
budget_of r (Stage.Hyper a l) = 0
budget_of r (Stage.Closed a) = 0

-- the next arrival, and the next job to become Hyper, come no earlier
abbrev pub next_arrival_of : Row → ℕ → Stage → ℕ
next_arrival_of r c Stage.Never = c
next_arrival_of r c (Stage.Guest a u) = max c (a + r.t)
next_arrival_of r c (Stage.Hyper a l) = max c (a + r.t)
next_arrival_of r c (Stage.Closed a) = max c (a + r.t)

abbrev pub next_hyper_of : Row → ℕ → Stage → ℕ
next_hyper_of r c Stage.Never = c + r.e
next_hyper_of r c (Stage.Guest a u) = a + r.e
next_hyper_of r c (Stage.Hyper a l) = max c (a + r.t) + r.e
next_hyper_of r c (Stage.Closed a) = max c (a + r.t) + r.e

-- what is used of a row's fields
pub record Fits (r : Row) : Type 0 where
  pub offset : 0 < r.e
  pub within : r.e < r.t
  pub some : 0 < r.k

-- a row's part of a well formed state at the start of tick c
abbrev pub Okay : Row → ℕ → Stage → Type 0
Okay r c Stage.Never = Unit {0}
Okay r c (Stage.Guest a u) = (a ≤ c) × (c ≤ a + r.e) × (u ≤ r.c)
Okay r c (Stage.Hyper a l) = (0 < l) × (l ≤ r.k) × (a + r.e < c)
Okay r c (Stage.Closed a) = a ≤ c

-- the same between the arrivals and the run
abbrev pub Okay° : Row → ℕ → Stage → Type 0
Okay° r c Stage.Never = Unit {0}
Okay° r c (Stage.Guest a u) = (a ≤ c) × (c < a + r.e) × (u ≤ r.c)
Okay° r c (Stage.Hyper a l) = (0 < l) × (l ≤ r.k) × (a + r.e ≤ c)
Okay° r c (Stage.Closed a) = a ≤ c

-- what refusals 11 and 12 leave of a row that an arrival may come to
abbrev pub Free : Row → ℕ → Stage → Type 0
Free r c Stage.Never = Unit {0}
Free r c (Stage.Guest a u) = a + r.t ≤ c
Free r c (Stage.Hyper a l) = ⊥
Free r c (Stage.Closed a) = a + r.t ≤ c

pub free : (r : Row) (c : ℕ) (s : Stage) → Okay r c s → younger_than c r.t s ≡ false → is_hyper s ≡ false → Free r c s
free r c Stage.Never o y h = tt
free r c (Stage.Guest a u) o y h = omega (arith, age_sum c a o.0, ltb-false (age c a) r.t y)
free r c (Stage.Hyper a l) o y h = clash (sym h)
free r c (Stage.Closed a) o y h = omega (arith, age_sum c a o, ltb-false (age c a) r.t y)

-- steps 1 and 2; comes: the row is in the mask
abbrev pub turned_stage : Row → ℕ → Bool → Stage → Stage
turned_stage r c comes s = cond comes (Stage.Guest c 0) (enforced c r.k r.e s)

pub record Mid (r : Row) (c : ℕ) (s s° : Stage) : Type 0 where
  pub hypertask_part : Source c r.t r.k (left_of s) (next_hyper_of r c s) (left_of s°) (next_hyper_of r c s°)
  pub guest_part : Source c r.t r.c (budget_of r s) (next_arrival_of r c s) (budget_of r s°) (next_arrival_of r c s°)
  pub okay : Okay° r c s°
  pub old : has_begun r.k s° ≡ true → s° ≡ s

pub mid_none : (r : Row) (c : ℕ) → Mid r c Stage.Never Stage.Never
mid_none r c =
    record {
      hypertask_part = nothing_new (omega arith) (omega arith);
      guest_part = nothing_new (omega arith) (omega arith);
      okay = tt;
      old = λ x. refl;
    }

pub mid : (r : Row) (c : ℕ) (b : Bool) (s : Stage) → Fits r → Okay r c s → (b ≡ true → Free r c s) → Mid r c s (turned_stage r c b s)
mid r c true Stage.Never e o f =
    record {
      hypertask_part = nothing_new (omega arith) (omega arith);
      guest_part = new_job (omega arith) (omega arith) (omega arith);
      okay = omega arith;
      old = λ x. cc;
    }
mid r c false Stage.Never e o f = mid_none r c
mid r c true (Stage.Guest a u) e o f = absurd (omega (arith, f refl))
mid r c false (Stage.Guest a u) e o f = go (eqb (age c a) r.e) refl
  where
    go : (t : Bool) → eqb (age c a) r.e ≡ t → Mid r c (Stage.Guest a u) (cond t (Stage.Hyper a r.k) (Stage.Guest a u))
    go true q =
        let h : a + r.e ≡ c = omega (arith, age_sum c a o.0, eqb-true (age c a) r.e q) in
        record {
          hypertask_part = new_job (omega arith) (omega arith) (omega arith);
          guest_part = nothing_new (omega arith) (omega arith);
          okay = omega arith;
          old = λ x. absurd (omega (arith, ltb-true r.k r.k x));
        }
    go false q =
        let n : age c a ≢ r.e = eqb-false (age c a) r.e q in
        let h : c < a + r.e = omega (arith, age_sum c a o.0) in
        record {
          hypertask_part = nothing_new (omega arith) (omega arith);
          guest_part = nothing_new (omega arith) (omega arith);
          okay = omega arith;
          old = λ x. refl;
        }
mid r c true (Stage.Hyper a l) e o f = absurd (f refl)
mid r c false (Stage.Hyper a l) e o f =
    record {
      hypertask_part = nothing_new (omega arith) (omega arith);
      guest_part = nothing_new (omega arith) (omega arith);
      okay = omega arith;
      old = λ x. refl;
    }
mid r c true (Stage.Closed a) e o f =
    record {
      hypertask_part = nothing_new (omega arith) (omega (arith, f refl));
      guest_part = new_job (omega arith) (omega (arith, f refl)) (omega arith);
      okay = omega arith;
      old = λ x. cc;
    }
mid r c false (Stage.Closed a) e o f =
    record { hypertask_part = nothing_new (omega arith) (omega arith); guest_part = nothing_new (omega arith) (omega arith); okay = o; old = λ x. refl }

-- the run, at a row that doesn't run and at one that does
pub record After (r : Row) (c : ℕ) (s° s' : Stage) : Type 0 where
  pub left : left_of s' ≤ left_of s°
  pub budget : budget_of r s' ≤ budget_of r s°
  pub next_hyper : next_hyper_of r c s° ≤ next_hyper_of r (suc c) s'
  pub next_arrival : next_arrival_of r c s° ≤ next_arrival_of r (suc c) s'
  pub okay : Okay r (suc c) s'
  pub phase : Phase (suc c) r.t r.e (next_hyper_of r (suc c) s') (next_arrival_of r (suc c) s')

pub stays : (r : Row) (c : ℕ) (s : Stage) → Okay° r c s → After r c s s
stays r c Stage.Never o =
    record {
      left = omega arith;
      budget = omega arith;
      next_hyper = omega arith;
      next_arrival = omega arith;
      okay = tt;
      phase = rest (omega arith) (omega arith);
    }
stays r c (Stage.Guest a u) o =
    record {
      left = omega arith;
      budget = omega arith;
      next_hyper = omega arith;
      next_arrival = omega arith;
      okay = omega arith;
      phase = held (omega arith) (omega arith);
    }
stays r c (Stage.Hyper a l) o =
    record {
      left = omega arith;
      budget = omega arith;
      next_hyper = omega arith;
      next_arrival = omega arith;
      okay = omega arith;
      phase = rest (omega arith) (omega arith);
    }
stays r c (Stage.Closed a) o =
    record {
      left = omega arith;
      budget = omega arith;
      next_hyper = omega arith;
      next_arrival = omega arith;
      okay = omega arith;
      phase = rest (omega arith) (omega arith);
    }

-- the stage of a task that ran
abbrev pub ran_stage : Row → ℕ → ℕ → Bool → Stage → Stage
ran_stage r task signal early s = (ran_from task signal early r.c s).stage

pub guest_ran_lem : (r : Row) (task signal : ℕ) (early : Bool) (a u : ℕ) →
    ran_stage r task signal early (Stage.Guest a u) ≡ cond (eqb signal task) (Stage.Closed a) (Stage.Guest a (u + 1))
guest_ran_lem r task signal early a u = go (eqb signal task) refl
  where
    go : (b : Bool) → eqb signal task ≡ b → ran_stage r task signal early (Stage.Guest a u) ≡ cond b (Stage.Closed a) (Stage.Guest a (u + 1))
    go true e = rw (e, ran_stage)
    go false e = rw (e, ran_stage)

pub hypertask_ran_lem : (r : Row) (task signal : ℕ) (early : Bool) (a l : ℕ) →
    ran_stage r task signal early (Stage.Hyper a l) ≡ cond (early || eqb (l - 1) 0) (Stage.Closed a) (Stage.Hyper a (l - 1))
hypertask_ran_lem r task signal early a l = go (early || eqb (l - 1) 0) refl
  where
    go : (b : Bool) → (early || eqb (l - 1) 0) ≡ b → ran_stage r task signal early (Stage.Hyper a l) ≡ cond b (Stage.Closed a) (Stage.Hyper a (l - 1))
    go true e = rw (e, ran_stage)
    go false e = rw (e, ran_stage)

pub runs : (r : Row) (c task signal : ℕ) (early : Bool) (s : Stage) → Okay° r c s → (has_budget r.c s ≡ true) ⊎ (is_hyper s ≡ true) →
    After r c s (ran_stage r task signal early s)
runs r c task signal early Stage.Never o h = stays r c Stage.Never o
runs r c task signal early (Stage.Guest a u) o (inl h) = rw (guest_ran_lem r task signal early a u) (go (eqb signal task))
  where
    go : (b : Bool) → After r c (Stage.Guest a u) (cond b (Stage.Closed a) (Stage.Guest a (u + 1)))
    go true =
        record {
          left = omega arith;
          budget = omega arith;
          next_hyper = omega arith;
          next_arrival = omega arith;
          okay = omega arith;
          phase = rest (omega arith) (omega arith);
        }
    go false =
        let l : u < r.c = ltb-true u r.c h in
        record {
          left = omega arith;
          budget = omega arith;
          next_hyper = omega arith;
          next_arrival = omega arith;
          okay = omega arith;
          phase = held (omega arith) (omega arith);
        }
runs r c task signal early (Stage.Guest a u) o (inr h) = clash h
runs r c task signal early (Stage.Hyper a l) o h = rw (hypertask_ran_lem r task signal early a l) (go (early || eqb (l - 1) 0) refl)
  where
    go : (b : Bool) → (early || eqb (l - 1) 0) ≡ b → After r c (Stage.Hyper a l) (cond b (Stage.Closed a) (Stage.Hyper a (l - 1)))
    go true q =
        record {
          left = omega arith;
          budget = omega arith;
          next_hyper = omega arith;
          next_arrival = omega arith;
          okay = omega arith;
          phase = rest (omega arith) (omega arith);
        }
    go false q =
        let n : l - 1 ≢ 0 = eqb-false (l - 1) 0 (or_false_right early (eqb (l - 1) 0) q) in
        record {
          left = omega arith;
          budget = omega arith;
          next_hyper = omega arith;
          next_arrival = omega arith;
          okay = omega arith;
          phase = rest (omega arith) (omega arith);
        }
runs r c task signal early (Stage.Closed a) o h = stays r c (Stage.Closed a) o

-- what runs takes one from what it has left
pub hyper_falls : (r : Row) (c task signal : ℕ) (early : Bool) (s : Stage) → Okay° r c s → is_hyper s ≡ true →
    left_of (ran_stage r task signal early s) < left_of s
hyper_falls r c task signal early Stage.Never o h = clash h
hyper_falls r c task signal early (Stage.Guest a u) o h = clash h
hyper_falls r c task signal early (Stage.Hyper a l) o h = rw (hypertask_ran_lem r task signal early a l) (go (early || eqb (l - 1) 0))
  where
    go : (b : Bool) → left_of (cond b (Stage.Closed a) (Stage.Hyper a (l - 1))) < l
    go true = omega arith
    go false = omega arith
hyper_falls r c task signal early (Stage.Closed a) o h = clash h

pub guest_falls : (r : Row) (task signal : ℕ) (early : Bool) (s : Stage) → has_budget r.c s ≡ true →
    budget_of r (ran_stage r task signal early s) < budget_of r s
guest_falls r task signal early Stage.Never h = clash h
guest_falls r task signal early (Stage.Guest a u) h = rw (guest_ran_lem r task signal early a u) (go (eqb signal task))
  where
    go : (b : Bool) → budget_of r (cond b (Stage.Closed a) (Stage.Guest a (u + 1))) < r.c - u
    go true = let l : u < r.c = ltb-true u r.c h in omega arith
    go false = let l : u < r.c = ltb-true u r.c h in omega arith
guest_falls r task signal early (Stage.Hyper a l) h = clash h
guest_falls r task signal early (Stage.Closed a) h = clash h

-- what the three tests of step 3 say
pub not_waiting : (s : Stage) → is_hyper s ≡ false → left_of s ≡ 0
not_waiting Stage.Never h = refl
not_waiting (Stage.Guest a u) h = refl
not_waiting (Stage.Hyper a l) h = cc
not_waiting (Stage.Closed a) h = refl

pub not_ready : (r : Row) (s : Stage) → has_budget r.c s ≡ false → budget_of r s ≡ 0
not_ready r Stage.Never h = refl
not_ready r (Stage.Guest a u) h = omega (arith, ltb-false u r.c h)
not_ready r (Stage.Hyper a l) h = refl
not_ready r (Stage.Closed a) h = refl

pub begun_of : (r : Row) (s : Stage) → 0 < left_of s → left_of s < r.k → has_begun r.k s ≡ true
begun_of r Stage.Never p h = absurd (omega arith)
begun_of r (Stage.Guest a u) p h = absurd (omega arith)
begun_of r (Stage.Hyper a l) p h = lt-ltb l r.k h
begun_of r (Stage.Closed a) p h = absurd (omega arith)

pub begun_is : (r : Row) (s : Stage) → has_begun r.k s ≡ true → (is_hyper s ≡ true) × (left_of s < r.k)
begun_is r Stage.Never h = clash h
begun_is r (Stage.Guest a u) h = clash h
begun_is r (Stage.Hyper a l) h = (refl, ltb-true l r.k h)
begun_is r (Stage.Closed a) h = clash h
