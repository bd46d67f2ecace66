-- Each step of the tick rule keeps a stage within its clauses of "well formed". Of ages only two facts are used: none at the
-- arrival, and one more with each tick. Assumes nothing.
use mathlib.Core.Path.{◌≡◌, refl}
use mathlib.Core.Bool.{Bool, true, false, cond, ◌&&◌, ◌||◌}
use Prim.Native.Nat.{ℕ, ◌+◌, ◌-◌, ◌≤◌, ◌<◌}
use native.Mathlib.Omega.{arith}
use lib.Dec.{leb, ltb, eqb}
use borrow.Author.Tests.{leb-true, ltb-true, eqb-true, eqb-false, le-leb, lt-ltb}
use Rattle.machine.specs.declared.Stage.{Stage}
use Rattle.machine.specs.Rows.{age, is_hyper, has_budget}
use Rattle.machine.specs.WellFormed.{stage_fits}
use Rattle.machine.specs.TickRule.{enforced, ran_from}
use Rattle.machine.proofs.Tests.{both, or_false_right, age_now, age_next}

module _ (clock c k e : ℕ) where
  -- what a stage that fits says
  pub guest_says : (a u : ℕ) → stage_fits clock c k e (Stage.Guest a u) ≡ true → (a ≤ clock) × (u ≤ c) × (age clock a ≤ e)
  unfolding stage_fits
  guest_says a u h =
      let x = both (leb a clock) ((leb u c && leb (age clock a) e) && true) h in
      let y = both (leb u c && leb (age clock a) e) true x.1 in
      let z = both (leb u c) (leb (age clock a) e) y.0 in
      (leb-true a clock x.0, leb-true u c z.0, leb-true (age clock a) e z.1)

  pub hyper_says : (a l : ℕ) → stage_fits clock c k e (Stage.Hyper a l) ≡ true → (a ≤ clock) × (1 ≤ l) × (l ≤ k) × (e < age clock a)
  unfolding stage_fits
  hyper_says a l h =
      let x = both (leb a clock) (leb 1 l && (leb l k && ltb e (age clock a))) h in
      let y = both (leb 1 l) (leb l k && ltb e (age clock a)) x.1 in
      let z = both (leb l k) (ltb e (age clock a)) y.1 in
      (leb-true a clock x.0, leb-true 1 l y.0, leb-true l k z.0, ltb-true e (age clock a) z.1)

  pub closed_says : (a : ℕ) → stage_fits clock c k e (Stage.Closed a) ≡ true → a ≤ clock
  unfolding stage_fits
  closed_says a h = leb-true a clock (both (leb a clock) true h).0

  pub never_fits : stage_fits clock c k e Stage.Never ≡ true
  unfolding stage_fits
  never_fits = refl

  pub guest_fits_lem : (a u : ℕ) → a ≤ clock → u ≤ c → age clock a ≤ e → stage_fits clock c k e (Stage.Guest a u) ≡ true
  unfolding stage_fits
  guest_fits_lem a u p q r = rw (le-leb a clock p, le-leb u c q, le-leb (age clock a) e r)

  pub hyper_fits_lem : (a l : ℕ) → a ≤ clock → 1 ≤ l → l ≤ k → e < age clock a → stage_fits clock c k e (Stage.Hyper a l) ≡ true
  unfolding stage_fits
  hyper_fits_lem a l p q r t = rw (le-leb a clock p, le-leb 1 l q, le-leb l k r, lt-ltb e (age clock a) t)

  pub closed_fits : (a : ℕ) → a ≤ clock → stage_fits clock c k e (Stage.Closed a) ≡ true
  unfolding stage_fits
  closed_fits a p = rw (le-leb a clock p)

-- step 1 leaves each stage fit for the next clock
pub enforced_fits : (clock c k e : ℕ) (s : Stage) → 1 ≤ k → stage_fits clock c k e s ≡ true
    → stage_fits (clock + 1) c k e (enforced clock k e s) ≡ true
enforced_fits clock c k e Stage.Never hk h = never_fits (clock + 1) c k e
enforced_fits clock c k e (Stage.Guest a u) hk h =
    let t = guest_says clock c k e a u h in
    go (eqb (age clock a) e) refl t (age_next clock a t.0)
  where
    go : (x : Bool) → eqb (age clock a) e ≡ x → (a ≤ clock) × (u ≤ c) × (age clock a ≤ e) → age (clock + 1) a ≡ age clock a + 1
        → stage_fits (clock + 1) c k e (cond x (Stage.Hyper a k) (Stage.Guest a u)) ≡ true
    go true q t n = let w = eqb-true (age clock a) e q in hyper_fits_lem (clock + 1) c k e a k (omega arith) hk (omega arith) (omega arith)
    go false q t n = let w = eqb-false (age clock a) e q in guest_fits_lem (clock + 1) c k e a u (omega arith) t.1 (omega arith)
enforced_fits clock c k e (Stage.Hyper a l) hk h =
    let t = hyper_says clock c k e a l h in
    let n = age_next clock a t.0 in
    hyper_fits_lem (clock + 1) c k e a l (omega arith) t.1 t.2 (omega arith)
enforced_fits clock c k e (Stage.Closed a) hk h = let t = closed_says clock c k e a h in closed_fits (clock + 1) c k e a (omega arith)

-- so does step 2
pub arrived_fits : (clock c k e : ℕ) → 1 ≤ e → stage_fits (clock + 1) c k e (Stage.Guest clock 0) ≡ true
arrived_fits clock c k e he =
    let n = age_next clock clock (omega arith) in
    let z = age_now clock in
    guest_fits_lem (clock + 1) c k e clock 0 (omega arith) (omega arith) (omega arith)

-- step 4 keeps the stage of the task that ran fit
pub ran_fits : (task signal : ℕ) (early : Bool) (clock c k e : ℕ) (s : Stage) → (is_hyper s || has_budget c s) ≡ true
    → stage_fits clock c k e s ≡ true → stage_fits clock c k e (ran_from task signal early c s).stage ≡ true
ran_fits task signal early clock c k e Stage.Never r h = h
ran_fits task signal early clock c k e (Stage.Guest a u) r h = go (eqb signal task) refl (guest_says clock c k e a u h) (ltb-true u c r)
  where
    go : (x : Bool) → eqb signal task ≡ x → (a ≤ clock) × (u ≤ c) × (age clock a ≤ e) → u < c
        → stage_fits clock c k e (ran_from task signal early c (Stage.Guest a u)).stage ≡ true
    go true q t lt = rw q (closed_fits clock c k e a t.0)
    go false q t lt = rw q (guest_fits_lem clock c k e a (u + 1) t.0 (omega arith) t.2)
ran_fits task signal early clock c k e (Stage.Hyper a l) r h = go (early || eqb (l - 1) 0) refl (hyper_says clock c k e a l h)
  where
    go : (x : Bool) → (early || eqb (l - 1) 0) ≡ x → (a ≤ clock) × (1 ≤ l) × (l ≤ k) × (e < age clock a)
        → stage_fits clock c k e (ran_from task signal early c (Stage.Hyper a l)).stage ≡ true
    go true q t = rw q (closed_fits clock c k e a t.0)
    go false q t =
        let w = eqb-false (l - 1) 0 (or_false_right early (eqb (l - 1) 0) q) in
        rw q (hyper_fits_lem clock c k e a (l - 1) t.0 (omega arith) (omega arith) t.3)
ran_fits task signal early clock c k e (Stage.Closed a) r h = h
