-- "Exactly one" used as one: two ticks that give an output of the same job are the same tick, and once the job is due there is one. Assumes nothing.
use Prim.Native.Nat.{ℕ, zero, suc, ◌+◌, ◌≤◌, ◌<◌}
use mathlib.Core.Path.{◌≡◌, refl, ap}
use mathlib.Core.Bool.{Bool, true, false, ◌||◌, or-true}
use mathlib.Core.List.{List}
use mathlib.Core.Logic.{◌⊎◌, inl, inr}
use native.Mathlib.Decide.{dec_le, ℕ_discrete}
use native.Mathlib.Omega.{arith}
use lib.ListN.{length}
use Rattle.std.specs.Prelude.{Ok}
use Rattle.least.specs.Sums.{sum}
use Rattle.equations.specs.Table.{D}
use Rattle.equations.specs.Hypertask.{E}
use Rattle.start.specs.Start.{start_answer, start_of}
use Rattle.demands.specs.Runs.{Tick, TakenTick, run}
use Rattle.demands.specs.Jobs.{Job, guest_output, hypertask_output, output, one, number_of, guest_outputs, hypertask_outputs}
use Rattle.demands.specs.Demand3.{Due, OneOutput}
use Rattle.demands.proofs.Rows.{clash}
use Rattle.demands.proofs.TakenTicks.{guest_gave, hypertask_gave}
use Rattle.demands.proofs.Demand3.{demand3, never_more, output_tick}

-- ## Counting

-- a number that has p counts, and two count for two
counts_one : (p : ℕ → Bool) (n x : ℕ) → x < n → p x ≡ true → 1 ≤ number_of p n
unfolding sum
counts_one p zero x h q = absurd (omega arith)
counts_one p (suc n) x h q =
    elim (ℕ_discrete x n) [
      | yes e ↦ let z : one (p n) ≡ 1 = ap one (rw e at q) in omega arith
      | no e ↦ let z = counts_one p n x (omega arith) q in omega arith
    ]

counts_two : (p : ℕ → Bool) (n x y : ℕ) → x < y → y < n → p x ≡ true → p y ≡ true → 2 ≤ number_of p n
unfolding sum
counts_two p zero x y h k q r = absurd (omega arith)
counts_two p (suc n) x y h k q r =
    elim (ℕ_discrete y n) [
      | yes e ↦ (
          let z : one (p n) ≡ 1 = ap one (rw e at r) in
          let w = counts_one p n x (omega arith) q in
          omega arith
          )
      | no e ↦ let w = counts_two p n x y h (omega arith) q r in omega arith
    ]

one_place : (p : ℕ → Bool) (n x y : ℕ) → number_of p n ≤ 1 → x < n → y < n → p x ≡ true → p y ≡ true → x ≡ y
one_place p n x y h lx ly q r =
    elim (dec_le (suc x) y) [
      | yes k ↦ absurd (omega (arith, counts_two p n x y k ly q r))
      | no k ↦ elim (dec_le (suc y) x) [ yes l ↦ absurd (omega (arith, counts_two p n y x l lx r q)) | no l ↦ omega arith ]
    ]

-- ## Outputs of a job

module _ (ticks : List TakenTick) (i n : ℕ) where
  -- an output is the guest's or the hypertask's
  either : (x : ℕ) → output ticks i n x ≡ true → (guest_output ticks i n x ≡ true) ⊎ (hypertask_output ticks i n x ≡ true)
  either x e = go (guest_output ticks i n x) refl e
    where
      go : (b : Bool) → guest_output ticks i n x ≡ b → (b || hypertask_output ticks i n x) ≡ true
          → (guest_output ticks i n x ≡ true) ⊎ (hypertask_output ticks i n x ≡ true)
      go true q e = inl q
      go false q e = inr e

  -- in a tick that was taken
  guest_taken : (x : ℕ) → guest_output ticks i n x ≡ true → x < length ticks
  guest_taken x e = elim (dec_le (length ticks) x) [ yes k ↦ clash (rw (guest_gave ticks i x k) at e) | no k ↦ omega arith ]

  hypertask_taken : (x : ℕ) → hypertask_output ticks i n x ≡ true → x < length ticks
  hypertask_taken x e = elim (dec_le (length ticks) x) [ yes k ↦ clash (rw (hypertask_gave ticks i x k) at e) | no k ↦ omega arith ]

  module _ (most : guest_outputs ticks i n + hypertask_outputs ticks i n ≤ 1) where
    not_both : (x y : ℕ) → guest_output ticks i n x ≡ true → hypertask_output ticks i n y ≡ true → ⊥
    unfolding guest_outputs hypertask_outputs
    not_both x y g h =
        omega (
          arith,
          most,
          counts_one (guest_output ticks i n) (length ticks) x (guest_taken x g) g,
          counts_one (hypertask_output ticks i n) (length ticks) y (hypertask_taken y h) h,
        )

    same_tick : (x y : ℕ) → output ticks i n x ≡ true → output ticks i n y ≡ true → x ≡ y
    unfolding guest_outputs hypertask_outputs
    same_tick x y p q = go (either x p) (either y q)
      where
        go : (guest_output ticks i n x ≡ true) ⊎ (hypertask_output ticks i n x ≡ true)
            → (guest_output ticks i n y ≡ true) ⊎ (hypertask_output ticks i n y ≡ true) → x ≡ y
        go (inl g) (inl h) =
            one_place (guest_output ticks i n) (length ticks) x y (omega (arith, most)) (guest_taken x g) (guest_taken y h) g h
        go (inl g) (inr h) = absurd (not_both x y g h)
        go (inr g) (inl h) = absurd (not_both y x h g)
        go (inr g) (inr h) =
            one_place (hypertask_output ticks i n) (length ticks) x y (omega (arith, most)) (hypertask_taken x g) (hypertask_taken y h) g h

-- ## Over `start` and the machine's step

module _ (s : List ℕ) (m : ℕ) (accepted : start_answer s ≡ Ok m) (ticks : List Tick) (i n : ℕ) where
  abbrev taken : List TakenTick
  taken = (run (start_of s).machine ticks).taken

  -- at any time: two ticks that give an output of the same job are the same tick
  pub no_two_outputs : Job m taken i n → (x y : ℕ) → output taken i n x ≡ true → output taken i n y ≡ true → x ≡ y
  no_two_outputs j = same_tick taken i n (never_more s m accepted ticks i n j).0

  -- once the job is due: there is one, and no other
  pub one_output : Job m taken i n → Due s taken i n → OneOutput taken i n
  one_output j due =
      let o = demand3 s m accepted ticks i n j due in
      let most : guest_outputs taken i n + hypertask_outputs taken i n ≤ 1 = omega (arith, o.exactly_one) in
      go most (output_tick s taken i n o)
    where
      from : guest_outputs taken i n + hypertask_outputs taken i n ≤ 1 → (x : ℕ) → output taken i n x ≡ true → OneOutput taken i n
      from most x g = record { tick = x; gives = g; only = λ y q. same_tick taken i n most y x q g; not_both = not_both taken i n most x x }

      go : guest_outputs taken i n + hypertask_outputs taken i n ≤ 1
          → ((x : ℕ) × (guest_output taken i n x ≡ true) × (x < n + E s i)) ⊎ ((x : ℕ) × (hypertask_output taken i n x ≡ true) × (x < n + D s i))
          → OneOutput taken i n
      go most (inl w) = from most w.0 (rw w.1)
      go most (inr w) = from most w.0 (rw w.1 (or-true (guest_output taken i n w.0)))
