-- What every tick keeps to: a refused one returns the machine it was given, the clock counts those taken, and the promise of
-- the step leaves one answer. Assumes nothing.
use mathlib.Core.Path.{◌≡◌, refl, ◌∙◌, sym}
use mathlib.Core.Bool.{Bool}
use Prim.Native.Nat.{ℕ, ◌+◌}
use native.Mathlib.Omega.{arith}
use Rattle.std.specs.Prelude.{Ok, Err}
use Rattle.refusals.specs.declared.Refusal.{Refusal}
use Rattle.machine.specs.declared.Machine.{Machine}
use Rattle.machine.specs.declared.Taken.{Taken}
use Rattle.machine.specs.Answers.{Answer}
use Rattle.machine.specs.declared.Stepped.{Stepped}
use Rattle.machine.specs.Rows.{Found, at, none}
use Rattle.machine.specs.TickRule.{Verdict, refused, accepted, verdict, chosen, turned, ran_on, taken, step_by, step_of}

-- two answers that meet the promise of step are equal
pub determined : (m : Machine) (mask signal : ℕ) (early : Bool) (r s : Stepped)
    → r ≡ step_of m mask signal early → s ≡ step_of m mask signal early → r ≡ s
determined m mask signal early r s p q = p ∙ sym q

module _ (m : Machine) (mask signal : ℕ) (early : Bool) where
  -- the machine and the answer of a tick that is taken, whoever ran
  pub record IsTaken (s : Stepped) : Type 0 where
    pub says : Taken
    pub answers : s.answer ≡ Ok says
    pub ticks : s.machine.clock ≡ m.clock + 1
    pub rows : s.machine.count ≡ m.count

  pub is_taken : IsTaken (taken m mask signal early)
  unfolding taken
  is_taken = go (chosen (turned m.clock mask m.rows))
    where
      go : (f : Found) → IsTaken (ran_on m.count m.clock (turned m.clock mask m.rows) signal early f)
      go (at i) = record { says = _; answers = refl; ticks = refl; rows = refl }
      go none = record { says = _; answers = refl; ticks = refl; rows = refl }

  -- a refused tick returns the machine it was given
  pub refused_keeps : (x : Refusal) → (step_of m mask signal early).answer ≡ Err x → (step_of m mask signal early).machine ≡ m
  unfolding step_of
  refused_keeps x h = go (verdict m mask) h
    where
      go : (v : Verdict) → (step_by m mask signal early v).answer ≡ Err x → (step_by m mask signal early v).machine ≡ m
      go (refused y) q = refl
      go accepted q = let t = is_taken in let z : ◌≡◌ {A = ℕ} 0 1 = cc t.answers in absurd (omega arith)

  -- so its clock stays
  pub refused_clock : (x : Refusal) → (step_of m mask signal early).answer ≡ Err x → (step_of m mask signal early).machine.clock ≡ m.clock
  refused_clock x h = rw (refused_keeps x h)

  -- a tick that is taken moves the clock by one
  pub taken_clock : (t : Taken) → (step_of m mask signal early).answer ≡ Ok t → (step_of m mask signal early).machine.clock ≡ m.clock + 1
  unfolding step_of
  taken_clock t h = go (verdict m mask) h
    where
      go : (v : Verdict) → (step_by m mask signal early v).answer ≡ Ok t → (step_by m mask signal early v).machine.clock ≡ m.clock + 1
      go (refused y) q = let z : ◌≡◌ {A = ℕ} 0 1 = cc in absurd (omega arith)
      go accepted q = is_taken.ticks

  -- no tick changes how many rows there are
  pub step_count : (step_of m mask signal early).machine.count ≡ m.count
  unfolding step_of
  step_count = go (verdict m mask)
    where
      go : (v : Verdict) → (step_by m mask signal early v).machine.count ≡ m.count
      go (refused y) = refl
      go accepted = is_taken.rows
