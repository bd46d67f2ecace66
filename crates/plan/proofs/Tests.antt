-- What the checks' tests say, and answers that tell two things apart.
-- Assumes nothing.
use mathlib.Core.Path.{◌≡◌, refl, ap}
use mathlib.Core.Bool.{Bool, true, false, not, ◌||◌}
use mathlib.Core.List.{List}
use Rattle.std.specs.Prelude.{Option, None, Some, Ok, Err}
use Prim.Native.Nat.{ℕ, suc, ◌+◌, ◌-◌, ◌*◌, ◌≤◌}
use native.Mathlib.Nat.{pos_of_ne-zero}
use native.Mathlib.Omega.{arith}
use borrow.Author.Tests.{le-ltb, eq-eqb}
use lib.Dec.{eqb}
use Rattle.refusals.specs.declared.Refusal.{Refusal}
use Rattle.plan.specs.declared.reader.Entry.{Entry}
use Rattle.plan.specs.Refuse.{refuse_if, refuse_at, answer_of}
use Rattle.plan.specs.PlanFile.{count, entry_at, start_at, wrong_place}

-- neither of two
pub or_inv : (a b : Bool) → (a || b) ≡ false → (a ≡ false) × (b ≡ false)
or_inv true b e = let z : ◌≡◌ {A = ℕ} 0 1 = cc in absurd (omega arith)
or_inv false b e = (refl, e)

-- ANSWERS
pub answer_some : (o : Option Refusal) (r : Refusal) → Err r ≡ answer_of o → o ≡ Some r
answer_some None r e = cc
answer_some (Some q) r e = cc

pub answer_none : (o : Option Refusal) → (Ok tt) ≡ answer_of o → o ≡ None
answer_none None e = refl
answer_none (Some q) e = cc

-- a check that was passed
pub if_inv : (b : Bool) (r : Refusal) (next : Option Refusal) → refuse_if b r next ≡ None → (b ≡ false) × (next ≡ None)
if_inv true r next e = let z : ◌≡◌ {A = ℕ} 0 1 = cc in absurd (omega arith)
if_inv false r next e = (refl, e)

pub at_inv : (r : ℕ → Refusal) (o : Option ℕ) (next : Option Refusal) → refuse_at r o next ≡ None → (o ≡ None) × (next ≡ None)
at_inv r (Some k) next e = let z : ◌≡◌ {A = ℕ} 0 1 = cc in absurd (omega arith)
at_inv r None next e = (refl, e)

-- equal arguments
pub same3 : {A B C D : Type 0} (g : A → B → C → D) {a a' : A} {b b' : B} {c c' : C} → a ≡ a' → b ≡ b' → c ≡ c'
    → g a b c ≡ g a' b' c'
same3 g p q r = cc

-- 15
pub start_first : (f : List ℕ) (i : ℕ) → i ≡ 0 → start_at f i ≡ 4 + 12 * count f
unfolding start_at
start_first f i e = ap (start_at f) e

pub start_next : (f : List ℕ) (i : ℕ) → (i ≡ 0 → ⊥) → start_at f i ≡ (entry_at f (i - 1)).offset + (entry_at f (i - 1)).length
unfolding start_at
start_next f i h = let z : i ≡ suc (i - 1) = omega (arith, pos_of_ne-zero h) in ap (start_at f) z

module _ (start : ℕ) (last : Bool) (len : ℕ) (e : Entry) where
  pub last_placed : last ≡ true → e.offset ≡ start → e.offset + e.length ≤ len
      → wrong_place start last len e ≡ not (eqb (e.offset + e.length) len)
  last_placed l a b = rw (eq-eqb e.offset start a, le-ltb len (e.offset + e.length) b, l)

  pub inner_placed : last ≡ false → e.offset ≡ start → e.offset + e.length ≤ len → wrong_place start last len e ≡ false
  inner_placed l a b = rw (eq-eqb e.offset start a, le-ltb len (e.offset + e.length) b, l)
