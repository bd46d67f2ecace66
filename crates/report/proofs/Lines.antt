-- Lines one after the other, as a loop puts them and as they are defined from the first on. Assumes nothing.
use mathlib.Core.Path.{◌≡◌, sym, ap, ◌∙◌}
use mathlib.Core.List.{List, [], ◌++◌, append-nil, append_assoc}
use Prim.Native.Nat.{ℕ, zero, suc, ◌+◌}
use native.Mathlib.Numerals.{add-one}
use native.Mathlib.Omega.{arith}
use Rattle.least.specs.Lists.{flat}

-- one line more
pub flat_turn : (f : ℕ → List ℕ) (i : ℕ) → flat f i ++ f i ≡ flat f (i + 1)
unfolding flat
flat_turn f i = rw add-one

-- the lines from line i on, of which there are n
module _ (f : ℕ → List ℕ) (lines : ℕ → ℕ → List ℕ) (none : (i : ℕ) → lines i 0 ≡ []) (more : (i n : ℕ) → lines i (suc n) ≡ f i ++ lines (suc i) n) where
  last : (n i : ℕ) → lines i (suc n) ≡ lines i n ++ f (i + n)
  last zero i = let e : i + 0 ≡ i = omega arith in rw (more, none, none, append-nil, e)
  last (suc n) i =
      let e : i + suc n ≡ suc i + n = omega arith in
      more i (suc n) ∙ ap (λ (t : List ℕ). f i ++ t) (last n (suc i)) ∙ sym (append_assoc (f i) (lines (suc i) n) (f (suc i + n)))
      ∙ rw (e, ← more i n)

  pub from_front : (n : ℕ) → lines 0 n ≡ flat f n
  unfolding flat
  from_front zero = none 0
  from_front (suc n) = let e : 0 + n ≡ n = omega arith in last n 0 ∙ rw (from_front n, e)
