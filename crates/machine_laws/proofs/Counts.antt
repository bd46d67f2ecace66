-- How many rows have a property, after a map and after one place changed, and when at most one has it. Assumes nothing.
use mathlib.Core.Path.{◌≡◌, refl, sym}
use mathlib.Core.Bool.{Bool, true, false, cond}
use mathlib.Core.List.{List, [], ◌∷◌}
use mathlib.Core.Logic.{◌↔◌}
use Prim.Native.Nat.{ℕ, zero, suc, ◌+◌, ◌≤◌, ◌<◌}
use native.Mathlib.Omega.{arith}
use lib.Dec.{eqb}
use lib.ListN.{length, get_or, set, length-set}
use lib.Seq.{get_or-set_same, get_or-set_other}
use borrow.Author.Tests.{eqb-true, eqb-false}
use Rattle.machine.specs.declared.Row.{Row}
use Rattle.machine.specs.Rows.{no_row, Found, at, none, first, map_from, how_many}
use Rattle.machine.proofs.Searches.{found_at, all_none, none_found}

pub count_map : (p : Row → Bool) (f : ℕ → Row → Row) (l : List Row) (i : ℕ)
    → ((k : ℕ) → k < length l → p (f (i + k) (get_or l k no_row)) ≡ p (get_or l k no_row)) → how_many p (map_from f i l) ≡ how_many p l
unfolding map_from how_many
count_map p f [] i g = refl
count_map p f (r ∷ rs) i g =
    let z : i + 0 ≡ i = omega arith in
    let e : p (f i r) ≡ p r = rw z at (g 0 (omega arith)) in
    rw (e, count_map p f rs (suc i) (λ k h. let y : i + suc k ≡ suc i + k = omega arith in rw y at (g (suc k) (omega arith))))

pub count_none : (p : Row → Bool) (l : List Row) → ((k : ℕ) → k < length l → p (get_or l k no_row) ≡ false) → how_many p l ≡ 0
count_none p l g = none_found (λ i r. p r) p (λ i r. refl) 0 l (all_none (λ i r. p r) l 0 g)

pub count_set : (p : Row → Bool) (l : List Row) (i : ℕ) (q : Row) → i < length l
    → how_many p (set l i q) + cond (p (get_or l i no_row)) 1 0 ≡ how_many p l + cond (p q) 1 0
unfolding how_many
count_set p [] i q h = absurd (omega arith)
count_set p (r ∷ rs) zero q h = go (p q) (p r)
  where
    n : ℕ
    n = how_many p rs

    go : (x y : Bool) → cond x (suc n) n + cond y 1 0 ≡ cond y (suc n) n + cond x 1 0
    go true true = omega arith
    go true false = omega arith
    go false true = omega arith
    go false false = omega arith
count_set p (r ∷ rs) (suc i) q h = go (p r) (count_set p rs i q (omega arith))
  where
    n : ℕ
    n = how_many p rs

    n' : ℕ
    n' = how_many p (set rs i q)

    go : (y : Bool) → n' + cond (p (get_or rs i no_row)) 1 0 ≡ n + cond (p q) 1 0
        → cond y (suc n') n' + cond (p (get_or rs i no_row)) 1 0 ≡ cond y (suc n) n + cond (p q) 1 0
    go true e = omega arith
    go false e = omega arith

pub one_or_none : (b : Bool) → cond b 1 0 ≤ 1
one_or_none true = omega arith
one_or_none false = omega arith

-- at most one: any two places that have p are the same place
pub at_most_one : (p : Row → Bool) (l : List Row) → p no_row ≡ false
    → (how_many p l ≤ 1) ↔ ((i j : ℕ) → i < length l → j < length l → p (get_or l i no_row) ≡ true → p (get_or l j no_row) ≡ true → i ≡ j)
at_most_one p l blank = (λ h i j lo hi a b. same h i j lo hi a b (eqb i j) refl, λ f. one f (first (λ k r. p r) l) refl)
  where
    -- without a place that has p there is one fewer
    less : (k : List Row) (i : ℕ) → i < length k → p (get_or k i no_row) ≡ true → how_many p (set k i no_row) + 1 ≡ how_many p k + 0
    less k i h a = rw (a, blank) at (count_set p k i no_row h)

    same : how_many p l ≤ 1 → (i j : ℕ) → i < length l → j < length l → p (get_or l i no_row) ≡ true → p (get_or l j no_row) ≡ true
        → (x : Bool) → eqb i j ≡ x → i ≡ j
    same h i j lo hi a b true e = eqb-true i j e
    same h i j lo hi a b false e =
        let other : get_or (set l i no_row) j no_row ≡ get_or l j no_row = get_or-set_other l i j no_row no_row (λ q. eqb-false i j e (sym q)) in
        absurd (omega (arith, less l i lo a, less (set l i no_row) j (rw length-set hi) (rw other b)))

    one : ((i j : ℕ) → i < length l → j < length l → p (get_or l i no_row) ≡ true → p (get_or l j no_row) ≡ true → i ≡ j)
        → (x : Found) → first (λ k r. p r) l ≡ x → how_many p l ≤ 1
    one f none e = omega (arith, none_found (λ k r. p r) p (λ k r. refl) 0 l e)
    one f (at i) e =
        let t = found_at (λ k r. p r) l i e in
        omega (arith, less l i t.0 t.1, count_none p (set l i no_row) (λ k h. rest k (rw length-set at h) t.0 t.1 (eqb k i) refl))
      where
        rest : (k : ℕ) → k < length l → i < length l → p (get_or l i no_row) ≡ true → (x : Bool) → eqb k i ≡ x
            → p (get_or (set l i no_row) k no_row) ≡ false
        rest k h lt a true q = rw (eqb-true k i q, get_or-set_same l i no_row no_row lt) blank
        rest k h lt a false q = rw (get_or-set_other l i k no_row no_row (eqb-false k i q)) (go (p (get_or l k no_row)) refl)
          where
            go : (y : Bool) → p (get_or l k no_row) ≡ y → y ≡ false
            go true w = absurd (eqb-false k i q (f k i h lt w a))
            go false w = refl
