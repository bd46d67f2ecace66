-- Chains over a range of rows: `(a..b).map(g).sum()` and `(a..b).map(g).max()`, where g computes h.
-- Assumes nothing.
use mathlib.Core.Path.{◌≡◌, refl, sym, ap, ◌∙◌}
use mathlib.Core.Bool.{true}
use mathlib.Core.Logic.{⊎_elim}
use mathlib.Core.List.{List, [], ◌∷◌, map}
use Prim.Native.Nat.{ℕ, zero, suc, ◌+◌, ◌-◌, ◌≤◌, ◌<◌, max}
use native.Mathlib.Nat.{zero-add, sub-zero, le_refl, eq-or-lt_of_le}
use native.Mathlib.Numerals.{add-one}
use native.Mathlib.Omega.{arith}
use Rattle.std.specs.Prelude.{Option, Some, unwrap_or}
use Rattle.std.specs.List.{fold, reduce, range_with_len}
use Rattle.std.specs.Ordering.{nat_cmp, max_by_ordering}
use Rattle.std.specs.Iterator.{PicksByCmp}
use Rattle.std.specs.Iterator.Runs.{Run, EachRunFrom, SomeRun, WholeRun, IsMapRun}
use Rattle.std.specs.Iterator.Adapters.{map_steps, map_source, map_callee}
use Rattle.std.proofs.iter.Yields.{nat_range_steps}
use Rattle.std.proofs.iter.runs.Sources.{range_listed}
use Rattle.std.proofs.lemmas.Option.{same_Some}
use Rattle.std.proofs.lemmas.Grind.{fold-append}
use Rattle.std.proofs.lemmas.Iterator.{YieldsList-from_range, YieldsList-from_map}
use Rattle.std.proofs.lemmas.Iterator.Adapters.{option_map_id}
use Rattle.std.proofs.lemmas.Iterator.Consumers.{max_from_yields_List}
use Rattle.std.proofs.lemmas.List.Folds.{fold-map}
use Rattle.std.proofs.lemmas.List.FromFn.{length-range_with_len, get_or-range_with_len, map-range_with_len_more, fill_by_all}
use Rattle.std.specs.declared.ops.Range.{Range}
use Rattle.std.specs.declared.iter.Map.{Map}
use denote.Param.Members.{Mut, Called}
use Rattle.least.specs.Sums.{sum, largest}

-- the numbers from a on, n of them
abbrev numbers : ℕ → ℕ → List ℕ
numbers a n = map (λ k. a + k) (range_with_len 0 n)

range_is : (a n : ℕ) → range_with_len a n ≡ numbers a n
range_is a n = fill_by_all (λ k. a + k) (range_with_len a n) n 0 (length-range_with_len a n) (λ k h. get_or-range_with_len a n k 0 h)

-- what a run over a range has yielded
counted : (p : Run nat_range_steps) → p.items ≡ numbers p.from.start p.len
counted p =
    let r = range_listed p p.seen in
    fill_by_all (λ k. p.from.start + k) p.items p.len 0 (sym p.long)
    (λ k h. same_Some _ _ (sym (p.reads k 0 h) ∙ r.4.3 k h ∙ ap Some (ap (λ (x : ℕ). x + k) r.2)))

fold_more : (f : ℕ → ℕ → ℕ) (a n : ℕ) → fold f 0 (numbers a (suc n)) ≡ f (fold f 0 (numbers a n)) (a + n)
fold_more f a n =
    ap (fold f 0) (ap (numbers a) (sym (add-one n)) ∙ map-range_with_len_more (λ k. a + k) 0 n n (zero-add n))
    ∙ fold-append f 0 (numbers a n) ((a + n) ∷ [])

module _ (h t : ℕ → ℕ) (a : ℕ) (same : (k : ℕ) → h (a + k) ≡ t k) where
  folded_sum : (n : ℕ) → fold (λ x j. x + h j) 0 (numbers a n) ≡ sum t n
  unfolding sum
  folded_sum zero = refl
  folded_sum (suc n) = fold_more (λ x j. x + h j) a n ∙ rw (folded_sum n, same n)

  folded_max : (n : ℕ) → fold (λ x j. max x (h j)) 0 (numbers a n) ≡ largest t n
  unfolding largest
  folded_max zero = refl
  folded_max (suc n) = fold_more (λ x j. max x (h j)) a n ∙ rw (folded_max n, same n)

-- a shorter sum is no larger
sum_part : (t : ℕ → ℕ) (m n : ℕ) → m ≤ n → sum t m ≤ sum t n
unfolding sum
sum_part t m zero h = let z : m ≡ 0 = omega arith in rw z (le_refl 0)
sum_part t m (suc n) h = ⊎_elim
    (λ (e : m ≡ suc n). rw e (le_refl (sum t n + t n)))
    (λ (q : m < suc n). omega (arith, sum_part t m n (omega arith)))
    (eq-or-lt_of_le h)

-- the largest, and 0 where there is none
reduced : (xs : List ℕ) → unwrap_or (reduce max xs) 0 ≡ fold max 0 xs
reduced [] = refl
reduced (x ∷ xs) = let z : x ≡ max 0 x = omega arith in ap (λ (y : ℕ). fold max y xs) z

module _ {F : Type 0} (g : Mut F (ℕ × Unit {0}) ℕ) (m : Map (Range ℕ) F) (r : Range ℕ) (f : F)
    (h t : ℕ → ℕ) (n : ℕ) (long : r.end - r.start ≡ n) (same : (k : ℕ) → h (r.start + k) ≡ t k)
    (computes : (x y : ℕ) (f' : F) → Called g f (x, tt) y f' → (f' ≡ f) × (y ≡ h x)) where
  module _ (runs : EachRunFrom (map_steps nat_range_steps g) m (λ p. SomeRun nat_range_steps r (λ q. IsMapRun p q g f))) where
    summed : (p : Run (map_steps nat_range_steps g)) → p.from ≡ m
        → (k : ℕ) × (fold (λ x y. x + y) 0 p.items ≡ sum t k) × (k ≤ n) × (p.whole ≡ true → k ≡ n)
    summed p e =
        let q = runs p p.seen e in
        let rows = range_listed q.0 q.0.seen in
        let start : q.0.from.start ≡ r.start = ap (λ (x : Range ℕ). x.start) q.1 in
        let end : q.0.from.end ≡ r.end = ap (λ (x : Range ℕ). x.end) q.1 in (
          q.0.len,
          q.2.4 (λ x y. x + y) (λ x j. x + h j) 0 (λ x y f' a k. let c = computes x y f' k in (c.0, ap (λ (z : ℕ). a + z) c.1))
              ∙ ap (fold (λ x j. x + h j) 0) (counted q.0)
              ∙ folded_sum h t q.0.from.start (λ k. ap (λ (x : ℕ). h (x + k)) start ∙ same k) q.0.len,
          omega (arith, rows.4.0, rows.2, rows.3),
          λ w. omega (arith, rows.4.1 (q.2.0 ∙ w), rows.2, rows.3),
        )

    pub sum_fits : (top : ℕ) → sum t n < top → EachRunFrom (map_steps nat_range_steps g) m (λ p. fold (λ x y. x + y) 0 p.items < top)
    sum_fits top b p _ e = let s = summed p e in omega (arith, s.1, sum_part t s.0 n s.2)

    pub sum_is : (total : ℕ) → WholeRun (map_steps nat_range_steps g) m (λ p. total ≡ fold (λ x y. x + y) 0 p.items) → total ≡ sum t n
    sum_is total w = let s = summed w.0 w.1 in w.3 ∙ s.1 ∙ ap (sum t) (s.3 w.2)

  pub max_is : (o : Option ℕ) → map_source m ≡ r → map_callee m ≡ f → PicksByCmp (map_steps nat_range_steps g) max_by_ordering nat_cmp m o
      → unwrap_or o 0 ≡ largest t n
  max_is o source callee picks =
      let all = YieldsList-from_map g h (YieldsList-from_range r.start r.end n source long) callee (λ x y f' k. computes x y f' k) in
      ap (λ (x : Option ℕ). unwrap_or x 0) (sym (option_map_id o) ∙ max_from_yields_List m o picks all)
      ∙ reduced (map h (range_with_len r.start n))
      ∙ fold-map max h 0 (range_with_len r.start n)
      ∙ ap (fold (λ x j. max x (h j)) 0) (range_is r.start n)
      ∙ folded_max h t r.start same n

-- the same over the rows above row n
module _ {F : Type 0} (g : Mut F (ℕ × Unit {0}) ℕ) (m : Map (Range ℕ) F) (f : F) (h : ℕ → ℕ) (n : ℕ)
    (computes : (x y : ℕ) (f' : F) → Called g f (x, tt) y f' → (f' ≡ f) × (y ≡ h x))
    (runs : EachRunFrom (map_steps nat_range_steps g) m (λ p. SomeRun nat_range_steps (record { start = 0; end = n }) (λ q. IsMapRun p q g f))) where
  pub above_fits : (top : ℕ) → sum h n < top → EachRunFrom (map_steps nat_range_steps g) m (λ p. fold (λ x y. x + y) 0 p.items < top)
  above_fits = sum_fits g m _ f h h n (sub-zero n) (λ k. ap h (zero-add k)) computes runs

  pub above_is : (total : ℕ) → WholeRun (map_steps nat_range_steps g) m (λ p. total ≡ fold (λ x y. x + y) 0 p.items) → total ≡ sum h n
  above_is = sum_is g m _ f h h n (sub-zero n) (λ k. ap h (zero-add k)) computes runs
