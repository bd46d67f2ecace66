-- What a search from the front finds, in the words of the definitions: the first place at which a test passes.
-- Assumes nothing.
use mathlib.Core.Path.{◌≡◌, sym, ◌∙◌}
use mathlib.Core.Bool.{Bool, true, false}
use mathlib.Core.List.{List}
use denote.Param.Members.{Mut}
use denote.Ref.{Bor}
use Rattle.std.specs.Prelude.{Option, None, Some, MatchOption, ⊤}
use Rattle.std.specs.declared.ops.Range.{Range}
use Rattle.std.specs.declared.slice.Iter.{Iter}
use Rattle.std.specs.Fn.{Called, CalledAt}
use Rattle.std.specs.Slice.Iter.{iter_rest}
use Rattle.std.specs.Iterator.{YieldsThen}
use Rattle.std.specs.List.{FoldsTo, AllWithin, HoldsAt}
use Rattle.std.proofs.iter.Yields.{fronts, nat_range_steps}
use Rattle.std.proofs.lemmas.Iterator.{first_from_Range, IsFirst-from_position, YieldsList-from_slice}
use Prim.Native.Nat.{ℕ, ◌≤◌, ◌<◌}
use lib.ListN.{length, get_or}
use native.Mathlib.Omega.{arith}
use Rattle.least.specs.Search.{first_where}
use Rattle.least.proofs.Where.{where_all, where_finds}

-- `find` over the numbers below n, where its closure computes the test
module _ {F : Type 0} {g : Mut F (Bor ℕ × Unit {0}) Bool} (test : ℕ → Bool) (s u : Range ℕ) (f : F) (r : Option ℕ) (n : ℕ) where
  pub first_of_find : s.start ≡ 0 → s.end ≡ n
      → (xs : List ℕ) × (j : F) × YieldsThen nat_range_steps s xs r u × FoldsTo (λ p x q. CalledAt g p x false q) f xs j
      × MatchOption r ⊤ (λ x. (h : F) × CalledAt g j x true h)
      → ((x : ℕ) (b : Bool) (q : F) → CalledAt g f x b q → (q ≡ f) × (b ≡ test x)) → r ≡ first_where test 0 n
  first_of_find from to ran answers =
      go r (first_from_Range s u f r (λ i. test i ≡ true) (λ i. test i ≡ false) ran (λ x q k. sym (answers x true q k).1)
      (λ x q k. ((answers x false q k).0, sym (answers x false q k).1)))
    where
      go : (o : Option ℕ) → MatchOption o ((k : ℕ) → s.start ≤ k → k < s.end → test k ≡ false)
          (λ i. (s.start ≤ i) × (i < s.end) × (test i ≡ true) × ((k : ℕ) → s.start ≤ k → k < i → test k ≡ false))
          → o ≡ first_where test 0 n
      go None h = sym (where_all test n 0 (λ v a b. h v (omega arith) (omega arith)))
      go (Some i) h = sym (where_finds test n 0 i (omega arith) (omega (arith, h.1)) h.2 (λ v a b. h.3 v (omega arith) b))

-- `position` over a list, where its closure computes p, and p of an element is the test at its place
module _ {X F : Type 0} {g : Mut F (Bor X × Unit {0}) Bool} (p : X → Bool) (test : ℕ → Bool) (xs : List X) (d : X) (n : ℕ)
    (s u : Iter X) (f : F) (r : Option ℕ) where
  pub first_of_position : iter_rest s ≡ xs → length xs ≡ n → ((k : ℕ) → k < n → p (get_or xs k d) ≡ test k)
      → (ys : List (Bor X)) × (o : Option (Bor X)) × (j : F) × YieldsThen fronts s ys o u × FoldsTo (λ q x t. Called g q (x, tt) false t) f ys j
      × MatchOption o (r ≡ None) (λ x. (r ≡ Some (length ys)) × ((h : F) × Called g j (x, tt) true h))
      → ((x : Bor X) (b : Bool) (q : F) → Called g f (x, tt) b q → (q ≡ f) × (b ≡ p x.now)) → r ≡ first_where test 0 n
  first_of_position rest long same ran answers =
      go r (IsFirst-from_position u f r (λ x. p x ≡ true) (λ x. p x ≡ false) ran (YieldsList-from_slice xs rest) (λ x q k. sym (answers x true q k).1)
      (λ x q k. ((answers x false q k).0, sym (answers x false q k).1)))
    where
      go : (o : Option ℕ) → MatchOption o (AllWithin (λ x. p x ≡ false) xs 0 (length xs))
          (λ i. (i < length xs) × HoldsAt (λ x. p x ≡ true) xs i × AllWithin (λ x. p x ≡ false) xs 0 i)
          → o ≡ first_where test 0 n
      go None h = sym (where_all test n 0 (λ v a b. sym (same v (omega arith)) ∙ h v d (omega arith) (omega arith)))
      go (Some i) h =
          sym
          (where_finds test n 0 i (omega arith) (omega (arith, h.0)) (sym (same i (omega (arith, h.0))) ∙ h.1 d)
          (λ v a b. sym (same v (omega (arith, h.0))) ∙ h.2 v d (omega arith) b))
