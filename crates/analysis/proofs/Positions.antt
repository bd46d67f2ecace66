-- Chains that look for the first place: what `position` gives, where the closure computes a test of the place.
-- Assumes nothing.
use mathlib.Core.Path.{◌≡◌, refl, sym, ap, subst, ◌∙◌}
use mathlib.Core.List.{List}
use mathlib.Core.Bool.{Bool, true, false}
use mathlib.Core.Logic.{⊎_elim}
use Prim.Native.Nat.{ℕ, ◌+◌, ◌*◌, ◌/◌, ◌≤◌, ◌<◌}
use native.Mathlib.Omega.{arith}
use lib.ListN.{length, get_or}
use Rattle.std.specs.Prelude.{Option, None, Some, MatchOption, IsTrue, IsSomeAnd}
use Rattle.std.specs.List.{slice_get}
use Rattle.std.specs.Iterator.Runs.{Run, SomeRun, EveryRun, AllItemsGive, IsFirstToGive, CallKeepsClosure, ItemsMapTo, IsChunksExactRun}
use Rattle.std.specs.Iterator.Adapters.{IterYieldsInOrder}
use Rattle.std.specs.Slice.Iter.{iter_rest, iter_steps}
use Rattle.std.proofs.Common.{Iter}
use denote.Ref.{Bor}
use Rattle.std.proofs.iter.runs.Made.{at-is}
use Rattle.std.proofs.lemmas.Option.{MatchOption-at_some, slice_get_cases}
use denote.Param.Members.{Mut, Called}
use Rattle.least.specs.Search.{first_where}
use Rattle.least.proofs.Where.{where_finds, where_all}

some_and : {A : Type 0} (o : Option A) (P : A → Type 0) → IsSomeAnd o P → (x : A) × (o ≡ Some x) × P x
some_and None P h = absurd h
some_and (Some x) P h = (x, refl, h)

-- one run of n items at most, whose item at k gives the test of k
module _ {S A F : Type 0} {steps : S → Option A → S → Type 0} (g : Mut F (A × Unit {0}) Bool) (f : F) (test : ℕ → Bool) (n : ℕ) where
  pub record Tests (u : Run steps) : Type 0 where
    pub upto : u.len ≤ n
    pub all : u.whole ≡ true → u.len ≡ n
    pub at : (k : ℕ) (x : A) → u.at k ≡ Some x → (b : Bool) (q : F) → Called g f (x, tt) b q → b ≡ test k

  module _ (keeps : CallKeepsClosure g f) (u : Run steps) (t : Tests u) where
    nowhere : IsTrue u.whole → AllItemsGive u g f false → None ≡ first_where test 0 n
    nowhere w h = sym (where_all test n 0 (λ k a b. ⊎_elim
        (λ (c : (x : A) × (k < length u.items) × (slice_get u.items k ≡ Some x) × (get_or u.items k x ≡ x)).
        let e : u.at k ≡ Some c.0 = at-is u k ∙ c.2 in
        sym (t.at k c.0 e false f (MatchOption-at_some _ _ c.0 e (h keeps k))))
        (λ (c : (length u.items ≤ k) × (slice_get u.items k ≡ None)). absurd (omega (arith, u.long, t.all w)))
        (slice_get_cases u.items k).1))

    somewhere : (i : ℕ) → u.len ≡ i + 1 → IsFirstToGive u g f true false i → Some i ≡ first_where test 0 n
    somewhere i l h =
        let hit = some_and _ _ (h keeps).0 in
        sym (where_finds test n 0 i (omega arith) (omega (arith, t.upto)) (sym (t.at i hit.0 hit.1 true f hit.2))
        (λ k a b. let miss = some_and _ _ ((h keeps).1 k b) in sym (t.at k miss.0 miss.1 false f miss.2)))

  pub first_is : CallKeepsClosure g f → (s : S) → ((u : Run steps) → u.from ≡ s → Tests u) → (r : Option ℕ)
      → SomeRun steps s (λ u. MatchOption r (IsTrue u.whole × AllItemsGive u g f false) (λ i. (u.len ≡ i + 1) × IsFirstToGive u g f true false i))
      → r ≡ first_where test 0 n
  first_is keeps s tests None h = nowhere keeps h.0 (tests h.0 h.1) h.2.0 h.2.1
  first_is keeps s tests (Some i) h = somewhere keeps h.0 (tests h.0 h.1) i h.2.0 h.2.1

-- xs.iter().position(..), where the closure computes t of the number
module _ {F : Type 0} (g : Mut F (Bor ℕ × Unit {0}) Bool) (f : F) (s : Iter ℕ) (xs : List ℕ) (t : ℕ → Bool) where
  pub first_number : iter_rest s ≡ xs → IterYieldsInOrder ℕ
      → ((a : Bor ℕ × Unit {0}) (b : Bool) (q : F) → Called g f a b q → (q ≡ f) × (b ≡ t a.0.now)) → (r : Option ℕ)
      → SomeRun iter_steps s (λ u. MatchOption r (IsTrue u.whole × AllItemsGive u g f false) (λ i. (u.len ≡ i + 1) × IsFirstToGive u g f true false i))
      → r ≡ first_where (λ k. t (get_or xs k 0)) 0 (length xs)
  first_number rest runs computes = first_is g f (λ k. t (get_or xs k 0)) (length xs) (λ a r q k. (computes a r q k).0) s tests
    where
      tests : (u : Run iter_steps) → u.from ≡ s → Tests g f (λ k. t (get_or xs k 0)) (length xs) u
      tests u e =
          let z : iter_rest u.from ≡ xs = ap iter_rest e ∙ rest in
          let r : ItemsMapTo u (λ y. y.now) xs = subst (ItemsMapTo u (λ y. y.now)) z (runs u u.seen) in
          record {
            upto = r.0;
            all = r.1;
            at = λ k x y b q m. (computes (x, tt) b q m).1 ∙ ap t (MatchOption-at_some _ _ x y (r.3 k) 0);
          }

-- xs.chunks_exact(4).position(..), where the closure computes t of the row
module _ {S F : Type 0} {steps : S → Option (Bor (List ℕ)) → S → Type 0} (left : S → List ℕ) (size : S → ℕ)
    (g : Mut F (Bor (List ℕ) × Unit {0}) Bool) (f : F) (s : S) (xs : List ℕ) (t : List ℕ → Bool) (test : ℕ → Bool) where
  pub first_row : left s ≡ xs → size s ≡ 4 → EveryRun steps (λ p. 0 < size p.from → IsChunksExactRun p (size p.from) (left p.from))
      → ((k : ℕ) (row : List ℕ) → ((j : ℕ) → j < 4 → get_or row j 0 ≡ get_or xs (4 * k + j) 0) → t row ≡ test k)
      → ((a : Bor (List ℕ) × Unit {0}) (b : Bool) (q : F) → Called g f a b q → (q ≡ f) × (b ≡ t a.0.now)) → (r : Option ℕ)
      → SomeRun steps s (λ u. MatchOption r (IsTrue u.whole × AllItemsGive u g f false) (λ i. (u.len ≡ i + 1) × IsFirstToGive u g f true false i))
      → r ≡ first_where test 0 (length xs / 4)
  first_row rest fours runs same computes = first_is g f test (length xs / 4) (λ a r q k. (computes a r q k).0) s tests
    where
      tests : (u : Run steps) → u.from ≡ s → Tests g f test (length xs / 4) u
      tests u e =
          let z : left u.from ≡ xs = ap left e ∙ rest in
          let w : size u.from ≡ 4 = ap size e ∙ fours in
          let r : IsChunksExactRun u 4 xs =
          subst (λ (n : ℕ). IsChunksExactRun u n xs) w (subst (IsChunksExactRun u (size u.from)) z (runs u u.seen (omega arith))) in
          record {
            upto = omega (arith, r.0);
            all = r.1;
            at = λ k x y b q m.
                let part = (MatchOption-at_some _ _ x y (r.2 k)).2 in
                (computes (x, tt) b q m).1
                ∙ same k x.now (λ j h. let i : k * 4 + j ≡ 4 * k + j = omega arith in part.2 j 0 h ∙ ap (λ (n : ℕ). get_or xs n 0) i);
          }
