-- Laws of searches, counts and maps over the rows. Assumes nothing.
use mathlib.Core.Path.{◌≡◌, refl, ◌∙◌, ap, sym}
use mathlib.Core.Bool.{Bool, true, false, not, ◌&&◌, cond, true≢false}
use mathlib.Core.List.{List, [], ◌∷◌, ◌++◌}
use Prim.Native.Nat.{ℕ, zero, suc, ◌+◌, ◌-◌, ◌≤◌, ◌<◌}
use native.Mathlib.Omega.{arith}
use lib.Dec.{ltb}
use lib.ListN.{length, get_or, take, drop}
use lib.Seq.{drop-nil, take-nil}
use borrow.Author.Tests.{ltb-true, ltb-false}
use Rattle.std.specs.Prelude.{Some, IfSome}
use Rattle.std.specs.List.{list_all}
use Rattle.machine.specs.declared.Row.{Row}
use Rattle.machine.specs.Rows.{no_row, Found, at, none, first_from, first, or_else, map_from, every, how_many}
use Rattle.machine.specs.WellFormed.{is_blank}
use Rattle.machine.specs.OnePass.{place, found, is_none, first_kept}
use Rattle.machine.proofs.Tests.{both}

-- what a place that was found has
pub record Placed (p : ℕ → Row → Bool) (l : List Row) (j i : ℕ) : Type 0 where
  pub off : ℕ
  pub is : i ≡ j + off
  pub below : off < length l
  pub has : p i (get_or l off no_row) ≡ true

pub first_at : (p : ℕ → Row → Bool) (l : List Row) (j i : ℕ) → first_from p j l ≡ at i → Placed p l j i
unfolding first_from
first_at p [] j i h = let z : ◌≡◌ {A = ℕ} 0 1 = cc in absurd (omega arith)
first_at p (r ∷ rs) j i h = go (p j r) refl h (first_at p rs (suc j) i)
  where
    go : (x : Bool) → p j r ≡ x → cond x (at j) (first_from p (suc j) rs) ≡ at i
        → (first_from p (suc j) rs ≡ at i → Placed p rs (suc j) i) → Placed p (r ∷ rs) j i
    go true e q ih =
        let z : j ≡ i = cc in
        record { off = 0; is = omega arith; below = omega arith; has = rw (← z) e }
    go false e q ih =
        let t = ih q in
        record { off = suc t.off; is = omega arith; below = omega arith; has = t.has }

pub found_at : (p : ℕ → Row → Bool) (l : List Row) (i : ℕ) → first p l ≡ at i → (i < length l) × (p i (get_or l i no_row) ≡ true)
found_at p l i h =
    let t = first_at p l 0 i h in
    let off : t.off ≡ i = omega arith in
    (omega arith, rw off at t.has)

cond_none : (b : Bool) (j : ℕ) (x : Found) → cond b (at j) x ≡ none → (b ≡ false) × (x ≡ none)
cond_none true j x h = let z : ◌≡◌ {A = ℕ} 0 1 = cc in absurd (omega arith)
cond_none false j x h = (refl, h)

pub none_cons : (p : ℕ → Row → Bool) (i : ℕ) (r : Row) (rs : List Row) → first_from p i (r ∷ rs) ≡ none
    → (p i r ≡ false) × (first_from p (suc i) rs ≡ none)
unfolding first_from
none_cons p i r rs h = cond_none (p i r) i (first_from p (suc i) rs) h

-- none was found: p fails at each place
pub none_at : (p : ℕ → Row → Bool) (l : List Row) (j k : ℕ) → first_from p j l ≡ none → k < length l → p (j + k) (get_or l k no_row) ≡ false
none_at p [] j k h lt = absurd (omega arith)
none_at p (r ∷ rs) j zero h lt =
    let z : j + 0 ≡ j = omega arith in
    rw z (none_cons p j r rs h).0
none_at p (r ∷ rs) j (suc k) h lt =
    let z : j + suc k ≡ suc j + k = omega arith in
    rw z (none_at p rs (suc j) k (none_cons p j r rs h).1 (omega arith))

pub all_none : (p : ℕ → Row → Bool) (l : List Row) (j : ℕ) → ((k : ℕ) → k < length l → p (j + k) (get_or l k no_row) ≡ false)
    → first_from p j l ≡ none
unfolding first_from
all_none p [] j f = refl
all_none p (r ∷ rs) j f =
    let z : j + 0 ≡ j = omega arith in
    let e : p j r ≡ false = rw z at (f 0 (omega arith)) in
    rw e (all_none p rs (suc j) (λ k h. let y : j + suc k ≡ suc j + k = omega arith in rw y at (f (suc k) (omega arith))))

pub none_drop : (p : ℕ → Row → Bool) (l : List Row) (j k : ℕ) → first_from p j l ≡ none → first_from p (j + k) (drop k l) ≡ none
unfolding first_from
none_drop p l j zero h = let z : j + 0 ≡ j = omega arith in rw z h
none_drop p [] j (suc k) h = refl
none_drop p (r ∷ rs) j (suc k) h =
    let z : j + suc k ≡ suc j + k = omega arith in
    rw z (none_drop p rs (suc j) k (none_cons p j r rs h).1)

-- p holds at some place: one is found
pub some_at : (p : ℕ → Row → Bool) (l : List Row) (k : ℕ) → k < length l → p k (get_or l k no_row) ≡ true → is_none (first p l) ≡ false
some_at p l k h e = go (first p l) refl
  where
    go : (f : Found) → first p l ≡ f → is_none f ≡ false
    go (at i) q = refl
    go none q =
        let z : 0 + k ≡ k = omega arith in
        let n : p k (get_or l k no_row) ≡ false = rw z at (none_at p l 0 k q h) in
        absurd (true≢false (sym e ∙ n))

pub is_none_lem : (f : Found) → is_none f ≡ true → f ≡ none
is_none_lem (at i) h = absurd (true≢false (sym h))
is_none_lem none h = refl

-- of 32 places, a place that was found is below 32
pub below : (p : ℕ → Row → Bool) (rows : List Row) → length rows ≡ 32 → (i : ℕ) → first p rows ≡ at i → i < 32
below p rows l i e = let t = found_at p rows i e in omega arith

-- p holds of every row, in the library's word
pub every_law : (p : Row → Bool) (l : List Row) → every p l ≡ list_all p l
unfolding every
every_law p [] = refl
every_law p (r ∷ rs) = rw (every_law p rs)

-- a place, and what was found

pub found_place : (f : Found) → found (place f) ≡ f
found_place (at i) = refl
found_place none = refl

pub place_at : (f : Found) (i : ℕ) → Some i ≡ place f → f ≡ at i
place_at (at j) i h = let z : i ≡ j = cc in rw z
place_at none i h = cc

pub place_below : (p : ℕ → Row → Bool) (l : List Row) → length l ≤ 32 → IfSome (place (first p l)) (λ i. i < 32)
place_below p l h = go (first p l) refl
  where
    go : (f : Found) → first p l ≡ f → IfSome (place f) (λ i. i < 32)
    go (at i) e = let t = found_at p l i e in omega arith
    go none e = tt

-- every row of a table and every place past it, as one search
pub every_place : (p q : Row → Bool) (n i : ℕ) (l : List Row)
    → (every p (take (n - i) l) && every q (drop (n - i) l)) ≡ is_none (first_from (λ j r. not (cond (ltb j n) (p r) (q r))) i l)
unfolding every first_from
every_place p q n i [] = rw (take-nil (n - i), drop-nil (n - i))
every_place p q n i (r ∷ rs) = go (ltb i n) refl (every_place p q n (suc i) rs)
  where
    rest : Found
    rest = first_from (λ j s. not (cond (ltb j n) (p s) (q s))) (suc i) rs

    row : (b : Bool) → (every p (take (n - suc i) rs) && every q (drop (n - suc i) rs)) ≡ is_none rest
        → ((b && every p (take (n - suc i) rs)) && every q (drop (n - suc i) rs)) ≡ is_none (cond (not b) (at i) rest)
    row true e = e
    row false e = refl

    past : (b : Bool) → every q rs ≡ is_none rest → (b && every q rs) ≡ is_none (cond (not b) (at i) rest)
    past true e = e
    past false e = refl

    go : (x : Bool) → ltb i n ≡ x → (every p (take (n - suc i) rs) && every q (drop (n - suc i) rs)) ≡ is_none rest
        → (every p (take (n - i) (r ∷ rs)) && every q (drop (n - i) (r ∷ rs))) ≡ is_none (cond (not (cond (ltb i n) (p r) (q r))) (at i) rest)
    go true e ih =
        let lt = ltb-true i n e in
        let z : n - i ≡ suc (n - suc i) = omega arith in
        rw (z, e) (row (p r) ih)
    go false e ih =
        let ge = ltb-false i n e in
        let z : n - i ≡ 0 = omega arith in
        let y : n - suc i ≡ 0 = omega arith in
        rw (z, e) (past (q r) (rw y at ih))

-- the first of which p holds is found
pub is_first : (p : ℕ → Row → Bool) (l : List Row) (j k : ℕ) → k < length l → p (j + k) (get_or l k no_row) ≡ true
    → ((n : ℕ) → n < k → p (j + n) (get_or l n no_row) ≡ false) → first_from p j l ≡ at (j + k)
unfolding first_from
is_first p [] j k h e f = absurd (omega arith)
is_first p (r ∷ rs) j zero h e f =
    let z : j + 0 ≡ j = omega arith in
    let y : p j r ≡ true = rw z at e in
    rw (y, z)
is_first p (r ∷ rs) j (suc k) h e f =
    let z : j + 0 ≡ j = omega arith in
    let y : p j r ≡ false = rw z at (f 0 (omega arith)) in
    let x : j + suc k ≡ suc j + k = omega arith in
    rw (y, x)
    (is_first p rs (suc j) k (omega arith) (rw x at e)
    (λ n lt. let w : j + suc n ≡ suc j + n = omega arith in rw w at (f (suc n) (omega arith))))

-- a search over rows and those after them

first_append : (p : ℕ → Row → Bool) (j : ℕ) (l rs : List Row)
    → first_from p j (l ++ rs) ≡ or_else (first_from p j l) (first_from p (j + length l) rs)
unfolding first_from
first_append p j [] rs = let z : j + 0 ≡ j = omega arith in rw z
first_append p j (x ∷ xs) rs =
    let z : suc j + length xs ≡ j + suc (length xs) = omega arith in
    go (p j x) (rw z at (first_append p (suc j) xs rs))
  where
    end : Found
    end = first_from p (j + suc (length xs)) rs

    go : (b : Bool) → first_from p (suc j) (xs ++ rs) ≡ or_else (first_from p (suc j) xs) end
        → cond b (at j) (first_from p (suc j) (xs ++ rs)) ≡ or_else (cond b (at j) (first_from p (suc j) xs)) end
    go true e = refl
    go false e = e

-- one row more
pub place_more : (p : ℕ → Row → Bool) (l : List Row) (r : Row)
    → place (first p (l ++ (r ∷ []))) ≡ first_kept (place (first p l)) (p (length l) r) (length l)
unfolding first_from
place_more p l r =
    let z : 0 + length l ≡ length l = omega arith in
    ap place (rw z at (first_append p 0 l (r ∷ []))) ∙ go (first p l) (p (length l) r)
  where
    go : (f : Found) (b : Bool) → place (or_else f (cond b (at (length l)) none)) ≡ first_kept (place f) b (length l)
    go (at k) true = refl
    go (at k) false = refl
    go none true = refl
    go none false = refl

-- blank places after the rows
module _ (p : ℕ → Row → Bool) (fails : (i : ℕ) (r : Row) → is_blank r ≡ true → p i r ≡ false) where
  none_blank : (j : ℕ) (l : List Row) → every is_blank l ≡ true → first_from p j l ≡ none
  unfolding first_from every
  none_blank j [] h = refl
  none_blank j (r ∷ rs) h = let t = both (is_blank r) (every is_blank rs) h in rw (fails j r t.0) (none_blank (suc j) rs t.1)

  pub first_blank : (l rs : List Row) → every is_blank rs ≡ true → first p (l ++ rs) ≡ first p l
  first_blank l rs h = first_append p 0 l rs ∙ rw (none_blank (0 + length l) rs h) (go (first p l))
    where
      go : (f : Found) → or_else f none ≡ f
      go (at i) = refl
      go none = refl

-- counts

pub count_more : (p : Row → Bool) (l : List Row) (r : Row) → how_many p (l ++ (r ∷ [])) ≡ cond (p r) (suc (how_many p l)) (how_many p l)
unfolding how_many
count_more p [] r = refl
count_more p (x ∷ xs) r = go (p x) (p r) (count_more p xs r)
  where
    n : ℕ
    n = how_many p xs

    go : (b c : Bool) → how_many p (xs ++ (r ∷ [])) ≡ cond c (suc n) n
        → cond b (suc (how_many p (xs ++ (r ∷ [])))) (how_many p (xs ++ (r ∷ []))) ≡ cond c (suc (cond b (suc n) n)) (cond b (suc n) n)
    go true true e = rw e
    go true false e = rw e
    go false true e = e
    go false false e = e

pub count_take : (p : Row → Bool) (l : List Row) (k : ℕ) → how_many p (take k l) ≤ how_many p l
unfolding how_many
count_take p l zero = omega arith
count_take p [] (suc k) = omega arith
count_take p (r ∷ rs) (suc k) = go (p r) (count_take p rs k)
  where
    go : (b : Bool) → how_many p (take k rs) ≤ how_many p rs
        → cond b (suc (how_many p (take k rs))) (how_many p (take k rs)) ≤ cond b (suc (how_many p rs)) (how_many p rs)
    go true h = omega arith
    go false h = h

-- blank places after the rows
pub count_blank : (p : Row → Bool) → ((r : Row) → is_blank r ≡ true → p r ≡ false) → (l rs : List Row) → every is_blank rs ≡ true
    → how_many p (l ++ rs) ≡ how_many p l
unfolding how_many every
count_blank p fails [] [] h = refl
count_blank p fails [] (r ∷ rs) h = let t = both (is_blank r) (every is_blank rs) h in rw (fails r t.0) (count_blank p fails [] rs t.1)
count_blank p fails (x ∷ xs) rs h = rw (count_blank p fails xs rs h)

-- none or some, as a search says
module _ (p : ℕ → Row → Bool) (q : Row → Bool) (same : (i : ℕ) (r : Row) → p i r ≡ q r) where
  pub none_found : (i : ℕ) (l : List Row) → first_from p i l ≡ none → how_many q l ≡ 0
  unfolding how_many
  none_found i [] h = refl
  none_found i (r ∷ rs) h =
      let t = none_cons p i r rs h in
      rw (sym (same i r) ∙ t.0) (none_found (suc i) rs t.1)

  pub some_found : (i x : ℕ) (l : List Row) → first_from p i l ≡ at x → 1 ≤ how_many q l
  unfolding how_many first_from
  some_found i x [] h = let z : ◌≡◌ {A = ℕ} 0 1 = cc in absurd (omega arith)
  some_found i x (r ∷ rs) h = go (p i r) refl h (some_found (suc i) x rs)
    where
      go : (b : Bool) → p i r ≡ b → cond b (at i) (first_from p (suc i) rs) ≡ at x → (first_from p (suc i) rs ≡ at x → 1 ≤ how_many q rs)
          → 1 ≤ cond (q r) (suc (how_many q rs)) (how_many q rs)
      go true e k ih = rw (sym (same i r) ∙ e) (omega arith)
      go false e k ih = rw (sym (same i r) ∙ e) (ih k)

-- maps over the rows

pub map_append : (f : ℕ → Row → Row) (j : ℕ) (l rs : List Row) → map_from f j (l ++ rs) ≡ map_from f j l ++ map_from f (j + length l) rs
unfolding map_from
map_append f j [] rs = let z : j + 0 ≡ j = omega arith in rw z
map_append f j (x ∷ xs) rs =
    let z : j + suc (length xs) ≡ suc j + length xs = omega arith in
    ap (λ l. f j x ∷ l) (rw z (map_append f (suc j) xs rs))

pub map_length : (f : ℕ → Row → Row) (l : List Row) (i : ℕ) → length (map_from f i l) ≡ length l
unfolding map_from
map_length f [] i = refl
map_length f (r ∷ rs) i = ap suc (map_length f rs (suc i))

pub map_map : (f g : ℕ → Row → Row) (i : ℕ) (l : List Row) → map_from g i (map_from f i l) ≡ map_from (λ j r. g j (f j r)) i l
unfolding map_from
map_map f g i [] = refl
map_map f g i (r ∷ rs) = ap (λ x. g i (f i r) ∷ x) (map_map f g (suc i) rs)

pub map_at : (f : ℕ → Row → Row) (l : List Row) (i k : ℕ) → k < length l → get_or (map_from f i l) k no_row ≡ f (i + k) (get_or l k no_row)
unfolding map_from
map_at f [] i k h = absurd (omega arith)
map_at f (r ∷ rs) i zero h = let z : i + 0 ≡ i = omega arith in rw z
map_at f (r ∷ rs) i (suc k) h = let z : i + suc k ≡ suc i + k = omega arith in rw z (map_at f rs (suc i) k (omega arith))
