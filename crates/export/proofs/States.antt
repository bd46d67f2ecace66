-- Laws of a machine as 258 numbers.
-- Assumes nothing.
use mathlib.Core.Path.{◌≡◌, refl, sym, ap, ◌∙◌}
use mathlib.Core.Bool.{Bool, true, false, cond, true≢false}
use mathlib.Core.List.{List, [], ◌∷◌, ◌++◌, append-nil, append_assoc}
use Rattle.std.specs.Prelude.{Option, None, Some}
use Prim.Native.Nat.{ℕ, zero, suc, ◌+◌, ◌-◌, ◌*◌, ◌/◌, ◌≤◌, ◌<◌}
use native.Mathlib.Nat.{lt_irrefl, mul-zero, mul-suc}
use native.Mathlib.Omega.{arith}
use borrow.Author.Count.{below_more}
use borrow.Author.Tests.{lt-ltb, le-ltb, ltb-false, leb-false}
use borrow.Rule.Slice.PartMut.{mid_of, put_mid}
use lib.Dec.{leb, ltb}
use lib.ListN.{length, get_or, set, take, drop, replicate, length-drop, drop_of_length-le}
use lib.Seq.{length-take-le, get_or-drop, get_or-take, drop-drop}
use Rattle.std.specs.Simd.{first_chunks}
use Rattle.least.specs.Search.{first_where}
use Rattle.least.specs.Lists.{list_of, flat}
use Rattle.least.proofs.Lists.{block_after, fill_more}
use Rattle.least.proofs.Where.{where_none, where_finds, where_all}
use Rattle.machine.specs.Rows.{no_row}
use Rattle.machine.specs.declared.Row.{Row}
use Rattle.machine.specs.declared.Machine.{Machine}
use Rattle.plan.proofs.Tests.{or_inv}
use Rattle.export.specs.Inside.{row_told}
use Rattle.export.specs.State.{place_numbers, state_of, number_in, row_in, machine_in, stray, unreadable, is_none, readable, read_of}

-- ## To numbers

-- the count and the clock, and no row written yet
pub rows_none : (s : List ℕ) (m : Machine) → length s ≡ 258
    → set (set s 0 m.count) 1 m.clock ≡ (m.count ∷ m.clock ∷ []) ++ flat (place_numbers m.rows) 0 ++ drop (2 + 8 * 0) s
unfolding flat
rows_none [] m h = absurd (lt_irrefl 0 (omega arith))
rows_none (x ∷ []) m h = absurd (lt_irrefl 0 (omega arith))
rows_none (x ∷ y ∷ s) m h = refl

-- one row more
pub row_more : (m : Machine) (s out row : List ℕ) (i : ℕ) → row ≡ place_numbers m.rows i
    → out ≡ (m.count ∷ m.clock ∷ []) ++ flat (place_numbers m.rows) i ++ drop (2 + 8 * i) s
    → put_mid (2 + 8 * i) (2 + 8 * i + 8 - (2 + 8 * i)) out row
    ≡ (m.count ∷ m.clock ∷ []) ++ flat (place_numbers m.rows) (i + 1) ++ drop (2 + 8 * (i + 1)) s
row_more m s out row i r e =
    let w : 2 + 8 * i + 8 - (2 + 8 * i) ≡ 8 = omega arith in
    ap (λ (n : ℕ). take (2 + 8 * i) out ++ (row ++ drop n (drop (2 + 8 * i) out))) w
    ∙ ap (λ (l : List ℕ). take (2 + 8 * i) out ++ (l ++ drop 8 (drop (2 + 8 * i) out))) r
    ∙ ap (λ (l : List ℕ). take (2 + 8 * i) out ++ (place_numbers m.rows i ++ l)) (drop-drop 8 (2 + 8 * i) out)
    ∙ sym (append_assoc (take (2 + 8 * i) out) (place_numbers m.rows i) (drop (2 + 8 * i + 8) out))
    ∙ block_after (m.count ∷ m.clock ∷ []) 2 refl (place_numbers m.rows) 8 (λ k. refl) s out i e

pub rows_all : (m : Machine) (s out : List ℕ) (i : ℕ) → length s ≡ 258 → i ≡ 32
    → out ≡ (m.count ∷ m.clock ∷ []) ++ flat (place_numbers m.rows) i ++ drop (2 + 8 * i) s → out ≡ state_of m
unfolding state_of
rows_all m s out i h z e =
    e
    ∙ ap (λ (n : ℕ). (m.count ∷ m.clock ∷ []) ++ flat (place_numbers m.rows) n ++ drop (2 + 8 * n) s) z
    ∙ ap (λ (l : List ℕ). (m.count ∷ m.clock ∷ []) ++ flat (place_numbers m.rows) 32 ++ l) (drop_of_length-le s {i = 2 + 8 * 32} (omega arith))
    ∙ ap (λ (l : List ℕ). (m.count ∷ m.clock ∷ []) ++ l) (append-nil (flat (place_numbers m.rows) 32))

-- ## From numbers

-- a place that can be read has fields of 32 bits, a stage, and no number without a use
pub record Fields (l : List ℕ) (i : ℕ) : Type 0 where
  pub t_fits : number_in l i 0 < 4294967296
  pub d_fits : number_in l i 1 < 4294967296
  pub c_fits : number_in l i 2 < 4294967296
  pub k_fits : number_in l i 3 < 4294967296
  pub e_fits : number_in l i 4 < 4294967296
  pub stage_known : number_in l i 5 ≤ 3
  pub none_stray : stray (number_in l i 5) (number_in l i 6) (number_in l i 7) ≡ false

pub fields : (l : List ℕ) (i : ℕ) → unreadable l i ≡ false → Fields l i
unfolding unreadable
fields l i h =
    let a = or_inv (leb 4294967296 (number_in l i 0)) _ h in
    let b = or_inv (leb 4294967296 (number_in l i 1)) _ a.1 in
    let c = or_inv (leb 4294967296 (number_in l i 2)) _ b.1 in
    let d = or_inv (leb 4294967296 (number_in l i 3)) _ c.1 in
    let e = or_inv (leb 4294967296 (number_in l i 4)) _ d.1 in
    let f = or_inv (ltb 3 (number_in l i 5)) _ e.1 in
    record {
      t_fits = leb-false 4294967296 (number_in l i 0) a.0;
      d_fits = leb-false 4294967296 (number_in l i 1) b.0;
      c_fits = leb-false 4294967296 (number_in l i 2) c.0;
      k_fits = leb-false 4294967296 (number_in l i 3) d.0;
      e_fits = leb-false 4294967296 (number_in l i 4) e.0;
      stage_known = ltb-false 3 (number_in l i 5) f.0;
      none_stray = f.1;
    }

pub too_few : (l : List ℕ) → length l < 258 → false ≡ readable l
unfolding readable
too_few l h = rw (lt-ltb _ _ h)

pub one_unreadable : (l : List ℕ) (k : ℕ) → 258 ≤ length l → first_where (unreadable l) 0 32 ≡ Some k → false ≡ readable l
unfolding readable
one_unreadable l k h e = rw (le-ltb _ _ h, e)

pub all_readable : (l : List ℕ) → 258 ≤ length l → first_where (unreadable l) 0 32 ≡ None → true ≡ readable l
unfolding readable
all_readable l h e = rw (le-ltb _ _ h, e)

-- what can be read is long enough, and each of its places can be read
pub record Readable (l : List ℕ) : Type 0 where
  pub long : 258 ≤ length l
  pub places : (i : ℕ) → i < 32 → unreadable l i ≡ false

pub can_read : (l : List ℕ) → readable l ≡ true → Readable l
unfolding readable
can_read l e = go (ltb (length l) 258) refl (first_where (unreadable l) 0 32) refl e
  where
    go : (b : Bool) → ltb (length l) 258 ≡ b → (o : Option ℕ) → first_where (unreadable l) 0 32 ≡ o
        → cond b false (is_none o) ≡ true → Readable l
    go true p o q e = absurd (true≢false (sym e))
    go false p None q e =
        record { long = ltb-false (length l) 258 p; places = λ i h. where_none (unreadable l) 32 0 q i (omega arith) (omega arith) }
    go false p (Some k) q e = absurd (true≢false (sym e))

-- ## A place by itself

some_not : {A : Type 0} (a : A) → Some a ≡ None → ⊥
some_not a e = cc

some_same : {A : Type 0} (a b : A) → Some a ≡ Some b → a ≡ b
some_same a b e = cc

-- places with the same eight numbers
same_place : (l m : List ℕ) (i j : ℕ) → ((k : ℕ) → k < 8 → number_in l i k ≡ number_in m j k)
    → (unreadable l i ≡ unreadable m j) × (row_in l i ≡ row_in m j)
unfolding unreadable row_in
same_place l m i j h =
    rw (
      h 0 (omega arith),
      h 1 (omega arith),
      h 2 (omega arith),
      h 3 (omega arith),
      h 4 (omega arith),
      h 5 (omega arith),
      h 6 (omega arith),
      h 7 (omega arith),
    )
    (refl, refl)

-- chunk i of n numbers
chunk_at : (n k i : ℕ) (l : List ℕ) → i < k → get_or (first_chunks n k l) i [] ≡ take n (drop (n * i) l)
chunk_at n zero i l h = absurd (lt_irrefl 0 (omega arith))
chunk_at n (suc k) zero l h = rw (mul-zero n)
chunk_at n (suc k) (suc i) l h =
    let e : n + n * i ≡ n * suc i = omega (arith, mul-suc n i) in
    chunk_at n k i (drop n l) (omega arith) ∙ ap (take n) (drop-drop (n * i) n l) ∙ ap (λ (x : ℕ). take n (drop x l)) e

-- place i of 258 numbers, as the code takes it out of them
place_number : (l : List ℕ) (p : List (List ℕ)) (i k : ℕ) → length l ≡ 258 → i < 32 → k < 8
    → p ≡ first_chunks 8 (length (mid_of 2 256 l) / 8) (mid_of 2 256 l)
    → number_in (0 ∷ 0 ∷ get_or p i []) 0 k ≡ number_in l i k
place_number l p i k h a b e =
    let m : List ℕ = mid_of 2 256 l in
    let z : 2 + 8 * 0 + k ≡ suc (suc k) = omega arith in
    let y : 2 + (8 * i + k) ≡ 2 + 8 * i + k = omega arith in
    let long : length m / 8 ≡ 32 = omega (arith, length-take-le 256 (drop 2 l) (omega (arith, length-drop 2 l))) in
    ap (λ (x : ℕ). get_or (0 ∷ 0 ∷ get_or p i []) x 0) z
    ∙ ap (λ (q : List (List ℕ)). get_or (get_or q i []) k 0) e
    ∙ ap (λ (q : List ℕ). get_or q k 0) (chunk_at 8 (length m / 8) i m (omega (arith, long)))
    ∙ get_or-take 8 (drop (8 * i) m) k 0 b
    ∙ get_or-drop (8 * i) m k 0
    ∙ get_or-take 256 (drop 2 l) (8 * i + k) 0 (omega arith)
    ∙ get_or-drop 2 l (8 * i + k) 0
    ∙ ap (λ (x : ℕ). get_or l x 0) y

pub place_told : (l : List ℕ) (p : List (List ℕ)) (i : ℕ) → length l ≡ 258 → i < 32
    → p ≡ first_chunks 8 (length (mid_of 2 256 l) / 8) (mid_of 2 256 l)
    → row_told (get_or p i []) ≡ cond (unreadable l i) None (Some (row_in l i))
place_told l p i h a e =
    let s = same_place (0 ∷ 0 ∷ get_or p i []) l 0 i (λ k b. place_number l p i k h a b e) in
    rw (s.0, s.1)

-- ## All of it

-- what was read of the places before i
pub record Before (l : List ℕ) (i : ℕ) (rows : List Row) : Type 0 where
  pub filled : rows ≡ list_of (row_in l) i ++ replicate (32 - i) no_row
  pub passed : (k : ℕ) → k < i → unreadable l k ≡ false

pub before_none : (l : List ℕ) (r : Row) → r ≡ no_row → Before l 0 (replicate 32 r)
unfolding list_of
before_none l r e = record { filled = ap (replicate 32) e; passed = λ k h. absurd (lt_irrefl 0 (omega arith)) }

pub before_more : (l : List ℕ) (i : ℕ) (rows : List Row) (r : Row) → i < 32 → Before l i rows
    → Some r ≡ cond (unreadable l i) None (Some (row_in l i)) → Before l (i + 1) (set rows i r)
before_more l i rows r h b e = go (unreadable l i) refl e
  where
    go : (t : Bool) → unreadable l i ≡ t → Some r ≡ cond t None (Some (row_in l i)) → Before l (i + 1) (set rows i r)
    go true p q = absurd (some_not r q)
    go false p q =
        record {
          filled = ap (λ (x : List Row). set x i r) b.filled
              ∙ ap (λ (x : Row). set (list_of (row_in l) i ++ replicate (32 - i) no_row) i x) (some_same r (row_in l i) q)
              ∙ fill_more (row_in l) no_row 32 i h;
          passed = below_more (λ (k : ℕ). unreadable l k ≡ false) i b.passed p;
        }

pub read_not : (l : List ℕ) (i : ℕ) (rows : List Row) → i < 32 → 258 ≤ length l → Before l i rows
    → None ≡ cond (unreadable l i) None (Some (row_in l i)) → None ≡ read_of l
unfolding read_of
read_not l i rows h g b e = go (unreadable l i) refl e
  where
    go : (t : Bool) → unreadable l i ≡ t → None ≡ cond t None (Some (row_in l i)) → None ≡ cond (readable l) (Some (machine_in l)) None
    go true p q =
        let r = one_unreadable l i g (where_finds (unreadable l) 32 0 i (omega arith) (omega arith) p (λ v x y. b.passed v y)) in
        rw (← r)
    go false p q = absurd (some_not (row_in l i) (sym q))

pub read_all : (l : List ℕ) (i : ℕ) (rows : List Row) → i ≡ 32 → 258 ≤ length l → Before l i rows
    → Some (record { rows = rows; count = get_or l 0 0; clock = get_or l 1 0 }) ≡ read_of l
unfolding read_of machine_in
read_all l i rows z g b =
    let r = all_readable l g (where_all (unreadable l) 32 0 (λ v x y. b.passed v (omega arith))) in
    let e : rows ≡ list_of (row_in l) 32 =
    b.filled ∙ ap (λ (x : ℕ). list_of (row_in l) x ++ replicate (32 - x) no_row) z ∙ append-nil (list_of (row_in l) 32) in
    rw (← r, e)

-- what was read, or not
pub read_none : (l : List ℕ) → read_of l ≡ None → readable l ≡ false
unfolding read_of
read_none l e = go (readable l) refl e
  where
    go : (b : Bool) → readable l ≡ b → cond b (Some (machine_in l)) None ≡ None → readable l ≡ false
    go true p q = absurd cc
    go false p q = p

pub read_some : (l : List ℕ) (m : Machine) → read_of l ≡ Some m → (readable l ≡ true) × (m ≡ machine_in l)
unfolding read_of
read_some l m e = go (readable l) refl e
  where
    go : (b : Bool) → readable l ≡ b → cond b (Some (machine_in l)) None ≡ Some m → (readable l ≡ true) × (m ≡ machine_in l)
    go true p q = (p, cc)
    go false p q = absurd cc

-- ## The front of longer numbers

where_same : (p q : ℕ → Bool) (n lo : ℕ) → ((k : ℕ) → lo ≤ k → k < lo + n → p k ≡ q k) → first_where p lo n ≡ first_where q lo n
unfolding first_where
where_same p q zero lo h = refl
where_same p q (suc n) lo h =
    rw (h lo (omega arith) (omega arith), where_same p q n (suc lo) (λ k a b. h k (omega arith) (omega arith)))

list_same : {A : Type 0} (f g : ℕ → A) (n : ℕ) → ((k : ℕ) → k < n → f k ≡ g k) → list_of f n ≡ list_of g n
unfolding list_of
list_same f g zero h = refl
list_same f g (suc n) h = rw (list_same f g n (λ k b. h k (omega arith)), h n (omega arith))

front_place : (l : List ℕ) (i : ℕ) → i < 32 → (unreadable (take 258 l) i ≡ unreadable l i) × (row_in (take 258 l) i ≡ row_in l i)
front_place l i h = same_place (take 258 l) l i i (λ k b. get_or-take 258 l (2 + 8 * i + k) 0 (omega arith))

pub read_front : (l f : List ℕ) → 258 ≤ length l → f ≡ take 258 l → read_of f ≡ read_of l
unfolding read_of readable machine_in
read_front l f h e =
    let t : ltb (length (take 258 l)) 258 ≡ ltb (length l) 258 =
    ap (λ (n : ℕ). ltb n 258) (length-take-le 258 l h) ∙ sym (le-ltb _ _ h) in
    ap read_of e
    ∙ rw (
      t,
      where_same (unreadable (take 258 l)) (unreadable l) 32 0 (λ k a b. (front_place l k (omega arith)).0),
      list_same (row_in (take 258 l)) (row_in l) 32 (λ k b. (front_place l k b).1),
      get_or-take 258 l 0 0 (omega arith),
      get_or-take 258 l 1 0 (omega arith),
    )

pub read_short : (l : List ℕ) → length l < 258 → None ≡ read_of l
unfolding read_of
read_short l h = rw (sym (too_few l h))
