-- A number's four bytes read back are the number, and the bytes of a number that was read are the bytes it was read from.
-- Assumes nothing.
use mathlib.Core.Path.{◌≡◌, refl, sym, ap, ◌∙◌}
use mathlib.Core.List.{List, [], ◌∷◌, ◌++◌}
use Prim.Native.Nat.{ℕ, zero, suc, ◌+◌, ◌*◌, ◌/◌, ◌%◌, ◌≤◌, ◌<◌}
use native.Mathlib.Nat.{div-div-eq-div-mul, mod-eq_of_lt, lt_irrefl}
use native.Mathlib.Numerals.{add-one}
use native.Mathlib.Omega.{arith}
use lib.Arith.{digits_div, digits_mod}
use lib.ListN.{length, get_or, take, drop}
use lib.Seq.{drop-cons, take-add, take-suc, take_all, drop_at, get_or-drop}
use Rattle.least.specs.Lists.{list_of}
use Rattle.plan.specs.Numbers.{number_at, bytes_of, table_bytes, numbers_in, table_of, AllBelow}

-- a number by its four digits to the base 256
digits : (x : ℕ) → x < 4294967296 → x % 256 + 256 * (x / 256 % 256) + 65536 * (x / 65536 % 256) + 16777216 * (x / 16777216 % 256) ≡ x
digits x h =
    let e2 : x / 65536 ≡ x / 256 / 256 = sym (div-div-eq-div-mul x 256 256) in
    let e3 : x / 16777216 ≡ x / 256 / 256 / 256 = sym (div-div-eq-div-mul x 65536 256) ∙ ap (λ (y : ℕ). y / 256) e2 in
    let b1 : x / 256 < 16777216 = omega arith in
    let b2 : x / 256 / 256 < 65536 = omega arith in
    let b3 : x / 256 / 256 / 256 < 256 = omega arith in
    let m3 : x / 256 / 256 / 256 % 256 ≡ x / 256 / 256 / 256 = mod-eq_of_lt b3 in
    let d0 : x ≡ x % 256 + 256 * (x / 256) = omega arith in
    let d1 : x / 256 ≡ x / 256 % 256 + 256 * (x / 256 / 256) = omega arith in
    let d2 : x / 256 / 256 ≡ x / 256 / 256 % 256 + 256 * (x / 256 / 256 / 256) = omega arith in
    rw (e2, e3, m3) (sum4 _ _ _ _ _ _ d0 d1 d2)
  where
    sum4 : (a b c q1 q2 q3 : ℕ) → x ≡ a + 256 * q1 → q1 ≡ b + 256 * q2 → q2 ≡ c + 256 * q3 → a + 256 * b + 65536 * c + 16777216 * q3 ≡ x
    sum4 a b c q1 q2 q3 f g h = omega arith

-- read what was written, in front of anything
pub number_front : (x : ℕ) (rest : List ℕ) → x < 4294967296 → number_at (bytes_of x ++ rest) 0 ≡ x
unfolding number_at
number_front x rest h = digits x h

pub number_drop : (f : List ℕ) (k j : ℕ) → number_at (drop k f) j ≡ number_at f (k + j)
unfolding number_at
number_drop f k j =
    let e1 : k + (j + 1) ≡ k + j + 1 = omega arith in
    let e2 : k + (j + 2) ≡ k + j + 2 = omega arith in
    let e3 : k + (j + 3) ≡ k + j + 3 = omega arith in
    rw (get_or-drop k f j 0, get_or-drop k f (j + 1) 0, get_or-drop k f (j + 2) 0, get_or-drop k f (j + 3) 0, e1, e2, e3)

-- and anywhere
pub number_at_lem : (p : List ℕ) (x : ℕ) (rest : List ℕ) (k : ℕ) → length p ≡ k → x < 4294967296 → number_at (p ++ (bytes_of x ++ rest)) k ≡ x
number_at_lem p x rest k e h =
    let z : k + 0 ≡ k = omega arith in
    ap (number_at (p ++ (bytes_of x ++ rest))) (sym z)
    ∙ sym (number_drop (p ++ (bytes_of x ++ rest)) k 0)
    ∙ ap (λ (l : List ℕ). number_at l 0) (drop_at p (bytes_of x ++ rest) k e)
    ∙ number_front x rest h

-- write what was read
write_read : (a b c d : ℕ) → a < 256 → b < 256 → c < 256 → d < 256
    → bytes_of (a + 256 * b + 65536 * c + 16777216 * d) ≡ (a ∷ b ∷ c ∷ d ∷ [])
write_read a b c d ha hb hc hd =
    let n : ℕ = a + 256 * b + 65536 * c + 16777216 * d in
    let q1 : ℕ = b + 256 * c + 65536 * d in
    let q2 : ℕ = c + 256 * d in
    let f1 : n ≡ q1 * 256 + a = omega arith in
    let f2 : q1 ≡ q2 * 256 + b = omega arith in
    let f3 : q2 ≡ d * 256 + c = omega arith in
    let e0 : n % 256 ≡ a = ap (λ (x : ℕ). x % 256) f1 ∙ digits_mod q1 ha in
    let g1 : n / 256 ≡ q1 = ap (λ (x : ℕ). x / 256) f1 ∙ digits_div q1 ha in
    let e1 : n / 256 % 256 ≡ b = ap (λ (x : ℕ). x % 256) (g1 ∙ f2) ∙ digits_mod q2 hb in
    let g2 : n / 65536 ≡ q2 = sym (div-div-eq-div-mul n 256 256) ∙ ap (λ (x : ℕ). x / 256) (g1 ∙ f2) ∙ digits_div q2 hb in
    let e2 : n / 65536 % 256 ≡ c = ap (λ (x : ℕ). x % 256) (g2 ∙ f3) ∙ digits_mod d hc in
    let g3 : n / 16777216 ≡ d = sym (div-div-eq-div-mul n 65536 256) ∙ ap (λ (x : ℕ). x / 256) (g2 ∙ f3) ∙ digits_div d hc in
    let e3 : n / 16777216 % 256 ≡ d = ap (λ (x : ℕ). x % 256) g3 ∙ mod-eq_of_lt hd in
    rw (e0, e1, e2, e3)

-- one byte more of a list
more : (f : List ℕ) (k j j' : ℕ) → suc j ≡ j' → k + j < length f → drop (k + j) f ≡ get_or f (k + j) 0 ∷ drop (k + j') f
more f k j j' e h =
    let z : suc (k + j) ≡ k + j' = omega arith in
    drop-cons f (k + j) 0 h ∙ ap (λ (x : ℕ). get_or f (k + j) 0 ∷ drop x f) z

pub take_four : (f : List ℕ) (k : ℕ) → k + 4 ≤ length f
    → take 4 (drop k f) ≡ (get_or f k 0 ∷ get_or f (k + 1) 0 ∷ get_or f (k + 2) 0 ∷ get_or f (k + 3) 0 ∷ [])
take_four f k h =
    rw d0 (rw (more f k 1 2 refl (omega arith)) (rw (more f k 2 3 refl (omega arith)) (rw (more f k 3 4 refl (omega arith)))))
  where
    d0 : drop k f ≡ get_or f k 0 ∷ drop (k + 1) f
    d0 = drop-cons f k 0 (omega arith) ∙ ap (λ (x : ℕ). get_or f k 0 ∷ drop x f) (sym (add-one k))

-- the number at any place of a list of bytes, written again
pub four : (f : List ℕ) (k : ℕ) → k + 4 ≤ length f → AllBelow 256 f → bytes_of (number_at f k) ≡ take 4 (drop k f)
unfolding number_at
four f k h b =
    write_read (get_or f k 0) (get_or f (k + 1) 0) (get_or f (k + 2) 0) (get_or f (k + 3) 0)
    (b k (omega arith)) (b (k + 1) (omega arith)) (b (k + 2) (omega arith)) (b (k + 3) (omega arith))
    ∙ sym (take_four f k h)

-- TABLES
pub table_length : (t : List ℕ) → length (table_bytes t) ≡ 4 * length t
unfolding table_bytes
table_length [] = refl
table_length (x ∷ xs) = omega (arith, table_length xs)

pub table_append : (xs ys : List ℕ) → table_bytes (xs ++ ys) ≡ table_bytes xs ++ table_bytes ys
unfolding table_bytes
table_append [] ys = refl
table_append (x ∷ xs) ys = ap (λ (r : List ℕ). bytes_of x ++ r) (table_append xs ys)

-- fours of bytes, read and written again
bytes_again : (f : List ℕ) → AllBelow 256 f → (n : ℕ) → 4 * n ≤ length f → table_bytes (numbers_in f n) ≡ take (4 * n) f
unfolding table_bytes list_of
bytes_again f b zero h = refl
bytes_again f b (suc n) h =
    let z : 4 * n + 4 ≡ 4 * suc n = omega arith in
    table_append (numbers_in f n) (number_at f (4 * n) ∷ [])
    ∙ ap (λ (r : List ℕ). r ++ bytes_of (number_at f (4 * n))) (bytes_again f b n (omega arith))
    ∙ ap (λ (r : List ℕ). take (4 * n) f ++ r) (four f (4 * n) (omega arith) b)
    ∙ sym (take-add (4 * n) 4 f)
    ∙ ap (λ (x : ℕ). take x f) z

pub table_again : (f : List ℕ) → AllBelow 256 f → length f % 4 ≡ 0 → table_bytes (table_of f) ≡ f
table_again f b h = bytes_again f b (length f / 4) (omega arith) ∙ take_all (4 * (length f / 4)) f (omega arith)

-- a table, written and read again
number_in_table : (t : List ℕ) (k : ℕ) → k < length t → AllBelow 4294967296 t → number_at (table_bytes t) (4 * k) ≡ get_or t k 0
unfolding table_bytes
number_in_table [] k h b = absurd (lt_irrefl 0 (omega arith))
number_in_table (x ∷ xs) zero h b = number_front x (table_bytes xs) (b 0 (omega arith))
number_in_table (x ∷ xs) (suc k) h b =
    let z : 4 * suc k ≡ 4 + 4 * k = omega arith in
    ap (number_at (bytes_of x ++ table_bytes xs)) z
    ∙ sym (number_drop (bytes_of x ++ table_bytes xs) 4 (4 * k))
    ∙ number_in_table xs k (omega arith) (λ j q. b (suc j) (omega arith))

numbers_again : (t : List ℕ) → AllBelow 4294967296 t → (n : ℕ) → n ≤ length t → numbers_in (table_bytes t) n ≡ take n t
unfolding list_of
numbers_again t b zero h = refl
numbers_again t b (suc n) h =
    ap (λ (r : List ℕ). r ++ (number_at (table_bytes t) (4 * n) ∷ [])) (numbers_again t b n (omega arith))
    ∙ ap (λ (x : ℕ). take n t ++ (x ∷ [])) (number_in_table t n h b)
    ∙ sym (take-suc t n 0 h)

pub numbers_again_all : (t : List ℕ) → AllBelow 4294967296 t → table_of (table_bytes t) ≡ t
numbers_again_all t b =
    let z : length (table_bytes t) / 4 ≡ length t = omega (arith, table_length t) in
    ap (numbers_in (table_bytes t)) z ∙ numbers_again t b (length t) (omega arith) ∙ take_all (length t) t (omega arith)
