-- The records of a script that is not refused, as values, say all of its bytes.
-- Assumes nothing.
use mathlib.Core.Path.{◌≡◌, refl, sym, ap, ◌∙◌}
use mathlib.Core.Bool.{false, cond, ◌||◌}
use mathlib.Core.List.{List, [], ◌∷◌, ◌++◌}
use Rattle.std.specs.Prelude.{None}
use Prim.Native.Nat.{ℕ, zero, suc, ◌+◌, ◌*◌, ◌/◌, ◌≤◌, ◌<◌}
use native.Mathlib.Nat.{lt_irrefl}
use native.Mathlib.Omega.{arith}
use borrow.Author.Tests.{ltb-false}
use lib.Dec.{ltb, eqb}
use lib.ListN.{length, get_or, take, drop, length-drop}
use lib.Seq.{take-add, drop-drop, get_or-drop}
use Rattle.least.specs.Lists.{list_of}
use Rattle.least.proofs.Lists.{length_list}
use Rattle.least.proofs.Where.{where_none}
use Rattle.plan.specs.declared.Tick.{Tick}
use Rattle.plan.specs.Numbers.{AllBelow}
use Rattle.plan.specs.PlanFile.{wrong_record, first_wrong_record}
use Rattle.plan.specs.Bodies.{tick_at, tick_bytes, records_of}
use Rattle.plan.proofs.Digits.{take_four, four, number_drop}
use Rattle.plan.proofs.Tests.{or_inv}

-- an early mark is 0 or 1
mark : (b : ℕ) → b ≤ 1 → cond (eqb b 1) 1 0 ≡ b
mark zero h = refl
mark (suc zero) h = refl
mark (suc (suc b)) h = absurd (lt_irrefl 0 (omega arith))

pub record_bytes : (s : List ℕ) (i : ℕ) → AllBelow 256 s → first_wrong_record s ≡ None → i < length s / 8
    → tick_bytes (tick_at s i) ≡ take 8 (drop (8 * i) s)
unfolding wrong_record first_wrong_record
record_bytes s i bytes fine h =
    let k = 8 * i in
    let right : wrong_record s i ≡ false = where_none (wrong_record s) (length s / 8) 0 fine i (omega arith) (omega arith) in
    let a = or_inv (ltb 1 (get_or s (k + 5) 0) || ltb 0 (get_or s (k + 6) 0)) (ltb 0 (get_or s (k + 7) 0)) right in
    let b = or_inv (ltb 1 (get_or s (k + 5) 0)) (ltb 0 (get_or s (k + 6) 0)) a.0 in
    let early : cond (eqb (get_or s (k + 5) 0) 1) 1 0 ≡ get_or s (k + 5) 0 = mark (get_or s (k + 5) 0) (ltb-false 1 (get_or s (k + 5) 0) b.0) in
    let six : 0 ≡ get_or s (k + 6) 0 = omega (arith, ltb-false 0 (get_or s (k + 6) 0) b.1) in
    let seven : 0 ≡ get_or s (k + 7) 0 = omega (arith, ltb-false 0 (get_or s (k + 7) 0) a.1) in
    let z5 : k + 4 + 1 ≡ k + 5 = omega arith in
    let z6 : k + 4 + 2 ≡ k + 6 = omega arith in
    let z7 : k + 4 + 3 ≡ k + 7 = omega arith in
    ap (λ (x : List ℕ). x ++ (get_or s (k + 4) 0 ∷ cond (eqb (get_or s (k + 5) 0) 1) 1 0 ∷ 0 ∷ 0 ∷ [])) (four s k (omega arith) bytes)
    ∙ ap (λ (x : List ℕ). take 4 (drop k s) ++ x)
    (ap (λ (x : ℕ). get_or s (k + 4) 0 ∷ x ∷ 0 ∷ 0 ∷ []) early
    ∙ ap (λ (x : ℕ). get_or s (k + 4) 0 ∷ get_or s (k + 5) 0 ∷ x ∷ 0 ∷ []) six
    ∙ ap (λ (x : ℕ). get_or s (k + 4) 0 ∷ get_or s (k + 5) 0 ∷ get_or s (k + 6) 0 ∷ x ∷ []) seven
    ∙ sym (take_four s (k + 4) (omega arith) ∙ rw (z5, z6, z7))
    ∙ ap (take 4) (sym (drop-drop 4 k s)))
    ∙ sym (take-add 4 4 (drop k s))

-- THE RECORDS, ONE AFTER THE OTHER
list_same : {A : Type 0} (f g : ℕ → A) (n : ℕ) → ((i : ℕ) → i < n → f i ≡ g i) → list_of f n ≡ list_of g n
unfolding list_of
list_same f g zero h = refl
list_same f g (suc n) h = rw (list_same f g n (λ i b. h i (omega arith)), h n (omega arith))

list_front : {A : Type 0} (f : ℕ → A) (n : ℕ) → list_of f (suc n) ≡ f 0 ∷ list_of (λ i. f (suc i)) n
unfolding list_of
list_front f zero = refl
list_front f (suc n) = ap (λ (l : List _). l ++ (f (suc n) ∷ [])) (list_front f n)

pub tick_drop : (s : List ℕ) (i : ℕ) → tick_at (drop 8 s) i ≡ tick_at s (suc i)
tick_drop s i =
    let e : 8 + 8 * i ≡ 8 * suc i = omega arith in
    let e4 : 8 + (8 * i + 4) ≡ 8 * suc i + 4 = omega arith in
    let e5 : 8 + (8 * i + 5) ≡ 8 * suc i + 5 = omega arith in
    rw (number_drop s 8 (8 * i), get_or-drop 8 s (8 * i + 4) 0, get_or-drop 8 s (8 * i + 5) 0, e, e4, e5)

-- how many they are
pub length_records : (s : List ℕ) → length (records_of s) ≡ length s / 8
unfolding records_of
length_records s = length_list (tick_at s) (length s / 8)

-- fewer than eight bytes are no record
pub records_none : (s : List ℕ) → length s < 8 → records_of s ≡ []
unfolding records_of list_of
records_none s h = let e : length s / 8 ≡ 0 = omega arith in ap (list_of (tick_at s)) e

-- the first eight are the first record, and what follows has the others
pub records_more : (s : List ℕ) → 8 ≤ length s → records_of s ≡ tick_at s 0 ∷ records_of (drop 8 s)
unfolding records_of
records_more s h =
    let n : ℕ = length (drop 8 s) / 8 in
    let e : length s / 8 ≡ suc n = omega (arith, length-drop 8 s) in
    ap (list_of (tick_at s)) e
    ∙ list_front (tick_at s) n
    ∙ ap (λ (l : List Tick). tick_at s 0 ∷ l) (list_same (λ i. tick_at s (suc i)) (tick_at (drop 8 s)) n (λ i b. sym (tick_drop s i)))
