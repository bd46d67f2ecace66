-- The pieces of a body: its bytes in fours and eights, as Rust's `as_chunks` cuts them.
-- Assumes nothing.
use mathlib.Core.Path.{◌≡◌, refl, ap, ◌∙◌}
use mathlib.Core.List.{List}
use Prim.Native.Nat.{ℕ, zero, suc, ◌+◌, ◌*◌, ◌≤◌, ◌<◌}
use native.Mathlib.Nat.{lt_irrefl, mul-zero, mul-suc}
use native.Mathlib.Omega.{arith}
use lib.ListN.{length, get_or, take, drop}
use lib.Seq.{get_or-take, get_or-drop, drop-drop}
use Rattle.std.specs.Int.{w32, from_le_bytes}
use Rattle.std.specs.Simd.{first_chunks}
use Rattle.plan.specs.Numbers.{number_at}
use Rattle.plan.specs.PlanFile.{wrong_record}
use Rattle.plan.specs.Bodies.{tick_at}
use Rattle.plan.proofs.Bytes.{number_take, number_part}
use Rattle.plan.proofs.Digits.{number_drop}

pub length_chunks : {A : Type 0} (n k : ℕ) (xs : List A) → length (first_chunks n k xs) ≡ k
length_chunks n zero xs = refl
length_chunks n (suc k) xs = ap suc (length_chunks n k (drop n xs))

-- piece i
pub chunk_at : {A : Type 0} (n k : ℕ) (xs : List A) (i : ℕ) (d : List A) → i < k → get_or (first_chunks n k xs) i d ≡ take n (drop (n * i) xs)
chunk_at n zero xs i d h = absurd (lt_irrefl 0 (omega arith))
chunk_at n (suc k) xs zero d h = rw mul-zero
chunk_at n (suc k) xs (suc i) d h =
    let z : n + n * i ≡ n * suc i = omega (arith, mul-suc n i) in
    chunk_at n k (drop n xs) i d (omega arith) ∙ ap (take n) (drop-drop (n * i) n xs ∙ ap (λ (x : ℕ). drop x xs) z)

-- a byte and a number of a piece
byte_of : (s : List ℕ) (n k j : ℕ) → j < n → get_or (take n (drop k s)) j 0 ≡ get_or s (k + j) 0
byte_of s n k j h = get_or-take n (drop k s) j 0 h ∙ get_or-drop k s j 0

number_of_chunk : (s : List ℕ) (n k : ℕ) → 4 ≤ n → number_at (take n (drop k s)) 0 ≡ number_at s k
number_of_chunk s n k h =
    let z : k + 0 ≡ k = omega arith in
    number_take (drop k s) n 0 (omega arith) ∙ number_drop s k 0 ∙ ap (number_at s) z

-- number i of a body of numbers
pub number_of_piece : (s : List ℕ) (n i : ℕ) (d : List ℕ) → i < n → from_le_bytes w32 (get_or (first_chunks 4 n s) i d) ≡ number_at s (4 * i)
number_of_piece s n i d h = ap (from_le_bytes w32) (chunk_at 4 n s i d h) ∙ number_part s (4 * i)

-- record i of a script
pub tick_of_chunk : (s : List ℕ) (i : ℕ) → tick_at (take 8 (drop (8 * i) s)) 0 ≡ tick_at s i
tick_of_chunk s i =
    rw (number_of_chunk s 8 (8 * i) (omega arith), byte_of s 8 (8 * i) 4 (omega arith), byte_of s 8 (8 * i) 5 (omega arith))

pub wrong_of_chunk : (s : List ℕ) (i : ℕ) → wrong_record (take 8 (drop (8 * i) s)) 0 ≡ wrong_record s i
unfolding wrong_record
wrong_of_chunk s i =
    rw (byte_of s 8 (8 * i) 5 (omega arith), byte_of s 8 (8 * i) 6 (omega arith), byte_of s 8 (8 * i) 7 (omega arith))
