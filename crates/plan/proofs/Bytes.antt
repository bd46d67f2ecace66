-- Rust's `from_le_bytes` and `to_le_bytes` in the words of a plan file, and a write to a part of lent bytes.
-- Assumes nothing.
use mathlib.Core.Path.{◌≡◌, refl, sym, ap, ◌∙◌}
use mathlib.Core.List.{List, ◌++◌, append_assoc}
use Prim.Native.Nat.{ℕ, ◌+◌, ◌-◌, ◌≤◌, ◌<◌}
use native.Mathlib.Omega.{arith}
use borrow.Rule.Slice.PartMut.{put_mid}
use lib.ListN.{length, get_or, take, drop}
use lib.Seq.{sets, sets-eq, get_or-take, drop-drop}
use Rattle.std.specs.Int.{w32, w64, from_le_bytes, to_le_bytes}
use Rattle.plan.specs.Numbers.{number_at, bytes_of}
use Rattle.plan.proofs.Digits.{number_drop}

-- the four bytes of a number, and of one of 64 bits the low four
pub le_bytes : (x : ℕ) → to_le_bytes w32 x ≡ bytes_of x
le_bytes x = refl

pub low_le_bytes : (x : ℕ) → take 4 (to_le_bytes w64 x) ≡ bytes_of x
low_le_bytes x = refl

-- the number in four bytes, and in a part of four
pub le_number : (b : List ℕ) → from_le_bytes w32 b ≡ number_at b 0
unfolding number_at
le_number b = omega arith

pub number_take : (f : List ℕ) (n j : ℕ) → j + 4 ≤ n → number_at (take n f) j ≡ number_at f j
unfolding number_at
number_take f n j h =
    let byte : (k : ℕ) → k < n → get_or (take n f) k 0 ≡ get_or f k 0 = λ k b. get_or-take n f k 0 b in
    rw (byte j (omega arith), byte (j + 1) (omega arith), byte (j + 2) (omega arith), byte (j + 3) (omega arith))

pub number_part : (f : List ℕ) (k : ℕ) → from_le_bytes w32 (take 4 (drop k f)) ≡ number_at f k
number_part f k =
    let z : k + 0 ≡ k = omega arith in
    le_number (take 4 (drop k f)) ∙ number_take (drop k f) 4 0 (omega arith) ∙ number_drop f k 0 ∙ ap (number_at f) z

-- after `output[at..end].copy_from_slice(..)`: what was copied stands from place `at` on
pub put_copied : (o : List ℕ) (at end : ℕ) (t u : List ℕ) → u ≡ t → at + length t ≡ end → end ≤ length o → put_mid at (end - at) o u ≡ sets o at t
put_copied o at end t u e n h =
    let k : end - at ≡ length t = omega arith in
    ap (put_mid at (end - at) o) e
    ∙ ap (λ (j : ℕ). take at o ++ (t ++ drop j (drop at o))) k
    ∙ ap (λ (l : List ℕ). take at o ++ (t ++ l)) (drop-drop (length t) at o)
    ∙ sym (append_assoc (take at o) t (drop (at + length t) o))
    ∙ sym (sets-eq t o at (omega arith))
