-- 13 on both sides of both limits, and the writer's 13, by number and place. These files are too long to compute, so the laws of the checks are
-- cited. Assumes nothing.
use mathlib.Core.Path.{◌≡◌, refl, ap}
use mathlib.Core.List.{List}
use Rattle.std.specs.Prelude.{None}
use Prim.Native.Nat.{ℕ, zero, suc, ◌+◌, ◌*◌, ◌%◌, ◌≤◌}
use native.Mathlib.Omega.{arith}
use borrow.Author.Tests.{le-ltb}
use lib.ListN.{length, get_or, replicate, length-replicate}
use Rattle.least.proofs.Where.{where_all}
use Rattle.plan.specs.Numbers.{number_at}
use Rattle.plan.specs.PlanFile.{wrong_record, first_wrong_record, read_refusal}
use Rattle.plan.specs.Writer.{write_refusal}
use Rattle.plan.specs.Cases.{told, refused, table}
use Rattle.plan.specs.Inside.{optional_count, file_length}
use Rattle.plan.proofs.Written.{stop_total, stop_room, go_write}

abbrev zeros : ℕ → List ℕ
zeros n = replicate n 0

zero_at : (n k : ℕ) → get_or (zeros n) k 0 ≡ 0
zero_at zero k = refl
zero_at (suc n) zero = refl
zero_at (suc n) (suc k) = zero_at n k

-- ## The reader

-- any file one byte shorter than the shortest, and any one byte longer than the longest
pub one_too_short : (f : List ℕ) → length f ≡ 3 → told (read_refusal f) ≡ refused 13 3
unfolding read_refusal
one_too_short f e = rw e

pub one_too_long : (f : List ℕ) → length f ≡ 65537 → told (read_refusal f) ≡ refused 13 65537
unfolding read_refusal
one_too_long f e = rw e

-- the shortest and the longest pass 13: their zeros get 14, since the count is 0
within : (n : ℕ) → 4 ≤ n → n ≤ 65536 → told (read_refusal (zeros n)) ≡ refused 14 0
unfolding read_refusal number_at
within n a b =
    rw (length-replicate {A = ℕ} n 0, le-ltb n 4 a, le-ltb 65536 n b, zero_at n 0, zero_at n 1, zero_at n 2, zero_at n 3)

pub shortest : told (read_refusal (zeros 4)) ≡ refused 14 0
shortest = within 4 (omega arith) (omega arith)

pub longest : told (read_refusal (zeros 65536)) ≡ refused 14 0
longest = within 65536 (omega arith) (omega arith)

-- ## The writer

-- ticks that bring nothing have nothing wrong in them
silent_right : (n : ℕ) → first_wrong_record (zeros n) ≡ None
unfolding first_wrong_record wrong_record
silent_right n =
    where_all (λ r. wrong_record (zeros n) r) _ 0 (λ r a b. rw (zero_at n (8 * r + 5), zero_at n (8 * r + 6), zero_at n (8 * r + 7)))

-- P2's table with n bytes of such ticks
total : (n : ℕ) → file_length 4 n ≡ file_length (length table) (length (zeros n))
total n = rw (length-replicate {A = ℕ} n 0)

eights : (n : ℕ) → n % 8 ≡ 0 → length (zeros n) % 8 ≡ 0
eights n h = rw (length-replicate {A = ℕ} n 0) h

-- with 8,186 records it is the longest plan, 65,532 bytes; one more is refused, however many bytes are lent
pub longest_written : told (write_refusal table (zeros 65488) 65532) ≡ None
unfolding optional_count
longest_written = ap told (go_write table (zeros 65488) 65532 65532 (total 65488) refl (eights 65488 refl) (silent_right 65488) refl refl)

pub longest_room : told (write_refusal table (zeros 65488) 65531) ≡ refused 18 65532
unfolding optional_count
longest_room = ap told (stop_room table (zeros 65488) 65531 65532 (total 65488) refl (eights 65488 refl) (silent_right 65488) refl refl)

pub one_record_more : (room : ℕ) → told (write_refusal table (zeros 65496) room) ≡ refused 13 65540
unfolding optional_count
one_record_more room = ap told (stop_total table (zeros 65496) room 65540 (total 65496) refl (eights 65496 refl) (silent_right 65496) refl)
