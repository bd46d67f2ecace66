-- Bodies as values: each way out of the functions that read them.
-- Assumes nothing.
use mathlib.Core.Path.{◌≡◌, refl, sym, ap, ◌∙◌}
use mathlib.Core.List.{List, [], ◌++◌}
use Prim.Native.Nat.{ℕ, suc, ◌+◌, ◌*◌, ◌/◌, ◌%◌, ◌≤◌, ◌<◌}
use native.Mathlib.Omega.{arith}
use native.Mathlib.Numerals.{add-one}
use borrow.Author.Tests.{lt-ltb, le-ltb, eq-eqb, ne_eqb}
use lib.ListN.{length, get_or, drop, set}
use lib.Seq.{drop-cons, set_at, append_snoc}
use denote.Ref.{Bor}
use Rattle.std.specs.Prelude.{Err, Ok, Option, None, Some, MatchOption}
use Rattle.std.specs.List.{HoldsAt}
use Rattle.std.specs.Simd.{first_chunks}
use Rattle.least.specs.Lists.{list_of}
use Rattle.least.proofs.Lists.{length_list}
use Rattle.plan.specs.declared.Tick.{Tick}
use Rattle.plan.specs.Answers.{Taken}
use Rattle.plan.specs.declared.RowsError.TheVariants.{NotInFours, TooShort}
use Rattle.plan.specs.Numbers.{number_at, numbers_in}
use Rattle.plan.proofs.Chunks.{length_chunks, chunk_at, tick_of_chunk}
use Rattle.plan.specs.Bodies.{tick_at, record_of, taken_of, after_taken, Takes}

-- RECORDS
-- what `record` answers below the count of records, so that its callers may unwrap it there
pub record_is : (s : List ℕ) (i : ℕ) → i < length s / 8 → record_of s i ≡ Some (tick_at s i)
unfolding record_of
record_is s i h = rw (lt-ltb i (length s / 8) h)

-- the piece of eight bytes that `get` found, as a tick, or none
pub record_got : (s : List ℕ) (i : ℕ) (piece : Option (Bor (List ℕ))) (t : Option Tick)
    → MatchOption piece (length (first_chunks 8 (length s / 8) s) ≤ i)
    (λ x. (i < length (first_chunks 8 (length s / 8) s)) × HoldsAt (λ y. x.now ≡ y) (first_chunks 8 (length s / 8) s) i)
    → MatchOption piece (t ≡ None) (λ x. t ≡ Some (tick_at x.now 0)) → t ≡ record_of s i
unfolding record_of
record_got s i None t h e = e ∙ rw (le-ltb i (length s / 8) (omega (arith, h, length_chunks 8 (length s / 8) s)))
record_got s i (Some x) t h e =
    let b : i < length s / 8 = omega (arith, h.0, length_chunks 8 (length s / 8) s) in
    e ∙ ap (λ (y : List ℕ). Some (tick_at y 0)) (h.1 [] ∙ chunk_at 8 (length s / 8) s i [] b) ∙ ap Some (tick_of_chunk s i) ∙ rw (lt-ltb i (length s / 8) b)

-- TABLES
pub numbers_length : (f : List ℕ) (n : ℕ) → length (numbers_in f n) ≡ n
numbers_length f n = length_list (λ i. number_at f (4 * i)) n

-- one number more
pub numbers_step : (f lent : List ℕ) (i : ℕ) → i < length lent
    → set (numbers_in f i ++ drop i lent) i (number_at f (4 * i)) ≡ numbers_in f (i + 1) ++ drop (i + 1) lent
unfolding list_of
numbers_step f lent i h =
    ap (λ (l : List ℕ). set (numbers_in f i ++ l) i (number_at f (4 * i))) (drop-cons lent i 0 h)
    ∙ set_at (numbers_in f i) (get_or lent i 0) (drop (suc i) lent) (number_at f (4 * i)) i (numbers_length f i)
    ∙ sym (append_snoc (numbers_in f i) (number_at f (4 * i)) (drop (suc i) lent))
    ∙ ap (λ (n : ℕ). numbers_in f n ++ drop n lent) (sym (add-one i))

-- the promise, each way out
module _ (rows lent : List ℕ) where
  takes : (a : Taken) (after : List ℕ) → taken_of rows (length lent) ≡ a → after ≡ after_taken a rows lent → Takes rows lent a after
  takes a after e p = record { answers = sym e; leaves = p ∙ sym (ap (λ (x : Taken). after_taken x rows lent) e) }

  pub not_in_fours : (length rows % 4 ≡ 0 → ⊥) → Takes rows lent (Err (NotInFours (length rows))) lent
  unfolding taken_of
  not_in_fours h = takes _ lent (rw (ne_eqb _ _ h)) refl

  -- n numbers, as the pieces are counted
  module _ (n : ℕ) (counted : n ≡ length rows / 4) (fours : length rows % 4 ≡ 0) where
    pub too_short : length lent < n → Takes rows lent (Err (TooShort n)) lent
    unfolding taken_of
    too_short h = rw counted (takes _ lent (rw (eq-eqb _ _ fours, lt-ltb (length lent) (length rows / 4) (omega arith))) refl)

    pub all_taken : (after : List ℕ) → n ≤ length lent → after ≡ numbers_in rows n ++ drop n lent → Takes rows lent (Ok n) after
    unfolding taken_of
    all_taken after h p =
        rw counted
        (takes _ after (rw (eq-eqb _ _ fours, le-ltb (length lent) (length rows / 4) (omega arith))) (rw counted at p))
