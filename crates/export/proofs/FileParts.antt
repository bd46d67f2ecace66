-- Laws of plan files through numbers and lent memory: the table of the rows.
-- Assumes nothing.
use mathlib.Core.Path.{◌≡◌, refl, sym, ap, ◌∙◌}
use mathlib.Core.Bool.{Bool, true, false}
use mathlib.Core.List.{List}
use Rattle.std.specs.Prelude.{Option, None, Some}
use Prim.Native.Nat.{ℕ, ◌/◌, ◌%◌}
use native.Mathlib.Omega.{arith}
use borrow.Author.Tests.{eq-eqb}
use lib.Dec.{ltb}
use lib.ListN.{length}
use Rattle.refusals.specs.declared.Refusal.{Refusal}
use Rattle.plan.specs.Numbers.{table_of, AllBelow}
use Rattle.plan.specs.PlanFile.{sections_of, body_of, rows_kind, read_refusal, part_if, part_of}
use Rattle.plan.specs.Bodies.{taken_of, after_taken}
use Rattle.plan.proofs.Values.{numbers_length}
use Rattle.plan.proofs.RoundTrips.{accepted_rows}
use Rattle.export.specs.Files.{to_front}

-- what is handed back of any file is in fours
pub rows_fours : (f : List ℕ) → AllBelow 256 f → length (part_of rows_kind f) % 4 ≡ 0
unfolding part_of
rows_fours f b = go (read_refusal f) refl
  where
    go : (o : Option Refusal) → read_refusal f ≡ o → length (part_if (read_refusal f) (body_of rows_kind (sections_of f))) % 4 ≡ 0
    go (Some r) e = rw e refl
    go None e = omega (arith, (accepted_rows f b e).2)

taken_front : (rows lent : List ℕ) (b : Bool) → length rows % 4 ≡ 0 → ltb (length lent) (length rows / 4) ≡ b
    → after_taken (taken_of rows (length lent)) rows lent ≡ to_front (table_of rows) lent
unfolding taken_of to_front
taken_front rows lent true h q = rw (eq-eqb _ _ h, numbers_length rows (length rows / 4), q)
taken_front rows lent false h q = rw (eq-eqb _ _ h, numbers_length rows (length rows / 4), q)

pub table_front : (part q lent after : List ℕ) → q ≡ part → length part % 4 ≡ 0 → after ≡ after_taken (taken_of q (length lent)) q lent
    → after ≡ to_front (table_of part) lent
table_front part q lent after e h p =
    p ∙ ap (λ (l : List ℕ). after_taken (taken_of l (length lent)) l lent) e ∙ taken_front part lent (ltb (length lent) (length part / 4)) h refl

pub table_length : (part q : List ℕ) → q ≡ part → length q / 4 ≡ length (table_of part)
table_length part q e = ap (λ (l : List ℕ). length l / 4) e ∙ sym (numbers_length part (length part / 4))
