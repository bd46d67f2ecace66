-- The place of each refusal can be counted: it is the length of the input, an entry, a record or a task. Assumes nothing.
use mathlib.Core.Path.{◌≡◌, refl}
use mathlib.Core.Bool.{Bool, true, false}
use mathlib.Core.List.{List}
use mathlib.Core.Logic.{⊎_elim}
use Rattle.std.specs.Prelude.{Option, None, Some, Ok, Err}
use Prim.Native.Nat.{ℕ, ◌+◌, ◌/◌, ◌≤◌, ◌<◌}
use native.Mathlib.Omega.{arith}
use lib.ListN.{length}
use Rattle.least.proofs.Where.{where_some}
use Rattle.refusals.specs.declared.Refusal.{Refusal}
use Rattle.refusals.specs.Refusals.{place_of}
use Rattle.equations.specs.Table.{rows}
use Rattle.equations.specs.Hypertask.{response}
use Rattle.equations.specs.Guest.{guest}
use Rattle.equations.specs.Analysis.{bad_field, bad_deadline, table_check, hypertask_check, and_then, solved}
use Rattle.equations.specs.Answers.{Checked}
use Rattle.equations.proofs.Refused.{NoActive, LateJob, FirstFailing, response_fails, refused_from_5}
use Rattle.equations.proofs.Checks.{table_stopped}
use Rattle.equations.proofs.Windows.{task_of_row}
use Rattle.start.specs.Start.{start_answer}
use Rattle.plan.specs.Refuse.{refuse_if, refuse_at}
use Rattle.plan.specs.PlanFile.{count, sections_of, body_of, script_kind, wrong_length, wrong_count, first_wrong_record, entries_refusal, read_refusal}
use Rattle.plan.specs.Inside.{Listed}
use Rattle.plan.proofs.Entries.{listed, entry_in}
use Rattle.text.specs.Put.{last_place}
use Rattle.report.proofs.Plans.{body_length}

-- ## A refused plan

abbrev pub CountedPlace : Option Refusal → Type 0
CountedPlace None = Unit {0}
CountedPlace (Some refusal) = place_of refusal ≤ last_place

place_if : (b : Bool) (r : Refusal) (next : Option Refusal) → place_of r ≤ last_place → (b ≡ false → CountedPlace next)
    → CountedPlace (refuse_if b r next)
place_if true r next p q = p
place_if false r next p q = q refl

place_at : (r : ℕ → Refusal) (o : Option ℕ) (next : Option Refusal) → ((k : ℕ) → o ≡ Some k → place_of (r k) ≤ last_place) → CountedPlace next
    → CountedPlace (refuse_at r o next)
place_at r (Some k) next p q = p k refl
place_at r None next p q = q

module _ (f : List ℕ) where
  -- an entry of the file, of which there are at most 2
  entry_place : (r : ℕ → Refusal) → ((k : ℕ) → place_of (r k) ≡ k + 1) → (o : Option ℕ) → ((k : ℕ) → o ≡ Some k → k < count f)
      → (next : Option Refusal) → Listed f → CountedPlace next → CountedPlace (refuse_at r o next)
  entry_place r g o within next l = place_at r o next (λ k e. omega (arith, g k, within k e, l.few))

  -- a record of its script
  record_place : (k : ℕ) → first_wrong_record (body_of script_kind (sections_of f)) ≡ Some k → k ≤ length f
  unfolding first_wrong_record sections_of
  record_place k e = omega (arith, (where_some _ (length (body_of script_kind (sections_of f)) / 8) 0 k e).below, body_length script_kind f (count f) 0)

  pub read_place : length f ≤ last_place → CountedPlace (read_refusal f)
  unfolding read_refusal entries_refusal
  read_place h =
      place_if (wrong_length (length f)) _ _ h (λ a.
      place_if (wrong_count (count f) (length f)) _ _ (omega arith) (λ b.
      let l = listed f b in
      entry_place (λ i. Refusal.Contents (i + 1)) (λ k. refl) _ (entry_in f _) _ l
      (entry_place (λ i. Refusal.BodyPlace (i + 1)) (λ k. refl) _ (entry_in f _) _ l
      (entry_place (λ i. Refusal.BodySize (i + 1)) (λ k. refl) _ (entry_in f _) _ l
      (place_at (λ k. Refusal.RecordBytes k) (first_wrong_record (body_of script_kind (sections_of f))) _ (λ k e. omega (arith, record_place k e)) tt)))))

-- ## A refused table

module _ (s : List ℕ) where
  check_place : (r : Refusal) → table_check s ≡ Err r → place_of r ≤ length s
  check_place = table_stopped s (λ (r : Refusal). place_of r ≤ length s) (omega arith)
      (λ k e. omega (arith, (where_some (bad_field s) (length s) 0 k e).below))
      (λ j e. omega (arith, (where_some (bad_deadline s) (rows s) 0 j e).below))

  pub start_place : (r : Refusal) → start_answer s ≡ Err r → place_of r ≤ length s
  unfolding start_answer
  start_place r e = go (table_check s) refl e
    where
      go : (c : Checked) → table_check s ≡ c → and_then c (solved s) ≡ Err r → place_of r ≤ length s
      go (Err x) p q = let z : x ≡ r = cc in rw (← z) (check_place x p)
      go (Ok tt) p q = ⊎_elim
          (λ (w : FirstFailing (response s) 0 (rows s) r). ⊎_elim
          (λ (x : (r ≡ Refusal.NoActivePeriod (w.row + 1)) × NoActive s w.row). rw x.0 (omega (arith, w.below)))
          (λ (x : (r ≡ Refusal.StartTooLate (w.row + 1)) × LateJob s w.row). rw x.0 (omega (arith, w.below)))
          (response_fails s w.row r w.fails))
          (λ (w : (hypertask_check s ≡ (Ok tt)) × FirstFailing (guest s) 0 (rows s) r).
          omega (arith, task_of_row s w.1.row r w.1.fails, w.1.below))
          (refused_from_5 s r q)
