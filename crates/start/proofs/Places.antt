-- Laws of a fresh machine's places, and of the E of each row among the analysis's results.
-- Assumes nothing.
use mathlib.Core.Path.{◌≡◌, refl, sym, ap, ◌∙◌}
use mathlib.Core.List.{List, [], ◌∷◌, ◌++◌, append-nil}
use mathlib.Core.Logic.{⊎_elim}
use Prim.Native.Nat.{ℕ, zero, suc, ◌+◌, ◌-◌, ◌*◌, ◌≤◌, ◌<◌}
use native.Mathlib.Nat.{lt_irrefl, eq-zero-or-pos}
use native.Mathlib.Omega.{arith}
use Rattle.std.proofs.lemmas.List.{take-replicate, drop-replicate}
use lib.ListN.{length, get_or, set, take, drop, replicate, length-append, length-replicate, length-drop}
use Rattle.std.specs.Prelude.{Ok, Err}
use Rattle.std.specs.Result.{result_unwrap_or}
use Rattle.least.specs.Lists.{list_of}
use Rattle.least.proofs.Lists.{length_list, fill_more, length_flat, flat_at}
use Rattle.refusals.specs.declared.Refusal.{Refusal}
use Rattle.equations.specs.Table.{rows}
use Rattle.equations.specs.Hypertask.{E}
use Rattle.equations.specs.Analysis.{table_check, and_then, solved, analysis, three_of, results, results_after, Analyses}
use Rattle.equations.specs.Answers.{Checked, Answer}
use Rattle.equations.proofs.Checks.{refused_1_to_3, entered, results_fit}
use Rattle.equations.proofs.Exactly.{table_sound, passes}
use Rattle.machine.specs.Rows.{no_row, with_stage, map_from}
use Rattle.machine.specs.Fresh.{fresh_rows, fresh_at}
use Rattle.machine.specs.declared.Stage.{Stage}
use Rattle.machine.specs.declared.Row.{Row}
use Rattle.start.specs.Start.{row_of, rows_of, start_answer, start_of}
use Rattle.start.specs.Inside.{Analysed, fresh_places}

-- ## The places

never_last : (i : ℕ) (l : List Row) (r : Row)
    → map_from (λ i r. with_stage r Stage.Never) i (l ++ (r ∷ [])) ≡ map_from (λ i r. with_stage r Stage.Never) i l ++ (with_stage r Stage.Never ∷ [])
unfolding map_from
never_last i [] r = refl
never_last i (x ∷ l) r = ap (◌∷◌ (with_stage x Stage.Never)) (never_last (suc i) l r)

-- the rows of a table are Never as they stand
rows_never : (s : List ℕ) (n : ℕ) → map_from (λ i r. with_stage r Stage.Never) 0 (rows_of s n) ≡ rows_of s n
unfolding list_of map_from row_of
rows_never s zero = refl
rows_never s (suc n) = never_last 0 (rows_of s n) (row_of s n) ∙ ap (λ (l : List Row). l ++ (row_of s n ∷ [])) (rows_never s n)

pub fresh_is : (s : List ℕ) (n : ℕ) → fresh_rows (rows_of s n) ≡ fresh_places s n
unfolding fresh_rows fresh_places
fresh_is s n = rw (rows_never s n, length_list (row_of s) n)

pub length_places : (s : List ℕ) (n : ℕ) → n ≤ 32 → length (fresh_places s n) ≡ 32
unfolding fresh_places
length_places s n h = omega (arith, length-append (rows_of s n) (replicate (32 - n) no_row), length_list (row_of s) n, length-replicate (32 - n) no_row)

pub places_none : (s : List ℕ) → replicate 32 no_row ≡ fresh_places s 0
unfolding fresh_places list_of
places_none s = refl

-- only rows that are there are asked for
pub few_rows : (s results : List ℕ) (n : ℕ) → (0 < n → Analysed s results × (n ≤ rows s)) → n ≤ 32
few_rows s results n h = ⊎_elim (λ (z : n ≡ 0). omega arith) (λ (p : 0 < n). let r = h p in omega (arith, r.0.sound.few, r.1)) (eq-zero-or-pos n)

-- the first n of 32 places, while they are filled with the rows of a table: none yet, one more, all
module _ (s : List ℕ) (n : ℕ) (few : n ≤ 32) where
  pub rows_none : take n (replicate 32 no_row) ≡ rows_of s 0 ++ replicate (n - 0) no_row
  unfolding list_of
  rows_none = let z : n - 0 ≡ n = omega arith in rw z (take-replicate n 32 no_row few)

  pub rows_more : (j : ℕ) → j < n → set (rows_of s j ++ replicate (n - j) no_row) j (row_of s j) ≡ rows_of s (j + 1) ++ replicate (n - (j + 1)) no_row
  rows_more j h = fill_more (row_of s) no_row n j h

  pub rows_all : (j : ℕ) → j ≡ n → (rows_of s j ++ replicate (n - j) no_row) ++ drop n (replicate 32 no_row) ≡ fresh_places s n
  unfolding fresh_places
  rows_all j e =
      let z : n - n ≡ 0 = omega arith in
      rw (e, z, drop-replicate n 32 no_row) (ap (λ (l : List Row). l ++ replicate (32 - n) no_row) (append-nil (rows_of s n)))

-- ## The results

length_results : (s : List ℕ) (n : ℕ) → length (results s n) ≡ 3 * n
length_results s n = length_flat (three_of s) 3 (λ i. refl) n

-- E of task j + 1 is the second of its three numbers
offset_at : (s : List ℕ) (n j : ℕ) (rest : List ℕ) → j < n → get_or (results s n ++ rest) (3 * j + 1) 0 ≡ E s j
offset_at s n j rest h = flat_at (three_of s) 3 (λ i. refl) n j 1 rest 0 h (omega arith)

-- ## The answer

-- the results lent by a start are long enough for every sound table
pub same_answer : (s lent : List ℕ) → length lent ≡ 96 → analysis s (length lent) ≡ start_answer s
unfolding start_answer
same_answer s lent h = by (table_check s) refl
  where
    by : (c : Checked) → table_check s ≡ c → analysis s (length lent) ≡ and_then c (solved s)
    by (Ok tt) e = entered s (length lent) e (results_fit s (length lent) (omega (arith, (table_sound s e).few)))
    by (Err r) e = refused_1_to_3 s (length lent) r e

pub started_refused : (s : List ℕ) (r : Refusal) → start_answer s ≡ Err r
    → start_of s ≡ record { machine = record { rows = replicate 32 no_row; count = 0; clock = 0 }; answer = Err r }
unfolding start_of fresh_at fresh_rows map_from
started_refused s r e = rw e

pub started_accepted : (s : List ℕ) (n : ℕ) → start_answer s ≡ Ok n
    → start_of s ≡ record { machine = record { rows = fresh_places s n; count = n; clock = 0 }; answer = Ok n }
unfolding start_of fresh_at
started_accepted s n e = rw e (rw (fresh_is s n, length_list (row_of s) n))

pub analysed_tasks : (s : List ℕ) (lent n : ℕ) → analysis s lent ≡ Ok n → n ≤ rows s
analysed_tasks s lent n e = omega (arith, (passes s lent n e).tasks)

pub accepted_analysed : (s lent : List ℕ) (n : ℕ) → length lent ≡ 96 → analysis s (length lent) ≡ Ok n → Analysed s (results_after s lent)
unfolding results_after
accepted_analysed s lent n h e =
    let p = passes s (length lent) n e in
    record {
      sound = p.shape;
      long = rw e (omega (arith, p.room, p.tasks, length-append (results s n) (drop (3 * n) lent), length_results s n, length-drop (3 * n) lent));
      offsets = λ j b. rw e (offset_at s n j (drop (3 * n) lent) (omega (arith, p.tasks)));
    }

-- what the analysis promises of results lent by a start, whose numbers are all 0
module _ (s after : List ℕ) where
  -- the rows that are accepted can be read
  pub analysed : (a : Answer) → Analyses s (replicate 96 0) a after → 0 < result_unwrap_or a 0 → Analysed s after × (result_unwrap_or a 0 ≤ rows s)
  analysed (Ok n) r h = (rw r.leaves (accepted_analysed s _ n refl (sym r.answers)), analysed_tasks s _ n (sym r.answers))
  analysed (Err f) r h = absurd (lt_irrefl 0 h)

  pub started : (a : Answer) → Analyses s (replicate 96 0) a after
      → record { machine = record { rows = fresh_places s (result_unwrap_or a 0); count = result_unwrap_or a 0; clock = 0 }; answer = a } ≡ start_of s
  started (Ok n) r = sym (started_accepted s n (sym (same_answer s (replicate 96 0) refl) ∙ sym r.answers))
  started (Err f) r =
      ap (λ (x : List Row). record { machine = record { rows = x; count = 0; clock = 0 }; answer = Err f }) (sym (places_none s))
      ∙ sym (started_refused s f (sym (same_answer s (replicate 96 0) refl) ∙ sym r.answers))
