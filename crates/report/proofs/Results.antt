-- The rows' lines from the analysis's results. Assumes nothing.
use mathlib.Core.Path.{◌≡◌, refl, sym, ap, ◌∙◌}
use mathlib.Core.List.{List, ◌∷◌, ◌++◌}
use Prim.Native.Nat.{ℕ, ◌+◌, ◌*◌, ◌/◌, ◌≤◌, ◌<◌}
use native.Mathlib.Omega.{arith}
use lib.ListN.{length, get_or, drop}
use Rattle.std.specs.Prelude.{Ok}
use Rattle.least.specs.Lists.{flat}
use Rattle.least.proofs.Lists.{flat_at, flat_same}
use Rattle.equations.specs.Table.{T, D, C, K}
use Rattle.equations.specs.Hypertask.{response, value_of, E}
use Rattle.equations.specs.Guest.{guest}
use Rattle.equations.specs.Analysis.{analysis, three_of, results, results_after}
use Rattle.equations.proofs.Exactly.{passes}
use Rattle.start.specs.Start.{start_answer}
use Rattle.start.proofs.Places.{same_answer}
use Rattle.report.specs.Report.{row_lines}
use Rattle.text.specs.Lines.{row_line}
use Rattle.report.specs.Inside.{result_line}
use Rattle.report.proofs.Lines.{from_front}

-- the line of row i
abbrev row_at : List ℕ → ℕ → List ℕ
row_at s i = row_line (i + 1) (T s i ∷ D s i ∷ C s i ∷ K s i ∷ three_of s i)

module _ (s rest : List ℕ) (n : ℕ) where
  abbrev x : List ℕ
  x = results s n ++ rest

  first_at : (j : ℕ) → j < n → get_or x (3 * j) 0 ≡ value_of (response s j)
  first_at j h =
      let z : 3 * j + 0 ≡ 3 * j = omega arith in
      ap (λ (k : ℕ). get_or x k 0) (sym z) ∙ flat_at (three_of s) 3 (λ i. refl) n j 0 rest 0 h (omega arith)

  second_at : (j : ℕ) → j < n → get_or x (3 * j + 1) 0 ≡ E s j
  second_at j h = flat_at (three_of s) 3 (λ i. refl) n j 1 rest 0 h (omega arith)

  third_at : (j : ℕ) → j < n → get_or x (3 * j + 2) 0 ≡ value_of (guest s j)
  third_at j h = flat_at (three_of s) 3 (λ i. refl) n j 2 rest 0 h (omega arith)

  lines_as : flat (result_line s x) n ≡ row_lines s 0 n
  unfolding row_lines
  lines_as =
      flat_same (result_line s x) (row_at s) n (λ i b. rw (first_at i b, second_at i b, third_at i b))
      ∙ sym (from_front (row_at s) (row_lines s) (λ i. refl) (λ i k. refl) n)

-- the results that an accepted table leaves
module _ (s lent : List ℕ) (n : ℕ) (room : length lent ≡ 96) (accepted : start_answer s ≡ Ok n) where
  analysed : analysis s (length lent) ≡ Ok n
  analysed = same_answer s lent room ∙ accepted

  pub tasks_few : n ≤ 32
  tasks_few = let p = passes s (length lent) n analysed in omega (arith, p.tasks, p.shape.few)

  pub tasks_are : length s / 4 ≡ n
  tasks_are = sym (passes s (length lent) n analysed).tasks

  pub row_lines_lem : flat (result_line s (results_after s lent)) n ≡ row_lines s 0 n
  unfolding results_after
  row_lines_lem = rw analysed (lines_as s (drop (3 * n) lent) n)
