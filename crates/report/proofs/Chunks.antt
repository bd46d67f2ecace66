-- A table and its results in rows, as `as_chunks` cuts them, and one turn of a loop over both. Assumes nothing.
use Rattle.std.proofs.Common.{◌≡◌, ℕ, zero, suc, ◌+◌, ◌*◌, ◌/◌, ◌<◌, List, [], ◌∷◌, length, get_or, drop, add-zero, zero-add, min, refl, ap, ◌∙◌, arith}
use Rattle.std.proofs.Common.{get_or-take, get_or-drop}
use Rattle.std.proofs.lemmas.List.{same_lists}
use Rattle.std.proofs.lemmas.List.FromFn.{length-enumerate_from, get_or-enumerate_from}
use Rattle.std.proofs.lemmas.Slice.Zip.{length-zip, get_or-zip}
use Rattle.std.specs.Array.{IsMapOf}
use Rattle.std.specs.Fn.{Called}
use Rattle.std.specs.List.{zip, enumerate_from}
use Rattle.std.specs.Simd.{first_chunks}
use Rattle.text.specs.Lines.{row_line}
use Rattle.report.specs.Inside.{result_line}
use denote.Param.Members.{Mut}

-- number i of row j
chunk_at : (w k : ℕ) (s : List ℕ) (j i : ℕ) (d : List ℕ) → j < k → i < w → get_or (get_or (first_chunks w k s) j d) i 0 ≡ get_or s (w * j + i) 0
chunk_at w zero s j i d h g = absurd (omega arith)
chunk_at w (suc k) s zero i d h g = let e : w * 0 + i ≡ i = omega arith in get_or-take w s i 0 g ∙ rw e
chunk_at w (suc k) s (suc j) i d h g =
    let e : w + (w * j + i) ≡ w * suc j + i = omega arith in
    chunk_at w k (drop w s) j i d (omega arith) g ∙ get_or-drop w s (w * j + i) 0 ∙ rw e

length_chunks : (w k : ℕ) (s : List ℕ) → length (first_chunks w k s) ≡ k
length_chunks w zero s = refl
length_chunks w (suc k) s = ap suc (length_chunks w k (drop w s))

-- numbers made of numbers one by one, each its own
module _ {F : Type 0} (g : Mut F (ℕ × Unit {0}) ℕ) (same : (p q : F) (x y : ℕ) → Called g p (x, tt) y q → y ≡ x) where
  pub widened : (f : F) (xs ys : List ℕ) → IsMapOf g f xs ys (length xs) → ys ≡ xs
  widened f xs ys m = same_lists ys xs m.long (λ k d h. let w = m.at k d d (omega (arith, m.long)) in same _ _ _ _ w.2)

module _ (s x : List ℕ) (rows results : List (List ℕ)) (first : rows ≡ first_chunks 4 (length s / 4) s)
    (second : results ≡ first_chunks 3 (length x / 3) x) where
  abbrev items : List (ℕ × (List ℕ × List ℕ))
  items = enumerate_from 0 (zip rows results)

  -- the item of a turn after k others: the row's line is line k
  module _ (k i : ℕ) (row result : List ℕ) (h : k < length items)
      (e : ◌≡◌ {A = ℕ × (List ℕ × List ℕ)} (i, (row, result)) (get_or items k (i, (row, result)))) where
    rows_long : length rows ≡ length s / 4
    rows_long = ap length first ∙ length_chunks 4 (length s / 4) s

    results_long : length results ≡ length x / 3
    results_long = ap length second ∙ length_chunks 3 (length x / 3) x

    inside : k < min (length rows) (length results)
    inside = omega (arith, h, length-enumerate_from 0 (zip rows results), length-zip rows results)

    pair : ◌≡◌ {A = ℕ × (List ℕ × List ℕ)} (i, (row, result)) (k, (get_or rows k row, get_or results k result))
    pair =
        e ∙ get_or-enumerate_from 0 (zip rows results) k (i, (row, result)) (omega (arith, length-enumerate_from 0 (zip rows results), h))
        ∙ rw (zero-add, get_or-zip rows results k (row, result) (omega (arith, inside)) (omega (arith, inside)))

    fours : (j : ℕ) → j < 4 → get_or (get_or rows k row) j 0 ≡ get_or s (4 * k + j) 0
    fours j g = rw first (chunk_at 4 (length s / 4) s k j row (omega (arith, inside, rows_long)) g)

    threes : (j : ℕ) → j < 3 → get_or (get_or results k result) j 0 ≡ get_or x (3 * k + j) 0
    threes j g = rw second (chunk_at 3 (length x / 3) x k j result (omega (arith, inside, results_long)) g)

    abbrev seven : List ℕ → List ℕ → List ℕ
    seven a b = get_or a 0 0 ∷ get_or a 1 0 ∷ get_or a 2 0 ∷ get_or a 3 0 ∷ get_or b 0 0 ∷ get_or b 1 0 ∷ get_or b 2 0 ∷ []

    pub line_turn : (numbers : List ℕ) → numbers ≡ seven row result → row_line (i + 1) numbers ≡ result_line s x k
    line_turn numbers n =
        ap (row_line (i + 1)) n ∙ ap (λ (p : ℕ × (List ℕ × List ℕ)). row_line (p.0 + 1) (seven p.1.0 p.1.1)) pair
        ∙ rw (
          fours 0 (omega arith),
          fours 1 (omega arith),
          fours 2 (omega arith),
          fours 3 (omega arith),
          threes 0 (omega arith),
          threes 1 (omega arith),
          threes 2 (omega arith),
          add-zero (4 * k),
          add-zero (3 * k),
        )
