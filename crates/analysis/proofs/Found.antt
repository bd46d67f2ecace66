-- Laws of the responses that stand in an array: one row more.
-- Assumes nothing.
use mathlib.Core.Path.{◌≡◌, sym, ap, subst}
use mathlib.Core.List.{List, ◌++◌}
use Rattle.std.specs.Prelude.{Ok}
use Prim.Native.Nat.{ℕ, ◌+◌, ◌-◌, ◌*◌, ◌≤◌, ◌<◌}
use native.Mathlib.Decide.{ℕ_discrete as dec_eq}
use native.Mathlib.Omega.{arith}
use lib.ListN.{length, set, take, drop, length-set, length-take}
use Rattle.std.proofs.Common.{get_or-take}
use Rattle.std.proofs.lemmas.List.{length-drop}
use lib.Seq.{get_or-set_same, get_or-set_other}
use Rattle.least.specs.Lists.{flat}
use Rattle.least.proofs.Lists.{flat_same}
use Rattle.equations.specs.Table.{D}
use Rattle.equations.specs.Hypertask.{response, value_of, E}
use Rattle.equations.specs.Guest.{guest}
use Rattle.equations.specs.Analysis.{three_of, results}
use Rattle.equations.proofs.Bounds.{T≤, D≤, E≤D}
use Rattle.equations.proofs.Jobs.{response≤, guest≤, offset_is}
use Rattle.equations.proofs.Checks.{rows_start, rows_stop, rows_next, rows_end}
use Rattle.analysis.specs.Inside.{nothing, at_row, Hypertasks, Guests, three_at}
use Rattle.analysis.specs.declared.results.Responses.{Responses}

-- what holds at n after a store there, and at each other place before it, holds at each
stored : (l : List Responses) (n : ℕ) (x : Responses) (P : ℕ → Responses → Type 0) → n < length l → P n x
    → (j : ℕ) → ((j ≡ n → ⊥) → P j (at_row l j)) → P j (at_row (set l n x) j)
stored l n x P h here j other = by (dec_eq j n)
  where
    by : Dec (j ≡ n) → P j (at_row (set l n x) j)
    by (yes e) = rw e (rw (get_or-set_same l n x nothing h) here)
    by (no e) = rw (get_or-set_other l n j x nothing e) (other e)

module _ (s : List ℕ) (found : List Responses) (i : ℕ) (b : i < 32) where
  pub hypertasks_more : (d r : ℕ) → Hypertasks s found i → d ≡ D s i → response s i ≡ Ok r
      → Hypertasks s (set found i (record { r = r; e = d - r; g = 0 })) (i + 1)
  hypertasks_more d r f e q =
      let x : Responses = record { r = r; e = d - r; g = 0 } in
      record {
        long = simp length-set f.long;
        r = λ j p. stored found i x (λ k y. response s k ≡ Ok y.r) (omega (arith, f.long)) q j (λ o. f.r j (omega arith));
        e = λ j p. stored found i x (λ k y. y.e ≡ E s k) (omega (arith, f.long)) (rw e (sym (offset_is s i r q))) j (λ o. f.e j (omega arith));
      }

  -- G of a row beside its R and E
  pub hypertasks_keep : (n g : ℕ) → Hypertasks s found n
      → Hypertasks s (set found i (record { r = (at_row found i).r; e = (at_row found i).e; g = g })) n
  hypertasks_keep n g f =
      let x : Responses = record { r = (at_row found i).r; e = (at_row found i).e; g = g } in
      record {
        long = simp length-set f.long;
        r = λ j. stored found i x (λ k y. k < n → response s k ≡ Ok y.r) (omega (arith, f.long)) (f.r i) j (λ o. f.r j);
        e = λ j. stored found i x (λ k y. k < n → y.e ≡ E s k) (omega (arith, f.long)) (f.e i) j (λ o. f.e j);
      }

  pub guests_more : (g n : ℕ) → Hypertasks s found n → Guests s found i → guest s i ≡ Ok g
      → Guests s (set found i (record { r = (at_row found i).r; e = (at_row found i).e; g = g })) (i + 1)
  guests_more g n h f q =
      let x : Responses = record { r = (at_row found i).r; e = (at_row found i).e; g = g } in
      record { g = λ j p. stored found i x (λ k y. guest s k ≡ Ok y.g) (omega (arith, h.long)) q j (λ o. f.g j (omega arith)) }

-- rows written at the front of the array, and the places after them as they were
pub filled : (s : List ℕ) (front all : List Responses) (k i n : ℕ) → length front ≡ k → k ≤ 32 → length all ≡ 32 → i ≡ n
    → ((rest : List Responses) → length front + length rest ≡ 32 → Hypertasks s (front ++ rest) i) → Hypertasks s (front ++ drop k all) n
filled s front all k i n a b c e f = subst (Hypertasks s (front ++ drop k all)) e (f (drop k all) (omega (arith, length-drop k all)))

-- the first n rows of the array hold the definition's results
pub results_are : (s : List ℕ) (found : List Responses) (n : ℕ) → Hypertasks s found n → Guests s found n → (lent : List ℕ) → n ≤ 32
    → flat (three_at (take n found)) (length (take n found)) ++ drop (3 * length (take n found)) lent ≡ results s n ++ drop (3 * n) lent
results_are s found n f g lent h =
    let z : length (take n found) ≡ n = omega (arith, length-take n found, f.long) in
    rw (z, flat_same (three_at (take n found)) (three_of s) n row)
  where
    row : (j : ℕ) → j < n → three_at (take n found) j ≡ three_of s j
    row j b =
        let same : at_row (take n found) j ≡ at_row found j = get_or-take n found j nothing b in
        let r : (at_row found j).r ≡ value_of (response s j) = sym (ap value_of (f.r j b)) in
        let x : (at_row found j).g ≡ value_of (guest s j) = sym (ap value_of (g.g j b)) in
        rw (same, r, f.e j b, x)

-- what a loop over the rows goes by
pub ruleset rowwise = (rows_start, rows_stop, rows_next, rows_end, T≤, D≤, E≤D, response≤, guest≤, hypertasks_more, hypertasks_keep, guests_more)
