-- What the text needs to know of a plan: its rows fit 128 numbers, no part is longer than the longest file, and its records come one after the other.
-- Assumes nothing.
use mathlib.Core.Path.{◌≡◌, refl, sym, ap, ◌∙◌}
use mathlib.Core.Bool.{Bool, true, false, cond}
use mathlib.Core.List.{List, [], ◌∷◌}
use Rattle.std.specs.Prelude.{None, Ok}
use Prim.Native.Nat.{ℕ, zero, suc, ◌+◌, ◌*◌, ◌/◌, ◌%◌, ◌≤◌}
use native.Mathlib.Omega.{arith}
use lib.Dec.{eqb, ltb}
use lib.ListN.{length, take, drop, replicate, length-take, length-drop}
use lib.Seq.{take_at, drop-drop, get_or-drop}
use borrow.Author.Tests.{eq-eqb, le-ltb, ltb-false}
use Rattle.plan.specs.Numbers.{table_of, AllBelow}
use Rattle.plan.specs.declared.Tick.{Tick}
use Rattle.plan.specs.Bodies.{tick_at, records_of, taken_of, after_taken, Takes}
use Rattle.plan.specs.PlanFile.{section_at, sections_from, sections_of, body_of, read_refusal, part_of, rows_kind, entry_at, count}
use Rattle.plan.specs.Answers.{Taken}
use Rattle.plan.proofs.Tests.{or_inv}
use Rattle.plan.proofs.Entries.{the_part, passed}
use Rattle.plan.proofs.Values.{numbers_length}
use Rattle.plan.proofs.Digits.{number_drop}
use Rattle.plan.proofs.Records.{length_records, records_more}
use Rattle.plan.proofs.Parts.{rows_shape}
use Rattle.plan.proofs.Plans.{meaning_plan}

-- no body is longer than its file
pub body_length : (k : ℕ) (f : List ℕ) (n i : ℕ) → length (body_of k (sections_from f i n)) ≤ length f
unfolding body_of sections_from
body_length k f zero i = omega arith
body_length k f (suc n) i = go (eqb (entry_at f i).kind k) (body_length k f n (suc i))
  where
    go : (b : Bool) → length (body_of k (sections_from f (suc i) n)) ≤ length f
        → length (cond b (section_at f i).body (body_of k (sections_from f (suc i) n))) ≤ length f
    go true h = simp (length-take, length-drop) (omega arith)
    go false h = h

module _ (f : List ℕ) (accepted : read_refusal f ≡ None) where
  pub part_short : (k : ℕ) → length (part_of k f) ≤ 65536
  unfolding sections_of
  part_short k =
      let a = or_inv (ltb (length f) 4) (ltb 65536 (length f)) (passed f accepted).length_right in
      omega (arith, ap length (the_part f k accepted), body_length k f (count f) 0, ltb-false 65536 (length f) a.1)

  module _ (bytes : AllBelow 256 f) where
    rows_fit : (length (part_of rows_kind f) ≤ 512) × (length (part_of rows_kind f) % 16 ≡ 0)
    rows_fit =
        let p = rows_shape (sections_of f) (meaning_plan f bytes accepted) in
        rw (the_part f rows_kind accepted) (p.1, p.2)

    -- the numbers of the rows, taken into 128 lent ones
    pub taken_all : taken_of (part_of rows_kind f) 128 ≡ Ok (length (part_of rows_kind f) / 4)
    unfolding taken_of
    taken_all =
        let n = length (part_of rows_kind f) in
        rw (eq-eqb (n % 4) 0 (omega (arith, rows_fit.1)), le-ltb 128 (n / 4) (omega (arith, rows_fit.0)))

    module _ (answer : Taken) (after : List ℕ) (t : Takes (part_of rows_kind f) (replicate 128 0) answer after) (n : ℕ) (e : answer ≡ Ok n) where
      taken_is : n ≡ length (part_of rows_kind f) / 4
      taken_is =
          let z : ◌≡◌ {A = Taken} (Ok n) (Ok (length (part_of rows_kind f) / 4)) = sym e ∙ t.answers ∙ taken_all in
          cc

      pub rows_few : n ≤ 128
      rows_few = omega (arith, rows_fit.0, taken_is)

      pub taken_rows : take n after ≡ table_of (part_of rows_kind f)
      taken_rows =
          ap (take n) (t.leaves ∙ ap (λ (x : Taken). after_taken x (part_of rows_kind f) (replicate 128 0)) taken_all)
          ∙ take_at (table_of (part_of rows_kind f)) (drop (length (part_of rows_kind f) / 4) (replicate 128 0)) n
          (numbers_length (part_of rows_kind f) (length (part_of rows_kind f) / 4) ∙ sym taken_is)

-- ## Records

module _ (s : List ℕ) (i : ℕ) where
  tick_later : tick_at (drop (8 * i) s) 0 ≡ tick_at s i
  tick_later =
      let e : 8 * i + 0 ≡ 8 * i = omega arith in
      rw (number_drop s (8 * i) 0, get_or-drop (8 * i) s 4 0, get_or-drop (8 * i) s 5 0, e) refl

  more_later : drop 8 (drop (8 * i) s) ≡ drop (8 * (i + 1)) s
  more_later =
      let e : 8 * i + 8 ≡ 8 * (i + 1) = omega arith in
      drop-drop 8 (8 * i) s ∙ ap (λ (k : ℕ). drop k s) e

  -- the records left after the first i are those of the bytes that follow them
  module _ (left : List Tick) (rest : left ≡ records_of (drop (8 * i) s)) where
    left_length : length left ≡ length (drop (8 * i) s) / 8
    left_length = ap length rest ∙ length_records (drop (8 * i) s)

    pub next_record : (tick : Tick) (more : List Tick) → left ≡ tick ∷ more
        → (tick ≡ tick_at s i) × (more ≡ records_of (drop (8 * (i + 1)) s)) × (i + 1 ≤ length s / 8)
    next_record tick more e =
        let n : suc (length more) ≡ length (drop (8 * i) s) / 8 = ap length (sym e) ∙ left_length in
        let z : tick ∷ more ≡ tick_at (drop (8 * i) s) 0 ∷ records_of (drop 8 (drop (8 * i) s)) =
        sym e ∙ rest ∙ records_more (drop (8 * i) s) (omega (arith, n)) in
        (cc (z, tick_later), cc (z, ap records_of more_later), omega (arith, n, length-drop (8 * i) s))

    pub no_record : left ≡ [] → i ≤ length s / 8 → i ≡ length s / 8
    no_record e fits = omega (arith, ap length (sym e) ∙ left_length, length-drop (8 * i) s, fits)
