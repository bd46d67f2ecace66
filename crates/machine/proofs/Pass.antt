-- The pass over the rows, from the first to the last, finds what the searches find, and turns the rows on its way. Assumes
-- nothing.
use mathlib.Core.Path.{◌≡◌, refl, ◌∙◌, ap, sym}
use mathlib.Core.Bool.{Bool, true, false, not, cond, ◌&&◌, true≢false}
use mathlib.Core.List.{List, [], ◌∷◌, ◌++◌, append-nil}
use Prim.Native.Nat.{ℕ, suc, ◌+◌, ◌≤◌, ◌<◌}
use native.Mathlib.Numerals.{add-one}
use native.Mathlib.Omega.{arith}
use lib.Dec.{leb}
use lib.ListN.{length, get_or, set, take, drop, drop_of_length-le}
use lib.Seq.{take-suc, length-take-le, take_all, drop-cons, get_or_at, set_at, append_snoc}
use borrow.Author.Tests.{leb-false, le-leb, lt-leb, not-true, not-false}
use Rattle.std.specs.Prelude.{None, is_some, Ok, Err}
use Rattle.std.proofs.lemmas.List.{take-append-drop}
use Rattle.std.proofs.lemmas.List.Folds.{list_all_at, list_all_more}
use Rattle.refusals.specs.declared.Refusal.{Refusal}
use Rattle.machine.specs.declared.Row.{Row}
use Rattle.machine.specs.declared.Seen.{Seen}
use Rattle.machine.specs.Rows.{no_row, in_mask, Found, at, none, first_from, first, map_from, every, how_many, has_begun}
use Rattle.machine.specs.WellFormed.{row_fits, is_blank, begun_row}
use Rattle.machine.specs.TickRule.{too_soon, while_hyper, begun, waiting, ready}
use Rattle.machine.specs.OnePass.{place, passed_row, passed_rows, second_begun, row_seen, seen_in, places_fit, answer_if}
use Rattle.machine.proofs.Tests.{both, and_false, blank_never}
use Rattle.machine.proofs.Searches.{place_more, map_append, map_length, every_law, count_more, count_take, count_blank, none_found, some_found}

-- the first i rows have been seen, and stand as the pass leaves them
pub record Passing (clock mask : ℕ) (all : List Row) (i : ℕ) (w : Seen) (rows : List Row) : Type 0 where
  pub seen : w ≡ seen_in clock mask (take i all)
  pub so_far : rows ≡ passed_rows clock mask (take i all) ++ drop i all
  pub fit : every (row_fits clock) (take i all) ≡ true
  pub one : how_many begun_row (take i all) ≤ 1

pub pass_begins : (clock mask : ℕ) (all : List Row) (w : Seen)
    → (w.soon ≡ None) × (w.hyper ≡ None) × (w.begun ≡ None) × (w.waiting ≡ None) × (w.ready ≡ None) → Passing clock mask all 0 w all
unfolding first_from every how_many seen_in passed_rows map_from
pass_begins clock mask all w e =
    record {
      seen = λ i. record { soon = e.0 i; hyper = e.1 i; begun = e.2 i; waiting = e.3 i; ready = e.4 i };
      so_far = refl;
      fit = refl;
      one = omega arith;
    }

pub passed_length : (clock mask : ℕ) (l : List Row) → length (passed_rows clock mask l) ≡ length l
unfolding passed_rows
passed_length clock mask l = map_length (passed_row clock mask) l 0

-- one row more
passed_more : (clock mask : ℕ) (l : List Row) (r : Row)
    → passed_rows clock mask (l ++ (r ∷ [])) ≡ passed_rows clock mask l ++ (passed_row clock mask (length l) r ∷ [])
unfolding passed_rows map_from
passed_more clock mask l r =
    let z : 0 + length l ≡ length l = omega arith in
    rw z at (map_append (passed_row clock mask) 0 l (r ∷ []))

-- what it shows
seen_row : (clock mask : ℕ) (l : List Row) (r : Row)
    → row_seen clock (in_mask mask (length l)) (length l) r (seen_in clock mask l) ≡ seen_in clock mask (l ++ (r ∷ []))
unfolding seen_in row_seen
seen_row clock mask l r =
    rw (
      passed_more clock mask l r,
      place_more begun l r,
      place_more (too_soon mask clock) l r,
      place_more (while_hyper mask) l r,
      place_more waiting (passed_rows clock mask l) (passed_row clock mask (length l) r),
      place_more ready (passed_rows clock mask l) (passed_row clock mask (length l) r),
      passed_length clock mask l,
    )

-- what an answer says
pub answered : {T : Type 0} (b : Bool) (x y : T) → Ok y ≡ answer_if b x → (b ≡ true) × (y ≡ x)
answered true x y h = (refl, cc)
answered false x y h = cc

pub not_answered : {T : Type 0} (b : Bool) (x : T) (y : Refusal) → Err y ≡ answer_if b x → (b ≡ false) × (y ≡ Refusal.NotWellFormed 0)
not_answered true x y h = cc
not_answered false x y h = (refl, cc)

-- every row fits, and one at most has begun
abbrev rows_fit : ℕ → List Row → Bool
rows_fit clock l = every (row_fits clock) l && leb (how_many begun_row l) 1

-- one place further
module _ (clock mask : ℕ) (all : List Row) (i : ℕ) (w : Seen) (rows : List Row) (lt : i < length all) (p : Passing clock mask all i w rows) where
  abbrev pub row : Row
  row = get_or all i no_row

  seen_length : length (take i all) ≡ i
  seen_length = length-take-le i all (omega arith)

  done : length (passed_rows clock mask (take i all)) ≡ i
  done = passed_length clock mask (take i all) ∙ seen_length

  cut : rows ≡ passed_rows clock mask (take i all) ++ row ∷ drop (suc i) all
  cut = p.so_far ∙ rw (drop-cons all i no_row lt)

  pub reads : get_or rows i no_row ≡ row
  reads = rw cut (get_or_at (passed_rows clock mask (take i all)) row (drop (suc i) all) no_row i done)

  one_more : take (i + 1) all ≡ take i all ++ (row ∷ [])
  one_more = rw add-one (take-suc all i no_row lt)

  count_on : how_many begun_row (take (i + 1) all)
      ≡ cond (has_begun row.k row.stage) (suc (how_many begun_row (take i all))) (how_many begun_row (take i all))
  count_on = rw one_more (count_more begun_row (take i all) row)

  -- whether one has begun already
  begun_is : is_some w.begun ≡ is_some (place (first begun (take i all)))
  unfolding seen_in
  begun_is = ap (λ v. is_some v.begun) p.seen

  none_before : is_some w.begun ≡ false → how_many begun_row (take i all) ≡ 0
  none_before h = go (first begun (take i all)) refl (sym begun_is ∙ h)
    where
      go : (f : Found) → first begun (take i all) ≡ f → is_some (place f) ≡ false → how_many begun_row (take i all) ≡ 0
      go (at x) e q = absurd (true≢false q)
      go none e q = none_found begun begun_row (λ j r. refl) 0 (take i all) e

  some_before : is_some w.begun ≡ true → 1 ≤ how_many begun_row (take i all)
  some_before h = go (first begun (take i all)) refl (sym begun_is ∙ h)
    where
      go : (f : Found) → first begun (take i all) ≡ f → is_some (place f) ≡ true → 1 ≤ how_many begun_row (take i all)
      go (at x) e q = some_found begun begun_row (λ j r. refl) 0 x (take i all) e
      go none e q = absurd (true≢false (sym q))

  -- a row that ends the pass
  pub pass_ends : (row_fits clock row && not (second_begun row w)) ≡ false → rows_fit clock all ≡ false
  pass_ends h = go (row_fits clock row) refl h
    where
      go : (b : Bool) → row_fits clock row ≡ b → (b && not (second_begun row w)) ≡ false → rows_fit clock all ≡ false
      go false e q = rw (every_law (row_fits clock) all, list_all_at (row_fits clock) all i no_row lt e)
      go true e q =
          let t = both (has_begun row.k row.stage) (is_some w.begun) (not-false (second_begun row w) q) in
          let c : how_many begun_row (take (i + 1) all) ≡ suc (how_many begun_row (take i all)) = count_on ∙ rw t.0 in
          let more : 1 < how_many begun_row all = omega (arith, some_before t.1, count_take begun_row all (i + 1)) in
          rw (lt-leb (how_many begun_row all) 1 more, and_false (every (row_fits clock) all))

  -- a row that fits
  module _ (h : (row_fits clock row && not (second_begun row w)) ≡ true) where
    fits : row_fits clock row ≡ true
    fits = (both (row_fits clock row) (not (second_begun row w)) h).0

    first_begun : second_begun row w ≡ false
    first_begun = not-true (second_begun row w) (both (row_fits clock row) (not (second_begun row w)) h).1

    one_on : how_many begun_row (take (i + 1) all) ≤ 1
    one_on = rw count_on (go (has_begun row.k row.stage) refl)
      where
        go : (b : Bool) → has_begun row.k row.stage ≡ b
            → cond b (suc (how_many begun_row (take i all))) (how_many begun_row (take i all)) ≤ 1
        go true e = let q : is_some w.begun ≡ false = rw e at first_begun in omega (arith, none_before q)
        go false e = p.one

    pub pass_on : Passing clock mask all (i + 1) (row_seen clock (in_mask mask i) i row w) (set rows i (passed_row clock mask i row))
    pass_on =
        record {
          seen = ap (row_seen clock (in_mask mask i) i row) p.seen ∙ (rw seen_length at (seen_row clock mask (take i all) row)) ∙ rw one_more;
          so_far = rw (
            cut,
            set_at (passed_rows clock mask (take i all)) row (drop (suc i) all) (passed_row clock mask i row) i done,
            one_more,
            passed_more clock mask (take i all) row,
            seen_length,
            append_snoc,
            add-one,
          );
          fit = rw (
            every_law (row_fits clock) (take (i + 1) all),
            list_all_more (row_fits clock) all i no_row lt,
            ← every_law (row_fits clock) (take i all),
            p.fit,
            fits,
          );
          one = one_on;
        }

-- over all: the rows of the table, and the places past them
module _ (clock count : ℕ) (all : List Row) where
  abbrev table : List Row
  table = take count all

  abbrev rest : List Row
  rest = drop count all

  pub too_many : 32 < count → places_fit clock count all ≡ false
  unfolding places_fit
  too_many h = rw (lt-leb count 32 h)

  pub table_unfit : rows_fit clock table ≡ false → places_fit clock count all ≡ false
  unfolding places_fit
  table_unfit h = go (every (row_fits clock) table) refl h
    where
      go : (b : Bool) → every (row_fits clock) table ≡ b → (b && leb (how_many begun_row table) 1) ≡ false
          → (leb count 32 && (every (row_fits clock) table && (leb (how_many begun_row all) 1 && every is_blank rest))) ≡ false
      go false e q = rw (e, and_false (leb count 32))
      go true e q =
          let more : 1 < how_many begun_row all = omega (arith, leb-false (how_many begun_row table) 1 q, count_take begun_row all count) in
          rw (lt-leb (how_many begun_row all) 1 more, and_false (every (row_fits clock) table), and_false (leb count 32))

  pub rest_unfit : every is_blank rest ≡ false → places_fit clock count all ≡ false
  unfolding places_fit
  rest_unfit h =
      rw (h, and_false (leb (how_many begun_row all) 1), and_false (every (row_fits clock) table), and_false (leb count 32))

  -- the pass has come to the end of the table
  module _ (mask n : ℕ) (w : Seen) (rows : List Row) (end : length table ≤ n) (p : Passing clock mask table n w rows) where
    all_rows : take n table ≡ table
    all_rows = take_all n table end

    pub shows : w ≡ seen_in clock mask table
    shows = rw all_rows at p.seen

    pub leaves : rows ≡ passed_rows clock mask table
    leaves = p.so_far ∙ rw (all_rows, drop_of_length-le table {i = n} end) (append-nil (passed_rows clock mask table))

    pub all_fit : count ≤ 32 → every is_blank rest ≡ true → places_fit clock count all ≡ true
    unfolding places_fit
    all_fit most blank =
        let fit : every (row_fits clock) table ≡ true = rw all_rows at p.fit in
        let one : how_many begun_row table ≤ 1 = rw all_rows at p.one in
        let e : how_many begun_row all ≡ how_many begun_row table =
        rw take-append-drop at (count_blank begun_row (λ r h. rw (blank_never r h)) table rest blank) in
        rw (le-leb count 32 most, fit, le-leb (how_many begun_row all) 1 (omega (arith, e)), blank)
