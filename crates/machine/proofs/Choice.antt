-- Who runs after steps 1 and 2. Assumes nothing.
use mathlib.Core.Path.{◌≡◌, refl, ◌∙◌, sym}
use mathlib.Core.Bool.{Bool, true, false, not, ◌&&◌, ◌||◌, cond, true≢false}
use mathlib.Core.List.{List, [], ◌∷◌}
use Prim.Native.Nat.{ℕ, suc, ◌<◌}
use native.Mathlib.Omega.{arith}
use lib.Dec.{eqb}
use lib.ListN.{length, get_or}
use borrow.Author.Tests.{le-ltb}
use Rattle.std.specs.Option.{option_or}
use Rattle.machine.specs.declared.Stage.{Stage}
use Rattle.machine.specs.declared.Row.{Row}
use Rattle.machine.specs.Rows.{no_row, in_mask, age, Found, at, none, first_from, first, or_else, map_from, is_hyper, has_begun, has_budget}
use Rattle.machine.specs.TickRule.{younger_than, too_soon, while_hyper, enforced, begun, waiting, ready, chosen, turned}
use Rattle.machine.specs.OnePass.{place, seen_in, chosen_by, turned_row, passed_row, passed_rows}
use Rattle.machine.proofs.Searches.{none_cons, found_at, map_length, map_map}

-- steps 1 and 2 as one change of each row
pub turned_law : (clock mask : ℕ) (rows : List Row) → turned clock mask rows ≡ map_from (turned_row clock mask) 0 rows
unfolding turned turned_row
turned_law clock mask rows = map_map _ _ 0 rows

pub turned_length : (clock mask : ℕ) (rows : List Row) → length (turned clock mask rows) ≡ length rows
turned_length clock mask rows = rw (turned_law clock mask rows) (map_length (turned_row clock mask) rows 0)

-- step 1 begins no hypertask
pub begun_stays : (clock k e : ℕ) (s : Stage) → has_begun k (enforced clock k e s) ≡ has_begun k s
begun_stays clock k e Stage.Never = refl
begun_stays clock k e (Stage.Guest a u) = go (eqb (age clock a) e)
  where
    go : (b : Bool) → has_begun k (cond b (Stage.Hyper a k) (Stage.Guest a u)) ≡ false
    go true = le-ltb k k (omega arith)
    go false = refl
begun_stays clock k e (Stage.Hyper a l) = refl
begun_stays clock k e (Stage.Closed a) = refl

pub not_begun : (k : ℕ) (s : Stage) → is_hyper s ≡ false → has_begun k s ≡ false
not_begun k Stage.Never h = refl
not_begun k (Stage.Guest a u) h = refl
not_begun k (Stage.Hyper a l) h = absurd (true≢false h)
not_begun k (Stage.Closed a) h = refl

-- where no Hyper task is in the mask, those that have begun stay
pub begun_row_stays : (clock mask i : ℕ) (r : Row) → while_hyper mask i r ≡ false → begun i (turned_row clock mask i r) ≡ begun i r
unfolding turned_row
begun_row_stays clock mask i r h = go (in_mask mask i) refl
  where
    go : (b : Bool) → in_mask mask i ≡ b → begun i (turned_row clock mask i r) ≡ begun i r
    go true e = let q : is_hyper r.stage ≡ false = rw e at h in rw (e, not_begun r.k r.stage q)
    go false e = rw (e, begun_stays clock r.k r.e r.stage)

begun_all_stay : (clock mask i : ℕ) (l : List Row) → first_from (while_hyper mask) i l ≡ none
    → first_from begun i (map_from (turned_row clock mask) i l) ≡ first_from begun i l
unfolding first_from map_from
begun_all_stay clock mask i [] h = refl
begun_all_stay clock mask i (r ∷ rs) h =
    let t = none_cons (while_hyper mask) i r rs h in
    rw (begun_row_stays clock mask i r t.0, begun_all_stay clock mask (suc i) rs t.1)

-- where no arrival is refused, the pass leaves the rows as steps 1 and 2 do
passed_turned : (clock mask i : ℕ) (l : List Row) → first_from (too_soon mask clock) i l ≡ none → first_from (while_hyper mask) i l ≡ none
    → map_from (passed_row clock mask) i l ≡ map_from (turned_row clock mask) i l
unfolding map_from turned_row
passed_turned clock mask i [] s h = refl
passed_turned clock mask i (r ∷ rs) s h =
    let a = none_cons (too_soon mask clock) i r rs s in
    let b = none_cons (while_hyper mask) i r rs h in
    rw (go (in_mask mask i) (younger_than clock r.t r.stage) (is_hyper r.stage) a.0 b.0, passed_turned clock mask (suc i) rs a.1 b.1)
  where
    go : (x y z : Bool) → (x && y) ≡ false → (x && z) ≡ false → (x && (not y && not z)) ≡ x
    go true true z p q = absurd (true≢false p)
    go true false true p q = absurd (true≢false q)
    go true false false p q = refl
    go false y z p q = refl

pub passed_law : (clock mask : ℕ) (rows : List Row) → first (too_soon mask clock) rows ≡ none → first (while_hyper mask) rows ≡ none
    → passed_rows clock mask rows ≡ turned clock mask rows
unfolding passed_rows
passed_law clock mask rows s h = passed_turned clock mask 0 rows s h ∙ sym (turned_law clock mask rows)

-- who runs, by what the pass found
pub chosen_law : (clock mask : ℕ) (rows : List Row) → first (too_soon mask clock) rows ≡ none → first (while_hyper mask) rows ≡ none
    → chosen_by (seen_in clock mask rows) ≡ place (chosen (turned clock mask rows))
unfolding chosen seen_in
chosen_law clock mask rows s h =
    rw (passed_law clock mask rows s h, turned_law clock mask rows, ← begun_all_stay clock mask 0 rows h)
    (go (first begun after) (first waiting after) (first ready after))
  where
    after : List Row
    after = map_from (turned_row clock mask) 0 rows

    go : (x y z : Found) → option_or (option_or (place x) (place y)) (place z) ≡ place (or_else x (or_else y z))
    go (at i) y z = refl
    go none (at i) z = refl
    go none none z = refl

-- the chosen task is Hyper, or a Guest with budget
pub chosen_runs : (rows : List Row) (i : ℕ) → chosen rows ≡ at i
    → (i < length rows) × ((is_hyper (get_or rows i no_row).stage || has_budget (get_or rows i no_row).c (get_or rows i no_row).stage) ≡ true)
unfolding chosen
chosen_runs rows i h = go (first begun rows) refl (first waiting rows) refl (first ready rows) refl h
  where
    Runs : Type 0
    Runs = (i < length rows) × ((is_hyper (get_or rows i no_row).stage || has_budget (get_or rows i no_row).c (get_or rows i no_row).stage) ≡ true)

    begun_hyper : (k : ℕ) (s : Stage) → has_begun k s ≡ true → is_hyper s ≡ true
    begun_hyper k Stage.Never q = q
    begun_hyper k (Stage.Guest a u) q = q
    begun_hyper k (Stage.Hyper a l) q = refl
    begun_hyper k (Stage.Closed a) q = q

    budget_runs : (c : ℕ) (s : Stage) → has_budget c s ≡ true → (is_hyper s || has_budget c s) ≡ true
    budget_runs c Stage.Never q = q
    budget_runs c (Stage.Guest a u) q = q
    budget_runs c (Stage.Hyper a l) q = refl
    budget_runs c (Stage.Closed a) q = q

    go : (x : Found) → first begun rows ≡ x → (y : Found) → first waiting rows ≡ y → (z : Found) → first ready rows ≡ z
        → or_else x (or_else y z) ≡ at i → Runs
    go (at j) e y f z g q =
        let t = found_at begun rows j e in
        let same : j ≡ i = cc in
        rw (← same) (t.0, rw (begun_hyper (get_or rows j no_row).k (get_or rows j no_row).stage t.1))
    go none e (at j) f z g q =
        let t = found_at waiting rows j f in
        let same : j ≡ i = cc in
        rw (← same) (t.0, rw t.1)
    go none e none f (at j) g q =
        let t = found_at ready rows j g in
        let same : j ≡ i = cc in
        rw (← same) (t.0, budget_runs (get_or rows j no_row).c (get_or rows j no_row).stage t.1)
    go none e none f none g q = let z : ◌≡◌ {A = ℕ} 0 1 = cc in absurd (omega arith)
