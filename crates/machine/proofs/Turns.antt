-- The tick decides as refusals 8 to 12 do, and where it is taken the pass leaves the rows as they are after steps 1 and 2.
-- Assumes nothing.
use mathlib.Core.Path.{◌≡◌, refl, ◌∙◌, ap, sym}
use mathlib.Core.Bool.{Bool, true, false, not, ◌&&◌, ◌||◌, cond, true≢false}
use mathlib.Core.List.{List, [], ◌∷◌, ◌++◌}
use Prim.Native.Nat.{ℕ, suc, ◌+◌, ◌≤◌, ◌<◌, ◌^◌}
use native.Mathlib.Omega.{arith}
use lib.Dec.{leb, ltb, eqb}
use lib.ListN.{length, get_or, take, drop, length-append, length-drop}
use lib.Seq.{length-take-le}
use borrow.Author.Tests.{leb-true, le-leb}
use Rattle.std.specs.Prelude.{Option, Some, None, IfSome, Result, Ok, Err}
use Rattle.std.proofs.lemmas.List.{take-append-drop}
use Rattle.refusals.specs.declared.Refusal.{Refusal}
use Rattle.machine.specs.declared.Stage.{Stage}
use Rattle.machine.specs.declared.Row.{Row}
use Rattle.machine.specs.declared.Machine.{Machine}
use Rattle.machine.specs.Rows.{no_row, in_mask, Found, at, none, first, map_from, every}
use Rattle.machine.specs.WellFormed.{row_fits, is_blank, one_begun, well_formed}
use Rattle.machine.specs.TickRule.{past_last, too_soon, while_hyper, Verdict, refused, accepted, verdict}
use Rattle.machine.specs.TickRule.{enforced, begun, waiting, ready, chosen, turned, ran_on, taken, step_of}
use Rattle.machine.specs.OnePass.{passed_rows, place, found, MayRun, is_due, turned_row, places_fit, seen_in, chosen_by, or_refused, judged_by}
use Rattle.machine.proofs.Tests.{both, first_fails, and_true, and_false, not_leb, blank_never}
use Rattle.machine.proofs.Searches.{place_below, place_at, found_place, first_blank, none_at, map_append}
use Rattle.machine.proofs.Mask.{past_same}
use Rattle.machine.proofs.Verdicts.{past_in, soon_in, hyper_in, passed}
use Rattle.machine.proofs.Choice.{turned_law, turned_length, passed_law, chosen_law, chosen_runs}
use Rattle.machine.proofs.Pass.{passed_length}

-- a row that is neither in the mask nor due stays
not_enforced : (clock k e : ℕ) (s : Stage) → is_due clock e s ≡ false → enforced clock k e s ≡ s
not_enforced clock k e Stage.Never h = refl
not_enforced clock k e (Stage.Guest a u) h = rw h
not_enforced clock k e (Stage.Hyper a l) h = refl
not_enforced clock k e (Stage.Closed a) h = refl

pub row_stays : (clock mask i : ℕ) (r : Row) → (in_mask mask i || is_due clock r.e r.stage) ≡ false → turned_row clock mask i r ≡ r
unfolding turned_row
row_stays clock mask i r h = go (in_mask mask i) refl
  where
    go : (b : Bool) → in_mask mask i ≡ b → turned_row clock mask i r ≡ r
    go true e = let z : true ≡ false = rw e at h in absurd (true≢false z)
    go false e = let q : is_due clock r.e r.stage ≡ false = rw e at h in rw (e, not_enforced clock r.k r.e r.stage q)

-- blank places that no task in the mask names stay
blank_stays : (clock mask i : ℕ) (l : List Row) → every is_blank l ≡ true → ((k : ℕ) → k < length l → in_mask mask (i + k) ≡ false)
    → map_from (turned_row clock mask) i l ≡ l
unfolding map_from every
blank_stays clock mask i [] h f = refl
blank_stays clock mask i (r ∷ rs) h f =
    let t = both (is_blank r) (every is_blank rs) h in
    let z : i + 0 ≡ i = omega arith in
    let out : in_mask mask i ≡ false = rw z at (f 0 (omega arith)) in
    rw (
      row_stays clock mask i r (rw (out, blank_never r t.0)),
      blank_stays clock mask (suc i) rs t.1 (λ k lt. let y : i + suc k ≡ suc i + k = omega arith in rw y at (f (suc k) (omega arith))),
    )

-- a verdict as the tick gets it: a refusal, or the place of the task that runs
abbrev pub judged_as : Machine → ℕ → Verdict → Result (Option ℕ) Refusal
judged_as m mask (refused refusal) = Err refusal
judged_as m mask accepted = Ok (place (chosen (turned m.clock mask m.rows)))

-- a state that isn't well formed by some place
pub not_well : (m : Machine) → places_fit m.clock m.count m.rows ≡ false → well_formed m ≡ false
unfolding well_formed places_fit
not_well m h =
    go (leb 1 m.count) (leb m.count 32) (leb m.clock (2 ^ 40))
    (every (row_fits m.clock) (take m.count m.rows) && (one_begun m.rows && every is_blank (drop m.count m.rows))) h
  where
    go : (a b t r : Bool) → (b && r) ≡ false → ((a && b) && (t && r)) ≡ false
    go true true true r e = e
    go true true false r e = refl
    go true false t r e = refl
    go false b t r e = refl

module _ (m : Machine) (mask : ℕ) (long : length m.rows ≡ 32) (fit : places_fit m.clock m.count m.rows ≡ true) where
  abbrev pub table : List Row
  table = take m.count m.rows

  abbrev pub rest : List Row
  rest = drop m.count m.rows

  -- what fits
  parts : (leb m.count 32 ≡ true) × (every (row_fits m.clock) table ≡ true) × (one_begun m.rows ≡ true) × (every is_blank rest ≡ true)
  unfolding places_fit
  parts =
      let x = both (leb m.count 32) (every (row_fits m.clock) table && (one_begun m.rows && every is_blank rest)) fit in
      let y = both (every (row_fits m.clock) table) (one_begun m.rows && every is_blank rest) x.1 in
      let z = both (one_begun m.rows) (every is_blank rest) y.1 in
      (x.0, y.0, z.0, z.1)

  pub few : m.count ≤ 32
  few = leb-true m.count 32 parts.0

  table_length : length table ≡ m.count
  table_length = length-take-le m.count m.rows (omega (arith, long, few))

  unfit_law : (ltb m.count 1 || ltb (2 ^ 40) m.clock) ≡ not (well_formed m)
  unfolding well_formed
  unfit_law =
      rw (
        parts.0,
        parts.1,
        parts.2,
        parts.3,
        and_true (leb 1 m.count),
        and_true (leb m.clock (2 ^ 40)),
        not_leb 1 m.count,
        not_leb m.clock (2 ^ 40),
      ) (go (leb 1 m.count) (leb m.clock (2 ^ 40)))
    where
      go : (a b : Bool) → (not a || not b) ≡ not (a && b)
      go true b = refl
      go false b = refl

  -- a search comes to none of the places past the table
  table_only : (p : ℕ → Row → Bool) → ((i : ℕ) (r : Row) → is_blank r ≡ true → p i r ≡ false) → first p table ≡ first p m.rows
  table_only p fails = sym (rw take-append-drop at (first_blank p fails table rest parts.3))

  soon_table : first (too_soon mask m.clock) table ≡ soon_in m mask
  soon_table = table_only (too_soon mask m.clock) (λ i r h. rw (blank_never r h, and_false (in_mask mask i)))

  hyper_table : first (while_hyper mask) table ≡ hyper_in m mask
  hyper_table = table_only (while_hyper mask) (λ i r h. rw (blank_never r h, and_false (in_mask mask i)))

  soon_law : (seen_in m.clock mask table).soon ≡ place (soon_in m mask)
  unfolding seen_in
  soon_law = ap place soon_table

  hyper_law : (seen_in m.clock mask table).hyper ≡ place (hyper_in m mask)
  unfolding seen_in
  hyper_law = ap place hyper_table

  pub soon_below : IfSome (seen_in m.clock mask table).soon (λ i. i < 32)
  unfolding seen_in
  soon_below = place_below (too_soon mask m.clock) table (omega (arith, table_length, few))

  pub hyper_below : IfSome (seen_in m.clock mask table).hyper (λ i. i < 32)
  unfolding seen_in
  hyper_below = place_below (while_hyper mask) table (omega (arith, table_length, few))

  -- the machine after the pass
  abbrev pub rows_passed : List Row
  rows_passed = passed_rows m.clock mask table ++ rest

  abbrev pub passed_over : Machine
  passed_over = record { rows = rows_passed; count = m.count; clock = m.clock }

  all_length : length rows_passed ≡ length m.rows
  all_length =
      let a = passed_length m.clock mask table in
      let b = length-append table rest in
      length-append (passed_rows m.clock mask table) rest ∙ rw (a, ← b) (ap length (take-append-drop m.count m.rows))

  past_law : first (past_last mask m.count) rows_passed ≡ past_in m mask
  past_law = past_same mask m.count 0 rows_passed m.rows all_length

  -- in a tick that is taken no task in the mask is past the table
  turned_all : verdict m mask ≡ accepted → turned m.clock mask (table ++ rest) ≡ rows_passed
  turned_all ok =
      let f : ℕ → Row → Row = turned_row m.clock mask in
      let z : 0 + length table ≡ m.count = omega (arith, table_length) in
      let p = passed_law m.clock mask table (soon_table ∙ (passed m mask ok).apart) (hyper_table ∙ (passed m mask ok).free) in
      rw (p, turned_law m.clock mask table, turned_law m.clock mask (table ++ rest), map_append f 0 table rest, z)
      (ap (λ l. map_from f 0 table ++ l) (blank_stays m.clock mask m.count rest parts.3 out))
    where
      out : (k : ℕ) → k < length rest → in_mask mask (m.count + k) ≡ false
      out k lt =
          let n = none_at (past_last mask m.count) m.rows 0 (m.count + k) (passed m mask ok).known (omega (arith, length-drop m.count m.rows)) in
          let z : 0 + (m.count + k) ≡ m.count + k = omega arith in
          first_fails (in_mask mask (m.count + k)) (leb m.count (m.count + k)) (le-leb m.count (m.count + k) (omega arith)) (rw z at n)

  pub turned_rows : verdict m mask ≡ accepted → rows_passed ≡ turned m.clock mask m.rows
  turned_rows ok = sym (turned_all ok) ∙ ap (turned m.clock mask) (take-append-drop m.count m.rows)

  chosen_table : chosen (turned m.clock mask table) ≡ chosen (turned m.clock mask table ++ rest)
  unfolding chosen
  chosen_table =
      let t : List Row = turned m.clock mask table in
      let b = first_blank begun (λ i r h. rw (blank_never r h)) t rest parts.3 in
      let w = first_blank waiting (λ i r h. rw (blank_never r h)) t rest parts.3 in
      let r = first_blank ready (λ i r h. rw (blank_never r h)) t rest parts.3 in
      rw (b, w, r)

  pub runs : verdict m mask ≡ accepted → chosen_by (seen_in m.clock mask table) ≡ place (chosen (turned m.clock mask m.rows))
  runs ok =
      let s = soon_table ∙ (passed m mask ok).apart in
      let h = hyper_table ∙ (passed m mask ok).free in
      chosen_law m.clock mask table s h
      ∙ ap place (chosen_table ∙ ap (λ l. chosen (l ++ rest)) (sym (passed_law m.clock mask table s h)) ∙ ap chosen (turned_rows ok))

  pub judged_law : judged_by passed_over mask (seen_in m.clock mask table) ≡ judged_as m mask (verdict m mask)
  unfolding judged_by verdict
  judged_law = rw (past_law, soon_law, hyper_law)
      (go (well_formed m) refl (eqb m.clock (2 ^ 40)) refl (past_in m mask) refl (soon_in m mask) refl (hyper_in m mask) refl)
    where
      Judged : Type 0
      Judged = cond (ltb m.count 1 || ltb (2 ^ 40) m.clock) (Err (Refusal.NotWellFormed 0))
          (cond (eqb m.clock (2 ^ 40)) (Err (Refusal.ClockAtEnd 0))
          (or_refused Refusal.NoSuchTask (place (past_in m mask))
          (or_refused Refusal.ArrivalTooSoon (place (soon_in m mask))
          (or_refused Refusal.ArrivalWhileHyper (place (hyper_in m mask)) (Ok (chosen_by (seen_in m.clock mask table)))))))
          ≡ judged_as m mask (verdict m mask)

      go : (x : Bool) → well_formed m ≡ x → (y : Bool) → eqb m.clock (2 ^ 40) ≡ y → (p : Found) → past_in m mask ≡ p
          → (s : Found) → soon_in m mask ≡ s → (h : Found) → hyper_in m mask ≡ h → Judged
      go false e y f p q s r h t = rw (unfit_law, e)
      go true e true f p q s r h t = rw (unfit_law, e, f)
      go true e false f (at i) q s r h t = rw (unfit_law, e, f, q)
      go true e false f none q (at i) r h t = rw (unfit_law, e, f, q, r)
      go true e false f none q none r (at i) t = rw (unfit_law, e, f, q, r, t)
      go true e false f none q none r none t =
          let ok : verdict m mask ≡ accepted = rw (e, f, q, r, t) in
          rw (unfit_law, e, f, q, r, t) (ap Ok (runs ok))

  -- what the tick learns of it
  pub judged_refused : (x : Refusal) → Err x ≡ judged_by passed_over mask (seen_in m.clock mask table) → verdict m mask ≡ refused x
  judged_refused x h = go (verdict m mask) (h ∙ judged_law)
    where
      go : (v : Verdict) → Err x ≡ judged_as m mask v → v ≡ refused x
      go (refused y) e = let z : x ≡ y = cc in rw z
      go accepted e = cc

  pub judged_taken : (x : Option ℕ) → Ok x ≡ judged_by passed_over mask (seen_in m.clock mask table)
      → (verdict m mask ≡ accepted) × (x ≡ place (chosen (turned m.clock mask m.rows)))
  judged_taken x h = go (verdict m mask) refl (h ∙ judged_law)
    where
      go : (v : Verdict) → verdict m mask ≡ v → Ok x ≡ judged_as m mask v → (v ≡ accepted) × (x ≡ place (chosen (turned m.clock mask m.rows)))
      go (refused y) e q = cc
      go accepted e q = (refl, cc)

  -- the tick is taken, and x is the place that was chosen
  module _ (x : Option ℕ) (h : Ok x ≡ judged_by passed_over mask (seen_in m.clock mask table)) where
    pub room : m.clock < 2 ^ 40
    room = (passed m mask (judged_taken x h).0).room

    pub may_run : IfSome x (λ i. (i < 32) × MayRun (get_or rows_passed i no_row))
    may_run = go x (judged_taken x h).1
      where
        ok : verdict m mask ≡ accepted
        ok = (judged_taken x h).0

        all : List Row
        all = turned m.clock mask m.rows

        go : (y : Option ℕ) → y ≡ place (chosen all) → IfSome y (λ i. (i < 32) × MayRun (get_or rows_passed i no_row))
        go None e = tt
        go (Some i) e =
            let q = chosen_runs all i (place_at (chosen all) i e) in
            let lt : i < 32 = omega (arith, q.0, turned_length m.clock mask m.rows, long) in
            (lt, rw (turned_rows ok) q.1)

    pub taken_law : (signal : ℕ) (early : Bool) → ran_on m.count m.clock rows_passed signal early (found x) ≡ step_of m mask signal early
    unfolding step_of taken
    taken_law signal early =
        let t = judged_taken x h in
        rw (t.0, t.1, found_place (chosen (turned m.clock mask m.rows)), turned_rows t.0)

pub refused_law : (m : Machine) (mask signal : ℕ) (early : Bool) (x : Refusal) → verdict m mask ≡ refused x
    → step_of m mask signal early ≡ record { machine = m; answer = Err x }
unfolding step_of
refused_law m mask signal early x h = rw h
