-- An accepted tick of a well formed machine gives a well formed machine. Assumes nothing.
use mathlib.Core.Path.{◌≡◌, refl, ◌∙◌, ap, sym}
use mathlib.Core.Bool.{Bool, true, false, not, cond, ◌&&◌, ◌||◌, true≢false}
use mathlib.Core.List.{List}
use Prim.Native.Nat.{ℕ, ◌+◌, ◌≤◌, ◌<◌, ◌^◌}
use native.Mathlib.Nat.{zero-add}
use native.Mathlib.Omega.{arith}
use lib.Dec.{leb, ltb, eqb}
use lib.ListN.{length, get_or, set, length-set}
use lib.Seq.{get_or-set_same, get_or-set_other}
use borrow.Author.Tests.{ltb-false, eqb-true, eqb-false, le-leb, not-false}
use Rattle.std.specs.Prelude.{Err}
use Rattle.refusals.specs.declared.Refusal.{Refusal}
use Rattle.machine.specs.declared.Stage.{Stage}
use Rattle.machine.specs.declared.Row.{Row}
use Rattle.machine.specs.declared.Machine.{Machine}
use Rattle.machine.specs.Answers.{Answer}
use Rattle.machine.specs.Rows.{no_row, with_stage, in_mask, Found, at, none, first, or_else, how_many, is_hyper, has_begun, has_budget}
use Rattle.machine.specs.WellFormed.{fields_fit, stage_fits, row_fits, begun_row, is_blank, well_formed}
use Rattle.machine.specs.TickRule.{past_last, too_soon, while_hyper, refuse_at, Verdict, refused, accepted}
use Rattle.machine.specs.TickRule.{verdict, enforced, begun, waiting, ready, chosen, ran_from}
use Rattle.machine.specs.TickRule.{turned, ran_on, taken, step_by, step_of}
use Rattle.machine.specs.OnePass.{misplaced, turned_row}
use Rattle.machine.proofs.Tests.{both, first_fails, fields_say, blank_never}
use Rattle.machine.proofs.Searches.{found_at, none_at, all_none, map_at}
use Rattle.machine.proofs.Verdicts.{well_law, Formed, formed, Passed, passed}
use Rattle.machine.proofs.Choice.{turned_law, turned_length, begun_stays, not_begun, chosen_runs}
use Rattle.machine.proofs.Turns.{row_stays}
use Rattle.machine_laws.proofs.Counts.{count_map, count_none, count_set, one_or_none}
use Rattle.machine_laws.proofs.Stages.{enforced_fits, arrived_fits, ran_fits}

-- the parts make a well formed state
pub well : (m : Machine) → Formed m → well_formed m ≡ true
well m f =
    rw (
      well_law m,
      le-leb 1 m.count f.some,
      le-leb m.count 32 f.most,
      le-leb m.clock (2 ^ 40) f.time,
      f.each,
      le-leb (how_many begun_row m.rows) 1 f.one,
    )

-- a row of the table, and a place past it, after steps 1 and 2
row_next : (clock mask i : ℕ) (r : Row) → row_fits clock r ≡ true → row_fits (clock + 1) (turned_row clock mask i r) ≡ true
unfolding fields_fit turned_row
row_next clock mask i r h =
    let x = both (fields_fit r) (stage_fits clock r.c r.k r.e r.stage) h in
    let f = fields_say r x.0 in
    rw x.0 (go (in_mask mask i) f.some_hypertask f.some_offset x.1)
  where
    go : (b : Bool) → 1 ≤ r.k → 1 ≤ r.e → stage_fits clock r.c r.k r.e r.stage ≡ true
        → stage_fits (clock + 1) r.c r.k r.e (cond b (Stage.Guest clock 0) (enforced clock r.k r.e r.stage)) ≡ true
    go true k e s = arrived_fits clock r.c r.k r.e e
    go false k e s = enforced_fits clock r.c r.k r.e r.stage k s

blank_next : (clock mask i : ℕ) (r : Row) → in_mask mask i ≡ false → is_blank r ≡ true → is_blank (turned_row clock mask i r) ≡ true
blank_next clock mask i r b h = rw (row_stays clock mask i r (rw (b, blank_never r h))) h

-- steps 1 and 2 begin no hypertask, and no arrival meets one
begun_same : (clock mask i : ℕ) (r : Row) → while_hyper mask i r ≡ false → begun_row (turned_row clock mask i r) ≡ begun_row r
unfolding turned_row
begun_same clock mask i r h = go (in_mask mask i) h
  where
    go : (b : Bool) → (b && is_hyper r.stage) ≡ false
        → has_begun r.k (cond b (Stage.Guest clock 0) (enforced clock r.k r.e r.stage)) ≡ has_begun r.k r.stage
    go true q = sym (not_begun r.k r.stage q)
    go false q = begun_stays clock r.k r.e r.stage

-- a place is as it should be at this clock
abbrev pub Placed : ℕ → ℕ → ℕ → Row → Type 0
Placed clock count i r = misplaced clock count i r ≡ false

pub placed_none : (clock count : ℕ) (rows : List Row) → ((k : ℕ) → k < length rows → Placed clock count k (get_or rows k no_row))
    → first (misplaced clock count) rows ≡ none
placed_none clock count rows f = all_none (misplaced clock count) rows 0 (λ k h. rw (zero-add k) (f k h))

pub none_placed : (clock count : ℕ) (rows : List Row) → first (misplaced clock count) rows ≡ none
    → (k : ℕ) → k < length rows → Placed clock count k (get_or rows k no_row)
none_placed clock count rows h k lt = rw (zero-add k) at (none_at (misplaced clock count) rows 0 k h lt)

-- a task that runs is in the table, and its place stays as it should be
runs_placed : (clock count task signal i : ℕ) (early : Bool) (r : Row) → (is_hyper r.stage || has_budget r.c r.stage) ≡ true
    → Placed clock count i r → Placed clock count i (with_stage r (ran_from task signal early r.c r.stage).stage)
unfolding fields_fit
runs_placed clock count task signal i early r runs p = go (ltb i count) p
  where
    never_runs : (s : Stage) → s ≡ Stage.Never → (is_hyper s || has_budget r.c s) ≡ true → true ≡ false
    never_runs s e h = sym (rw e at h)

    go : (x : Bool) → not (cond x (row_fits clock r) (is_blank r)) ≡ false
        → not (cond x (row_fits clock (with_stage r (ran_from task signal early r.c r.stage).stage))
        (is_blank (with_stage r (ran_from task signal early r.c r.stage).stage))) ≡ false
    go true h =
        let x = both (fields_fit r) (stage_fits clock r.c r.k r.e r.stage) (not-false (row_fits clock r) h) in
        rw (x.0, ran_fits task signal early clock r.c r.k r.e r.stage runs x.1)
    go false h = absurd (true≢false (never_runs r.stage (blank_never r (not-false (is_blank r) h)) runs))

-- a guest that ran has begun no hypertask
guest_begins_none : (task signal : ℕ) (early : Bool) (c k : ℕ) (s : Stage) → has_budget c s ≡ true
    → has_begun k (ran_from task signal early c s).stage ≡ false
guest_begins_none task signal early c k Stage.Never h = refl
guest_begins_none task signal early c k (Stage.Guest a u) h = go (eqb signal task) refl
  where
    go : (x : Bool) → eqb signal task ≡ x → has_begun k (ran_from task signal early c (Stage.Guest a u)).stage ≡ false
    go true e = rw e
    go false e = rw e
guest_begins_none task signal early c k (Stage.Hyper a l) h = absurd (true≢false (sym h))
guest_begins_none task signal early c k (Stage.Closed a) h = refl

-- at most one hypertask has begun, also after the chosen task ran
one_stays : (rows : List Row) (i signal : ℕ) (early : Bool) → chosen rows ≡ at i → how_many begun_row rows ≤ 1
    → how_many begun_row
    (set rows i (with_stage (get_or rows i no_row) (ran_from (i + 1) signal early (get_or rows i no_row).c (get_or rows i no_row).stage).stage)) ≤ 1
unfolding chosen
one_stays rows i signal early c one = go (first begun rows) refl (first waiting rows) refl (first ready rows) refl c
  where
    r : Row
    r = get_or rows i no_row

    q : Row
    q = with_stage r (ran_from (i + 1) signal early r.c r.stage).stage

    go : (x : Found) → first begun rows ≡ x → (y : Found) → first waiting rows ≡ y → (z : Found) → first ready rows ≡ z
        → or_else x (or_else y z) ≡ at i → how_many begun_row (set rows i q) ≤ 1
    go (at j) e y f z g h =
        let same : j ≡ i = cc in
        let t = found_at begun rows i (rw same at e) in
        omega (arith, rw t.1 at (count_set begun_row rows i q t.0), one_or_none (begun_row q))
    go none e (at j) f z g h =
        let same : j ≡ i = cc in
        let t = found_at waiting rows i (rw same at f) in
        let idle = count_none begun_row rows (λ k lt. none_at begun rows 0 k e lt) in
        omega (arith, count_set begun_row rows i q t.0, one_or_none (begun_row q))
    go none e none f (at j) g h =
        let same : j ≡ i = cc in
        let t = found_at ready rows i (rw same at g) in
        let quiet : begun_row q ≡ false = guest_begins_none (i + 1) signal early r.c r.k r.stage t.1 in
        omega (arith, rw quiet at (count_set begun_row rows i q t.0))
    go none e none f none g h = let z : ◌≡◌ {A = ℕ} 0 1 = cc in absurd (omega arith)

-- the rows after steps 1 and 2
module _ (m : Machine) (mask : ℕ) (long : length m.rows ≡ 32) (ok : Passed m mask) where
  next_length : length (turned m.clock mask m.rows) ≡ 32
  next_length = turned_length m.clock mask m.rows ∙ long

  next_placed : (k : ℕ) → k < length (turned m.clock mask m.rows)
      → Placed (m.clock + 1) m.count k (get_or (turned m.clock mask m.rows) k no_row)
  next_placed k lt =
      let lo : k < length m.rows = omega (arith, next_length) in
      let was = none_placed m.clock m.count m.rows (formed m ok.good).each k lo in
      let past = rw (zero-add k) at (none_at (past_last mask m.count) m.rows 0 k ok.known lo) in
      rw (turned_law m.clock mask m.rows, map_at (turned_row m.clock mask) m.rows 0 k lo, zero-add k)
      (go (get_or m.rows k no_row) (ltb k m.count) refl was past)
    where
      go : (r : Row) (x : Bool) → ltb k m.count ≡ x → not (cond x (row_fits m.clock r) (is_blank r)) ≡ false
          → past_last mask m.count k r ≡ false
          → not (cond x (row_fits (m.clock + 1) (turned_row m.clock mask k r)) (is_blank (turned_row m.clock mask k r))) ≡ false
      go r true e h p = rw (row_next m.clock mask k r (not-false (row_fits m.clock r) h))
      go r false e h p =
          let out = first_fails (in_mask mask k) (leb m.count k) (le-leb m.count k (ltb-false k m.count e)) p in
          rw (blank_next m.clock mask k r out (not-false (is_blank r) h))

  next_one : how_many begun_row (turned m.clock mask m.rows) ≤ 1
  next_one =
      let same = count_map begun_row (turned_row m.clock mask) m.rows 0
      (λ k h.
      let free = rw (zero-add k) at (none_at (while_hyper mask) m.rows 0 k ok.free h) in
      rw (zero-add k) (begun_same m.clock mask k (get_or m.rows k no_row) free))
      in
      rw (turned_law m.clock mask m.rows) (omega (arith, (formed m ok.good).one))

  -- the next machine, whoever ran
  after_formed : (rows : List Row) → ((k : ℕ) → k < length rows → Placed (m.clock + 1) m.count k (get_or rows k no_row))
      → how_many begun_row rows ≤ 1 → well_formed (record { rows = rows; count = m.count; clock = m.clock + 1 }) ≡ true
  after_formed rows each one =
      let f = formed m ok.good in
      well (record { rows = rows; count = m.count; clock = m.clock + 1 })
      (record {
        some = f.some;
        most = f.most;
        time = omega (arith, ok.room);
        each = placed_none (m.clock + 1) m.count rows each;
        one = one;
      })

  set_placed : (i : ℕ) (q : Row) → i < length (turned m.clock mask m.rows) → Placed (m.clock + 1) m.count i q
      → (k : ℕ) → k < length (set (turned m.clock mask m.rows) i q)
      → Placed (m.clock + 1) m.count k (get_or (set (turned m.clock mask m.rows) i q) k no_row)
  set_placed i q lt p k h = go (eqb k i) refl (rw length-set at h)
    where
      go : (x : Bool) → eqb k i ≡ x → k < length (turned m.clock mask m.rows)
          → Placed (m.clock + 1) m.count k (get_or (set (turned m.clock mask m.rows) i q) k no_row)
      go true e lo =
          let same : k ≡ i = eqb-true k i e in
          rw (same, get_or-set_same (turned m.clock mask m.rows) i q no_row lt) p
      go false e lo = rw (get_or-set_other (turned m.clock mask m.rows) i k q no_row (eqb-false k i e)) (next_placed k lo)

  taken_formed : (signal : ℕ) (early : Bool) → well_formed (taken m mask signal early).machine ≡ true
  unfolding taken
  taken_formed signal early = go (chosen (turned m.clock mask m.rows)) refl
    where
      go : (f : Found) → chosen (turned m.clock mask m.rows) ≡ f
          → well_formed (ran_on m.count m.clock (turned m.clock mask m.rows) signal early f).machine ≡ true
      go (at i) e =
          let rows : List Row = turned m.clock mask m.rows in
          let r : Row = get_or rows i no_row in
          let q : Row = with_stage r (ran_from (i + 1) signal early r.c r.stage).stage in
          let t = chosen_runs rows i e in
          let p = runs_placed (m.clock + 1) m.count (i + 1) signal i early r t.1 (next_placed i t.0) in
          after_formed (set rows i q) (set_placed i q t.0 p) (one_stays rows i signal early e next_one)
      go none e = after_formed (turned m.clock mask m.rows) next_placed next_one

-- a tick of a well formed machine gives a well formed machine
pub step_formed : (m : Machine) (mask signal : ℕ) (early : Bool) → length m.rows ≡ 32 → well_formed m ≡ true
    → well_formed (step_of m mask signal early).machine ≡ true
unfolding step_of
step_formed m mask signal early long h = go (verdict m mask) refl
  where
    go : (v : Verdict) → verdict m mask ≡ v → well_formed (step_by m mask signal early v).machine ≡ true
    go (refused x) e = h
    go accepted e = taken_formed m mask long (passed m mask e) signal early

-- and keeps the number of places
pub step_length : (m : Machine) (mask signal : ℕ) (early : Bool) → length (step_of m mask signal early).machine.rows ≡ length m.rows
unfolding step_of taken
step_length m mask signal early = go (verdict m mask)
  where
    long : length (turned m.clock mask m.rows) ≡ length m.rows
    long = turned_length m.clock mask m.rows

    ran : (f : Found) → length (ran_on m.count m.clock (turned m.clock mask m.rows) signal early f).machine.rows ≡ length m.rows
    ran (at i) = simp length-set long
    ran none = long

    go : (v : Verdict) → length (step_by m mask signal early v).machine.rows ≡ length m.rows
    go (refused x) = refl
    go accepted = ran (chosen (turned m.clock mask m.rows))

-- so 8 is not met again: a well formed machine isn't refused with it
pub formed_not_8 : (m : Machine) (mask p : ℕ) → well_formed m ≡ true → verdict m mask ≡ refused (Refusal.NotWellFormed p) → ⊥
unfolding verdict
formed_not_8 m mask p h e =
    go (eqb m.clock (2 ^ 40)) (first (past_last mask m.count) m.rows) (first (too_soon mask m.clock) m.rows)
    (first (while_hyper mask) m.rows) (rw h at e)
  where
    go : (x : Bool) (a b c : Found)
        → cond x (refused (Refusal.ClockAtEnd 0))
        (refuse_at Refusal.NoSuchTask a (refuse_at Refusal.ArrivalTooSoon b (refuse_at Refusal.ArrivalWhileHyper c accepted)))
        ≡ refused (Refusal.NotWellFormed p) → ⊥
    go true a b c q = let z : ◌≡◌ {A = ℕ} 0 1 = cc in omega arith
    go false (at i) b c q = let z : ◌≡◌ {A = ℕ} 0 1 = cc in omega arith
    go false none (at i) c q = let z : ◌≡◌ {A = ℕ} 0 1 = cc in omega arith
    go false none none (at i) q = let z : ◌≡◌ {A = ℕ} 0 1 = cc in omega arith
    go false none none none q = let z : ◌≡◌ {A = ℕ} 0 1 = cc in omega arith

pub step_not_8 : (m : Machine) (mask signal : ℕ) (early : Bool) (p : ℕ) → well_formed m ≡ true
    → (step_of m mask signal early).answer ≡ Err (Refusal.NotWellFormed p) → ⊥
unfolding step_of taken
step_not_8 m mask signal early p h e = go (verdict m mask) refl e
  where
    ran : (f : Found) → (ran_on m.count m.clock (turned m.clock mask m.rows) signal early f).answer
        ≡ Err (Refusal.NotWellFormed p) → ⊥
    ran (at i) q = let z : ◌≡◌ {A = ℕ} 0 1 = cc in omega arith
    ran none q = let z : ◌≡◌ {A = ℕ} 0 1 = cc in omega arith

    go : (v : Verdict) → verdict m mask ≡ v → (step_by m mask signal early v).answer ≡ Err (Refusal.NotWellFormed p) → ⊥
    go (refused x) f q = let z : x ≡ Refusal.NotWellFormed p = cc in formed_not_8 m mask p h (f ∙ ap refused z)
    go accepted f q = ran (chosen (turned m.clock mask m.rows)) q
