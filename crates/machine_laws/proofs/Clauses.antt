-- The tests of "well formed" say exactly what document 01 prints, clause by clause, both ways. Assumes nothing.
use mathlib.Core.Path.{◌≡◌, refl, sym}
use mathlib.Core.Bool.{Bool, true, false, not, cond, ◌&&◌, true≢false}
use mathlib.Core.Logic.{◌↔◌}
use Prim.Native.Nat.{ℕ, ◌≤◌, ◌<◌}
use native.Mathlib.Omega.{arith}
use lib.Dec.{ltb, eqb}
use lib.ListN.{length}
use borrow.Author.Tests.{ltb-true, ltb-false, eqb-true, lt-ltb, not-false}
use Rattle.machine.specs.declared.Stage.{Stage}
use Rattle.machine.specs.declared.Row.{Row}
use Rattle.machine.specs.declared.Machine.{Machine}
use Rattle.machine.specs.Rows.{no_row, how_many, is_never, has_begun}
use Rattle.machine.specs.WellFormed.{fields_fit, stage_fits, row_fits, begun_row, is_blank, well_formed}
use Rattle.machine.proofs.Tests.{both, age_sum, fields_say, fields_fit_lem, blank_never}
use Rattle.machine.proofs.Verdicts.{Formed, formed}
use Rattle.machine_laws.specs.Clauses.{row_at, FieldClauses, StageClauses, BegunStage, Begun, Clauses}
use Rattle.machine_laws.proofs.Counts.{at_most_one}
use Rattle.machine_laws.proofs.Stages.{guest_says, hyper_says, closed_says, never_fits, guest_fits_lem, hyper_fits_lem, closed_fits}
use Rattle.machine_laws.proofs.Kept.{well, Placed, placed_none, none_placed}

-- the fields of a row
fields_exactly : (r : Row) → (fields_fit r ≡ true) ↔ FieldClauses r
fields_exactly r = (says, fits)
  where
    says : fields_fit r ≡ true → FieldClauses r
    says h =
        let f = fields_say r h in
        record {
          period = omega arith;
          deadline = omega arith;
          guest_part = omega arith;
          hypertask = omega arith;
          within_period = omega arith;
          offset = omega arith;
        }

    fits : FieldClauses r → fields_fit r ≡ true
    fits f =
        fields_fit_lem r
        (record {
          period = omega arith;
          deadline = omega arith;
          offset = omega arith;
          some_offset = omega arith;
          some_guest = omega arith;
          guest = omega arith;
          some_hypertask = omega arith;
          hypertask = omega arith;
        })

-- its stage; of ages, only that an arrival and its age make the clock
stage_exactly : (clock : ℕ) (r : Row) (s : Stage) → (stage_fits clock r.c r.k r.e s ≡ true) ↔ StageClauses clock r s
stage_exactly clock r Stage.Never = (λ h. tt, λ h. never_fits clock r.c r.k r.e)
stage_exactly clock r (Stage.Guest a u) = (
  λ h.
      let t = guest_says clock r.c r.k r.e a u h in
      let s = age_sum clock a t.0 in
      record { arrived = t.0; budget = t.1; not_past_enforcement = omega arith },
  λ g.
      let s = age_sum clock a g.arrived in
      guest_fits_lem clock r.c r.k r.e a u g.arrived g.budget (omega arith),
)
stage_exactly clock r (Stage.Hyper a l) = (
  λ h.
      let t = hyper_says clock r.c r.k r.e a l h in
      let s = age_sum clock a t.0 in
      record { arrived = t.0; some_left = t.1; at_most_k = t.2; past_enforcement = omega arith },
  λ g.
      let s = age_sum clock a g.arrived in
      hyper_fits_lem clock r.c r.k r.e a l g.arrived g.some_left g.at_most_k (omega arith),
)
stage_exactly clock r (Stage.Closed a) = (closed_says clock r.c r.k r.e a, closed_fits clock r.c r.k r.e a)

-- a hypertask that has begun
begun_exactly : (k : ℕ) (s : Stage) → (has_begun k s ≡ true) ↔ BegunStage k s
begun_exactly k Stage.Never = (λ h. true≢false (sym h), λ h. absurd h)
begun_exactly k (Stage.Guest a u) = (λ h. true≢false (sym h), λ h. absurd h)
begun_exactly k (Stage.Hyper a l) = (ltb-true l k, lt-ltb l k)
begun_exactly k (Stage.Closed a) = (λ h. true≢false (sym h), λ h. absurd h)

-- a place past the last row
blank_exactly : (r : Row) → (is_blank r ≡ true) ↔ (r ≡ no_row)
unfolding is_blank
blank_exactly r = (says, λ e. rw e)
  where
    says : is_blank r ≡ true → r ≡ no_row
    says h =
        let s : Bool = is_never r.stage in
        let a = both (eqb r.t 0) (eqb r.d 0 && (eqb r.c 0 && (eqb r.k 0 && (eqb r.e 0 && s)))) h in
        let b = both (eqb r.d 0) (eqb r.c 0 && (eqb r.k 0 && (eqb r.e 0 && s))) a.1 in
        let c = both (eqb r.c 0) (eqb r.k 0 && (eqb r.e 0 && s)) b.1 in
        let d = both (eqb r.k 0) (eqb r.e 0 && s) c.1 in
        let e = both (eqb r.e 0) s d.1 in
        rw (
          eqb-true r.t 0 a.0,
          eqb-true r.d 0 b.0,
          eqb-true r.c 0 c.0,
          eqb-true r.k 0 d.0,
          eqb-true r.e 0 e.0,
          blank_never r h,
        )

-- a place, by whether its row is in the table
placed_exactly : (clock count i : ℕ) (r : Row)
    → Placed clock count i r ↔ ((i < count → row_fits clock r ≡ true) × (count ≤ i → is_blank r ≡ true))
placed_exactly clock count i r = go (ltb i count) refl
  where
    go : (x : Bool) → ltb i count ≡ x
        → (not (cond x (row_fits clock r) (is_blank r)) ≡ false) ↔ ((i < count → row_fits clock r ≡ true) × (count ≤ i → is_blank r ≡ true))
    go true e = let lt = ltb-true i count e in (λ h. (λ q. not-false (row_fits clock r) h, λ q. absurd (omega arith)), λ f. rw (f.0 lt))
    go false e = let le = ltb-false i count e in (λ h. (λ q. absurd (omega arith), λ q. not-false (is_blank r) h), λ f. rw (f.1 le))

-- at most one hypertask has begun, where the places past the last row are blank
module _ (m : Machine) (long : length m.rows ≡ 32) (few : m.count ≤ 32) (blank : (i : ℕ) → m.count ≤ i → i < 32 → row_at m i ≡ no_row) where
  -- a task whose hypertask has begun is in the table
  in_table : (i : ℕ) → i < length m.rows → begun_row (row_at m i) ≡ true → i < m.count
  in_table i h b = go (ltb i m.count) refl
    where
      go : (x : Bool) → ltb i m.count ≡ x → i < m.count
      go true e = ltb-true i m.count e
      go false e = absurd (true≢false (sym (rw (blank i (ltb-false i m.count e) (omega arith)) at b)))

  one_exactly : (how_many begun_row m.rows ≤ 1) ↔ ((i j : ℕ) → i < m.count → j < m.count → Begun (row_at m i) → Begun (row_at m j) → i ≡ j)
  one_exactly =
      let one = at_most_one begun_row m.rows refl in (
        λ h i j lo hi a b. one.0 h i j (omega arith) (omega arith) ((test i).1 a) ((test j).1 b),
        λ f. one.1 (λ i j lo hi a b. f i j (in_table i lo a) (in_table j hi b) ((test i).0 a) ((test j).0 b)),
      )
    where
      test : (i : ℕ) → (begun_row (row_at m i) ≡ true) ↔ Begun (row_at m i)
      test i = begun_exactly (row_at m i).k (row_at m i).stage

pub well_formed_exactly : (m : Machine) → length m.rows ≡ 32 → (well_formed m ≡ true) ↔ Clauses m
well_formed_exactly m long = (λ h. says (formed m h), λ c. well m (fits c))
  where
    says : Formed m → Clauses m
    says f =
        record {
          some = f.some;
          few = f.most;
          fields = λ i h. (fields_exactly (row_at m i)).0 (row i h).0;
          time = f.time;
          stages = λ i h. (stage_exactly m.clock (row_at m i) (row_at m i).stage).0 (row i h).1;
          begun_once = (one_exactly m long f.most past).0 f.one;
          blank = past;
        }
      where
        place : (i : ℕ) → i < 32 → (i < m.count → row_fits m.clock (row_at m i) ≡ true) × (m.count ≤ i → is_blank (row_at m i) ≡ true)
        place i h = (placed_exactly m.clock m.count i (row_at m i)).0 (none_placed m.clock m.count m.rows f.each i (omega arith))

        row : (i : ℕ) → i < m.count
            → (fields_fit (row_at m i) ≡ true) × (stage_fits m.clock (row_at m i).c (row_at m i).k (row_at m i).e (row_at m i).stage ≡ true)
        row i h =
            let r : Row = row_at m i in
            both (fields_fit r) (stage_fits m.clock r.c r.k r.e r.stage) ((place i (omega arith)).0 h)

        past : (i : ℕ) → m.count ≤ i → i < 32 → row_at m i ≡ no_row
        past i h lt = (blank_exactly (row_at m i)).0 ((place i lt).1 h)

    fits : Clauses m → Formed m
    fits c =
        record {
          some = c.some;
          most = c.few;
          time = c.time;
          each = placed_none m.clock m.count m.rows placed;
          one = (one_exactly m long c.few c.blank).1 c.begun_once;
        }
      where
        row : (i : ℕ) → i < m.count → row_fits m.clock (row_at m i) ≡ true
        row i h = rw ((fields_exactly (row_at m i)).1 (c.fields i h)) ((stage_exactly m.clock (row_at m i) (row_at m i).stage).1 (c.stages i h))

        placed : (i : ℕ) → i < length m.rows → Placed m.clock m.count i (row_at m i)
        placed i h = (placed_exactly m.clock m.count i (row_at m i)).1 (row i, λ q. (blank_exactly (row_at m i)).1 (c.blank i q (omega arith)))
