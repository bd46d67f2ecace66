-- What a table that `start` accepts gives: what the theorems ask of each of its rows. Nothing is used of a solution but that the right side of its
-- equation is no more than it, and of equation 2 only that it counts w / T + 1 releases or more. Assumes nothing.
use Prim.Native.Nat.{ℕ, suc, ◌+◌, ◌-◌, ◌*◌, ◌/◌, ◌≤◌, ◌<◌}
use mathlib.Core.Path.{◌≡◌, refl, ap}
use mathlib.Core.Bool.{cond}
use mathlib.Core.List.{List}
use native.Mathlib.Nat.{mul-le-mul_right, div-mul-le_self}
use native.Mathlib.Omega.{arith}
use native.Mathlib.Decide.{dec_le}
use lib.Dec.{ltb}
use lib.ListN.{get_or, get_or-eq_default}
use borrow.Author.Tests.{lt-ltb, le-ltb}
use Rattle.std.specs.Prelude.{Ok, Err}
use Rattle.least.specs.Search.{Least}
use Rattle.least.specs.Sums.{up, sum}
use Rattle.least.proofs.Sums.{sum_mono, sum_suc, largest_upper}
use Rattle.equations.specs.Table.{rows, T, D, C, K, Sound}
use Rattle.equations.specs.Hypertask.{B, demand, active_side, releases, start_demand, start_side, response, offset_from, E}
use Rattle.equations.specs.Guest.{begun_by_hypertask, begun_by_guest, bound, below, F, window_side}
use Rattle.equations.specs.Analysis.{analysis}
use Rattle.equations.specs.Solutions.{Job, HypertaskResponse, GuestResponse, Schedulable}
use Rattle.equations.specs.Answers.{Response}
use Rattle.equations.proofs.Bounds.{T≥1, K≥1}
use Rattle.equations.proofs.Checks.{results_fit}
use Rattle.equations.proofs.Exactly.{R, G, accepted_sound, offset_range}
use Rattle.start.specs.Start.{row_of, start_answer}
use Rattle.machine.specs.Rows.{no_row}
use Rattle.demands.proofs.Sums.{up_count, up_one, sum_split}
use Rattle.demands.proofs.Hypertasks.{Level}
use Rattle.demands.proofs.Guests.{Window, GuestLevel}
use Rattle.demands.proofs.Rows.{Fits}

-- the start accepts no table that the analysis, with room enough for its results, would refuse
pub schedulable : (s : List ℕ) (n : ℕ) → start_answer s ≡ Ok n → (n ≡ rows s) × Schedulable s (R s) (E s) (G s)
unfolding start_answer analysis
schedulable s n e =
    let z : analysis s (3 * rows s) ≡ Ok n = rw (results_fit s (3 * rows s) (omega arith)) e in
    let a = accepted_sound s (3 * rows s) n z in
    (a.0, a.2)

-- all that is used of the releases that equation 2 counts
pub releases_enough : (s : List ℕ) (w j : ℕ) → 0 < T s j → w / T s j + 1 ≤ releases s w j
unfolding releases
releases_enough s w j p = omega (arith, up_count (w / T s j) w (T s j) p (omega (arith, div-mul-le_self w (T s j))))

start_demand_lem : (s : List ℕ) (w j : ℕ) → 0 < T s j → up (suc w) (T s j) * K s j ≤ start_demand s w j
unfolding start_demand
start_demand_lem s w j p = mul-le-mul_right (K s j) (omega (arith, up_one w (T s j) p, releases_enough s w j p))

-- places past the last row are blank
past_zero : (s : List ℕ) (j k : ℕ) → Sound s → rows s ≤ j → get_or s (4 * j + k) 0 ≡ 0
past_zero s j k sd h = get_or-eq_default s 0 (omega (arith, sd.fours))

no_offset : (s : List ℕ) (j : ℕ) → D s j ≡ 0 → E s j ≡ 0
unfolding E
no_offset s j z = go (response s j)
  where
    go : (r : Response) → offset_from (D s j) r ≡ 0
    go (Ok r) = omega arith
    go (Err f) = refl

pub row_past : (s : List ℕ) → Sound s → (j : ℕ) → rows s ≤ j → row_of s j ≡ no_row
unfolding row_of
row_past s sd j h =
    let y : 4 * j + 0 ≡ 4 * j = omega arith in
    let t : T s j ≡ 0 = rw y at (past_zero s j 0 sd h) in
    let d : D s j ≡ 0 = past_zero s j 1 sd h in
    rw (t, d, past_zero s j 2 sd h, past_zero s j 3 sd h, no_offset s j d)

pub blocked : (s : List ℕ) → Sound s → (i k : ℕ) → i < k → K s k ≤ B s i
unfolding B
blocked s sd i k h =
    elim (dec_le (suc k) (rows s)) [
      | yes l ↦
          let z : i + 1 + (k - (i + 1)) ≡ k = omega arith in
          rw z at (largest_upper (λ x. K s (i + 1 + x)) (rows s - (i + 1)) (k - (i + 1)) (omega arith))
      | no l ↦ omega (arith, past_zero s k 3 sd (omega arith))
    ]

-- the fields of a row are the table's
pub row_t : (s : List ℕ) (j : ℕ) → (row_of s j).t ≡ T s j
unfolding row_of
row_t s j = refl

pub row_d : (s : List ℕ) (j : ℕ) → (row_of s j).d ≡ D s j
unfolding row_of
row_d s j = refl

pub row_c_lem : (s : List ℕ) (j : ℕ) → (row_of s j).c ≡ C s j
unfolding row_of
row_c_lem s j = refl

pub row_e : (s : List ℕ) (j : ℕ) → (row_of s j).e ≡ E s j
unfolding row_of
row_e s j = refl

-- what each row asks for in a window of w ticks; own is what row i itself does
asked : List ℕ → ℕ → ℕ → ℕ → ℕ → ℕ
asked s i own w j = cond (ltb j i) (bound s (E s) w j) (cond (ltb i j) (demand s w j) own)

asked_above : (s : List ℕ) (i own w j : ℕ) → j < i → asked s i own w j ≡ bound s (E s) w j
unfolding asked
asked_above s i own w j h = rw (lt-ltb j i h)

asked_below : (s : List ℕ) (i own w j : ℕ) → i < j → asked s i own w j ≡ demand s w j
unfolding asked
asked_below s i own w j h = rw (le-ltb j i (omega arith), lt-ltb i j h)

asked_own : (s : List ℕ) (i own w : ℕ) → asked s i own w i ≡ own
unfolding asked
asked_own s i own w = rw (le-ltb i i (omega arith))

-- together it is the right side of the window's equation
asked_all : (s : List ℕ) (i own w : ℕ) → i < rows s → sum (asked s i own w) (rows s) ≤ window_side s (E s) i own w
unfolding window_side F below
asked_all s i own w h =
    let n : ℕ = rows s - (i + 1) in
    let z : rows s ≡ i + 1 + n = omega arith in
    let p : sum (asked s i own w) (rows s) ≡ sum (asked s i own w) (i + 1 + n) = ap (sum (asked s i own w)) z in
    omega (
      arith,
      p,
      sum_split (asked s i own w) (i + 1) n,
      sum_suc (asked s i own w) i,
      asked_own s i own w,
      sum_mono (asked s i own w) (bound s (E s) w) i (λ j b. omega (arith, asked_above s i own w j b)),
      sum_mono (λ k. asked s i own w (i + 1 + k)) (λ k. demand s w (i + 1 + k)) n (λ j b. omega (arith, asked_below s i own w (i + 1 + j) (omega arith))),
    )

window : (s : List ℕ) (i own w : ℕ) → i < rows s → Least (window_side s (E s) i own) 1 w →
    Window (λ j. T s j) (λ j. C s j) (λ j. K s j) (λ j. E s j) (rows s) i own w
unfolding bound begun_by_hypertask begun_by_guest demand
window s i own w h l =
    record {
      req = asked s i own w;
      above_guest = λ j b. omega (arith, asked_above s i own w j b);
      above_hyper = λ j b. omega (arith, asked_above s i own w j b);
      below = λ j b d. omega (arith, asked_below s i own w j b);
      mine = omega (arith, asked_own s i own w);
      fits = omega (arith, asked_all s i own w h, l.solves);
      some = l.from;
    }

module _ (s : List ℕ) (r g : ℕ → ℕ) (sch : Schedulable s r (E s) g) where
  pub fits : (j : ℕ) → j < rows s → Fits (row_of s j)
  unfolding row_of
  fits j h =
      let e = offset_range s r (E s) g sch j h in
      record { offset = e.0; within = omega (arith, e.1, sch.sound.within j h); some = K≥1 s sch.sound j h }

  module _ (i : ℕ) (h : i < rows s) where
    abbrev A : HypertaskResponse s i (r i)
    A = sch.hypertasks i h

    job : (q : ℕ) → q * T s i < A.t → Job s i A.t (suc q)
    job q l = (omega arith, up_count (suc q) A.t (T s i) (T≥1 s sch.sound i h) (omega arith))

    active : B s i + sum (λ j. up A.t (T s j) * K s j) (suc i) ≤ A.t
    unfolding active_side demand sum
    active = omega (arith, A.active.least.solves)

    starts : (q : ℕ) → q * T s i < A.t → B s i + q * K s i + sum (λ j. up (suc (A.w (suc q))) (T s j) * K s j) i ≤ A.w (suc q)
    unfolding start_side
    starts q l =
        let z : suc q - 1 ≡ q = omega arith in
        let e = rw z at (A.starts (suc q) (job q l)).least.solves in
        omega (
          arith,
          e,
          sum_mono (λ j. up (suc (A.w (suc q))) (T s j) * K s j) (start_demand s (A.w (suc q))) i
              (λ j b. start_demand_lem s (A.w (suc q)) j (T≥1 s sch.sound j (omega arith))),
        )

    response_in : (q : ℕ) → q * T s i < A.t → A.w (suc q) + K s i ≤ r i + q * T s i
    response_in q l =
        let z : suc q - 1 ≡ q = omega arith in
        rw z at (A.upper (suc q) (job q l))

    pub level : Level (λ j. (row_of s j).t) (λ j. (row_of s j).k) i (B s i) A.t (r i) (λ q. A.w (suc q))
    unfolding row_of
    level =
        record {
          periods = λ j l. T≥1 s sch.sound j (omega arith);
          blocked = blocked s sch.sound i;
          some = A.active.least.from;
          active = active;
          starts = starts;
          response = response_in;
        }

    abbrev Q : GuestResponse s (E s) i (g i)
    Q = sch.guests i h

    pub glevel : GuestLevel (λ j. (row_of s j).t) (λ j. (row_of s j).c) (λ j. (row_of s j).k) (λ j. (row_of s j).e) (rows s) i Q.wa Q.we
    unfolding row_of
    glevel =
        record {
          inside = h;
          offsets = λ j b. ((fits j b).offset, omega (arith, (fits j b).within), λ k. (fits j b).within);
          guest = window s i (C s i) Q.wa h Q.guest_begins;
          hyper = window s i (C s i + K s i) Q.we h Q.hypertask_begins;
          pass_a = Q.wa_within;
          pass_e = Q.we_within;
        }

  -- E + R is D
  pub offset : (i : ℕ) → i < rows s → (row_of s i).e + r i ≡ (row_of s i).d
  unfolding row_of
  offset i h = omega (arith, sch.offsets i h)

  -- D is at most T
  pub deadline : (i : ℕ) → i < rows s → (row_of s i).d ≤ (row_of s i).t
  unfolding row_of
  deadline i h = sch.sound.within i h

  -- E is before D
  pub offset_early : (i : ℕ) → i < rows s → (row_of s i).e < (row_of s i).d
  unfolding row_of
  offset_early i h = (offset_range s r (E s) g sch i h).1
