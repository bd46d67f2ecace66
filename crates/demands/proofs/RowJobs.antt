-- The jobs of one row through a tick: what its stage says of its latest arrival, and that each job is booked once, in time. Assumes nothing.
use Prim.Native.Nat.{ℕ, suc, ◌+◌, ◌-◌, ◌≤◌, ◌<◌}
use mathlib.Core.Path.{◌≡◌, refl, sym, ap, ◌∙◌}
use mathlib.Core.Bool.{Bool, true, false, cond, ◌&&◌, ◌||◌}
use mathlib.Core.List.{List, [], ◌∷◌, ◌++◌}
use mathlib.Core.Logic.{◌≢◌}
use native.Mathlib.Decide.{dec_le, ℕ_discrete}
use native.Mathlib.Omega.{arith}
use lib.Dec.{eqb}
use lib.ListN.{length}
use borrow.Author.Tests.{eqb-true, eq-eqb, ne_eqb}
use Rattle.least.specs.Sums.{sum}
use Rattle.machine.specs.declared.Stage.{Stage}
use Rattle.machine.specs.declared.Row.{Row}
use Rattle.machine.specs.declared.Taken.{Taken}
use Rattle.machine.specs.Rows.{age, in_mask, Found, at, none}
use Rattle.machine.specs.TickRule.{ran_from, nobody_ran}
use Rattle.machine.proofs.Tests.{both}
use Rattle.demands.specs.Runs.{TakenTick}
use Rattle.demands.specs.Booking.{arrival_of}
use Rattle.demands.specs.Jobs.{brought, latest, is_at, booked_to, guest_gives, hypertask_gives, guest_output, hypertask_output, one, guest_outputs}
use Rattle.demands.specs.Jobs.{hypertask_outputs}
use Rattle.demands.proofs.Rows.{Fits, Okay, Okay°, Free, turned_stage, clash}
use Rattle.demands.proofs.TakenTicks.{guest_said, hypertask_said, not_brought, guest_gave, hypertask_gave, more_length, brought_last}
use Rattle.demands.proofs.TakenTicks.{brought_other, latest_now, latest_before, guest_last, hypertask_last, guest_other, hypertask_other}
use Rattle.demands.proofs.TakenTicks.{guest_output_before, hypertask_output_before, guest_output_now, hypertask_output_now, guest_outputs_more}
use Rattle.demands.proofs.TakenTicks.{hypertask_outputs_more}

-- the arrival that a stage carries, where its job has no output yet
abbrev pub open_arrival : Stage → Found
open_arrival Stage.Never = none
open_arrival (Stage.Guest a u) = at a
open_arrival (Stage.Hyper a l) = at a
open_arrival (Stage.Closed a) = none

-- Steps 1 and 2

pub turned_arrival : (r : Row) (c : ℕ) (b : Bool) (s : Stage) → arrival_of (turned_stage r c b s) ≡ cond b (at c) (arrival_of s)
turned_arrival r c true s = refl
turned_arrival r c false Stage.Never = refl
turned_arrival r c false (Stage.Guest a u) = go (eqb (age c a) r.e)
  where
    go : (t : Bool) → arrival_of (cond t (Stage.Hyper a r.k) (Stage.Guest a u)) ≡ at a
    go true = refl
    go false = refl
turned_arrival r c false (Stage.Hyper a l) = refl
turned_arrival r c false (Stage.Closed a) = refl

pub turned_open : (r : Row) (c : ℕ) (b : Bool) (s : Stage) → open_arrival (turned_stage r c b s) ≡ cond b (at c) (open_arrival s)
turned_open r c true s = refl
turned_open r c false Stage.Never = refl
turned_open r c false (Stage.Guest a u) = go (eqb (age c a) r.e)
  where
    go : (t : Bool) → open_arrival (cond t (Stage.Hyper a r.k) (Stage.Guest a u)) ≡ at a
    go true = refl
    go false = refl
turned_open r c false (Stage.Hyper a l) = refl
turned_open r c false (Stage.Closed a) = refl

-- no job is open where another may come
pub free_open : (r : Row) (c : ℕ) (s : Stage) → Fits r → Okay r c s → Free r c s → open_arrival s ≡ none
free_open r c Stage.Never e o f = refl
free_open r c (Stage.Guest a u) e o f = absurd (omega arith)
free_open r c (Stage.Hyper a l) e o f = absurd f
free_open r c (Stage.Closed a) e o f = refl

-- Step 4: what the answer says of row i, with its stage before and after the run
pub data Told (i : ℕ) (t : Taken) (s s' : Stage) : Type 0 where
  silent : guest_said i t ≡ false → hypertask_said i t ≡ false → arrival_of s' ≡ arrival_of s → open_arrival s' ≡ open_arrival s → Told i t s s'
  guest : (a u : ℕ) → guest_said i t ≡ true → hypertask_said i t ≡ false → s ≡ Stage.Guest a u → s' ≡ Stage.Closed a → Told i t s s'
  hypertask : (a l : ℕ) → guest_said i t ≡ false → hypertask_said i t ≡ true → s ≡ Stage.Hyper a l → s' ≡ Stage.Closed a → Told i t s s'

-- the row that ran
pub told_ran : (i signal : ℕ) (early : Bool) (c : ℕ) (s : Stage) →
    Told i (ran_from (i + 1) signal early c s).taken s (ran_from (i + 1) signal early c s).stage
told_ran i signal early c Stage.Never = silent refl refl refl refl
told_ran i signal early c (Stage.Guest a u) = go (eqb signal (i + 1)) refl (eqb (u + 1) c) refl
  where
    go : (b : Bool) → eqb signal (i + 1) ≡ b → (d : Bool) → eqb (u + 1) c ≡ d →
        Told i (ran_from (i + 1) signal early c (Stage.Guest a u)).taken (Stage.Guest a u) (ran_from (i + 1) signal early c (Stage.Guest a u)).stage
    go true q d p = rw (q, ran_from) (guest a u (eq-eqb (i + 1) (i + 1) refl) refl refl refl)
    go false q true p = rw (q, p, ran_from) (silent refl refl refl refl)
    go false q false p = rw (q, p, ran_from) (silent refl refl refl refl)
told_ran i signal early c (Stage.Hyper a l) = go (early || eqb (l - 1) 0) refl
  where
    go : (b : Bool) → (early || eqb (l - 1) 0) ≡ b →
        Told i (ran_from (i + 1) signal early c (Stage.Hyper a l)).taken (Stage.Hyper a l) (ran_from (i + 1) signal early c (Stage.Hyper a l)).stage
    go true q = rw (q, ran_from) (hypertask a l refl (eq-eqb (i + 1) (i + 1) refl) refl refl)
    go false q = rw (q, ran_from) (silent refl refl refl refl)
told_ran i signal early c (Stage.Closed a) = silent refl refl refl refl

-- a row, while another runs or nobody does
pub told_other : (i r signal : ℕ) (early : Bool) (c : ℕ) (z s : Stage) → i ≢ r → Told i (ran_from (r + 1) signal early c z).taken s s
told_other i r signal early c Stage.Never s h = silent refl refl refl refl
told_other i r signal early c (Stage.Guest a u) s h = go (eqb signal (r + 1)) refl (eqb (u + 1) c) refl
  where
    go : (b : Bool) → eqb signal (r + 1) ≡ b → (d : Bool) → eqb (u + 1) c ≡ d → Told i (ran_from (r + 1) signal early c (Stage.Guest a u)).taken s s
    go true q d p = rw (q, ran_from) (silent (ne_eqb (r + 1) (i + 1) (λ z. h (omega arith))) refl refl refl)
    go false q true p = rw (q, p, ran_from) (silent refl refl refl refl)
    go false q false p = rw (q, p, ran_from) (silent refl refl refl refl)
told_other i r signal early c (Stage.Hyper a l) s h = go (early || eqb (l - 1) 0) refl
  where
    go : (b : Bool) → (early || eqb (l - 1) 0) ≡ b → Told i (ran_from (r + 1) signal early c (Stage.Hyper a l)).taken s s
    go true q = rw (q, ran_from) (silent refl (ne_eqb (r + 1) (i + 1) (λ z. h (omega arith))) refl refl)
    go false q = rw (q, ran_from) (silent refl refl refl refl)
told_other i r signal early c (Stage.Closed a) s h = silent refl refl refl refl

pub told_nobody : (i signal : ℕ) (s : Stage) → Told i (nobody_ran signal) s s
told_nobody i signal s = silent refl refl refl refl

-- a tick of number n stands at clock c₀ + n
abbrev pub shift : ℕ → Found → Found
shift c₀ (at n) = at (c₀ + n)
shift c₀ none = none

shift_cond : (c₀ : ℕ) (b : Bool) (x : ℕ) (f : Found) → shift c₀ (cond b (at x) f) ≡ cond b (at (c₀ + x)) (shift c₀ f)
shift_cond c₀ true x f = refl
shift_cond c₀ false x f = refl

pub same_eqb : (a b c d : ℕ) → (a ≡ b → c ≡ d) → (c ≡ d → a ≡ b) → eqb a b ≡ eqb c d
same_eqb a b c d f g = elim (ℕ_discrete a b) [
  | yes e ↦ eq-eqb a b e ∙ sym (eq-eqb c d (f e))
  | no n ↦ ne_eqb a b n ∙ sym (ne_eqb c d (λ e. n (g e)))
]

shift_at : (c₀ n : ℕ) (f : Found) → is_at (c₀ + n) (shift c₀ f) ≡ is_at n f
shift_at c₀ n (at x) = same_eqb (c₀ + x) (c₀ + n) x n (λ e. omega arith) (λ e. omega arith)
shift_at c₀ n none = refl

pub is_at_lem : (n : ℕ) (f : Found) → is_at n f ≡ true → f ≡ at n
is_at_lem n (at x) e = ap at (eqb-true x n e)
is_at_lem n none e = clash e

-- what holds of row i after the ticks l, its stage being s
pub record Booked (c₀ : ℕ) (r : Row) (l : List TakenTick) (i : ℕ) (s : Stage) : Type 0 where
  -- its stage holds its latest arrival
  pub track : arrival_of s ≡ shift c₀ (latest l i (length l))
  -- a job that came has one output, or is the one that is open
  pub once : (n : ℕ) → guest_outputs l i n + hypertask_outputs l i n + one (is_at (c₀ + n) (open_arrival s)) ≡ one (brought l i n)
  -- its outputs came in time
  pub guest_early : (n x : ℕ) → guest_output l i n x ≡ true → x < n + r.e
  pub hypertask_early : (n x : ℕ) → hypertask_output l i n x ≡ true → x < n + r.d
  -- and each was a job's
  pub guest_job : (x : ℕ) → guest_gives l i x ≡ true → (n : ℕ) × (latest l i (suc x) ≡ at n)
  pub hypertask_job : (x : ℕ) → hypertask_gives l i x ≡ true → (n : ℕ) × (latest l i (suc x) ≡ at n)

guest_after : {A : Type 0} (l : List TakenTick) (i x : ℕ) → length l ≤ x → guest_gives l i x ≡ true → A
guest_after l i x h e = clash (sym (guest_gave l i x h) ∙ e)

hypertask_after : {A : Type 0} (l : List TakenTick) (i x : ℕ) → length l ≤ x → hypertask_gives l i x ≡ true → A
hypertask_after l i x h e = clash (sym (hypertask_gave l i x h) ∙ e)

-- before any tick
pub booked_none : (c₀ : ℕ) (r : Row) (i : ℕ) → Booked c₀ r [] i Stage.Never
unfolding guest_outputs hypertask_outputs latest sum
booked_none c₀ r i =
    record {
      track = refl;
      once = λ n. ap one (sym (not_brought [] i n (omega arith)));
      guest_early = λ n x e. guest_after [] i x (omega arith) (both (guest_gives [] i x) (booked_to [] i n x) e).0;
      hypertask_early = λ n x e. hypertask_after [] i x (omega arith) (both (hypertask_gives [] i x) (booked_to [] i n x) e).0;
      guest_job = λ x e. guest_after [] i x (omega arith) e;
      hypertask_job = λ x e. hypertask_after [] i x (omega arith) e;
    }

-- one tick more
module _ (c₀ : ℕ) (r : Row) (l : List TakenTick) (e : TakenTick) (i : ℕ) (s s' : Stage) where
  abbrev more : List TakenTick
  more = l ++ (e ∷ [])

  abbrev comes : Bool
  comes = in_mask e.tick.mask i

  abbrev c : ℕ
  c = c₀ + length l

  abbrev s° : Stage
  s° = turned_stage r c comes s

  abbrev now : Found
  now = cond comes (at (length l)) (latest l i (length l))

  module _ (f : Fits r) (o : Okay r c s) (fr : comes ≡ true → Free r c s) (o° : Okay° r c s°)
      (hy : (a n : ℕ) → s° ≡ Stage.Hyper a n → c < a + r.d) (t : Told i e.said s° s') (B : Booked c₀ r l i s) where
    track° : arrival_of s° ≡ shift c₀ now
    track° = turned_arrival r c comes s ∙ ap (cond comes (at c)) B.track ∙ sym (shift_cond c₀ comes (length l) (latest l i (length l)))

    track' : Told i e.said s° s' → arrival_of s' ≡ arrival_of s°
    track' (silent g h x y) = x
    track' (guest a u g h x y) = ap arrival_of y ∙ sym (ap arrival_of x)
    track' (hypertask a u g h x y) = ap arrival_of y ∙ sym (ap arrival_of x)

    -- the job of an arrival that the stage holds
    held_at : (a n : ℕ) → arrival_of s° ≡ at a → is_at (c₀ + n) (at a) ≡ is_at n now
    held_at a n z = ap (is_at (c₀ + n)) (sym z ∙ track°) ∙ shift_at c₀ n now

    arrival_is : (a n : ℕ) → arrival_of s° ≡ at a → now ≡ at n → a ≡ c₀ + n
    arrival_is a n z y = let w : at a ≡ at (c₀ + n) = sym z ∙ track° ∙ ap (shift c₀) y in cc

    job_of : (a : ℕ) → arrival_of s° ≡ at a → (n : ℕ) × (now ≡ at n)
    job_of a z = go now refl
      where
        go : (k : Found) → now ≡ k → (n : ℕ) × (now ≡ at n)
        go (at n) q = (n, q)
        go none q = let w : at a ≡ none = sym z ∙ track° ∙ ap (shift c₀) q in absurd (let y : ◌≡◌ {A = ℕ} 0 1 = cc in omega arith)

    once° : (n : ℕ) → guest_outputs l i n + hypertask_outputs l i n + one (is_at (c₀ + n) (open_arrival s°)) ≡ one (brought more i n)
    once° n = rw (turned_open r c comes s) (go comes refl)
      where
        go : (b : Bool) → comes ≡ b
            → guest_outputs l i n + hypertask_outputs l i n + one (is_at (c₀ + n) (cond b (at c) (open_arrival s))) ≡ one (brought more i n)
        go true q =
            let p : one (is_at (c₀ + n) (open_arrival s)) ≡ 0 = ap (λ k. one (is_at (c₀ + n) k)) (free_open r c s f o (fr q)) in
            elim (ℕ_discrete n (length l)) [
              | yes z ↦
                  let y : one (eqb c (c₀ + n)) ≡ 1 = ap one (eq-eqb c (c₀ + n) (omega arith)) in
                  let x : one (brought l i n) ≡ 0 = ap one (not_brought l i n (omega arith)) in
                  let w : one (brought more i n) ≡ 1 = rw z (ap one (brought_last l e i ∙ q)) in
                  omega (arith, B.once n)
              | no z ↦
                  let y : one (eqb c (c₀ + n)) ≡ 0 = ap one (ne_eqb c (c₀ + n) (λ k. z (omega arith))) in
                  let w : one (brought more i n) ≡ one (brought l i n) = ap one (brought_other l e i n z) in
                  omega (arith, B.once n)
            ]
        go false q =
            elim (ℕ_discrete n (length l)) [
              | yes z ↦
                  let x : one (brought l i n) ≡ 0 = ap one (not_brought l i n (omega arith)) in
                  let w : one (brought more i n) ≡ 0 = rw z (ap one (brought_last l e i ∙ q)) in
                  omega (arith, B.once n)
              | no z ↦
                  let w : one (brought more i n) ≡ one (brought l i n) = ap one (brought_other l e i n z) in
                  omega (arith, B.once n)
            ]

    once' : (n : ℕ) → Told i e.said s° s'
        → guest_outputs more i n + hypertask_outputs more i n + one (is_at (c₀ + n) (open_arrival s')) ≡ one (brought more i n)
    once' n (silent g h x y) =
        let p : one (guest_said i e.said && is_at n now) ≡ 0 = ap (λ b. one (b && is_at n now)) g in
        let q : one (hypertask_said i e.said && is_at n now) ≡ 0 = ap (λ b. one (b && is_at n now)) h in
        let z : one (is_at (c₀ + n) (open_arrival s')) ≡ one (is_at (c₀ + n) (open_arrival s°)) = ap (λ k. one (is_at (c₀ + n) k)) y in
        omega (arith, once° n, guest_outputs_more l e i n, hypertask_outputs_more l e i n)
    once' n (guest a u g h x y) =
        let p : one (guest_said i e.said && is_at n now) ≡ one (is_at n now) = ap (λ b. one (b && is_at n now)) g in
        let q : one (hypertask_said i e.said && is_at n now) ≡ 0 = ap (λ b. one (b && is_at n now)) h in
        let z : one (is_at (c₀ + n) (open_arrival s')) ≡ 0 = ap (λ k. one (is_at (c₀ + n) (open_arrival k))) y in
        let w : one (is_at (c₀ + n) (open_arrival s°)) ≡ one (is_at n now) =
        ap (λ k. one (is_at (c₀ + n) (open_arrival k))) x ∙ ap one (held_at a n (ap arrival_of x)) in
        omega (arith, once° n, guest_outputs_more l e i n, hypertask_outputs_more l e i n)
    once' n (hypertask a u g h x y) =
        let p : one (guest_said i e.said && is_at n now) ≡ 0 = ap (λ b. one (b && is_at n now)) g in
        let q : one (hypertask_said i e.said && is_at n now) ≡ one (is_at n now) = ap (λ b. one (b && is_at n now)) h in
        let z : one (is_at (c₀ + n) (open_arrival s')) ≡ 0 = ap (λ k. one (is_at (c₀ + n) (open_arrival k))) y in
        let w : one (is_at (c₀ + n) (open_arrival s°)) ≡ one (is_at n now) =
        ap (λ k. one (is_at (c₀ + n) (open_arrival k))) x ∙ ap one (held_at a n (ap arrival_of x)) in
        omega (arith, once° n, guest_outputs_more l e i n, hypertask_outputs_more l e i n)

    -- the tick's own output
    guest_now : (n : ℕ) → Told i e.said s° s' → guest_said i e.said ≡ true → now ≡ at n → length l < n + r.e
    guest_now n (silent g h x y) q z = clash (sym g ∙ q)
    guest_now n (guest a u g h x y) q z =
        let k : Okay° r c (Stage.Guest a u) = rw x at o° in
        omega (arith, arrival_is a n (ap arrival_of x) z, k.1)
    guest_now n (hypertask a u g h x y) q z = clash (sym g ∙ q)

    hypertask_now : (n : ℕ) → Told i e.said s° s' → hypertask_said i e.said ≡ true → now ≡ at n → length l < n + r.d
    hypertask_now n (silent g h x y) q z = clash (sym h ∙ q)
    hypertask_now n (guest a u g h x y) q z = clash (sym h ∙ q)
    hypertask_now n (hypertask a u g h x y) q z = omega (arith, arrival_is a n (ap arrival_of x) z, hy a u x)

    guest_of : Told i e.said s° s' → guest_said i e.said ≡ true → (n : ℕ) × (now ≡ at n)
    guest_of (silent g h x y) q = clash (sym g ∙ q)
    guest_of (guest a u g h x y) q = job_of a (ap arrival_of x)
    guest_of (hypertask a u g h x y) q = clash (sym g ∙ q)

    hypertask_of : Told i e.said s° s' → hypertask_said i e.said ≡ true → (n : ℕ) × (now ≡ at n)
    hypertask_of (silent g h x y) q = clash (sym h ∙ q)
    hypertask_of (guest a u g h x y) q = clash (sym h ∙ q)
    hypertask_of (hypertask a u g h x y) q = job_of a (ap arrival_of x)

    guest_early' : (n x : ℕ) → guest_output more i n x ≡ true → x < n + r.e
    guest_early' n x q =
        elim (dec_le (suc x) (length l)) [
          | yes k ↦ B.guest_early n x (sym (guest_output_before l e i n x k) ∙ q)
          | no k ↦ elim (ℕ_discrete x (length l)) [
            | yes z ↦ (
                let w = both (guest_said i e.said) (is_at n now) (sym (guest_output_now l e i n) ∙ (rw z at q)) in
                rw z (guest_now n t w.0 (is_at_lem n now w.1))
                )
            | no z ↦ guest_after more i x (omega (arith, more_length l e)) (both (guest_gives more i x) (booked_to more i n x) q).0
          ]
        ]

    hypertask_early' : (n x : ℕ) → hypertask_output more i n x ≡ true → x < n + r.d
    hypertask_early' n x q =
        elim (dec_le (suc x) (length l)) [
          | yes k ↦ B.hypertask_early n x (sym (hypertask_output_before l e i n x k) ∙ q)
          | no k ↦ elim (ℕ_discrete x (length l)) [
            | yes z ↦ (
                let w = both (hypertask_said i e.said) (is_at n now) (sym (hypertask_output_now l e i n) ∙ (rw z at q)) in
                rw z (hypertask_now n t w.0 (is_at_lem n now w.1))
                )
            | no z ↦ hypertask_after more i x (omega (arith, more_length l e)) (both (hypertask_gives more i x) (booked_to more i n x) q).0
          ]
        ]

    guest_job' : (x : ℕ) → guest_gives more i x ≡ true → (n : ℕ) × (latest more i (suc x) ≡ at n)
    guest_job' x q =
        elim (dec_le (suc x) (length l)) [
          | yes k ↦ (
              let w = B.guest_job x (sym (guest_other l e i x (λ z. absurd (omega arith))) ∙ q) in
              (w.0, latest_before l e i (suc x) k ∙ w.1)
              )
          | no k ↦ elim (ℕ_discrete x (length l)) [
            | yes z ↦ (let w = guest_of t (sym (guest_last l e i) ∙ (rw z at q)) in (w.0, rw z (latest_now l e i ∙ w.1)))
            | no z ↦ guest_after more i x (omega (arith, more_length l e)) q
          ]
        ]

    hypertask_job' : (x : ℕ) → hypertask_gives more i x ≡ true → (n : ℕ) × (latest more i (suc x) ≡ at n)
    hypertask_job' x q =
        elim (dec_le (suc x) (length l)) [
          | yes k ↦ (
              let w = B.hypertask_job x (sym (hypertask_other l e i x (λ z. absurd (omega arith))) ∙ q) in
              (w.0, latest_before l e i (suc x) k ∙ w.1)
              )
          | no k ↦ elim (ℕ_discrete x (length l)) [
            | yes z ↦ (let w = hypertask_of t (sym (hypertask_last l e i) ∙ (rw z at q)) in (w.0, rw z (latest_now l e i ∙ w.1)))
            | no z ↦ hypertask_after more i x (omega (arith, more_length l e)) q
          ]
        ]

    pub booked_next : Booked c₀ r more i s'
    booked_next =
        record {
          track = track' t ∙ track° ∙ ap (shift c₀) (sym (ap (latest more i) (more_length l e) ∙ latest_now l e i));
          once = λ n. once' n t;
          guest_early = guest_early';
          hypertask_early = hypertask_early';
          guest_job = guest_job';
          hypertask_job = hypertask_job';
        }
