-- A tick is taken exactly when none of 8 to 12 applies, and each refusal is given exactly when document 01 says. Assumes nothing.
use mathlib.Core.Path.{◌≡◌, refl, ◌∙◌, sym}
use mathlib.Core.Bool.{Bool, true, false, not, cond, ◌&&◌, true≢false}
use mathlib.Core.List.{List, [], ◌∷◌}
use mathlib.Core.Logic.{◌↔◌}
use Prim.Native.Nat.{ℕ, zero, suc, ◌+◌, ◌/◌, ◌%◌, ◌^◌, ◌≤◌, ◌<◌}
use native.Mathlib.Nat.{zero-add, lt_of_not-le}
use native.Mathlib.Omega.{arith}
use lib.Dec.{ltb, eqb}
use lib.ListN.{length, get_or}
use borrow.Author.Tests.{ltb-true, ltb-false, leb-true, eqb-true, eqb-false, lt-ltb, le-leb, eq-eqb, ne_eqb}
use Rattle.std.specs.Prelude.{Ok}
use Rattle.refusals.specs.declared.Refusal.{Refusal}
use Rattle.machine.specs.declared.Stage.{Stage}
use Rattle.machine.specs.declared.Row.{Row}
use Rattle.machine.specs.declared.Machine.{Machine}
use Rattle.machine.specs.declared.Taken.{Taken}
use Rattle.machine.specs.Answers.{Answer}
use Rattle.machine.specs.Rows.{no_row, in_mask, age, Found, at, none, first_from, first, is_hyper}
use Rattle.machine.specs.WellFormed.{well_formed}
use Rattle.machine.specs.TickRule.{younger_than, Verdict, refused, accepted, refuse_at, verdict, step_by, step_of}
use Rattle.machine.proofs.Tests.{both, age_sum}
use Rattle.machine.proofs.Searches.{found_at, none_at, all_none}
use Rattle.machine.proofs.Verdicts.{past_in, soon_in, hyper_in}
use Rattle.machine_laws.specs.Clauses.{row_at, StageClauses, Clauses, Arrives, CameAt, InTime, Known, Spaced, Free, NoneApplies}
use Rattle.machine_laws.specs.Clauses.{Lowest, PastLast, TooSoon, WhileHyper, Eight, Nine, Ten, Eleven, Twelve}
use Rattle.machine_laws.proofs.Ticks.{is_taken}
use Rattle.machine_laws.proofs.Clauses.{well_formed_exactly}

-- the lowest place is one
lowest_same : (P : ℕ → Type 0) (i j : ℕ) → Lowest P i → Lowest P j → i ≡ j
lowest_same P i j a b = go (ltb i j) refl (ltb j i) refl
  where
    go : (x : Bool) → ltb i j ≡ x → (y : Bool) → ltb j i ≡ y → i ≡ j
    go true e y f = absurd (b.lowest i (ltb-true i j e) a.holds)
    go false e true f = absurd (a.lowest j (ltb-true j i f) b.holds)
    go false e false f = omega (arith, ltb-false i j e, ltb-false j i f)

-- below the place that was found p fails
cond_at : (b : Bool) (j i : ℕ) (x : Found) → cond b (at j) x ≡ at i → j < i → (b ≡ false) × (x ≡ at i)
cond_at true j i x h lt = let z : j ≡ i = cc in absurd (omega arith)
cond_at false j i x h lt = (refl, h)

first_below : (p : ℕ → Row → Bool) (l : List Row) (j i k : ℕ) → first_from p j l ≡ at i → j + k < i → p (j + k) (get_or l k no_row) ≡ false
unfolding first_from
first_below p [] j i k h lt = let z : ◌≡◌ {A = ℕ} 0 1 = cc in absurd (omega arith)
first_below p (r ∷ rs) j i zero h lt =
    let z : j + 0 ≡ j = omega arith in
    rw z (cond_at (p j r) j i (first_from p (suc j) rs) h (omega arith)).0
first_below p (r ∷ rs) j i (suc k) h lt =
    let z : j + suc k ≡ suc j + k = omega arith in
    rw z (first_below p rs (suc j) i k (cond_at (p j r) j i (first_from p (suc j) rs) h (omega arith)).1 (omega arith))

-- what a search finds is the lowest place of which P holds
record Finds (f : Found) (P : ℕ → Type 0) : Type 0 where
  pub nowhere : (f ≡ none) ↔ ((i : ℕ) → P i → ⊥)
  pub lowest : (i : ℕ) → (f ≡ at i) ↔ Lowest P i

-- a test q of the tasks in the mask, and what it says of their places
abbrev asked : ℕ → (ℕ → Row → Bool) → ℕ → Row → Bool
asked mask q i r = in_mask mask i && q i r

abbrev Asked : ℕ → (ℕ → Type 0) → ℕ → Type 0
Asked mask Q i = (i < 32) × Arrives mask i × Q i

module _ (rows : List Row) (long : length rows ≡ 32) (mask : ℕ) (q : ℕ → Row → Bool) (Q : ℕ → Type 0)
    (test : (i : ℕ) → i < 32 → (q i (get_or rows i no_row) ≡ true) ↔ Q i) where
  says : (i : ℕ) → i < 32 → asked mask q i (get_or rows i no_row) ≡ true → Asked mask Q i
  says i lt h =
      let t = both (in_mask mask i) (q i (get_or rows i no_row)) h in
      (lt, eqb-true (mask / 2 ^ i % 2) 1 t.0, (test i lt).0 t.1)

  holds : (i : ℕ) → Asked mask Q i → asked mask q i (get_or rows i no_row) ≡ true
  holds i h = rw (eq-eqb (mask / 2 ^ i % 2) 1 h.1, (test i h.0).1 h.2)

  none_says : first (asked mask q) rows ≡ none → (i : ℕ) → Asked mask Q i → ⊥
  none_says e i h =
      let fails = rw (zero-add i) at (none_at (asked mask q) rows 0 i e (omega arith)) in
      true≢false (sym (holds i h) ∙ fails)

  none_holds : ((i : ℕ) → Asked mask Q i → ⊥) → first (asked mask q) rows ≡ none
  none_holds f = all_none (asked mask q) rows 0 (λ i lt. rw (zero-add i) (go i (omega arith) (asked mask q i (get_or rows i no_row)) refl))
    where
      go : (i : ℕ) → i < 32 → (x : Bool) → asked mask q i (get_or rows i no_row) ≡ x → x ≡ false
      go i lt true e = absurd (f i (says i lt e))
      go i lt false e = refl

  at_says : (i : ℕ) → first (asked mask q) rows ≡ at i → Lowest (Asked mask Q) i
  at_says i e =
      let t = found_at (asked mask q) rows i e in
      record {
        holds = says i (omega arith) t.1;
        lowest = λ j lt h. true≢false (sym (holds j h) ∙ (rw (zero-add j) at (first_below (asked mask q) rows 0 i j e (omega arith))));
      }

  at_holds : (i : ℕ) → Lowest (Asked mask Q) i → (f : Found) → first (asked mask q) rows ≡ f → f ≡ at i
  at_holds i l (at k) e = let z : k ≡ i = lowest_same (Asked mask Q) k i (at_says k e) l in cc
  at_holds i l none e = absurd (none_says e i l.holds)

  finds : Finds (first (asked mask q) rows) (Asked mask Q)
  finds = record { nowhere = (none_says, none_holds); lowest = λ i. (at_says i, λ l. at_holds i l (first (asked mask q) rows) refl) }

-- a task's last arrival, if there is one, is less than T ago
module _ (clock t : ℕ) where
  ago_exactly : (a : ℕ) → (ltb (age clock a) t ≡ true) ↔ ((b : ℕ) × (a ≡ b) × (age clock b < t))
  ago_exactly a = (λ h. (a, refl, ltb-true (age clock a) t h), λ w. rw w.1 (lt-ltb (age clock w.0) t w.2))

  younger_exactly : (s : Stage) → (younger_than clock t s ≡ true) ↔ ((a : ℕ) × CameAt a s × (age clock a < t))
  younger_exactly Stage.Never = (λ h. absurd (true≢false (sym h)), λ w. absurd w.1)
  younger_exactly (Stage.Guest a u) = ago_exactly a
  younger_exactly (Stage.Hyper a l) = ago_exactly a
  younger_exactly (Stage.Closed a) = ago_exactly a

-- a task is Hyper
hyper_exactly : (s : Stage) → (is_hyper s ≡ true) ↔ ((a : ℕ) × (left : ℕ) × (s ≡ Stage.Hyper a left))
hyper_exactly Stage.Never = (λ h. absurd (true≢false (sym h)), λ w. let z : ◌≡◌ {A = ℕ} 0 1 = cc in absurd (omega arith))
hyper_exactly (Stage.Guest b u) = (λ h. absurd (true≢false (sym h)), λ w. let z : ◌≡◌ {A = ℕ} 0 1 = cc in absurd (omega arith))
hyper_exactly (Stage.Hyper b l) = (λ h. (b, l, refl), λ w. refl)
hyper_exactly (Stage.Closed b) = (λ h. absurd (true≢false (sym h)), λ w. let z : ◌≡◌ {A = ℕ} 0 1 = cc in absurd (omega arith))

-- what a verdict says of the state and the mask; for a tick 1 to 7 and 13 to 19 are never given
abbrev Says : Machine → ℕ → Verdict → Type 0
Says m mask accepted = NoneApplies m mask
Says m mask (refused (Refusal.TableLength p)) = ⊥
Says m mask (refused (Refusal.FieldRange p)) = ⊥
Says m mask (refused (Refusal.DeadlineAbovePeriod p)) = ⊥
Says m mask (refused (Refusal.ResultsShort p)) = ⊥
Says m mask (refused (Refusal.NoActivePeriod p)) = ⊥
Says m mask (refused (Refusal.StartTooLate p)) = ⊥
Says m mask (refused (Refusal.NoGuestWindow p)) = ⊥
Says m mask (refused (Refusal.NotWellFormed p)) = Eight m
Says m mask (refused (Refusal.ClockAtEnd p)) = Nine m
Says m mask (refused (Refusal.NoSuchTask p)) = (i : ℕ) × (p ≡ i + 1) × Ten m mask i
Says m mask (refused (Refusal.ArrivalTooSoon p)) = (i : ℕ) × (p ≡ i + 1) × Eleven m mask i
Says m mask (refused (Refusal.ArrivalWhileHyper p)) = (i : ℕ) × (p ≡ i + 1) × Twelve m mask i
Says m mask (refused (Refusal.FileLength p)) = ⊥
Says m mask (refused (Refusal.Contents p)) = ⊥
Says m mask (refused (Refusal.BodyPlace p)) = ⊥
Says m mask (refused (Refusal.BodySize p)) = ⊥
Says m mask (refused (Refusal.RecordBytes p)) = ⊥
Says m mask (refused (Refusal.OutputShort p)) = ⊥
Says m mask (refused (Refusal.NoHypertaskWindow p)) = ⊥

module _ (m : Machine) (mask : ℕ) (long : length m.rows ≡ 32) where
  -- the searches of 10 to 12
  past : Finds (past_in m mask) (PastLast m mask)
  past = finds m.rows long mask _ _ (λ i lt. (leb-true m.count i, le-leb m.count i))

  hyper : Finds (hyper_in m mask) (WhileHyper m mask)
  hyper = finds m.rows long mask _ _ (λ i lt. hyper_exactly (row_at m i).stage)

  -- in a well formed state every arrival is at or before the clock
  came : Clauses m → (i a : ℕ) → i < 32 → CameAt a (row_at m i).stage → a ≤ m.clock
  came c i a lt h = go (ltb i m.count) refl
    where
      by : (s : Stage) → StageClauses m.clock (row_at m i) s → CameAt a s → a ≤ m.clock
      by Stage.Never t q = absurd q
      by (Stage.Guest b u) t q = omega (arith, t.arrived)
      by (Stage.Hyper b l) t q = omega (arith, t.arrived)
      by (Stage.Closed b) t q = omega arith

      go : (x : Bool) → ltb i m.count ≡ x → a ≤ m.clock
      go true e = by (row_at m i).stage (c.stages i (ltb-true i m.count e)) h
      go false e = absurd (rw (c.blank i (ltb-false i m.count e) lt) at h)

  soon : Clauses m → Finds (soon_in m mask) (TooSoon m mask)
  soon c =
      finds m.rows long mask _ _
      (λ i lt.
      let young = younger_exactly m.clock (row_at m i).t (row_at m i).stage in (
        λ h. let w = young.0 h in let s = age_sum m.clock w.0 (came c i w.0 lt w.1) in (w.0, w.1, omega arith),
        λ w. let s = age_sum m.clock w.0 (came c i w.0 lt w.1) in young.1 (w.0, w.1, omega arith),
      ))

  -- 10 to 12 don't apply
  known_exactly : (past_in m mask ≡ none) ↔ Known m mask
  known_exactly = (
    λ e i lt a. lt_of_not-le (λ h. past.nowhere.0 e i (lt, a, h)),
    λ k. past.nowhere.1 (λ i h. omega (arith, k i h.0 h.1)),
  )

  spaced_exactly : Clauses m → (soon_in m mask ≡ none) ↔ Spaced m mask
  spaced_exactly c = (
    λ e i a lt b h. omega (arith, lt_of_not-le (λ q. (soon c).nowhere.0 e i (lt, b, (a, h, q)))),
    λ k. (soon c).nowhere.1 (λ i h. omega (arith, k i h.2.0 h.0 h.1 h.2.1)),
  )

  free_exactly : (hyper_in m mask ≡ none) ↔ Free m mask
  free_exactly = (
    λ e i a left lt b h. hyper.nowhere.0 e i (lt, b, (a, left, h)),
    λ k. hyper.nowhere.1 (λ i h. k i h.2.0 h.2.1 h.0 h.1 h.2.2),
  )

  is_well_formed : (well_formed m ≡ true) ↔ Clauses m
  is_well_formed = well_formed_exactly m long

  before_end : InTime m → eqb m.clock (2 ^ 40) ≡ false
  before_end t = ne_eqb m.clock (2 ^ 40) (λ e. omega (arith, t.before_the_end))

  -- checks go by number
  verdict_says : Says m mask (verdict m mask)
  unfolding verdict
  verdict_says = go (well_formed m) refl (eqb m.clock (2 ^ 40)) refl (past_in m mask) refl (soon_in m mask) refl (hyper_in m mask) refl
    where
      in_time : well_formed m ≡ true → eqb m.clock (2 ^ 40) ≡ false → InTime m
      in_time e t =
          let c = is_well_formed.0 e in
          record { is_well_formed = c; before_the_end = omega (arith, c.time, eqb-false m.clock (2 ^ 40) t) }

      go : (x : Bool) → well_formed m ≡ x → (y : Bool) → eqb m.clock (2 ^ 40) ≡ y
          → (a : Found) → past_in m mask ≡ a → (b : Found) → soon_in m mask ≡ b → (c : Found) → hyper_in m mask ≡ c
          → Says m mask
          (cond (not x) (refused (Refusal.NotWellFormed 0))
          (cond y (refused (Refusal.ClockAtEnd 0))
          (refuse_at Refusal.NoSuchTask a (refuse_at Refusal.ArrivalTooSoon b (refuse_at Refusal.ArrivalWhileHyper c accepted)))))
      go false e y t a p b s c h = λ k. true≢false (sym (is_well_formed.1 k) ∙ e)
      go true e true t a p b s c h = (is_well_formed.0 e, eqb-true m.clock (2 ^ 40) t)
      go true e false t (at i) p b s c h = (i, refl, (in_time e t, (past.lowest i).0 p))
      go true e false t none p (at i) s c h = (i, refl, (in_time e t, known_exactly.0 p, ((soon (is_well_formed.0 e)).lowest i).0 s))
      go true e false t none p none s (at i) h =
          (i, refl, (in_time e t, known_exactly.0 p, (spaced_exactly (is_well_formed.0 e)).0 s, (hyper.lowest i).0 h))
      go true e false t none p none s none h =
          record {
            in_time = in_time e t;
            known = known_exactly.0 p;
            spaced = (spaced_exactly (is_well_formed.0 e)).0 s;
            free = free_exactly.0 h;
          }

  pub accepted_exactly : (verdict m mask ≡ accepted) ↔ NoneApplies m mask
  unfolding verdict
  accepted_exactly = (
    λ e. rw e at verdict_says,
    λ n.
        let c = n.in_time.is_well_formed in
        rw (is_well_formed.1 c, before_end n.in_time, known_exactly.1 n.known, (spaced_exactly c).1 n.spaced, free_exactly.1 n.free),
  )

  pub taken_exactly : (signal : ℕ) (early : Bool) → ((said : Taken) × ((step_of m mask signal early).answer ≡ Ok said)) ↔ NoneApplies m mask
  unfolding step_of
  taken_exactly signal early = (
    λ t. go (verdict m mask) refl t.0 t.1,
    λ n.
        let t = is_taken m mask signal early in
        (t.says, rw (accepted_exactly.1 n) t.answers),
  )
    where
      go : (v : Verdict) → verdict m mask ≡ v → (said : Taken) → (step_by m mask signal early v).answer ≡ Ok said → NoneApplies m mask
      go (refused x) e said q = let z : ◌≡◌ {A = ℕ} 0 1 = cc in absurd (omega arith)
      go accepted e said q = accepted_exactly.0 e

  -- 8 to 12, each where those before it don't apply
  pub eight_exactly : (verdict m mask ≡ refused (Refusal.NotWellFormed 0)) ↔ Eight m
  unfolding verdict
  eight_exactly = (λ e. rw e at verdict_says, λ h. go (well_formed m) refl h)
    where
      go : (x : Bool) → well_formed m ≡ x → Eight m → verdict m mask ≡ refused (Refusal.NotWellFormed 0)
      go true e h = absurd (h (is_well_formed.0 e))
      go false e h = rw e

  pub nine_exactly : (verdict m mask ≡ refused (Refusal.ClockAtEnd 0)) ↔ Nine m
  unfolding verdict
  nine_exactly = (λ e. rw e at verdict_says, λ h. rw (is_well_formed.1 h.0, eq-eqb m.clock (2 ^ 40) h.1))

  pub ten_exactly : (i : ℕ) → (verdict m mask ≡ refused (Refusal.NoSuchTask (i + 1))) ↔ Ten m mask i
  unfolding verdict
  ten_exactly i = (
    λ e.
        let t : Says m mask (refused (Refusal.NoSuchTask (i + 1))) = rw e at verdict_says in
        let z : t.0 ≡ i = omega arith in
        rw z at t.2,
    λ h. rw (is_well_formed.1 h.0.is_well_formed, before_end h.0, (past.lowest i).1 h.1),
  )

  pub eleven_exactly : (i : ℕ) → (verdict m mask ≡ refused (Refusal.ArrivalTooSoon (i + 1))) ↔ Eleven m mask i
  unfolding verdict
  eleven_exactly i = (
    λ e.
        let t : Says m mask (refused (Refusal.ArrivalTooSoon (i + 1))) = rw e at verdict_says in
        let z : t.0 ≡ i = omega arith in
        rw z at t.2,
    λ h.
        let c = h.0.is_well_formed in
        rw (is_well_formed.1 c, before_end h.0, known_exactly.1 h.1, ((soon c).lowest i).1 h.2),
  )

  pub twelve_exactly : (i : ℕ) → (verdict m mask ≡ refused (Refusal.ArrivalWhileHyper (i + 1))) ↔ Twelve m mask i
  unfolding verdict
  twelve_exactly i = (
    λ e.
        let t : Says m mask (refused (Refusal.ArrivalWhileHyper (i + 1))) = rw e at verdict_says in
        let z : t.0 ≡ i = omega arith in
        rw z at t.2,
    λ h.
        let c = h.0.is_well_formed in
        rw (is_well_formed.1 c, before_end h.0, known_exactly.1 h.1, (spaced_exactly c).1 h.2, (hyper.lowest i).1 h.3),
  )
