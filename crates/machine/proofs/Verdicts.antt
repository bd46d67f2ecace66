-- Refusals 8 to 12: what a well formed state and an accepted tick say. Assumes nothing.
use mathlib.Core.Path.{◌≡◌, refl, ◌∙◌, sym}
use mathlib.Core.Bool.{Bool, true, false, not, ◌&&◌, cond}
use Prim.Native.Nat.{ℕ, ◌-◌, ◌≤◌, ◌<◌, ◌^◌}
use native.Mathlib.Omega.{arith}
use lib.Dec.{leb, eqb}
use lib.ListN.{take, drop}
use borrow.Author.Tests.{leb-true, lt-leb, eqb-false}
use Rattle.refusals.specs.declared.Refusal.{Refusal}
use Rattle.machine.specs.declared.Machine.{Machine}
use Rattle.machine.specs.Rows.{Found, at, none, first, every, how_many}
use Rattle.machine.specs.WellFormed.{row_fits, is_blank, begun_row, well_formed}
use Rattle.machine.specs.TickRule.{past_last, too_soon, while_hyper, Verdict, refused, accepted, refuse_at, verdict}
use Rattle.machine.specs.OnePass.{is_none, misplaced}
use Rattle.machine.proofs.Tests.{both, and_false}
use Rattle.machine.proofs.Searches.{every_place, is_none_lem}

and_swap : (x y z : Bool) → (x && (y && z)) ≡ ((x && z) && y)
and_swap true true true = refl
and_swap true true false = refl
and_swap true false true = refl
and_swap true false false = refl
and_swap false y z = refl

-- well formed, place by place
pub well_law : (m : Machine)
    → well_formed m
    ≡ ((leb 1 m.count && leb m.count 32)
    && (leb m.clock (2 ^ 40) && (is_none (first (misplaced m.clock m.count) m.rows) && leb (how_many begun_row m.rows) 1)))
unfolding well_formed
well_law m =
    let z : m.count - 0 ≡ m.count = omega arith in
    let e : (every (row_fits m.clock) (take m.count m.rows) && every is_blank (drop m.count m.rows))
    ≡ is_none (first (misplaced m.clock m.count) m.rows) = rw z at (every_place (row_fits m.clock) is_blank m.count 0 m.rows) in
    rw (and_swap (every (row_fits m.clock) (take m.count m.rows)) (leb (how_many begun_row m.rows) 1) (every is_blank (drop m.count m.rows)), e)

-- the parts of a well formed state
pub record Formed (m : Machine) : Type 0 where
  pub some : 1 ≤ m.count
  pub most : m.count ≤ 32
  pub time : m.clock ≤ 2 ^ 40
  pub each : first (misplaced m.clock m.count) m.rows ≡ none
  pub one : how_many begun_row m.rows ≤ 1

pub formed : (m : Machine) → well_formed m ≡ true → Formed m
formed m h =
    let f : Bool = is_none (first (misplaced m.clock m.count) m.rows) in
    let o : Bool = leb (how_many begun_row m.rows) 1 in
    let t : Bool = leb m.clock (2 ^ 40) in
    let x = both (leb 1 m.count && leb m.count 32) (t && (f && o)) (sym (well_law m) ∙ h) in
    let y = both (leb 1 m.count) (leb m.count 32) x.0 in
    let z = both t (f && o) x.1 in
    let w = both f o z.1 in
    record {
      some = leb-true 1 m.count y.0;
      most = leb-true m.count 32 y.1;
      time = leb-true m.clock (2 ^ 40) z.0;
      each = is_none_lem (first (misplaced m.clock m.count) m.rows) w.0;
      one = leb-true (how_many begun_row m.rows) 1 w.1;
    }

-- the searches of refusals 10 to 12
abbrev pub past_in : Machine → ℕ → Found
past_in m mask = first (past_last mask m.count) m.rows

abbrev pub soon_in : Machine → ℕ → Found
soon_in m mask = first (too_soon mask m.clock) m.rows

abbrev pub hyper_in : Machine → ℕ → Found
hyper_in m mask = first (while_hyper mask) m.rows

-- an accepted tick passed every check
pub record Passed (m : Machine) (mask : ℕ) : Type 0 where
  pub good : well_formed m ≡ true
  pub room : m.clock < 2 ^ 40
  pub known : past_in m mask ≡ none
  pub apart : soon_in m mask ≡ none
  pub free : hyper_in m mask ≡ none

refuse_not : (refusal : ℕ → Refusal) (f : Found) (v : Verdict) → refuse_at refusal f v ≡ accepted → (f ≡ none) × (v ≡ accepted)
refuse_not refusal (at i) v h = let z : ◌≡◌ {A = ℕ} 0 1 = cc in absurd (omega arith)
refuse_not refusal none v h = (refl, h)

-- the checks on arrivals
abbrev checks_from : Found → Found → Found → Verdict
checks_from p s h = refuse_at Refusal.NoSuchTask p (refuse_at Refusal.ArrivalTooSoon s (refuse_at Refusal.ArrivalWhileHyper h accepted))

pub passed : (m : Machine) (mask : ℕ) → verdict m mask ≡ accepted → Passed m mask
unfolding verdict
passed m mask h = go (well_formed m) refl (eqb m.clock (2 ^ 40)) refl h
  where
    go : (x : Bool) → well_formed m ≡ x → (y : Bool) → eqb m.clock (2 ^ 40) ≡ y
        → cond (not x) (refused (Refusal.NotWellFormed 0))
        (cond y (refused (Refusal.ClockAtEnd 0)) (checks_from (past_in m mask) (soon_in m mask) (hyper_in m mask))) ≡ accepted → Passed m mask
    go false e y t q = let z : ◌≡◌ {A = ℕ} 0 1 = cc in absurd (omega arith)
    go true e true t q = let z : ◌≡◌ {A = ℕ} 0 1 = cc in absurd (omega arith)
    go true e false t q =
        let last : Verdict = refuse_at Refusal.ArrivalWhileHyper (hyper_in m mask) accepted in
        let a = refuse_not Refusal.NoSuchTask (past_in m mask) (refuse_at Refusal.ArrivalTooSoon (soon_in m mask) last) q in
        let b = refuse_not Refusal.ArrivalTooSoon (soon_in m mask) last a.1 in
        let c = refuse_not Refusal.ArrivalWhileHyper (hyper_in m mask) accepted b.1 in
        let k : m.clock ≤ 2 ^ 40 = (formed m e).time in
        record { good = e; room = omega (arith, eqb-false m.clock (2 ^ 40) t); known = a.0; apart = b.0; free = c.0 }

pub verdict_unfit : (m : Machine) (mask : ℕ) → well_formed m ≡ false → verdict m mask ≡ refused (Refusal.NotWellFormed 0)
unfolding verdict
verdict_unfit m mask h = rw h

-- more than 32 rows
pub too_many : (m : Machine) → 32 < m.count → well_formed m ≡ false
too_many m h = rw (well_law m, lt-leb m.count 32 h, and_false (leb 1 m.count))
