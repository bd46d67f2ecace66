-- Counters that are kept tick by tick are demand 3's counts of the ticks taken. Assumes nothing.
use mathlib.Core.Path.{◌≡◌, refl, sym, ap, ◌∙◌}
use mathlib.Core.Bool.{Bool, true, false, ◌&&◌}
use mathlib.Core.List.{List, [], ◌++◌, append-nil}
use Prim.Native.Nat.{ℕ, zero, suc, ◌+◌, ◌-◌, ◌≤◌, ◌<◌}
use mir.Val.{bool_byte}
use native.Mathlib.Omega.{arith}
use lib.ListN.{length, replicate, get_or-replicate}
use Rattle.std.specs.Prelude.{Ok, Err}
use Rattle.least.specs.Lists.{flat}
use Rattle.least.proofs.Lists.{flat_same}
use Rattle.least.specs.Sums.{sum}
use Rattle.machine.specs.Rows.{in_mask}
use Rattle.machine.specs.TickRule.{step_of}
use Rattle.machine.specs.declared.Machine.{Machine}
use Rattle.machine.specs.declared.Taken.{Taken}
use Rattle.machine.specs.Answers.{Answer}
use Rattle.demands.specs.Runs.{Tick, TakenTick, Run, taken_by, after, run}
use Rattle.demands.specs.Jobs.{is_output, is_guest_of, is_hypertask_of, brought, guest_gives, hypertask_gives, one, number_of}
use Rattle.demands.specs.Jobs.{jobs_arrived, guest_outputs_of, hypertask_outputs_of, jobs_open}
use Rattle.demands.proofs.TakenTicks.{arrived_more, guest_outputs_of_more, hypertask_outputs_of_more}
use Rattle.report.specs.declared.totals.Count.{Count}
use Rattle.report.specs.declared.totals.Counts.{Counts}
use Rattle.report.specs.Report.{task_lines}
use Rattle.text.specs.Lines.{task_line}
use Rattle.report.proofs.Lines.{from_front}
use Rattle.report.specs.Inside.{no_count, Below, Becomes, with_arrival, with_output, with_answer, Totals, Balanced, total_line}

-- the TASK line of row i after the ticks taken
abbrev task_at : List TakenTick → ℕ → List ℕ
task_at l i = task_line (i + 1) (jobs_arrived l i) (guest_outputs_of l i) (hypertask_outputs_of l i) (jobs_open l i)

-- one count's turn of a loop over the mask
byte_one : (b : Bool) → bool_byte b ≡ one b
byte_one true = refl
byte_one false = refl

pub arrival_turn : (mask i x : ℕ) (c d : Count) → x ≡ bool_byte (in_mask mask i) → c ≡ d
    → ◌≡◌ {A = Count} (record { arrived = c.arrived + x; guest = c.guest; hypertask = c.hypertask }) (with_arrival mask i d)
arrival_turn mask i x c d e f = rw (e, byte_one, f)

-- ## One tick more

pub totals_none : (z : Count) → z ≡ no_count → Totals [] (record { tasks = replicate 32 z })
unfolding sum jobs_arrived guest_outputs_of hypertask_outputs_of
totals_none z e = rw e (record { counts = λ i h. get_or-replicate 32 i no_count no_count h })

module _ (r : Run) (t : Tick) (x y : Counts) (old : Totals r.taken x) where
  by_answer : (a : Answer) → Becomes (with_answer t.mask a) x y → Totals (r.taken ++ taken_by t a) y
  by_answer (Ok said) added =
      let e : TakenTick = record { tick = t; said = said } in
      record {
        counts = λ i b.
            added i b ∙ ap (with_answer t.mask (Ok said) i) (old.counts i b)
            ∙ rw (← arrived_more r.taken e i, ← guest_outputs_of_more r.taken e i, ← hypertask_outputs_of_more r.taken e i);
      }
  by_answer (Err refusal) added = rw (append-nil r.taken) (record { counts = λ i b. added i b ∙ old.counts i b })

  pub totals_more : (a : Answer) (mask : ℕ) → a ≡ (step_of r.machine t.mask t.signal t.early).answer → mask ≡ t.mask
      → Becomes (with_answer mask a) x y → Totals (after r t).taken y
  unfolding after
  totals_more a mask e f added = rw (← e) (by_answer a (rw f at added))

-- ## They stay small

pub one_low : (b : Bool) → one b ≤ 1
one_low true = omega arith
one_low false = omega arith

pub number_low : (p : ℕ → Bool) (n : ℕ) → number_of p n ≤ n
unfolding sum
number_low p zero = omega arith
number_low p (suc n) = omega (arith, number_low p n, one_low (p n))

pub totals_low : (l : List TakenTick) (x : Counts) → Totals l x → length l ≤ 65536 → Below 65537 x
unfolding jobs_arrived guest_outputs_of hypertask_outputs_of
totals_low l x t few =
    record {
      arrived = λ i b. omega (arith, ap (λ (c : Count). c.arrived) (t.counts i b), number_low (brought l i) (length l));
      guest = λ i b. omega (arith, ap (λ (c : Count). c.guest) (t.counts i b), number_low (guest_gives l i) (length l));
      hypertask = λ i b. omega (arith, ap (λ (c : Count). c.hypertask) (t.counts i b), number_low (hypertask_gives l i) (length l));
    }

-- an output more leaves room for an arrival more
pub output_low : (said : Taken) (x y : Counts) → Below 65537 x → Becomes (with_output said) x y
    → Below 18446744073709551615 y
output_low said x y low more =
    record {
      arrived = λ i b. omega (arith, ap (λ (c : Count). c.arrived) (more i b), low.arrived i b);
      guest = λ i b.
          omega (arith, ap (λ (c : Count). c.guest) (more i b), low.guest i b, one_low (is_output said.mark && is_guest_of i said.ran));
      hypertask = λ i b.
          omega (arith, ap (λ (c : Count). c.hypertask) (more i b), low.hypertask i b, one_low (is_output said.mark && is_hypertask_of i said.ran));
    }

-- ## The TASK lines

module _ (m : Machine) (n : ℕ) (few : n ≤ 32) (told : Balanced m n) (ticks : List Tick) (x : Counts) (t : Totals (run m ticks).taken x) where
  abbrev l : List TakenTick
  l = (run m ticks).taken

  open_left : (i : ℕ) → i < n → jobs_arrived l i - guest_outputs_of l i - hypertask_outputs_of l i ≡ jobs_open l i
  open_left i b = omega (arith, told.counts ticks i b)

  pub total_lines : flat (total_line x) n ≡ task_lines l 0 n
  unfolding task_lines
  total_lines =
      flat_same (total_line x) (task_at l) n (λ i b. let c : i < 32 = omega arith in rw (t.counts i c, open_left i b))
      ∙ sym (from_front (task_at l) (task_lines l) (λ i. refl) (λ i k. refl) n)
