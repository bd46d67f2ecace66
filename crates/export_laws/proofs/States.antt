-- What can be read comes back as it was; numbers can be read exactly where they tell a machine; ticks that are refused leave the state as it
-- was; and a step leaves what a run of its one record leaves. Assumes nothing.
use mathlib.Core.Path.{◌≡◌, refl, sym, ap, ◌∙◌}
use mathlib.Core.Bool.{Bool, true, false, cond}
use mathlib.Core.List.{List, [], ◌∷◌, ◌++◌}
use Rattle.std.specs.Prelude.{Option, None, Some}
use Prim.Native.Nat.{ℕ, zero, suc, ◌/◌, ◌≤◌, ◌<◌, ◌^◌, min}
use native.Mathlib.Omega.{arith}
use borrow.Author.Tests.{ltb-false}
use lib.Dec.{ltb, eqb}
use lib.ListN.{length, drop}
use Rattle.least.specs.Search.{first_where}
use Rattle.least.specs.Lists.{list_of, flat}
use Rattle.refusals.specs.declared.Refusal.{Refusal}
use Rattle.refusals.specs.declared.Refusal.TheVariants.{NotWellFormed, RecordBytes, OutputShort}
use Rattle.machine.specs.Rows.{age, first_from, map_from, every, how_many}
use Rattle.machine.specs.WellFormed.{fields_fit, stage_fits, is_blank, well_formed}
use Rattle.machine.specs.TickRule.{verdict, chosen, turned, taken, step_of}
use Rattle.machine.specs.declared.Machine.{Machine}
use Rattle.machine.specs.declared.Stepped.{Stepped}
use Rattle.machine_laws.proofs.Ticks.{refused_keeps}
use Rattle.plan.specs.Numbers.{number_at}
use Rattle.plan.specs.Bodies.{tick_at}
use Rattle.plan.specs.declared.Tick.{Tick}
use Rattle.plan.proofs.Digits.{number_front}
use Rattle.export.specs.Files.{refusal_place}
use Rattle.export.specs.State.{state_of, row_in, machine_in, stray, unreadable, readable}
use Rattle.export.specs.Step.{step_in, refusal_in, step_refusal, StepsMachine}
use Rattle.export.specs.Ticks.{answer_bytes, step_by, machine_after, answer_to, ticks_refusal, ticks_taken, state_after, TakesTicks}
use Rattle.export_laws.specs.Cases.{four_numbers}
use Rattle.export_laws.specs.States.{Held, ReadsExactly, IsRefused, tick_record, LeavesSame, Met}
use Rattle.export_laws.proofs.Reading.{told_again, held_again, told_readable, told_machine}

-- ## Reading

-- what can be read comes back as it was
pub read_back : (l : List ℕ) → readable l ≡ true → state_of (machine_in l) ++ drop 258 l ≡ l
read_back = told_again

-- what a machine is told by can be read, whatever follows, and it is that machine
pub numbers_read : (m : Machine) (rest : List ℕ) → Held m → (readable (state_of m ++ rest) ≡ true) × (machine_in (state_of m ++ rest) ≡ m)
numbers_read m rest h = (told_readable m rest h, told_machine m rest h)

pub reads_exactly : (l : List ℕ) → ReadsExactly l
reads_exactly l =
    record {
      told = λ m t. rw t.numbers at (numbers_read m (drop 258 l) t.held);
      read = λ e. record { held = held_again l e; numbers = read_back l e };
    }

-- ## Refused ticks

-- ticks that are all refused keep the machine
all_refused : (state records : List ℕ) (n : ℕ) → ((i : ℕ) → i < n → IsRefused state records i)
    → machine_after (machine_in state) records n ≡ machine_in state
unfolding machine_after
all_refused state records zero h = refl
all_refused state records (suc n) h =
    let m = machine_in state in
    let t : Tick = tick_at records n in
    let r = h n (omega arith) in
    ap (λ (x : Machine). (step_by x t).machine) (all_refused state records n (λ i b. h i (omega arith)))
    ∙ refused_keeps m t.mask t.signal t.early r.why r.refused

after_refused : (state records : List ℕ) (n : ℕ) → readable state ≡ true → ((i : ℕ) → i < n → IsRefused state records i)
    → state_after state records n ≡ state
after_refused state records n e h = go (eqb n 0)
  where
    go : (b : Bool) → cond b state (state_of (machine_after (machine_in state) records n) ++ drop 258 state) ≡ state
    go true = refl
    go false = rw (all_refused state records n h) (read_back state e)

-- where every tick that was taken is refused, the state is as it was; the place says how many were
pub refused_ticks_keep : (state records lent : List ℕ) (answer place : ℕ) (left out : List ℕ) → TakesTicks state records lent answer place left out
    → ((i : ℕ) → i < place → IsRefused state records i)
    → left ≡ state
unfolding ticks_taken
refused_ticks_keep state records lent answer place left out t h = go (readable state) refl t.places t.leaves
  where
    go : (b : Bool) → readable state ≡ b → place ≡ refusal_place (ticks_refusal state) (ticks_taken state (length records) (length lent))
        → left ≡ state_after state records (ticks_taken state (length records) (length lent)) → left ≡ state
    go true e p q =
        let n : place ≡ ticks_taken state (length records) (length lent) = p ∙ rw e in
        q ∙ ap (state_after state records) (sym n) ∙ after_refused state records place e h
    go false e p q = q ∙ rw e

-- of one record at most one tick is taken
place_few : (b : Bool) (x y : ℕ) → x ≡ 8 → refusal_place (cond b None (Some (NotWellFormed 0))) (cond b (min (x / 8) (y / 12)) 0) ≤ 1
place_few true x y h = omega arith
place_few false x y h = omega arith

pub refused_tick_keeps : (state records lent : List ℕ) (answer place : ℕ) (left out : List ℕ) → TakesTicks state records lent answer place left out
    → length records ≡ 8 → IsRefused state records 0
    → left ≡ state
unfolding ticks_taken
refused_tick_keeps state records lent answer place left out t l r =
    let n : place ≤ 1 = rw t.places (place_few (readable state) (length records) (length lent) l) in
    refused_ticks_keep state records lent answer place left out t (λ i b. let z : i ≡ 0 = omega arith in rw z r)

-- ## A step and a run of one record

-- what a step without a refusal has passed
passed : (state : List ℕ) (mask signal early room : ℕ) → step_refusal state mask signal early room ≡ None
    → (12 ≤ room) × (readable state ≡ true)
unfolding step_refusal
passed state mask signal early room h =
    go (ltb 1 early) (ltb room 12) refl (readable state) refl (refusal_in (step_in state mask signal early).answer) h
  where
    go : (a b : Bool) → ltb room 12 ≡ b → (c : Bool) → readable state ≡ c → (o : Option Refusal)
        → cond a (Some (RecordBytes 0)) (cond b (Some (OutputShort 12)) (cond c o (Some (NotWellFormed 0)))) ≡ None
        → (12 ≤ room) × (readable state ≡ true)
    go true b p c q o e = let z : ◌≡◌ {A = ℕ} 0 1 = cc in absurd (omega arith)
    go false true p c q o e = let z : ◌≡◌ {A = ℕ} 0 1 = cc in absurd (omega arith)
    go false false p true q o e = (ltb-false room 12 p, q)
    go false false p false q o e = let z : ◌≡◌ {A = ℕ} 0 1 = cc in absurd (omega arith)

-- a record read is the tick it was made of
record_read : (mask signal early : ℕ) → mask < 2 ^ 32
    → tick_at (tick_record mask signal early) 0 ≡ record { mask = mask; signal = signal; early = eqb early 1 }
record_read mask signal early h = rw (number_front mask (signal ∷ early ∷ 0 ∷ 0 ∷ []) h)

module _
    (state : List ℕ) (mask signal early : ℕ) (lent : List ℕ)
    (taken-one : step_refusal state mask signal early (length lent) ≡ None) (small : mask < 2 ^ 32) where
  same_step : step_in state mask signal early ≡ step_by (machine_in state) (tick_at (tick_record mask signal early) 0)
  same_step = ap (step_by (machine_in state)) (sym (record_read mask signal early small))

  pub step_is_ticks : LeavesSame state mask signal early lent
  unfolding ticks_taken machine_after answer_to flat
  step_is_ticks =
      let p = passed state mask signal early (length lent) taken-one in
      record {
        taken = rw p.1 (omega arith);
        states = ap (λ (x : Stepped). state_of x.machine ++ drop 258 state) same_step;
        answers = ap (λ (x : Stepped). answer_bytes (machine_in state).clock x.answer ++ drop 12 lent) same_step;
      }

  -- so it keeps the promise of that run
  pub step_keeps_ticks : (answer place : ℕ) (left out : List ℕ) → StepsMachine state mask signal early lent answer place left out
      → TakesTicks state (tick_record mask signal early) lent answer 1 left out
  step_keeps_ticks answer place left out s =
      let p = passed state mask signal early (length lent) taken-one in
      let e = step_is_ticks in
      record {
        answers = s.answers ∙ rw (taken-one, p.1);
        places = rw (p.1, e.taken);
        leaves = s.leaves ∙ rw (taken-one, e.taken) e.states;
        writes = s.writes ∙ rw (taken-one, e.taken) e.answers;
      }

-- ## What is asked for does happen

pub met : Met
unfolding first_where list_of flat age first_from map_from every how_many fields_fit stage_fits is_blank well_formed verdict chosen turned taken step_of
    number_at state_of row_in machine_in stray unreadable readable step_refusal machine_after answer_to ticks_taken
met =
    record {
      told = (reads_exactly four_numbers).read refl;
      run = record { answers = refl; places = refl; leaves = refl; writes = refl };
      refused = record { why = Refusal.NoSuchTask 6; refused = refl };
      no_refusal = refl;
      step = record { answers = refl; places = refl; leaves = refl; writes = refl };
    }
