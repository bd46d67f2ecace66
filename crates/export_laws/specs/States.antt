-- What reading a state means, without the tests that compute it; what refused ticks leave; and a step beside a run of one record.
-- Assumes nothing.
use Rattle.std.specs.Prelude.{◌≡◌, true, List, [], ◌∷◌, ◌++◌, ℕ, ◌<◌, ◌^◌, length, get_or, drop, replicate, None, Err}
use Rattle.refusals.specs.declared.Refusal.{Refusal}
use Rattle.machine.specs.Rows.{no_row}
use Rattle.machine.specs.declared.Row.{Row}
use Rattle.machine.specs.Answers.{Answer}
use Rattle.machine.specs.declared.Machine.{Machine}
use Rattle.plan.specs.Numbers.{bytes_of}
use Rattle.plan.specs.Bodies.{tick_at}
use Rattle.export.specs.State.{state_of, machine_in, readable}
use Rattle.export.specs.Step.{step_in, step_refusal, state_stepped, answer_stepped, StepsMachine}
use Rattle.export.specs.Ticks.{step_by, ticks_taken, state_after, answers_after, TakesTicks}
use Rattle.export_laws.specs.Cases.{four, four_numbers, p2_fresh, p2_arrived, guest_at}

-- ## Reading

-- the fields of a row are numbers of 32 bits
pub record Fields32 (r : Row) : Type 0 where
  pub t_fits : r.t < 2 ^ 32
  pub d_fits : r.d < 2 ^ 32
  pub c_fits : r.c < 2 ^ 32
  pub k_fits : r.k < 2 ^ 32
  pub e_fits : r.e < 2 ^ 32

-- a machine as the code holds it: 32 places, with fields of 32 bits
pub record Held (m : Machine) : Type 0 where
  pub places : length m.rows ≡ 32
  pub fields : (i : ℕ) → i < 32 → Fields32 (get_or m.rows i no_row)

-- the numbers begin with those of such a machine
pub record Tells (l : List ℕ) (m : Machine) : Type 0 where
  pub held : Held m
  pub numbers : state_of m ++ drop 258 l ≡ l

-- numbers can be read exactly where they tell a machine, and it is the machine that is read
pub record ReadsExactly (l : List ℕ) : Type 0 where
  pub told : (m : Machine) → Tells l m → (readable l ≡ true) × (machine_in l ≡ m)
  pub read : readable l ≡ true → Tells l (machine_in l)

-- ## Ticks

-- the tick of record i is refused by the machine in the state
pub record IsRefused (state records : List ℕ) (i : ℕ) : Type 0 where
  pub why : Refusal
  pub refused : (step_by (machine_in state) (tick_at records i)).answer ≡ Err why

-- the record of a tick: mask (4 bytes), signal, early mark, two zero bytes
abbrev pub tick_record : ℕ → ℕ → ℕ → List ℕ
tick_record mask signal early = bytes_of mask ++ (signal ∷ early ∷ 0 ∷ 0 ∷ [])

-- a step that is taken leaves what a run of its one record leaves
pub record LeavesSame (state : List ℕ) (mask signal early : ℕ) (lent : List ℕ) : Type 0 where
  pub taken : ticks_taken state (length (tick_record mask signal early)) (length lent) ≡ 1
  pub states : state_stepped None (step_in state mask signal early) state ≡ state_after state (tick_record mask signal early) 1
  pub answers : answer_stepped None (machine_in state).clock (step_in state mask signal early) lent
      ≡ answers_after state (tick_record mask signal early) lent 1

-- ## What is asked for does happen

-- numbers that tell a machine; on a fresh machine of P2 a run whose one tick is refused with 10 at 6, and a step that is taken
pub record Met : Type 0 where
  pub told : Tells four_numbers four
  pub run : TakesTicks p2_fresh (tick_record 32 0 0) (replicate 13 9) 0 1 p2_fresh
      (0 ∷ 0 ∷ 0 ∷ 0 ∷ 6 ∷ 0 ∷ 0 ∷ 0 ∷ 3 ∷ 10 ∷ 0 ∷ 0 ∷ 9 ∷ [])
  pub refused : IsRefused p2_fresh (tick_record 32 0 0) 0
  pub no_refusal : step_refusal p2_fresh 1 0 0 13 ≡ None
  pub step : StepsMachine p2_fresh 1 0 0 (replicate 13 9) 0 0 p2_arrived (guest_at 0 ++ (9 ∷ []))
