-- Document 01, "Cases": a machine on P3, arrival at 0, with each answer by number and place. The definitions compute. Assumes nothing.
use mathlib.Core.Path.{◌≡◌, refl}
use mathlib.Core.Bool.{Bool, true, false}
use mathlib.Core.List.{List, [], ◌∷◌, ◌++◌}
use Prim.Native.Nat.{ℕ}
use native.Mathlib.Omega.{arith}
use lib.ListN.{length}
use Rattle.machine.specs.declared.Stage.{Stage}
use Rattle.machine.specs.declared.Row.{Row}
use Rattle.machine.specs.declared.Machine.{Machine}
use Rattle.machine.specs.declared.Ran.{Ran}
use Rattle.machine.specs.declared.Mark.{Mark}
use Rattle.machine.specs.declared.Stepped.{Stepped}
use Rattle.machine.specs.Rows.{age, first_from, map_from, every, how_many}
use Rattle.machine.specs.WellFormed.{fields_fit, stage_fits, is_blank, well_formed}
use Rattle.machine.specs.TickRule.{verdict, chosen, turned, taken, step_of}
use Rattle.machine.specs.Fresh.{fresh_rows, fresh_at}
use Rattle.machine_laws.specs.Ticks.{Says, refused, took, says}
use Rattle.machine_laws.specs.Clauses.{Clauses, NoneApplies}
use Rattle.machine_laws.proofs.Fresh.{fresh_formed, fresh_length}
use Rattle.machine_laws.proofs.Clauses.{well_formed_exactly}
use Rattle.machine_laws.proofs.Refusals.{accepted_exactly}

-- P3: 10 8 6 2, whose E is 6
abbrev p3_rows : List Row
p3_rows = record { t = 10; d = 8; c = 6; k = 2; e = 6; stage = Stage.Never } ∷ []

abbrev p3 : Machine
p3 = fresh_at p3_rows 0

-- before its first tick it has 32 places and is well formed, and none of 8 to 12 applies to an arrival of its task
pub p3_places : length p3.rows ≡ 32
p3_places = fresh_length p3_rows 0 (omega arith)

pub p3_well_formed : Clauses p3
unfolding every fields_fit
p3_well_formed = (well_formed_exactly p3 p3_places).0 (fresh_formed p3_rows 0 (omega arith) (omega arith) refl (omega arith))

pub p3_none_applies : NoneApplies p3 1
unfolding age first_from map_from every how_many fields_fit stage_fits is_blank well_formed verdict fresh_rows fresh_at
p3_none_applies = (accepted_exactly p3 1 p3_places).0 refl

-- ticks as mask and signal
record Tick : Type 0 where
  pub mask : ℕ
  pub signal : ℕ

abbrev arrival : Tick
arrival = record { mask = 1; signal = 0 }

abbrev silent : Tick
silent = record { mask = 0; signal = 0 }

abbrev signals : Tick
signals = record { mask = 0; signal = 1 }

-- the answers to a list of ticks from a machine
abbrev answers : Machine → List Tick → List Says
answers m [] = []
answers m (x ∷ xs) =
    let s : Stepped = step_of m x.mask x.signal false in
    says s.answer ∷ answers s.machine xs

abbrev guest : Mark → Says
guest mark = took (Ran.Guest 1) mark false

abbrev hypertask : Mark → Bool → Says
hypertask mark ignored = took (Ran.Hypertask 1) mark ignored

abbrev nobody : Says
nobody = took Ran.Nobody Mark.Nothing false

-- ticks 0 to 4: the arrival, and a silent guest
abbrev five : List Tick
five = arrival ∷ silent ∷ silent ∷ silent ∷ silent ∷ []

abbrev five_ran : List Says
five_ran = guest Mark.Nothing ∷ guest Mark.Nothing ∷ guest Mark.Nothing ∷ guest Mark.Nothing ∷ guest Mark.Nothing ∷ []

-- signal 1 in tick 5 gives the guest's output
pub signal_in_tick_5 : answers p3 (five ++ signals ∷ []) ≡ five_ran ++ guest Mark.Output ∷ []
unfolding age first_from map_from every how_many fields_fit stage_fits is_blank well_formed verdict chosen turned taken step_of fresh_rows fresh_at
signal_in_tick_5 = refl

-- silent till then, tick 6 runs the hypertask
pub silent_till_6 : answers p3 (five ++ silent ∷ silent ∷ silent ∷ [])
    ≡ five_ran ++ guest Mark.BudgetUsedUp ∷ hypertask Mark.Nothing false ∷ hypertask Mark.Output false ∷ []
unfolding age first_from map_from every how_many fields_fit stage_fits is_blank well_formed verdict chosen turned taken step_of fresh_rows fresh_at
silent_till_6 = refl

-- and a signal 1 there is ignored
pub signal_in_tick_6 : answers p3 (five ++ silent ∷ signals ∷ []) ≡ five_ran ++ guest Mark.BudgetUsedUp ∷ hypertask Mark.Nothing true ∷ []
unfolding age first_from map_from every how_many fields_fit stage_fits is_blank well_formed verdict chosen turned taken step_of fresh_rows fresh_at
signal_in_tick_6 = refl

-- ticks 5 to 8, with the guest's output in tick 5
abbrev till9 : List Tick
till9 = five ++ signals ∷ silent ∷ silent ∷ silent ∷ []

abbrev till_9_ran : List Says
till_9_ran = five_ran ++ guest Mark.Output ∷ nobody ∷ nobody ∷ nobody ∷ []

-- a second arrival at 9 is refused with 11
pub second_arrival_at_9 : answers p3 (till9 ++ arrival ∷ []) ≡ till_9_ran ++ refused 11 1 ∷ []
unfolding age first_from map_from every how_many fields_fit stage_fits is_blank well_formed verdict chosen turned taken step_of fresh_rows fresh_at
second_arrival_at_9 = refl

-- at 10 it isn't
pub second_arrival_at_10 : answers p3 (till9 ++ silent ∷ arrival ∷ []) ≡ till_9_ran ++ nobody ∷ guest Mark.Nothing ∷ []
unfolding age first_from map_from every how_many fields_fit stage_fits is_blank well_formed verdict chosen turned taken step_of fresh_rows fresh_at
second_arrival_at_10 = refl
