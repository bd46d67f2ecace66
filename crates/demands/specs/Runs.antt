-- Runs: lists of ticks over the machine's own step. A refused tick counts as not taken; the taken ticks are numbered from 0.
-- Assumes nothing.
use Rattle.std.specs.Prelude.{ℕ, Bool, List, [], ◌∷◌, ◌++◌, Ok, Err}
use Rattle.machine.specs.declared.Machine.{Machine}
use Rattle.machine.specs.declared.Taken.{Taken}
use Rattle.machine.specs.Answers.{Answer}
use Rattle.machine.specs.declared.Stepped.{Stepped}
use Rattle.machine.specs.TickRule.{step_of}

-- what a tick brings: a mask of arrivals, a guest signal, an early-end mark
pub record Tick : Type 0 where
  pub mask : ℕ
  pub signal : ℕ
  pub early : Bool

-- a tick that was taken, with what its answer says
pub record TakenTick : Type 0 where
  pub tick : Tick
  pub said : Taken

-- a run so far: the machine that it has come to, and the ticks taken, number 0 first
pub record Run : Type 0 where
  pub machine : Machine
  pub taken : List TakenTick

-- what an answer adds to the ticks taken
abbrev pub taken_by : Tick → Answer → List TakenTick
taken_by t (Ok said) = record { tick = t; said = said } ∷ []
taken_by t (Err refusal) = []

-- one tick more
unfoldable pub after : Run → Tick → Run
after r t =
    let x : Stepped = step_of r.machine t.mask t.signal t.early in
    record { machine = x.machine; taken = r.taken ++ taken_by t x.answer }

unfoldable pub onward : Run → List Tick → Run
onward r [] = r
onward r (t ∷ ts) = onward (after r t) ts

-- the run of a list of ticks, from a machine of which no tick was taken yet
abbrev pub run : Machine → List Tick → Run
run m ticks = onward (record { machine = m; taken = [] }) ticks
