-- Worked ticks: a machine, a tick, and what comes of it. A refusal is said by its number and place, and leaves the machine as it was; of a tick
-- that is taken it is said who ran, the mark, whether a signal was ignored, and the stage of each task afterwards. Assumes nothing.
use Rattle.std.specs.Prelude.{ℕ, ◌+◌, ◌-◌, ◌^◌, ◌≡◌, Bool, true, false, List, [], ◌∷◌, ◌++◌, length, replicate, Ok, Err}
use Rattle.refusals.specs.Refusals.{number_of, place_of}
use Rattle.machine.specs.declared.Stage.{Stage}
use Rattle.machine.specs.declared.Row.{Row}
use Rattle.machine.specs.declared.Machine.{Machine}
use Rattle.machine.specs.declared.Ran.{Ran}
use Rattle.machine.specs.declared.Mark.{Mark}
use Rattle.machine.specs.Answers.{Answer}
use Rattle.machine.specs.declared.Stepped.{Stepped}
use Rattle.machine.specs.Rows.{no_row, with_stage}
use Rattle.machine.specs.TickRule.{step_of}

-- ## What a case says

-- an answer: a refusal's number and place, or who ran, the mark, and whether a signal was ignored
pub data Says : Type 0 where
  refused : ℕ → ℕ → Says
  took : Ran → Mark → Bool → Says

abbrev pub says : Answer → Says
says (Err r) = refused (number_of r) (place_of r)
says (Ok t) = took t.ran t.mark t.ignored

-- an answer and the machine afterwards
pub record Outcome : Type 0 where
  pub answer : Says
  pub after : Machine

pub record Case : Type 0 where
  pub machine : Machine
  pub mask : ℕ
  pub signal : ℕ
  pub early : Bool
  pub outcome : Outcome

-- what the cases say, and what the tick rule makes of them
abbrev pub said : List Case → List Outcome
said [] = []
said (c ∷ cs) = c.outcome ∷ said cs

abbrev pub outcome_of : Stepped → Outcome
outcome_of s = record { answer = says s.answer; after = s.machine }

abbrev pub stepped : List Case → List Outcome
stepped [] = []
stepped (c ∷ cs) = outcome_of (step_of c.machine c.mask c.signal c.early) ∷ stepped cs

-- a tick of that mask, signal and early mark is refused
abbrev refuses : Machine → ℕ → ℕ → Bool → ℕ → ℕ → Case
refuses m mask signal early number place =
    record { machine = m; mask = mask; signal = signal; early = early; outcome = record { answer = refused number place; after = m } }

-- it is taken, and leaves these stages at the next clock
abbrev staged : List Row → List Stage → List Row
staged rows [] = rows
staged [] (s ∷ ss) = []
staged (r ∷ rs) (s ∷ ss) = with_stage r s ∷ staged rs ss

abbrev takes : Machine → ℕ → ℕ → Bool → Ran → Mark → Bool → List Stage → Case
takes m mask signal early ran mark ignored stages =
    record {
      machine = m;
      mask = mask;
      signal = signal;
      early = early;
      outcome = record {
        answer = took ran mark ignored;
        after = record { rows = staged m.rows stages; count = m.count; clock = m.clock + 1 };
      };
    }

-- ## Machines of two and three rows

abbrev machine : ℕ → List Row → Machine
machine clock rows = record { rows = rows ++ replicate (32 - length rows) no_row; count = length rows; clock = clock }

abbrev row : ℕ → ℕ → ℕ → ℕ → ℕ → Stage → Row
row t d c k e s = record { t = t; d = d; c = c; k = k; e = e; stage = s }

-- P9: 10 10 2 1 and 20 20 4 2, whose E are 7 and 16
abbrev p9 : ℕ → Stage → Stage → Machine
p9 clock a b = machine clock (row 10 10 2 1 7 a ∷ row 20 20 4 2 16 b ∷ [])

-- 12 12 2 1, 24 24 4 2 and 48 40 5 3, whose E are 8, 17 and 31
abbrev three : ℕ → Stage → Stage → Stage → Machine
three clock a b c = machine clock (row 12 12 2 1 8 a ∷ row 24 24 4 2 17 b ∷ row 48 40 5 3 31 c ∷ [])

-- P9 with another second row, and with a third place that isn't blank
abbrev second : Row → Machine
second r = machine 100 (row 10 10 2 1 7 Stage.Never ∷ r ∷ [])

abbrev past : Row → Machine
past r = record { rows = row 10 10 2 1 7 Stage.Never ∷ row 20 20 4 2 16 Stage.Never ∷ r ∷ replicate 29 no_row; count = 2; clock = 100 }

abbrev never : Stage
never = Stage.Never

abbrev guest : ℕ → ℕ → Stage
guest = Stage.Guest

abbrev hyper : ℕ → ℕ → Stage
hyper = Stage.Hyper

abbrev closed : ℕ → Stage
closed = Stage.Closed

-- ## Refusals 8 to 12

-- a tick that brings nothing gets 8
abbrev unfit : Machine → Case
unfit m = refuses m 0 0 false 8 0

-- and one that is taken while nobody runs, which leaves the stages as they were
abbrev idle : Machine → Case
idle m = takes m 0 0 false Ran.Nobody Mark.Nothing false []

abbrev pub broken_clauses : List Case
broken_clauses =
    -- no rows, and 33
    unfit (machine 0 [])
    ∷ unfit (record { rows = replicate 32 (row 10 10 2 1 7 never); count = 33; clock = 0 })
    -- T, C and K outside their limits, and D above T; T below 1 or D outside its limits breaks another clause too
    ∷ unfit (second (row 1000001 20 4 2 16 never))
    ∷ unfit (second (row 20 20 0 2 16 never))
    ∷ unfit (second (row 20 20 1000001 2 16 never))
    ∷ unfit (second (row 20 20 4 0 16 never))
    ∷ unfit (second (row 20 20 4 1000001 16 never))
    ∷ unfit (second (row 20 21 4 2 16 never))
    -- E of 0, and E equal to D
    ∷ unfit (second (row 20 20 4 2 0 never))
    ∷ unfit (second (row 20 20 4 2 20 never))
    -- a clock above 2^40
    ∷ unfit (p9 (2 ^ 40 + 1) never never)
    -- an arrival after the clock; of a Hyper it breaks the clause on its age too
    ∷ unfit (p9 5 (closed 6) never)
    ∷ unfit (p9 5 never (guest 6 0))
    ∷ unfit (p9 5 never (hyper 6 2))
    -- a Guest with more than C used; one past arrival + E
    ∷ unfit (p9 5 (guest 0 3) never)
    ∷ unfit (p9 8 (guest 0 0) never)
    -- a Hyper with none left, with more than K, and one at arrival + E
    ∷ unfit (p9 17 never (hyper 0 0))
    ∷ unfit (p9 17 never (hyper 0 3))
    ∷ unfit (p9 16 never (hyper 0 2))
    -- two that have begun
    ∷ unfit (three 40 never (hyper 10 1) (hyper 0 2))
    -- a place past the last row that isn't zero and Never
    ∷ unfit (past (row 1 0 0 0 0 never))
    ∷ unfit (past (row 0 1 0 0 0 never))
    ∷ unfit (past (row 0 0 1 0 0 never))
    ∷ unfit (past (row 0 0 0 1 0 never))
    ∷ unfit (past (row 0 0 0 0 1 never))
    ∷ unfit (past (row 0 0 0 0 0 (closed 0)))
    -- at the edges it is well formed: 32 rows, fields of 1 and of 1,000,000, an arrival at the clock, all of C used
    ∷ idle (machine 100 (replicate 32 (row 10 10 2 1 7 never)))
    ∷ idle (second (row 2 2 1 1 1 never))
    ∷ idle (second (row 1000000 1000000 1000000 1000000 999999 never))
    ∷ idle (p9 5 (closed 5) never)
    ∷ idle (p9 6 (guest 0 2) never)
    ∷ []

abbrev pub refusals : List Case
refusals =
    -- 8 before 9
    refuses (p9 (2 ^ 40) (guest (2 ^ 40) 3) never) 0 0 false 8 0
    -- 9 at 2^40, before 10; the tick before it is taken
    ∷ refuses (p9 (2 ^ 40) never never) 0 0 false 9 0
    ∷ refuses (p9 (2 ^ 40) never never) 4 0 false 9 0
    ∷ idle (p9 (2 ^ 40 - 1) never never)
    -- 10: the lowest task past the last row, before 11
    ∷ refuses (p9 5 never never) 4 0 false 10 3
    ∷ refuses (p9 5 never never) 24 0 false 10 4
    ∷ refuses (p9 5 never never) (2 ^ 31) 0 false 10 32
    ∷ refuses (p9 5 (closed 0) never) 13 0 false 10 3
    ∷ refuses (three 5 never never never) 8 0 false 10 4
    -- 11 at T − 1, in every stage; at T the arrival is taken
    ∷ refuses (p9 9 (closed 0) never) 1 0 false 11 1
    ∷ refuses (p9 9 (hyper 0 1) never) 1 0 false 11 1
    ∷ refuses (p9 5 (guest 0 1) never) 1 0 false 11 1
    ∷ refuses (p9 19 never (closed 0)) 2 0 false 11 2
    ∷ takes (p9 10 (closed 0) never) 1 0 false (Ran.Guest 1) Mark.Nothing false (guest 10 1 ∷ never ∷ [])
    ∷ takes (p9 20 never (closed 0)) 2 0 false (Ran.Guest 2) Mark.Nothing false (never ∷ guest 20 1 ∷ [])
    -- a Guest at its enforcement instant is refused by the state as it was handed in
    ∷ refuses (p9 7 (guest 0 2) never) 1 0 false 11 1
    -- 11: the lowest of several tasks, and over all tasks before 12
    ∷ refuses (p9 5 (closed 0) (closed 0)) 3 0 false 11 1
    ∷ refuses (p9 10 (closed 0) (closed 0)) 3 0 false 11 2
    ∷ refuses (p9 30 (hyper 10 1) (closed 20)) 3 0 false 11 2
    -- 12: a Hyper of age T, the lowest of several
    ∷ refuses (p9 10 (hyper 0 1) never) 1 0 false 12 1
    ∷ refuses (p9 20 never (hyper 0 2)) 3 0 false 12 2
    ∷ refuses (p9 40 (hyper 20 1) (hyper 20 2)) 3 0 false 12 1
    ∷ []

-- ## The five steps

abbrev pub steps : List Case
steps =
    -- 1: at arrival + E a Guest becomes Hyper with K left, and runs in that tick; one tick before it is a Guest
    takes (p9 7 (guest 0 2) never) 0 0 false (Ran.Hypertask 1) Mark.Output false (closed 0 ∷ never ∷ [])
    ∷ takes (p9 16 never (guest 0 4)) 0 0 false (Ran.Hypertask 2) Mark.Nothing false (never ∷ hyper 0 1 ∷ [])
    ∷ takes (p9 15 never (guest 0 3)) 0 0 false (Ran.Guest 2) Mark.BudgetUsedUp false (never ∷ guest 0 4 ∷ [])
    -- two at once: the first runs, the second waits with K left
    ∷ takes (p9 16 (guest 9 1) (guest 0 4)) 0 0 false (Ran.Hypertask 1) Mark.Output false (closed 9 ∷ hyper 0 2 ∷ [])
    -- 2: an arrival becomes Guest at this clock with 0 used, and may run at once; of two the first does
    ∷ takes (p9 3 never never) 2 0 false (Ran.Guest 2) Mark.Nothing false (never ∷ guest 3 1 ∷ [])
    ∷ takes (p9 3 never never) 3 0 false (Ran.Guest 1) Mark.Nothing false (guest 3 1 ∷ guest 3 0 ∷ [])
    ∷ takes (three 60 (closed 40) (closed 30) (closed 10)) 7 0 false (Ran.Guest 1) Mark.Nothing false (guest 60 1 ∷ guest 60 0 ∷ guest 60 0 ∷ [])
    -- 3: a hypertask that has begun is not broken in on, by one that waits above it or is enforced in this tick
    ∷ takes (p9 27 (hyper 10 1) (hyper 10 1)) 0 0 false (Ran.Hypertask 2) Mark.Output false (hyper 10 1 ∷ closed 10 ∷ [])
    ∷ takes (three 40 (guest 32 2) never (hyper 0 2)) 0 0 false (Ran.Hypertask 3) Mark.Nothing false (hyper 32 1 ∷ never ∷ hyper 0 1 ∷ [])
    -- where none has begun the first Hyper runs
    ∷ takes (p9 27 (hyper 10 1) (hyper 10 2)) 0 0 false (Ran.Hypertask 1) Mark.Output false (closed 10 ∷ hyper 10 2 ∷ [])
    ∷ takes (three 40 never (hyper 10 2) (hyper 0 3)) 0 0 false (Ran.Hypertask 2) Mark.Nothing false (never ∷ hyper 10 1 ∷ hyper 0 3 ∷ [])
    -- a hypertask goes before every guest, whether it has begun or not
    ∷ takes (p9 17 never (hyper 0 1)) 1 0 false (Ran.Hypertask 2) Mark.Output false (guest 17 0 ∷ closed 0 ∷ [])
    ∷ takes (p9 17 never (hyper 0 2)) 1 0 false (Ran.Hypertask 2) Mark.Nothing false (guest 17 0 ∷ hyper 0 1 ∷ [])
    -- a guest is pre-empted by one above it, and goes on where it was
    ∷ takes (p9 2 never (guest 0 2)) 1 0 false (Ran.Guest 1) Mark.Nothing false (guest 2 1 ∷ guest 0 2 ∷ [])
    ∷ takes (p9 4 (guest 2 2) (guest 0 2)) 0 0 false (Ran.Guest 2) Mark.Nothing false (guest 2 2 ∷ guest 0 3 ∷ [])
    ∷ takes (three 9 (closed 0) (guest 8 0) (guest 5 4)) 0 0 false (Ran.Guest 2) Mark.Nothing false (closed 0 ∷ guest 8 1 ∷ guest 5 4 ∷ [])
    -- one with all of C used waits for its enforcement instant
    ∷ takes (p9 5 never (guest 0 4)) 0 0 false Ran.Nobody Mark.Nothing false (never ∷ guest 0 4 ∷ [])
    -- 4: a hypertask has one tick fewer left, and gives its output at 0
    ∷ takes (three 40 never never (hyper 0 3)) 0 0 false (Ran.Hypertask 3) Mark.Nothing false (never ∷ never ∷ hyper 0 2 ∷ [])
    ∷ takes (three 41 never never (hyper 0 2)) 0 0 false (Ran.Hypertask 3) Mark.Nothing false (never ∷ never ∷ hyper 0 1 ∷ [])
    ∷ takes (three 42 never never (hyper 0 1)) 0 0 false (Ran.Hypertask 3) Mark.Output false (never ∷ never ∷ closed 0 ∷ [])
    -- a guest has one more used, also one whose arrival is the clock; its last tick without an output is marked
    ∷ takes (p9 5 never (guest 5 0)) 0 0 false (Ran.Guest 2) Mark.Nothing false (never ∷ guest 5 1 ∷ [])
    ∷ takes (p9 1 never (guest 0 1)) 0 0 false (Ran.Guest 2) Mark.Nothing false (never ∷ guest 0 2 ∷ [])
    ∷ takes (p9 3 never (guest 0 3)) 0 0 false (Ran.Guest 2) Mark.BudgetUsedUp false (never ∷ guest 0 4 ∷ [])
    ∷ []

-- ## The early-end mark and signals

abbrev pub early_marks : List Case
early_marks =
    -- in the first, a middle and the last tick of a hypertask
    takes (three 40 never never (hyper 0 3)) 0 0 true (Ran.Hypertask 3) Mark.Output false (never ∷ never ∷ closed 0 ∷ [])
    ∷ takes (three 41 never never (hyper 0 2)) 0 0 true (Ran.Hypertask 3) Mark.Output false (never ∷ never ∷ closed 0 ∷ [])
    ∷ takes (three 42 never never (hyper 0 1)) 0 0 true (Ran.Hypertask 3) Mark.Output false (never ∷ never ∷ closed 0 ∷ [])
    -- in the tick that made it Hyper; one that waits is left alone
    ∷ takes (p9 16 never (guest 0 4)) 0 0 true (Ran.Hypertask 2) Mark.Output false (never ∷ closed 0 ∷ [])
    ∷ takes (p9 27 (hyper 10 1) (hyper 10 2)) 0 0 true (Ran.Hypertask 1) Mark.Output false (closed 10 ∷ hyper 10 2 ∷ [])
    -- ignored, and not told, when a guest ran or nobody
    ∷ takes (p9 0 never never) 2 0 true (Ran.Guest 2) Mark.Nothing false (never ∷ guest 0 1 ∷ [])
    ∷ takes (p9 5 never (guest 0 4)) 0 0 true Ran.Nobody Mark.Nothing false (never ∷ guest 0 4 ∷ [])
    ∷ []

abbrev pub signals : List Case
signals =
    -- its own closes a guest, in the tick of its arrival and in the last before arrival + E
    takes (p9 0 never never) 2 2 false (Ran.Guest 2) Mark.Output false (never ∷ closed 0 ∷ [])
    ∷ takes (p9 15 never (guest 0 1)) 0 2 false (Ran.Guest 2) Mark.Output false (never ∷ closed 0 ∷ [])
    ∷ takes (p9 6 (guest 0 1) never) 0 1 false (Ran.Guest 1) Mark.Output false (closed 0 ∷ never ∷ [])
    -- in the C-th tick it is an output, and not a budget used up
    ∷ takes (p9 3 never (guest 0 3)) 0 2 false (Ran.Guest 2) Mark.Output false (never ∷ closed 0 ∷ [])
    -- a foreign one closes nobody and is told as ignored: another task's, one of no task
    ∷ takes (p9 0 never never) 2 1 false (Ran.Guest 2) Mark.Nothing true (never ∷ guest 0 1 ∷ [])
    ∷ takes (p9 0 never never) 1 2 false (Ran.Guest 1) Mark.Nothing true (guest 0 1 ∷ never ∷ [])
    ∷ takes (three 0 never never never) 4 33 false (Ran.Guest 3) Mark.Nothing true (never ∷ never ∷ guest 0 1 ∷ [])
    ∷ takes (three 0 never never never) 4 255 false (Ran.Guest 3) Mark.Nothing true (never ∷ never ∷ guest 0 1 ∷ [])
    -- its own while it is pre-empted
    ∷ takes (p9 2 never (guest 0 2)) 1 2 false (Ran.Guest 1) Mark.Nothing true (guest 2 1 ∷ guest 0 2 ∷ [])
    -- a budget used up with a foreign signal
    ∷ takes (p9 3 never (guest 0 3)) 0 1 false (Ran.Guest 2) Mark.BudgetUsedUp true (never ∷ guest 0 4 ∷ [])
    -- while a hypertask runs, in the tick that made it one too
    ∷ takes (p9 16 never (guest 0 1)) 0 2 false (Ran.Hypertask 2) Mark.Nothing true (never ∷ hyper 0 1 ∷ [])
    ∷ takes (p9 27 never (hyper 10 1)) 0 2 false (Ran.Hypertask 2) Mark.Output true (never ∷ closed 10 ∷ [])
    ∷ takes (p9 27 never (hyper 10 2)) 0 1 true (Ran.Hypertask 2) Mark.Output true (never ∷ closed 10 ∷ [])
    -- while nobody runs: its own with C used, and any
    ∷ takes (p9 5 never (guest 0 4)) 0 2 false Ran.Nobody Mark.Nothing true (never ∷ guest 0 4 ∷ [])
    ∷ takes (p9 5 never never) 0 1 true Ran.Nobody Mark.Nothing true (never ∷ never ∷ [])
    ∷ []

-- ## All of them

abbrev pub cases : List (List Case)
cases = broken_clauses ∷ refusals ∷ steps ∷ early_marks ∷ signals ∷ []

-- the tick rule makes of each what it says
abbrev pub Right : List (List Case) → Type 0
Right [] = Unit {0}
Right (cs ∷ rest) = (stepped cs ≡ said cs) × Right rest
