-- Worked texts: plan files beside the whole texts that they print by the rules of document 01. Each is built with the writer's own layout, so that
-- it reads as rows and ticks. Assumes nothing.
use Rattle.std.specs.Prelude.{ℕ, ◌*◌, ◌≡◌, Bool, true, false, List, [], ◌∷◌, ◌++◌, take, set, replicate}
use Prim.Native.String.{String}
use Prim.Native.String as string
use Rattle.plan.specs.Bodies.{tick_bytes}
use Rattle.plan.specs.Writer.{plan_file}
use Rattle.text.specs.Ascii.{ascii}
use Rattle.report.specs.Report.{text_of}

-- a file, and the text that it prints
pub record Case : Type 0 where
  pub file : List ℕ
  pub prints : String

-- the text line by line
abbrev pub joined : List String → String
joined [] = ""
joined (l ∷ ls) = string.◌++◌ l (string.◌++◌ "\n" (joined ls))

abbrev pub case : List ℕ → List String → Case
case f ls = record { file = f; prints = joined ls }

abbrev pub Right : List Case → Type 0
Right [] = Unit {0}
Right (c ∷ cs) = (text_of c.file ≡ ascii c.prints) × Right cs

-- a tick's record: the mask of arrivals, the guest signal, the early-end mark
abbrev pub tick : ℕ → ℕ → Bool → List ℕ
tick mask signal early = tick_bytes (record { mask = mask; signal = signal; early = early })

-- tasks arrive, by the mask; a signal comes; n ticks with nothing
abbrev pub arrive : ℕ → List ℕ
arrive mask = tick mask 0 false

abbrev pub signal : ℕ → List ℕ
signal number = tick 0 number false

abbrev pub quiet : ℕ → List ℕ
quiet n = replicate (8 * n) 0

-- T D C K
abbrev pub row : ℕ → ℕ → ℕ → ℕ → List ℕ
row t d c k = t ∷ d ∷ c ∷ k ∷ []

-- document 01's tables P2, P3 and P9
abbrev pub p2 : List ℕ
p2 = row 10 8 3 2

abbrev pub p3 : List ℕ
p3 = row 10 8 6 2

abbrev pub p9 : List ℕ
p9 = row 10 10 2 1 ++ row 20 20 4 2

-- A REFUSED PLAN prints one line

-- document 01's example, 108 bytes: contents up to 28, rows up to 44, eight records
abbrev pub example : List ℕ
example = plan_file p2 (arrive 1 ++ quiet 7)

abbrev pub refused_plans : List Case
refused_plans =
    -- 13: 3 bytes, no byte
    case (take 3 example) ("REFUSE 13 3" ∷ [])
    ∷ case [] ("REFUSE 13 0" ∷ [])
    -- 14: the count is 3; the second kind is 3
    ∷ case (set example 0 3) ("REFUSE 14 0" ∷ [])
    ∷ case (set example 16 3) ("REFUSE 14 2" ∷ [])
    -- 15: the script said to begin a byte after the rows; a byte after the last body
    ∷ case (set example 20 45) ("REFUSE 15 2" ∷ [])
    ∷ case (example ++ (0 ∷ [])) ("REFUSE 15 2" ∷ [])
    -- 16: rows of 17 bytes and a script of 63; no rows; a script of no bytes
    ∷ case (set (set (set example 12 17) 20 45) 24 63) ("REFUSE 16 1" ∷ [])
    ∷ case (plan_file [] []) ("REFUSE 16 1" ∷ [])
    ∷ case (set (take 44 example) 24 0) ("REFUSE 16 2" ∷ [])
    -- 17: the early mark of record 3 is 2
    ∷ case (set example 73 2) ("REFUSE 17 3" ∷ [])
    ∷ []

-- A REFUSED TABLE prints one line, whatever the script

abbrev pub refused_tables : List Case
refused_tables =
    -- P4, P5, P6, P8, P10, P11
    case (plan_file (row 10 8 7 2) (arrive 1 ++ quiet 7)) ("REFUSE 7 1" ∷ [])
    ∷ case (plan_file (row 5 2 1 2) []) ("REFUSE 7 1" ∷ [])
    ∷ case (plan_file (row 5 2 1 3) []) ("REFUSE 6 1" ∷ [])
    ∷ case (plan_file (row 10 11 1 1) []) ("REFUSE 3 1" ∷ [])
    ∷ case (plan_file (row 5 5 1 2 ++ row 7 7 1 2 ++ row 7 7 1 2) []) ("REFUSE 6 2" ∷ [])
    ∷ case (plan_file (row 10 8 0 2) []) ("REFUSE 2 2" ∷ [])
    -- document 02, order 1: the window begun by the task's own hypertask is above T
    ∷ case (plan_file (row 5 5 2 1 ++ row 8 8 2 1) (arrive 3 ++ quiet 7)) ("REFUSE 19 2" ∷ [])
    ∷ []

-- REFUSED TICKS, on P3: "the next record comes at that clock", and a refused arrival isn't counted

-- an arrival 1 after the last; task 2 is past the last row, and so is task 32; of tasks 1 and 2, 10 comes before 11
abbrev pub refused_arrivals : Case
refused_arrivals =
    case (plan_file p3 (arrive 1 ++ arrive 1 ++ quiet 1 ++ arrive 2 ++ arrive 2147483648 ++ arrive 3 ++ quiet 1))
    ("ACCEPT 1"
    ∷ "1 10 8 6 2 2 6 6"
    ∷ "0 G1 - 0"
    ∷ "1 REFUSE 11 1"
    ∷ "1 G1 - 0"
    ∷ "2 REFUSE 10 2"
    ∷ "2 REFUSE 10 32"
    ∷ "2 REFUSE 10 2"
    ∷ "2 G1 - 0"
    ∷ "TASK 1 1 0 0 1"
    ∷ [])

-- the guest's output in tick 5, the last good one; a second arrival at 9 is refused, at 10 it isn't
abbrev pub second_arrival : Case
second_arrival =
    case (plan_file p3 (arrive 1 ++ quiet 4 ++ signal 1 ++ quiet 3 ++ arrive 1 ++ quiet 1 ++ arrive 1))
    ("ACCEPT 1"
    ∷ "1 10 8 6 2 2 6 6"
    ∷ "0 G1 - 0"
    ∷ "1 G1 - 0"
    ∷ "2 G1 - 0"
    ∷ "3 G1 - 0"
    ∷ "4 G1 - 0"
    ∷ "5 G1 O 0"
    ∷ "6 I - 0"
    ∷ "7 I - 0"
    ∷ "8 I - 0"
    ∷ "9 REFUSE 11 1"
    ∷ "9 I - 0"
    ∷ "10 G1 - 0"
    ∷ "TASK 1 2 1 0 1"
    ∷ [])

-- SIGNALS AND EARLY ENDS, on P2

-- ignored: a foreign signal while the guest runs, and in its C-th tick; its own while nobody runs, in both ticks of the hypertask, and afterwards
abbrev pub ignored_signals : Case
ignored_signals =
    case (plan_file p2 (tick 1 2 false ++ quiet 1 ++ signal 255 ++ signal 1 ++ quiet 2 ++ signal 1 ++ signal 1 ++ signal 1))
    ("ACCEPT 1"
    ∷ "1 10 8 3 2 2 6 3"
    ∷ "0 G1 - 1"
    ∷ "1 G1 - 0"
    ∷ "2 G1 S 1"
    ∷ "3 I - 1"
    ∷ "4 I - 0"
    ∷ "5 I - 0"
    ∷ "6 H1 - 1"
    ∷ "7 H1 O 1"
    ∷ "8 I - 1"
    ∷ "TASK 1 1 0 1 0"
    ∷ [])

-- its own in the C-th tick is its output
abbrev pub own_signal : Case
own_signal =
    case (plan_file p2 (arrive 1 ++ quiet 1 ++ signal 1 ++ quiet 1))
    ("ACCEPT 1"
    ∷ "1 10 8 3 2 2 6 3"
    ∷ "0 G1 - 0"
    ∷ "1 G1 - 0"
    ∷ "2 G1 O 0"
    ∷ "3 I - 0"
    ∷ "TASK 1 1 1 0 0"
    ∷ [])

-- the early-end mark is ignored while the guest or nobody runs, and brings the output in the hypertask's first tick
abbrev pub early_end : Case
early_end =
    case (plan_file p2 (tick 1 0 true ++ quiet 2 ++ tick 0 0 true ++ quiet 2 ++ tick 0 0 true ++ quiet 1))
    ("ACCEPT 1"
    ∷ "1 10 8 3 2 2 6 3"
    ∷ "0 G1 - 0"
    ∷ "1 G1 - 0"
    ∷ "2 G1 S 0"
    ∷ "3 I - 0"
    ∷ "4 I - 0"
    ∷ "5 I - 0"
    ∷ "6 H1 O 0"
    ∷ "7 I - 0"
    ∷ "TASK 1 1 0 1 0"
    ∷ [])

-- TWO TASKS, P9

-- no script: the rows and empty totals
abbrev pub no_script : Case
no_script =
    case (plan_file p9 [])
    ("ACCEPT 2"
    ∷ "1 10 10 2 1 3 7 4"
    ∷ "2 20 20 4 2 4 16 7"
    ∷ "TASK 1 0 0 0 0"
    ∷ "TASK 2 0 0 0 0"
    ∷ [])

-- Both arrive at 0, task 1 again at 10. The hypertask of task 2 begins at 16; that of task 1 is due at 17 and waits for its end. At 21 task 1 arrives
-- while the guest of task 2 runs and pre-empts it, and a signal of task 2 is ignored. The second job of task 2 is still open at the end.
abbrev pub both_tasks : Case
both_tasks =
    case (plan_file p9 (arrive 3 ++ signal 1 ++ quiet 8 ++ arrive 1 ++ quiet 9 ++ arrive 2 ++ tick 1 2 false ++ signal 1 ++ quiet 1))
    ("ACCEPT 2"
    ∷ "1 10 10 2 1 3 7 4"
    ∷ "2 20 20 4 2 4 16 7"
    ∷ "0 G1 - 0"
    ∷ "1 G1 O 0"
    ∷ "2 G2 - 0"
    ∷ "3 G2 - 0"
    ∷ "4 G2 - 0"
    ∷ "5 G2 S 0"
    ∷ "6 I - 0"
    ∷ "7 I - 0"
    ∷ "8 I - 0"
    ∷ "9 I - 0"
    ∷ "10 G1 - 0"
    ∷ "11 G1 S 0"
    ∷ "12 I - 0"
    ∷ "13 I - 0"
    ∷ "14 I - 0"
    ∷ "15 I - 0"
    ∷ "16 H2 - 0"
    ∷ "17 H2 O 0"
    ∷ "18 H1 O 0"
    ∷ "19 I - 0"
    ∷ "20 G2 - 0"
    ∷ "21 G1 - 1"
    ∷ "22 G1 O 0"
    ∷ "23 G2 - 0"
    ∷ "TASK 1 3 2 1 0"
    ∷ "TASK 2 2 0 1 1"
    ∷ [])

abbrev pub runs : List Case
runs = refused_arrivals ∷ second_arrival ∷ ignored_signals ∷ own_signal ∷ early_end ∷ no_script ∷ both_tasks ∷ []

abbrev pub cases : List Case
cases = refused_plans ++ refused_tables ++ runs
