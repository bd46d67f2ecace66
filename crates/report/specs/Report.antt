-- The whole text of a plan's run, from the file's bytes: document 01, the end of "Cases". The reader, the analysis, the start and the tick rule are
-- those of their own crates; the totals are counted from the ticks taken. Assumes nothing.
use Rattle.std.specs.Prelude.{Bool, true, false, List, [], ◌∷◌, ◌++◌, ◌≡◌, ℕ, zero, suc, ◌+◌, ◌/◌, leb, length, drop, Option, None, Some, Ok, Err}
use Rattle.refusals.specs.declared.Refusal.{Refusal}
use Rattle.equations.specs.Table.{T, D, C, K}
use Rattle.equations.specs.Analysis.{three_of}
use Rattle.equations.specs.Answers.{Answer}
use Rattle.machine.specs.declared.Machine.{Machine}
use Rattle.machine.specs.Answers.{Answer as TickAnswer}
use Rattle.machine.specs.TickRule.{step_of}
use Rattle.start.specs.Start.{start_answer, start_of}
use Rattle.plan.specs.Numbers.{table_of}
use Rattle.plan.specs.Bodies.{tick_at}
use Rattle.plan.specs.PlanFile.{read_refusal, part_of, rows_kind, script_kind}
use Rattle.demands.specs.Runs.{Tick, TakenTick, Run, after, run}
use Rattle.demands.specs.Jobs.{jobs_arrived, guest_outputs_of, hypertask_outputs_of, jobs_open}
use Rattle.text.specs.Lines.{accept_line, row_line, refuse_line, tick_line, task_line}
use Rattle.report.specs.Answers.{Reported, needing}

-- "task, T, D, C, K, R, E, G", of n rows from row i on
unfoldable pub row_lines : List ℕ → ℕ → ℕ → List ℕ
row_lines s i zero = []
row_lines s i (suc n) = row_line (i + 1) (T s i ∷ D s i ∷ C s i ∷ K s i ∷ three_of s i) ++ row_lines s (suc i) n

-- n records of a script from record i on, as ticks
abbrev pub tick_of : List ℕ → ℕ → Tick
tick_of script i = record { mask = (tick_at script i).mask; signal = (tick_at script i).signal; early = (tick_at script i).early }

unfoldable pub ticks_from : List ℕ → ℕ → ℕ → List Tick
ticks_from script i zero = []
ticks_from script i (suc n) = tick_of script i ∷ ticks_from script (suc i) n

abbrev pub ticks_of : List ℕ → List Tick
ticks_of script = ticks_from script 0 (length script / 8)

-- "task, jobs arrived, guest outputs, hypertask outputs, jobs still open", of n rows from row i on, after the ticks taken
unfoldable pub task_lines : List TakenTick → ℕ → ℕ → List ℕ
task_lines taken i zero = []
task_lines taken i (suc n) =
    task_line (i + 1) (jobs_arrived taken i) (guest_outputs_of taken i) (hypertask_outputs_of taken i) (jobs_open taken i) ++ task_lines taken (suc i) n

-- a run so far goes on with some ticks: a line each, with the clock before it. A refused tick leaves the machine as it was, so "the next record
-- comes at that clock"
abbrev pub answer_to : Run → Tick → TickAnswer
answer_to r t = (step_of r.machine t.mask t.signal t.early).answer

unfoldable pub tick_lines : Run → List Tick → List ℕ
tick_lines r [] = []
tick_lines r (t ∷ ts) = tick_line r.machine.clock (answer_to r t) ++ tick_lines (after r t) ts

-- the lines of a script's records from a machine on, and of its n tasks after all of them
abbrev pub script_text : Machine → List ℕ → ℕ → List ℕ
script_text m script n = tick_lines (run m []) (ticks_of script) ++ task_lines (run m (ticks_of script)).taken 0 n

-- "A refused plan or table prints only REFUSE number place"
abbrev pub answer_by : List ℕ → List ℕ → Answer → List ℕ
answer_by s script (Err refusal) = refuse_line refusal
answer_by s script (Ok n) = accept_line n ++ row_lines s 0 n ++ script_text (start_of s).machine script n

unfoldable pub table_text : List ℕ → List ℕ → List ℕ
table_text s script = answer_by s script (start_answer s)

abbrev pub plan_by : List ℕ → Option Refusal → List ℕ
plan_by file (Some refusal) = refuse_line refusal
plan_by file None = table_text (table_of (part_of rows_kind file)) (part_of script_kind file)

unfoldable pub text_of : List ℕ → List ℕ
text_of file = plan_by file (read_refusal file)

-- the lent bytes hold the text at their front and are as they were past it; or they are too short and as they were
abbrev pub reported_by : Bool → List ℕ → Reported
reported_by true text = Ok (length text)
reported_by false text = Err (needing (length text))

abbrev pub left_by : Bool → List ℕ → List ℕ → List ℕ
left_by true text lent = text ++ drop (length text) lent
left_by false text lent = lent

abbrev pub fits : List ℕ → List ℕ → Bool
fits text lent = leb (length text) (length lent)

-- what `report` promises
pub record Reports (file lent : List ℕ) (answer : Reported) (after : List ℕ) : Type 0 where
  pub answers : answer ≡ reported_by (fits (text_of file) lent) (text_of file)
  pub leaves : after ≡ left_by (fits (text_of file) lent) (text_of file) lent
