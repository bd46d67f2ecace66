-- Document 01's run on P3, with both endings, and two more, computed from the definitions. Assumes nothing.
use Prim.Native.Nat.{ℕ}
use mathlib.Core.Path.{◌≡◌, refl}
use mathlib.Core.Bool.{true, false}
use mathlib.Core.List.{List, [], ◌∷◌}
use lib.Dec.{lit<}
use lib.ListN.{length, take}
use Rattle.std.specs.Prelude.{Ok}
use Rattle.least.specs.Search.{first_where}
use Rattle.least.specs.Sums.{up, sum, largest}
use Rattle.equations.specs.Hypertask.{B, demand, active_side, active_period, releases, start_demand, start_side, start, job_response, worst, response, E}
use Rattle.equations.specs.Guest.{begun_by_hypertask, begun_by_guest, bound, below, F, window_side, WA, WE, guest}
use Rattle.equations.specs.Analysis.{table_check, row_by_row, hypertask_check, guest_check, solved}
use Rattle.machine.specs.declared.Taken.{Taken}
use Rattle.machine.specs.declared.Ran.{Ran}
use Rattle.machine.specs.declared.Mark.{Mark}
use Rattle.machine.specs.Answers.{Answer}
use Rattle.machine.specs.Rows.{age, at, first_from, map_from, every, how_many}
use Rattle.machine.specs.WellFormed.{fields_fit, stage_fits, is_blank, well_formed}
use Rattle.machine.specs.TickRule.{verdict, chosen, turned, taken, step_of}
use Rattle.machine.specs.Fresh.{fresh_rows, fresh_at}
use Rattle.least.specs.Lists.{list_of}
use Rattle.start.specs.Start.{row_of, start_answer, start_of}
use Rattle.demands.specs.Runs.{Tick, TakenTick, after, onward, run}
use Rattle.demands.specs.Jobs.{Job, tick_at, is_open, latest, guest_output, hypertask_output, guest_outputs, hypertask_outputs, jobs_arrived, guest_outputs_of}
use Rattle.demands.specs.Jobs.{hypertask_outputs_of, jobs_open}

abbrev pub p3 : List ℕ
p3 = 10 ∷ 8 ∷ 6 ∷ 2 ∷ []

abbrev tick : ℕ → ℕ → Tick
tick mask signal = record { mask = mask; signal = signal; early = false }

-- an arrival of task 1, a tick that brings nothing, and one with the signal of task 1
abbrev arrival : Tick
arrival = tick 1 0

abbrev pub quiet : Tick
quiet = tick 0 0

abbrev signal : Tick
signal = tick 0 1

-- signal 1 in tick 5; silent till then, and a signal 1 in tick 6
abbrev pub signalled : List Tick
signalled = arrival ∷ quiet ∷ quiet ∷ quiet ∷ quiet ∷ signal ∷ quiet ∷ quiet ∷ []

abbrev pub silent : List Tick
silent = arrival ∷ quiet ∷ quiet ∷ quiet ∷ quiet ∷ quiet ∷ signal ∷ quiet ∷ []

-- an arrival whose guest signals in that very tick, and the next one at 10
abbrev pub at_once : List Tick
at_once = tick 1 1 ∷ quiet ∷ quiet ∷ quiet ∷ quiet ∷ quiet ∷ quiet ∷ quiet ∷ quiet ∷ quiet ∷ tick 1 1 ∷ []

-- an arrival at 0, at 9 and at 10
abbrev pub twice : List Tick
twice = arrival ∷ quiet ∷ quiet ∷ quiet ∷ quiet ∷ quiet ∷ quiet ∷ quiet ∷ quiet ∷ arrival ∷ quiet ∷ arrival ∷ []

abbrev pub taken_of : List Tick → List TakenTick
taken_of ticks = (run (start_of p3).machine ticks).taken

-- the counts of task 1 as document 01 prints them: jobs arrived, guest outputs, hypertask outputs, jobs still open
abbrev pub totals : List Tick → List ℕ
totals ticks =
    jobs_arrived (taken_of ticks) 0 ∷ guest_outputs_of (taken_of ticks) 0 ∷ hypertask_outputs_of (taken_of ticks) 0 ∷ jobs_open (taken_of ticks) 0 ∷ []

-- who ran in tick x, and its mark
abbrev pub said : List Tick → ℕ → Taken
said ticks x = (tick_at (taken_of ticks) x).said

-- what comes out
pub record Right : Type 0 where
  pub p3_accepted : start_answer p3 ≡ Ok 1
  -- Signal 1 in tick 5 gives the guest's output.
  pub signalled_ticks : length (taken_of signalled) ≡ 8
  pub signalled_job : Job 1 (taken_of signalled) 0 0
  pub signalled_5 : said signalled 5 ≡ record { ran = Ran.Guest 1; mark = Mark.Output; ignored = false }
  pub signalled_output : guest_output (taken_of signalled) 0 0 5 ≡ true
  pub signalled_outputs : (guest_outputs (taken_of signalled) 0 0 ≡ 1) × (hypertask_outputs (taken_of signalled) 0 0 ≡ 0)
  pub signalled_totals : totals signalled ≡ 1 ∷ 1 ∷ 0 ∷ 0 ∷ []
  -- Silent till then, tick 6 runs the hypertask and a signal 1 there is ignored; tick 7 gives its output.
  pub silent_ticks : length (taken_of silent) ≡ 8
  pub silent_job : Job 1 (taken_of silent) 0 0
  pub silent_6 : said silent 6 ≡ record { ran = Ran.Hypertask 1; mark = Mark.Nothing; ignored = true }
  pub silent_7 : said silent 7 ≡ record { ran = Ran.Hypertask 1; mark = Mark.Output; ignored = false }
  pub silent_last : (step_of (run (start_of p3).machine (take 7 silent)).machine 0 0 false).answer
      ≡ Ok (record { ran = Ran.Hypertask 1; mark = Mark.Output; ignored = false })
  pub silent_output : hypertask_output (taken_of silent) 0 0 7 ≡ true
  pub silent_outputs : (guest_outputs (taken_of silent) 0 0 ≡ 0) × (hypertask_outputs (taken_of silent) 0 0 ≡ 1)
  pub silent_totals : totals silent ≡ 1 ∷ 0 ∷ 1 ∷ 0 ∷ []
  -- One tick before its deadline the silent job has no output yet.
  pub not_yet : (is_open (taken_of (take 7 silent)) 0 0 ≡ true) × (totals (take 7 silent) ≡ 1 ∷ 0 ∷ 0 ∷ 1 ∷ [])
  -- A second arrival at 9 is refused, so that tick isn't taken; at 10 it isn't refused, and is tick 10. The first job keeps its output.
  pub twice_ticks : length (taken_of twice) ≡ 11
  pub twice_latest : latest (taken_of twice) 0 11 ≡ at 10
  pub twice_outputs : (hypertask_outputs (taken_of twice) 0 0 ≡ 1) × (hypertask_outputs (taken_of twice) 0 10 ≡ 0)
  pub twice_totals : totals twice ≡ 2 ∷ 0 ∷ 1 ∷ 1 ∷ []
  -- An output in the tick of an arrival is that job's.
  pub at_once_outputs : (guest_outputs (taken_of at_once) 0 0 ≡ 1) × (guest_outputs (taken_of at_once) 0 10 ≡ 1)
  pub at_once_totals : totals at_once ≡ 2 ∷ 2 ∷ 0 ∷ 0 ∷ []

pub right : Right
unfolding first_where up sum largest B demand active_side active_period releases start_demand start_side start job_response worst response E
    begun_by_hypertask begun_by_guest bound below F window_side WA WE guest
    table_check row_by_row hypertask_check guest_check solved start_answer row_of list_of start_of fresh_rows fresh_at
    age first_from map_from every how_many fields_fit stage_fits is_blank well_formed verdict chosen turned taken step_of
    after onward latest guest_outputs hypertask_outputs jobs_arrived guest_outputs_of hypertask_outputs_of jobs_open
right =
    record {
      p3_accepted = refl;
      signalled_ticks = refl;
      signalled_job = record { row = lit< tt; taken = lit< tt; came = refl };
      signalled_5 = refl;
      signalled_output = refl;
      signalled_outputs = (refl, refl);
      signalled_totals = refl;
      silent_ticks = refl;
      silent_job = record { row = lit< tt; taken = lit< tt; came = refl };
      silent_6 = refl;
      silent_7 = refl;
      silent_last = refl;
      silent_output = refl;
      silent_outputs = (refl, refl);
      silent_totals = refl;
      not_yet = (refl, refl);
      twice_ticks = refl;
      twice_latest = refl;
      twice_outputs = (refl, refl);
      twice_totals = refl;
      at_once_outputs = (refl, refl);
      at_once_totals = refl;
    }
