-- What the private functions tell each other; the public promise names none of it. Assumes nothing.
use Rattle.std.specs.Prelude.{◌≡◌, ◌&&◌, List, [], ◌∷◌, ℕ, ◌+◌, ◌*◌, ◌-◌, ◌<◌, get_or, Ok, Err}
use Rattle.machine.specs.Rows.{in_mask}
use Rattle.machine.specs.declared.Machine.{Machine}
use Rattle.machine.specs.declared.Taken.{Taken}
use Rattle.machine.specs.Answers.{Answer}
use Rattle.demands.specs.Runs.{Tick, TakenTick, run}
use Rattle.demands.specs.Jobs.{one, is_output, is_guest_of, is_hypertask_of, jobs_arrived, guest_outputs_of, hypertask_outputs_of, jobs_open}
use Rattle.text.specs.Lines.{row_line, task_line}
use Rattle.report.specs.declared.totals.Count.{Count}
use Rattle.report.specs.declared.totals.Counts.{Counts}

-- the counts of row i
abbrev pub no_count : Count
no_count = record { arrived = 0; guest = 0; hypertask = 0 }

abbrev pub count_at : Counts → ℕ → Count
count_at x i = get_or x.tasks i no_count

-- no count has come so far
pub record Below (top : ℕ) (x : Counts) : Type 0 where
  pub arrived : (i : ℕ) → i < 32 → (count_at x i).arrived < top
  pub guest : (i : ℕ) → i < 32 → (count_at x i).guest < top
  pub hypertask : (i : ℕ) → i < 32 → (count_at x i).hypertask < top

-- each row's counts afterwards
abbrev pub Becomes : (ℕ → Count → Count) → Counts → Counts → Type 0
Becomes f x y = (i : ℕ) → i < 32 → count_at y i ≡ f i (count_at x i)

-- what a taken tick adds to the counts of row i: an arrival, and an output of the guest or of the hypertask
abbrev pub with_arrival : ℕ → ℕ → Count → Count
with_arrival mask i c = record { arrived = c.arrived + one (in_mask mask i); guest = c.guest; hypertask = c.hypertask }

abbrev pub with_output : Taken → ℕ → Count → Count
with_output said i c =
    record {
      arrived = c.arrived;
      guest = c.guest + one (is_output said.mark && is_guest_of i said.ran);
      hypertask = c.hypertask + one (is_output said.mark && is_hypertask_of i said.ran);
    }

-- a refused tick adds nothing
abbrev pub with_answer : ℕ → Answer → ℕ → Count → Count
with_answer mask (Ok said) i c = with_arrival mask i (with_output said i c)
with_answer mask (Err refusal) i c = c

-- the counts are demand 3's of the ticks taken
abbrev pub counts_of : List TakenTick → ℕ → Count
counts_of l i = record { arrived = jobs_arrived l i; guest = guest_outputs_of l i; hypertask = hypertask_outputs_of l i }

pub record Totals (l : List TakenTick) (x : Counts) : Type 0 where
  pub counts : (i : ℕ) → i < 32 → count_at x i ≡ counts_of l i

-- the TASK line of row i from its counts
abbrev pub total_line : Counts → ℕ → List ℕ
total_line x i =
    let c : Count = count_at x i in
    task_line (i + 1) c.arrived c.guest c.hypertask (c.arrived - c.guest - c.hypertask)

-- the line of row i from a table and its results
abbrev pub result_line : List ℕ → List ℕ → ℕ → List ℕ
result_line s results i =
    row_line (i + 1)
    (get_or s (4 * i) 0 ∷ get_or s (4 * i + 1) 0 ∷ get_or s (4 * i + 2) 0 ∷ get_or s (4 * i + 3) 0
    ∷ get_or results (3 * i) 0 ∷ get_or results (3 * i + 1) 0 ∷ get_or results (3 * i + 2) 0 ∷ [])

-- no text is longer than ten bytes for each byte of the longest plan
abbrev pub longest : ℕ
longest = 655360

-- a machine of n tasks whose jobs are all told by its counts, whatever ticks it is given
pub record Balanced (m : Machine) (n : ℕ) : Type 0 where
  pub counts : (ticks : List Tick) (i : ℕ) → i < n →
      jobs_arrived (run m ticks).taken i
      ≡ guest_outputs_of (run m ticks).taken i + hypertask_outputs_of (run m ticks).taken i + jobs_open (run m ticks).taken i
