-- No text is longer than 655,360 bytes, so whoever lends that many has room for every text. Every number that is printed can be counted, so each line
-- has its longest length; a text has at most 32 lines of rows, 8,192 of ticks and 32 of tasks. Assumes nothing.
use mathlib.Core.Path.{◌≡◌, refl, ap, ◌∙◌}
use mathlib.Core.Bool.{true}
use mathlib.Core.List.{List, [], ◌∷◌, ◌++◌}
use Rattle.std.specs.Prelude.{Option, None, Some, Ok, Err}
use Prim.Native.Nat.{ℕ, zero, suc, ◌+◌, ◌*◌, ◌/◌, ◌≤◌, ◌<◌}
use native.Mathlib.Nat.{le_trans}
use native.Mathlib.Omega.{arith}
use lib.ListN.{length, replicate}
use borrow.Author.Tests.{le-leb}
use Rattle.refusals.specs.declared.Refusal.{Refusal}
use Rattle.equations.specs.Table.{rows, T, D, C, K}
use Rattle.equations.specs.Hypertask.{E}
use Rattle.equations.specs.Analysis.{three_of}
use Rattle.equations.specs.Solutions.{Schedulable}
use Rattle.equations.specs.Answers.{Answer}
use Rattle.equations.proofs.Bounds.{T≤, D≤, C≤, K≤}
use Rattle.equations.proofs.Exactly.{R, G}
use Rattle.start.specs.Start.{start_answer, start_of}
use Rattle.start.specs.declared.Started.{Started}
use Rattle.start.proofs.Places.{length_places, started_accepted}
use Rattle.plan.specs.PlanFile.{rows_kind, script_kind, read_refusal, part_of}
use Rattle.plan.proofs.Values.{numbers_length}
use Rattle.demands.specs.Runs.{TakenTick, onward, run}
use Rattle.demands.specs.Jobs.{brought, guest_gives, hypertask_gives, is_open, jobs_arrived, guest_outputs_of, hypertask_outputs_of, jobs_open}
use Rattle.demands.proofs.Accepted.{schedulable}
use Rattle.text.specs.Put.{last_place}
use Rattle.text.specs.Lines.{accept_line, row_line, task_line}
use Rattle.report.specs.Answers.{Reported, needing}
use Rattle.report.specs.Report.{row_lines, ticks_of, task_lines, tick_lines, script_text, answer_by, table_text, plan_by, text_of, fits, Reports}
use Rattle.report.proofs.Counts.{number_low}
use Rattle.report.proofs.Ticks.{taken_few}
use Rattle.report.proofs.Results.{tasks_few}
use Rattle.report.proofs.Plans.{part_short}
use Rattle.report_laws.proofs.Lines.{Counted, both_short, accept_short, row_short, refuse_short, task_short}
use Rattle.report_laws.proofs.Places.{CountedPlace, read_place, start_place}
use Rattle.report_laws.proofs.Ticks.{tick_lines_short, ticks_length}

-- ## The TASK lines: no count is above the number of ticks taken

module _ (l : List TakenTick) (few : length l ≤ 65536) where
  counted : (i : ℕ) → i < 32 → Counted ((i + 1) ∷ jobs_arrived l i ∷ guest_outputs_of l i ∷ hypertask_outputs_of l i ∷ jobs_open l i ∷ [])
  unfolding jobs_arrived guest_outputs_of hypertask_outputs_of jobs_open
  counted i h =
      let arrived : jobs_arrived l i ≤ last_place = omega (arith, number_low (brought l i) (length l)) in
      let guests : guest_outputs_of l i ≤ last_place = omega (arith, number_low (guest_gives l i) (length l)) in
      let hypertasks : hypertask_outputs_of l i ≤ last_place = omega (arith, number_low (hypertask_gives l i) (length l)) in
      let open-jobs : jobs_open l i ≤ last_place = omega (arith, number_low (is_open l i) (length l)) in
      (omega arith, (arrived, (guests, (hypertasks, (open-jobs, tt)))))

  task_lines_short : (n i : ℕ) → i + n ≤ 32 → length (task_lines l i n) ≤ 110 * n
  unfolding task_lines
  task_lines_short zero i h = omega arith
  task_lines_short (suc n) i h =
      let rest = task_lines_short n (suc i) (omega arith) in
      let line = task_line (i + 1) (jobs_arrived l i) (guest_outputs_of l i) (hypertask_outputs_of l i) (jobs_open l i) in
      le_trans (both_short line (task_lines l (suc i) n) (task_short _ _ _ _ _ (counted i (omega arith))) rest) (omega arith)

-- ## An accepted table

module _ (s : List ℕ) (n : ℕ) (accepted : start_answer s ≡ Ok n) where
  tasks : n ≡ rows s
  tasks = (schedulable s n accepted).0

  numbers_right : Schedulable s (R s) (E s) (G s)
  numbers_right = (schedulable s n accepted).1

  few : n ≤ 32
  few = tasks_few s (replicate 96 0) n refl accepted

  -- T, D, C, K, R, E, G of a row
  abbrev row : ℕ → List ℕ
  row i = T s i ∷ D s i ∷ C s i ∷ K s i ∷ three_of s i

  row_counted : (i : ℕ) → i < n → Counted ((i + 1) ∷ row i)
  row_counted i h =
      let b : i < rows s = omega (arith, tasks) in
      let sd = numbers_right.sound in
      let own = numbers_right.offsets i b in
      let window = numbers_right.guests i b in
      let t : T s i ≤ last_place = omega (arith, T≤ s sd i b) in
      let d : D s i ≤ last_place = omega (arith, D≤ s sd i b) in
      let c : C s i ≤ last_place = omega (arith, C≤ s sd i b) in
      let k : K s i ≤ last_place = omega (arith, K≤ s sd i b) in
      let g : G s i ≤ last_place = omega (arith, window.larger, window.wa_within, window.we_within) in
      (omega (arith, few), (t, (d, (c, (k, (omega arith, (omega arith, (g, tt))))))))

  row_lines_short : (k i : ℕ) → i + k ≤ n → length (row_lines s i k) ≤ 168 * k
  unfolding row_lines
  row_lines_short zero i h = omega arith
  row_lines_short (suc k) i h =
      let line = row_short (i + 1) (row i) (row_counted i (omega arith)) refl in
      let rest = row_lines_short k (suc i) (omega arith) in
      le_trans (both_short (row_line (i + 1) (row i)) (row_lines s (suc i) k) line rest) (omega arith)

  script_short : (script : List ℕ) → length script ≤ 65536
      → length (script_text (start_of s).machine script n) ≤ 70 * (length script / 8) + 110 * n
  unfolding onward
  script_short script h =
      let m = (start_of s).machine in
      let e = started_accepted s n accepted in
      let long : length m.rows ≡ 32 = ap (λ (x : Started). length x.machine.rows) e ∙ length_places s n few in
      let clock : m.clock ≡ 0 = ap (λ (x : Started). x.machine.clock) e in
      let many = ticks_length script (length script / 8) 0 in
      let ticks = tick_lines_short (run m []) (ticks_of script) long (omega arith) in
      let l = (run m (ticks_of script)).taken in
      let totals = task_lines_short l (omega (arith, taken_few m script (length script / 8))) n 0 (omega (arith, few)) in
      le_trans (both_short (tick_lines (run m []) (ticks_of script)) (task_lines l 0 n) ticks totals) (omega arith)

accepted_short : (s script : List ℕ) (n : ℕ) → start_answer s ≡ Ok n → length script ≤ 65536
    → length (answer_by s script (Ok n)) ≤ 655360
accepted_short s script n a h =
    let tasks = few s n a in
    let head = both_short (accept_line n) (row_lines s 0 n) (accept_short n (omega arith)) (row_lines_short s n a n 0 (omega arith)) in
    le_trans (both_short (accept_line n ++ row_lines s 0 n) (script_text (start_of s).machine script n) head (script_short s n a script h)) (omega arith)

-- ## Every text

table_short : (s script : List ℕ) → length s ≤ last_place → length script ≤ 65536 → length (table_text s script) ≤ 655360
unfolding table_text
table_short s script h k = go (start_answer s) refl
  where
    go : (a : Answer) → start_answer s ≡ a → length (answer_by s script a) ≤ 655360
    go (Err refusal) e = omega (arith, refuse_short refusal (omega (arith, start_place s refusal e)))
    go (Ok n) e = accepted_short s script n e k

pub no_text_longer : (file : List ℕ) → length file ≤ last_place → length (text_of file) ≤ 655360
unfolding text_of
no_text_longer file h = go (read_refusal file) refl (read_place file h)
  where
    go : (o : Option Refusal) → read_refusal file ≡ o → CountedPlace o → length (plan_by file o) ≤ 655360
    go (Some refusal) e p = omega (arith, refuse_short refusal p)
    go None e p =
        let rows-part = part_short file e rows_kind in
        table_short _ _ (omega (arith, numbers_length (part_of rows_kind file) (length (part_of rows_kind file) / 4))) (part_short file e script_kind)

-- so TooShort does not arise where 655,360 bytes are lent
pub never_too_short : (file lent after : List ℕ) (n : ℕ) → length file ≤ last_place → 655360 ≤ length lent
    → Reports file lent (Err (needing n)) after → ⊥
never_too_short file lent after n h k r =
    let e : fits (text_of file) lent ≡ true = le-leb (length (text_of file)) (length lent) (omega (arith, no_text_longer file h)) in
    let a : ◌≡◌ {A = Reported} (Err (needing n)) (Ok (length (text_of file))) = rw e at r.answers in
    let z : ◌≡◌ {A = ℕ} 0 1 = cc in
    omega arith
