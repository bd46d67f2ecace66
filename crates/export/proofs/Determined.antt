-- Two answers that meet a public function's promise are equal, and so is what they leave in lent memory: one lemma a function.
-- Assumes nothing.
use mathlib.Core.Path.{◌≡◌, sym, ◌∙◌}
use mathlib.Core.Bool.{Bool}
use mathlib.Core.List.{List}
use Prim.Native.Nat.{ℕ}
use Rattle.std.specs.Prelude.{Option}
use Rattle.machine.specs.declared.Machine.{Machine}
use Rattle.machine.specs.declared.Mark.{Mark}
use Rattle.machine.specs.declared.Ran.{Ran}
use Rattle.export.specs.Files.{ChecksFile, ReadsTable, ReadsScript, WritesFile}
use Rattle.export.specs.Numbers.{AnalysesTable}
use Rattle.export.specs.Start.{StartsMachine}
use Rattle.export.specs.State.{read_of}
use Rattle.export.specs.Step.{StepsMachine}
use Rattle.export.specs.Texts.{PrintsRun}
use Rattle.export.specs.Ticks.{who_of, task_of, mark_of, bit_of, TakesTicks}

-- ## The functions for C and Rust

pub tollsalmon_analyse_determined : (table lent : List ℕ) (a b i j : ℕ) (x y : List ℕ)
    → AnalysesTable table lent a i x
    → AnalysesTable table lent b j y
    → (a ≡ b) × (i ≡ j) × (x ≡ y)
tollsalmon_analyse_determined table lent a b i j x y p q = (p.answers ∙ sym q.answers, p.places ∙ sym q.places, p.leaves ∙ sym q.leaves)

pub tollsalmon_start_determined : (table state : List ℕ) (a b i j : ℕ) (x y : List ℕ)
    → StartsMachine table state a i x
    → StartsMachine table state b j y
    → (a ≡ b) × (i ≡ j) × (x ≡ y)
tollsalmon_start_determined table state a b i j x y p q = (p.answers ∙ sym q.answers, p.places ∙ sym q.places, p.leaves ∙ sym q.leaves)

-- u and v are the lent answers afterwards
pub tollsalmon_ticks_determined : (state records lent : List ℕ) (a b i j : ℕ) (x y u v : List ℕ)
    → TakesTicks state records lent a i x u
    → TakesTicks state records lent b j y v
    → (a ≡ b) × (i ≡ j) × (x ≡ y) × (u ≡ v)
tollsalmon_ticks_determined state records lent a b i j x y u v p q =
    (p.answers ∙ sym q.answers, p.places ∙ sym q.places, p.leaves ∙ sym q.leaves, p.writes ∙ sym q.writes)

pub tollsalmon_step_determined : (state : List ℕ) (mask signal early : ℕ) (lent : List ℕ) (a b i j : ℕ) (x y u v : List ℕ)
    → StepsMachine state mask signal early lent a i x u
    → StepsMachine state mask signal early lent b j y v
    → (a ≡ b) × (i ≡ j) × (x ≡ y) × (u ≡ v)
tollsalmon_step_determined state mask signal early lent a b i j x y u v p q =
    (p.answers ∙ sym q.answers, p.places ∙ sym q.places, p.leaves ∙ sym q.leaves, p.writes ∙ sym q.writes)

pub tollsalmon_check_determined : (file : List ℕ) (a b i j : ℕ) → ChecksFile file a i → ChecksFile file b j → (a ≡ b) × (i ≡ j)
tollsalmon_check_determined file a b i j p q = (p.answers ∙ sym q.answers, p.places ∙ sym q.places)

pub tollsalmon_table_determined : (file lent : List ℕ) (a b : ℕ) (x y : List ℕ) → ReadsTable file lent a x → ReadsTable file lent b y
    → (a ≡ b) × (x ≡ y)
tollsalmon_table_determined file lent a b x y p q = (p.answers ∙ sym q.answers, p.leaves ∙ sym q.leaves)

pub tollsalmon_script_determined : (file lent : List ℕ) (a b : ℕ) (x y : List ℕ) → ReadsScript file lent a x → ReadsScript file lent b y
    → (a ≡ b) × (x ≡ y)
tollsalmon_script_determined file lent a b x y p q = (p.answers ∙ sym q.answers, p.leaves ∙ sym q.leaves)

pub tollsalmon_write_determined : (table script lent : List ℕ) (a b i j : ℕ) (x y : List ℕ)
    → WritesFile table script lent a i x
    → WritesFile table script lent b j y
    → (a ≡ b) × (i ≡ j) × (x ≡ y)
tollsalmon_write_determined table script lent a b i j x y p q =
    (p.answers ∙ sym q.answers, p.places ∙ sym q.places, p.leaves ∙ sym q.leaves)

pub tollsalmon_report_determined : (file lent : List ℕ) (a b : ℕ) (x y : List ℕ) → PrintsRun file lent a x → PrintsRun file lent b y
    → (a ≡ b) × (x ≡ y)
tollsalmon_report_determined file lent a b x y p q = (p.answers ∙ sym q.answers, p.leaves ∙ sym q.leaves)

-- ## The functions for crates above

pub read_determined : (state : List ℕ) (a b : Option Machine) → a ≡ read_of state → b ≡ read_of state → a ≡ b
read_determined state a b p q = p ∙ sym q

pub who_of_determined : (r : Ran) (a b : ℕ) → a ≡ who_of r → b ≡ who_of r → a ≡ b
who_of_determined r a b p q = p ∙ sym q

pub task_of_determined : (r : Ran) (a b : ℕ) → a ≡ task_of r → b ≡ task_of r → a ≡ b
task_of_determined r a b p q = p ∙ sym q

pub mark_of_determined : (m : Mark) (a b : ℕ) → a ≡ mark_of m → b ≡ mark_of m → a ≡ b
mark_of_determined m a b p q = p ∙ sym q

pub bit_of_determined : (x : Bool) (a b : ℕ) → a ≡ bit_of x → b ≡ bit_of x → a ≡ b
bit_of_determined x a b p q = p ∙ sym q
