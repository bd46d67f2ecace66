-- Plan files through numbers and lent memory: what the reader and the writer say, and the parts of an accepted file.
-- Assumes nothing.
use Rattle.std.specs.Prelude.{◌≡◌, cond, List, ◌++◌, ℕ, ltb, length, drop, Option, None, Some}
use Rattle.refusals.specs.Refusals.{number_of, place_of}
use Rattle.refusals.specs.declared.Refusal.{Refusal}
use Rattle.plan.specs.Numbers.{table_of}
use Rattle.plan.specs.PlanFile.{rows_kind, script_kind, read_refusal, part_of}
use Rattle.plan.specs.Writer.{plan_file, write_refusal, after_writing}

-- 0 and the place of what is accepted, or the refusal's number and place
abbrev pub refusal_number : Option Refusal → ℕ
refusal_number None = 0
refusal_number (Some r) = number_of r

abbrev pub refusal_place : Option Refusal → ℕ → ℕ
refusal_place None accepted = accepted
refusal_place (Some r) accepted = place_of r

-- numbers to the front of lent ones; nothing is touched where they don't fit
unfoldable pub to_front : List ℕ → List ℕ → List ℕ
to_front part lent = cond (ltb (length lent) (length part)) lent (part ++ drop (length part) lent)

-- the table of a file's rows, none where it is refused
abbrev pub table_in : List ℕ → List ℕ
table_in file = table_of (part_of rows_kind file)

-- the bytes of its script, none where it is refused or has no script
abbrev pub script_in : List ℕ → List ℕ
script_in file = part_of script_kind file

-- what `tollsalmon_check` promises
pub record ChecksFile (file : List ℕ) (answer place : ℕ) : Type 0 where
  pub answers : answer ≡ refusal_number (read_refusal file)
  pub places : place ≡ refusal_place (read_refusal file) 0

-- what `tollsalmon_table` promises
pub record ReadsTable (file lent : List ℕ) (answer : ℕ) (after : List ℕ) : Type 0 where
  pub answers : answer ≡ length (table_in file)
  pub leaves : after ≡ to_front (table_in file) lent

-- what `tollsalmon_script` promises
pub record ReadsScript (file lent : List ℕ) (answer : ℕ) (after : List ℕ) : Type 0 where
  pub answers : answer ≡ length (script_in file)
  pub leaves : after ≡ to_front (script_in file) lent

-- what `tollsalmon_write` promises
pub record WritesFile (table script lent : List ℕ) (answer place : ℕ) (after : List ℕ) : Type 0 where
  pub answers : answer ≡ refusal_number (write_refusal table script (length lent))
  pub places : place ≡ refusal_place (write_refusal table script (length lent)) (length (plan_file table script))
  pub leaves : after ≡ after_writing (write_refusal table script (length lent)) (plan_file table script) lent
