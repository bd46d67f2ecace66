-- The writer: document 01, "The writer checks 1, then 16 and 17 on its script, 13 on the total, 18".
-- Assumes nothing.
use Rattle.std.specs.Prelude.{◌≡◌, Bool, not, ◌||◌, List, [], ◌∷◌, ◌++◌, ℕ, ◌%◌, ltb, eqb, length, drop, Option, None, Some, Ok, Err}
use Rattle.refusals.specs.declared.Refusal.{Refusal}
use Rattle.refusals.specs.declared.Refusal.TheVariants.{TableLength, FileLength, BodySize, RecordBytes, OutputShort}
use Rattle.plan.specs.Answers.{Writing}
use Rattle.plan.specs.Numbers.{table_bytes}
use Rattle.plan.specs.Refuse.{refuse_if, refuse_at}
use Rattle.plan.specs.PlanFile.{Section, section, rows_kind, script_kind, file_of, wrong_length, first_wrong_record}

-- "An empty script has no section"
abbrev pub optional : ℕ → List ℕ → List Section
optional k [] = []
optional k (x ∷ xs) = section k (x ∷ xs) ∷ []

-- the sections of a table and a script
unfoldable pub plan_of : List ℕ → List ℕ → List Section
plan_of table script = section rows_kind (table_bytes table) ∷ optional script_kind script

unfoldable pub plan_file : List ℕ → List ℕ → List ℕ
plan_file table script = file_of (plan_of table script)

-- 1: "table of 32-bit numbers isn't 4 to 128 long in fours"
abbrev pub wrong_table : ℕ → Bool
wrong_table n = ltb n 4 || ltb 128 n || not (eqb (n % 4) 0)

-- "an empty one is fine, place of 16 is 2"
abbrev pub not_in_eights : ℕ → Bool
not_in_eights n = not (eqb (n % 8) 0)

-- the writer's refusal, or none, where `room` bytes are lent
unfoldable pub write_refusal : List ℕ → List ℕ → ℕ → Option Refusal
write_refusal table script room =
    refuse_if (wrong_table (length table)) (TableLength (length table))
    (refuse_if (not_in_eights (length script)) (BodySize 2)
    (refuse_at (λ r. RecordBytes r) (first_wrong_record script)
    (refuse_if (wrong_length (length (plan_file table script))) (FileLength (length (plan_file table script)))
    (refuse_if (ltb room (length (plan_file table script))) (OutputShort (length (plan_file table script)))
    None))))

-- the answer: the file's length, or the refusal
abbrev pub writing_of : Option Refusal → ℕ → Writing
writing_of (Some r) n = Err r
writing_of None n = Ok n

-- the lent bytes afterwards: "a refused write writes nothing, and an accepted one nothing past the file"
abbrev pub after_writing : Option Refusal → List ℕ → List ℕ → List ℕ
after_writing (Some r) file lent = lent
after_writing None file lent = file ++ drop (length file) lent

-- what `write` promises
pub record Writes (table script lent : List ℕ) (answer : Writing) (after : List ℕ) : Type 0 where
  pub answers : answer ≡ writing_of (write_refusal table script (length lent)) (length (plan_file table script))
  pub leaves : after ≡ after_writing (write_refusal table script (length lent)) (plan_file table script) lent
