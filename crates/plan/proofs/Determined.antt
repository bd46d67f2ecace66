-- Two answers that meet a public function's promise are equal, and so is what they leave in lent memory: one lemma a function.
-- Assumes nothing.
use mathlib.Core.Path.{◌≡◌, sym, ◌∙◌}
use mathlib.Core.List.{List}
use Prim.Native.Nat.{ℕ}
use Rattle.plan.specs.declared.Tick.{Tick}
use Rattle.plan.specs.Answers.{Answer, Recorded, Taken, Writing}
use Rattle.plan.specs.Refuse.{answer_of}
use Rattle.plan.specs.PlanFile.{rows_kind, script_kind, read_refusal, part_of}
use Rattle.plan.specs.Bodies.{record_of, records_of, Takes}
use Rattle.plan.specs.Writer.{Writes}

pub check_determined : (file : List ℕ) (a b : Answer) → a ≡ answer_of (read_refusal file) → b ≡ answer_of (read_refusal file) → a ≡ b
check_determined file a b p q = p ∙ sym q

pub rows_of_determined : (file a b : List ℕ) → a ≡ part_of rows_kind file → b ≡ part_of rows_kind file → a ≡ b
rows_of_determined file a b p q = p ∙ sym q

pub script_of_determined : (file a b : List ℕ) → a ≡ part_of script_kind file → b ≡ part_of script_kind file → a ≡ b
script_of_determined file a b p q = p ∙ sym q

pub record_determined : (script : List ℕ) (i : ℕ) (a b : Recorded) → a ≡ record_of script i → b ≡ record_of script i → a ≡ b
record_determined script i a b p q = p ∙ sym q

pub records_determined : (script : List ℕ) (a b : List Tick) → a ≡ records_of script → b ≡ records_of script → a ≡ b
records_determined script a b p q = p ∙ sym q

pub table_of_determined : (rows lent : List ℕ) (a b : Taken) (x y : List ℕ) → Takes rows lent a x → Takes rows lent b y → (a ≡ b) × (x ≡ y)
table_of_determined rows lent a b x y p q = (p.answers ∙ sym q.answers, p.leaves ∙ sym q.leaves)

pub write_determined : (table script lent : List ℕ) (a b : Writing) (x y : List ℕ) → Writes table script lent a x → Writes table script lent b y
    → (a ≡ b) × (x ≡ y)
write_determined table script lent a b x y p q = (p.answers ∙ sym q.answers, p.leaves ∙ sym q.leaves)
