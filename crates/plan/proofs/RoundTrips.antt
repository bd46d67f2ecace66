-- The round trips of the plan file: what the writer writes is accepted and reads back to what was written, and what the
-- reader accepts, written again from its parts, is the same bytes. Assumes nothing.
use mathlib.Core.Path.{◌≡◌, refl, sym, ap, ◌∙◌}
use mathlib.Core.Bool.{false}
use mathlib.Core.List.{List, [], ◌∷◌, ◌++◌, append-nil}
use Rattle.std.specs.Prelude.{Option, None, Some, Ok}
use Prim.Native.Nat.{ℕ, zero, suc, ◌+◌, ◌*◌, ◌/◌, ◌%◌, ◌≤◌, ◌<◌}
use native.Mathlib.Nat.{lt_irrefl}
use native.Mathlib.Omega.{arith}
use borrow.Author.Tests.{ne_eqb, le-ltb, eq-eqb}
use lib.ListN.{length, take, drop}
use lib.Seq.{take_at}
use Rattle.refusals.specs.declared.Refusal.{Refusal}
use Rattle.plan.specs.Answers.{Writing}
use Rattle.plan.specs.Numbers.{table_bytes, table_of, AllBelow}
use Rattle.plan.specs.PlanFile.{Section, section, file_of, sections_of, body_of, rows_kind, script_kind, most_sections}
use Rattle.plan.specs.PlanFile.{wrong_kind, wrong_rows, wrong_size, first_wrong_record, read_refusal, part_of}
use Rattle.plan.specs.Writer.{optional, plan_of, plan_file, wrong_table, write_refusal, writing_of, after_writing, Writes}
use Rattle.plan.specs.Meaning.{section_in, Plan, ReadsBack}
use Rattle.plan.proofs.Digits.{table_length, table_again, numbers_again_all}
use Rattle.plan.proofs.Entries.{passed, the_part}
use Rattle.plan.proofs.Values.{numbers_length}
use Rattle.plan.proofs.Written.{Allowed, allowed, go_write, plan_length}
use Rattle.plan.proofs.Parts.{body_bytes, script_eights, rows_shape, by_bodies}
use Rattle.plan.proofs.Plans.{meaning_file, meaning_plan, plan_accepted, plan_parts}
use Rattle.plan.proofs.ByKind.{there}

-- WRITE, THEN READ
-- the sections that the writer lays out are a plan
rows_size : (n : ℕ) → 4 ≤ n → n ≤ 128 → n % 4 ≡ 0 → wrong_rows (4 * n) ≡ false
rows_size n a b c =
    rw (le-ltb (4 * n) 16 (omega arith), le-ltb 512 (4 * n) (omega arith), eq-eqb (4 * n % 16) 0 (omega arith))

module _ (t s : List ℕ) (room : ℕ) (fine : write_refusal t s room ≡ None) where
  allows : Allowed t s room
  allows = allowed t s room fine

  rows_right : wrong_size rows_kind (length (table_bytes t)) ≡ false
  rows_right = ap wrong_rows (table_length t) ∙ rows_size (length t) allows.some allows.few allows.fours

  script_right : 1 ≤ length s → wrong_size script_kind (length s) ≡ false
  script_right h = rw (ne_eqb (length s) 0 (λ e. lt_irrefl 0 (omega arith)), eq-eqb (length s % 8) 0 allows.eights)

-- sections that are right one after the other, from place i on
abbrev Right : ℕ → List Section → Type 0
Right i [] = Unit {0}
Right i (s ∷ rest) = (wrong_kind i s.kind ≡ false) × (wrong_size s.kind (length s.body) ≡ false) × Right (suc i) rest

right_at : (ss : List Section) (j i : ℕ) → Right j ss → i < length ss
    → (wrong_kind (j + i) (section_in ss i).kind ≡ false) × (wrong_size (section_in ss i).kind (length (section_in ss i).body) ≡ false)
right_at [] j i r h = absurd (lt_irrefl 0 (omega arith))
right_at (s ∷ rest) j zero r h = let z : j + 0 ≡ j = omega arith in (ap (λ (x : ℕ). wrong_kind x s.kind) z ∙ r.0, r.1)
right_at (s ∷ rest) j (suc i) r h =
    let z : j + suc i ≡ suc j + i = omega arith in
    let q = right_at rest (suc j) i r.2 (omega arith) in
    (ap (λ (x : ℕ). wrong_kind x (section_in rest i).kind) z ∙ q.0, q.1)

-- a section that is left out where it is empty
optional_right : (i k : ℕ) (b : List ℕ) → (1 ≤ length b → (wrong_kind i k ≡ false) × (wrong_size k (length b) ≡ false)) → Right i (optional k b)
optional_right i k [] h = tt
optional_right i k (x ∷ xs) h = let q = h (omega arith) in (q.0, q.1, tt)

optional_few : (k : ℕ) (b : List ℕ) → length (optional k b) ≤ 1
optional_few k [] = omega arith
optional_few k (x ∷ xs) = omega arith

optional_body : (k : ℕ) (b : List ℕ) → body_of k (optional k b) ≡ b
unfolding body_of
optional_body k [] = refl
optional_body k (x ∷ xs) = rw (eq-eqb k k refl)

sections_right : (t s : List ℕ) (room : ℕ) → write_refusal t s room ≡ None → Right 0 (plan_of t s)
unfolding plan_of wrong_kind
sections_right t s room fine = (refl, rows_right t s room fine, optional_right 1 script_kind s (λ h. (refl, script_right t s room fine h)))

sections_few : (t s : List ℕ) → (1 ≤ length (plan_of t s)) × (length (plan_of t s) ≤ most_sections)
unfolding plan_of
sections_few t s = (omega arith, omega (arith, optional_few script_kind s))

script_body : (t s : List ℕ) → body_of script_kind (plan_of t s) ≡ s
unfolding plan_of body_of
script_body t s = optional_body script_kind s

rows_body : (t s : List ℕ) → body_of rows_kind (plan_of t s) ≡ table_bytes t
unfolding plan_of body_of
rows_body t s = refl

module _ (t s : List ℕ) (room : ℕ) (fine : write_refusal t s room ≡ None) where
  pub written_plan : Plan (plan_of t s)
  unfolding plan_file
  written_plan =
      let right = sections_right t s room fine in
      let z : (i : ℕ) → 0 + i ≡ i = λ i. omega arith in
      record {
        some = (sections_few t s).0;
        few = (sections_few t s).1;
        kinds = λ i h. ap (λ (x : ℕ). wrong_kind x (section_in (plan_of t s) i).kind) (sym (z i)) ∙ (right_at (plan_of t s) 0 i right h).0;
        sizes = λ i h. (right_at (plan_of t s) 0 i right h).1;
        records = ap first_wrong_record (script_body t s) ∙ (allows t s room fine).records;
        short = (allows t s room fine).total;
      }

  -- every file that the writer makes is accepted
  pub written_accepted : read_refusal (plan_file t s) ≡ None
  unfolding plan_file
  written_accepted = plan_accepted (plan_of t s) written_plan

  -- and its parts are the rows and the script that were written
  pub written_rows : part_of rows_kind (plan_file t s) ≡ table_bytes t
  unfolding plan_file
  written_rows = plan_parts (plan_of t s) written_plan rows_kind ∙ rows_body t s

  pub written_script : part_of script_kind (plan_file t s) ≡ s
  unfolding plan_file
  written_script = plan_parts (plan_of t s) written_plan script_kind ∙ script_body t s

  -- as numbers: the table itself
  pub written_table : AllBelow 4294967296 t → table_of (part_of rows_kind (plan_file t s)) ≡ t
  written_table small = ap table_of written_rows ∙ numbers_again_all t small

-- what the writer leaves in lent memory begins with a file that reads back to what it was given
pub write_then_read : (t s lent after : List ℕ) (n : ℕ) → Writes t s lent (Ok n) after → ReadsBack t s (take n after)
write_then_read t s lent after n w =
    let e = written (write_refusal t s (length lent)) (length (plan_file t s)) n w.answers in
    let f : take n after ≡ plan_file t s =
    ap (take n) (w.leaves ∙ ap (λ (o : Option Refusal). after_writing o (plan_file t s) lent) e.0)
    ∙ take_at (plan_file t s) (drop (length (plan_file t s)) lent) n (sym e.1) in
    record {
      accepted = ap read_refusal f ∙ written_accepted t s (length lent) e.0;
      rows = ap (part_of rows_kind) f ∙ written_rows t s (length lent) e.0;
      numbers = λ small. ap (λ (x : List ℕ). table_of (part_of rows_kind x)) f ∙ written_table t s (length lent) e.0 small;
      script_part = ap (part_of script_kind) f ∙ written_script t s (length lent) e.0;
    }
  where
    written : (o : Option Refusal) (m n : ℕ) → Ok n ≡ writing_of o m → (o ≡ None) × (n ≡ m)
    written (Some r) m n e = let z : ◌≡◌ {A = ℕ} 0 1 = cc in absurd (lt_irrefl 0 (omega arith))
    written None m n e = (refl, cc)

-- READ, THEN WRITE
-- the sections of an accepted file, from its rows and its script
module _ (ss : List Section) (p : Plan ss) where
  abbrev rows : List ℕ
  rows = body_of rows_kind ss

  abbrev script : List ℕ
  script = body_of script_kind ss

  plan_again : AllBelow 256 rows → plan_of (table_of rows) script ≡ ss
  unfolding plan_of
  plan_again bytes =
      ap (λ (b : List ℕ). section rows_kind b ∷ optional script_kind script) (table_again rows bytes (omega (arith, rows_shape ss p)))
      ∙ ap (λ (l : List Section). section rows_kind rows ∷ l) (sym (append-nil (optional script_kind script)))
      ∙ ap (λ (l : List Section). l ++ (optional script_kind script ++ [])) (sym (there rows_kind rows (omega (arith, rows_shape ss p))))
      ∙ by_bodies ss p

  table_fits : wrong_table (length (table_of rows)) ≡ false
  table_fits =
      let n = length rows / 4 in
      ap wrong_table (numbers_length rows n)
      ∙ rw (le-ltb n 4 (omega (arith, rows_shape ss p)), le-ltb 128 n (omega (arith, rows_shape ss p)), eq-eqb (n % 4) 0 (omega (arith, rows_shape ss p)))

module _ (f : List ℕ) (bytes : AllBelow 256 f) (accepted : read_refusal f ≡ None) where
  plan : Plan (sections_of f)
  plan = meaning_plan f bytes accepted

  -- what an accepted file hands back: 1 to 32 rows of 16 bytes, whole records with nothing wrong in them
  pub accepted_rows : (16 ≤ length (part_of rows_kind f)) × (length (part_of rows_kind f) ≤ 512) × (length (part_of rows_kind f) % 16 ≡ 0)
  accepted_rows = rw (the_part f rows_kind accepted) (rows_shape (sections_of f) plan)

  pub accepted_script : (length (part_of script_kind f) % 8 ≡ 0) × (first_wrong_record (part_of script_kind f) ≡ None)
  accepted_script = rw (the_part f script_kind accepted) (script_eights (sections_of f) plan.sizes, plan.records)

  -- every accepted file, written again from its parts, is the same bytes
  pub read_again : plan_file (table_of (part_of rows_kind f)) (part_of script_kind f) ≡ f
  unfolding plan_file
  read_again =
      ap (λ (r : List ℕ). file_of (plan_of (table_of r) (part_of script_kind f))) (the_part f rows_kind accepted)
      ∙ ap (λ (s : List ℕ). file_of (plan_of (table_of (body_of rows_kind (sections_of f))) s)) (the_part f script_kind accepted)
      ∙ ap file_of (plan_again (sections_of f) plan (body_bytes f rows_kind bytes))
      ∙ meaning_file f bytes accepted

  -- and the writer refuses none of it where there is room
  pub read_writable : (room : ℕ) → length f ≤ room → write_refusal (table_of (part_of rows_kind f)) (part_of script_kind f) room ≡ None
  read_writable room h =
      let t = table_of (part_of rows_kind f) in
      let s = part_of script_kind f in
      let r = the_part f rows_kind accepted in
      go_write t s room (length f) (ap length (sym read_again) ∙ plan_length t s)
      (ap (λ (x : List ℕ). wrong_table (length (table_of x))) r ∙ table_fits (sections_of f) plan)
      accepted_script.0
      accepted_script.1
      (passed f accepted).length_right
      (le-ltb room (length f) h)

  -- so the writer, given the parts of an accepted file and room, leaves that file and answers its length
  pub read_then_write : (lent after : List ℕ) (a : Writing) → length f ≤ length lent
      → Writes (table_of (part_of rows_kind f)) (part_of script_kind f) lent a after → (a ≡ Ok (length f)) × (after ≡ f ++ drop (length f) lent)
  read_then_write lent after a h w =
      let g = plan_file (table_of (part_of rows_kind f)) (part_of script_kind f) in
      let e = read_writable (length lent) h in (
        w.answers ∙ ap (λ (o : Option Refusal). writing_of o (length g)) e ∙ ap (λ (x : List ℕ). Ok (length x)) read_again,
        w.leaves
            ∙ ap (λ (o : Option Refusal). after_writing o g lent) e
            ∙ ap (λ (x : List ℕ). x ++ drop (length x) lent) read_again,
      )
