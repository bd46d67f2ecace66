-- What the private functions tell each other. No promise of a public function names any of it.
-- Assumes nothing.
use Rattle.std.specs.Prelude.{◌≡◌, cond, List, [], ◌++◌, ℕ, ◌+◌, ◌*◌, ◌≤◌, ◌<◌, eqb, length, Option, None, Some, Result, Ok, Err}
use Rattle.std.proofs.lemmas.List.Edits.{sets}
use Rattle.refusals.specs.declared.Refusal.{Refusal}
use Rattle.refusals.specs.declared.Refusal.TheVariants.{BodySize, RecordBytes}
use Rattle.plan.specs.declared.writer.Output.{Output}
use Rattle.plan.specs.declared.Kind.{Kind}
use Rattle.plan.specs.declared.Kind.TheVariants.{Rows, Script}
use Rattle.plan.specs.Numbers.{bytes_of}
use Rattle.plan.specs.Refuse.{refuse_at}
use Rattle.plan.specs.PlanFile.{WrongSize, first_entry, first_wrong_record, sections_of, body_of}
use Rattle.plan.specs.PlanFile.{entry_bytes, count, entry_at, most_sections, rows_kind, script_kind}

-- the number of a kind
abbrev pub number_of : Kind → ℕ
number_of Rows = rows_kind
number_of Script = script_kind

-- the contents lie in the file
pub record Listed (f : List ℕ) : Type 0 where
  pub some : 1 ≤ count f
  pub few : count f ≤ most_sections
  pub whole : 4 + 12 * count f ≤ length f

-- and so does each body
pub record Placed (f : List ℕ) : Type 0 where
  pub listed : Listed f
  pub within : (i : ℕ) → i < count f → (entry_at f i).offset + (entry_at f i).length ≤ length f

-- 16 and 17 alone, once each body is in its place
unfoldable pub bodies_refusal : List ℕ → Option Refusal
bodies_refusal f =
    refuse_at (λ i. BodySize (i + 1)) (first_entry WrongSize f)
    (refuse_at (λ r. RecordBytes r) (first_wrong_record (body_of script_kind (sections_of f)))
    None)

-- a step of the reader, which is to find the refusal `whole` of a file: that refusal, or the file again with what is left to look at
abbrev pub Step : Option Refusal → Option Refusal → List ℕ → Result (List ℕ) Refusal → Type 0
Step whole left f (Ok g) = (g ≡ f) × (whole ≡ left)
Step whole left f (Err r) = whole ≡ Some r

-- n bytes more fit into an output
abbrev pub HasRoom : Output → ℕ → Type 0
HasRoom output n = output.at + n ≤ length output.bytes.now

-- Afterwards an output is the same lent bytes, which hold the bytes t from its place on, and its place is the one after them.
pub record Puts (before : Output) (t : List ℕ) (after : Output) : Type 0 where
  pub same_output : after.bytes.ghost_name ≡ before.bytes.ghost_name
  pub bytes : after.bytes.now ≡ sets before.bytes.now before.at t
  pub next : after.at ≡ before.at + length t
  pub room : length after.bytes.now ≡ length before.bytes.now

-- the entry of a section that is left out where its length is 0
unfoldable pub optional_bytes : ℕ → ℕ → ℕ → List ℕ
optional_bytes kind offset size = cond (eqb size 0) [] (entry_bytes kind offset size)

-- how many sections a body of that size makes
unfoldable pub optional_count : ℕ → ℕ
optional_count size = cond (eqb size 0) 0 1

-- a plan with m numbers in its table and n bytes in its script: its sections, its length, its count and contents
abbrev pub section_count : ℕ → ℕ
section_count n = 1 + optional_count n

abbrev pub bodies_at : ℕ → ℕ
bodies_at n = 4 + 12 * section_count n

abbrev pub file_length : ℕ → ℕ → ℕ
file_length m n = bodies_at n + 4 * m + n

abbrev pub head_bytes : ℕ → ℕ → List ℕ
head_bytes m n =
    bytes_of (section_count n) ++ entry_bytes rows_kind (bodies_at n) (4 * m) ++ optional_bytes script_kind (bodies_at n + 4 * m) n
