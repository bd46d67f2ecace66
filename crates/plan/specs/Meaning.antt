-- What a plan is, apart from any file: document 01, "The plan file". The theorems are stated over it.
-- Assumes nothing.
use Rattle.std.specs.Prelude.{◌≡◌, false, List, [], ℕ, ◌≤◌, ◌<◌, length, get_or, None}
use Rattle.plan.specs.Numbers.{table_bytes, table_of, AllBelow}
use Rattle.plan.specs.PlanFile.{Section, section, file_of, sections_of, body_of, rows_kind, script_kind, most_sections, wrong_kind, wrong_size}
use Rattle.plan.specs.PlanFile.{first_wrong_record, read_refusal, part_of}

-- section i of a list, from 0
abbrev pub section_in : List Section → ℕ → Section
section_in ss i = get_or ss i (section 0 [])

-- a list of sections that is a plan
pub record Plan (ss : List Section) : Type 0 where
  pub some : 1 ≤ length ss
  pub few : length ss ≤ most_sections
  pub kinds : (i : ℕ) → i < length ss → wrong_kind i (section_in ss i).kind ≡ false
  pub sizes : (i : ℕ) → i < length ss → wrong_size (section_in ss i).kind (length (section_in ss i).body) ≡ false
  pub records : first_wrong_record (body_of script_kind ss) ≡ None
  pub short : length (file_of ss) ≤ 65536

-- each kind is a number of 32 bits, as an entry can say it
abbrev pub Kinds32 : List Section → Type 0
Kinds32 ss = (i : ℕ) → i < length ss → (section_in ss i).kind < 4294967296

-- "read to exactly one meaning": a plan whose file this is, and no other list of sections has this file
pub record OneMeaning (f : List ℕ) : Type 0 where
  pub plan : Plan (sections_of f)
  pub file : file_of (sections_of f) ≡ f
  pub only : (ss : List Section) → Kinds32 ss → file_of ss ≡ f → ss ≡ sections_of f

-- a file that is accepted and whose parts are the rows of a table and a script; read as numbers of 32 bits, the rows are the table itself
pub record ReadsBack (table script f : List ℕ) : Type 0 where
  pub accepted : read_refusal f ≡ None
  pub rows : part_of rows_kind f ≡ table_bytes table
  pub numbers : AllBelow 4294967296 table → table_of (part_of rows_kind f) ≡ table
  pub script_part : part_of script_kind f ≡ script
