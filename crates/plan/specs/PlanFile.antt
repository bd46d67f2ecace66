-- The plan file: document 01, "The plan file", and its refusals 13 to 17.
-- Assumes nothing.
use Rattle.std.specs.Prelude.{Bool, not, cond, ◌&&◌, ◌||◌, ltb, eqb, ℕ, zero, suc, ◌+◌, ◌*◌, ◌/◌, ◌%◌}
use Rattle.std.specs.Prelude.{List, [], ◌∷◌, ◌++◌, length, get_or, take, drop, Option, None, Some}
use Rattle.least.specs.Search.{first_where}
use Rattle.refusals.specs.declared.Refusal.{Refusal}
use Rattle.refusals.specs.declared.Refusal.TheVariants.{FileLength, Contents, BodyPlace, BodySize, RecordBytes}
use Rattle.plan.specs.declared.reader.Entry.{Entry}
use Rattle.plan.specs.Numbers.{number_at, bytes_of}
use Rattle.plan.specs.Refuse.{refuse_if, refuse_at}

-- a section: its kind and its body
pub record Section : Type 0 where
  pub kind : ℕ
  pub body : List ℕ

abbrev pub section : ℕ → List ℕ → Section
section k b = record { kind = k; body = b }

-- THE LAYOUT
-- "12 bytes each: kind, offset, length"
abbrev pub entry_bytes : ℕ → ℕ → ℕ → List ℕ
entry_bytes kind offset size = bytes_of kind ++ bytes_of offset ++ bytes_of size

-- the entries of bodies that begin at `at`, each right after the one before it
unfoldable pub contents : ℕ → List Section → List ℕ
contents at [] = []
contents at (s ∷ rest) = entry_bytes s.kind at (length s.body) ++ contents (at + length s.body) rest

-- "bodies follow in order with no gap"
unfoldable pub bodies : List Section → List ℕ
bodies [] = []
bodies (s ∷ rest) = s.body ++ bodies rest

-- the count of sections, the contents, the bodies
unfoldable pub file_of : List Section → List ℕ
file_of ss = bytes_of (length ss) ++ contents (4 + 12 * length ss) ss ++ bodies ss

-- WHAT A FILE SAYS
abbrev pub count : List ℕ → ℕ
count f = number_at f 0

-- entry i, from 0
abbrev pub entry_at : List ℕ → ℕ → Entry
entry_at f i = record { kind = number_at f (4 + 12 * i); offset = number_at f (8 + 12 * i); length = number_at f (12 + 12 * i) }

abbrev pub section_at : List ℕ → ℕ → Section
section_at f i = section (entry_at f i).kind (take (entry_at f i).length (drop (entry_at f i).offset f))

-- the sections of n entries from i on
unfoldable pub sections_from : List ℕ → ℕ → ℕ → List Section
sections_from f i zero = []
sections_from f i (suc n) = section_at f i ∷ sections_from f (suc i) n

unfoldable pub sections_of : List ℕ → List Section
sections_of f = sections_from f 0 (count f)

-- the body of the first section of a kind; a missing one is empty
unfoldable pub body_of : ℕ → List Section → List ℕ
body_of k [] = []
body_of k (s ∷ rest) = cond (eqb s.kind k) s.body (body_of k rest)

-- THE KINDS
-- kind 1: rows of 16 bytes. Kind 2: tick records of 8 bytes
abbrev pub rows_kind : ℕ
rows_kind = 1

abbrev pub script_kind : ℕ
script_kind = 2

abbrev pub most_sections : ℕ
most_sections = 2

-- THE CHECKS
-- 13: "file length outside its limits"
abbrev pub wrong_length : ℕ → Bool
wrong_length len = ltb len 4 || ltb 65536 len

-- 14, place 0: "count wrong or contents past the end"
abbrev pub wrong_count : ℕ → ℕ → Bool
wrong_count n len = ltb n 1 || ltb most_sections n || ltb len (4 + 12 * n)

-- 14: "first kind not 1, second not 2"
unfoldable pub wrong_kind : ℕ → ℕ → Bool
wrong_kind i kind = not (eqb kind (i + 1))

-- where the body of entry i has to begin: right after the contents, or after the body before it
unfoldable pub start_at : List ℕ → ℕ → ℕ
start_at f zero = 4 + 12 * count f
start_at f (suc i) = (entry_at f i).offset + (entry_at f i).length

-- 15: "body not right after what precedes it, past the end, or the last not ending the file"
abbrev pub wrong_place : ℕ → Bool → ℕ → Entry → Bool
wrong_place start last len e =
    not (eqb e.offset start) || ltb len (e.offset + e.length) || last && not (eqb (e.offset + e.length) len)

-- 16: "rows not 16 to 512 bytes in sixteens; script empty or not in eights"
abbrev pub wrong_rows : ℕ → Bool
wrong_rows n = ltb n 16 || ltb 512 n || not (eqb (n % 16) 0)

abbrev pub wrong_script : ℕ → Bool
wrong_script n = eqb n 0 || not (eqb (n % 8) 0)

abbrev pub wrong_size : ℕ → ℕ → Bool
wrong_size kind n = cond (eqb kind script_kind) (wrong_script n) (wrong_rows n)

-- 17: "early mark above 1 or a nonzero spare byte", in record r of a script
unfoldable pub wrong_record : List ℕ → ℕ → Bool
wrong_record s r = ltb 1 (get_or s (8 * r + 5) 0) || ltb 0 (get_or s (8 * r + 6) 0) || ltb 0 (get_or s (8 * r + 7) 0)

unfoldable pub first_wrong_record : List ℕ → Option ℕ
first_wrong_record s = first_where (wrong_record s) 0 (length s / 8)

-- a question about an entry
pub data Ask : Type 0 where
  WrongKind : Ask
  WrongPlace : Ask
  WrongSize : Ask
  OfKind : ℕ → Ask

-- a question about entry i of a file, and the first entry of which it is true
unfoldable pub asked : Ask → List ℕ → ℕ → Bool
asked WrongKind f i = wrong_kind i (entry_at f i).kind
asked WrongPlace f i = wrong_place (start_at f i) (eqb (i + 1) (count f)) (length f) (entry_at f i)
asked WrongSize f i = wrong_size (entry_at f i).kind (entry_at f i).length
asked (OfKind k) f i = eqb (entry_at f i).kind k

unfoldable pub first_entry : Ask → List ℕ → Option ℕ
first_entry a f = first_where (asked a f) 0 (count f)

-- "Checks go by number": each over all entries before the next. Entries count from 1, records from 0
unfoldable pub entries_refusal : List ℕ → Option Refusal
entries_refusal f =
    refuse_at (λ i. Contents (i + 1)) (first_entry WrongKind f)
    (refuse_at (λ i. BodyPlace (i + 1)) (first_entry WrongPlace f)
    (refuse_at (λ i. BodySize (i + 1)) (first_entry WrongSize f)
    (refuse_at (λ r. RecordBytes r) (first_wrong_record (body_of script_kind (sections_of f)))
    None)))

-- the reader's refusal, or none
unfoldable pub read_refusal : List ℕ → Option Refusal
read_refusal f =
    refuse_if (wrong_length (length f)) (FileLength (length f))
    (refuse_if (wrong_count (count f) (length f)) (Contents 0)
    (entries_refusal f))

-- "hands back each body as a part of the caller's own bytes", empty on refusal and where it is missing
abbrev pub part_if : Option Refusal → List ℕ → List ℕ
part_if (Some r) p = []
part_if None p = p

unfoldable pub part_of : ℕ → List ℕ → List ℕ
part_of k f = part_if (read_refusal f) (body_of k (sections_of f))
