-- Worked cases of the plan file: document 01's plan of P2 with eight records, whole and damaged, and the writer's refusals.
-- Assumes nothing.
use Rattle.std.specs.Prelude.{Err, ◌≡◌, Bool, true, false, List, [], ◌∷◌, ◌++◌, ℕ, ◌+◌, take, set, replicate, Option, None, Some, Ok}
use Rattle.refusals.specs.declared.Refusal.{Refusal}
use Rattle.refusals.specs.Refusals.{Line, line, line_of}
use Rattle.plan.specs.declared.Tick.{Tick}
use Rattle.plan.specs.declared.RowsError.TheVariants.{NotInFours, TooShort}
use Rattle.plan.specs.Numbers.{table_bytes, table_of}
use Rattle.plan.specs.Bodies.{tick_bytes, record_of, taken_of, after_taken}
use Rattle.plan.specs.PlanFile.{read_refusal}
use Rattle.plan.specs.Writer.{write_refusal}

-- a refusal by its number and its place
abbrev pub told : Option Refusal → Option Line
told (Some r) = Some (line_of r)
told None = None

abbrev pub refused : ℕ → ℕ → Option Line
refused n p = Some (line n p)

-- "the plan of P2 with eight records, the first with mask 1 and all else zero (108 bytes, bodies at 28 and 44)"
abbrev pub table : List ℕ
table = 10 ∷ 8 ∷ 3 ∷ 2 ∷ []

abbrev pub script : List ℕ
script = 1 ∷ replicate 63 0

abbrev pub contents_of_p2 : List ℕ
contents_of_p2 = 2 ∷ 0 ∷ 0 ∷ 0 ∷ 1 ∷ 0 ∷ 0 ∷ 0 ∷ 28 ∷ 0 ∷ 0 ∷ 0 ∷ 16 ∷ 0 ∷ 0 ∷ 0 ∷ 2 ∷ 0 ∷ 0 ∷ 0 ∷
    44 ∷ 0 ∷ 0 ∷ 0 ∷ 64 ∷ 0 ∷ 0 ∷ 0 ∷ []

abbrev pub rows_of_p2 : List ℕ
rows_of_p2 = 10 ∷ 0 ∷ 0 ∷ 0 ∷ 8 ∷ 0 ∷ 0 ∷ 0 ∷ 3 ∷ 0 ∷ 0 ∷ 0 ∷ 2 ∷ 0 ∷ 0 ∷ 0 ∷ []

abbrev pub plan_of_p2 : List ℕ
plan_of_p2 = contents_of_p2 ++ rows_of_p2 ++ script

-- rows alone: one entry, whose length has these two low bytes
abbrev pub rows_alone : ℕ → ℕ → List ℕ → List ℕ
rows_alone low high rows = (1 ∷ 0 ∷ 0 ∷ 0 ∷ 1 ∷ 0 ∷ 0 ∷ 0 ∷ 16 ∷ 0 ∷ 0 ∷ 0 ∷ low ∷ high ∷ 0 ∷ 0 ∷ []) ++ rows

-- P2's plan with a script of n bytes
abbrev pub script_cut : ℕ → List ℕ → List ℕ
script_cut n plan = set (take (44 + n) plan) 24 n

-- a file, and what the reader says of it
pub record Read : Type 0 where
  pub file : List ℕ
  pub says : Option Line

abbrev pub read : List ℕ → Option Line → Read
read f l = record { file = f; says = l }

abbrev pub reads : List Read
reads =
    read plan_of_p2 None
    -- with no script, 32 bytes; 32 rows, whatever their fields; an early mark of 1
    ∷ read (rows_alone 16 0 rows_of_p2) None
    ∷ read (rows_alone 0 2 (replicate 512 0)) None
    ∷ read (set plan_of_p2 49 1) None
    -- 13
    ∷ read [] (refused 13 0)
    ∷ read (take 3 plan_of_p2) (refused 13 3)
    -- 14: counts 0 and 3, contents past the end, the second kind 3, the first kind 2
    ∷ read (set plan_of_p2 0 0) (refused 14 0)
    ∷ read (set plan_of_p2 0 3) (refused 14 0)
    ∷ read (take 27 plan_of_p2) (refused 14 0)
    ∷ read (set plan_of_p2 16 3) (refused 14 2)
    ∷ read (set plan_of_p2 4 2) (refused 14 1)
    -- 14 of the second entry comes before 15 of the first
    ∷ read (set (set plan_of_p2 8 29) 16 3) (refused 14 2)
    -- 15: a gap before the rows, a length of 2^32 − 1, a gap before the script, a byte after the last body
    ∷ read (set plan_of_p2 8 29) (refused 15 1)
    ∷ read (set (set (set (set plan_of_p2 12 255) 13 255) 14 255) 15 255) (refused 15 1)
    ∷ read (set plan_of_p2 20 45) (refused 15 2)
    ∷ read (plan_of_p2 ++ (0 ∷ [])) (refused 15 2)
    -- 16: rows of 17 bytes, no rows, 33 rows; a present script of length 0, one of 63 bytes
    ∷ read (set (set (set plan_of_p2 12 17) 20 45) 24 63) (refused 16 1)
    ∷ read (rows_alone 0 0 []) (refused 16 1)
    ∷ read (rows_alone 16 2 (replicate 528 0)) (refused 16 1)
    ∷ read (script_cut 0 plan_of_p2) (refused 16 2)
    ∷ read (script_cut 63 plan_of_p2) (refused 16 2)
    -- 16 before 17
    ∷ read (script_cut 12 (set plan_of_p2 49 2)) (refused 16 2)
    -- 17: the early mark 2 in record 3, a spare byte in record 7
    ∷ read (set plan_of_p2 73 2) (refused 17 3)
    ∷ read (set plan_of_p2 107 1) (refused 17 7)
    ∷ []

-- a table and a script, how many bytes are lent, and what the writer says
pub record Write : Type 0 where
  pub rows : List ℕ
  pub ticks : List ℕ
  pub room : ℕ
  pub says : Option Line

abbrev pub write : List ℕ → List ℕ → ℕ → Option Line → Write
write t s n l = record { rows = t; ticks = s; room = n; says = l }

abbrev pub writes : List Write
writes =
    write table script 108 None
    ∷ write table [] 32 None
    ∷ write (replicate 128 0) [] 528 None
    -- 1 before 16
    ∷ write [] (take 7 script) 108 (refused 1 0)
    ∷ write (1 ∷ table) script 108 (refused 1 5)
    ∷ write (replicate 132 0) [] 544 (refused 1 132)
    -- 16 before 17, place 2
    ∷ write table (take 63 (set script 5 2)) 108 (refused 16 2)
    -- 17 before 18
    ∷ write table (set script 62 1) 0 (refused 17 7)
    ∷ write table script 107 (refused 18 108)
    ∷ []

-- what the reader and the writer make of them is what they say
abbrev pub found : List Read → List (Option Line)
found [] = []
found (c ∷ cs) = told (read_refusal c.file) ∷ found cs

abbrev pub said : List Read → List (Option Line)
said [] = []
said (c ∷ cs) = c.says ∷ said cs

abbrev pub ReadsRight : List Read → Type 0
ReadsRight cs = found cs ≡ said cs

abbrev pub WritesRight : List Write → Type 0
WritesRight [] = Unit {0}
WritesRight (c ∷ cs) = (told (write_refusal c.rows c.ticks c.room) ≡ c.says) × WritesRight cs

-- bodies byte by byte: "mask 4 bytes, signal 1, early mark 0 or 1, two zero bytes", the lowest byte first
abbrev pub two_records : List ℕ
two_records = 1 ∷ 2 ∷ 3 ∷ 4 ∷ 5 ∷ 1 ∷ 0 ∷ 0 ∷ 255 ∷ 0 ∷ 0 ∷ 128 ∷ 32 ∷ 0 ∷ 0 ∷ 0 ∷ []

abbrev pub tick : ℕ → ℕ → Bool → Tick
tick mask signal early = record { mask = mask; signal = signal; early = early }

-- 10, 1,000,000 and 2^32 − 1
abbrev pub three_numbers : List ℕ
three_numbers = 10 ∷ 0 ∷ 0 ∷ 0 ∷ 64 ∷ 66 ∷ 15 ∷ 0 ∷ 255 ∷ 255 ∷ 255 ∷ 255 ∷ []

-- what comes of them
pub record BodiesRight : Type 0 where
  pub first_record : record_of two_records 0 ≡ Some (tick 67305985 5 true)
  pub second_record : record_of two_records 1 ≡ Some (tick 2147483903 32 false)
  pub no_third : record_of two_records 2 ≡ None
  -- half a record is none; a mark of 2, which no accepted script has, is no mark
  pub half : record_of (take 15 two_records) 1 ≡ None
  pub mark_of_2 : record_of (set two_records 5 2) 0 ≡ Some (tick 67305985 5 false)
  pub records_again : tick_bytes (tick 67305985 5 true) ++ tick_bytes (tick 2147483903 32 false) ≡ two_records
  pub numbers : table_of three_numbers ≡ 10 ∷ 1000000 ∷ 4294967295 ∷ []
  pub numbers_again : table_bytes (10 ∷ 1000000 ∷ 4294967295 ∷ []) ≡ three_numbers
  -- into four lent numbers, into two, and of bytes that aren't in fours
  pub enough : taken_of three_numbers 4 ≡ Ok 3
  pub enough_after : after_taken (Ok 3) three_numbers (9 ∷ 9 ∷ 9 ∷ 9 ∷ []) ≡ 10 ∷ 1000000 ∷ 4294967295 ∷ 9 ∷ []
  pub too_few : taken_of three_numbers 2 ≡ Err (TooShort 3)
  pub too_few_after : after_taken (Err (TooShort 3)) three_numbers (9 ∷ 9 ∷ []) ≡ 9 ∷ 9 ∷ []
  pub not_in_fours : taken_of (take 7 three_numbers) 4 ≡ Err (NotInFours 7)
