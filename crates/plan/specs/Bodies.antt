-- Bodies as values: document 01, "The plan file", rows of four numbers and tick records of 8 bytes.
-- Assumes nothing.
use Rattle.std.specs.Prelude.{◌≡◌, cond, List, [], ◌∷◌, ◌++◌, ℕ, ◌+◌, ◌*◌, ◌/◌, ◌%◌, ltb, eqb, length, get_or, drop, Ok, Err, None, Some}
use Rattle.least.specs.Lists.{list_of}
use Rattle.plan.specs.declared.Tick.{Tick}
use Rattle.plan.specs.Answers.{Recorded, Taken}
use Rattle.plan.specs.declared.RowsError.TheVariants.{NotInFours, TooShort}
use Rattle.plan.specs.Numbers.{number_at, bytes_of, table_of}

-- record i of a script, from 0: "mask 4 bytes, signal 1, early mark 0 or 1, two zero bytes"
abbrev pub tick_at : List ℕ → ℕ → Tick
tick_at s i = record { mask = number_at s (8 * i); signal = get_or s (8 * i + 4) 0; early = eqb (get_or s (8 * i + 5) 0) 1 }

-- the 8 bytes of a record
abbrev pub tick_bytes : Tick → List ℕ
tick_bytes t = bytes_of t.mask ++ (t.signal ∷ cond t.early 1 0 ∷ 0 ∷ 0 ∷ [])

-- a script has a record for each whole eight of its bytes
unfoldable pub record_of : List ℕ → ℕ → Recorded
record_of s i = cond (ltb i (length s / 8)) (Some (tick_at s i)) None

-- all of its records
unfoldable pub records_of : List ℕ → List Tick
records_of s = list_of (tick_at s) (length s / 8)

-- the bytes of rows, taken into lent numbers: how many they are, or why nothing was taken
unfoldable pub taken_of : List ℕ → ℕ → Taken
taken_of rows room =
    cond (eqb (length rows % 4) 0)
    (cond (ltb room (length rows / 4)) (Err (TooShort (length rows / 4))) (Ok (length rows / 4)))
    (Err (NotInFours (length rows)))

-- the lent numbers afterwards
abbrev pub after_taken : Taken → List ℕ → List ℕ → List ℕ
after_taken (Ok n) rows lent = table_of rows ++ drop n lent
after_taken (Err why) rows lent = lent

-- what `table_of` promises
pub record Takes (rows lent : List ℕ) (answer : Taken) (after : List ℕ) : Type 0 where
  pub answers : answer ≡ taken_of rows (length lent)
  pub leaves : after ≡ after_taken (taken_of rows (length lent)) rows lent
