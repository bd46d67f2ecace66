-- Document 01's table of refusals and document 02's lines after it, written down once more in their order: "Given when" as the case that stands
-- for it, beside "No." and "Place".
-- So the same two numbers swapped in the definition and in the code are refused. Assumes nothing.
use Prim.Native.Nat.{ℕ}
use mathlib.Core.Path.{◌≡◌, refl}
use mathlib.Core.List.{List, [], ◌∷◌}
use Rattle.refusals.specs.declared.Refusal.{Refusal}
use Rattle.refusals.specs.Refusals.{Line, line, line_of}

-- the cases at a place p, from the first line of the table to the last
abbrev pub cases : ℕ → List Refusal
cases p =
    Refusal.TableLength p
    ∷ Refusal.FieldRange p
    ∷ Refusal.DeadlineAbovePeriod p
    ∷ Refusal.ResultsShort p
    ∷ Refusal.NoActivePeriod p
    ∷ Refusal.StartTooLate p
    ∷ Refusal.NoGuestWindow p
    ∷ Refusal.NotWellFormed p
    ∷ Refusal.ClockAtEnd p
    ∷ Refusal.NoSuchTask p
    ∷ Refusal.ArrivalTooSoon p
    ∷ Refusal.ArrivalWhileHyper p
    ∷ Refusal.FileLength p
    ∷ Refusal.Contents p
    ∷ Refusal.BodyPlace p
    ∷ Refusal.BodySize p
    ∷ Refusal.RecordBytes p
    ∷ Refusal.OutputShort p
    ∷ Refusal.NoHypertaskWindow p
    ∷ []

abbrev pub lines_of : List Refusal → List Line
lines_of [] = []
lines_of (r ∷ rs) = line_of r ∷ lines_of rs

pub table_right : (p : ℕ) → lines_of (cases p)
    ≡ line 1 p ∷ line 2 p ∷ line 3 p ∷ line 4 p ∷ line 5 p ∷ line 6 p ∷ line 7 p ∷ line 8 p ∷ line 9 p
    ∷ line 10 p ∷ line 11 p ∷ line 12 p ∷ line 13 p ∷ line 14 p ∷ line 15 p ∷ line 16 p ∷ line 17 p ∷ line 18 p
    ∷ line 19 p ∷ []
table_right p = refl
