-- Worked lines, each beside the text that document 01 prints or describes at the end of "Cases". Assumes nothing.
use Rattle.std.specs.Prelude.{ℕ, ◌≡◌, Bool, true, false, List, [], ◌∷◌, Ok, Err}
use Prim.Native.String.{String}
use Rattle.refusals.specs.declared.Refusal.{Refusal}
use Rattle.machine.specs.declared.Ran.{Ran}
use Rattle.machine.specs.declared.Mark.{Mark}
use Rattle.machine.specs.Answers.{Answer}
use Rattle.text.specs.Ascii.{ascii}
use Rattle.text.specs.Lines.{accept_line, row_line, refuse_line, tick_line, task_line}

-- a line as it is defined, and as it reads
pub record Case : Type 0 where
  pub line : List ℕ
  pub reads : String

abbrev pub case : List ℕ → String → Case
case l s = record { line = l; reads = s }

abbrev pub Right : List Case → Type 0
Right [] = Unit {0}
Right (c ∷ cs) = (c.line ≡ ascii c.reads) × Right cs

abbrev pub took : Ran → Mark → Bool → Answer
took ran mark ignored = Ok (record { ran = ran; mark = mark; ignored = ignored })

abbrev pub cases : List Case
cases =
    case (accept_line 1) "ACCEPT 1\n"
    ∷ case (accept_line 32) "ACCEPT 32\n"
    ∷ case (row_line 1 (10 ∷ 8 ∷ 3 ∷ 2 ∷ 2 ∷ 6 ∷ 3 ∷ [])) "1 10 8 3 2 2 6 3\n"
    ∷ case (row_line 32 (1000000 ∷ 999999 ∷ 100 ∷ 20 ∷ 9 ∷ 0 ∷ 705 ∷ [])) "32 1000000 999999 100 20 9 0 705\n"
    -- who ran: a guest, a hypertask, nobody; the marks; an ignored signal
    ∷ case (tick_line 0 (took (Ran.Guest 1) Mark.Nothing false)) "0 G1 - 0\n"
    ∷ case (tick_line 2 (took (Ran.Guest 1) Mark.BudgetUsedUp false)) "2 G1 S 0\n"
    ∷ case (tick_line 5 (took (Ran.Guest 32) Mark.Output false)) "5 G32 O 0\n"
    ∷ case (tick_line 3 (took Ran.Nobody Mark.Nothing true)) "3 I - 1\n"
    ∷ case (tick_line 6 (took (Ran.Hypertask 1) Mark.Nothing true)) "6 H1 - 1\n"
    ∷ case (tick_line 1099511627775 (took (Ran.Hypertask 20) Mark.Output false)) "1099511627775 H20 O 0\n"
    -- a refused tick, and a refused plan or table
    ∷ case (tick_line 9 (Err (Refusal.ArrivalTooSoon 1))) "9 REFUSE 11 1\n"
    ∷ case (refuse_line (Refusal.NoGuestWindow 1)) "REFUSE 7 1\n"
    ∷ case (refuse_line (Refusal.NoHypertaskWindow 2)) "REFUSE 19 2\n"
    ∷ case (refuse_line (Refusal.FileLength 65537)) "REFUSE 13 65537\n"
    -- task, jobs arrived, guest outputs, hypertask outputs, jobs still open
    ∷ case (task_line 1 1 0 1 0) "TASK 1 1 0 1 0\n"
    ∷ case (task_line 12 345 67 8 9) "TASK 12 345 67 8 9\n"
    ∷ []
