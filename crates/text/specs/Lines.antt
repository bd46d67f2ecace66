-- The lines of a run as bytes: the end of "Cases" in document 01, in its order. Each ends with a newline, byte 10; a space is byte 32.
-- Assumes nothing.
use Rattle.std.specs.Prelude.{ℕ, Bool, true, false, List, [], ◌∷◌, ◌++◌, Ok, Err}
use Rattle.refusals.specs.declared.Refusal.{Refusal}
use Rattle.refusals.specs.Refusals.{number_of, place_of}
use Rattle.machine.specs.declared.Ran.{Ran}
use Rattle.machine.specs.declared.Mark.{Mark}
use Rattle.machine.specs.Answers.{Answer}
use Rattle.text.specs.Put.{digits_of, spaced}

-- a word, numbers each after a space, the newline
abbrev pub word_line : List ℕ → List ℕ → List ℕ
word_line word numbers = word ++ spaced numbers ++ (10 ∷ [])

-- ACCEPT and the number of tasks
abbrev pub accept_word : List ℕ
accept_word = 65 ∷ 67 ∷ 67 ∷ 69 ∷ 80 ∷ 84 ∷ []

abbrev pub accept_line : ℕ → List ℕ
accept_line tasks = word_line accept_word (tasks ∷ [])

-- "one line a task: task, T, D, C, K, R, E, G"
abbrev pub row_line : ℕ → List ℕ → List ℕ
row_line task numbers = digits_of task ++ spaced numbers ++ (10 ∷ [])

-- "who ran": I, or G or H and the task
abbrev pub who_of : Ran → List ℕ
who_of Ran.Nobody = 73 ∷ []
who_of (Ran.Guest task) = 71 ∷ digits_of task
who_of (Ran.Hypertask task) = 72 ∷ digits_of task

-- "O output, S budget used up without output, - neither"
abbrev pub mark_of : Mark → ℕ
mark_of Mark.Output = 79
mark_of Mark.BudgetUsedUp = 83
mark_of Mark.Nothing = 45

-- "1 if a signal was ignored"
abbrev pub ignored_of : Bool → ℕ
ignored_of true = 49
ignored_of false = 48

abbrev pub mark_and_ignored : Mark → Bool → List ℕ
mark_and_ignored mark ignored = 32 ∷ mark_of mark ∷ 32 ∷ ignored_of ignored ∷ 10 ∷ []

-- "REFUSE number place"
abbrev pub refuse_word : List ℕ
refuse_word = 82 ∷ 69 ∷ 70 ∷ 85 ∷ 83 ∷ 69 ∷ []

abbrev pub refuse_line : Refusal → List ℕ
refuse_line refusal = word_line refuse_word (number_of refusal ∷ place_of refusal ∷ [])

-- what a tick's line says after the clock: who ran, mark, ignored; or the refusal
abbrev pub answer_text : Answer → List ℕ
answer_text (Ok taken) = who_of taken.ran ++ mark_and_ignored taken.mark taken.ignored
answer_text (Err refusal) = refuse_line refusal

-- "clock, who ran, mark, 1 if a signal was ignored"; "a refused tick prints clock REFUSE number place"
abbrev pub tick_line : ℕ → Answer → List ℕ
tick_line clock answer = digits_of clock ++ (32 ∷ []) ++ answer_text answer

-- TASK and "task, jobs arrived, guest outputs, hypertask outputs, jobs still open"
abbrev pub task_word : List ℕ
task_word = 84 ∷ 65 ∷ 83 ∷ 75 ∷ []

abbrev pub task_line : ℕ → ℕ → ℕ → ℕ → ℕ → List ℕ
task_line task arrived guest_outputs hypertask_outputs remaining =
    word_line task_word (task ∷ arrived ∷ guest_outputs ∷ hypertask_outputs ∷ remaining ∷ [])
