-- How long a line can be: each of its numbers is one that can be counted, so it has at most 20 digits. Assumes nothing.
use mathlib.Core.Path.{◌≡◌}
use mathlib.Core.List.{List, [], ◌∷◌, ◌++◌}
use Prim.Native.Nat.{ℕ, ◌+◌, ◌*◌, ◌≤◌}
use native.Mathlib.Omega.{arith}
use lib.ListN.{length, length-append}
use Rattle.std.specs.Prelude.{Ok, Err}
use Rattle.refusals.specs.declared.Refusal.{Refusal}
use Rattle.refusals.specs.Refusals.{number_of, place_of}
use Rattle.machine.specs.declared.Ran.{Ran}
use Rattle.machine.specs.Answers.{Answer}
use Rattle.text.specs.Put.{digits_of, spaced, last_place}
use Rattle.text.specs.Lines.{word_line, accept_word, accept_line, row_line, who_of, mark_and_ignored, refuse_word, refuse_line, answer_text, tick_line}
use Rattle.text.specs.Lines.{task_word, task_line}
use Rattle.text.proofs.Laws.{digits_length}

-- the numbers that a line, a task that ran or an answer tells can be counted
abbrev pub Counted : List ℕ → Type 0
Counted [] = Unit {0}
Counted (x ∷ xs) = (x ≤ last_place) × Counted xs

abbrev pub CountedRan : Ran → Type 0
CountedRan Ran.Nobody = Unit {0}
CountedRan (Ran.Guest task) = task ≤ last_place
CountedRan (Ran.Hypertask task) = task ≤ last_place

abbrev pub CountedAnswer : Answer → Type 0
CountedAnswer (Ok taken) = CountedRan taken.ran
CountedAnswer (Err refusal) = place_of refusal ≤ last_place

-- one piece after the other
pub both_short : (a b : List ℕ) {x y : ℕ} → length a ≤ x → length b ≤ y → length (a ++ b) ≤ x + y
both_short a b p q = rw length-append (omega arith)

digits_short : (x : ℕ) → x ≤ last_place → length (digits_of x) ≤ 20
digits_short x h = digits_length 19 x (omega arith)

spaced_short : (xs : List ℕ) → Counted xs → length (spaced xs) ≤ 21 * length xs
unfolding spaced
spaced_short [] h = omega arith
spaced_short (x ∷ xs) h = simp length-append (omega (arith, digits_short x h.0, spaced_short xs h.1))

word_short : (word numbers : List ℕ) → Counted numbers → length (word_line word numbers) ≤ length word + 21 * length numbers + 1
word_short word numbers h = simp length-append (omega (arith, spaced_short numbers h))

pub accept_short : (tasks : ℕ) → tasks ≤ last_place → length (accept_line tasks) ≤ 28
accept_short tasks h = word_short accept_word (tasks ∷ []) (h, tt)

pub row_short : (task : ℕ) (numbers : List ℕ) → Counted (task ∷ numbers) → length numbers ≡ 7 → length (row_line task numbers) ≤ 168
row_short task numbers h e = simp length-append (omega (arith, digits_short task h.0, spaced_short numbers h.1))

-- no refusal has a number above 19
number_small : (refusal : Refusal) → number_of refusal ≤ 19
number_small (Refusal.TableLength p) = omega arith
number_small (Refusal.FieldRange p) = omega arith
number_small (Refusal.DeadlineAbovePeriod p) = omega arith
number_small (Refusal.ResultsShort p) = omega arith
number_small (Refusal.NoActivePeriod p) = omega arith
number_small (Refusal.StartTooLate p) = omega arith
number_small (Refusal.NoGuestWindow p) = omega arith
number_small (Refusal.NotWellFormed p) = omega arith
number_small (Refusal.ClockAtEnd p) = omega arith
number_small (Refusal.NoSuchTask p) = omega arith
number_small (Refusal.ArrivalTooSoon p) = omega arith
number_small (Refusal.ArrivalWhileHyper p) = omega arith
number_small (Refusal.FileLength p) = omega arith
number_small (Refusal.Contents p) = omega arith
number_small (Refusal.BodyPlace p) = omega arith
number_small (Refusal.BodySize p) = omega arith
number_small (Refusal.RecordBytes p) = omega arith
number_small (Refusal.OutputShort p) = omega arith
number_small (Refusal.NoHypertaskWindow p) = omega arith

pub refuse_short : (refusal : Refusal) → place_of refusal ≤ last_place → length (refuse_line refusal) ≤ 49
refuse_short refusal h = word_short refuse_word (number_of refusal ∷ place_of refusal ∷ []) (omega (arith, number_small refusal), (h, tt))

who_short : (ran : Ran) → CountedRan ran → length (who_of ran) ≤ 21
who_short Ran.Nobody h = omega arith
who_short (Ran.Guest task) h = omega (arith, digits_short task h)
who_short (Ran.Hypertask task) h = omega (arith, digits_short task h)

answer_short : (answer : Answer) → CountedAnswer answer → length (answer_text answer) ≤ 49
answer_short (Ok taken) h =
    omega (arith, length-append (who_of taken.ran) (mark_and_ignored taken.mark taken.ignored), who_short taken.ran h)
answer_short (Err refusal) h = refuse_short refusal h

pub tick_short : (clock : ℕ) (answer : Answer) → clock ≤ last_place → CountedAnswer answer → length (tick_line clock answer) ≤ 70
tick_short clock answer h k = simp length-append (omega (arith, digits_short clock h, answer_short answer k))

pub task_short : (task arrived guests hypertasks remaining : ℕ) → Counted (task ∷ arrived ∷ guests ∷ hypertasks ∷ remaining ∷ [])
    → length (task_line task arrived guests hypertasks remaining) ≤ 110
task_short task arrived guests hypertasks remaining h = word_short task_word (task ∷ arrived ∷ guests ∷ hypertasks ∷ remaining ∷ []) h
