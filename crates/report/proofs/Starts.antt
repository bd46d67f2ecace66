-- A machine that `start` gave has its jobs told by its counts. Assumes nothing.
use mathlib.Core.Path.{◌≡◌, ap}
use mathlib.Core.List.{List}
use Prim.Native.Nat.{ℕ}
use Rattle.std.specs.Prelude.{Ok}
use Rattle.machine.specs.declared.Machine.{Machine}
use Rattle.start.specs.Start.{start_answer, start_of}
use Rattle.start.specs.declared.Started.{Started}
use Rattle.demands.proofs.Counts.{counts}
use Rattle.report.specs.Inside.{Balanced}

pub balanced_start : (s : List ℕ) (n : ℕ) (m : Machine) → start_answer s ≡ Ok n → m ≡ (start_of s).machine → Balanced m n
balanced_start s n m a e = record { counts = λ ticks i h. rw e (counts s n a ticks i h) }

pub started_answer : (s : List ℕ) (st : Started) → st ≡ start_of s → st.answer ≡ start_answer s
unfolding start_of
started_answer s st e = ap (λ (x : Started). x.answer) e
