-- Two answers that meet the promise of `analyse` are equal, and so is all that they leave in the lent results.
-- Assumes nothing.
use mathlib.Core.Path.{◌≡◌, sym, ◌∙◌}
use mathlib.Core.List.{List}
use Prim.Native.Nat.{ℕ}
use Rattle.equations.specs.Analysis.{Analyses}
use Rattle.equations.specs.Answers.{Answer}

pub determined : (table lent : List ℕ) (a b : Answer) (x y : List ℕ) → Analyses table lent a x → Analyses table lent b y → (a ≡ b) × (x ≡ y)
determined table lent a b x y p q = (p.answers ∙ sym q.answers, p.leaves ∙ sym q.leaves)
