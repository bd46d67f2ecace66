-- Checks one after the other: the first that fails gives its refusal.
-- Assumes nothing.
use Rattle.std.specs.Prelude.{Bool, true, false, ℕ, Option, None, Some, Ok, Err}
use Rattle.refusals.specs.declared.Refusal.{Refusal}
use Rattle.plan.specs.Answers.{Answer}

-- the refusal where the test passes, or what comes next
abbrev pub refuse_if : Bool → Refusal → Option Refusal → Option Refusal
refuse_if true r next = Some r
refuse_if false r next = next

-- the refusal at the first wrong place, if there is one, or what comes next
abbrev pub refuse_at : (ℕ → Refusal) → Option ℕ → Option Refusal → Option Refusal
refuse_at r (Some k) next = Some (r k)
refuse_at r None next = next

-- as the code answers them
abbrev pub answer_of : Option Refusal → Answer
answer_of (Some r) = Err r
answer_of None = (Ok tt)
