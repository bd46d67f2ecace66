use Prim.Native.Nat.{ℕ}
use lib.Dec.{ltb}
use borrow.Author.Rules.{rules}
use borrow.Author.Tests.{tests}
use Rattle.equations.specs.Analysis.{either}
use Rattle.analysis.proofs.Positions.{first_number}
use Rattle.analysis.proofs.checks.bad_field.Goals as goal

pub returns : goal.returns
returns c =
    first_number _ _ _ c.args.table.now (λ (x : ℕ). either (ltb x 1) (ltb 1000000 x)) c.iter.ensures.rest c.iter.ensures.runs
    (λ a b q k. search (rules, tests)) _ c.position.ensures.runs
