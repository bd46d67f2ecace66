use mathlib.Core.List.{List}
use Prim.Native.Nat.{ℕ}
use native.Mathlib.Nat.{add-zero}
use native.Mathlib.Omega.{arith}
use lib.Dec.{ltb}
use lib.ListN.{get_or}
use borrow.Author.Rules.{rules}
use borrow.Author.Tests.{tests}
use Rattle.std.specs.Slice.Iter.{chunks_exact_rest, chunks_exact_size}
use Rattle.equations.specs.Analysis.{bad_deadline}
use Rattle.analysis.proofs.Positions.{first_row}
use Rattle.analysis.proofs.checks.bad_deadline.Goals as goal

pub returns : goal.returns
returns c =
    let s = c.args.table.now in
    first_row chunks_exact_rest chunks_exact_size _ _ _ s (λ (row : List ℕ). ltb (get_or row 0 0) (get_or row 1 0)) (bad_deadline s)
    c.chunks_exact.ensures.rest c.chunks_exact.ensures.size c.chunks_exact.ensures.runs
    (λ k row h. rw (h 0 (omega arith), h 1 (omega arith), add-zero)) (λ a b q k. search (rules, tests)) _ c.position.ensures.runs
