-- The pieces of eight bytes are the records, and each is wrong where its record is. Assumes nothing.
use mathlib.Core.Path.{ap, ◌∙◌}
use mathlib.Core.List.{List, []}
use Prim.Native.Nat.{ℕ, ◌/◌}
use lib.ListN.{length}
use borrow.Author.Tests.{tests}
use Rattle.std.proofs.Common.{rules}
use Rattle.std.specs.Simd.{first_chunks}
use Rattle.plan.specs.PlanFile.{wrong_record, first_wrong_record}
use Rattle.plan.proofs.Chunks.{length_chunks, chunk_at, wrong_of_chunk}
use Rattle.plan.proofs.Finds.{first_of_position}
use Rattle.plan.proofs.bodies.first_wrong_record.Goals as goal

pub returns : goal.returns
unfolding first_wrong_record wrong_record
returns c =
    let s = c.args.script.now in
    let n = length s / 8 in
    first_of_position (λ (x : List ℕ). wrong_record x 0) (wrong_record s) (first_chunks 8 n s) [] n _ _ _ _ (cc) (length_chunks 8 n s)
    (λ k h. ap (λ (x : List ℕ). wrong_record x 0) (chunk_at 8 n s k [] h) ∙ wrong_of_chunk s k)
    c.position.ensures.ran
    (λ x b q k. search (rules, tests))
