-- Each way out is one law of what the function promises; each turn writes the number of its piece. Assumes nothing.
use mathlib.Core.Path.{◌≡◌, refl, sym, ap, ◌∙◌}
use mathlib.Core.List.{List, [], ◌++◌}
use Prim.Native.Nat.{ℕ, ◌*◌, ◌/◌, ◌%◌}
use native.Mathlib.Omega.{arith}
use borrow.Author.Tests.{eqb-true, eqb-false}
use lib.ListN.{length, get_or, drop, set}
use Rattle.std.specs.Int.{w32, from_le_bytes}
use Rattle.least.specs.Lists.{list_of}
use Rattle.plan.specs.Numbers.{number_at, numbers_in}
use Rattle.plan.proofs.Chunks.{number_of_piece}
use Rattle.plan.proofs.Values.{numbers_step, not_in_fours, too_short, all_taken}
use Rattle.plan.proofs.bodies.table_of.Goals.{Else-not-is_empty}
use Rattle.plan.proofs.bodies.table_of.Goals as goal

pub returns-then-not-is_empty : goal.returns-then-not-is_empty
returns-then-not-is_empty c =
    not_in_fours c.args.rows.now c.args.table.now
    (λ e. eqb-false _ 0 (sym c.is_empty.ensures ∙ c.if-not-is_empty.true) (c.as_chunks.ensures.back_len ∙ e))

fours : (c : Else-not-is_empty) → length c.args.rows.now % 4 ≡ 0
fours c = sym c.as_chunks.ensures.back_len ∙ eqb-true _ 0 (sym c.is_empty.ensures ∙ c.if-not-is_empty.false)

pub returns-then-table-numbers : goal.returns-then-table-numbers
returns-then-table-numbers c =
    too_short c.args.rows.now c.args.table.now _ c.as_chunks.ensures.front_len (fours (goal.at.returns-then-table-numbers c).Else-not-is_empty)
    c.if-table-numbers.true

pub loop-i-init : goal.loop-i-init
unfolding list_of
loop-i-init c = refl

pub loop-i-preserved : goal.loop-i-preserved
loop-i-preserved c =
    let rows = c.args.rows.now in
    let n = length rows / 4 in
    let i = c.loop-i.i in
    let x : c.from_le_bytes.result ≡ number_at rows (4 * i) =
    c.from_le_bytes.ensures
    ∙ ap (λ (l : List (List ℕ)). from_le_bytes w32 (get_or l i [])) c.as_chunks.ensures.front
    ∙ number_of_piece rows n i [] (omega (arith, c.as_chunks.ensures.front_len)) in
    ap (λ (l : List ℕ). set l i c.from_le_bytes.result) c.loop-i.invariant
    ∙ ap (set (numbers_in rows i ++ drop i c.args.table.now) i) x
    ∙ numbers_step rows c.args.table.now i (omega arith)

pub returns : goal.returns
returns c =
    let all : c.loop-i.i ≡ length c.as_chunks.result.0.now = omega arith in
    all_taken c.args.rows.now c.args.table.now _ c.as_chunks.ensures.front_len (fours (goal.at.returns c).Else-not-is_empty) c.loop-i.table
    c.if-table-numbers.false
    (c.loop-i.invariant ∙ ap (λ (n : ℕ). numbers_in c.args.rows.now n ++ drop n c.args.table.now) all)
