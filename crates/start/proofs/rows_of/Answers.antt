use mathlib.Core.Path.{ap, ◌∙◌}
use mathlib.Core.List.{List, ◌++◌}
use Prim.Native.Nat.{◌-◌}
use native.Mathlib.Omega.{arith}
use lib.ListN.{replicate, take, drop, set, length-take, length-set}
use Rattle.machine.specs.declared.Row.{Row}
use Rattle.machine.specs.Rows.{no_row}
use Rattle.start.specs.Start.{rows_of}
use Rattle.start.proofs.Places.{few_rows, rows_none, rows_more, rows_all}
use Rattle.start.proofs.rows_of.Goals as goal

pub loop-j-init : goal.loop-j-init
loop-j-init c =
    let n = c.args.n in
    let few = few_rows c.args.table.now c.args.results.now n c.requires in (
      omega arith,
      omega (arith, length-take n (replicate 32 c.no_row-places.result)),
      ap (λ (r : Row). take n (replicate 32 r)) c.no_row-places.ensures ∙ rows_none c.args.table.now n few,
    )

pub loop-j-preserved : goal.loop-j-preserved
loop-j-preserved c =
    let s = c.args.table.now in
    let n = c.args.n in
    let l = c.loop-j in
    let few = few_rows s c.args.results.now n c.requires in (
      omega arith,
      simp length-set l.invariant.1,
      ap (λ (x : List Row). set x l.j c.row_of.result) l.invariant.2
          ∙ ap (λ (r : Row). set (rows_of s l.j ++ replicate (n - l.j) no_row) l.j r) c.row_of.ensures
          ∙ rows_more s n few l.j (omega arith),
    )

pub returns : goal.returns
returns c =
    let s = c.args.table.now in
    let n = c.args.n in
    let few = few_rows s c.args.results.now n c.requires in
    ap (λ (r : Row). c.loop-j.place-items ++ drop n (replicate 32 r)) c.no_row-places.ensures
    ∙ ap (λ (x : List Row). x ++ drop n (replicate 32 no_row)) c.loop-j.invariant.2
    ∙ rows_all s n few c.loop-j.j (omega arith)
