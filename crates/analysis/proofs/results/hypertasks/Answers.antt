use mathlib.Core.Path.{◌≡◌, subst}
use mathlib.Core.List.{List, ◌++◌}
use Prim.Native.Nat.{◌+◌, ◌<◌}
use native.Mathlib.Omega.{arith}
use lib.ListN.{length, length-set}
use Rattle.std.proofs.lemmas.List.{set-append_left}
use Rattle.std.specs.Prelude.{Ok}
use Rattle.equations.specs.Table.{rows}
use Rattle.equations.specs.Hypertask.{response}
use Rattle.equations.proofs.Checks.{rows_next}
use Rattle.analysis.specs.Inside.{Hypertasks}
use Rattle.analysis.specs.declared.results.Responses.{Responses}
use Rattle.analysis.proofs.Found.{hypertasks_more, filled}
use Rattle.analysis.proofs.results.hypertasks.Goals as goal

pub loop-i-preserved : goal.loop-i-preserved
loop-i-preserved c =
    let s = c.args.table.now in
    let l = c.loop-i in
    let found : response s l.i ≡ Ok c.in_ok-r.r = cc (c.in_ok-r.ensures) in
    let lt : l.i < length l.row-items = omega arith in (
      simp length-set l.invariant.0,
      rows_next _ _ l.i _ l.invariant.1 (omega arith) found,
      λ rest h. subst (λ (x : List Responses). Hypertasks s x (l.i + 1)) (set-append_left l.row-items rest l.i _ lt)
          (hypertasks_more s (l.row-items ++ rest) l.i (omega arith) _ _ (l.invariant.2 rest (simp length-set at h)) (cc) found),
    )

pub returns-clause-filled : goal.returns-clause-filled
returns-clause-filled c h =
    let l = c.loop-i in
    let e : l.i ≡ rows c.args.table.now = omega (arith, l.invariant.1.upto) in
    filled c.args.table.now l.row-items c.args.found.now c.rows.result l.i _ (omega arith) (omega arith) (omega arith) e l.invariant.2
