use mathlib.Core.Path.{sym, ◌∙◌}
use native.Mathlib.Omega.{arith}
use Rattle.export.proofs.States.{place_told, before_none, before_more, read_not, read_all}
use Rattle.export.proofs.state.machine_in.Goals as goal

pub loop-i-init : goal.loop-i-init
loop-i-init c = before_none c.args.numbers.now c.no_row-rows.result c.no_row-rows.ensures

pub returns-in_err-rows : goal.returns-in_err-rows
returns-in_err-rows c =
    let l = c.args.numbers.now in
    let i = c.loop-i.i in
    let told = place_told l c.as_chunks.result.0.now i c.told-numbers (omega arith) c.as_chunks.ensures.front in
    c.from_residual.ensures
    ∙ read_not l i c.loop-i.rows (omega arith) (omega (arith, c.told-numbers)) c.loop-i.invariant (sym c.in_err-rows.was ∙ c.row_in.ensures ∙ told)

pub loop-i-preserved : goal.loop-i-preserved
loop-i-preserved c =
    let l = c.args.numbers.now in
    let i = c.loop-i.i in
    let told = place_told l c.as_chunks.result.0.now i c.told-numbers (omega arith) c.as_chunks.ensures.front in
    before_more l i c.loop-i.rows c.in_ok-rows.field-0 (omega arith) c.loop-i.invariant (sym c.in_ok-rows.was ∙ c.row_in.ensures ∙ told)

pub returns : goal.returns
returns c = read_all c.args.numbers.now c.loop-i.i c.loop-i.rows (omega arith) (omega (arith, c.told-numbers)) c.loop-i.invariant
