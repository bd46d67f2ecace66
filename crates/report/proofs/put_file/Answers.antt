use mathlib.Core.Path.{◌≡◌, sym, ap, ◌∙◌}
use native.Mathlib.Omega.{arith}
use lib.ListN.{length, replicate}
use lib.Seq.{length-take-le}
use Rattle.std.specs.Prelude.{None}
use Rattle.plan.specs.Numbers.{AllBelow}
use Rattle.plan.specs.Bodies.{Takes}
use Rattle.plan.specs.PlanFile.{read_refusal, part_of, rows_kind, script_kind}
use Rattle.plan.proofs.Tests.{answer_some, answer_none}
use Rattle.report.specs.Report.{text_of}
use Rattle.report.proofs.Plans.{taken_all, rows_few, taken_rows, part_short}
use Rattle.report.proofs.put_file.Goals as goal
use Rattle.report.proofs.put_file.Goals.{After-table_of}

pub returns-in-Err-clause-puts : goal.returns-in-Err-clause-puts
unfolding text_of
returns-in-Err-clause-puts c =
    rw (answer_some (read_refusal c.args.file.now) c.in-Err.refusal (sym c.in-Err.is ∙ c.check.ensures)) c.put_refusal.ensures.puts

accepted : (c : After-table_of) → read_refusal c.args.file.now ≡ None
accepted c = answer_none (read_refusal c.args.file.now) (sym c.in_default.is ∙ c.check.ensures)

below : (c : After-table_of) → AllBelow 256 c.args.file.now
below c j h = omega (arith, c.type_inv.file j)

taken : (c : After-table_of) → Takes (part_of rows_kind c.args.file.now) (replicate 128 0) c.table_of.result c.table_of.new.table
taken c = rw c.rows_of.ensures at c.table_of.ensures

pub unwrap-n-requires : goal.unwrap-n-requires
unwrap-n-requires c =
    let at = (goal.at.unwrap-n-requires c).After-table_of in
    rw ((taken at).answers ∙ taken_all c.args.file.now (accepted at) (below at))

pub slice_bounds-table-end : goal.slice_bounds-table-end
slice_bounds-table-end c =
    let at = (goal.at.slice_bounds-table-end c).After-table_of in
    omega (arith, c.table_of.auto.table, rows_few c.args.file.now (accepted at) (below at) _ _ (taken at) c.unwrap-n.result c.unwrap-n.ensures)

pub slice_bounds-put_table-end : goal.slice_bounds-put_table-end
slice_bounds-put_table-end c =
    let at = (goal.at.slice_bounds-put_table-end c).After-table_of in
    let few = rows_few c.args.file.now (accepted at) (below at) _ _ (taken at) c.unwrap-n.result c.unwrap-n.ensures in
    sym (length-take-le _ _ (omega (arith, c.table_of.auto.table, few)))

pub invariant_of-script : goal.invariant_of-script
invariant_of-script c =
    let at = (goal.at.invariant_of-script c).After-table_of in
    record { short = omega (arith, ap length c.script_of.ensures, part_short c.args.file.now (accepted at) script_kind) }

pub returns-clause-puts : goal.returns-clause-puts
unfolding text_of
returns-clause-puts c =
    let at = (goal.at.returns-clause-puts c).After-table_of in
    let rows = taken_rows c.args.file.now (accepted at) (below at) _ _ (taken at) c.unwrap-n.result c.unwrap-n.ensures in
    rw (accepted at, ← rows, ← c.script_of.ensures) c.put_table.ensures.puts
