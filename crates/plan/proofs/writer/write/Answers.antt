-- Refused, nothing was put; accepted, the whole file was, at the front. Assumes nothing.
use mathlib.Core.Path.{◌≡◌, sym, ◌∙◌}
use Rattle.std.specs.Prelude.{None}
use native.Mathlib.Omega.{arith}
use lib.ListN.{length}
use Rattle.plan.specs.Writer.{write_refusal}
use Rattle.plan.proofs.Written.{allowed, plan_length, file_written}
use Rattle.plan.proofs.Tests.{answer_none}
use Rattle.plan.proofs.writer.write.Goals.{In_ok-check_write}
use Rattle.plan.proofs.writer.write.Goals as goal

accepted : (c : In_ok-check_write) → write_refusal c.args.table.now c.args.script.now (length c.args.output.now) ≡ None
accepted c = answer_none _ (sym c.in_ok-check_write.was ∙ c.check_write.ensures)

pub put_file-requires : goal.put_file-requires
put_file-requires c =
    let a = c.args in
    let h = allowed a.table.now a.script.now (length a.output.now) (accepted (goal.at.put_file-requires c).In_ok-check_write) in
    let n = plan_length a.table.now a.script.now in
    record { short = omega (arith, h.total, n); room = omega (arith, h.fits, n) }

pub returns : goal.returns
returns c =
    let a = c.args in
    file_written a.table.now a.script.now a.output.now _ _ (accepted (goal.at.returns c).In_ok-check_write) c.put_file.ensures.len c.put_file.ensures.file
