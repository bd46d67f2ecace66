-- The contents, the rows and the script, one after the other, are the file. Assumes nothing.
use mathlib.Core.Path.{◌≡◌, sym, ap, ◌∙◌}
use native.Mathlib.Omega.{arith}
use lib.ListN.{length}
use lib.Seq.{sets}
use Rattle.std.proofs.Common.{rules}
use Rattle.plan.specs.Writer.{plan_file}
use Rattle.plan.proofs.Digits.{table_length}
use Rattle.plan.proofs.Written.{head_length, plan_bytes}
use Rattle.plan.proofs.Puts.{puts_then}
use Rattle.plan.proofs.writer.put_file.Goals as goal

pub put_table-requires : goal.put_table-requires
put_table-requires c =
    let t = c.args.table.now in
    let s = c.args.script.now in
    omega (arith, c.put_contents.ensures, head_length (length t) (length s))

pub put-requires : goal.put-requires
put-requires c =
    let t = c.args.table.now in
    let s = c.args.script.now in
    omega (arith, c.put_contents.ensures, c.put_table.ensures, head_length (length t) (length s), table_length t)

pub returns : goal.returns
returns c =
    let t = c.args.table.now in
    let s = c.args.script.now in
    let o = c.args.output.now in
    let whole = puts_then (puts_then c.put_contents.ensures c.put_table.ensures) c.put.ensures in
    let e : c.put.new.self.bytes.now ≡ sets o 0 (plan_file t s) = whole.bytes ∙ ap (sets o 0) (sym (plan_bytes t s)) in
    record {
      len = omega (arith, c.put_contents.ensures, c.put_table.ensures, c.put.ensures, head_length (length t) (length s), table_length t);
      file = search rules;
    }
