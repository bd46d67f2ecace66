use native.Mathlib.Omega.{arith}
use Rattle.report.proofs.Whole.{written, written_at_once}
use Rattle.report.proofs.report.Goals as goal
use Rattle.report.proofs.report.Goals.{then-text-lt-LONGEST+else-text-needed, else-text-lt-LONGEST}

pub returns : goal.returns
returns c =
    let file = c.args.file.now in
    let lent = c.args.text.now in
    let p = c.put_text.ensures in
    elim c.if-text-lt-LONGEST.branch [
      | then-text-lt-LONGEST+else-text-needed w ↦
          written file lent _ _ p.puts p.short (omega (arith, w.needed-needed.ensures.0, w.if-text-needed.false))
      | else-text-lt-LONGEST w ↦ written_at_once file lent _ _ p.puts p.short w.if-text-lt-LONGEST.false
    ]
