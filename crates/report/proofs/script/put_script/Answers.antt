use Rattle.text.proofs.Laws.{puts_then}
use Rattle.report.specs.Report.{ticks_of}
use Rattle.report.proofs.Counts.{total_lines}
use Rattle.report.proofs.script.put_script.Goals as goal

pub returns-clause-puts : goal.returns-clause-puts
returns-clause-puts c =
    let q = c.put_ticks-counts in
    let t = total_lines c.args.machine c.args.n c.requires.0 c.requires.1 (ticks_of c.args.script.bytes.now) q.result q.ensures.counts in
    puts_then q.ensures.puts (rw (← t) c.put_totals.ensures.puts)
