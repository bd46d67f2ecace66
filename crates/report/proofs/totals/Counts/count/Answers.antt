use Rattle.report.proofs.Counts.{output_low}
use Rattle.report.proofs.totals.Counts.count.Goals as goal

pub add_arrivals-requires : goal.add_arrivals-requires
add_arrivals-requires c = output_low c.in-Ok.taken c.args.self.now _ c.requires c.add_output.ensures
