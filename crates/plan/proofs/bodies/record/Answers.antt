use Rattle.std.proofs.Common.{rules}
use Rattle.plan.proofs.Values.{record_got}
use Rattle.plan.proofs.bodies.record.Goals as goal

pub returns : goal.returns
returns c = record_got c.args.script.now c.args.i c.get.result c.map.result (search rules) (search rules)
