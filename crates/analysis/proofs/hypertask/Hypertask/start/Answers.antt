use mathlib.Core.Path.{◌∙◌}
use Rattle.analysis.proofs.Searched.{start_is}
use Rattle.analysis.proofs.hypertask.Hypertask.start.Goals as goal

pub returns : goal.returns
returns c = c.least.ensures ∙ start_is _ _ c.args.before _ _ (cc) (cc)
