use mathlib.Core.Path.{refl, ◌∙◌}
use native.Mathlib.Omega.{arith}
use borrow.Author.Rules.{rules}
use Rattle.equations.specs.Table.{K}
use Rattle.equations.specs.Hypertask.{B}
use Rattle.analysis.proofs.Ranges.{max_is}
use Rattle.analysis.proofs.table.Task.blocking.Goals as goal

pub returns : goal.returns
unfolding B
returns c =
    let k = K c.args.self.now.table.now in
    c.unwrap_or.ensures
    ∙ max_is _ _ _ _ k _ _ (omega arith) (λ x. refl) (λ x y q m. search rules) _ c.map.ensures.source c.map.ensures.closure c.max.ensures.ran
