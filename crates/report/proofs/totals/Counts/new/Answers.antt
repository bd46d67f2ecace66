use borrow.Author.Rules.{rules}
use mathlib.Core.Path.{◌≡◌}
use Rattle.report.specs.Inside.{no_count}
use Rattle.report.proofs.Counts.{totals_none}
use Rattle.report.proofs.totals.Counts.new.Goals as goal

pub returns : goal.returns
returns c = let none : c.default.result ≡ no_count = search rules in totals_none _ none
