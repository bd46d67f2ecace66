use mathlib.Core.List.{append_assoc}
use Rattle.text.proofs.Laws.{puts_then}
use Rattle.text.proofs.Text.put_row.Goals as goal

pub returns-clause-puts : goal.returns-clause-puts
returns-clause-puts c = rw append_assoc (puts_then c.put_number.ensures.puts c.end_line.ensures.puts)
