use Rattle.text.proofs.Laws.{puts_then}
use Rattle.text.proofs.Text.end_line.Goals as goal

pub returns-clause-puts : goal.returns-clause-puts
returns-clause-puts c = puts_then c.put_spaced.ensures.puts c.put_byte.ensures
