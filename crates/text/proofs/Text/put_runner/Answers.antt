use Rattle.text.proofs.Laws.{puts_then}
use Rattle.text.proofs.Text.put_runner.Goals as goal

pub returns-clause-puts : goal.returns-clause-puts
returns-clause-puts c = puts_then c.put_byte.ensures c.put_number.ensures.puts
