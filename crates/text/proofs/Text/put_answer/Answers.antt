use Rattle.text.proofs.Laws.{puts_then}
use Rattle.text.proofs.Text.put_answer.Goals as goal

pub returns-in-Ok-clause-puts : goal.returns-in-Ok-clause-puts
returns-in-Ok-clause-puts c = rw c.in-Ok.is (puts_then c.put_who.ensures.puts c.put_mark.ensures)
