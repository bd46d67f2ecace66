use mathlib.Core.Path.{sym, ap, ◌∙◌}
use Rattle.start.specs.declared.Started.{Started}
use Rattle.report.specs.Report.{table_text}
use Rattle.report.proofs.Starts.{started_answer}
use Rattle.report.proofs.put_table.Goals as goal

pub put_accepted-requires : goal.put_accepted-requires
put_accepted-requires c =
    let st = c.start-started in
    (rw (sym (started_answer _ _ st.ensures) ∙ c.in-Ok.is), ap (λ (x : Started). x.machine) st.ensures)

pub returns-in-Err-clause-puts : goal.returns-in-Err-clause-puts
unfolding table_text
returns-in-Err-clause-puts c = rw (sym (started_answer _ _ c.start-started.ensures) ∙ c.in-Err.is) c.put_refusal.ensures.puts
