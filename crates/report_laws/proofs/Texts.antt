-- The worked texts are what the definition gives, each by computing. Assumes nothing.
use mathlib.Core.Path.{refl}
use mathlib.Core.List.{List, [], ◌∷◌, ◌++◌}
use Rattle.least.specs.Search.{first_where}
use Rattle.least.specs.Sums.{up, sum, largest}
use Rattle.least.specs.Lists.{list_of, flat}
use Rattle.equations.specs.Hypertask.{B, demand, active_side, active_period, releases, start_demand, start_side, start, job_response, worst, response, E}
use Rattle.equations.specs.Guest.{begun_by_hypertask, begun_by_guest, bound, below, F, window_side, WA, WE, guest}
use Rattle.equations.specs.Analysis.{table_check, row_by_row, hypertask_check, guest_check, solved}
use Rattle.machine.specs.Rows.{age, first_from, map_from, every, how_many}
use Rattle.machine.specs.WellFormed.{fields_fit, stage_fits, is_blank, well_formed}
use Rattle.machine.specs.TickRule.{verdict, chosen, turned, taken, step_of}
use Rattle.machine.specs.Fresh.{fresh_rows, fresh_at}
use Rattle.start.specs.Start.{row_of, start_answer, start_of}
use Rattle.plan.specs.Numbers.{number_at, table_bytes}
use Rattle.plan.specs.PlanFile.{contents, bodies, file_of, sections_from, sections_of, body_of, wrong_kind, start_at, wrong_record, first_wrong_record, asked}
use Rattle.plan.specs.PlanFile.{first_entry, entries_refusal, read_refusal, part_of}
use Rattle.plan.specs.Writer.{plan_of, plan_file}
use Rattle.demands.specs.Runs.{after, onward}
use Rattle.demands.specs.Jobs.{latest, guest_outputs, hypertask_outputs, jobs_arrived, guest_outputs_of, hypertask_outputs_of, jobs_open}
use Rattle.text.specs.Put.{digits_in, digits_of, spaced}
use Rattle.report.specs.Report.{row_lines, ticks_from, task_lines, tick_lines, table_text, text_of}
use Rattle.report_laws.specs.Texts.{Case, Right, refused_plans, refused_tables, runs, cases}

right_both : (a b : List Case) → Right a → Right b → Right (a ++ b)
right_both [] b p q = q
right_both (c ∷ cs) b p q = (p.0, right_both cs b p.1 q)

pub texts_right : Right cases
unfolding first_where up sum largest list_of flat B demand active_side active_period releases start_demand start_side start job_response worst response E
    begun_by_hypertask begun_by_guest bound below F window_side WA WE guest table_check row_by_row hypertask_check guest_check solved
    age first_from map_from every how_many fields_fit stage_fits is_blank well_formed verdict chosen turned taken step_of fresh_rows fresh_at
    row_of start_answer start_of number_at table_bytes contents bodies file_of sections_from sections_of body_of wrong_kind start_at wrong_record
    first_wrong_record
    asked first_entry entries_refusal read_refusal part_of plan_of plan_file after onward latest guest_outputs hypertask_outputs jobs_arrived guest_outputs_of
    hypertask_outputs_of jobs_open digits_in digits_of spaced row_lines ticks_from task_lines tick_lines table_text text_of
texts_right =
    right_both refused_plans (refused_tables ++ runs) (refl, (refl, (refl, (refl, (refl, (refl, (refl, (refl, (refl, (refl, tt))))))))))
    (right_both refused_tables runs (refl, (refl, (refl, (refl, (refl, (refl, (refl, tt)))))))
    (refl, (refl, (refl, (refl, (refl, (refl, (refl, tt))))))))
