-- The worked starts come out as they say. P7's active period is settled by a law, as in the analysis; the others compute. Assumes nothing.
use mathlib.Core.Path.{◌≡◌, refl, ap}
use Rattle.std.specs.Prelude.{Err}
use Rattle.least.specs.Search.{first_where}
use Rattle.least.specs.Sums.{up, sum, largest}
use Rattle.least.specs.Lists.{list_of}
use Rattle.refusals.specs.declared.Refusal.TheVariants.{NoActivePeriod}
use Rattle.equations.specs.Hypertask.{B, demand, active_side, active_period, releases, start_demand, start_side, start, job_response, worst, response, E}
use Rattle.equations.specs.Guest.{begun_by_hypertask, begun_by_guest, bound, below, F, window_side, WA, WE, guest}
use Rattle.equations.specs.Analysis.{table_check, row_by_row, hypertask_check, guest_check, solved, says}
use Rattle.equations.proofs.Cases.{t7, p7_check}
use Rattle.machine.specs.Rows.{map_from}
use Rattle.machine.specs.Fresh.{fresh_rows, fresh_at}
use Rattle.start.specs.Start.{row_of, machine_by, start_answer, start_of}
use Rattle.demands.specs.Starts.{Right, cases}

p7 : start_answer t7 ≡ Err (NoActivePeriod 1)
unfolding first_where table_check solved start_answer
p7 = rw p7_check

p7_says : says (start_of t7).answer ≡ says (Err (NoActivePeriod 1))
unfolding start_of
p7_says = ap says p7

p7_machine : (start_of t7).machine ≡ machine_by t7 (Err (NoActivePeriod 1))
unfolding start_of
p7_machine = ap (machine_by t7) p7

pub starts_right : Right cases
unfolding first_where up sum largest B demand active_side active_period releases start_demand start_side start job_response worst response E
    begun_by_hypertask begun_by_guest bound below F window_side WA WE guest table_check row_by_row hypertask_check guest_check solved
    list_of map_from fresh_rows fresh_at row_of start_answer start_of Right
starts_right = (
  refl,
  refl,
  (
    refl,
    refl,
    (
      refl,
      refl,
      (
        refl,
        refl,
        (
          refl,
          refl,
          (
            refl,
            refl,
            (p7_says, p7_machine, (refl, refl, (refl, refl, (refl, refl, (refl, refl, (refl, refl, (refl, refl, (refl, refl, tt)))))))),
          ),
        ),
      ),
    ),
  ),
)
