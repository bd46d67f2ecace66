-- The worked cases of the C interface come out as they say, each by computing. Assumes nothing.
use mathlib.Core.Path.{refl}
use Rattle.least.specs.Search.{first_where}
use Rattle.least.specs.Sums.{up, sum, largest}
use Rattle.least.specs.Lists.{list_of, flat}
use Rattle.equations.specs.Hypertask.{B, demand, active_side, active_period, releases, start_demand, start_side, start, job_response, worst, response, E}
use Rattle.equations.specs.Guest.{begun_by_hypertask, begun_by_guest, bound, below, F, window_side, WA, WE, guest}
use Rattle.equations.specs.Analysis.{table_check, row_by_row, hypertask_check, guest_check, solved}
use Rattle.machine.specs.Rows.{age, first_from, map_from, every, how_many}
use Rattle.machine.specs.WellFormed.{fields_fit, stage_fits, is_blank, well_formed}
use Rattle.machine.specs.TickRule.{verdict, chosen, turned, taken, step_of}
use Rattle.machine.specs.Fresh.{fresh_rows, fresh_at}
use Rattle.start.specs.Start.{row_of, start_answer, start_of}
use Rattle.plan.specs.Numbers.{number_at}
use Rattle.plan.specs.PlanFile.{sections_from, sections_of, body_of, wrong_kind, start_at, wrong_record, first_wrong_record, asked, first_entry}
use Rattle.plan.specs.PlanFile.{entries_refusal, read_refusal, part_of}
use Rattle.export.specs.Start.{start_says, state_started}
use Rattle.export.specs.State.{state_of, row_in, machine_in, stray, unreadable, readable}
use Rattle.export.specs.Files.{to_front}
use Rattle.export.specs.Step.{step_refusal}
use Rattle.export.specs.Ticks.{machine_after, answer_to, ticks_taken}
use Rattle.export_laws.specs.Cases.{AnswersRight, StatesRight, FunctionsRight, StepsRight}

pub answers_right : AnswersRight
answers_right = record { guest = refl; guest_has_output = refl; budget_used = refl; hypertask = refl; nobody = refl; refusal = refl }

pub states_right : StatesRight
unfolding first_where list_of flat state_of row_in machine_in stray unreadable readable
states_right =
    record {
      to_numbers = refl;
      from_numbers = refl;
      read = refl;
      too_few = refl;
      wide_t = refl;
      wide_d = refl;
      wide_c = refl;
      wide_k = refl;
      wide_e = refl;
      largest_field = refl;
      no_stage = refl;
      never_arrival = refl;
      never_ticks = refl;
      closed_ticks = refl;
      past_the_last = refl;
      very_last = refl;
      guest_arrival = refl;
      guest_ticks = refl;
      hyper_arrival = refl;
      hyper_ticks = (refl, refl);
      closed_arrival = (refl, refl);
    }

pub functions_right : FunctionsRight
unfolding first_where up sum largest list_of flat B demand active_side active_period releases start_demand start_side start job_response worst response E
    begun_by_hypertask begun_by_guest bound below F window_side WA WE guest table_check row_by_row hypertask_check guest_check solved
    age first_from map_from every how_many fields_fit stage_fits is_blank well_formed verdict chosen turned taken step_of fresh_rows fresh_at
    row_of start_answer start_of number_at sections_from sections_of body_of wrong_kind start_at wrong_record first_wrong_record asked first_entry
    entries_refusal read_refusal part_of start_says state_started state_of row_in machine_in stray unreadable readable to_front machine_after answer_to
    ticks_taken
functions_right =
    record {
      accepted = (refl, refl);
      refused_7 = (refl, refl);
      refused_19 = (refl, refl);
      starts = (refl, refl);
      started = refl;
      short_start = (refl, refl);
      not_started = refl;
      ticks = refl;
      tick_state = refl;
      tick_answers = refl;
      unread = (refl, refl);
      unread_none = refl;
      unread_state = refl;
      unread_answers = refl;
      file_accepted = (refl, refl);
      file_refused = (refl, refl);
      table_part = refl;
      script_part = refl;
      no_parts = (refl, refl);
      fits = refl;
      fits_not = refl;
    }

pub steps_right : StepsRight
unfolding first_where list_of flat age first_from map_from every how_many fields_fit stage_fits is_blank well_formed verdict chosen turned taken step_of
    state_of row_in machine_in stray unreadable readable step_refusal
steps_right =
    record {
      arrival = refl;
      arrival_state = refl;
      arrival_answer = refl;
      output = refl;
      output_state = refl;
      output_answer = refl;
      early = refl;
      early_state = refl;
      early_answer = refl;
      silent_state = refl;
      silent_answer = refl;
      wrong_early = (refl, refl);
      short_answer = (refl, refl);
      unread = (refl, refl);
      clock_at_end = refl;
      no_task = refl;
      came_too_soon = refl;
      came_while_hyper = refl;
      unread_left = (refl, refl);
      too_soon_left = (refl, refl);
    }
