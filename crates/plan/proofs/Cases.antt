-- The definitions give the worked cases: each by computing.
-- Assumes nothing.
use mathlib.Core.Path.{◌≡◌, refl}
use Rattle.least.specs.Search.{first_where}
use Rattle.least.specs.Lists.{list_of}
use Rattle.plan.specs.Numbers.{number_at, table_bytes, table_of}
use Rattle.plan.specs.Bodies.{record_of, taken_of}
use Rattle.plan.specs.PlanFile.{contents, bodies, file_of, sections_from, sections_of, body_of, rows_kind, script_kind, start_at, wrong_kind, wrong_record}
use Rattle.plan.specs.PlanFile.{first_wrong_record, asked, first_entry, entries_refusal, read_refusal, part_of}
use Rattle.plan.specs.Writer.{plan_of, plan_file, write_refusal}
use Rattle.plan.specs.Cases.{table, script, rows_of_p2, plan_of_p2, reads, writes, ReadsRight, WritesRight, BodiesRight}

-- the file of P2's table and script, byte for byte, and its parts
pub file_of_p2 : plan_file table script ≡ plan_of_p2
unfolding table_bytes contents bodies file_of plan_of plan_file
file_of_p2 = refl

pub parts_of_p2 : (part_of rows_kind plan_of_p2 ≡ rows_of_p2) × (part_of script_kind plan_of_p2 ≡ script)
unfolding first_where number_at sections_from sections_of body_of start_at wrong_kind wrong_record first_wrong_record asked
    first_entry entries_refusal read_refusal part_of
parts_of_p2 = (refl, refl)

pub table_of_p2 : table_of rows_of_p2 ≡ table
unfolding number_at list_of
table_of_p2 = refl

pub reads_right : ReadsRight reads
unfolding first_where number_at sections_from sections_of body_of start_at wrong_kind wrong_record first_wrong_record asked
    first_entry entries_refusal read_refusal
reads_right = refl

pub writes_right : WritesRight writes
unfolding first_where table_bytes contents bodies file_of wrong_record first_wrong_record plan_of plan_file write_refusal
writes_right = (refl, (refl, (refl, (refl, (refl, (refl, (refl, (refl, (refl, tt)))))))))

pub bodies_right : BodiesRight
unfolding number_at list_of table_bytes record_of taken_of
bodies_right =
    record {
      first_record = refl;
      second_record = refl;
      no_third = refl;
      half = refl;
      mark_of_2 = refl;
      records_again = refl;
      numbers = refl;
      numbers_again = refl;
      enough = refl;
      enough_after = refl;
      too_few = refl;
      too_few_after = refl;
      not_in_fours = refl;
    }
