use Prim.Native.Nat.{◌+◌, ◌*◌, ◌≤◌}
use lib.ListN.{length}
use Rattle.least.specs.Lists.{flat}
use Rattle.text.specs.Put.{Puts}
use Rattle.report.specs.Inside.{result_line}
use Rattle.report.proofs.rows.put_rows.Given as goal

abbrev pub invariant-loop-i : goal.invariant-loop-i
invariant-loop-i l = record {
  puts : Puts l.initial.text (flat (result_line l.fn.table l.fn.results) (length l.yielded)) l.text;
  short : l.text.at ≤ l.initial.text.at + 168 * length l.yielded;
}
