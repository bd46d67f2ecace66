use Prim.Native.Nat.{◌+◌, ◌*◌, ◌≤◌}
use Rattle.least.specs.Lists.{flat}
use Rattle.text.specs.Put.{Puts}
use Rattle.report.specs.Inside.{total_line}
use Rattle.report.proofs.totals.Counts.put_totals.Given as goal

abbrev pub invariant-loop-i : goal.invariant-loop-i
invariant-loop-i l = record {
  puts : Puts l.initial.text (flat (total_line l.self) l.i) l.text;
  short : l.text.at ≤ l.initial.text.at + 110 * l.i;
}
