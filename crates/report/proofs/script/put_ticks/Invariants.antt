use Prim.Native.Nat.{◌+◌, ◌*◌, ◌/◌, ◌≤◌}
use mathlib.Core.Path.{◌≡◌}
use mathlib.Core.List.{[]}
use lib.ListN.{length, drop}
use Rattle.plan.specs.Bodies.{records_of}
use Rattle.demands.specs.Runs.{run}
use Rattle.text.specs.Put.{Puts}
use Rattle.report.specs.Report.{ticks_from, tick_lines}
use Rattle.report.specs.Inside.{Totals}
use Rattle.report.proofs.Ticks.{so_far}
use Rattle.report.proofs.script.put_ticks.Given as goal

abbrev pub invariant-loop-tick : goal.invariant-loop-tick
invariant-loop-tick l =
    let s = l.fn.script.bytes.now in
    let i = length l.yielded in
    record {
      rest : l.tick-iterator ≡ records_of (drop (8 * i) s);
      fits : i ≤ length s / 8;
      here : (so_far l.fn.machine s i).machine ≡ l.machine;
      counted : Totals (so_far l.fn.machine s i).taken l.counts;
      puts : Puts l.initial.text (tick_lines (run l.fn.machine []) (ticks_from s 0 i)) l.text;
      short : l.text.at ≤ l.initial.text.at + 70 * i;
    }
