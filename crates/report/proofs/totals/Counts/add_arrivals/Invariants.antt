use Prim.Native.Nat.{ℕ, ◌≤◌, ◌<◌}
use mathlib.Core.Path.{◌≡◌}
use lib.ListN.{length, get_or}
use Rattle.report.specs.Inside.{no_count, with_arrival}
use Rattle.report.proofs.totals.Counts.add_arrivals.Given as goal

abbrev pub invariant-loop-i : goal.invariant-loop-i
invariant-loop-i l = record {
  long : length l.count-items ≡ 32;
  counted : (j : ℕ) → j < l.i → get_or l.count-items j no_count ≡ with_arrival l.mask j (get_or l.initial.count-items j no_count);
  left : (j : ℕ) → l.i ≤ j → get_or l.count-items j no_count ≡ get_or l.initial.count-items j no_count;
}
