use mathlib.Core.Path.{◌≡◌}
use Prim.Native.Nat.{◌*◌, ◌≤◌}
use Rattle.pace.specs.Pace.{machine_after, ticks_sum}
use Rattle.pace.proofs.run.Given as goal

abbrev pub invariant-loop : goal.invariant-loop
invariant-loop l =
    (l.s.machine ≡ machine_after l.fn.m l.mask l.signal l.early l.counter) × (l.total ≡ ticks_sum l.fn.m l.mask l.signal l.early l.counter)
    × (l.total ≤ 1020 * l.counter)
