use Prim.Native.Nat.{◌+◌, ◌*◌, ◌≤◌}
use lib.ListN.{take}
use Rattle.text.specs.Put.{Puts, spaced}
use Rattle.text.proofs.Text.put_spaced.Given as goal

abbrev pub invariant-loop-x : goal.invariant-loop-x
invariant-loop-x l = record {
  puts : Puts l.initial.self (spaced (take l.x-index l.numbers)) l.self;
  short : l.self.at ≤ l.initial.self.at + 21 * l.x-index;
}
