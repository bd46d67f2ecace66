use native.Mathlib.Omega.{arith}
use Rattle.text.specs.Put.{spaced}
use Rattle.text.proofs.Laws.{puts_none, puts_then, spaced_turn}
use Rattle.text.proofs.Text.put_spaced.Goals as goal

pub loop-x-init : goal.loop-x-init
unfolding spaced
loop-x-init c = record { puts = puts_none (omega arith) (omega arith); short = omega arith }

pub loop-x-preserved : goal.loop-x-preserved
loop-x-preserved c = record {
  puts =
      rw (← spaced_turn c.args.numbers.now c.loop-x.x-index (omega arith))
      (puts_then c.loop-x.invariant.puts (puts_then c.put_byte.ensures c.put_number.ensures.puts));
  short = omega arith;
}
