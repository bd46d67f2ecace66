use Prim.Native.Nat.{◌%◌}
use mathlib.Core.Path.{◌≡◌}
use native.Mathlib.Omega.{arith}
use Rattle.text.proofs.Laws.{puts_then, digits_small, digits_more, digits_length}
use Rattle.text.proofs.Text.+put_number.Goals as goal
use Rattle.text.proofs.Text.+put_number.Goals.{then-x-ge10, else-x-ge10}

pub returns-clause-puts : goal.returns-clause-puts
returns-clause-puts t c =
    let x = c.args.x in
    elim c.if-x-ge10.branch [
      | then-x-ge10 w ↦ rw (← digits_more x w.if-x-ge10.true) (puts_then w.put_number.ensures.puts (rw w.self-is at c.put_byte.ensures))
      | else-x-ge10 w ↦
          let e : x % 10 ≡ x = omega (arith, w.if-x-ge10.false) in
          rw (digits_small x w.if-x-ge10.false, ← e) (rw w.self-is at c.put_byte.ensures)
    ]

pub returns-clause-short : goal.returns-clause-short
returns-clause-short t c = omega (arith, (returns-clause-puts t c).put.next, digits_length 19 c.args.x (omega arith))
