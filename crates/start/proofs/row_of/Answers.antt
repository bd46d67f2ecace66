use mathlib.Core.Path.{ap}
use Prim.Native.Nat.{ℕ}
use Rattle.equations.specs.Table.{T, D, C, K}
use Rattle.machine.specs.declared.Stage.{Stage}
use Rattle.start.specs.Start.{row_of}
use Rattle.start.proofs.row_of.Goals as goal

pub returns : goal.returns
unfolding row_of
returns c =
    let s = c.args.table.now in
    let j = c.args.j in
    rw c.no_row.ensures
    (ap (λ (x : ℕ). record { t = T s j; d = D s j; c = C s j; k = K s j; e = x; stage = Stage.Never }) (c.requires.0.offsets j c.requires.1))
