use mathlib.Core.Path.{refl, ◌∙◌}
use Prim.Native.Nat.{◌*◌}
use native.Mathlib.Omega.{arith}
use Rattle.std.proofs.lemmas.Slice.{put_mid-paste}
use Rattle.least.specs.Lists.{flat}
use Rattle.least.proofs.Lists.{block_more}
use Rattle.analysis.specs.Inside.{three_at}
use Rattle.analysis.proofs.results.write.Goals as goal

pub loop-i-init : goal.loop-i-init
unfolding flat
loop-i-init c = (refl, refl)

pub loop-i-preserved : goal.loop-i-preserved
loop-i-preserved c =
    let l = c.loop-i in
    let f = three_at c.args.found.now in (
      refl,
      put_mid-paste (3 * l.i) _ l.lent _ (f l.i) 3 c.copy_from_slice.ensures.after (omega arith) refl
          ∙ block_more f 3 (λ k. refl) c.args.lent.now l.lent l.i l.invariant.1,
    )
