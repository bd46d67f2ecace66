use mathlib.Core.Path.{refl, ◌∙◌}
use native.Mathlib.Omega.{arith}
use Rattle.least.specs.Lists.{flat}
use Rattle.export.specs.Ticks.{machine_after}
use Rattle.export.proofs.AnswerBytes.{tick_some, tick_is, machine_more, answer_more}
use Rattle.export.proofs.ticks.take.Goals as goal

pub loop-i-init : goal.loop-i-init
unfolding machine_after flat
loop-i-init c = (refl, refl)

pub unwrap-t-requires : goal.unwrap-t-requires
unwrap-t-requires c = tick_some c.args.records.now c.loop-i.i _ c.«record».ensures (omega arith)

pub loop-i-preserved : goal.loop-i-preserved
loop-i-preserved c =
    let rs = c.args.records.now in
    let l = c.loop-i in
    let t = tick_is rs l.i _ c.unwrap-t.result c.«record».ensures (omega arith) c.unwrap-t.ensures in
    let s = c.step-s in (
      machine_more c.args.m rs l.i l.m c.unwrap-t.result s.result l.invariant.0 t s.ensures,
      answer_more c.args.m rs l.i l.m c.unwrap-t.result s.result c.args.answers.now l.answers _ l.invariant.0 t s.ensures l.invariant.1
          (c.copy_from_slice.ensures.after ∙ c.answer_bytes.ensures),
    )
