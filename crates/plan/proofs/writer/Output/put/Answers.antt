-- Bytes copied over a part of the output of their length. Assumes nothing.
use mathlib.Core.Path.{refl, ap, ◌∙◌}
use Prim.Native.Nat.{◌+◌}
use lib.ListN.{length}
use lib.Seq.{length-sets}
use Rattle.plan.proofs.Bytes.{put_copied}
use Rattle.plan.proofs.writer.Output.put.Goals as goal

pub returns : goal.returns
returns c =
    let o = c.args.self.now in
    let t = c.args.bytes.now in
    let e = put_copied o.bytes.now o.at (o.at + length t) t _ c.copy_from_slice.ensures.after refl c.requires in
    record { same_output = refl; bytes = e; next = refl; room = ap length e ∙ length-sets o.bytes.now o.at t }
