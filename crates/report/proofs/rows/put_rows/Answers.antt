use native.Mathlib.Omega.{arith}
use lib.ListN.{length}
use Rattle.least.specs.Lists.{flat}
use Rattle.std.proofs.lemmas.Iterator.{YieldsList-from_slice, YieldsList-from_zip}
use Rattle.std.proofs.lemmas.Iterator.Consumers.{YieldsList-at, YieldsList-from_enumerate, YieldsList-turn}
use Rattle.text.proofs.Laws.{puts_none, puts_then}
use Rattle.report.specs.Inside.{result_line}
use Rattle.report.proofs.Lines.{flat_turn}
use borrow.Author.Rules.{rules}
use Rattle.report.proofs.Chunks.{widened, line_turn}
use Rattle.std.proofs.lemmas.List.{length_push}
use Rattle.report.proofs.rows.put_rows.Goals as goal

pub loop-i-init : goal.loop-i-init
unfolding flat
loop-i-init c = record { puts = puts_none (omega arith) (omega arith); short = omega arith }

pub loop-i-preserved : goal.loop-i-preserved
loop-i-preserved c =
    let s = c.args.table.now in
    let x = c.args.results.now in
    let rows = c.as_chunks in
    let results = c.as_chunks-2 in
    let pairs = c.enumerate-i-items in
    let road =
    YieldsList-at c.into_iter-i-iterator.ensures.into_iter_gives
    (YieldsList-from_enumerate
    (YieldsList-at pairs.ensures.source
    (YieldsList-from_zip (YieldsList-at c.zip.ensures.first (YieldsList-from_slice _ c.iter.ensures.rest)) (YieldsList-from_slice _ c.zip.ensures.second.0)))
    pairs.ensures.count) in
    let t = YieldsList-turn road c.loop-i.yielded _ c.loop-i.yielded_by _ c.next.new.self _ c.in-Some.is c.next.ensures.steps in
    let numbers = widened _ (λ p q x y w. search rules) _ _ _ c.map.ensures.items in
    let line = line_turn s x _ _ rows.ensures.front results.ensures.front (length c.loop-i.yielded) c.in-Some.i _ _ t.0 t.1 _ numbers in
    record {
      puts = rw (length_push, ← flat_turn (result_line s x) (length c.loop-i.yielded), ← line) (puts_then c.loop-i.invariant.puts c.put_row.ensures.puts);
      short = rw length_push (omega arith);
    }
