use Prim.Native.Nat.{◌+◌, ◌/◌, ◌≤◌}
use mathlib.Core.Path.{◌≡◌, refl, ap, ◌∙◌}
use mathlib.Core.List.{[], ◌∷◌, ◌++◌}
use native.Mathlib.Omega.{arith}
use lib.ListN.{length, length-append}
use Rattle.plan.specs.declared.Tick.{Tick}
use Rattle.plan.specs.Bodies.{tick_at}
use Rattle.demands.specs.Runs.{Run, onward}
use Rattle.text.proofs.Laws.{puts_none, puts_then}
use Rattle.report.specs.Report.{tick_of, ticks_from, tick_lines}
use Rattle.report.proofs.Counts.{totals_more, totals_low}
use Rattle.report.proofs.Plans.{next_record, no_record}
use Rattle.report.proofs.Ticks.{so_far, so_far_more, taken_few, next_answer, next_machine, lines_turn}
use Rattle.report.proofs.script.put_ticks.Goals as goal
use Rattle.report.proofs.script.put_ticks.Goals.{In-None}

pub loop-tick-init : goal.loop-tick-init
unfolding onward ticks_from tick_lines
loop-tick-init c =
    record {
      rest = c.into_iter-tick-iterator.ensures.into_iter_gives ∙ c.records-tick-items.ensures;
      fits = omega arith;
      here = refl;
      counted = c.new-counts.ensures;
      puts = puts_none (omega arith) (omega arith);
      short = omega arith;
    }

pub count-requires : goal.count-requires
count-requires c =
    let m = c.args.machine in
    let s = c.args.script.bytes.now in
    let i = length c.loop-tick.yielded in
    let few : length (so_far m s i).taken ≤ 65536 =
    omega (arith, taken_few m s i, c.loop-tick.invariant.fits, c.args.script.short) in
    totals_low _ c.loop-tick.counts c.loop-tick.invariant.counted few

pub loop-tick-preserved : goal.loop-tick-preserved
loop-tick-preserved c =
    let m = c.args.machine in
    let s = c.args.script.bytes.now in
    let i = length c.loop-tick.yielded in
    let more : length (c.loop-tick.yielded ++ (c.in-Some.tick ∷ [])) ≡ i + 1 = length-append c.loop-tick.yielded (c.in-Some.tick ∷ []) in
    let here = c.loop-tick.invariant.here in
    let r = so_far m s i in
    let next = next_record s i _ c.loop-tick.invariant.rest c.in-Some.tick c.next.new.self c.in-Some.ensures.steps in
    let read : c.in-Some.tick ≡ tick_at s i = next.0 in
    let stepped = c.step-stepped.ensures in
    rw more
    (record {
      rest = next.1;
      fits = next.2;
      here = ap (λ (x : Run). x.machine) (so_far_more m s i) ∙ next_machine r s i _ _ _ here read stepped;
      counted =
          rw (so_far_more m s i)
          (totals_more r (tick_of s i) _ _ c.loop-tick.invariant.counted _ _ (next_answer r s i _ _ _ here read stepped)
          (ap (λ (x : Tick). x.mask) read) c.count.ensures);
      puts = rw (← lines_turn r s i _ _ _ here read stepped m refl) (puts_then c.loop-tick.invariant.puts c.put_tick.ensures.puts);
      short = omega (arith, c.loop-tick.invariant.short, c.put_tick.ensures.short);
    })

all_taken : (c : In-None) → length c.loop-tick.yielded ≡ length c.args.script.bytes.now / 8
all_taken c = no_record c.args.script.bytes.now _ _ c.loop-tick.invariant.rest c.in-None.ensures.steps.0 c.loop-tick.invariant.fits

pub returns-clause-puts : goal.returns-clause-puts
returns-clause-puts c = rw (all_taken c) at c.loop-tick.invariant.puts

pub returns-clause-short : goal.returns-clause-short
returns-clause-short c = rw (all_taken c) at c.loop-tick.invariant.short

pub returns-clause-counts : goal.returns-clause-counts
returns-clause-counts c = rw (all_taken c) at c.loop-tick.invariant.counted
