use Rattle.machine.proofs.Pass.{pass_begins, reads, answered, not_answered, pass_ends, pass_on, too_many, table_unfit, rest_unfit, shows, all_fit}
use Rattle.machine.proofs.Searches.{every_law}
use Rattle.machine.specs.Rows.{every}
use Rattle.machine.specs.WellFormed.{is_blank}
use Rattle.std.proofs.lemmas.Iterator.{YieldsList-from_slice}
use Rattle.std.proofs.lemmas.Iterator.Search.{all_from_yields_List}
use Rattle.std.proofs.lemmas.Result.{err_from_is_err_and}
use borrow.Author.Rules.{rules}
use borrow.Author.Tests.{tests}
use lib.ListN.{length, drop}
use mathlib.Core.Path.{◌≡◌, ◌∙◌, sym}
use mathlib.Core.Bool.{true, false}
use Prim.Native.Nat.{◌<◌}
use native.Mathlib.Omega.{arith}
use Rattle.machine.proofs.Seen.over.Goals as goal

pub returns-then-count-gt-PLACES-clause-answer : goal.returns-then-count-gt-PLACES-clause-answer
returns-then-count-gt-PLACES-clause-answer c = rw (too_many c.args.clock c.args.count c.args.rows.now c.if-count-gt-PLACES.true)

pub loop-i-init : goal.loop-i-init
loop-i-init c =
    let s = c.default-seen.ensures in
    pass_begins _ _ _ _ (s.0, s.1.0, s.1.1.0, s.1.1.1.0, s.1.1.1.1)

pub returns-in_err-see-clause-answer : goal.returns-in_err-see-clause-answer
returns-in_err-see-clause-answer c =
    let all = c.split_at_mut-table.result.0.now in
    let lt : c.loop-i.i < length all = omega arith in
    let same = reads c.args.clock c.args.mask all c.loop-i.i c.loop-i.seen c.loop-i.table lt c.loop-i.invariant in
    let q = not_answered _ _ _ (rw same at c.in_err-see.ensures.answer) in
    let p = err_from_is_err_and c.from_residual.result c.from_residual.ensures.1 in
    let ends = pass_ends c.args.clock c.args.mask all c.loop-i.i c.loop-i.seen c.loop-i.table lt c.loop-i.invariant q.0 in
    let unfit = table_unfit c.args.clock c.args.count c.args.rows.now (rw c.split_at_mut-table.ensures.front at ends) in
    rw (p.1, p.2, q.1, unfit)

pub loop-i-preserved : goal.loop-i-preserved
loop-i-preserved c =
    let all = c.split_at_mut-table.result.0.now in
    let lt : c.loop-i.i < length all = omega arith in
    let same = reads c.args.clock c.args.mask all c.loop-i.i c.loop-i.seen c.loop-i.table lt c.loop-i.invariant in
    let q = answered _ _ _ (rw same at c.in_ok-see.ensures.answer) in
    rw (c.in_ok-see.ensures.turned, c.in_ok-see.ensures.seen, c.named.ensures, same)
    (pass_on c.args.clock c.args.mask all c.loop-i.i c.loop-i.seen c.loop-i.table lt c.loop-i.invariant q.0)

pub returns-then-all-clause-answer : goal.returns-then-all-clause-answer
returns-then-all-clause-answer c =
    let a = c.args in
    let ran = all_from_yields_List is_blank _ _ _ c.all.ensures.ran
    (YieldsList-from_slice c.split_at_mut-table.result.1.now cc) (λ x b q k. search (rules, tests)) in
    let blank : every is_blank (drop a.count a.rows.now) ≡ true =
    every_law is_blank (drop a.count a.rows.now) ∙ sym (rw c.split_at_mut-table.ensures.back at ran) ∙ c.if-all.true in
    let p = rw c.split_at_mut-table.ensures.front at c.loop-i.invariant in
    let end = rw c.split_at_mut-table.ensures.front at c.loop-i-test.false in
    rw (
      all_fit a.clock a.count a.rows.now a.mask c.loop-i.i c.loop-i.seen c.loop-i.table end p c.if-count-gt-PLACES.false blank,
      ← shows a.clock a.count a.rows.now a.mask c.loop-i.i c.loop-i.seen c.loop-i.table end p,
    )

pub returns-else-all-clause-answer : goal.returns-else-all-clause-answer
returns-else-all-clause-answer c =
    let a = c.args in
    let ran = all_from_yields_List is_blank _ _ _ c.all.ensures.ran
    (YieldsList-from_slice c.split_at_mut-table.result.1.now cc) (λ x b q k. search (rules, tests)) in
    let blank : every is_blank (drop a.count a.rows.now) ≡ false =
    every_law is_blank (drop a.count a.rows.now) ∙ sym (rw c.split_at_mut-table.ensures.back at ran) ∙ c.if-all.false in
    rw (rest_unfit a.clock a.count a.rows.now blank)
