use Rattle.machine.proofs.Mask.{past_nothing, past_law}
use Rattle.machine.specs.Rows.{in_mask}
use Rattle.std.specs.Prelude.{None}
use Rattle.std.proofs.lemmas.Iterator.{first_from_Range}
use borrow.Author.Rules.{rules}
use borrow.Author.Tests.{tests}
use lib.ListN.{length}
use mathlib.Core.Path.{◌≡◌}
use mathlib.Core.Bool.{true, false}
use Prim.Native.Nat.{◌/◌, ◌^◌}
use Rattle.machine.proofs.Machine.lowest_past.Goals as goal

pub returns-then-from-self-eq0 : goal.returns-then-from-self-eq0
returns-then-from-self-eq0 c =
    let m = c.args.self.now in
    let long : length m.rows ≡ 32 = search rules in
    let gone : c.args.mask / 2 ^ m.count ≡ 0 = rw c.from.ensures at c.if-from-self-eq0.true in
    past_law c.args.mask m.count m.rows None long (λ k le lt. past_nothing c.args.mask m.count gone k le)

pub returns : goal.returns
returns c =
    let m = c.args.self.now in
    let long : length m.rows ≡ 32 = search rules in
    past_law c.args.mask m.count m.rows c.find.result long
    (first_from_Range _ _ _ _ (λ k. in_mask c.args.mask k ≡ true) (λ k. in_mask c.args.mask k ≡ false) c.find.ensures.ran
    (λ x q k. search (rules, tests)) (λ x q k. search (rules, tests)))
