-- The entry that was found gives the part; where none was found the body is empty. Assumes nothing.
use mathlib.Core.Path.{◌≡◌, refl, sym, ap, ◌∙◌}
use Prim.Native.Nat.{ℕ, ◌+◌, ◌-◌, ◌<◌}
use native.Mathlib.Omega.{arith}
use mathlib.Core.List.{List}
use lib.ListN.{length, take, drop}
use Rattle.std.proofs.Common.{rules}
use borrow.Author.Tests.{tests}
use Rattle.std.specs.Prelude.{None}
use Rattle.plan.specs.declared.reader.Entry.{Entry}
use Rattle.plan.specs.PlanFile.{count, entry_at, asked, first_entry, OfKind}
use Rattle.plan.specs.Inside.{number_of}
use Rattle.plan.proofs.Finds.{first_of_find}
use Rattle.plan.proofs.Entries.{body_is, entry_in}
use Rattle.plan.proofs.reader.Plan.body.Goals.{After-find, In-Some}
use Rattle.plan.proofs.reader.Plan.body.Goals as goal

found : (c : After-find) → first_entry (OfKind (number_of c.args.kind)) c.args.self.now ≡ c.find.result
unfolding first_entry asked
found c =
    rw (← c.self.view_is)
    (sym
    (first_of_find (asked (OfKind (number_of c.args.kind)) c.self.inside.contents) _ _ _ _ _ refl c.count.ensures.value c.find.ensures.ran
    (λ x b q k. search (rules, tests))))

pub returns-in_default : goal.returns-in_default
returns-in_default c = sym (body_is c.args.self.now _ None (found (goal.at.returns-in_default c).After-find ∙ c.in_default.is))

there : (c : In-Some) → c.in-Some.i < count c.self.inside.contents
there c = rw c.self.view_is (entry_in _ _ _ (found (goal.at.entry-e-requires c).After-find ∙ c.in-Some.is))

pub entry-e-requires : goal.entry-e-requires
entry-e-requires c = there c

pub slice_bounds-result-end-2 : goal.slice_bounds-result-end-2
slice_bounds-result-end-2 c =
    let i = there (goal.at.slice_bounds-result-end-2 c).In-Some in
    omega (arith, c.self.invariant.within c.in-Some.i i, ap (λ (e : Entry). e.offset + e.length) c.entry-e.ensures, ap length c.contents.view_is)

pub returns : goal.returns
returns c =
    let e = c.entry-e.result in
    let z : c.end.result - e.offset ≡ e.length = omega arith in
    ap (λ (n : ℕ). take n (drop e.offset c.contents.inside.file.now)) z
    ∙ ap (λ (f : List ℕ). take e.length (drop e.offset f)) (c.contents.view_is ∙ c.self.view_is)
    ∙ ap (λ (x : Entry). take x.length (drop x.offset c.args.self.now)) (c.entry-e.ensures ∙ ap (λ (f : List ℕ). entry_at f c.in-Some.i) c.self.view_is)
    ∙ sym (body_is c.args.self.now _ _ (found (goal.at.returns c).After-find ∙ c.in-Some.is))
