-- Each question's answer is the refusal, or leads on to the next, in the order of the definition. Assumes nothing.
use mathlib.Core.Path.{◌≡◌, refl, sym, ◌∙◌}
use Prim.Native.Nat.{◌<◌}
use native.Mathlib.Omega.{arith}
use Rattle.std.proofs.Common.{rules}
use borrow.Author.Tests.{tests}
use Rattle.plan.specs.PlanFile.{count, asked, first_entry, entries_refusal, WrongKind, WrongPlace, wrong_kind}
use Rattle.plan.specs.Inside.{bodies_refusal}
use Rattle.plan.proofs.Finds.{first_of_find}
use Rattle.plan.proofs.Entries.{entry_in, placed}
use Rattle.plan.proofs.reader.Contents.placed.Goals.{After-find, After-find-2, In-Some, In-Some-find}
use Rattle.plan.proofs.reader.Contents.placed.Goals as goal

kind_found : (c : After-find) → first_entry WrongKind c.args.self ≡ c.find.result
unfolding first_entry asked wrong_kind
kind_found c =
    sym (first_of_find (asked WrongKind c.args.self) _ _ _ _ _ refl c.count-n.ensures.value c.find.ensures.ran (λ x b q k. search (rules, tests)))

place_found : (c : After-find-2) → first_entry WrongPlace c.args.self ≡ c.find-2.result
unfolding first_entry
place_found c =
    sym (first_of_find (asked WrongPlace c.args.self) _ _ _ _ _ refl c.count-n.ensures.value c.find-2.ensures.ran (λ x b q k. search (rules, tests)))

kind_within : (c : In-Some) → c.in-Some.i < count c.args.self
kind_within c = entry_in _ _ _ (kind_found (goal.at.returns-in-Some c).After-find ∙ c.in-Some.is)

place_within : (c : In-Some-find) → c.in-Some-find.i < count c.args.self
place_within c = entry_in _ _ _ (place_found (goal.at.returns-in-Some-find c).After-find-2 ∙ c.in-Some-find.is)

pub overflow_add-result : goal.overflow_add-result
overflow_add-result c = omega (arith, kind_within c, c.count-n.ensures.listed)

pub returns-in-Some : goal.returns-in-Some
unfolding entries_refusal
returns-in-Some c = rw (kind_found (goal.at.returns-in-Some c).After-find ∙ c.in-Some.is)

pub overflow_add-result-in-Some-find : goal.overflow_add-result-in-Some-find
overflow_add-result-in-Some-find c = omega (arith, place_within c, c.count-n.ensures.listed)

pub returns-in-Some-find : goal.returns-in-Some-find
unfolding entries_refusal
returns-in-Some-find c =
    let t = goal.at.returns-in-Some-find c in
    rw (kind_found t.After-find ∙ c.in_default.is, place_found t.After-find-2 ∙ c.in-Some-find.is)

pub invariant_of-result : goal.invariant_of-result
invariant_of-result c = placed _ c.count-n.ensures.listed (place_found (goal.at.invariant_of-result c).After-find-2 ∙ c.in_default-find.is)

pub returns : goal.returns
unfolding entries_refusal bodies_refusal
returns c =
    let t = goal.at.returns c in
    (refl, rw (kind_found t.After-find ∙ c.in_default.is, place_found t.After-find-2 ∙ c.in_default-find.is))
