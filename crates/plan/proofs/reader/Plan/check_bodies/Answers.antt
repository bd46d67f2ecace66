-- 16 over all entries, then 17 on the script. Assumes nothing.
use mathlib.Core.Path.{◌≡◌, refl, sym, ap, ◌∙◌}
use native.Mathlib.Omega.{arith}
use Rattle.std.proofs.Common.{rules}
use borrow.Author.Tests.{tests}
use Rattle.plan.specs.PlanFile.{count, asked, first_entry, first_wrong_record, sections_of, body_of, script_kind, WrongSize}
use Rattle.plan.specs.Inside.{bodies_refusal}
use Rattle.plan.proofs.Finds.{first_of_find}
use Rattle.plan.proofs.Entries.{entry_in}
use Rattle.plan.proofs.reader.Plan.check_bodies.Goals.{After-find, After-first_wrong_record}
use Rattle.plan.proofs.reader.Plan.check_bodies.Goals as goal

size_found : (c : After-find) → first_entry WrongSize c.args.self.now ≡ c.find.result
unfolding first_entry asked
size_found c =
    rw (← c.self.view_is)
    (sym (first_of_find (asked WrongSize c.self.inside.contents) _ _ _ _ _ refl c.count.ensures.value c.find.ensures.ran (λ x b q k. search (rules, tests))))

record_found : (c : After-first_wrong_record) → first_wrong_record (body_of script_kind (sections_of c.args.self.now)) ≡ c.first_wrong_record.result
record_found c = sym (c.first_wrong_record.ensures ∙ ap first_wrong_record c.body.ensures)

pub overflow_add-result : goal.overflow_add-result
overflow_add-result c =
    omega (arith, entry_in _ _ _ (size_found (goal.at.overflow_add-result c).After-find ∙ c.in-Some.is), ap count c.self.view_is, c.count.ensures.listed)

pub returns-in-Some : goal.returns-in-Some
unfolding bodies_refusal
returns-in-Some c = rw (size_found (goal.at.returns-in-Some c).After-find ∙ c.in-Some.is)

pub returns-in-Some-first_wrong_record : goal.returns-in-Some-first_wrong_record
unfolding bodies_refusal
returns-in-Some-first_wrong_record c =
    let t = goal.at.returns-in-Some-first_wrong_record c in
    rw (size_found t.After-find ∙ c.in_default.is, record_found t.After-first_wrong_record ∙ c.in-Some-first_wrong_record.is)

pub returns-in-None : goal.returns-in-None
unfolding bodies_refusal
returns-in-None c =
    let t = goal.at.returns-in-None c in
    rw (size_found t.After-find ∙ c.in_default.is, record_found t.After-first_wrong_record ∙ c.in-None.is)
