use mathlib.Core.Path.{sym, ◌∙◌}
use native.Mathlib.Omega.{arith}
use Rattle.std.proofs.lemmas.Result.{err_from_is_err_and}
use Rattle.export.proofs.Ends.{missing, there, front, no_front, step_early, step_short, step_few, step_unread, step_refused, step_taken}
use Rattle.export.proofs.ticks.step.Goals as goal

pub returns-then-early-gt-MOST_EARLY : goal.returns-then-early-gt-MOST_EARLY
returns-then-early-gt-MOST_EARLY c = let a = c.args in step_early a.state.now a.mask a.signal a.early a.answer.now (omega arith)

pub returns-in_err-said : goal.returns-in_err-said
returns-in_err-said c =
    let a = c.args in
    let e = no_front 12 a.answer.now _ c.from_residual.result _ _ c.in_err-said.ensures.value c.from_residual.ensures.1 c.first_chunk_mut.ensures.cases in
    rw e.1 (step_short a.state.now a.mask a.signal a.early a.answer.now (omega arith) e.0)

pub returns-in_err-numbers : goal.returns-in_err-numbers
returns-in_err-numbers c =
    let a = c.args in
    let g = front 12 a.answer.now _ _ _ c.in_ok-said.ensures.value c.first_chunk_mut.ensures.cases in
    let e = no_front 258 a.state.now _ c.from_residual-in_err-numbers.result _ _ c.in_err-numbers.ensures.value
    c.from_residual-in_err-numbers.ensures.1 c.first_chunk_mut-2.ensures.cases in
    rw e.1 (step_few a.state.now a.mask a.signal a.early a.answer.now (omega arith) _ g e.0)

pub returns-in_err-m : goal.returns-in_err-m
returns-in_err-m c =
    let a = c.args in
    let g = front 12 a.answer.now _ _ _ c.in_ok-said.ensures.value c.first_chunk_mut.ensures.cases in
    let f = front 258 a.state.now _ _ _ c.in_ok-numbers.ensures.value c.first_chunk_mut-2.ensures.cases in
    let e = missing _ c.from_residual-in_err-m.result _ _ c.in_err-m.ensures.value c.from_residual-in_err-m.ensures.1 in
    rw e.1 (step_unread a.state.now a.mask a.signal a.early a.answer.now (omega arith) _ g _ f (sym c.machine_in.ensures ∙ e.0))

pub returns-in_err-taken : goal.returns-in_err-taken
returns-in_err-taken c =
    let a = c.args in
    let g = front 12 a.answer.now _ _ _ c.in_ok-said.ensures.value c.first_chunk_mut.ensures.cases in
    let f = front 258 a.state.now _ _ _ c.in_ok-numbers.ensures.value c.first_chunk_mut-2.ensures.cases in
    let m = sym c.machine_in.ensures ∙ there _ _ _ c.in_ok-m.ensures.value in
    let r = err_from_is_err_and c.from_residual-in_err-taken.result c.from_residual-in_err-taken.ensures.1 in
    rw (r.1, r.2)
    (step_refused a.state.now a.mask a.signal a.early a.answer.now (omega arith) _ g _ f _ _ _ m c.step-s.ensures c.in_err-taken.was)

pub returns : goal.returns
returns c =
    let a = c.args in
    let g = front 12 a.answer.now _ _ _ c.in_ok-said.ensures.value c.first_chunk_mut.ensures.cases in
    let f = front 258 a.state.now _ _ _ c.in_ok-numbers.ensures.value c.first_chunk_mut-2.ensures.cases in
    let m = sym c.machine_in.ensures ∙ there _ _ _ c.in_ok-m.ensures.value in
    step_taken a.state.now a.mask a.signal a.early a.answer.now (omega arith) _ g _ f _ _ _ _ _ m c.step-s.ensures c.in_ok-taken.was
    c.put.ensures c.answer_bytes.ensures
