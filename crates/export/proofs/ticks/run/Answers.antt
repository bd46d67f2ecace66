use mathlib.Core.Path.{sym, ◌∙◌}
use native.Mathlib.Omega.{arith}
use Rattle.export.proofs.Ends.{missing, there, front, no_front, run_short, run_unread, run_none, run_taken}
use Rattle.export.proofs.ticks.run.Goals as goal

pub returns-in_err-numbers : goal.returns-in_err-numbers
returns-in_err-numbers c =
    let a = c.args in
    let e = no_front 258 a.state.now _ c.from_residual.result _ _ c.in_err-numbers.ensures.value c.from_residual.ensures.1 c.first_chunk_mut.ensures.cases in
    rw e.1 (run_short a.state.now a.records.now a.answers.now e.0)

pub returns-in_err-m : goal.returns-in_err-m
returns-in_err-m c =
    let a = c.args in
    let e = missing _ c.from_residual-in_err-m.result _ _ c.in_err-m.ensures.value c.from_residual-in_err-m.ensures.1 in
    let f = front 258 a.state.now _ _ _ c.in_ok-numbers.ensures.value c.first_chunk_mut.ensures.cases in
    rw e.1 (run_unread a.state.now a.records.now a.answers.now _ f (sym c.machine_in.ensures ∙ e.0))

pub returns-then-n-gt0 : goal.returns-then-n-gt0
returns-then-n-gt0 c =
    let a = c.args in
    let f = front 258 a.state.now _ _ _ c.in_ok-numbers.ensures.value c.first_chunk_mut.ensures.cases in
    run_taken a.state.now a.records.now a.answers.now _ _ _ _ _ _ f (sym c.machine_in.ensures ∙ there _ _ _ c.in_ok-m.ensures.value)
    c.min-n.ensures c.if-n-gt0.true c.take.ensures.value c.put.ensures c.take.ensures.answers

pub returns-else-n-gt0 : goal.returns-else-n-gt0
returns-else-n-gt0 c =
    let a = c.args in
    let f = front 258 a.state.now _ _ _ c.in_ok-numbers.ensures.value c.first_chunk_mut.ensures.cases in
    run_none a.state.now a.records.now a.answers.now _ _ _ f (sym c.machine_in.ensures ∙ there _ _ _ c.in_ok-m.ensures.value)
    c.min-n.ensures (omega arith)
