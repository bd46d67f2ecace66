use mathlib.Core.Path.{◌≡◌, refl, sym, ◌∙◌}
use Prim.Native.Nat.{◌/◌, min}
use native.Mathlib.Omega.{arith}
use lib.ListN.{length, replicate}
use Rattle.std.specs.Prelude.{Ok}
use Rattle.start.specs.Start.{start_answer}
use Rattle.start.proofs.Places.{same_answer}
use Rattle.text.proofs.Laws.{puts_then}
use Rattle.report.specs.Report.{table_text}
use Rattle.report.proofs.Results.{tasks_few, tasks_are, row_lines_lem}
use Rattle.report.proofs.Starts.{balanced_start}
use Rattle.report.proofs.put_accepted.Goals as goal
use Rattle.report.proofs.put_accepted.Goals.{After-unwrap-n}

accepted : (c : After-unwrap-n) → start_answer c.args.table.now ≡ Ok c.unwrap-n.result
accepted c = sym (same_answer c.args.table.now (replicate 96 0) refl) ∙ sym c.analyse.ensures.answers ∙ c.unwrap-n.ensures

pub unwrap-n-requires : goal.unwrap-n-requires
unwrap-n-requires c = rw (c.analyse.ensures.answers ∙ same_answer c.args.table.now (replicate 96 0) refl) c.requires.0

pub put_script-requires : goal.put_script-requires
put_script-requires c =
    let a = accepted (goal.at.put_script-requires c).After-unwrap-n in
    let s = c.args.table.now in
    let n = c.unwrap-n.result in
    (tasks_few s (replicate 96 0) n refl a, balanced_start s n c.args.machine a c.requires.1)

pub returns-clause-puts : goal.returns-clause-puts
unfolding table_text
returns-clause-puts c =
    let s = c.args.table.now in
    let n = c.unwrap-n.result in
    let a = accepted (goal.at.returns-clause-puts c).After-unwrap-n in
    let l = row_lines_lem s (replicate 96 0) n refl a in
    let e : min (length s / 4) (length c.analyse.new.results / 3) ≡ n =
    omega (arith, c.analyse.auto.results, tasks_are s (replicate 96 0) n refl a, tasks_few s (replicate 96 0) n refl a) in
    let r = rw e at c.put_rows.ensures.puts in
    rw (a, ← l, ← c.analyse.ensures.leaves, ← c.requires.1) (puts_then (puts_then c.put_accept.ensures.puts r) c.put_script.ensures.puts)

pub returns-clause-short : goal.returns-clause-short
returns-clause-short c =
    let s = c.args.table.now in
    let n = c.unwrap-n.result in
    let a = accepted (goal.at.returns-clause-short c).After-unwrap-n in
    omega (arith, c.args.script.short, tasks_are s (replicate 96 0) n refl a, tasks_few s (replicate 96 0) n refl a)
