use mathlib.Core.Path.{ap, ◌∙◌}
use mathlib.Core.List.{List}
use lib.ListN.{replicate}
use Rattle.std.specs.Prelude.{Ok, Err}
use Rattle.machine.specs.declared.Row.{Row}
use Rattle.start.proofs.Places.{places_none, analysed, started}
use Rattle.start.proofs.start.Goals as goal

pub rows_of-requires : goal.rows_of-requires
rows_of-requires c h = analysed c.args.table.now c.analyse.new.results (Ok c.in-Ok.count) (rw c.in-Ok.is at c.analyse.ensures) h

pub returns-in-Ok : goal.returns-in-Ok
returns-in-Ok c = rw c.rows_of.ensures (started c.args.table.now c.analyse.new.results (Ok c.in-Ok.count) (rw c.in-Ok.is at c.analyse.ensures))

pub returns-in-Err : goal.returns-in-Err
returns-in-Err c =
    let refusal = c.in-Err.refusal in
    ap (λ (r : Row). record { machine = record { rows = replicate 32 r; count = 0; clock = 0 }; answer = Err refusal }) c.no_row.ensures
    ∙ ap (λ (l : List Row). record { machine = record { rows = l; count = 0; clock = 0 }; answer = Err refusal }) (places_none c.args.table.now)
    ∙ started c.args.table.now c.analyse.new.results (Err refusal) (rw c.in-Err.is at c.analyse.ensures)
