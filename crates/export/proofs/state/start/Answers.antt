use mathlib.Core.Path.{ap, ◌∙◌}
use mathlib.Core.List.{List, ◌++◌}
use Prim.Native.Nat.{ℕ}
use borrow.Author.Tests.{le-ltb}
use lib.ListN.{drop}
use Rattle.std.proofs.lemmas.Option.{MatchOption-at_some}
use Rattle.start.specs.Start.{start_of}
use Rattle.start.specs.declared.Started.{Started}
use Rattle.export.specs.Start.{start_says, state_started}
use Rattle.export.specs.State.{state_of}
use Rattle.export.proofs.Ends.{there}
use Rattle.export.proofs.state.start.Goals as goal

pub returns-clause-answers : goal.returns-clause-answers
unfolding start_says start_of
returns-clause-answers c =
    let p = MatchOption-at_some _ _ _ (there _ _ _ c.in_ok-numbers.ensures.value) c.first_chunk_mut.ensures.cases in
    ap (λ (s : Started). s.answer) c.start-s.ensures ∙ rw (le-ltb _ _ p.enough)

pub returns-clause-leaves : goal.returns-clause-leaves
unfolding state_started
returns-clause-leaves c =
    let p = MatchOption-at_some _ _ _ (there _ _ _ c.in_ok-numbers.ensures.value) c.first_chunk_mut.ensures.cases in
    ap (λ (l : List ℕ). l ++ drop 258 c.args.state.now) (c.put.ensures ∙ ap (λ (s : Started). state_of s.machine) c.start-s.ensures)
    ∙ rw (le-ltb _ _ p.enough)
