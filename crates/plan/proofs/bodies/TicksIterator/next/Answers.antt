-- The first eight bytes are the first record; fewer are none. Assumes nothing.
use mathlib.Core.Path.{◌≡◌, sym, ap, ◌∙◌}
use mathlib.Core.List.{List, [], ◌∷◌}
use Prim.Native.Nat.{ℕ}
use native.Mathlib.Omega.{arith}
use lib.ListN.{length, drop}
use Rattle.plan.specs.declared.Tick.{Tick}
use Rattle.plan.specs.Bodies.{tick_at, records_of}
use Rattle.plan.proofs.Chunks.{tick_of_chunk}
use Rattle.plan.proofs.Records.{records_none, records_more}
use Rattle.plan.proofs.bodies.TicksIterator.next.Goals as goal

pub returns-in_err-first-clause-steps : goal.returns-in_err-first-clause-steps
returns-in_err-first-clause-steps c =
    let e : c.args.self.now ≡ [] = sym c.self.view_is ∙ records_none _ (rw c.in_err-first.was at c.split_first_chunk.ensures.cases) in
    rw c.from_residual.ensures (e, e)

pub returns-clause-steps : goal.returns-clause-steps
returns-clause-steps c =
    let s = c.self.inside.rest.now in
    let h = rw c.in_ok-first.was at c.split_first_chunk.ensures.cases in
    let first : c.of.result ≡ tick_at s 0 = c.of.ensures ∙ ap (λ (l : List ℕ). tick_at l 0) h.0 ∙ tick_of_chunk s 0 in
    sym c.self.view_is
    ∙ records_more s (omega (arith, h.2))
    ∙ ap (λ (x : Tick). x ∷ records_of (drop 8 s)) (sym first)
    ∙ ap (λ (l : List ℕ). c.of.result ∷ records_of l) (sym h.1)

pub returns-clause-goes : goal.returns-clause-goes
returns-clause-goes c =
    let n = ap length (returns-clause-steps c) in
    record { on = λ _. (tt, tt, omega arith); keeps = tt; rests = λ _. tt }
