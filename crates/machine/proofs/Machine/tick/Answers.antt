use Rattle.machine.proofs.Turns.{not_well, few, soon_below, hyper_below, judged_refused, room, may_run, taken_law, refused_law}
use Rattle.machine.proofs.Pass.{answered, not_answered}
use Rattle.machine.proofs.Verdicts.{verdict_unfit}
use Rattle.machine.specs.OnePass.{places_fit, seen_in}
use Rattle.std.proofs.lemmas.Result.{err_from_is_err_and}
use borrow.Author.Rules.{rules}
use lib.ListN.{length, take}
use mathlib.Core.Path.{◌≡◌, ◌∙◌, sym}
use mathlib.Core.Bool.{true}
use Rattle.machine.proofs.Machine.tick.Goals as goal
use Rattle.machine.proofs.Machine.tick.Goals.{In_ok-seen}

-- the pass answered with what it saw
sees : (c : In_ok-seen) → (places_fit c.args.self.now.clock c.args.self.now.count c.args.self.now.rows ≡ true)
    × (c.in_ok-seen.seen ≡ seen_in c.args.self.now.clock c.args.mask (take c.args.self.now.count c.args.self.now.rows))
sees c = answered _ _ _ c.in_ok-seen.ensures.answer

long : (c : In_ok-seen) → length c.args.self.now.rows ≡ 32
long c = search rules

pub returns-in_err-seen : goal.returns-in_err-seen
returns-in_err-seen c =
    let m = c.args.self.now in
    let q = not_answered _ _ _ c.in_err-seen.ensures.answer in
    let p = err_from_is_err_and c.from_residual.result c.from_residual.ensures.1 in
    rw (p.1, p.2, q.1) (refused_law m c.args.mask c.args.signal c.args.early _ (verdict_unfit m c.args.mask (not_well m q.0)))

pub judge-requires-clause-few : goal.judge-requires-clause-few
judge-requires-clause-few c = let t = (goal.at.judge-requires-clause-few c).In_ok-seen in few c.args.self.now c.args.mask (long t) (sees t).0

pub judge-requires-clause-soon : goal.judge-requires-clause-soon
judge-requires-clause-soon c = let t = (goal.at.judge-requires-clause-soon c).In_ok-seen in
    rw ((sees t).1) (soon_below c.args.self.now c.args.mask (long t) (sees t).0)

pub judge-requires-clause-hyper : goal.judge-requires-clause-hyper
judge-requires-clause-hyper c = let t = (goal.at.judge-requires-clause-hyper c).In_ok-seen in
    rw ((sees t).1) (hyper_below c.args.self.now c.args.mask (long t) (sees t).0)

pub returns-in_err-place : goal.returns-in_err-place
returns-in_err-place c =
    let t = (goal.at.returns-in_err-place c).In_ok-seen in
    let m = c.args.self.now in
    let p = err_from_is_err_and c.from_residual-in_err-place.result c.from_residual-in_err-place.ensures.1 in
    let h = rw (c.in_ok-seen.ensures.turned, (sees t).1) at c.in_err-place.ensures in
    rw (p.1, p.2) (refused_law m c.args.mask c.args.signal c.args.early _ (judged_refused m c.args.mask (long t) (sees t).0 _ h))

pub advance-requires-clause-room : goal.advance-requires-clause-room
advance-requires-clause-room c = let t = (goal.at.advance-requires-clause-room c).In_ok-seen in
    let h = rw (c.in_ok-seen.ensures.turned, (sees t).1) at c.in_ok-place.ensures in
    room c.args.self.now c.args.mask (long t) (sees t).0 c.in_ok-place.place h

pub advance-requires-clause-runs : goal.advance-requires-clause-runs
advance-requires-clause-runs c =
    let t = (goal.at.advance-requires-clause-runs c).In_ok-seen in
    let h = rw (c.in_ok-seen.ensures.turned, (sees t).1) at c.in_ok-place.ensures in
    rw c.in_ok-seen.ensures.turned (may_run c.args.self.now c.args.mask (long t) (sees t).0 c.in_ok-place.place h)

pub returns : goal.returns
returns c =
    let t = (goal.at.returns c).In_ok-seen in
    let h = rw (c.in_ok-seen.ensures.turned, (sees t).1) at c.in_ok-place.ensures in
    sym (taken_law c.args.self.now c.args.mask (long t) (sees t).0 c.in_ok-place.place h c.args.signal c.args.early)
    ∙ rw c.in_ok-seen.ensures.turned at c.advance.ensures
