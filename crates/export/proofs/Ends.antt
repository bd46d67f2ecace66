-- Each way out of a run of ticks and of one tick, and what they are told as.
-- Assumes nothing.
use mathlib.Core.Path.{◌≡◌, refl, sym, ap, ◌∙◌}
use mathlib.Core.Bool.{true, false}
use mathlib.Core.List.{List, ◌++◌}
use Prim.Native.Nat.{ℕ, ◌*◌, ◌/◌, ◌≤◌, ◌<◌, min}
use native.Mathlib.Omega.{arith}
use borrow.Author.Tests.{lt-ltb, le-ltb, ne_eqb}
use lib.Dec.{eqb}
use lib.ListN.{length, drop, take-append-drop}
use Rattle.std.specs.Prelude.{Option, Result, None, Some, Ok, Err}
use Rattle.std.specs.Borrow.{MutBor}
use Rattle.std.specs.Option.{ok_or, MatchOption}
use Rattle.std.specs.Result.{IsErrAnd}
use Rattle.std.proofs.lemmas.Result.{err_from_is_err_and}
use Rattle.std.specs.Array.{IsFirstChunk}
use Rattle.least.specs.Lists.{flat}
use Rattle.refusals.specs.declared.Refusal.{Refusal}
use Rattle.refusals.specs.declared.Refusal.TheVariants.{NotWellFormed, RecordBytes, OutputShort}
use Rattle.machine.specs.TickRule.{step_of}
use Rattle.machine.specs.declared.Taken.{Taken}
use Rattle.machine.specs.Answers.{Answer}
use Rattle.machine.specs.declared.Machine.{Machine}
use Rattle.machine.specs.declared.Stepped.{Stepped}
use Rattle.plan.specs.Answers.{Answer as Answered}
use Rattle.plan.specs.Refuse.{answer_of}
use Rattle.export.specs.Inside.{RunsTicks, TakesStep}
use Rattle.export.specs.State.{state_of, machine_in, readable, read_of}
use Rattle.export.specs.Step.{step_in, refusal_in, step_refusal, state_stepped, answer_stepped}
use Rattle.export.specs.Ticks.{answer_bytes, machine_after, answer_to, ticks_taken}
use Rattle.export.proofs.States.{too_few, read_none, read_some, read_front}

-- ## A `?`

pub missing : {A B : Type 0} (o : Option A) (r : Result B Refusal) (d e : Refusal) → Err d ≡ ok_or o e → IsErrAnd r (λ x. x ≡ d)
    → (o ≡ None) × (r ≡ Err e)
missing None r d e h i = let p = err_from_is_err_and r i in (refl, cc)
missing (Some a) r d e h i = absurd cc

pub there : {A : Type 0} (o : Option A) (a : A) (e : Refusal) → Ok a ≡ ok_or o e → o ≡ Some a
there None a e h = absurd cc
there (Some b) a e h = cc

-- the front of a slice
pub front : (n : ℕ) (s : List ℕ) (o : Option (MutBor (List ℕ))) (f : MutBor (List ℕ)) (e : Refusal) → Ok f ≡ ok_or o e
    → MatchOption o (length s < n) (λ x. IsFirstChunk s x.now n) → IsFirstChunk s f.now n
front n s None f e h m = absurd cc
front n s (Some g) f e h m = let z : g ≡ f = cc in rw z at m

pub no_front : {B : Type 0} (n : ℕ) (s : List ℕ) (o : Option (MutBor (List ℕ))) (r : Result B Refusal) (d e : Refusal) → Err d ≡ ok_or o e
    → IsErrAnd r (λ x. x ≡ d) → MatchOption o (length s < n) (λ x. IsFirstChunk s x.now n) → (length s < n) × (r ≡ Err e)
no_front n s None r d e h i m = (m, (missing None r d e h i).1)
no_front n s (Some g) r d e h i m = absurd cc

-- ## What is read

-- the numbers f in front of the lent ones
module _ (s f : List ℕ) (p : IsFirstChunk s f 258) where
  back : f ++ drop 258 s ≡ s
  back = ap (λ (l : List ℕ). l ++ drop 258 s) p.same ∙ take-append-drop 258 s

  front_false : read_of f ≡ None → readable s ≡ false
  front_false e = read_none s (sym (read_front s f p.enough p.same) ∙ e)

  front_true : (m : Machine) → read_of f ≡ Some m → (readable s ≡ true) × (m ≡ machine_in s)
  front_true m e = read_some s m (sym (read_front s f p.enough p.same) ∙ e)

-- ## A run of ticks

module _ (s records lent : List ℕ) where
  unread : readable s ≡ false → RunsTicks s records lent (Err (NotWellFormed 0)) s lent
  unfolding ticks_taken flat
  unread h = record { answers = rw h; leaves = rw h; writes = rw h }

  pub run_short : length s < 258 → RunsTicks s records lent (Err (NotWellFormed 0)) s lent
  run_short h = unread (sym (too_few s h))

  pub run_unread : (f : List ℕ) → IsFirstChunk s f 258 → read_of f ≡ None → RunsTicks s records lent (Err (NotWellFormed 0)) (f ++ drop 258 s) lent
  run_unread f p e = rw (back s f p) (unread (front_false s f p e))

  pub run_none : (f : List ℕ) (m : Machine) (n : ℕ) → IsFirstChunk s f 258 → read_of f ≡ Some m → n ≡ min (length records / 8) (length lent / 12)
      → n ≡ 0 → RunsTicks s records lent (Ok n) (f ++ drop 258 s) lent
  unfolding ticks_taken flat
  run_none f m n p e q z =
      let t : min (length records / 8) (length lent / 12) ≡ 0 = sym q ∙ z in
      let h = (front_true s f p m e).0 in
      rw (back s f p) (record { answers = rw (h, z, t); leaves = rw (h, t); writes = rw (h, t) })

  pub run_taken : (f left out : List ℕ) (m last : Machine) (n : ℕ) → IsFirstChunk s f 258 → read_of f ≡ Some m
      → n ≡ min (length records / 8) (length lent / 12)
      → 0 < n → last ≡ machine_after m records n → left ≡ state_of last
      → out ≡ flat (answer_to m records) n ++ drop (12 * n) lent → RunsTicks s records lent (Ok n) (left ++ drop 258 s) out
  unfolding ticks_taken
  run_taken f left out m last n p e q g hl ha ho =
      let h = front_true s f p m e in
      let z : n ≡ 0 → ⊥ = λ y. omega arith in
      record {
        answers = rw (h.0, q);
        leaves = rw (h.0, ← q, ne_eqb n 0 z, ha, hl, h.1);
        writes = ho ∙ rw (h.0, ← q, h.1);
      }

-- ## One tick

module _ (s : List ℕ) (mask signal early : ℕ) (lent : List ℕ) where
  -- the refusal says the rest
  step_left : (answer : Answered) (after out : List ℕ) (o : Option Refusal) → step_refusal s mask signal early (length lent) ≡ o
      → answer ≡ answer_of o → after ≡ state_stepped o (step_in s mask signal early) s
      → out ≡ answer_stepped o (machine_in s).clock (step_in s mask signal early) lent
      → TakesStep s mask signal early lent answer after out
  step_left answer after out o e hr ha ho = record { answers = rw e hr; leaves = rw e ha; writes = rw e ho }

  pub step_early : 1 < early → TakesStep s mask signal early lent (Err (RecordBytes 0)) s lent
  unfolding step_refusal
  step_early h = step_left (Err (RecordBytes 0)) s lent (Some (RecordBytes 0)) (rw (lt-ltb _ _ h)) refl refl refl

  pub step_short : early ≤ 1 → length lent < 12 → TakesStep s mask signal early lent (Err (OutputShort 12)) s lent
  unfolding step_refusal
  step_short h l = step_left (Err (OutputShort 12)) s lent (Some (OutputShort 12)) (rw (le-ltb _ _ h, lt-ltb _ _ l)) refl refl refl

  unread_step : early ≤ 1 → 12 ≤ length lent → readable s ≡ false → TakesStep s mask signal early lent (Err (NotWellFormed 0)) s lent
  unfolding step_refusal
  unread_step h l u = step_left (Err (NotWellFormed 0)) s lent (Some (NotWellFormed 0)) (rw (le-ltb _ _ h, le-ltb _ _ l, u)) refl refl refl

  -- the bytes g in front of the lent ones
  module _ (h : early ≤ 1) (g : List ℕ) (q : IsFirstChunk lent g 12) where
    whole : g ++ drop 12 lent ≡ lent
    whole = ap (λ (l : List ℕ). l ++ drop 12 lent) q.same ∙ take-append-drop 12 lent

    pub step_few : length s < 258 → TakesStep s mask signal early lent (Err (NotWellFormed 0)) s (g ++ drop 12 lent)
    step_few b = rw whole (unread_step h q.enough (sym (too_few s b)))

    module _ (f : List ℕ) (p : IsFirstChunk s f 258) where
      pub step_unread : read_of f ≡ None → TakesStep s mask signal early lent (Err (NotWellFormed 0)) (f ++ drop 258 s) (g ++ drop 12 lent)
      step_unread e = rw (back s f p, whole) (unread_step h q.enough (front_false s f p e))

      -- the tick rule's own refusal
      rule_says : (m : Machine) (x : Stepped) (a : Answer) → read_of f ≡ Some m → x ≡ step_of m mask signal (eqb early 1) → x.answer ≡ a
          → step_refusal s mask signal early (length lent) ≡ refusal_in a
      unfolding step_refusal
      rule_says m x a e hx ha =
          let r = front_true s f p m e in
          rw (le-ltb _ _ h, le-ltb _ _ q.enough, r.0, ← r.1, ← hx, ha)

      pub step_refused : (m : Machine) (x : Stepped) (r : Refusal) → read_of f ≡ Some m → x ≡ step_of m mask signal (eqb early 1)
          → x.answer ≡ Err r → TakesStep s mask signal early lent (Err r) (f ++ drop 258 s) (g ++ drop 12 lent)
      step_refused m x r e hx ha =
          rw (back s f p, whole) (step_left (Err r) s lent (Some r) (rule_says m x (Err r) e hx ha) refl refl refl)

      pub step_taken : (m : Machine) (x : Stepped) (t : Taken) (left out : List ℕ) → read_of f ≡ Some m → x ≡ step_of m mask signal (eqb early 1)
          → x.answer ≡ Ok t → left ≡ state_of x.machine → out ≡ answer_bytes m.clock (Ok t)
          → TakesStep s mask signal early lent (Ok tt) (left ++ drop 258 s) (out ++ drop 12 lent)
      step_taken m x t left out e hx ha hl ho =
          let r = front_true s f p m e in
          let o : out ≡ answer_bytes m.clock x.answer = ho ∙ ap (answer_bytes m.clock) (sym ha) in
          step_left (Ok tt) (left ++ drop 258 s) (out ++ drop 12 lent) None (rule_says m x (Ok t) e hx ha) refl (rw (hl, hx, r.1)) (rw (o, hx, r.1))
