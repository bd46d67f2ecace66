-- Laws of the ticks' answers as bytes.
-- Assumes nothing.
use mathlib.Core.Path.{◌≡◌, refl, sym, ap, ◌∙◌}
use mathlib.Core.List.{List, ◌++◌, append_assoc}
use Prim.Native.Nat.{ℕ, ◌+◌, ◌-◌, ◌*◌, ◌/◌, ◌<◌}
use native.Mathlib.Numerals.{add-one}
use native.Mathlib.Omega.{arith}
use borrow.Author.Tests.{lt-ltb}
use borrow.Rule.Slice.PartMut.{put_mid}
use lib.ListN.{length, take, drop}
use lib.Seq.{drop-drop}
use Rattle.std.specs.Prelude.{Ok, Err, Option, Some}
use Rattle.std.specs.Option.{IsSome}
use Rattle.least.specs.Lists.{flat}
use Rattle.least.proofs.Lists.{block_more}
use Rattle.plan.specs.Bodies.{tick_at, record_of}
use Rattle.plan.specs.declared.Tick.{Tick}
use Rattle.machine.specs.TickRule.{step_of}
use Rattle.machine.specs.Answers.{Answer}
use Rattle.machine.specs.declared.Machine.{Machine}
use Rattle.machine.specs.declared.Stepped.{Stepped}
use Rattle.export.specs.Ticks.{answer_bytes, step_by, machine_after, answer_to}

pub answer_length : (clock : ℕ) (a : Answer) → length (answer_bytes clock a) ≡ 12
answer_length clock (Ok t) = refl
answer_length clock (Err r) = refl

-- ## One record

tick_there : (s : List ℕ) (i : ℕ) (o : Option Tick) → o ≡ record_of s i → i < length s / 8 → o ≡ Some (tick_at s i)
unfolding record_of
tick_there s i o e h = e ∙ rw (lt-ltb _ _ h)

pub tick_some : (s : List ℕ) (i : ℕ) (o : Option Tick) → o ≡ record_of s i → i < length s / 8 → IsSome o
tick_some s i o e h = let t = tick_there s i o e h in rw t refl

pub tick_is : (s : List ℕ) (i : ℕ) (o : Option Tick) (t : Tick) → o ≡ record_of s i → i < length s / 8 → o ≡ Some t → t ≡ tick_at s i
tick_is s i o t e h q = let u = tick_there s i o e h in cc

-- ## One tick more

module _ (m : Machine) (r : List ℕ) (i : ℕ) (at : Machine) (t : Tick) (s : Stepped) where
  stepped : at ≡ machine_after m r i → t ≡ tick_at r i → s ≡ step_of at t.mask t.signal t.early
      → s ≡ step_by (machine_after m r i) (tick_at r i)
  stepped p q e = e ∙ rw (p, q)

  pub machine_more : at ≡ machine_after m r i → t ≡ tick_at r i → s ≡ step_of at t.mask t.signal t.early
      → s.machine ≡ machine_after m r (i + 1)
  unfolding machine_after
  machine_more p q e = ap (λ (x : Stepped). x.machine) (stepped p q e) ∙ ap (machine_after m r) (sym (add-one i))

  pub answer_more : (o out bytes : List ℕ) → at ≡ machine_after m r i → t ≡ tick_at r i → s ≡ step_of at t.mask t.signal t.early
      → out ≡ flat (answer_to m r) i ++ drop (12 * i) o → bytes ≡ answer_bytes at.clock s.answer
      → put_mid (12 * i) (12 * i + 12 - 12 * i) out bytes ≡ flat (answer_to m r) (i + 1) ++ drop (12 * (i + 1)) o
  unfolding answer_to
  answer_more o out bytes p q e inv h =
      let w : 12 * i + 12 - 12 * i ≡ 12 = omega arith in
      let b : bytes ≡ answer_to m r i =
      h
      ∙ ap (λ (x : Stepped). answer_bytes at.clock x.answer) (stepped p q e)
      ∙ ap (λ (x : Machine). answer_bytes x.clock (step_by (machine_after m r i) (tick_at r i)).answer) p in
      ap (λ (n : ℕ). take (12 * i) out ++ (bytes ++ drop n (drop (12 * i) out))) w
      ∙ ap (λ (l : List ℕ). take (12 * i) out ++ (l ++ drop 12 (drop (12 * i) out))) b
      ∙ ap (λ (l : List ℕ). take (12 * i) out ++ (answer_to m r i ++ l)) (drop-drop 12 (12 * i) out)
      ∙ sym (append_assoc (take (12 * i) out) (answer_to m r i) (drop (12 * i + 12) out))
      ∙ block_more (answer_to m r) 12 (λ k. answer_length (machine_after m r k).clock (step_by (machine_after m r k) (tick_at r k)).answer) o out i inv
