-- Document 02, order 1, "by a start too": a start gives 7 and 19, by number and place, exactly where the one window or the other fails.
-- Assumes nothing.
use Prim.Native.Nat.{ℕ, ◌+◌, ◌*◌, ◌≤◌}
use mathlib.Core.Path.{◌≡◌, refl, sym, ap, ◌∙◌}
use mathlib.Core.List.{List}
use mathlib.Core.Logic.{◌↔◌}
use native.Mathlib.Omega.{arith}
use lib.ListN.{replicate}
use Rattle.equations.specs.Table.{rows}
use Rattle.equations.specs.Analysis.{analysis, refuses, says}
use Rattle.equations.specs.Solutions.{HypertasksPass, GuestWindowFails, HypertaskWindowFails}
use Rattle.equations.proofs.Windows.{refused_7_exactly, refused_19_exactly}
use Rattle.start.specs.Start.{start_of}
use Rattle.start.proofs.Places.{same_answer}

module _ (s : List ℕ) where
  -- the analysis with room for the results of 32 tasks
  same : says (start_of s).answer ≡ says (analysis s 96)
  unfolding start_of
  same = sym (ap says (same_answer s (replicate 96 0) refl))

  -- and every table that passes 5 and 6 has that room
  room : (r e : ℕ → ℕ) → HypertasksPass s r e → 3 * rows s ≤ 96
  room r e p = omega (arith, p.sound.few)

  without_room : (number i : ℕ) (P : Type 0) → (P → 3 * rows s ≤ 96)
      → (says (analysis s 96) ≡ refuses number (i + 1)) ↔ ((3 * rows s ≤ 96) × P)
      → (says (start_of s).answer ≡ refuses number (i + 1)) ↔ P
  without_room number i P fits a = (λ q. (a.0 (sym same ∙ q)).1, λ p. same ∙ a.1 (fits p, p))

  pub start_7_exactly : (i : ℕ) → (says (start_of s).answer ≡ refuses 7 (i + 1)) ↔ GuestWindowFails s i
  start_7_exactly i = without_room 7 i (GuestWindowFails s i) (λ p. room p.r p.e p.reached.hypertasks) (refused_7_exactly s 96 i)

  pub start_19_exactly : (i : ℕ) → (says (start_of s).answer ≡ refuses 19 (i + 1)) ↔ HypertaskWindowFails s i
  start_19_exactly i = without_room 19 i (HypertaskWindowFails s i) (λ p. room p.r p.e p.reached.hypertasks) (refused_19_exactly s 96 i)
