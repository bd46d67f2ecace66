-- Two answers that meet a public function's promise are equal: one lemma a function.
-- Assumes nothing.
use mathlib.Core.Path.{◌≡◌, sym, ◌∙◌}
use Prim.Native.Nat.{ℕ}
use Rattle.refusals.specs.Refusals.{number_of, place_of}
use Rattle.refusals.specs.declared.Refusal.{Refusal}

pub number_determined : (r : Refusal) (a b : ℕ) → a ≡ number_of r → b ≡ number_of r → a ≡ b
number_determined r a b p q = p ∙ sym q

pub place_determined : (r : Refusal) (a b : ℕ) → a ≡ place_of r → b ≡ place_of r → a ≡ b
place_determined r a b p q = p ∙ sym q
