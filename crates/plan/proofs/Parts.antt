-- The rows and the script of a plan: their sizes, that they are bytes, and that they tell the plan.
-- Assumes nothing.
use mathlib.Core.Path.{◌≡◌, refl, sym, ap, subst, ◌∙◌}
use mathlib.Core.Bool.{Bool, true, false, not, cond, ◌||◌}
use mathlib.Core.List.{List, [], ◌∷◌}
use Rattle.std.specs.Prelude.{Option, None, Some}
use Prim.Native.Nat.{ℕ, suc, ◌+◌, ◌%◌, ◌≤◌, ◌<◌}
use native.Mathlib.Nat.{lt_irrefl, pos_of_ne-zero}
use native.Mathlib.Omega.{arith}
use borrow.Author.Tests.{eq-eqb, ltb-false, eqb-true, eqb-false, not-false}
use lib.Dec.{ltb, eqb}
use lib.ListN.{length, take, drop, length-take, length-drop}
use lib.Seq.{get_or-take, get_or-drop}
use Rattle.plan.specs.PlanFile.{OfKind}
use Rattle.plan.specs.Numbers.{AllBelow}
use Rattle.plan.specs.PlanFile.{Section, entry_at, sections_of, body_of, rows_kind, script_kind, most_sections}
use Rattle.plan.specs.PlanFile.{wrong_rows, wrong_script, wrong_size, first_entry}
use Rattle.plan.specs.Meaning.{section_in, Plan}
use Rattle.plan.proofs.Tests.{or_inv}
use Rattle.plan.proofs.Entries.{body_at, body_is}
use Rattle.plan.proofs.ByKind.{by_kinds, by_kinds_lem, first_kind, kinds_rise}

-- a part of bytes is bytes
part_bytes : (f : List ℕ) (a n : ℕ) → AllBelow 256 f → AllBelow 256 (take n (drop a f))
part_bytes f a n b j h =
    let e : j < n = omega (arith, length-take n (drop a f)) in
    rw (get_or-take n (drop a f) j 0 e, get_or-drop a f j 0) (b (a + j) (omega (arith, length-take n (drop a f), length-drop a f)))

body_at_bytes : (f : List ℕ) (o : Option ℕ) → AllBelow 256 f → AllBelow 256 (body_at f o)
body_at_bytes f (Some i) b = part_bytes f (entry_at f i).offset (entry_at f i).length b
body_at_bytes f None b = λ j h. absurd (lt_irrefl 0 (omega arith))

pub body_bytes : (f : List ℕ) (k : ℕ) → AllBelow 256 f → AllBelow 256 (body_of k (sections_of f))
body_bytes f k b = subst (AllBelow 256) (sym (body_is f k (first_entry (OfKind k) f) refl)) (body_at_bytes f (first_entry (OfKind k) f) b)

-- no body of a plan is empty
size_some : (k n : ℕ) → wrong_size k n ≡ false → 1 ≤ n
size_some k n e = go (eqb k script_kind) e
  where
    go : (b : Bool) → cond b (wrong_script n) (wrong_rows n) ≡ false → 1 ≤ n
    go true e = pos_of_ne-zero (eqb-false n 0 (or_inv (eqb n 0) _ e).0)
    go false e = omega (arith, ltb-false n 16 (or_inv (ltb n 16) (ltb 512 n) (or_inv (ltb n 16 || ltb 512 n) _ e).0).0)

-- a script is in eights, and a missing one too
pub script_eights : (ss : List Section) → ((i : ℕ) → i < length ss → wrong_size (section_in ss i).kind (length (section_in ss i).body) ≡ false)
    → length (body_of script_kind ss) % 8 ≡ 0
unfolding body_of
script_eights [] sizes = refl
script_eights (s ∷ rest) sizes = go (eqb s.kind script_kind) (sizes 0 (omega arith)) (script_eights rest (λ i h. sizes (suc i) (omega arith)))
  where
    go : (b : Bool) → cond b (wrong_script (length s.body)) (wrong_rows (length s.body)) ≡ false → length (body_of script_kind rest) % 8 ≡ 0
        → length (cond b s.body (body_of script_kind rest)) % 8 ≡ 0
    go true e r = eqb-true _ _ (not-false _ (or_inv (eqb (length s.body) 0) _ e).1)
    go false e r = r

-- the rows of a plan: 16 to 512 bytes in sixteens
rows_sixteens : (ss : List Section) → Plan ss → wrong_rows (length (body_of rows_kind ss)) ≡ false
unfolding body_of
rows_sixteens [] p = absurd (lt_irrefl 0 (omega (arith, p.some)))
rows_sixteens (s ∷ rest) p =
    let k = first_kind s.kind (p.kinds 0 (omega arith)) in
    rw (eq-eqb s.kind 1 k) (sym (ap (λ (x : ℕ). wrong_size x (length s.body)) k) ∙ p.sizes 0 (omega arith))

module _ (ss : List Section) (p : Plan ss) where
  pub rows_shape : (16 ≤ length (body_of rows_kind ss)) × (length (body_of rows_kind ss) ≤ 512) × (length (body_of rows_kind ss) % 16 ≡ 0)
  rows_shape =
      let n = length (body_of rows_kind ss) in
      let a = or_inv (ltb n 16 || ltb 512 n) (not (eqb (n % 16) 0)) (rows_sixteens ss p) in
      let b = or_inv (ltb n 16) (ltb 512 n) a.0 in
      (ltb-false n 16 b.0, ltb-false 512 n b.1, eqb-true (n % 16) 0 (not-false _ a.1))

  -- a plan is told by the body of each of its kinds
  pub by_bodies : by_kinds 1 most_sections ss ≡ ss
  by_bodies =
      by_kinds_lem most_sections 1 (1 + most_sections) ss refl
      (kinds_rise ss p.few p.kinds (λ i h. size_some (section_in ss i).kind (length (section_in ss i).body) (p.sizes i h)))
