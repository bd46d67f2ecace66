-- A list of sections whose kinds rise and whose bodies aren't empty is told by the body of each kind, for any number of kinds.
-- At the end stands all that is used of the rule of kinds, refusal 14. Assumes nothing.
use mathlib.Core.Path.{◌≡◌, refl, sym, ap, subst, ◌∙◌}
use mathlib.Core.Bool.{false}
use mathlib.Core.List.{List, [], ◌∷◌, ◌++◌}
use mathlib.Core.Logic.{⊎_elim}
use Prim.Native.Nat.{ℕ, zero, suc, ◌+◌, ◌≤◌, ◌<◌}
use native.Mathlib.Nat.{lt_irrefl, eq-or-lt_of_le}
use native.Mathlib.Omega.{arith}
use borrow.Author.Tests.{eq-eqb, ne_eqb, eqb-true, not-false}
use lib.ListN.{length}
use Rattle.plan.specs.PlanFile.{Section, section, body_of, rows_kind, most_sections, wrong_kind}
use Rattle.plan.specs.Writer.{optional}
use Rattle.plan.specs.Meaning.{section_in}

-- kinds from lo on that rise and stay below hi, and no empty body
abbrev pub Rising : ℕ → ℕ → List Section → Type 0
Rising lo hi [] = Unit {0}
Rising lo hi (s ∷ rest) = (lo ≤ s.kind) × (s.kind < hi) × (1 ≤ length s.body) × Rising (suc s.kind) hi rest

-- the sections of the n kinds from lo on, by their bodies
abbrev pub by_kinds : ℕ → ℕ → List Section → List Section
by_kinds lo zero ss = []
by_kinds lo (suc n) ss = optional lo (body_of lo ss) ++ by_kinds (suc lo) n ss

this_kind : (k : ℕ) (s : Section) (rest : List Section) → s.kind ≡ k → body_of k (s ∷ rest) ≡ s.body
unfolding body_of
this_kind k s rest e = rw (eq-eqb s.kind k e)

other_kind : (k : ℕ) (s : Section) (rest : List Section) → (s.kind ≡ k → ⊥) → body_of k (s ∷ rest) ≡ body_of k rest
unfolding body_of
other_kind k s rest h = rw (ne_eqb s.kind k h)

-- a kind below all of them is missing
missing : (ss : List Section) (lo hi k : ℕ) → Rising lo hi ss → k < lo → body_of k ss ≡ []
unfolding body_of
missing [] lo hi k r h = refl
missing (s ∷ rest) lo hi k r h =
    other_kind k s rest (λ e. lt_irrefl 0 (omega (arith, r.0))) ∙ missing rest (suc s.kind) hi k r.3 (omega (arith, r.0))

-- a section below all the kinds asked for adds nothing
passed_by : (n lo : ℕ) (s : Section) (rest : List Section) → s.kind < lo → by_kinds lo n (s ∷ rest) ≡ by_kinds lo n rest
passed_by zero lo s rest h = refl
passed_by (suc n) lo s rest h =
    ap (λ (b : List ℕ). optional lo b ++ by_kinds (suc lo) n (s ∷ rest)) (other_kind lo s rest (λ e. lt_irrefl 0 (omega arith)))
    ∙ ap (λ (l : List Section). optional lo (body_of lo rest) ++ l) (passed_by n (suc lo) s rest (omega arith))

-- a section that is not left out
pub there : (k : ℕ) (b : List ℕ) → 1 ≤ length b → optional k b ≡ section k b ∷ []
there k [] h = absurd (lt_irrefl 0 (omega arith))
there k (x ∷ xs) h = refl

pub by_kinds_lem : (n lo hi : ℕ) (ss : List Section) → hi ≡ lo + n → Rising lo hi ss → by_kinds lo n ss ≡ ss
unfolding body_of
by_kinds_lem zero lo hi [] e r = refl
by_kinds_lem zero lo hi (s ∷ rest) e r = absurd (lt_irrefl 0 (omega (arith, r.0, r.1)))
by_kinds_lem (suc n) lo hi [] e r = by_kinds_lem n (suc lo) hi [] (omega arith) r
by_kinds_lem (suc n) lo hi (s ∷ rest) e r =
    let again : (l : List Section) → Rising (suc lo) hi l → by_kinds (suc lo) n l ≡ l = λ l q. by_kinds_lem n (suc lo) hi l (omega arith) q in
    ⊎_elim (same again) (later again) (eq-or-lt_of_le r.0)
  where
    same : ((l : List Section) → Rising (suc lo) hi l → by_kinds (suc lo) n l ≡ l) → lo ≡ s.kind → by_kinds lo (suc n) (s ∷ rest) ≡ s ∷ rest
    same again q =
        ap (λ (b : List ℕ). optional lo b ++ by_kinds (suc lo) n (s ∷ rest)) (this_kind lo s rest (sym q))
        ∙ ap (λ (l : List Section). l ++ by_kinds (suc lo) n (s ∷ rest)) (there lo s.body r.2 ∙ ap (λ (k : ℕ). section k s.body ∷ []) q)
        ∙ ap (λ (l : List Section). s ∷ l) (passed_by n (suc lo) s rest (omega arith)
        ∙ again rest (subst (λ (k : ℕ). Rising (suc k) hi rest) (sym q) r.3))

    later : ((l : List Section) → Rising (suc lo) hi l → by_kinds (suc lo) n l ≡ l) → lo < s.kind → by_kinds lo (suc n) (s ∷ rest) ≡ s ∷ rest
    later again q =
        let up : Rising (suc lo) hi (s ∷ rest) = (q, r.1, r.2, r.3) in
        ap (λ (b : List ℕ). optional lo b ++ by_kinds (suc lo) n (s ∷ rest)) (missing (s ∷ rest) (suc lo) hi lo up (omega arith))
        ∙ again (s ∷ rest) up

-- kinds that count up from lo rise
rises : (ss : List Section) (lo from hi : ℕ) → lo ≤ from → from + length ss ≤ hi
    → ((i : ℕ) → i < length ss → (section_in ss i).kind ≡ from + i)
    → ((i : ℕ) → i < length ss → 1 ≤ length (section_in ss i).body) → Rising lo hi ss
rises [] lo from hi a b kinds full = tt
rises (s ∷ rest) lo from hi a b kinds full =
    let k : s.kind ≡ from + 0 = kinds 0 (omega arith) in (
      omega arith,
      omega arith,
      full 0 (omega arith),
      rises rest (suc s.kind) (suc from) hi (omega arith) (omega arith)
          (λ i h. let z : from + suc i ≡ suc from + i = omega arith in kinds (suc i) (omega arith) ∙ z)
          (λ i h. full (suc i) (omega arith)),
    )

-- THE RULE OF KINDS
kind_is : (i k : ℕ) → wrong_kind i k ≡ false → k ≡ i + 1
unfolding wrong_kind
kind_is i k e = eqb-true k (i + 1) (not-false _ e)

-- the first kind is that of rows
pub first_kind : (k : ℕ) → wrong_kind 0 k ≡ false → k ≡ rows_kind
first_kind k e = kind_is 0 k e

-- a kind is a number of 32 bits
pub kind_small : (i k : ℕ) → i < most_sections → wrong_kind i k ≡ false → k < 4294967296
kind_small i k h e = omega (arith, kind_is i k e)

-- and kinds rise
pub kinds_rise : (ss : List Section) → length ss ≤ most_sections → ((i : ℕ) → i < length ss → wrong_kind i (section_in ss i).kind ≡ false)
    → ((i : ℕ) → i < length ss → 1 ≤ length (section_in ss i).body) → Rising 1 (1 + most_sections) ss
kinds_rise ss few kinds full =
    rises ss 1 1 (1 + most_sections) (omega arith) (omega arith)
    (λ i h. let z : i + 1 ≡ 1 + i = omega arith in kind_is i (section_in ss i).kind (kinds i h) ∙ z)
    full
