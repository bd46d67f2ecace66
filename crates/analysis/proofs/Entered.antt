-- From the checks to the answer: what the search goes by in `solve` and `analyse`.
-- Assumes nothing.
use mathlib.Core.Path.{◌≡◌, refl, sym, ap, ◌∙◌}
use mathlib.Core.List.{List}
use Rattle.std.specs.Prelude.{Ok, Err}
use Prim.Native.Nat.{ℕ, ◌*◌, ◌≤◌, ◌<◌}
use lib.ListN.{length}
use Rattle.refusals.specs.declared.Refusal.{Refusal}
use Rattle.refusals.specs.declared.Refusal.TheVariants.{ResultsShort}
use Rattle.equations.specs.Table.{rows}
use Rattle.equations.specs.Analysis.{table_check, solved, results_by, analysis, Analyses}
use Rattle.equations.specs.Answers.{Checked, Answer}
use Rattle.equations.proofs.Checks.{results_short, results_fit, refused_1_to_3, refused_4, entered, results_by_lem}
use Rattle.equations.proofs.Checks.{refused_5_or_6, refused_7_or_19, accepted}
use Rattle.analysis.specs.Inside.{passed}

-- what the check of a table answers
refused : (s : List ℕ) (c : Checked) (r : Refusal) → Err r ≡ passed s c → c ≡ Err r
refused s (Ok tt) r e = cc
refused s (Err f) r e = cc

entered_by : (s t : List ℕ) (c : Checked) → Ok t ≡ passed s c → (t ≡ s) × (c ≡ Ok tt)
entered_by s t (Ok tt) e = (cc, refl)
entered_by s t (Err f) e = cc

module _ (s lent : List ℕ) where
  pub analyses_1_to_3 : (r : Refusal) → Err r ≡ passed s (table_check s) → Analyses s lent (Err r) lent
  analyses_1_to_3 r e =
      let a = refused_1_to_3 s (length lent) r (refused s (table_check s) r e) in
      record { answers = sym a; leaves = results_by_lem s lent (Err r) a }

  pub analyses_4 : (t : List ℕ) → Ok t ≡ passed s (table_check s) → length lent < 3 * rows t
      → Analyses s lent (Err (ResultsShort (3 * rows t))) lent
  analyses_4 t e h =
      let p = entered_by s t (table_check s) e in
      let z : rows t ≡ rows s = ap rows p.0 in
      let a = refused_4 s (length lent) _ p.1 (results_short s (length lent) (rw (← z) h)) in
      rw z (record { answers = sym a; leaves = results_by_lem s lent _ a })

  pub analyses_from_5 : (t : List ℕ) (a : Answer) (after : List ℕ) → Ok t ≡ passed s (table_check s) → 3 * rows t ≤ length lent
      → a ≡ solved t → after ≡ results_by t lent a → Analyses s lent a after
  analyses_from_5 t a after e h q l =
      let p = entered_by s t (table_check s) e in
      let b : analysis s (length lent) ≡ a = entered s (length lent) p.1 (results_fit s (length lent) (rw (← ap rows p.0) h)) ∙ ap solved (sym p.0) ∙ sym q in
      record { answers = sym b; leaves = l ∙ ap (λ (x : List ℕ). results_by x lent a) p.0 ∙ results_by_lem s lent a b }

pub ruleset answers = (refused_5_or_6, refused_7_or_19, accepted, analyses_1_to_3, analyses_4, analyses_from_5)
