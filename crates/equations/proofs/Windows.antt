-- Document 02, order 1: 7 and 19, by number and place, are given exactly where specs/Solutions says that the one window or the other fails.
-- Assumes nothing.
use mathlib.Core.Path.{◌≡◌, refl, sym, ap, subst, ◌∙◌}
use mathlib.Core.Bool.{Bool, true, false}
use mathlib.Core.List.{List}
use mathlib.Core.Logic.{◌⊎◌, ◌↔◌, ⊎_elim}
use Rattle.std.specs.Prelude.{Option, None, Some, Ok, Err}
use Prim.Native.Nat.{ℕ, zero, suc, ◌+◌, ◌*◌, ◌≤◌, ◌<◌}
use native.Mathlib.Nat.{lt_irrefl, le_refl}
use native.Mathlib.Numerals.{add-one}
use native.Mathlib.Omega.{arith}
use borrow.Author.Tests.{ltb-false}
use lib.Dec.{ltb}
use Rattle.least.specs.Search.{first, Least}
use Rattle.least.proofs.Least.{found, least_same}
use Rattle.refusals.specs.declared.Refusal.{Refusal}
use Rattle.refusals.specs.declared.Refusal.TheVariants.{NoActivePeriod, StartTooLate, NoGuestWindow, NoHypertaskWindow}
use Rattle.refusals.specs.Refusals.{number_of, place_of}
use Rattle.equations.specs.Table.{rows, T, C, K}
use Rattle.equations.specs.Hypertask.{response, E}
use Rattle.equations.specs.Guest.{window_side, WA, WE, guest}
use Rattle.equations.specs.Analysis.{stop_if}
use Rattle.equations.specs.Analysis.{table_check, results_check, hypertask_check, guest_check, and_then, solved, analysis, refuses, says}
use Rattle.equations.specs.Solutions.{WindowsReached, NoWA, NoWE, GuestWindowFails, HypertaskWindowFails}
use Rattle.equations.specs.Answers.{Response, Answer}
use Rattle.equations.proofs.Jobs.{guest_7, guest_19, window_same}
use Rattle.equations.proofs.Checks.{same_refusal, table_stopped, results_fit, entered, refused_7_or_19}
use Rattle.equations.proofs.Checks.{Rowwise, rows_start, rows_next, rows_stop}
use Rattle.equations.proofs.Exactly.{WA_found, WA_finds, R, G, table_sound, table_complete, hypertasks_sound, hypertasks_complete}
use Rattle.equations.proofs.Exactly.{pass_numbers, guest_sound, guest_complete, stop_if_passed}
use Rattle.equations.proofs.Refused.{NoActive, LateJob, OnlyWA, FirstFailing, response_fails, guest_fails, and_then_refused, refused_from_5}

-- ## A refusal past 6 comes from the windows

table_stops : (s : List ℕ) (f : Refusal) → table_check s ≡ Err f → number_of f ≤ 3
table_stops s = table_stopped s (λ (f : Refusal). number_of f ≤ 3) (omega arith) (λ k e. omega arith) (λ j e. omega arith)

results_stop : (s : List ℕ) (lent : ℕ) (f : Refusal) → results_check s lent ≡ Err f → number_of f ≤ 4
unfolding results_check
results_stop s lent f e = go (ltb lent (3 * rows s)) e
  where
    go : (b : Bool) → stop_if b (Refusal.ResultsShort (3 * rows s)) (Ok tt) ≡ Err f → number_of f ≤ 4
    go true q = rw (← same_refusal _ _ q) (omega arith)
    go false q = cc

response_stops : (s : List ℕ) (i : ℕ) (f : Refusal) → response s i ≡ Err f → number_of f ≤ 6
response_stops s i f e = ⊎_elim
    (λ (a : (f ≡ NoActivePeriod (i + 1)) × NoActive s i). rw a.0 (omega arith))
    (λ (a : (f ≡ StartTooLate (i + 1)) × LateJob s i). rw a.0 (omega arith))
    (response_fails s i f e)

-- what the first row whose windows fail has before it
record FromWindows (s : List ℕ) (lent : ℕ) (f : Refusal) : Type 0 where
  shape : table_check s ≡ (Ok tt)
  room : 3 * rows s ≤ lent
  hypertasks : hypertask_check s ≡ (Ok tt)
  first : FirstFailing (guest s) 0 (rows s) f

from_windows : (s : List ℕ) (lent : ℕ) (f : Refusal) → 7 ≤ number_of f → analysis s lent ≡ Err f → FromWindows s lent f
unfolding analysis results_check
from_windows s lent f late e = shape (and_then_refused (table_check s) _ f e)
  where
    windows : table_check s ≡ (Ok tt) → 3 * rows s ≤ lent
        → FirstFailing (response s) 0 (rows s) f ⊎ ((hypertask_check s ≡ (Ok tt)) × FirstFailing (guest s) 0 (rows s) f) → FromWindows s lent f
    windows a b = ⊎_elim
        (λ (w : FirstFailing (response s) 0 (rows s) f). absurd (lt_irrefl 0 (omega (arith, response_stops s w.row f w.fails))))
        (λ (w : (hypertask_check s ≡ (Ok tt)) × FirstFailing (guest s) 0 (rows s) f). record { shape = a; room = b; hypertasks = w.0; first = w.1 })

    room : table_check s ≡ (Ok tt) → (results_check s lent ≡ Err f) ⊎ ((results_check s lent ≡ (Ok tt)) × (solved s ≡ Err f))
        → FromWindows s lent f
    room a = ⊎_elim
        (λ (c : results_check s lent ≡ Err f). absurd (lt_irrefl 0 (omega (arith, results_stop s lent f c))))
        (λ (c : (results_check s lent ≡ (Ok tt)) × (solved s ≡ Err f)).
        windows a (ltb-false _ _ (stop_if_passed (ltb lent (3 * rows s)) _ _ c.0).0) (refused_from_5 s f c.1))

    shape : (table_check s ≡ Err f) ⊎ ((table_check s ≡ (Ok tt)) × (and_then (results_check s lent) (solved s) ≡ Err f)) → FromWindows s lent f
    shape = ⊎_elim
        (λ (c : table_check s ≡ Err f). absurd (lt_irrefl 0 (omega (arith, table_stops s f c))))
        (λ (c : (table_check s ≡ (Ok tt)) × (and_then (results_check s lent) (solved s) ≡ Err f)).
        room c.0 (and_then_refused (results_check s lent) _ f c.1))

reached_sound : (s : List ℕ) (lent : ℕ) (f : Refusal) (w : FromWindows s lent f) → WindowsReached s (R s) (E s) (G s) w.first.row
reached_sound s lent f w =
    record {
      hypertasks = hypertasks_sound s (table_sound s w.shape) w.hypertasks;
      row = omega (arith, w.first.below);
      earlier = λ k b. let a = w.first.earlier k (omega arith) b in guest_sound s k (G s k) (rw a.1);
    }

-- ## And a row whose windows are looked at gives the answer of its guest

rows_reached : (of : ℕ → Response) (n i : ℕ) → i ≤ n → ((k : ℕ) → k < i → (r : ℕ) × (of k ≡ Ok r)) → Rowwise of n i
rows_reached of n zero h each = rows_start of n
rows_reached of n (suc i) h each =
    let a = each i (le_refl (suc i)) in
    rw (← add-one i) (rows_next of n i a.0 (rows_reached of n i (omega arith) (λ k b. each k (omega arith))) h a.1)

module _ (s : List ℕ) (r e g : ℕ → ℕ) (i : ℕ) (w : WindowsReached s r e g i) where
  offsets : (j : ℕ) → j ≤ i → e j ≡ E s j
  offsets j b = (pass_numbers s r e w.hypertasks j (omega (arith, w.row))).1

  reached_refused : (lent : ℕ) (f : Refusal) → 3 * rows s ≤ lent → guest s i ≡ Err f → analysis s lent ≡ Err f
  unfolding guest_check
  reached_refused lent f h q =
      entered s lent (table_complete s w.hypertasks.sound) (results_fit s lent h)
      ∙ refused_7_or_19 s f (hypertasks_complete s r e w.hypertasks)
      (rows_stop (guest s) (rows s) i f (rows_reached (guest s) (rows s) i (omega (arith, w.row)) passed) w.row q)
    where
      passed : (k : ℕ) → k < i → (x : ℕ) × (guest s k ≡ Ok x)
      passed k b = (g k, guest_complete s e k (g k) (λ j c. offsets j (omega arith)) (w.earlier k b))

  same_side : (own v : ℕ) → window_side s e i own v ≡ window_side s (E s) i own v
  same_side own = window_same s e (E s) i own (λ j b. offsets j (omega arith))

  -- where no window is within its limit, none is found
  window_missing : (own last : ℕ) → ((v : ℕ) → 1 ≤ v → v ≤ last → v ≡ window_side s e i own v → ⊥)
      → first (window_side s (E s) i own) 1 last ≡ None
  window_missing own last h = by (first (window_side s (E s) i own) 1 last) refl
    where
      by : (o : Option ℕ) → first (window_side s (E s) i own) 1 last ≡ o → o ≡ None
      by None q = refl
      by (Some v) q =
          let l = found (window_side s (E s) i own) last 1 v q in
          absurd (h v l.0.from (omega (arith, l.1)) (l.0.solves ∙ sym (same_side own v)))

  WA_missing : NoWA s e i → WA s i ≡ None
  unfolding WA
  WA_missing h = window_missing (C s i) (E s i) (λ v a b. h v a (omega (arith, offsets i (le_refl i))))

  WE_missing : NoWE s e i → WE s i ≡ None
  unfolding WE
  WE_missing h = window_missing (C s i + K s i) (T s i) h

  WA_there : (v : ℕ) → Least (window_side s e i (C s i)) 1 v → v ≤ e i → WA s i ≡ Some v
  WA_there v l b = WA_finds s i v (least_same _ _ (same_side (C s i)) 1 v l) (omega (arith, offsets i (le_refl i)))

-- ## By number and place

refused_by : (a : Answer) (number place : ℕ) → says a ≡ refuses number place
    → (f : Refusal) × (a ≡ Err f) × (number_of f ≡ number) × (place_of f ≡ place)
refused_by (Ok n) number place e = cc
refused_by (Err f) number place e = (f, refl, cc, cc)

-- both are at the task of the row whose windows they are about
pub task_of_row : (s : List ℕ) (k : ℕ) (f : Refusal) → guest s k ≡ Err f → place_of f ≡ k + 1
task_of_row s k f e = ⊎_elim
    (λ (a : (f ≡ NoGuestWindow (k + 1)) × NoWA s (E s) k). ap place_of a.0)
    (λ (a : (f ≡ NoHypertaskWindow (k + 1)) × OnlyWA s k). ap place_of a.0)
    (guest_fails s k f e)

-- what a refusal past 6 at task i + 1 comes from
record FromRow (s : List ℕ) (lent number i : ℕ) : Type 0 where
  refusal : Refusal
  numbered : number_of refusal ≡ number
  room : 3 * rows s ≤ lent
  reached : WindowsReached s (R s) (E s) (G s) i
  fails : guest s i ≡ Err refusal

from_row : (s : List ℕ) (lent number i : ℕ) → 7 ≤ number → says (analysis s lent) ≡ refuses number (i + 1) → FromRow s lent number i
from_row s lent number i late e =
    let f = refused_by (analysis s lent) number (i + 1) e in
    let w = from_windows s lent f.0 (omega (arith, f.2)) f.1 in
    let row : w.first.row ≡ i = omega (arith, task_of_row s w.first.row f.0 w.first.fails, f.3) in
    record {
      refusal = f.0;
      numbered = f.2;
      room = w.room;
      reached = subst (WindowsReached s (R s) (E s) (G s)) row (reached_sound s lent f.0 w);
      fails = subst (λ (k : ℕ). guest s k ≡ Err f.0) row w.first.fails;
    }

-- ## "7 is only the first"

refused_7_sound : (s : List ℕ) (lent i : ℕ) → says (analysis s lent) ≡ refuses 7 (i + 1) → (3 * rows s ≤ lent) × GuestWindowFails s i
refused_7_sound s lent i q = (
  w.room,
  ⊎_elim
      (λ (a : (w.refusal ≡ NoGuestWindow (i + 1)) × NoWA s (E s) i).
      record { r = R s; e = E s; g = G s; reached = w.reached; no_window = a.1 })
      (λ (a : (w.refusal ≡ NoHypertaskWindow (i + 1)) × OnlyWA s i). absurd (lt_irrefl 0 (omega (arith, w.numbered, ap number_of a.0))))
      (guest_fails s i w.refusal w.fails),
)
  where
    w : FromRow s lent 7 i
    w = from_row s lent 7 i (le_refl 7) q

refused_7_complete : (s : List ℕ) (lent i : ℕ) → 3 * rows s ≤ lent → GuestWindowFails s i → says (analysis s lent) ≡ refuses 7 (i + 1)
refused_7_complete s lent i h p =
    let missing = WA_missing s p.r p.e p.g i p.reached p.no_window in
    ap says (reached_refused s p.r p.e p.g i p.reached lent _ h (guest_7 s i missing))

pub refused_7_exactly : (s : List ℕ) (lent i : ℕ)
    → (says (analysis s lent) ≡ refuses 7 (i + 1)) ↔ ((3 * rows s ≤ lent) × GuestWindowFails s i)
refused_7_exactly s lent i = (refused_7_sound s lent i, λ p. refused_7_complete s lent i p.0 p.1)

-- ## "19 is the second, checked right after 7 for the same task"

refused_19_sound : (s : List ℕ) (lent i : ℕ) → says (analysis s lent) ≡ refuses 19 (i + 1) → (3 * rows s ≤ lent) × HypertaskWindowFails s i
refused_19_sound s lent i q = (
  w.room,
  ⊎_elim
      (λ (a : (w.refusal ≡ NoGuestWindow (i + 1)) × NoWA s (E s) i). absurd (lt_irrefl 0 (omega (arith, w.numbered, ap number_of a.0))))
      (λ (a : (w.refusal ≡ NoHypertaskWindow (i + 1)) × OnlyWA s i).
      let first = WA_found s i a.1.0.0 a.1.0.1 in
      record {
        r = R s;
        e = E s;
        g = G s;
        reached = w.reached;
        wa = a.1.0.0;
        guest_begins = first.0;
        wa_within = first.1;
        no_window = a.1.1;
      })
      (guest_fails s i w.refusal w.fails),
)
  where
    w : FromRow s lent 19 i
    w = from_row s lent 19 i (omega arith) q

refused_19_complete : (s : List ℕ) (lent i : ℕ) → 3 * rows s ≤ lent → HypertaskWindowFails s i → says (analysis s lent) ≡ refuses 19 (i + 1)
refused_19_complete s lent i h p =
    let there = WA_there s p.r p.e p.g i p.reached p.wa p.guest_begins p.wa_within in
    let missing = WE_missing s p.r p.e p.g i p.reached p.no_window in
    ap says (reached_refused s p.r p.e p.g i p.reached lent _ h (guest_19 s i p.wa there missing))

pub refused_19_exactly : (s : List ℕ) (lent i : ℕ)
    → (says (analysis s lent) ≡ refuses 19 (i + 1)) ↔ ((3 * rows s ≤ lent) × HypertaskWindowFails s i)
refused_19_exactly s lent i = (refused_19_sound s lent i, λ p. refused_19_complete s lent i p.0 p.1)
