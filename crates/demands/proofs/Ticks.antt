-- A tick that is taken is a step as the theorems see it, and keeps the rows well formed. The rows of a machine are told by their fields, which no
-- tick changes, and their stages. Assumes nothing.
use Prim.Native.Nat.{ℕ, zero, suc, ◌+◌, ◌≤◌, ◌<◌}
use mathlib.Core.Path.{◌≡◌, refl, sym, ap, ◌∙◌}
use mathlib.Core.Bool.{Bool, true, false, cond}
use mathlib.Core.List.{List, [], ◌∷◌}
use mathlib.Core.Logic.{◌⊎◌, inl, inr, ◌≢◌}
use native.Mathlib.Omega.{arith}
use native.Mathlib.Decide.{dec_le, ℕ_discrete}
use lib.Dec.{leb}
use lib.ListN.{length, get_or, set, length-set, get_or-eq_default}
use lib.Seq.{get_or-set_same, get_or-set_other}
use borrow.Author.Tests.{le-leb}
use Rattle.machine.specs.declared.Stage.{Stage}
use Rattle.machine.specs.declared.Row.{Row}
use Rattle.machine.specs.declared.Machine.{Machine}
use Rattle.machine.specs.Rows.{no_row, with_stage, in_mask, Found, at, none, first_from, first, or_else, map_from, is_hyper, has_begun, has_budget}
use Rattle.machine.specs.TickRule.{past_last, younger_than, too_soon, while_hyper, enforced, verdict, accepted, begun, waiting, ready, chosen, ran_from}
use Rattle.machine.specs.TickRule.{turned, ran_on}
use Rattle.machine.proofs.Searches.{none_at, map_at, map_length}
use Rattle.machine.proofs.Choice.{turned_length}
use Rattle.machine.proofs.Tests.{first_fails}
use Rattle.machine.proofs.Verdicts.{Passed, passed}
use Rattle.demands.proofs.Source.{View, Source, nothing_new, new_job, Served, by_nobody, by_guest, by_hypertask, Step}
use Rattle.demands.proofs.Guests.{Phase}
use Rattle.demands.proofs.Rows.{left_of, budget_of, next_arrival_of, next_hyper_of, Fits, Okay, Free, free, turned_stage, Mid, mid, mid_none}
use Rattle.demands.proofs.Rows.{After, stays, ran_stage, runs, hyper_falls, guest_falls, not_waiting, not_ready, begun_of, begun_is, clash}

abbrev pub row_at : List Row → ℕ → Row
row_at l j = get_or l j no_row

abbrev pub stage_at : List Row → ℕ → Stage
stage_at l j = (row_at l j).stage

pub out : (l : List Row) (j : ℕ) → length l ≤ j → row_at l j ≡ no_row
out l j h = get_or-eq_default l no_row h

-- a row with the fields of another
abbrev pub Shaped : Row → Row → Type 0
Shaped p q = p ≡ with_stage q p.stage

shaped : (p q : Row) (s : Stage) → p ≡ with_stage q s → Shaped p q
shaped p q s e = e ∙ ap (with_stage q) (sym (ap (λ (x : Row). x.stage) e))

-- the rows after steps 1 and 2
pub turned_at : (c mask : ℕ) (l : List Row) (j : ℕ) → j < length l →
    row_at (turned c mask l) j ≡ with_stage (row_at l j) (turned_stage (row_at l j) c (in_mask mask j) (stage_at l j))
unfolding turned
turned_at c mask l j h =
    let z : 0 + j ≡ j = omega arith in
    let f : ℕ → Row → Row = λ i r. with_stage r (enforced c r.k r.e r.stage) in
    let g : ℕ → Row → Row = λ i r. with_stage r (cond (in_mask mask i) (Stage.Guest c 0) r.stage) in
    rw z at (map_at g (map_from f 0 l) 0 j (rw (map_length f l 0) h) ∙ ap (g (0 + j)) (map_at f l 0 j h))

-- what a search finds
data Looked (p : Row → Bool) (i : ℕ) (l : List Row) : Found → Type 0 where
  hit : (r k : ℕ) → r ≡ i + k → k < length l → p (row_at l k) ≡ true → ((j : ℕ) → j < k → p (row_at l j) ≡ false) → Looked p i l (at r)
  miss : ((j : ℕ) → p (row_at l j) ≡ false) → Looked p i l none

look : (p : Row → Bool) → p no_row ≡ false → (l : List Row) (i : ℕ) → Looked p i l (first_from (λ j r. p r) i l)
unfolding first_from
look p pn [] i = miss (λ j. pn)
look p pn (r ∷ rs) i = go (p r) refl (first_from (λ j r. p r) (suc i) rs) (look p pn rs (suc i))
  where
    below : p r ≡ false → (k : ℕ) → ((j : ℕ) → j < k → p (row_at rs j) ≡ false) → (j : ℕ) → j < suc k → p (row_at (r ∷ rs) j) ≡ false
    below q k n zero u = q
    below q k n (suc j) u = n j (omega arith)

    go : (b : Bool) → p r ≡ b → (o : Found) → Looked p (suc i) rs o → Looked p i (r ∷ rs) (cond b (at i) o)
    go true q o f = hit i 0 (omega arith) (omega arith) q (λ j h. absurd (omega arith))
    go false q o (hit x k e h t n) = hit x (suc k) (omega arith) (omega arith) t (below q k n)
    go false q o (miss n) = miss (λ j. below q (suc j) (λ i u. n i) j (omega arith))

module _ (row : ℕ → Row) (N : ℕ) where
  -- well formed rows at the start of tick c; cur: the only one that may have begun
  pub record RowsFit (c : ℕ) (l : List Row) : Type 0 where
    pub long : N ≤ length l
    pub full : length l ≡ 32
    pub shape : (j : ℕ) → Shaped (row_at l j) (row j)
    pub okay : (j : ℕ) → Okay (row j) c (stage_at l j)
    pub past : (j : ℕ) → N ≤ j → stage_at l j ≡ Stage.Never
    pub cur : ℕ
    pub only : (j : ℕ) → has_begun (row j).k (stage_at l j) ≡ true → j ≡ cur

  -- what the arrivals of a taken tick may be
  pub record Legal (c mask : ℕ) (l : List Row) : Type 0 where
    pub named : (j : ℕ) → N ≤ j → j < length l → in_mask mask j ≡ false
    pub spaced : (j : ℕ) → j < N → in_mask mask j ≡ true → Free (row j) c (stage_at l j)

  abbrev pub view : ℕ → List Row → View
  view c l =
      record {
        left = λ j. left_of (stage_at l j);
        budget = λ j. budget_of (row j) (stage_at l j);
        next_hyper = λ j. next_hyper_of (row j) c (stage_at l j);
        next_arrival = λ j. next_arrival_of (row j) c (stage_at l j);
      }

  pub record Ticked (c : ℕ) (l y : List Row) : Type 0 where
    pub step : Step (λ j. (row j).t) (λ j. (row j).c) (λ j. (row j).k) c (view c l) (view (suc c) y)
    pub dom : (j : ℕ) → N ≤ j → step.left° j ≡ 0
    pub wf : RowsFit (suc c) y
    pub phases : (j : ℕ) → Phase (suc c) (row j).t (row j).e ((view (suc c) y).next_hyper j) ((view (suc c) y).next_arrival j)

  -- refusals 10, 11 and 12
  pub legal : (m : Machine) (mask : ℕ) → m.count ≡ N → RowsFit m.clock m.rows → verdict m mask ≡ accepted → Legal m.clock mask m.rows
  legal m mask n W v = record { named = named; spaced = spaced }
    where
      P : Passed m mask
      P = passed m mask v

      named : (j : ℕ) → N ≤ j → j < length m.rows → in_mask mask j ≡ false
      named j h k =
          let z : 0 + j ≡ j = omega arith in
          first_fails (in_mask mask j) (leb m.count j) (le-leb m.count j (omega arith))
          (rw z at (none_at (past_last mask m.count) m.rows 0 j P.known k))

      spaced : (j : ℕ) → j < N → in_mask mask j ≡ true → Free (row j) m.clock (stage_at m.rows j)
      spaced j h b =
          let z : 0 + j ≡ j = omega arith in
          let k : j < length m.rows = omega (arith, W.long) in
          let x = rw (z, b) at (none_at (too_soon mask m.clock) m.rows 0 j P.apart k) in
          let y = rw (z, b) at (none_at (while_hyper mask) m.rows 0 j P.free k) in
          free (row j) m.clock (stage_at m.rows j) (W.okay j)
          (ap (λ (r : Row). younger_than m.clock r.t (stage_at m.rows j)) (sym (W.shape j)) ∙ x) y

widen : {c T K l d l° d' : ℕ} (d'' : ℕ) → Source c T K l d l° d' → d' ≤ d'' → Source c T K l d l° d''
widen d'' (nothing_new a b) h = nothing_new a (omega arith)
widen d'' (new_job a b e) h = new_job a b (omega arith)

module _ (row : ℕ → Row) (N : ℕ) (fits : (j : ℕ) → j < N → Fits (row j)) (c mask signal : ℕ) (early : Bool) (l : List Row)
    (W : RowsFit row N c l) (G : Legal row N c mask l) where
  abbrev x : List Row
  x = turned c mask l

  pub xlen : length x ≡ length l
  xlen = turned_length c mask l

  -- of a row of the table after steps 1 and 2
  pub turned_stage_lem : (j : ℕ) → j < N → stage_at x j ≡ turned_stage (row j) c (in_mask mask j) (stage_at l j)
  turned_stage_lem j h =
      ap (λ (r : Row). r.stage) (turned_at c mask l j (omega (arith, W.long)))
      ∙ ap (λ (r : Row). turned_stage r c (in_mask mask j) (stage_at l j)) (W.shape j)

  -- and of a place past the last one
  pub turned_past : (j : ℕ) → N ≤ j → stage_at x j ≡ Stage.Never
  turned_past j h =
      elim (dec_le (suc j) (length l)) [
        | yes k ↦
            ap (λ (r : Row). r.stage) (turned_at c mask l j k)
            ∙ ap (λ (b : Bool). turned_stage (row_at l j) c b (stage_at l j)) (G.named j h k)
            ∙ ap (enforced c (row_at l j).k (row_at l j).e) (W.past j h)
        | no k ↦ ap (λ (r : Row). r.stage) (out x j (omega (arith, xlen)))
      ]

  pub xshape : (j : ℕ) → Shaped (row_at x j) (row j)
  xshape j =
      elim (dec_le (suc j) (length l)) [
        | yes k ↦ (
            let s : Stage = turned_stage (row_at l j) c (in_mask mask j) (stage_at l j) in
            shaped (row_at x j) (row j) s (turned_at c mask l j k ∙ ap (λ (r : Row). with_stage r s) (W.shape j))
            )
        | no k ↦
            let e : row_at x j ≡ row_at l j = out x j (omega (arith, xlen)) ∙ sym (out l j (omega arith)) in
            shaped (row_at x j) (row j) (stage_at l j) (e ∙ W.shape j)
      ]

  pub ymid : (j : ℕ) → Mid (row j) c (stage_at l j) (stage_at x j)
  ymid j =
      elim (dec_le (suc j) N) [
        | yes h ↦ rw (turned_stage_lem j h) (mid (row j) c (in_mask mask j) (stage_at l j) (fits j h) (W.okay j) (G.spaced j h))
        | no h ↦ rw (turned_past j (omega arith), W.past j (omega arith)) (mid_none (row j) c)
      ]

  -- the tests of step 3, by the fields and the stage
  begun_as : (j : ℕ) → has_begun (row_at x j).k (stage_at x j) ≡ has_begun (row j).k (stage_at x j)
  begun_as j = ap (λ (r : Row). has_begun r.k (stage_at x j)) (xshape j)

  ready_as : (j : ℕ) → has_budget (row_at x j).c (stage_at x j) ≡ has_budget (row j).c (stage_at x j)
  ready_as j = ap (λ (r : Row). has_budget r.c (stage_at x j)) (xshape j)

  -- the rows after the run, y, from a run of row r or of none
  module _ (y : List Row) (ylen : length y ≡ length x) (yshape : (j : ℕ) → Shaped (row_at y j) (row j))
      (ypast : (j : ℕ) → N ≤ j → stage_at y j ≡ Stage.Never) (aft : (j : ℕ) → After (row j) c (stage_at x j) (stage_at y j)) where
    ticked : (cur : ℕ) → ((j : ℕ) → has_begun (row j).k (stage_at y j) ≡ true → j ≡ cur) →
        Served (λ j. (row j).k) (view row N c l).left (view row N c x).left (view row N (suc c) y).left (view row N c x).budget
        (view row N (suc c) y).budget →
        Ticked row N c l y
    ticked cur only ran =
        record {
          step = record {
            left° = (view row N c x).left;
            budget° = (view row N c x).budget;
            hypertasks = λ j. widen ((view row N (suc c) y).next_hyper j) (ymid j).hypertask_part (aft j).next_hyper;
            guest_parts = λ j. widen ((view row N (suc c) y).next_arrival j) (ymid j).guest_part (aft j).next_arrival;
            left_falls = λ j. (aft j).left;
            budget_falls = λ j. (aft j).budget;
            run = ran;
          };
          dom = λ j h. ap left_of (turned_past j h);
          wf = record {
            long = omega (arith, W.long, xlen);
            full = ylen ∙ xlen ∙ W.full;
            shape = yshape;
            okay = λ j. (aft j).okay;
            past = ypast;
            cur = cur;
            only = only;
          };
          phases = λ j. (aft j).phase;
        }

  -- no row ran
  none_ran : ((j : ℕ) → is_hyper (stage_at x j) ≡ false) → ((j : ℕ) → has_budget (row j).c (stage_at x j) ≡ false) → Ticked row N c l x
  none_ran np nr =
      ticked x refl xshape turned_past (λ j. stays (row j) c (stage_at x j) (ymid j).okay) 0 (λ j h. cc ((begun_is (row j) (stage_at x j) h).0, np j))
      (by_nobody (λ j. not_waiting (stage_at x j) (np j)) (λ j. not_ready (row j) (stage_at x j) (nr j)))

  module _ (r : ℕ) (lr : r < length x) where
    -- the row that ran, and the rows afterwards
    abbrev z : Row
    z = with_stage (row_at x r) (ran_from (r + 1) signal early (row_at x r).c (stage_at x r)).stage

    abbrev y : List Row
    y = set x r z

    pub here : stage_at y r ≡ ran_stage (row r) (r + 1) signal early (stage_at x r)
    here =
        ap (λ (q : Row). q.stage) (get_or-set_same x r z no_row lr)
        ∙ ap (λ (q : Row). ran_stage q (r + 1) signal early (stage_at x r)) (xshape r)

    there : (j : ℕ) → j ≢ r → row_at y j ≡ row_at x j
    there j h = get_or-set_other x r j z no_row h

    yshape : (j : ℕ) → Shaped (row_at y j) (row j)
    yshape j =
        elim (ℕ_discrete j r) [
          | yes q ↦ rw q (shaped (row_at y r) (row r) z.stage (get_or-set_same x r z no_row lr ∙ ap (λ (w : Row). with_stage w z.stage) (xshape r)))
          | no q ↦ shaped (row_at y j) (row j) (stage_at x j) (there j q ∙ xshape j)
        ]

    module _ (who : (has_budget (row r).c (stage_at x r) ≡ true) ⊎ (is_hyper (stage_at x r) ≡ true)) where
      inside : r < N
      inside =
          elim (dec_le N r) [
            | yes h ↦ elim who [
              | inl t ↦ clash (sym (ap (has_budget (row r).c) (turned_past r h)) ∙ t)
              | inr t ↦ clash (sym (ap is_hyper (turned_past r h)) ∙ t)
            ]
            | no h ↦ omega arith
          ]

      ypast : (j : ℕ) → N ≤ j → stage_at y j ≡ Stage.Never
      ypast j h = ap (λ (q : Row). q.stage) (there j (λ q. absurd (omega (arith, inside)))) ∙ turned_past j h

      aft : (j : ℕ) → After (row j) c (stage_at x j) (stage_at y j)
      aft j =
          elim (ℕ_discrete j r) [
            | yes q ↦ rw (q, here) (runs (row r) c (r + 1) signal early (stage_at x r) (ymid r).okay who)
            | no q ↦ (let e : stage_at y j ≡ stage_at x j = ap (λ (w : Row). w.stage) (there j q) in rw e (stays (row j) c (stage_at x j) (ymid j).okay))
          ]

      ylen : length y ≡ length x
      ylen = length-set x r z

    guest_ran : has_budget (row r).c (stage_at x r) ≡ true → ((j : ℕ) → j < r → has_budget (row j).c (stage_at x j) ≡ false) →
        ((j : ℕ) → is_hyper (stage_at x j) ≡ false) → Ticked row N c l y
    guest_ran t n np =
        ticked y (ylen (inl t)) yshape (ypast (inl t)) (aft (inl t)) r
        (λ j h. elim (ℕ_discrete j r) [
          | yes q ↦ q
          | no q ↦ (let e : stage_at y j ≡ stage_at x j = ap (λ (w : Row). w.stage) (there j q) in cc ((begun_is (row j) (stage_at x j) (rw e at h)).0, np j))
        ])
        (by_guest r (λ j. not_waiting (stage_at x j) (np j)) (λ j h. not_ready (row j) (stage_at x j) (n j h))
        (rw here (guest_falls (row r) (r + 1) signal early (stage_at x r) t)))

    hyper_ran : is_hyper (stage_at x r) ≡ true → ((j : ℕ) → has_begun (row j).k (stage_at x j) ≡ true → j ≡ r) →
        ((left_of (stage_at l r) < (row r).k) × (left_of (stage_at x r) ≤ left_of (stage_at l r))) ⊎ ((j : ℕ) → j < r → left_of (stage_at x j) ≡ 0) →
        Ticked row N c l y
    hyper_ran t o why =
        ticked y (ylen (inr t)) yshape (ypast (inr t)) (aft (inr t)) r only
        (by_hypertask r (rw here (hyper_falls (row r) c (r + 1) signal early (stage_at x r) (ymid r).okay t))
        (λ k p h. only k (begun_of (row k) (stage_at y k) p h)) why)
      where
        only : (j : ℕ) → has_begun (row j).k (stage_at y j) ≡ true → j ≡ r
        only j h =
            elim (ℕ_discrete j r) [
              | yes q ↦ q
              | no q ↦ (let e : stage_at y j ≡ stage_at x j = ap (λ (w : Row). w.stage) (there j q) in o j (rw e at h))
            ]

  -- step 3 chose one of these
  pub ticks : (n : ℕ) → Ticked row N c l (ran_on n c x signal early (chosen x)).machine.rows
  unfolding chosen
  ticks n =
      go (first begun x) (look (λ r. has_begun r.k r.stage) refl x 0) (first waiting x) (look (λ r. is_hyper r.stage) refl x 0)
      (first ready x) (look (λ r. has_budget r.c r.stage) refl x 0)
    where
      was : (j : ℕ) → has_begun (row j).k (stage_at x j) ≡ true → j ≡ W.cur
      was j h = W.only j (rw ((ymid j).old h) at h)

      go : (f : Found) → Looked (λ r. has_begun r.k r.stage) 0 x f → (g : Found) → Looked (λ r. is_hyper r.stage) 0 x g →
          (h : Found) → Looked (λ r. has_budget r.c r.stage) 0 x h →
          Ticked row N c l (ran_on n c x signal early (or_else f (or_else g h))).machine.rows
      go f (hit r k e h t b) g u w v =
          let s : k ≡ r = omega arith in
          let q : has_begun (row r).k (stage_at x r) ≡ true = sym (begun_as r) ∙ (rw s at t) in
          hyper_ran r (omega arith) (begun_is (row r) (stage_at x r) q).0 (λ j p. cc (was j p, was r q))
          (inl (rw (← ((ymid r).old q)) (begun_is (row r) (stage_at x r) q).1, omega (arith, ap left_of ((ymid r).old q))))
      go f (miss b) g (hit r k e h t u) w v =
          let s : k ≡ r = omega arith in
          hyper_ran r (omega arith) (rw s at t) (λ j p. cc (sym (begun_as j) ∙ b j, p)) (inr (λ j p. not_waiting (stage_at x j) (u j (omega arith))))
      go f (miss b) g (miss u) w (hit r k e h t v) =
          let s : k ≡ r = omega arith in
          guest_ran r (omega arith) (sym (ready_as r) ∙ (rw s at t)) (λ j p. sym (ready_as j) ∙ v j (omega arith)) u
      go f (miss b) g (miss u) w (miss v) = none_ran u (λ j. sym (ready_as j) ∙ v j)
