-- What the private functions of src/ find on their way over the rows, said by the searches of the tick rule. It is no second
-- rule: the proofs tie it to TickRule and WellFormed, and no public function cites it. Assumes nothing.
use Rattle.std.specs.Prelude.{◌≡◌, ℕ, ◌+◌, ◌^◌, Bool, true, false, not, cond, ◌&&◌, ◌||◌, List, take, drop, leb, ltb, eqb}
use Rattle.std.specs.Prelude.{Option, Some, None, is_some, Result, Ok, Err}
use Rattle.std.specs.Option.{option_or}
use Rattle.refusals.specs.declared.Refusal.{Refusal}
use Rattle.machine.specs.declared.Stage.{Stage}
use Rattle.machine.specs.declared.Row.{Row}
use Rattle.machine.specs.declared.Machine.{Machine}
use Rattle.machine.specs.declared.Taken.{Taken}
use Rattle.machine.specs.declared.Stepped.{Stepped}
use Rattle.machine.specs.declared.Seen.{Seen}
use Rattle.machine.specs.Rows.{in_mask, age, Found, at, none, first, map_from, every, is_hyper, has_begun, has_budget, with_stage}
use Rattle.machine.specs.WellFormed.{row_fits, is_blank, one_begun}
use Rattle.machine.specs.TickRule.{younger_than, past_last, too_soon, while_hyper, enforced, begun, waiting, ready}

-- what was found, as src/ has it
abbrev pub place : Found → Option ℕ
place (at i) = Some i
place none = None

abbrev pub found : Option ℕ → Found
found (Some i) = at i
found None = none

abbrev pub is_none : Found → Bool
is_none (at i) = false
is_none none = true

-- a place where the state isn't well formed by itself
abbrev pub misplaced : ℕ → ℕ → ℕ → Row → Bool
misplaced clock count i r = not (cond (ltb i count) (row_fits clock r) (is_blank r))

-- every place is well formed by itself, and one hypertask at most has begun
unfoldable pub places_fit : ℕ → ℕ → List Row → Bool
places_fit clock count rows =
    leb count 32 && (every (row_fits clock) (take count rows) && (one_begun rows && every is_blank (drop count rows)))

-- 8, unless all is well
abbrev pub answer_if : {T : Type 0} → Bool → T → Result T Refusal
answer_if fits x = cond fits (Ok x) (Err (Refusal.NotWellFormed 0))

-- one row after steps 1 and 2, by whether its task is in the mask
abbrev pub turned_by : ℕ → Bool → Row → Row
turned_by clock arrives r = with_stage r (cond arrives (Stage.Guest clock 0) (enforced clock r.k r.e r.stage))

-- refusals 11 and 12 let its task arrive
abbrev pub may_arrive : ℕ → Row → Bool
may_arrive clock r = not (younger_than clock r.t r.stage) && not (is_hyper r.stage)

-- rows as the pass leaves them: a task that may not arrive isn't turned to a Guest
abbrev pub passed_row : ℕ → ℕ → ℕ → Row → Row
passed_row clock mask i r = turned_by clock (in_mask mask i && may_arrive clock r) r

unfoldable pub passed_rows : ℕ → ℕ → List Row → List Row
passed_rows clock mask rows = map_from (passed_row clock mask) 0 rows

unfoldable pub turned_row : ℕ → ℕ → ℕ → Row → Row
turned_row clock mask i r = with_stage r (cond (in_mask mask i) (Stage.Guest clock 0) (enforced clock r.k r.e r.stage))

-- a Guest at its enforcement instant
abbrev pub is_due : ℕ → ℕ → Stage → Bool
is_due clock e Stage.Never = false
is_due clock e (Stage.Guest arrival used) = eqb (age clock arrival) e
is_due clock e (Stage.Hyper arrival left) = false
is_due clock e (Stage.Closed arrival) = false

-- The pass over the rows of the table, from the first to the last

-- what was found first stays; is: whether place i is one
abbrev pub first_kept : Option ℕ → Bool → ℕ → Option ℕ
first_kept x is i = cond is (option_or x (Some i)) x

-- of a task in the mask, as it was handed in
abbrev pub arrival_seen : ℕ → ℕ → Row → Seen → Seen
arrival_seen clock i r w =
    record {
      soon = first_kept w.soon (younger_than clock r.t r.stage) i;
      hyper = first_kept w.hyper (is_hyper r.stage) i;
      begun = w.begun;
      waiting = w.waiting;
      ready = w.ready;
    }

-- of a row after steps 1 and 2
abbrev pub turned_seen : ℕ → Row → Seen → Seen
turned_seen i r w =
    record {
      soon = w.soon;
      hyper = w.hyper;
      begun = w.begun;
      waiting = first_kept w.waiting (is_hyper r.stage) i;
      ready = first_kept w.ready (has_budget r.c r.stage) i;
    }

-- a second hypertask that has begun
abbrev pub second_begun : Row → Seen → Bool
second_begun r w = has_begun r.k r.stage && is_some w.begun

-- one row more, at place i
unfoldable pub row_seen : ℕ → Bool → ℕ → Row → Seen → Seen
row_seen clock named i r w =
    record {
      soon = first_kept w.soon (named && younger_than clock r.t r.stage) i;
      hyper = first_kept w.hyper (named && is_hyper r.stage) i;
      begun = first_kept w.begun (has_begun r.k r.stage) i;
      waiting = first_kept w.waiting (is_hyper (turned_by clock (named && may_arrive clock r) r).stage) i;
      ready = first_kept w.ready (has_budget r.c (turned_by clock (named && may_arrive clock r) r).stage) i;
    }

-- what the rows l show
unfoldable pub seen_in : ℕ → ℕ → List Row → Seen
seen_in clock mask l =
    record {
      soon = place (first (too_soon mask clock) l);
      hyper = place (first (while_hyper mask) l);
      begun = place (first begun l);
      waiting = place (first waiting (passed_rows clock mask l));
      ready = place (first ready (passed_rows clock mask l));
    }

-- The verdict on what the pass found; where the tick is taken, the place that step 3 chooses

-- a begun hypertask, a waiting one, or the first ready guest
abbrev pub chosen_by : Seen → Option ℕ
chosen_by w = option_or (option_or w.begun w.waiting) w.ready

abbrev pub or_refused : (ℕ → Refusal) → Option ℕ → Result (Option ℕ) Refusal → Result (Option ℕ) Refusal
or_refused refusal (Some i) j = Err (refusal (i + 1))
or_refused refusal None j = j

unfoldable pub judged_by : Machine → ℕ → Seen → Result (Option ℕ) Refusal
judged_by m mask w =
    cond (ltb m.count 1 || ltb (2 ^ 40) m.clock) (Err (Refusal.NotWellFormed 0))
    (cond (eqb m.clock (2 ^ 40)) (Err (Refusal.ClockAtEnd 0))
    (or_refused Refusal.NoSuchTask (place (first (past_last mask m.count) m.rows))
    (or_refused Refusal.ArrivalTooSoon w.soon
    (or_refused Refusal.ArrivalWhileHyper w.hyper (Ok (chosen_by w))))))

-- what step 3 chooses: Hyper, or a Guest with budget
abbrev pub MayRun : Row → Type 0
MayRun r = (is_hyper r.stage || has_budget r.c r.stage) ≡ true

-- a tick of m that ends with the machine `next`; a refused one leaves m as it was
abbrev pub stepped_to : Machine → Machine → Result Taken Refusal → Stepped
stepped_to m next (Ok says) = record { machine = next; answer = Ok says }
stepped_to m next (Err why) = record { machine = m; answer = Err why }
