-- Worked cases of the C interface, number by number: answers as 12 bytes, machines as 258 numbers, and what each function hands back.
-- Assumes nothing.
use Rattle.std.specs.Prelude.{ℕ, ◌^◌, ◌≡◌, Bool, true, false, List, [], ◌∷◌, ◌++◌, length, take, set, replicate, None, Some, Ok, Err}
use Rattle.refusals.specs.declared.Refusal.{Refusal}
use Rattle.machine.specs.declared.Stage.{Stage}
use Rattle.machine.specs.declared.Row.{Row}
use Rattle.machine.specs.declared.Machine.{Machine}
use Rattle.machine.specs.declared.Ran.{Ran}
use Rattle.machine.specs.declared.Mark.{Mark}
use Rattle.machine.specs.Answers.{Answer}
use Rattle.machine.specs.Rows.{no_row}
use Rattle.plan.specs.Cases.{table, script, plan_of_p2}
use Rattle.export.specs.Numbers.{number_in, place_in}
use Rattle.export.specs.Start.{start_says, state_started}
use Rattle.export.specs.State.{state_of, machine_in, readable}
use Rattle.export.specs.Files.{refusal_number, refusal_place, to_front, table_in, script_in}
use Rattle.export.specs.Step.{step_in, step_refusal, state_stepped, answer_stepped}
use Rattle.export.specs.Ticks.{answer_bytes, ticks_refusal, ticks_taken, state_after, answers_after}

-- ## Answers: clock (4 bytes), place (4), who, task or number, mark, ignored

abbrev pub took : Ran → Mark → Bool → Answer
took ran mark ignored = Ok (record { ran = ran; mark = mark; ignored = ignored })

pub record AnswersRight : Type 0 where
  pub guest : answer_bytes 0 (took (Ran.Guest 1) Mark.Nothing false) ≡ 0 ∷ 0 ∷ 0 ∷ 0 ∷ 0 ∷ 0 ∷ 0 ∷ 0 ∷ 1 ∷ 1 ∷ 0 ∷ 0 ∷ []
  pub guest_has_output : answer_bytes 5 (took (Ran.Guest 32) Mark.Output false) ≡ 5 ∷ 0 ∷ 0 ∷ 0 ∷ 0 ∷ 0 ∷ 0 ∷ 0 ∷ 1 ∷ 32 ∷ 1 ∷ 0 ∷ []
  pub budget_used : answer_bytes 256 (took (Ran.Guest 3) Mark.BudgetUsedUp true) ≡ 0 ∷ 1 ∷ 0 ∷ 0 ∷ 0 ∷ 0 ∷ 0 ∷ 0 ∷ 1 ∷ 3 ∷ 2 ∷ 1 ∷ []
  -- of the clock the lowest 32 bits
  pub hypertask : answer_bytes (2 ^ 32) (took (Ran.Hypertask 2) Mark.Output true) ≡ 0 ∷ 0 ∷ 0 ∷ 0 ∷ 0 ∷ 0 ∷ 0 ∷ 0 ∷ 2 ∷ 2 ∷ 1 ∷ 1 ∷ []
  pub nobody : answer_bytes 67305985 (took Ran.Nobody Mark.Nothing true) ≡ 1 ∷ 2 ∷ 3 ∷ 4 ∷ 0 ∷ 0 ∷ 0 ∷ 0 ∷ 0 ∷ 0 ∷ 0 ∷ 1 ∷ []
  pub refusal : answer_bytes 9 (Err (Refusal.ArrivalTooSoon 2)) ≡ 9 ∷ 0 ∷ 0 ∷ 0 ∷ 2 ∷ 0 ∷ 0 ∷ 0 ∷ 3 ∷ 11 ∷ 0 ∷ 0 ∷ []

-- ## Machines: count, clock, then T D C K E, stage, arrival, used or left of each place

abbrev row : ℕ → ℕ → ℕ → ℕ → ℕ → Stage → Row
row t d c k e s = record { t = t; d = d; c = c; k = k; e = e; stage = s }

-- four rows, one in each stage
abbrev pub four : Machine
four =
    record {
      rows = row 10 9 2 1 7 Stage.Never ∷ row 20 19 4 3 16 (Stage.Guest 6 2) ∷ row 30 29 5 8 12 (Stage.Hyper 1 3) ∷ row 40 39 6 1 7 (Stage.Closed 4)
          ∷ replicate 28 no_row;
      count = 4;
      clock = 15;
    }

abbrev pub four_numbers : List ℕ
four_numbers =
    (4 ∷ 15 ∷ [])
    ++ (10 ∷ 9 ∷ 2 ∷ 1 ∷ 7 ∷ 0 ∷ 0 ∷ 0 ∷ [])
    ++ (20 ∷ 19 ∷ 4 ∷ 3 ∷ 16 ∷ 1 ∷ 6 ∷ 2 ∷ [])
    ++ (30 ∷ 29 ∷ 5 ∷ 8 ∷ 12 ∷ 2 ∷ 1 ∷ 3 ∷ [])
    ++ (40 ∷ 39 ∷ 6 ∷ 1 ∷ 7 ∷ 3 ∷ 4 ∷ 0 ∷ [])
    ++ replicate 224 0

-- count, clock and one row; all other places are blank
abbrev pub one_row : List ℕ → List ℕ
one_row l = l ++ replicate 248 0

-- a fresh machine of P2, and with its task a Guest at 0, one tick used
abbrev pub p2_fresh : List ℕ
p2_fresh = one_row (1 ∷ 0 ∷ 10 ∷ 8 ∷ 3 ∷ 2 ∷ 6 ∷ 0 ∷ 0 ∷ 0 ∷ [])

abbrev pub p2_arrived : List ℕ
p2_arrived = one_row (1 ∷ 1 ∷ 10 ∷ 8 ∷ 3 ∷ 2 ∷ 6 ∷ 1 ∷ 0 ∷ 1 ∷ [])

-- and with a number that isn't 0 in a place past the last row
abbrev pub p2_stray : List ℕ
p2_stray = set p2_fresh 48 123

pub record StatesRight : Type 0 where
  pub to_numbers : state_of four ≡ four_numbers
  pub from_numbers : machine_in four_numbers ≡ four
  pub read : readable four_numbers ≡ true
  -- too few numbers; a field of 2^32, in the first place and in the last; a stage number above 3
  pub too_few : readable (take 257 four_numbers) ≡ false
  pub wide_t : readable (set four_numbers 2 4294967296) ≡ false
  pub wide_d : readable (set four_numbers 3 4294967296) ≡ false
  pub wide_c : readable (set four_numbers 4 4294967296) ≡ false
  pub wide_k : readable (set four_numbers 5 4294967296) ≡ false
  pub wide_e : readable (set four_numbers 254 4294967296) ≡ false
  pub largest_field : readable (set four_numbers 254 4294967295) ≡ true
  pub no_stage : readable (set four_numbers 7 4) ≡ false
  -- a number that its stage has no use for: Never's arrival and ticks, Closed's ticks, a place past the last row, the very last number
  pub never_arrival : readable (set four_numbers 8 1) ≡ false
  pub never_ticks : readable (set four_numbers 9 1) ≡ false
  pub closed_ticks : readable (set four_numbers 33 1) ≡ false
  pub past_the_last : readable (set four_numbers 48 123) ≡ false
  pub very_last : readable (set four_numbers 257 1) ≡ false
  -- a number that has a use may be any
  pub guest_arrival : readable (set four_numbers 16 99) ≡ true
  pub guest_ticks : readable (set four_numbers 17 0) ≡ true
  pub hyper_arrival : readable (set four_numbers 24 0) ≡ true
  pub hyper_ticks : (readable (set four_numbers 25 0) ≡ true) × (readable (set four_numbers 25 99) ≡ true)
  pub closed_arrival : (readable (set four_numbers 32 0) ≡ true) × (readable (set four_numbers 32 99) ≡ true)

-- ## What the functions hand back

-- the guest of task 1 ran, with neither an output nor a signal
abbrev pub guest_at : ℕ → List ℕ
guest_at clock = clock ∷ 0 ∷ 0 ∷ 0 ∷ 0 ∷ 0 ∷ 0 ∷ 0 ∷ 1 ∷ 1 ∷ 0 ∷ 0 ∷ []

pub record FunctionsRight : Type 0 where
  -- 0 and the number of tasks, or number and place
  pub accepted : (number_in (Ok 2) ≡ 0) × (place_in (Ok 2) ≡ 2)
  pub refused_7 : (number_in (Err (Refusal.NoGuestWindow 1)) ≡ 7) × (place_in (Err (Refusal.NoGuestWindow 1)) ≡ 1)
  pub refused_19 : (number_in (Err (Refusal.NoHypertaskWindow 2)) ≡ 19) × (place_in (Err (Refusal.NoHypertaskWindow 2)) ≡ 2)
  -- a start of P2 into 259 numbers, and into one too few
  pub starts : (number_in (start_says table 259) ≡ 0) × (place_in (start_says table 259) ≡ 1)
  pub started : state_started table (replicate 259 9) ≡ p2_fresh ++ (9 ∷ [])
  pub short_start : (number_in (start_says table 257) ≡ 18) × (place_in (start_says table 257) ≡ 258)
  pub not_started : state_started table (9 ∷ 9 ∷ []) ≡ 9 ∷ 9 ∷ []
  -- the first two ticks of P2's script: an arrival, and one that brings nothing; a third answer has no room
  pub ticks : ticks_taken p2_fresh (length (take 24 script)) 35 ≡ 2
  pub tick_state : state_after p2_fresh script 1 ≡ p2_arrived
  pub tick_answers : answers_after p2_fresh script (replicate 25 9) 2 ≡ guest_at 0 ++ guest_at 1 ++ (9 ∷ [])
  -- from a state that can't be read: 8 at 0, and nothing is touched
  pub unread : (refusal_number (ticks_refusal p2_stray) ≡ 8) × (refusal_place (ticks_refusal p2_stray) (ticks_taken p2_stray 8 12) ≡ 0)
  pub unread_none : ticks_taken p2_stray 8 12 ≡ 0
  pub unread_state : state_after p2_stray script (ticks_taken p2_stray 8 12) ≡ p2_stray
  pub unread_answers : answers_after p2_stray script (replicate 12 9) (ticks_taken p2_stray 8 12) ≡ replicate 12 9
  -- an accepted file, and a refused one
  pub file_accepted : (refusal_number None ≡ 0) × (refusal_place None 108 ≡ 108)
  pub file_refused : (refusal_number (Some (Refusal.BodyPlace 2)) ≡ 15) × (refusal_place (Some (Refusal.BodyPlace 2)) 108 ≡ 2)
  -- the parts of P2's plan; of a refused file there is none
  pub table_part : table_in plan_of_p2 ≡ 10 ∷ 8 ∷ 3 ∷ 2 ∷ []
  pub script_part : script_in plan_of_p2 ≡ script
  pub no_parts : (table_in (set plan_of_p2 0 3) ≡ []) × (script_in (set plan_of_p2 0 3) ≡ [])
  -- to the front of lent memory, or nothing where it is too short
  pub fits : to_front (1 ∷ 2 ∷ []) (9 ∷ 9 ∷ 9 ∷ []) ≡ 1 ∷ 2 ∷ 9 ∷ []
  pub fits_not : to_front (1 ∷ 2 ∷ []) (9 ∷ []) ≡ 9 ∷ []

-- ## One tick a call

-- number and place, the state afterwards, and the answer afterwards
abbrev pub step_says : List ℕ → ℕ → ℕ → ℕ → ℕ → List ℕ
step_says state mask signal early room =
    refusal_number (step_refusal state mask signal early room) ∷ refusal_place (step_refusal state mask signal early room) 0 ∷ []

abbrev pub step_leaves : List ℕ → ℕ → ℕ → ℕ → ℕ → List ℕ
step_leaves state mask signal early room = state_stepped (step_refusal state mask signal early room) (step_in state mask signal early) state

abbrev pub step_writes : List ℕ → ℕ → ℕ → ℕ → List ℕ → List ℕ
step_writes state mask signal early lent =
    answer_stepped (step_refusal state mask signal early (length lent)) (machine_in state).clock (step_in state mask signal early) lent

-- one row, T 10, D 9, C 3, K 3, E 6; its job came at 0, and its hypertask has run once of three
abbrev pub begun_at : ℕ → List ℕ
begun_at clock = one_row (1 ∷ clock ∷ 10 ∷ 9 ∷ 3 ∷ 3 ∷ 6 ∷ 2 ∷ 0 ∷ 2 ∷ [])

pub record StepsRight : Type 0 where
  -- the first tick of P2 brings its arrival: 12 bytes, and the one past them as it was lent
  pub arrival : step_says p2_fresh 1 0 0 13 ≡ 0 ∷ 0 ∷ []
  pub arrival_state : step_leaves p2_fresh 1 0 0 13 ≡ p2_arrived
  pub arrival_answer : step_writes p2_fresh 1 0 0 (replicate 13 9) ≡ guest_at 0 ++ (9 ∷ [])
  -- the guest gives its output; a number past the 258 stays
  pub output : step_says p2_arrived 0 1 0 12 ≡ 0 ∷ 0 ∷ []
  pub output_state : step_leaves (p2_arrived ++ (9 ∷ [])) 0 1 0 12 ≡ one_row (1 ∷ 2 ∷ 10 ∷ 8 ∷ 3 ∷ 2 ∷ 6 ∷ 3 ∷ 0 ∷ 0 ∷ []) ++ (9 ∷ [])
  pub output_answer : step_writes p2_arrived 0 1 0 (replicate 12 9) ≡ 1 ∷ 0 ∷ 0 ∷ 0 ∷ 0 ∷ 0 ∷ 0 ∷ 0 ∷ 1 ∷ 1 ∷ 1 ∷ 0 ∷ []
  -- a hypertask that has begun, two ticks left: with the early-end mark it gives its output now, without it one is left
  pub early : step_says (begun_at 7) 0 0 1 12 ≡ 0 ∷ 0 ∷ []
  pub early_state : step_leaves (begun_at 7) 0 0 1 12 ≡ one_row (1 ∷ 8 ∷ 10 ∷ 9 ∷ 3 ∷ 3 ∷ 6 ∷ 3 ∷ 0 ∷ 0 ∷ [])
  pub early_answer : step_writes (begun_at 7) 0 0 1 (replicate 12 9) ≡ 7 ∷ 0 ∷ 0 ∷ 0 ∷ 0 ∷ 0 ∷ 0 ∷ 0 ∷ 2 ∷ 1 ∷ 1 ∷ 0 ∷ []
  pub silent_state : step_leaves (begun_at 7) 0 0 0 12 ≡ one_row (1 ∷ 8 ∷ 10 ∷ 9 ∷ 3 ∷ 3 ∷ 6 ∷ 2 ∷ 0 ∷ 1 ∷ [])
  pub silent_answer : step_writes (begun_at 7) 0 0 0 (replicate 12 9) ≡ 7 ∷ 0 ∷ 0 ∷ 0 ∷ 0 ∷ 0 ∷ 0 ∷ 0 ∷ 2 ∷ 1 ∷ 0 ∷ 0 ∷ []
  -- an early mark above 1, also before a short answer and a state that can't be read
  pub wrong_early : (step_says p2_fresh 1 0 2 13 ≡ 17 ∷ 0 ∷ []) × (step_says p2_stray 1 0 2 11 ≡ 17 ∷ 0 ∷ [])
  -- an answer too short, also before a state that can't be read
  pub short_answer : (step_says p2_fresh 1 0 0 11 ≡ 18 ∷ 12 ∷ []) × (step_says p2_stray 1 0 0 11 ≡ 18 ∷ 12 ∷ [])
  -- a state that can't be read, also before a mask that names no task; one that can, with no rows
  pub unread : (step_says p2_stray 32 0 0 12 ≡ 8 ∷ 0 ∷ []) × (step_says (set p2_fresh 0 0) 1 0 0 12 ≡ 8 ∷ 0 ∷ [])
  -- the tick rule's own: the clock at its end, no task 6, task 1 again after 1 tick, task 1 while it is Hyper
  pub clock_at_end : step_says (set p2_fresh 1 (2 ^ 40)) 1 0 0 12 ≡ 9 ∷ 0 ∷ []
  pub no_task : step_says p2_fresh 32 0 0 12 ≡ 10 ∷ 6 ∷ []
  pub came_too_soon : step_says p2_arrived 1 0 0 12 ≡ 11 ∷ 1 ∷ []
  pub came_while_hyper : step_says (begun_at 10) 1 0 0 12 ≡ 12 ∷ 1 ∷ []
  -- a refusal leaves state and answer as they were
  pub unread_left : (step_leaves p2_stray 1 0 0 13 ≡ p2_stray) × (step_writes p2_stray 1 0 0 (replicate 13 9) ≡ replicate 13 9)
  pub too_soon_left : (step_leaves p2_arrived 1 0 0 13 ≡ p2_arrived) × (step_writes p2_arrived 1 0 0 (replicate 13 9) ≡ replicate 13 9)
