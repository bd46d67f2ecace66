-- Laws of numbers that tell a machine: what can be read is told again, and what is told can be read.
-- Assumes nothing.
use mathlib.Core.Path.{◌≡◌, refl, sym, ap, ◌∙◌}
use mathlib.Core.Bool.{true, false, ◌||◌}
use mathlib.Core.Logic.{⊎_elim}
use mathlib.Core.List.{List, [], ◌∷◌, ◌++◌}
use Prim.Native.Nat.{ℕ, zero, suc, ◌+◌, ◌*◌, ◌≤◌, ◌<◌}
use native.Mathlib.Nat.{lt_irrefl, eq-or-lt_of_le, le_of_suc-le-suc}
use native.Mathlib.Omega.{arith}
use borrow.Author.Tests.{ltb-false, lt-leb}
use lib.Dec.{ltb}
use lib.ListN.{length, get_or, take, drop, length-append, length-drop, take-append-drop, get_or-append}
use lib.Seq.{take-suc, take-add, drop-drop, get_or_at, get_or-drop, ext_get_or}
use Rattle.least.specs.Lists.{list_of, flat}
use Rattle.least.proofs.Lists.{length_list, length_flat, flat_at}
use Rattle.least.proofs.Where.{where_all}
use Rattle.machine.specs.Rows.{no_row}
use Rattle.machine.specs.declared.Stage.{Stage}
use Rattle.machine.specs.declared.Row.{Row}
use Rattle.machine.specs.declared.Machine.{Machine}
use Rattle.plan.proofs.Tests.{or_inv}
use Rattle.export.specs.State.{stage_number, arrival_number, ticks_number, row_numbers, place_numbers, state_of}
use Rattle.export.specs.State.{stage_in, number_in, row_in, machine_in, stray, unreadable, readable}
use Rattle.export.proofs.States.{Fields, fields, can_read, all_readable}
use Rattle.export_laws.specs.States.{Fields32, Held}

-- ## Lists

-- place i of a list made from a function of the place
list_at : {A : Type 0} (f : ℕ → A) (n i : ℕ) (d : A) → i < n → get_or (list_of f n) i d ≡ f i
unfolding list_of
list_at f zero i d h = absurd (lt_irrefl 0 (omega arith))
list_at f (suc n) i d h =
    ⊎_elim
    (λ (e : i ≡ n). ap (λ (x : ℕ). get_or (list_of f n ++ (f n ∷ [])) x d) e ∙ get_or_at (list_of f n) (f n) [] d n (length_list f n) ∙ ap f (sym e))
    (λ (b : i < n). get_or-append (list_of f n) (f n ∷ []) d i (omega (arith, length_list f n)) ∙ list_at f n i d b)
    (eq-or-lt_of_le (le_of_suc-le-suc h))

-- n places of a list, from k on
part_is : (l : List ℕ) (k n : ℕ) → k + n ≤ length l → take n (drop k l) ≡ list_of (λ j. get_or l (k + j) 0) n
unfolding list_of
part_is l k zero h = refl
part_is l k (suc n) h =
    take-suc (drop k l) n 0 (omega (arith, length-drop k l))
    ∙ rw (part_is l k n (omega arith), get_or-drop k l n 0)

-- parts of eight one after the other, from 2 on
parts_are : (l : List ℕ) (f : ℕ → List ℕ) (n : ℕ) → ((i : ℕ) → i < n → f i ≡ take 8 (drop (2 + 8 * i) l))
    → flat f n ≡ take (8 * n) (drop 2 l)
unfolding flat
parts_are l f zero h = refl
parts_are l f (suc n) h =
    let z : 8 * n + 8 ≡ 8 * suc n = omega arith in
    rw (parts_are l f n (λ i b. h i (omega arith)), h n (omega arith))
    (ap (λ (x : List ℕ). take (8 * n) (drop 2 l) ++ take 8 x) (sym (drop-drop (8 * n) 2 l))
    ∙ sym (take-add (8 * n) 8 (drop 2 l))
    ∙ ap (λ (x : ℕ). take x (drop 2 l)) z)

-- ## Stages

-- the three numbers of the stage that three numbers say
stage_again : (a b c : ℕ) → a ≤ 3 → stray a b c ≡ false
    → (stage_number (stage_in a b c) ≡ a) × (arrival_number (stage_in a b c) ≡ b) × (ticks_number (stage_in a b c) ≡ c)
unfolding stray
stage_again zero b c h e =
    let o = or_inv (ltb 0 b) (ltb 0 c) e in
    let x = ltb-false 0 b o.0 in
    let y = ltb-false 0 c o.1 in
    (refl, omega arith, omega arith)
stage_again (suc zero) b c h e = (refl, refl, refl)
stage_again (suc (suc zero)) b c h e = (refl, refl, refl)
stage_again (suc (suc (suc zero))) b c h e = let x = ltb-false 0 c e in (refl, refl, omega arith)
stage_again (suc (suc (suc (suc a)))) b c h e = absurd (lt_irrefl 0 (omega arith))

-- the stage that the three numbers of a stage say
stage_back : (s : Stage) → stage_in (stage_number s) (arrival_number s) (ticks_number s) ≡ s
stage_back Stage.Never = refl
stage_back (Stage.Guest arrival used) = refl
stage_back (Stage.Hyper arrival left) = refl
stage_back (Stage.Closed arrival) = refl

-- they are a stage's, and each has its use
stage_said : (s : Stage) → ltb 3 (stage_number s) || stray (stage_number s) (arrival_number s) (ticks_number s) ≡ false
unfolding stray
stage_said Stage.Never = refl
stage_said (Stage.Guest arrival used) = refl
stage_said (Stage.Hyper arrival left) = refl
stage_said (Stage.Closed arrival) = refl

-- ## What can be read, told again

place_again : (l : List ℕ) (i : ℕ) → 258 ≤ length l → i < 32 → unreadable l i ≡ false → row_numbers (row_in l i) ≡ take 8 (drop (2 + 8 * i) l)
unfolding row_in list_of
place_again l i h b u =
    let f = fields l i u in
    let s = stage_again (number_in l i 5) (number_in l i 6) (number_in l i 7) f.stage_known f.none_stray in
    rw (s.0, s.1, s.2) (sym (part_is l (2 + 8 * i) 8 (omega arith)))

all_again : (l : List ℕ) → 258 ≤ length l → get_or l 0 0 ∷ get_or l 1 0 ∷ (take 256 (drop 2 l) ++ drop 258 l) ≡ l
all_again [] h = absurd (lt_irrefl 0 (omega arith))
all_again (x ∷ []) h = absurd (lt_irrefl 0 (omega arith))
all_again (x ∷ y ∷ l) h = ap (λ (r : List ℕ). x ∷ y ∷ r) (take-append-drop 256 l)

pub told_again : (l : List ℕ) → readable l ≡ true → state_of (machine_in l) ++ drop 258 l ≡ l
unfolding state_of machine_in
told_again l e =
    let c = can_read l e in
    let rows : flat (place_numbers (list_of (row_in l) 32)) 32 ≡ take 256 (drop 2 l) =
    parts_are l (place_numbers (list_of (row_in l) 32)) 32
    (λ i b. ap row_numbers (list_at (row_in l) 32 i no_row b) ∙ place_again l i c.long b (c.places i b)) in
    rw rows (all_again l c.long)

row_fields : (l : List ℕ) (i : ℕ) → Fields l i → Fields32 (row_in l i)
unfolding row_in
row_fields l i f = record { t_fits = f.t_fits; d_fits = f.d_fits; c_fits = f.c_fits; k_fits = f.k_fits; e_fits = f.e_fits }

pub held_again : (l : List ℕ) → readable l ≡ true → Held (machine_in l)
unfolding machine_in
held_again l e =
    record {
      places = length_list (row_in l) 32;
      fields = λ i b. rw (list_at (row_in l) 32 i no_row b) (row_fields l i (fields l i ((can_read l e).places i b)));
    }

-- ## What is told, read

state_length : (m : Machine) → length (state_of m) ≡ 258
unfolding state_of
state_length m = ap (λ (x : ℕ). suc (suc x)) (length_flat (place_numbers m.rows) 8 (λ i. refl) 32)

number_told : (m : Machine) (rest : List ℕ) (i k : ℕ) → i < 32 → k < 8
    → number_in (state_of m ++ rest) i k ≡ get_or (place_numbers m.rows i) k 0
unfolding state_of
number_told m rest i k a b =
    let z : 2 + 8 * i + k ≡ suc (suc (8 * i + k)) = omega arith in
    ap (λ (x : ℕ). get_or (state_of m ++ rest) x 0) z ∙ flat_at (place_numbers m.rows) 8 (λ j. refl) 32 i k rest 0 a b

-- eight numbers that are a row's: the place can be read, and it is that row
place_told : (l : List ℕ) (i : ℕ) (r : Row) → ((k : ℕ) → k < 8 → number_in l i k ≡ get_or (row_numbers r) k 0) → Fields32 r
    → (unreadable l i ≡ false) × (row_in l i ≡ r)
unfolding unreadable row_in
place_told l i r n f =
    rw (
      n 0 (omega arith),
      n 1 (omega arith),
      n 2 (omega arith),
      n 3 (omega arith),
      n 4 (omega arith),
      n 5 (omega arith),
      n 6 (omega arith),
      n 7 (omega arith),
      lt-leb _ _ f.t_fits,
      lt-leb _ _ f.d_fits,
      lt-leb _ _ f.c_fits,
      lt-leb _ _ f.k_fits,
      lt-leb _ _ f.e_fits,
      stage_back r.stage,
    )
    (stage_said r.stage, refl)

module _ (m : Machine) (rest : List ℕ) (h : Held m) where
  row_told : (i : ℕ) → i < 32 → (unreadable (state_of m ++ rest) i ≡ false) × (row_in (state_of m ++ rest) i ≡ get_or m.rows i no_row)
  row_told i b = place_told (state_of m ++ rest) i (get_or m.rows i no_row) (λ k d. number_told m rest i k b d) (h.fields i b)

  pub told_readable : readable (state_of m ++ rest) ≡ true
  told_readable =
      let l : List ℕ = state_of m ++ rest in
      sym
      (all_readable l (omega (arith, length-append (state_of m) rest, state_length m))
      (where_all (unreadable l) 32 0 (λ i a b. (row_told i (omega arith)).0)))

  rows_told : list_of (row_in (state_of m ++ rest)) 32 ≡ m.rows
  rows_told =
      let f = row_in (state_of m ++ rest) in
      ext_get_or no_row (list_of f 32) m.rows (length_list f 32 ∙ sym h.places)
      (λ i b.
      let c : i < 32 = omega (arith, length_list f 32) in
      list_at f 32 i no_row c ∙ (row_told i c).1)

  pub told_machine : machine_in (state_of m ++ rest) ≡ m
  unfolding machine_in state_of
  told_machine = ap (λ (x : List Row). record { rows = x; count = m.count; clock = m.clock }) rows_told
