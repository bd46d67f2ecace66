-- The file of a table and a script, piece by piece, and what the writer's checks come to.
-- Assumes nothing.
use mathlib.Core.Path.{◌≡◌, refl, sym, ap, ◌∙◌}
use mathlib.Core.Bool.{Bool, true, false, cond}
use mathlib.Core.List.{List, [], ◌∷◌, ◌++◌, append-nil, append_assoc}
use Rattle.std.specs.Prelude.{Option, None, Some, Ok}
use Prim.Native.Nat.{ℕ, suc, ◌+◌, ◌*◌, ◌%◌, ◌≤◌}
use native.Mathlib.Omega.{arith}
use borrow.Author.Tests.{ltb-false, eqb-true, not-false, eq-eqb, ne_eqb}
use lib.Dec.{ltb, eqb, eqb-suc-zero}
use lib.ListN.{length, length-append}
use lib.Seq.{sets}
use Rattle.refusals.specs.declared.Refusal.{Refusal}
use Rattle.refusals.specs.declared.Refusal.TheVariants.{FileLength, OutputShort}
use Rattle.plan.specs.Numbers.{bytes_of, table_bytes}
use Rattle.plan.specs.Refuse.{refuse_if}
use Rattle.plan.specs.PlanFile.{entry_bytes, contents, bodies, file_of, rows_kind, script_kind, wrong_length, first_wrong_record}
use Rattle.plan.specs.Writer.{optional, plan_of, plan_file, wrong_table, write_refusal, writing_of, after_writing, Writes}
use Rattle.plan.specs.Inside.{optional_bytes, optional_count, section_count, bodies_at, file_length, head_bytes}
use Rattle.plan.proofs.Digits.{table_length}
use Rattle.plan.proofs.Puts.{sets_front}
use Rattle.plan.proofs.Tests.{or_inv, if_inv, at_inv}

-- an entry that is there, and one that is left out
entry_there : (k o n : ℕ) → (n ≡ 0 → ⊥) → optional_bytes k o n ≡ entry_bytes k o n
unfolding optional_bytes
entry_there k o n h = rw (ne_eqb n 0 h)

entry_left_out : (k o n : ℕ) → n ≡ 0 → optional_bytes k o n ≡ []
unfolding optional_bytes
entry_left_out k o n h = rw (eq-eqb n 0 h)

-- the count and the contents, with a script and without
module _ (m n x : ℕ) (counted : x ≡ section_count n) where
  pub head_of_two : (n ≡ 0 → ⊥)
      → bytes_of x ++ entry_bytes rows_kind (4 + 12 * x) (4 * m) ++ entry_bytes script_kind (4 + 12 * x + 4 * m) n ≡ head_bytes m n
  head_of_two h =
      rw counted
      (ap (λ (l : List ℕ). bytes_of (section_count n) ++ entry_bytes rows_kind (bodies_at n) (4 * m) ++ l)
      (sym (entry_there script_kind (bodies_at n + 4 * m) n h)))

  pub head_of_one : n ≡ 0 → bytes_of x ++ entry_bytes rows_kind (4 + 12 * x) (4 * m) ≡ head_bytes m n
  head_of_one h =
      rw counted
      (ap (λ (l : List ℕ). bytes_of (section_count n) ++ entry_bytes rows_kind (bodies_at n) (4 * m) ++ l)
      (sym (entry_left_out script_kind (bodies_at n + 4 * m) n h)))

  pub two_sections : (n ≡ 0 → ⊥) → x ≡ 2
  unfolding optional_count
  two_sections h = counted ∙ rw (ne_eqb n 0 h)

-- a section that is left out where it is empty: how many it makes, its entry, its body
optional_count_lem : (k : ℕ) (b : List ℕ) → length (optional k b) ≡ optional_count (length b)
unfolding optional_count
optional_count_lem k [] = refl
optional_count_lem k (x ∷ xs) = rw (eqb-suc-zero (length xs))

optional_contents : (at k : ℕ) (b : List ℕ) → contents at (optional k b) ≡ optional_bytes k at (length b)
unfolding contents optional_bytes
optional_contents at k [] = refl
optional_contents at k (x ∷ xs) = rw (eqb-suc-zero (length xs))

optional_bodies : (k : ℕ) (b : List ℕ) → bodies (optional k b) ≡ b
unfolding bodies
optional_bodies k [] = refl
optional_bodies k (x ∷ xs) = append-nil (x ∷ xs)

optional_bytes_lem : (k o n : ℕ) → length (optional_bytes k o n) ≡ 12 * optional_count n
unfolding optional_bytes optional_count
optional_bytes_lem k o n = go (eqb n 0)
  where
    go : (b : Bool) → length (cond b [] (entry_bytes k o n)) ≡ 12 * cond b 0 1
    go true = refl
    go false = refl

-- THE PIECES
pub plan_bytes : (t s : List ℕ) → plan_file t s ≡ head_bytes (length t) (length s) ++ table_bytes t ++ s
unfolding plan_file plan_of file_of contents bodies
plan_bytes t s =
    let m = length t in
    let n = length s in
    let tb = table_bytes t in
    let os = optional script_kind s in
    let c : suc (length os) ≡ section_count n = omega (arith, optional_count_lem script_kind s) in
    ap (λ (x : ℕ). bytes_of x ++ (entry_bytes rows_kind (4 + 12 * x) (length tb) ++ contents (4 + 12 * x + length tb) os) ++ (tb ++ bodies os)) c
    ∙ ap (λ (x : ℕ). bytes_of (section_count n) ++ (entry_bytes rows_kind (bodies_at n) x ++ contents (bodies_at n + x) os)
    ++ (tb ++ bodies os)) (table_length t)
    ∙ ap (λ (l : List ℕ). bytes_of (section_count n) ++ (entry_bytes rows_kind (bodies_at n) (4 * m) ++ l) ++ (tb ++ bodies os))
    (optional_contents (bodies_at n + 4 * m) script_kind s)
    ∙ ap (λ (l : List ℕ). head_bytes m n ++ (tb ++ l)) (optional_bodies script_kind s)
    ∙ sym (append_assoc (head_bytes m n) tb s)

pub head_length : (m n : ℕ) → length (head_bytes m n) ≡ bodies_at n
head_length m n = omega (arith, optional_bytes_lem script_kind (bodies_at n + 4 * m) n)

pub plan_length : (t s : List ℕ) → length (plan_file t s) ≡ file_length (length t) (length s)
plan_length t s =
    let head = head_bytes (length t) (length s) in
    ap length (plan_bytes t s)
    ∙ length-append (head ++ table_bytes t) s
    ∙ omega (arith, length-append head (table_bytes t), head_length (length t) (length s), table_length t)

-- THE CHECKS OF THE TOTAL AND OF THE ROOM
module _ (t s : List ℕ) (room : ℕ) where
  -- the total, as the code counts it
  module _ (need : ℕ) (counted : need ≡ file_length (length t) (length s)) where
    whole : length (plan_file t s) ≡ need
    whole = plan_length t s ∙ sym counted

    pub stop_total : wrong_table (length t) ≡ false → length s % 8 ≡ 0 → first_wrong_record s ≡ None → wrong_length need ≡ true
        → write_refusal t s room ≡ Some (FileLength need)
    unfolding write_refusal
    stop_total e g h k = rw (e, eq-eqb _ _ g, h, whole) (rw k)

    pub stop_room : wrong_table (length t) ≡ false → length s % 8 ≡ 0 → first_wrong_record s ≡ None → wrong_length need ≡ false
        → ltb room need ≡ true
        → write_refusal t s room ≡ Some (OutputShort need)
    unfolding write_refusal
    stop_room e g h k l = rw (e, eq-eqb _ _ g, h, whole) (rw (k, l))

    pub go_write : wrong_table (length t) ≡ false → length s % 8 ≡ 0 → first_wrong_record s ≡ None → wrong_length need ≡ false
        → ltb room need ≡ false
        → write_refusal t s room ≡ None
    unfolding write_refusal
    go_write e g h k l = rw (e, eq-eqb _ _ g, h, whole) (rw (k, l))

  -- WHAT AN ACCEPTED WRITE HAS PASSED
  pub record Allowed : Type 0 where
    pub some : 4 ≤ length t
    pub few : length t ≤ 128
    pub fours : length t % 4 ≡ 0
    pub eights : length s % 8 ≡ 0
    pub records : first_wrong_record s ≡ None
    pub total : length (plan_file t s) ≤ 65536
    pub fits : length (plan_file t s) ≤ room

  pub table_right : wrong_table (length t) ≡ false → (4 ≤ length t) × (length t ≤ 128) × (length t % 4 ≡ 0)
  table_right e =
      let a = or_inv _ _ e in
      let b = or_inv _ _ a.0 in
      (ltb-false _ _ b.0, ltb-false _ _ b.1, eqb-true _ _ (not-false _ a.1))

  pub allowed : write_refusal t s room ≡ None → Allowed
  unfolding write_refusal
  allowed e =
      let a = if_inv _ _ _ e in
      let b = if_inv _ _ _ a.1 in
      let c = at_inv _ _ _ b.1 in
      let n = length (plan_file t s) in
      let d = if_inv (wrong_length n) (FileLength n) (refuse_if (ltb room n) (OutputShort n) None) c.1 in
      let g = if_inv (ltb room n) (OutputShort n) None d.1 in
      let h = table_right a.0 in
      record {
        some = h.0;
        few = h.1;
        fours = h.2;
        eights = eqb-true _ _ (not-false _ b.0);
        records = c.0;
        total = ltb-false _ _ (or_inv (ltb n 4) (ltb 65536 n) d.0).1;
        fits = ltb-false _ _ g.0;
      }

-- THE PROMISE, each way out
module _ (t s lent : List ℕ) where
  pub file_written : (n : ℕ) (after : List ℕ) → write_refusal t s (length lent) ≡ None → n ≡ file_length (length t) (length s)
      → after ≡ sets lent 0 (plan_file t s) → Writes t s lent (Ok n) after
  file_written n after e p q =
      record {
        answers = ap Ok (p ∙ sym (plan_length t s)) ∙ sym (ap (λ (o : Option Refusal). writing_of o (length (plan_file t s))) e);
        leaves = q
            ∙ sets_front lent (plan_file t s) (allowed t s (length lent) e).fits
            ∙ sym (ap (λ (o : Option Refusal). after_writing o (plan_file t s) lent) e);
      }
