-- The reader accepts a file exactly where it is the file of a plan, and the plan is then the list of its sections.
-- Assumes nothing.
use mathlib.Core.Path.{◌≡◌, sym, ap, ◌∙◌}
use mathlib.Core.Bool.{false}
use mathlib.Core.List.{List}
use Rattle.std.specs.Prelude.{None}
use mathlib.Core.Logic.{⊎_elim}
use Prim.Native.Nat.{ℕ, zero, suc, ◌+◌, ◌*◌, ◌≤◌, ◌<◌}
use native.Mathlib.Nat.{lt_irrefl, eq-or-lt_of_le}
use native.Mathlib.Omega.{arith}
use borrow.Author.Tests.{le-ltb, eq-eqb, ne_eqb, ltb-false}
use lib.Dec.{ltb}
use lib.ListN.{length, drop, drop_of_length-le}
use Rattle.least.proofs.Where.{where_all}
use Rattle.plan.specs.PlanFile.{Ask, WrongKind, WrongPlace, WrongSize}
use Rattle.plan.specs.Numbers.{AllBelow}
use Rattle.plan.specs.PlanFile.{Section, bodies, file_of, count, entry_at, sections_of, body_of, script_kind, most_sections, wrong_count, wrong_kind}
use Rattle.plan.specs.PlanFile.{start_at, wrong_size, first_wrong_record, asked, first_entry, read_refusal, part_of}
use Rattle.plan.specs.Meaning.{section_in, Plan, Kinds32, OneMeaning}
use Rattle.plan.specs.Inside.{Listed}
use Rattle.plan.proofs.Tests.{or_inv, last_placed, inner_placed}
use Rattle.plan.proofs.Entries.{Passed, passed, all_passed, listed, no_entry, InPlace, in_place, the_part}
use Rattle.plan.proofs.Sections.{before, before_next, file_length_lem, count_read, body_inside, kind_read, offset_read, length_read, sections_read}
use Rattle.plan.proofs.ByKind.{kind_small}
use Rattle.plan.proofs.Again.{sections_count, section_is, body_length, file_again}

-- AN ACCEPTED FILE IS THE FILE OF A PLAN
module _ (f : List ℕ) (bytes : AllBelow 256 f) (accepted : read_refusal f ≡ None) where
  checks : Passed f
  checks = passed f accepted

  contents_fine : Listed f
  contents_fine = listed f checks.count_right

  places_fine : (i : ℕ) → i < count f → InPlace f i
  places_fine = in_place f checks.places

  pub meaning_file : file_of (sections_of f) ≡ f
  meaning_file = file_again f contents_fine places_fine bytes

  pub meaning_plan : Plan (sections_of f)
  unfolding asked
  meaning_plan =
      record {
        some = omega (arith, contents_fine, sections_count f);
        few = omega (arith, contents_fine, sections_count f);
        kinds = λ i h.
            let g : i < count f = omega (arith, sections_count f) in
            ap (λ (s : Section). wrong_kind i s.kind) (section_is f i g) ∙ no_entry f WrongKind checks.kinds i g;
        sizes = λ i h.
            let g : i < count f = omega (arith, sections_count f) in
            ap (λ (s : Section). wrong_size s.kind (length s.body)) (section_is f i g)
            ∙ ap (wrong_size (entry_at f i).kind) (body_length f contents_fine places_fine i g)
            ∙ no_entry f WrongSize checks.sizes i g;
        records = checks.records;
        short = omega (arith, ap length meaning_file, ltb-false 65536 (length f) (or_inv (ltb (length f) 4) (ltb 65536 (length f)) checks.length_right).1);
      }

-- THE FILE OF A PLAN IS ACCEPTED
count_fine : (n len : ℕ) → 1 ≤ n → n ≤ most_sections → 4 + 12 * n ≤ len → wrong_count n len ≡ false
count_fine n len a b c = rw (le-ltb n 1 a, le-ltb most_sections n b, le-ltb len (4 + 12 * n) c)

module _ (ss : List Section) (plan : Plan ss) where
  abbrev file : List ℕ
  file = file_of ss

  pub kinds_small : Kinds32 ss
  kinds_small i h = kind_small i (section_in ss i).kind (omega (arith, plan.few)) (plan.kinds i h)

  small : length file < 4294967296
  small = omega (arith, plan.short)

  pub sections_back : sections_of file ≡ ss
  sections_back = sections_read ss kinds_small small

  counted : count file ≡ length ss
  counted = count_read ss small

  -- each body begins where the one before it ends
  starts : (i : ℕ) → i < length ss → start_at file i ≡ 4 + 12 * length ss + before ss i
  unfolding start_at bodies
  starts zero h = omega (arith, counted)
  starts (suc i) h =
      let g : i < length ss = omega arith in
      omega (arith, offset_read ss small i g, length_read ss small i g, before_next ss i g)

  ends : (i : ℕ) (h : i < length ss)
      → (entry_at file i).offset + (entry_at file i).length + length (bodies (drop (suc i) ss)) ≡ length file
  ends i h = omega (arith, offset_read ss small i h, length_read ss small i h, body_inside ss small i h)

  place_right : (i : ℕ) → i < length ss → asked WrongPlace file i ≡ false
  unfolding asked bodies
  place_right i h = ⊎_elim last inner (eq-or-lt_of_le h)
    where
      e : (entry_at file i).offset ≡ start_at file i
      e = offset_read ss small i h ∙ sym (starts i h)

      last : suc i ≡ length ss → asked WrongPlace file i ≡ false
      last q =
          let d : length ss ≤ suc i = omega arith in
          let n = ap (λ (l : List Section). length (bodies l)) (drop_of_length-le ss d) in
          let z : (entry_at file i).offset + (entry_at file i).length ≡ length file = omega (arith, ends i h) in
          last_placed (start_at file i) _ (length file) (entry_at file i) (eq-eqb (i + 1) (count file) (omega (arith, counted))) e (omega arith)
          ∙ rw (eq-eqb _ _ z)

      inner : suc i < length ss → asked WrongPlace file i ≡ false
      inner q =
          inner_placed (start_at file i) _ (length file) (entry_at file i) (ne_eqb (i + 1) (count file) (λ z. lt_irrefl 0 (omega (arith, counted)))) e
          (omega (arith, ends i h))

  -- a question that is wrong of each section is wrong of each entry
  none_asked : (a : Ask) → ((i : ℕ) → i < length ss → asked a file i ≡ false) → first_entry a file ≡ None
  unfolding first_entry
  none_asked a no_one = where_all (asked a file) (count file) 0 (λ i _ h. no_one i (omega (arith, counted)))

  pub plan_accepted : read_refusal file ≡ None
  unfolding asked
  plan_accepted =
      all_passed file
      record {
        length_right = rw (le-ltb (length file) 4 (omega (arith, file_length_lem ss)), le-ltb 65536 (length file) plan.short);
        count_right = rw counted (count_fine (length ss) (length file) plan.some plan.few (omega (arith, file_length_lem ss)));
        kinds = none_asked WrongKind (λ i h. ap (wrong_kind i) (kind_read ss small i h (kinds_small i h)) ∙ plan.kinds i h);
        places = none_asked WrongPlace place_right;
        sizes = none_asked WrongSize
            (λ i h.
            ap (λ (k : ℕ). wrong_size k (entry_at file i).length) (kind_read ss small i h (kinds_small i h))
            ∙ ap (wrong_size (section_in ss i).kind) (length_read ss small i h)
            ∙ plan.sizes i h);
        records = ap (λ (l : List Section). first_wrong_record (body_of script_kind l)) sections_back ∙ plan.records;
      }

  -- and its parts are the plan's bodies
  pub plan_parts : (k : ℕ) → part_of k file ≡ body_of k ss
  plan_parts k = the_part file k plan_accepted ∙ ap (body_of k) sections_back

-- two plans with the same file are the same plan
pub file_injective : (ss us : List Section) → Plan ss → Plan us → file_of ss ≡ file_of us → ss ≡ us
file_injective ss us p q e = sym (sections_back ss p) ∙ ap sections_of e ∙ sections_back us q

-- EXACTLY ONE MEANING
pub one_meaning : (f : List ℕ) → AllBelow 256 f → read_refusal f ≡ None → OneMeaning f
one_meaning f bytes accepted =
    let h : length f ≤ 65536 = omega (arith, (meaning_plan f bytes accepted).short, ap length (meaning_file f bytes accepted)) in
    record {
      plan = meaning_plan f bytes accepted;
      file = meaning_file f bytes accepted;
      only = λ ss k e. sym (sections_read ss k (omega (arith, ap length e))) ∙ ap sections_of e;
    }
