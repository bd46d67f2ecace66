-- The reader's checks by entry: what a file has that passes them, and the body of a kind by its entry.
-- Assumes nothing.
use mathlib.Core.Path.{◌≡◌, refl, ap, ◌∙◌}
use mathlib.Core.Bool.{Bool, true, false, cond}
use mathlib.Core.List.{List, []}
use Rattle.std.specs.Prelude.{Option, None, Some}
use Prim.Native.Nat.{ℕ, zero, suc, ◌+◌, ◌≤◌, ◌<◌}
use native.Mathlib.Omega.{arith}
use borrow.Author.Tests.{ltb-false, eqb-true, eq-eqb, not-false}
use lib.Dec.{eqb}
use lib.ListN.{length}
use Rattle.least.specs.Search.{pick, first_where}
use Rattle.least.proofs.Where.{where_none, where_some}
use Rattle.plan.specs.PlanFile.{Ask, WrongKind, WrongPlace, WrongSize, OfKind}
use Rattle.plan.specs.PlanFile.{count, entry_at, section_at, sections_from, sections_of, body_of, script_kind, wrong_length, wrong_count}
use Rattle.plan.specs.PlanFile.{start_at, first_wrong_record, asked, first_entry, entries_refusal, read_refusal, part_of}
use Rattle.plan.specs.Inside.{Listed, Placed}
use Rattle.plan.proofs.Tests.{or_inv, if_inv, at_inv}

module _ (f : List ℕ) where
  -- an accepted file hands back its body
  pub the_part : (k : ℕ) → read_refusal f ≡ None → part_of k f ≡ body_of k (sections_of f)
  unfolding part_of
  the_part k e = rw e

  -- WHAT AN ACCEPTED FILE HAS PASSED
  pub record Passed : Type 0 where
    pub length_right : wrong_length (length f) ≡ false
    pub count_right : wrong_count (count f) (length f) ≡ false
    pub kinds : first_entry WrongKind f ≡ None
    pub places : first_entry WrongPlace f ≡ None
    pub sizes : first_entry WrongSize f ≡ None
    pub records : first_wrong_record (body_of script_kind (sections_of f)) ≡ None

  pub passed : read_refusal f ≡ None → Passed
  unfolding read_refusal entries_refusal
  passed e =
      let l = if_inv _ _ _ e in
      let n = if_inv _ _ _ l.1 in
      let k = at_inv _ _ _ n.1 in
      let p = at_inv _ _ _ k.1 in
      let s = at_inv _ _ _ p.1 in
      let r = at_inv _ _ _ s.1 in
      record { length_right = l.0; count_right = n.0; kinds = k.0; places = p.0; sizes = s.0; records = r.0 }

  pub all_passed : Passed → read_refusal f ≡ None
  unfolding read_refusal entries_refusal
  all_passed p = rw (p.length_right, p.count_right, p.kinds, p.places, p.sizes, p.records)

  pub listed : wrong_count (count f) (length f) ≡ false → Listed f
  listed e =
      let a = or_inv _ _ e in
      let b = or_inv _ _ a.0 in
      record { some = ltb-false _ _ b.0; few = ltb-false _ _ b.1; whole = ltb-false _ _ a.1 }

  -- a question that no entry answers with yes
  pub no_entry : (a : Ask) → first_entry a f ≡ None → (i : ℕ) → i < count f → asked a f i ≡ false
  unfolding first_entry
  no_entry a e i h = where_none (asked a f) (count f) 0 e i (omega arith) (omega arith)

  -- an entry that was found is one of the file's
  pub entry_in : (a : Ask) (i : ℕ) → first_entry a f ≡ Some i → i < count f
  unfolding first_entry
  entry_in a i e = omega (arith, where_some (asked a f) (count f) 0 i e)

  -- a body in its place
  pub record InPlace (i : ℕ) : Type 0 where
    pub begins : (entry_at f i).offset ≡ start_at f i
    pub inside : (entry_at f i).offset + (entry_at f i).length ≤ length f
    pub ends : i + 1 ≡ count f → (entry_at f i).offset + (entry_at f i).length ≡ length f

  pub in_place : first_entry WrongPlace f ≡ None → (i : ℕ) → i < count f → InPlace i
  unfolding asked
  in_place e i h =
      let a = or_inv _ _ (no_entry WrongPlace e i h) in
      let b = or_inv _ _ a.0 in
      record {
        begins = eqb-true _ _ (not-false _ b.0);
        inside = ltb-false _ _ b.1;
        ends = λ q. eqb-true _ _ (not-false _ (rw (eq-eqb _ _ q) at a.1));
      }

  pub placed : Listed f → first_entry WrongPlace f ≡ None → Placed f
  placed l e = record { listed = l; within = λ i h. (in_place e i h).inside }

  -- THE BODY OF A KIND, by its entry
  abbrev pub body_at : Option ℕ → List ℕ
  body_at (Some i) = (section_at f i).body
  body_at None = []

  picked : (b : Bool) (i : ℕ) (rest : List ℕ) (o : Option ℕ) → rest ≡ body_at o → cond b (section_at f i).body rest ≡ body_at (pick b (Some i) o)
  picked true i rest o e = refl
  picked false i rest o e = e

  body_from : (k i n : ℕ) → body_of k (sections_from f i n) ≡ body_at (first_where (asked (OfKind k) f) i n)
  unfolding body_of sections_from first_where asked
  body_from k i zero = refl
  body_from k i (suc n) = picked (eqb (entry_at f i).kind k) i _ _ (body_from k (suc i) n)

  pub body_is : (k : ℕ) (o : Option ℕ) → first_entry (OfKind k) f ≡ o → body_of k (sections_of f) ≡ body_at o
  unfolding sections_of first_entry
  body_is k o e = body_from k 0 (count f) ∙ ap body_at e
