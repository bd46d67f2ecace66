-- A file whose bodies are all in their places, laid out again from its own sections: the same bytes.
-- Holds for any number of sections. Assumes nothing.
use mathlib.Core.Path.{◌≡◌, refl, sym, ap, ◌∙◌}
use mathlib.Core.List.{List, ◌++◌, append_assoc}
use Prim.Native.Nat.{ℕ, zero, suc, ◌+◌, ◌*◌, ◌≤◌, ◌<◌}
use native.Mathlib.Nat.{lt_irrefl}
use native.Mathlib.Omega.{arith}
use lib.ListN.{length, take, drop, length-take, length-drop, take-append-drop, drop_of_length-le}
use lib.Seq.{take-add, drop-drop}
use Rattle.plan.specs.Numbers.{number_at, bytes_of, AllBelow}
use Rattle.plan.specs.PlanFile.{entry_bytes, contents, bodies, file_of, count, entry_at, section_at, sections_from, sections_of, start_at}
use Rattle.plan.specs.Inside.{Listed}
use Rattle.plan.specs.Meaning.{section_in}
use Rattle.plan.proofs.Digits.{four}
use Rattle.plan.proofs.Tests.{same3}
use Rattle.plan.proofs.Entries.{InPlace}

-- the twelve bytes of an entry
three_numbers_lem : (f : List ℕ) (p : ℕ) → p + 12 ≤ length f → AllBelow 256 f
    → entry_bytes (number_at f p) (number_at f (p + 4)) (number_at f (p + 8)) ≡ take 12 (drop p f)
three_numbers_lem f p h b =
    ap (λ (x : List ℕ). x ++ bytes_of (number_at f (p + 4)) ++ bytes_of (number_at f (p + 8))) (four f p (omega arith) b)
    ∙ ap (λ (x : List ℕ). take 4 (drop p f) ++ x ++ bytes_of (number_at f (p + 8))) (four f (p + 4) (omega arith) b ∙ ap (take 4) (sym (drop-drop 4 p f)))
    ∙ ap (λ (x : List ℕ). take 4 (drop p f) ++ take 4 (drop 4 (drop p f)) ++ x) (four f (p + 8) (omega arith) b ∙ ap (take 4) (sym (drop-drop 8 p f)))
    ∙ ap (λ (x : List ℕ). x ++ take 4 (drop 8 (drop p f))) (sym (take-add 4 4 (drop p f)))
    ∙ sym (take-add 8 4 (drop p f))

sections_length : (f : List ℕ) (i n : ℕ) → length (sections_from f i n) ≡ n
unfolding sections_from
sections_length f i zero = refl
sections_length f i (suc n) = ap suc (sections_length f (suc i) n)

pub sections_count : (f : List ℕ) → length (sections_of f) ≡ count f
unfolding sections_of
sections_count f = sections_length f 0 (count f)

section_from : (f : List ℕ) (n j i : ℕ) → i < n → section_in (sections_from f j n) i ≡ section_at f (j + i)
unfolding sections_from
section_from f zero j i h = absurd (lt_irrefl 0 (omega arith))
section_from f (suc n) j zero h = let z : j ≡ j + 0 = omega arith in ap (section_at f) z
section_from f (suc n) j (suc i) h =
    let z : suc j + i ≡ j + suc i = omega arith in
    section_from f n (suc j) i (omega arith) ∙ ap (section_at f) z

pub section_is : (f : List ℕ) (i : ℕ) → i < count f → section_in (sections_of f) i ≡ section_at f i
unfolding sections_of
section_is f i h = let z : 0 + i ≡ i = omega arith in section_from f (count f) 0 i h ∙ ap (section_at f) z

module _ (f : List ℕ) (l : Listed f) (in_place : (i : ℕ) → i < count f → InPlace f i) where
  -- a body is as long as its entry says
  pub body_length : (i : ℕ) → i < count f → length (section_at f i).body ≡ (entry_at f i).length
  body_length i h =
      length-take (entry_at f i).length (drop (entry_at f i).offset f)
      ∙ omega (arith, length-drop (entry_at f i).offset f, (in_place i h).inside)

  bodies_again : (n i : ℕ) → i + n ≡ count f → bodies (sections_from f i n) ≡ drop (start_at f i) f
  unfolding sections_from bodies start_at
  bodies_again zero zero e = absurd (lt_irrefl 0 (omega (arith, l.some)))
  bodies_again zero (suc i) e =
      let h : length f ≤ start_at f (suc i) = omega (arith, (in_place i (omega arith)).ends (omega arith)) in
      sym (drop_of_length-le f h)
  bodies_again (suc n) i e =
      let a = (entry_at f i).offset in
      let m = (entry_at f i).length in
      ap (λ (r : List ℕ). take m (drop a f) ++ r) (bodies_again n (suc i) (omega arith) ∙ sym (drop-drop m a f))
      ∙ take-append-drop m (drop a f)
      ∙ ap (λ (x : ℕ). drop x f) (in_place i (omega arith)).begins

  module _ (bytes : AllBelow 256 f) where
    twelve : (i : ℕ) → i < count f → entry_bytes (entry_at f i).kind (entry_at f i).offset (entry_at f i).length ≡ take 12 (drop (4 + 12 * i) f)
    twelve i h =
        let y : 8 + 12 * i ≡ 4 + 12 * i + 4 = omega arith in
        let z : 12 + 12 * i ≡ 4 + 12 * i + 8 = omega arith in
        same3 entry_bytes refl (ap (number_at f) y) (ap (number_at f) z) ∙ three_numbers_lem f (4 + 12 * i) (omega (arith, l.whole)) bytes

    contents_again : (n i : ℕ) → i + n ≡ count f → contents (start_at f i) (sections_from f i n) ≡ take (12 * n) (drop (4 + 12 * i) f)
    unfolding sections_from contents start_at
    contents_again zero i e = refl
    contents_again (suc n) i e =
        let h : i < count f = omega arith in
        let p = 4 + 12 * i in
        let k = (entry_at f i).kind in
        let a = (entry_at f i).offset in
        let m = (entry_at f i).length in
        let b = (in_place i h).begins in
        let y : 4 + 12 * suc i ≡ p + 12 = omega arith in
        let z : 12 + 12 * n ≡ 12 * suc n = omega arith in
        ap (λ (x : ℕ). entry_bytes k (start_at f i) x ++ contents (start_at f i + x) (sections_from f (suc i) n)) (body_length i h)
        ∙ ap (λ (x : ℕ). entry_bytes k x m ++ contents (x + m) (sections_from f (suc i) n)) (sym b)
        ∙ ap (λ (x : List ℕ). entry_bytes k a m ++ x) (contents_again n (suc i) (omega arith))
        ∙ ap (λ (x : List ℕ). x ++ take (12 * n) (drop (4 + 12 * suc i) f)) (twelve i h)
        ∙ ap (λ (x : ℕ). take 12 (drop p f) ++ take (12 * n) (drop x f)) y
        ∙ ap (λ (x : List ℕ). take 12 (drop p f) ++ take (12 * n) x) (sym (drop-drop 12 p f))
        ∙ sym (take-add 12 (12 * n) (drop p f))
        ∙ ap (λ (x : ℕ). take x (drop p f)) z

    -- LAY OUT WHAT WAS READ
    pub file_again : file_of (sections_of f) ≡ f
    unfolding file_of sections_of start_at
    file_again =
        let n = count f in
        let ss = sections_from f 0 n in
        let m = 12 * n in
        ap (λ (x : ℕ). bytes_of x ++ contents (4 + 12 * x) ss ++ bodies ss) (sections_length f 0 n)
        ∙ ap (λ (x : List ℕ). bytes_of n ++ x ++ bodies ss) (contents_again n 0 (omega arith))
        ∙ ap (λ (x : List ℕ). bytes_of n ++ take m (drop 4 f) ++ x) (bodies_again n 0 (omega arith) ∙ sym (drop-drop m 4 f))
        ∙ ap (λ (x : List ℕ). x ++ take m (drop 4 f) ++ drop m (drop 4 f)) (four f 0 (omega (arith, l.whole)) bytes)
        ∙ append_assoc (take 4 f) (take m (drop 4 f)) (drop m (drop 4 f))
        ∙ ap (λ (x : List ℕ). take 4 f ++ x) (take-append-drop m (drop 4 f))
        ∙ take-append-drop 4 f
