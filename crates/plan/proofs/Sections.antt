-- A list of sections laid out as a file, and read back: the entries say where the bodies stand, so the list comes back.
-- Holds for any number of sections. Assumes nothing.
use mathlib.Core.Path.{◌≡◌, refl, sym, ap, ◌∙◌}
use mathlib.Core.List.{List, [], ◌∷◌, ◌++◌, append_assoc, append-nil}
use Prim.Native.Nat.{ℕ, zero, suc, ◌+◌, ◌*◌, ◌≤◌, ◌<◌}
use native.Mathlib.Nat.{lt_irrefl}
use native.Mathlib.Omega.{arith}
use lib.ListN.{length, take, drop, length-append, take-append-drop, drop_of_length-le}
use lib.Seq.{take-suc, drop-cons, drop_at, take_at, drop-append-add, drop-append-le}
use Rattle.plan.specs.Numbers.{number_at, bytes_of}
use Rattle.plan.specs.PlanFile.{Section, section, entry_bytes, contents, bodies, file_of, count, entry_at, section_at, sections_from, sections_of}
use Rattle.plan.specs.Meaning.{section_in, Kinds32}
use Rattle.plan.proofs.Digits.{number_front, number_drop, number_at_lem}

pub contents_length : (at : ℕ) (ss : List Section) → length (contents at ss) ≡ 12 * length ss
unfolding contents
contents_length at [] = refl
contents_length at (s ∷ ss) = omega (arith, contents_length (at + length s.body) ss)

pub file_length_lem : (ss : List Section) → length (file_of ss) ≡ 4 + 12 * length ss + length (bodies ss)
unfolding file_of
file_length_lem ss =
    let at = 4 + 12 * length ss in
    length-append (bytes_of (length ss) ++ contents at ss) (bodies ss) ∙ omega (arith, contents_length at ss)

bodies_append : (a b : List Section) → bodies (a ++ b) ≡ bodies a ++ bodies b
unfolding bodies
bodies_append [] b = refl
bodies_append (s ∷ a) b = ap (λ (l : List ℕ). s.body ++ l) (bodies_append a b) ∙ sym (append_assoc s.body (bodies a) (bodies b))

-- the bodies before section i, and from it on
module _ (ss : List Section) (i : ℕ) where
  abbrev pub before : ℕ
  before = length (bodies (take i ss))

  bodies_split : bodies ss ≡ bodies (take i ss) ++ bodies (drop i ss)
  bodies_split = ap bodies (sym (take-append-drop i ss)) ∙ bodies_append (take i ss) (drop i ss)

  pub from_section : i < length ss → drop i ss ≡ section_in ss i ∷ drop (suc i) ss
  from_section h = drop-cons ss i (section 0 []) h

pub before_next : (ss : List Section) (i : ℕ) → i < length ss → before ss (suc i) ≡ before ss i + length (section_in ss i).body
unfolding bodies
before_next ss i h =
    let b = (section_in ss i).body in
    ap (λ (l : List Section). length (bodies l)) (take-suc ss i (section 0 []) h)
    ∙ ap length (bodies_append (take i ss) (section_in ss i ∷ []))
    ∙ length-append (bodies (take i ss)) (b ++ [])
    ∙ ap (λ (x : ℕ). before ss i + x) (ap length (append-nil b))

-- the entries from section i on
contents_drop : (at : ℕ) (ss : List Section) (i : ℕ) → i ≤ length ss → drop (12 * i) (contents at ss) ≡ contents (at + before ss i) (drop i ss)
unfolding contents bodies
contents_drop at ss zero h = let z : at ≡ at + 0 = omega arith in ap (λ (x : ℕ). contents x ss) z
contents_drop at [] (suc i) h = absurd (lt_irrefl 0 (omega arith))
contents_drop at (s ∷ ss) (suc i) h =
    let z : 12 * suc i ≡ 12 + 12 * i = omega arith in
    let n = length s.body in
    let y : at + n + before ss i ≡ at + length (s.body ++ bodies (take i ss)) = omega (arith, length-append s.body (bodies (take i ss))) in
    ap (λ (x : ℕ). drop x (entry_bytes s.kind at n ++ contents (at + n) ss)) z
    ∙ drop-append-add (entry_bytes s.kind at n) (contents (at + n) ss) (12 * i)
    ∙ contents_drop (at + n) ss i (omega arith)
    ∙ ap (λ (x : ℕ). contents x (drop i ss)) y

-- three numbers in a row
module _ (f : List ℕ) (p k a n : ℕ) (rest : List ℕ) (e : drop p f ≡ entry_bytes k a n ++ rest) where
  first_number : k < 4294967296 → number_at f p ≡ k
  first_number h =
      let z : p ≡ p + 0 = omega arith in
      ap (number_at f) z ∙ sym (number_drop f p 0) ∙ ap (λ (l : List ℕ). number_at l 0) e ∙ number_front k (bytes_of a ++ (bytes_of n ++ rest)) h

  second_number : a < 4294967296 → number_at f (p + 4) ≡ a
  second_number h = sym (number_drop f p 4) ∙ ap (λ (l : List ℕ). number_at l 4) e ∙ number_at_lem (bytes_of k) a (bytes_of n ++ rest) 4 refl h

  third_number : n < 4294967296 → number_at f (p + 8) ≡ n
  third_number h = sym (number_drop f p 8) ∙ ap (λ (l : List ℕ). number_at l 8) e ∙ number_at_lem (bytes_of k ++ bytes_of a) n rest 8 refl h

-- a file that is small enough for its numbers
module _ (ss : List Section) (small : length (file_of ss) < 4294967296) where
  abbrev file : List ℕ
  file = file_of ss

  abbrev at : ℕ
  at = 4 + 12 * length ss

  pub count_read : count file ≡ length ss
  unfolding file_of
  count_read = number_front (length ss) (contents at ss ++ bodies ss) (omega (arith, file_length_lem ss, small))

  drop_head : (k : ℕ) → drop (at + k) file ≡ drop k (bodies ss)
  unfolding file_of
  drop_head k =
      let head = bytes_of (length ss) ++ contents at ss in
      let z : at + k ≡ length head + k = omega (arith, contents_length at ss) in
      ap (λ (x : ℕ). drop x (head ++ bodies ss)) z ∙ drop-append-add head (bodies ss) k

  module _ (i : ℕ) (h : i < length ss) where
    abbrev s : Section
    s = section_in ss i

    abbrev pub start : ℕ
    start = at + before ss i

    -- what follows section i's place among the bodies
    bodies_from : drop (before ss i) (bodies ss) ≡ s.body ++ bodies (drop (suc i) ss)
    unfolding bodies
    bodies_from =
        ap (drop (before ss i)) (bodies_split ss i)
        ∙ drop_at (bodies (take i ss)) (bodies (drop i ss)) (before ss i) refl
        ∙ ap bodies (from_section ss i h)

    pub body_read : take (length s.body) (drop start file) ≡ s.body
    body_read =
        ap (take (length s.body)) (drop_head (before ss i) ∙ bodies_from)
        ∙ take_at s.body (bodies (drop (suc i) ss)) (length s.body) refl

    pub body_inside : start + length s.body + length (bodies (drop (suc i) ss)) ≡ length file
    unfolding bodies
    body_inside =
        let rest = bodies (drop (suc i) ss) in
        let e : length (bodies ss) ≡ before ss i + (length s.body + length rest) =
        ap length (bodies_split ss i ∙ ap (λ (l : List Section). bodies (take i ss) ++ bodies l) (from_section ss i h))
        ∙ length-append (bodies (take i ss)) (s.body ++ rest)
        ∙ ap (λ (x : ℕ). before ss i + x) (length-append s.body rest) in
        omega (arith, file_length_lem ss)

    entry_bytes_lem : drop (4 + 12 * i) file
        ≡ entry_bytes s.kind start (length s.body) ++ (contents (start + length s.body) (drop (suc i) ss) ++ bodies ss)
    unfolding file_of contents
    entry_bytes_lem =
        drop-append-le (4 + 12 * i) (bytes_of (length ss) ++ contents at ss) (bodies ss) (omega (arith, contents_length at ss))
        ∙ ap (λ (l : List ℕ). l ++ bodies ss)
        (drop-append-add (bytes_of (length ss)) (contents at ss) (12 * i) ∙ contents_drop at ss i (omega arith) ∙ ap (contents start) (from_section ss i h))

    abbrev rest : List ℕ
    rest = contents (start + length s.body) (drop (suc i) ss) ++ bodies ss

    pub kind_read : s.kind < 4294967296 → (entry_at file i).kind ≡ s.kind
    kind_read k = first_number file (4 + 12 * i) s.kind start (length s.body) rest entry_bytes_lem k

    pub offset_read : (entry_at file i).offset ≡ start
    offset_read =
        let z : 8 + 12 * i ≡ 4 + 12 * i + 4 = omega arith in
        ap (number_at file) z ∙ second_number file (4 + 12 * i) s.kind start (length s.body) rest entry_bytes_lem (omega (arith, body_inside))

    pub length_read : (entry_at file i).length ≡ length s.body
    length_read =
        let z : 12 + 12 * i ≡ 4 + 12 * i + 8 = omega arith in
        ap (number_at file) z ∙ third_number file (4 + 12 * i) s.kind start (length s.body) rest entry_bytes_lem (omega (arith, body_inside))

    pub section_read : s.kind < 4294967296 → section_at file i ≡ s
    section_read k =
        ap (λ (x : ℕ). section x (take (entry_at file i).length (drop (entry_at file i).offset file))) (kind_read k)
        ∙ ap (λ (x : ℕ). section s.kind (take x (drop (entry_at file i).offset file))) length_read
        ∙ ap (λ (x : ℕ). section s.kind (take (length s.body) (drop x file))) offset_read
        ∙ ap (section s.kind) body_read

-- sections that are those of a list are the list
sections_same : (f : List ℕ) (ss : List Section) → ((j : ℕ) → j < length ss → section_at f j ≡ section_in ss j)
    → (n i : ℕ) → i + n ≡ length ss → sections_from f i n ≡ drop i ss
unfolding sections_from
sections_same f ss same zero i e = let h : length ss ≤ i = omega arith in sym (drop_of_length-le ss h)
sections_same f ss same (suc n) i e =
    ap (λ (x : Section). x ∷ sections_from f (suc i) n) (same i (omega arith))
    ∙ ap (λ (l : List Section). section_in ss i ∷ l) (sections_same f ss same n (suc i) (omega arith))
    ∙ sym (from_section ss i (omega arith))

-- READ WHAT WAS LAID OUT
pub sections_read : (ss : List Section) → Kinds32 ss → length (file_of ss) < 4294967296 → sections_of (file_of ss) ≡ ss
unfolding sections_of
sections_read ss k small =
    ap (sections_from (file_of ss) 0) (count_read ss small)
    ∙ sections_same (file_of ss) ss (λ j h. section_read ss small j h (k j h)) (length ss) 0 (omega arith)
