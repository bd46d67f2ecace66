-- Bytes put into lent memory piece by piece, and the decimal digits of a number. Assumes nothing.
use Rattle.std.specs.Prelude.{ℕ, zero, suc, ◌+◌, ◌/◌, ◌%◌, ◌≤◌, min, ◌≡◌, Bool, true, false, List, [], ◌∷◌, ◌++◌, length, ltb}
use Rattle.std.proofs.lemmas.List.Edits.{sets}
use Rattle.text.specs.declared.Text.{Text}

-- one step: a digit, or the digits of the rest and then the last
abbrev pub digits_by : Bool → (ℕ → List ℕ) → ℕ → List ℕ
digits_by true rest x = (48 + x) ∷ []
digits_by false rest x = rest (x / 10) ++ ((48 + x % 10) ∷ [])

-- the decimal digits of x in ASCII, the most significant first, for at most f digits
unfoldable pub digits_in : ℕ → ℕ → List ℕ
digits_in zero x = []
digits_in (suc f) x = digits_by (ltb x 10) (digits_in f) x

-- all of them: a number has no more digits than itself and one
unfoldable pub digits_of : ℕ → List ℕ
digits_of x = digits_in (suc x) x

-- the numbers, each after a space
unfoldable pub spaced : List ℕ → List ℕ
spaced [] = []
spaced (x ∷ xs) = 32 ∷ digits_of x ++ spaced xs

-- the largest place that can be counted
abbrev pub last_place : ℕ
last_place = 18446744073709551615

-- Afterwards `b` is `a` with the bytes of t from place i on, as far as `a` reaches, and all else as it was. The place j after them goes on past
-- the end of `a`, so that it tells how much room is needed.
pub record Put (a : List ℕ) (i : ℕ) (t : List ℕ) (b : List ℕ) (j : ℕ) : Type 0 where
  pub bytes : b ≡ sets a i t
  pub next : j ≡ min last_place (i + length t)
  pub room : length a ≤ last_place

-- What a call does once to a text: the same lent bytes, with those of t put at its place, and the place after them.
pub record Puts (old : Text) (t : List ℕ) (new : Text) : Type 0 where
  pub same : new.bytes.ghost_name ≡ old.bytes.ghost_name
  pub put : Put old.bytes.now old.at t new.bytes.now new.at
