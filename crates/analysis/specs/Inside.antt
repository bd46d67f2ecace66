-- What the private functions say of the sound table and of the responses that stand in a local array; the public promise needs none of it.
-- Assumes nothing.
use Rattle.std.specs.Prelude.{◌≡◌, List, [], ◌∷◌, ℕ, ◌≤◌, ◌<◌, length, get_or, Result, Ok, Err}
use Rattle.refusals.specs.declared.Refusal.{Refusal}
use Rattle.equations.specs.Table.{rows}
use Rattle.equations.specs.Hypertask.{response, E}
use Rattle.equations.specs.Guest.{guest}
use Rattle.equations.specs.Answers.{Checked}
use Rattle.analysis.specs.declared.results.Responses.{Responses}

-- the table that passes the checks, or their refusal
abbrev pub passed : List ℕ → Checked → Result (List ℕ) Refusal
passed s (Ok tt) = Ok s
passed s (Err f) = Err f

abbrev pub nothing : Responses
nothing = record { r = 0; e = 0; g = 0 }

-- the responses of row j, as they stand among the rows'
abbrev pub at_row : List Responses → ℕ → Responses
at_row found j = get_or found j nothing

abbrev pub offset_in : List Responses → ℕ → ℕ
offset_in found j = (at_row found j).e

-- E of each row stands there
pub record Offsets (s : List ℕ) (found : List Responses) : Type 0 where
  pub long : rows s ≤ length found
  pub at : (j : ℕ) → j < rows s → offset_in found j ≡ E s j

-- R and E of the first n rows stand there
pub record Hypertasks (s : List ℕ) (found : List Responses) (n : ℕ) : Type 0 where
  pub long : length found ≡ 32
  pub r : (j : ℕ) → j < n → response s j ≡ Ok (at_row found j).r
  pub e : (j : ℕ) → j < n → offset_in found j ≡ E s j

-- G of the first n rows stands there
pub record Guests (s : List ℕ) (found : List Responses) (n : ℕ) : Type 0 where
  pub g : (j : ℕ) → j < n → guest s j ≡ Ok (at_row found j).g

-- R, E and G of row j
abbrev pub three_at : List Responses → ℕ → List ℕ
three_at found j = (at_row found j).r ∷ (at_row found j).e ∷ (at_row found j).g ∷ []
