-- Document 01's example: the plan of P2 with eight records, the first with mask 1 and all else zero, and the text that it prints.
-- Assumes nothing.
use Rattle.std.specs.Prelude.{List, [], ◌∷◌, ◌++◌, ℕ}

-- two sections: rows at 28, 16 bytes long; a script at 44, 64 bytes long
abbrev pub example_contents : List ℕ
example_contents =
    2 ∷ 0 ∷ 0 ∷ 0 ∷ 1 ∷ 0 ∷ 0 ∷ 0 ∷ 28 ∷ 0 ∷ 0 ∷ 0 ∷ 16 ∷ 0 ∷ 0 ∷ 0 ∷ 2 ∷ 0 ∷ 0 ∷ 0 ∷ 44 ∷ 0 ∷
    0 ∷ 0 ∷ 64 ∷ 0 ∷ 0 ∷ 0 ∷ []

-- 10 8 3 2
abbrev pub example_rows : List ℕ
example_rows =
    10 ∷ 0 ∷ 0 ∷ 0 ∷ 8 ∷ 0 ∷ 0 ∷ 0 ∷ 3 ∷ 0 ∷ 0 ∷ 0 ∷ 2 ∷ 0 ∷ 0 ∷ 0 ∷ []

-- eight records
abbrev pub example_script : List ℕ
example_script =
    1 ∷ 0 ∷ 0 ∷ 0 ∷ 0 ∷ 0 ∷ 0 ∷ 0 ∷ 0 ∷ 0 ∷ 0 ∷ 0 ∷ 0 ∷ 0 ∷ 0 ∷ 0 ∷ 0 ∷ 0 ∷ 0 ∷ 0 ∷ 0 ∷ 0 ∷
    0 ∷ 0 ∷ 0 ∷ 0 ∷ 0 ∷ 0 ∷ 0 ∷ 0 ∷ 0 ∷ 0 ∷ 0 ∷ 0 ∷ 0 ∷ 0 ∷
    0 ∷ 0 ∷ 0 ∷ 0 ∷ 0 ∷ 0 ∷ 0 ∷ 0 ∷ 0 ∷ 0 ∷ 0 ∷ 0 ∷ 0 ∷ 0 ∷ 0 ∷ 0 ∷ 0 ∷ 0 ∷ 0 ∷ 0 ∷ 0 ∷ 0 ∷
    0 ∷ 0 ∷ 0 ∷ 0 ∷ 0 ∷ 0 ∷ []

abbrev pub example_file : List ℕ
example_file = example_contents ++ example_rows ++ example_script

-- the text, a line of it each
abbrev pub example_text : List ℕ
example_text =
    -- ACCEPT 1
    65 ∷ 67 ∷ 67 ∷ 69 ∷ 80 ∷ 84 ∷ 32 ∷ 49 ∷ 10 ∷
    -- 1 10 8 3 2 2 6 3
    49 ∷ 32 ∷ 49 ∷ 48 ∷ 32 ∷ 56 ∷ 32 ∷ 51 ∷ 32 ∷ 50 ∷ 32 ∷ 50 ∷ 32 ∷ 54 ∷ 32 ∷ 51 ∷ 10 ∷
    -- 0 G1 - 0
    48 ∷ 32 ∷ 71 ∷ 49 ∷ 32 ∷ 45 ∷ 32 ∷ 48 ∷ 10 ∷
    -- 1 G1 - 0
    49 ∷ 32 ∷ 71 ∷ 49 ∷ 32 ∷ 45 ∷ 32 ∷ 48 ∷ 10 ∷
    -- 2 G1 S 0
    50 ∷ 32 ∷ 71 ∷ 49 ∷ 32 ∷ 83 ∷ 32 ∷ 48 ∷ 10 ∷
    -- 3 I - 0
    51 ∷ 32 ∷ 73 ∷ 32 ∷ 45 ∷ 32 ∷ 48 ∷ 10 ∷
    -- 4 I - 0
    52 ∷ 32 ∷ 73 ∷ 32 ∷ 45 ∷ 32 ∷ 48 ∷ 10 ∷
    -- 5 I - 0
    53 ∷ 32 ∷ 73 ∷ 32 ∷ 45 ∷ 32 ∷ 48 ∷ 10 ∷
    -- 6 H1 - 0
    54 ∷ 32 ∷ 72 ∷ 49 ∷ 32 ∷ 45 ∷ 32 ∷ 48 ∷ 10 ∷
    -- 7 H1 O 0
    55 ∷ 32 ∷ 72 ∷ 49 ∷ 32 ∷ 79 ∷ 32 ∷ 48 ∷ 10 ∷
    -- TASK 1 1 0 1 0
    84 ∷ 65 ∷ 83 ∷ 75 ∷ 32 ∷ 49 ∷ 32 ∷ 49 ∷ 32 ∷ 48 ∷ 32 ∷ 49 ∷ 32 ∷ 48 ∷ 10 ∷ []
